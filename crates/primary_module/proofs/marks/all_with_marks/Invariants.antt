use Rattle.std.proofs.Common.{◌≡◌, take}
use Rattle.finite_certificate.specs.MarkSpaces.{mark_space}
use Rattle.poly_module.specs.SpaceVectors.{ArePolys, vectors_of}
use Rattle.primary_module.proofs.marks.all_with_marks.Given as goal

abbrev pub invariant-loop-i : goal.invariant-loop-i
invariant-loop-i g l =
    let S = mark_space g.F.Field.field l.space in
    ArePolys S (λ m. m) l.made.items × (vectors_of S (λ m. m) l.made.items ≡ vectors_of S (λ m. m) (take l.i l.fs))
