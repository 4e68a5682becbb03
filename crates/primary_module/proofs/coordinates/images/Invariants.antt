use Rattle.std.proofs.Common.{◌++◌, take}
use Rattle.poly_module.specs.Variables.{variables}
use Rattle.poly_module.specs.SpaceVectors.{vectors_of}
use Rattle.finite_certificate.specs.MarkSpaces.{mark_space}
use Rattle.finite_certificate.proofs.ImageSteps.{AreImages}
use Rattle.primary_module.proofs.coordinates.images.Given as goal

abbrev pub invariant-loop-i : goal.invariant-loop-i
invariant-loop-i g l = let S = mark_space g.F.Field.field l.space in AreImages S l.images.items (variables S.field l.i)

abbrev pub invariant-loop-i-2 : goal.invariant-loop-i-2
invariant-loop-i-2 g l = let S = mark_space g.F.Field.field l.space in
    AreImages S l.images.items (variables S.field l.space.order.vars ++ vectors_of S (λ m. m) (take l.i l.theta))
