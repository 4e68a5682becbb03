use Rattle.std.proofs.Common.{◌≤◌, take}
use Rattle.std.specs.Prelude.{All}
use Rattle.poly_module.specs.SpaceVectors.{IsUpTo, vector_of}
use Rattle.finite_certificate.specs.MarkSpaces.{mark_space, degree_limit}
use Rattle.syzygy_kernel.proofs.list_test.greatest_degree.Given as goal

abbrev pub invariant-loop-i : goal.invariant-loop-i
invariant-loop-i g l =
    let S = mark_space g.F.Field.field l.space in
    record { low : l.most ≤ degree_limit; bound : All (λ m. IsUpTo S l.most (vector_of S (λ a. a) m.u)) (take l.i l.list) }
