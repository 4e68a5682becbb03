use Rattle.std.proofs.Common.{take}
use Rattle.std.specs.Prelude.{All}
use Rattle.alg_core.specs.Spaces.{over}
use Rattle.poly_module.specs.SpaceVectors.{vector_of, vectors_of}
use Rattle.finite_certificate.specs.Ideals.{InIdeal}
use Rattle.groebner_hom.proofs.nonzerodivisor.are_members.Given as goal

abbrev pub invariant-loop-i : goal.invariant-loop-i
invariant-loop-i g l =
    let S = over g.F.Field.field g.O.TermOrder.order l.space in
    All (λ p. InIdeal S.field (vectors_of S (λ m. m) l.basis) (vector_of S (λ m. m) p)) (take l.i l.list)
