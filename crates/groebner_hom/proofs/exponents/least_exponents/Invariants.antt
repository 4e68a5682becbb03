use Rattle.alg_core.specs.Spaces.{over}
use Rattle.poly_module.specs.SpaceVectors.{vectors_of}
use Rattle.groebner_hom.proofs.ExponentSteps.{AreFirst}
use Rattle.groebner_hom.proofs.exponents.least_exponents.Given as goal

abbrev pub invariant-loop-i : goal.invariant-loop-i
invariant-loop-i g l = let S = over g.F.Field.field g.O.TermOrder.order l.space in AreFirst S.field (vectors_of S (λ m. m) l.theta) l.i l.exponents.items
