use Rattle.alg_core.specs.Spaces.{over}
use Rattle.poly_module.specs.SpaceVectors.{AreVectors}
use Rattle.algebra_tests.proofs.forms.polynomials.Given as goal

abbrev pub invariant-loop-list : goal.invariant-loop-list
invariant-loop-list g l = AreVectors (over g.F.Field.field g.O.TermOrder.order l.space) (λ m. m) l.made.items
