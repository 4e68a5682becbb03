use Rattle.std.proofs.Common.{take}
use Rattle.alg_core.specs.EliminationOrder.{elimination_order}
use Rattle.alg_core.specs.Spaces.{over}
use Rattle.groebner_hom.proofs.ColonGenerators.{AreGenerators}
use Rattle.groebner_hom.proofs.colon.colon_generators.Given as goal

abbrev pub invariant-loop-i : goal.invariant-loop-i
invariant-loop-i g l = let T = over g.F.Field.field (λ o. elimination_order o.first o.weights.items) l.pairs in AreGenerators T l.f (take l.i l.theta) l.generators.items
