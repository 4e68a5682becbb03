use Rattle.alg_core.specs.DpOrder.{dp_order}
use Rattle.alg_core.specs.Spaces.{over}
use Rattle.secondary_gens.proofs.CombinationSteps.{combination_made}
use Rattle.secondary_gens.proofs.combination.combination_of.Goals as goal

pub returns-clause-is : goal.returns-clause-is
returns-clause-is g c =
    combination_made (over g.F.Field.field (λ o. dp_order o.weights.items) c.args.marks.now) c.args.at.now c.in_ok-at.at c.one.result c.args.factor c.in_ok-taken.taken c.in_ok-term.term c.in_ok-left.left c.in_ok-combination.combination _
    c.one.ensures.is c.in_ok-at.ensures.is c.in_ok-term.ensures.sum c.in_ok-taken.ensures.sum c.in_ok-left.ensures.difference c.in_ok-combination.ensures.multiple
