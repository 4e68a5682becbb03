use Rattle.alg_core.specs.Spaces.{over}
use Rattle.irreducible_gens.proofs.UnitSteps.{joined_positive}
use Rattle.irreducible_gens.proofs.algebra.all_generators.Goals as goal

pub returns-clause-positive : goal.returns-clause-positive
returns-clause-positive g c =
    joined_positive (over g.F.Field.field g.O.TermOrder.order c.args._space.now) c.args.front.now c.args.back.now c.in_ok-joined.joined.items c.in_ok-joined.ensures.copies c.requires.front c.requires.back
