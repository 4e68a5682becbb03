use Rattle.alg_core.specs.Spaces.{over}
use Rattle.alg_core.specs.SpaceGrading.{rank_less}
use Rattle.alg_core.proofs.laws.finite_degrees.Goals as goal

pub returns : goal.returns
returns g c = record { rises = rank_less (over g.F.Field.field g.O.TermOrder.order c.args._space.now) }
