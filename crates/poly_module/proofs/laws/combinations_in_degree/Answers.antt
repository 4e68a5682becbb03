use Rattle.alg_core.specs.Spaces.{over}
use Rattle.alg_core.specs.SpaceOrder.{key_order}
use Rattle.poly_module.proofs.OverSpans.{over_span, span_over}
use Rattle.poly_module.proofs.laws.combinations_in_degree.Goals as goal

pub returns-clause-span : goal.returns-clause-span
returns-clause-span g c = let S = over g.F.Field.field g.O.TermOrder.order c.args._space.now in over_span S.field (key_order S)

pub returns-clause-over : goal.returns-clause-over
returns-clause-over g c = let S = over g.F.Field.field g.O.TermOrder.order c.args._space.now in span_over S.field (key_order S)
