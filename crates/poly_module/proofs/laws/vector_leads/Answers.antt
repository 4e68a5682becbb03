use Rattle.alg_core.specs.Spaces.{over}
use Rattle.alg_core.specs.SpaceOrder.{key_order}
use Rattle.poly_module.proofs.LeadLaws.{lead_shift, lead_multiple, lead_plus, lead_cancels}
use Rattle.poly_module.proofs.laws.vector_leads.Goals as goal

pub returns-clause-multiple : goal.returns-clause-multiple
returns-clause-multiple g c = lead_shift (over g.F.Field.field g.O.TermOrder.order c.args._space.now)

pub returns-clause-product : goal.returns-clause-product
returns-clause-product g c = lead_multiple (over g.F.Field.field g.O.TermOrder.order c.args._space.now)

pub returns-clause-sum : goal.returns-clause-sum
returns-clause-sum g c = let S = over g.F.Field.field g.O.TermOrder.order c.args._space.now in lead_plus S.field (key_order S)

pub returns-clause-cancelled : goal.returns-clause-cancelled
returns-clause-cancelled g c = let S = over g.F.Field.field g.O.TermOrder.order c.args._space.now in lead_cancels S.field (key_order S)
