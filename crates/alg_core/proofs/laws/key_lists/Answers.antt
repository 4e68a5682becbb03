use Rattle.alg_core.specs.Spaces.{over}
use Rattle.alg_core.specs.SpaceOrder.{key_order}
use Rattle.alg_core.proofs.Members.{filter_shorter}
use Rattle.alg_core.proofs.KeyLists.{places_up_to_exact, keys_up_to_exact, keys_of_degree_exact, falls_keys_up_to, falls_keys_of_degree, falls_after}
use Rattle.alg_core.proofs.MonomialCounts.{length_keys_of_degree}
use Rattle.alg_core.proofs.laws.key_lists.Goals as goal

pub returns-clause-up_to : goal.returns-clause-up_to
returns-clause-up_to g c = keys_up_to_exact (over g.F.Field.field g.O.TermOrder.order c.args._space.now)

pub returns-clause-of_degree : goal.returns-clause-of_degree
returns-clause-of_degree g c = keys_of_degree_exact (over g.F.Field.field g.O.TermOrder.order c.args._space.now)

pub returns-clause-up_to_falls : goal.returns-clause-up_to_falls
returns-clause-up_to_falls g c = falls_keys_up_to (over g.F.Field.field g.O.TermOrder.order c.args._space.now)

pub returns-clause-of_degree_falls : goal.returns-clause-of_degree_falls
returns-clause-of_degree_falls g c = falls_keys_of_degree (over g.F.Field.field g.O.TermOrder.order c.args._space.now)

pub returns-clause-after : goal.returns-clause-after
returns-clause-after g c = λ s t front back. falls_after (key_order (over g.F.Field.field g.O.TermOrder.order c.args._space.now)) t s front back

pub returns-clause-fewer : goal.returns-clause-fewer
returns-clause-fewer g c = λ f h l t. filter_shorter f h l t

pub returns-clause-count : goal.returns-clause-count
returns-clause-count g c = λ ones one fits some d. length_keys_of_degree (over g.F.Field.field g.O.TermOrder.order c.args._space.now) d ones one fits some

pub returns-clause-places : goal.returns-clause-places
returns-clause-places g c = λ ws ss d. places_up_to_exact ws ss d
