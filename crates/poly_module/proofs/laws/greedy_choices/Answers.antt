use Rattle.alg_core.specs.Fields.{is_field}
use Rattle.alg_core.specs.Vectors.{vectors}
use Rattle.alg_core.specs.Spaces.{over}
use Rattle.alg_core.specs.SpaceOrder.{key_order}
use Rattle.poly_module.proofs.Elimination.{span_decidable}
use Rattle.poly_module.proofs.Greedy.{greedy_exists, greedy_unique}
use Rattle.poly_module.proofs.laws.greedy_choices.Goals as goal

pub returns-clause-exists : goal.returns-clause-exists
returns-clause-exists g c = let S = over g.F.Field.field g.O.TermOrder.order c.args._space.now in greedy_exists (is_field S.field) (vectors S.field) (span_decidable S.field (key_order S))

pub returns-clause-unique : goal.returns-clause-unique
returns-clause-unique g c = let S = over g.F.Field.field g.O.TermOrder.order c.args._space.now in greedy_unique (is_field S.field) (vectors S.field) (span_decidable S.field (key_order S))
