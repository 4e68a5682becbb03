use Rattle.alg_core.specs.DpOrder.{dp_order}
use Rattle.alg_core.specs.SpaceOrder.{key_compare, key_total, key_tied}
use Rattle.alg_core.specs.KeyOrders.{OrderOn}
use Rattle.alg_core.specs.Keys.{Key}
use Rattle.std.proofs.Common.{[]}
use Rattle.poly_module.proofs.RelationIdeals.{less_value, relations_exact}
use Rattle.poly_module.proofs.module_laws.relation_ideals.Goals as goal

-- any order of the keys
some_order : OrderOn Key
some_order = record { compare = key_compare 0 (dp_order []); total = key_total 0 (dp_order []); tied = key_tied 0 (dp_order []) }

pub returns-clause-difference : goal.returns-clause-difference
returns-clause-difference g c = λ n θ given u h. less_value (g.F.Field.field c.args._field.now) n θ given some_order u h

pub returns-clause-exact : goal.returns-clause-exact
returns-clause-exact g c = λ n θ given u. relations_exact (g.F.Field.field c.args._field.now) n θ given some_order u
