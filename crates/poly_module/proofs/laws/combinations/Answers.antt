use Rattle.poly_module.proofs.CombinationLaws.{combination_value_single, combination_value_plus, combination_value_product, combination_value_form, over_subspace, over_product, over_within, over_part}
use Rattle.poly_module.proofs.laws.combinations.Goals as goal

pub returns-clause-term : goal.returns-clause-term
returns-clause-term g c = combination_value_single (g.F.Field.field c.args._field.now)

pub returns-clause-sum : goal.returns-clause-sum
returns-clause-sum g c = combination_value_plus (g.F.Field.field c.args._field.now)

pub returns-clause-product : goal.returns-clause-product
returns-clause-product g c = combination_value_product (g.F.Field.field c.args._field.now)

pub returns-clause-degree : goal.returns-clause-degree
returns-clause-degree g c = combination_value_form (g.F.Field.field c.args._field.now)

pub returns-clause-subspace : goal.returns-clause-subspace
returns-clause-subspace g c = over_subspace (g.F.Field.field c.args._field.now)

pub returns-clause-multiple : goal.returns-clause-multiple
returns-clause-multiple g c = over_product (g.F.Field.field c.args._field.now)

pub returns-clause-within : goal.returns-clause-within
returns-clause-within g c = over_within (g.F.Field.field c.args._field.now)

pub returns-clause-part : goal.returns-clause-part
returns-clause-part g c = over_part (g.F.Field.field c.args._field.now)
