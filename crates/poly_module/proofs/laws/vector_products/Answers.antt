use Rattle.poly_module.specs.Products.{product_comm, product_assoc, product_one, product_plus, product_scale, product_single, shift_product, ring_product}
use Rattle.poly_module.proofs.SpaceVectorLaws.{minus_plus}
use Rattle.poly_module.proofs.laws.vector_products.Goals as goal

pub returns-clause-comm : goal.returns-clause-comm
returns-clause-comm g c = product_comm (g.F.Field.field c.args._field.now)

pub returns-clause-assoc : goal.returns-clause-assoc
returns-clause-assoc g c = product_assoc (g.F.Field.field c.args._field.now)

pub returns-clause-one : goal.returns-clause-one
returns-clause-one g c = product_one (g.F.Field.field c.args._field.now)

pub returns-clause-sum : goal.returns-clause-sum
returns-clause-sum g c = product_plus (g.F.Field.field c.args._field.now)

pub returns-clause-multiple : goal.returns-clause-multiple
returns-clause-multiple g c = product_scale (g.F.Field.field c.args._field.now)

pub returns-clause-single : goal.returns-clause-single
returns-clause-single g c = product_single (g.F.Field.field c.args._field.now)

pub returns-clause-monomial : goal.returns-clause-monomial
returns-clause-monomial g c = shift_product (g.F.Field.field c.args._field.now)

pub returns-clause-ring : goal.returns-clause-ring
returns-clause-ring g c = ring_product (g.F.Field.field c.args._field.now)

pub returns-clause-difference : goal.returns-clause-difference
returns-clause-difference g c = minus_plus (g.F.Field.field c.args._field.now)
