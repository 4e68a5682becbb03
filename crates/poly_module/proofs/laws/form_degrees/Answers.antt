use Rattle.poly_module.specs.Forms.{form_product, form_substitute}
use Rattle.poly_module.proofs.laws.form_degrees.Goals as goal

pub returns-clause-product : goal.returns-clause-product
returns-clause-product g c = form_product (g.F.Field.field c.args._field.now)

pub returns-clause-value : goal.returns-clause-value
returns-clause-value g c = form_substitute (g.F.Field.field c.args._field.now)
