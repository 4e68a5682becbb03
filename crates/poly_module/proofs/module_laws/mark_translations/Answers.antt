use Rattle.poly_module.proofs.Marks.{in_marks_linear, in_marks_single, in_marks_product, mark_value_in_marks, in_marks_graded, in_marks_polynomial, in_marks_variables, from_marks_in_marks, single_parts}
use Rattle.poly_module.proofs.module_laws.mark_translations.Goals as goal

pub returns-clause-linear : goal.returns-clause-linear
returns-clause-linear g c = in_marks_linear (g.F.Field.field c.args._field.now)

pub returns-clause-single : goal.returns-clause-single
returns-clause-single g c = in_marks_single (g.F.Field.field c.args._field.now)

pub returns-clause-product : goal.returns-clause-product
returns-clause-product g c = in_marks_product (g.F.Field.field c.args._field.now)

pub returns-clause-value : goal.returns-clause-value
returns-clause-value g c = mark_value_in_marks (g.F.Field.field c.args._field.now)

pub returns-clause-degree : goal.returns-clause-degree
returns-clause-degree g c = in_marks_graded (g.F.Field.field c.args._field.now)

pub returns-clause-polynomial : goal.returns-clause-polynomial
returns-clause-polynomial g c = λ n r u p v. let k = g.F.Field.field c.args._field.now in record { polynomial = in_marks_polynomial k n u p; variables = in_marks_variables k n r u v }

pub returns-clause-back : goal.returns-clause-back
returns-clause-back g c = from_marks_in_marks (g.F.Field.field c.args._field.now)

pub returns-clause-parts : goal.returns-clause-parts
returns-clause-parts g c = single_parts (g.F.Field.field c.args._field.now)
