use Rattle.alg_core.proofs.MonomialParts.{parts, variable_part_same, mark_part_none, variable_part_as_marks, mark_part_as_marks, variable_part_mul, mark_part_mul, as_marks_mul, weight_parts, weight_as_marks}
use Rattle.alg_core.proofs.laws.monomial_parts.Goals as goal

pub returns-clause-whole : goal.returns-clause-whole
returns-clause-whole c = parts

pub returns-clause-variables : goal.returns-clause-variables
returns-clause-variables c = λ n m h. (variable_part_same n m h, mark_part_none n m h)

pub returns-clause-marks : goal.returns-clause-marks
returns-clause-marks c = λ n m. (variable_part_as_marks n m, mark_part_as_marks n m)

pub returns-clause-variables_product : goal.returns-clause-variables_product
returns-clause-variables_product c = variable_part_mul

pub returns-clause-marks_product : goal.returns-clause-marks_product
returns-clause-marks_product c = mark_part_mul

pub returns-clause-product : goal.returns-clause-product
returns-clause-product c = as_marks_mul

pub returns-clause-degree : goal.returns-clause-degree
returns-clause-degree c = weight_parts

pub returns-clause-marks_degree : goal.returns-clause-marks_degree
returns-clause-marks_degree c = weight_as_marks
