use Rattle.reynolds_op.proofs.Common.{cells_of}
use Rattle.reynolds_op.proofs.AverageLaws.{reynolds_invariant, reynolds_fixed, reynolds_over, average_plus, average_scale, average_polynomial, average_in_variables, average_form, reynolds_order}
use Rattle.reynolds_op.proofs.laws.averages.Goals as goal

pub returns : goal.returns
returns g c =
    let k = g.F.Field.field c.args._field.now in
    record {
      invariant = reynolds_invariant k;
      fixed = reynolds_fixed k;
      over = reynolds_over k;
      sum = λ n R. average_plus k n R.factor (cells_of R.elements);
      multiple = λ n R. average_scale k n R.factor (cells_of R.elements);
      polynomial = λ n R. average_polynomial k n R.factor (cells_of R.elements);
      variables = λ n R. average_in_variables k n R.factor (cells_of R.elements);
      form = λ n R. average_form k n R.factor (cells_of R.elements);
      order = reynolds_order k;
    }
