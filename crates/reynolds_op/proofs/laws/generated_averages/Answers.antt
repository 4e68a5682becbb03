use Rattle.reynolds_op.proofs.AverageLaws.{generated_invariant, generated_fixed, generated_over, average_unique}
use Rattle.reynolds_op.proofs.laws.generated_averages.Goals as goal

pub returns : goal.returns
returns g c =
    let k = g.F.Field.field c.args._field.now in
    record {
      invariant = generated_invariant k;
      fixed = generated_fixed k;
      over = generated_over k;
      unique = average_unique k;
    }
