use Rattle.reynolds_op.proofs.Common.{◌≡◌, Has, ones}
use Rattle.reynolds_op.proofs.reynolds.sum_of_ones.Given as goal

abbrev pub invariant-loop : goal.invariant-loop
invariant-loop g l =
    let k = g.F.Field.field l.field in
    record {
      is : l.sum ≡ ones k l.counter;
      has : Has k l.sum;
    }
