use Rattle.std.proofs.Common.{arith}
use Rattle.inv_outside.proofs.Told.{Took-take}
use Rattle.inv_outside.proofs.whole.write_all.Goals as goal

pub loop-at-preserved : goal.loop-at-preserved
loop-at-preserved g c = record {
  within = omega (arith, c.in_ok-at.ensures.within);
  took = Took-take _ _ _ c.args.bytes.now c.loop-at.at c.in_ok-at.field-0 c.loop-at.invariant.took c.in_ok-at.ensures.took;
  later = omega arith;
}
