use Rattle.alg_core.specs.Spaces.{over}
use Rattle.secondary_gens.specs.Combined.{IsCombined}
use Rattle.secondary_gens.proofs.CombinedSteps.{each_more}
use Rattle.secondary_gens.proofs.combinations.combine_all.Goals as goal

pub loop-i-preserved : goal.loop-i-preserved
loop-i-preserved g c =
    let S = over g.F.Field.field g.O.TermOrder.order c.args.space.now in
    record {
      levels = c.in_ok-one.ensures.levels;
      solved = c.in_ok-one.ensures.solved;
      each = each_more (IsCombined S c.args.theta.now c.args.secs.now) c.args.fs.now c.loop-i.i c.index-fs-i.result c.loop-i.combinations.items c.push.new.self.items c.in_ok-one.one
          c.loop-i-test.true c.index-fs-i.is c.in_ok-push.ensures.items c.in_ok-one.ensures.combined c.loop-i.invariant.each;
    }
