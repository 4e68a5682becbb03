use Rattle.std.proofs.Common.{arith}
use Rattle.secondary_gens.proofs.CombinedSteps.{each_none, each_more, each_all}
use Rattle.irreducible_gens.specs.Words.{IsVectorOf}
use Rattle.irreducible_gens.proofs.printing.vectors.Goals as goal

pub loop-i-init : goal.loop-i-init
loop-i-init g c = each_none IsVectorOf c.args.combinations.now c.new-vectors.result.items c.new-vectors.ensures.items

pub loop-i-preserved : goal.loop-i-preserved
loop-i-preserved g c =
    each_more IsVectorOf c.args.combinations.now c.loop-i.i c.index-combinations-i.result c.loop-i.vectors.items c.push.new.self.items c.in_ok-one.one c.loop-i-test.true c.index-combinations-i.is c.in_ok-push.ensures.items
    c.in_ok-one.ensures.copy c.loop-i.invariant

pub returns : goal.returns
returns g c = record { copies = each_all IsVectorOf c.args.combinations.now c.loop-i.i c.loop-i.vectors.items (omega (arith, c.loop-i-test.false)) c.loop-i.invariant }
