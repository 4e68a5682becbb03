use Rattle.cert_check.proofs.CheckedRank.{copies_more}
use Rattle.cert_check.proofs.rank.copies.Goals as goal

pub loop-i-preserved : goal.loop-i-preserved
loop-i-preserved g c =
    copies_more c.args.fs.now c.loop-i.made.items c.push.new.self.items c.loop-i.i c.index-fs-i.result c.in_ok-copy.field-0 c.loop-i-test.true c.index-fs-i.is
    c.in_ok-copy.ensures.same c.in_ok-push.ensures.items c.loop-i.invariant
