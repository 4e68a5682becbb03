use Rattle.cert_check.proofs.KernelMembers.{members_more, members_all}
use Rattle.cert_check.proofs.kernels.members.Goals as goal

pub loop-i-preserved : goal.loop-i-preserved
loop-i-preserved c =
    members_more c.args.lines.now c.loop-i.members.items c.push.new.self.items c.loop-i.i c.index-lines-i.result c.in_ok-u.u c.is_some-is_fixed.result c.loop-i-test.true c.index-lines-i.is
    c.in_ok-u.ensures.same c.is_some-is_fixed.ensures c.in_ok-push.ensures.items c.loop-i.invariant

pub returns : goal.returns
returns c = record { are = members_all c.args.lines.now c.loop-i.members.items c.loop-i.i c.loop-i-test.false c.loop-i.invariant }
