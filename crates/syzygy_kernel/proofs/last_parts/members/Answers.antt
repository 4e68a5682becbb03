use Rattle.finite_certificate.specs.MarkSpaces.{mark_space}
use Rattle.syzygy_kernel.proofs.MemberLists.{members_more}
use Rattle.syzygy_kernel.proofs.last_parts.members.Goals as goal

pub loop-i-preserved : goal.loop-i-preserved
loop-i-preserved g c =
    members_more (mark_space g.F.Field.field c.args.space.now) c.args.space.now.order.vars c.args.space.now.order.weights.items c.args.gens.now c.args.monomials.now
    c.args.basis.now c.loop-i.members.items c.push.new.self.items c.loop-i.i c.index-basis-i.result _ c.args.first c.loop-i-test.true c.index-basis-i.is
    c.in_ok-push.ensures.items c.requires.vectors c.requires.first c.in_ok-u.ensures.polynomial c.is_last-is_fixed.ensures.exact c.loop-i.invariant
