use Rattle.std.proofs.Common.{refl}
use Rattle.poly_text.proofs.OutputLaws.{says_same}
use Rattle.certificate_io.specs.Texts.{member_line}
use Rattle.certificate_io.proofs.LineLaws.{ended_step}
use Rattle.certificate_io.proofs.lines.put_member_lines.Goals as goal

pub loop-i-preserved : goal.loop-i-preserved
loop-i-preserved c = λ w says.
    says_same _ _ _ _ refl (ended_step (member_line c.args.p c.args.names.now c.args.primaries c.args.count) c.args.members.now c.loop-i.i c.index-members-i.result w c.loop-i-test.true c.index-members-i.is) (c.put_member_line.ensures.is _ (c.loop-i.invariant w says))
