use Rattle.alg_core.specs.Spaces.{over}
use Rattle.cert_check.proofs.WordItems.{member_form}
use Rattle.cert_check.proofs.words.is_positive_member.Goals as goal

pub degree-requires : goal.degree-requires
degree-requires g c =
    let S = over g.F.Field.field g.O.TermOrder.order c.args.space.now in
    record { form = member_form S c.args.f.now c.args.forms.now c.requires.forms (c.is_among.ensures.exact.0 c.if-not-is_among.false) }
