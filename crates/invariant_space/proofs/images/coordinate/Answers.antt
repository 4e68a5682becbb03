use Rattle.invariant_space.proofs.Common.{◌<◌, ◌∙◌, ap, length, subst, sym, IfSome, scalar, scalar_zero, IsQuotient}
use Rattle.invariant_space.proofs.QuotientLaws.{quotient_some, quotient_none}
use Rattle.invariant_space.proofs.images.coordinate.Goals as goal

pub returns-in-Some-clause-multiple : goal.returns-in-Some-clause-multiple
returns-in-Some-clause-multiple g c = λ below j t f q keys is. quotient_some (g.F.Field.field c.args.field.now) below j c.in-Some.u t f c.args.row.now c.index-row-u.result (subst (IsQuotient below j t) c.in-Some.is q) (subst (λ o. IfSome o (λ u. u < length c.args.row.now)) c.in-Some.is c.requires.within) c.index-row-u.is is

pub returns-in-None-clause-multiple : goal.returns-in-None-clause-multiple
returns-in-None-clause-multiple g c =
    let k = g.F.Field.field c.args.field.now in
    λ below j t f q keys is. ap (scalar k) c.zero.ensures.is ∙ scalar_zero k ∙ sym (quotient_none k below j t f (subst (IsQuotient below j t) c.in-None.is q) keys)
