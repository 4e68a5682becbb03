use Rattle.std.proofs.Common.{rules, ◌∙◌, ◌<◌, length, sym, ap, subst, arith}
use Rattle.finite_certificate.specs.MarkSpaces.{mark_space}
use Rattle.finite_certificate.specs.Finiteness.{IsLowPower}
use Rattle.finite_certificate.proofs.ReachedSteps.{length_without}
use Rattle.finite_certificate.proofs.RoundSteps.{reached_at, replaced_none, replaced_some, replaced_room, given}
use Rattle.finite_certificate.proofs.spreading.replaced.Goals as goal

pub bounds-powers-i : goal.bounds-powers-i
bounds-powers-i g c = (reached_at (mark_space g.F.Field.field c.args.space.now) c.args.powers.now c.args.term.now c.in-Some.i (sym c.reached.ensures.first ∙ c.in-Some.is)).within

pub lowered-requires-clause-within : goal.lowered-requires-clause-within
lowered-requires-clause-within g c =
    let r = reached_at (mark_space g.F.Field.field c.args.space.now) c.args.powers.now c.args.term.now c.in-Some.i (sym c.reached.ensures.first ∙ c.in-Some.is) in
    let wide = c.requires.term.is_term.place.wide in
    omega (arith, r.within)

pub lowered-requires-clause-high : goal.lowered-requires-clause-high
lowered-requires-clause-high g c =
    (reached_at (mark_space g.F.Field.field c.args.space.now) c.args.powers.now c.args.term.now c.in-Some.i (sym c.reached.ensures.first ∙ c.in-Some.is)).high c.index-powers-i.result c.index-powers-i.is

pub mul_term-requires-clause-wide : goal.mul_term-requires-clause-wide
mul_term-requires-clause-wide g c = ap length c.in_ok-rest-in-Some.ensures.is ∙ length_without c.in-Some.i c.index-powers-i.result.exponent c.args.term.now.at.mono ∙ c.requires.term.is_term.place.wide

pub mul_term-requires-clause-vector : goal.mul_term-requires-clause-vector
mul_term-requires-clause-vector g c =
    let S = mark_space g.F.Field.field c.args.space.now in
    let r = reached_at S c.args.powers.now c.args.term.now c.in-Some.i (sym c.reached.ensures.first ∙ c.in-Some.is) in
    (subst (IsLowPower S) (sym c.index-powers-i.is) (c.requires.powers c.in-Some.i c.index-powers-i.result r.within)).poly.fits

pub mul_term-requires-clause-room : goal.mul_term-requires-clause-room
mul_term-requires-clause-room g c =
    replaced_room (mark_space g.F.Field.field c.args.space.now) c.args.powers.now c.requires.positive c.requires.powers c.args.term.now c.in-Some.i c.index-powers-i.result c.in_ok-rest-in-Some.rest
    c.requires.term (sym c.reached.ensures.first ∙ c.in-Some.is) c.index-powers-i.is c.in_ok-rest-in-Some.ensures.is

pub returns-in_ok-same-in-None : goal.returns-in_ok-same-in-None
returns-in_ok-same-in-None g c =
    let S = mark_space g.F.Field.field c.args.space.now in
    record { replaced = given S c.args.powers.now _ _ c.in_ok-same-in-None.same c.in_ok-same-in-None.ensures.sum (replaced_none S c.args.powers.now c.args.term.now (sym c.reached.ensures.first ∙ c.in-None.is)) }

pub returns-in_ok-replaced-in-Some : goal.returns-in_ok-replaced-in-Some
returns-in_ok-replaced-in-Some g c =
    let S = mark_space g.F.Field.field c.args.space.now in
    record {
      replaced = given S c.args.powers.now _ _ c.in_ok-replaced-in-Some.replaced c.in_ok-replaced-in-Some.ensures.multiple
          (replaced_some S c.args.powers.now c.args.term.now c.in-Some.i c.index-powers-i.result c.in_ok-rest-in-Some.rest (sym c.reached.ensures.first ∙ c.in-Some.is) c.index-powers-i.is c.in_ok-rest-in-Some.ensures.is);
    }

pub offset_bounds-powers-i : goal.offset_bounds-powers-i
offset_bounds-powers-i g c =
    let within : c.in-Some.i < length c.args.powers.now = (reached_at (mark_space g.F.Field.field c.args.space.now) c.args.powers.now c.args.term.now c.in-Some.i (sym c.reached.ensures.first ∙ c.in-Some.is)).within in
    search rules
