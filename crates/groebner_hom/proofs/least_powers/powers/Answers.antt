use Rattle.std.proofs.Common.{sym, subst, arith}
use Rattle.std.specs.Prelude.{All}
use Rattle.std.proofs.lemmas.List.Elements.{All-push, All-nil}
use Rattle.poly_module.specs.SpaceVectors.{IsPoly, vectors_of}
use Rattle.finite_certificate.specs.Finiteness.{HasForm}
use Rattle.finite_certificate.specs.MarkSpaces.{mark_space}
use Rattle.groebner_hom.proofs.PowerSteps.{found-none, found-more, found-least, found-finite}
use Rattle.groebner_hom.proofs.least_powers.powers.Goals as goal

pub loop-i-init : goal.loop-i-init
loop-i-init g c =
    let S = mark_space g.F.Field.field c.args.space.now in
    record {
      found = found-none S c.args.space.now.order.vars (vectors_of S (λ m. m) c.args.theta.now) c.new-powers.result.items c.new-powers.ensures.items;
      fit = subst (All (λ p. IsPoly S (λ m. m) p.form × HasForm S p)) (sym c.new-powers.ensures.items) (All-nil (λ p. IsPoly S (λ m. m) p.form × HasForm S p));
    }

pub loop-i-preserved : goal.loop-i-preserved
loop-i-preserved g c =
    let S = mark_space g.F.Field.field c.args.space.now in
    let p = c.in_ok-least_power.field-0 in
    record {
      found = found-more S c.args.space.now.order.vars (vectors_of S (λ m. m) c.args.theta.now) c.loop-i.i p c.loop-i.powers.items c.push.new.self.items c.loop-i.invariant.found
          (c.in_ok-least_power.ensures.least, c.in_ok-least_power.ensures.power) c.in_ok-push.ensures.items;
      fit = subst (All (λ p. IsPoly S (λ m. m) p.form × HasForm S p)) (sym c.in_ok-push.ensures.items)
          (All-push (λ p. IsPoly S (λ m. m) p.form × HasForm S p) c.loop-i.powers.items p c.loop-i.invariant.fit c.in_ok-least_power.ensures.fit);
    }

pub returns-clause-least : goal.returns-clause-least
returns-clause-least g c =
    let S = mark_space g.F.Field.field c.args.space.now in
    let past = c.loop-i-test.false in
    found-least S c.args.space.now.order.vars (vectors_of S (λ m. m) c.args.theta.now) c.loop-i.i c.loop-i.powers.items c.loop-i.invariant.found (omega arith)

pub returns-clause-finite : goal.returns-clause-finite
returns-clause-finite g c =
    let S = mark_space g.F.Field.field c.args.space.now in
    let past = c.loop-i-test.false in
    found-finite S c.args.space.now.order.vars (vectors_of S (λ m. m) c.args.theta.now) c.loop-i.i c.loop-i.powers.items c.loop-i.invariant.found (omega arith)
