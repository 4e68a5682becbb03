use Rattle.std.proofs.Common.{◌<◌, ◌+◌, length, rules, ap, ◌∙◌, arith}
use Rattle.alg_core.specs.Spaces.{over}
use Rattle.poly_module.specs.GreatestExponents.{total}
use Rattle.std.proofs.lemmas.List.{take_all}
use Rattle.secondary_gens.proofs.FormDegrees.{total_more, total_front, first_degree_seen}
use Rattle.secondary_gens.proofs.degrees.degree.Goals as goal

pub overflow_add-sum : goal.overflow_add-sum
overflow_add-sum g c =
    let S = over g.F.Field.field g.O.TermOrder.order c.args.space.now in
    let m = c.index-terms-0.result.at.mono in
    let l : 0 < length c.terms-terms.result.now = search rules in
    let a = total_more m c.loop-i.i (omega (arith, c.loop-i-test.true, c.len-i-end.ensures.is, c.loop-i.auto.i-end)) in
    let b = total_front m (c.loop-i.i + 1) in
    let d = first_degree_seen S c.terms-terms.result.now c.args.p.now c.index-terms-0.result c.terms-terms.ensures.is c.requires.form l c.index-terms-0.is in
    omega (arith, c.requires.form.small, c.loop-i.invariant, c.exp-sum.ensures.is)

pub loop-i-preserved : goal.loop-i-preserved
loop-i-preserved g c =
    let m = c.index-terms-0.result.at.mono in
    let a = total_more m c.loop-i.i (omega (arith, c.loop-i-test.true, c.len-i-end.ensures.is, c.loop-i.auto.i-end)) in
    omega (arith, c.loop-i.invariant, c.exp-sum.ensures.is)

pub returns : goal.returns
returns g c =
    let S = over g.F.Field.field g.O.TermOrder.order c.args.space.now in
    let m = c.index-terms-0.result.at.mono in
    let l : 0 < length c.terms-terms.result.now = search rules in
    record { is = c.loop-i.invariant ∙ ap total (take_all c.loop-i.i m (omega (arith, c.loop-i-test.false, c.len-i-end.ensures.is, c.loop-i.auto.i-end))) ∙ first_degree_seen S c.terms-terms.result.now c.args.p.now c.index-terms-0.result c.terms-terms.ensures.is c.requires.form l c.index-terms-0.is }
