use Rattle.std.proofs.Common.{sym, subst, ap, ◌∙◌, refl, arith}
use Rattle.alg_core.specs.Spaces.{over, entries, Fits}
use Rattle.poly_module.proofs.MergeSteps.{ne_means, eq_means}
use Rattle.poly_module.proofs.EntryLists.{entry_at}
use Rattle.poly_module.proofs.LookupSteps.{lengths_differ, entries_differ, same_more, same_all, entry_same, other_place}
use Rattle.poly_module.proofs.lookups.are_equal.Goals as goal

pub returns-then-xs-ys : goal.returns-then-xs-ys
returns-then-xs-ys g c =
    let S = over g.F.Field.field g.O.TermOrder.order c.args.space.now in
    record { exact = lengths_differ S g.M.Monomial.exps c.terms-xs.result.now c.terms-ys.result.now _ _ c.terms-xs.ensures.is c.terms-ys.ensures.is c.if-xs-ys.true c.requires.left c.requires.right }

pub loop-i-init : goal.loop-i-init
loop-i-init g c = refl

pub returns-then-ne : goal.returns-then-ne
returns-then-ne g c =
    let S = over g.F.Field.field g.O.TermOrder.order c.args.space.now in
    record { exact = entries_differ S g.M.Monomial.exps c.terms-xs.result.now c.terms-ys.result.now _ _ c.loop-i.i c.index-xs-i.result c.index-ys-i.result c.terms-xs.ensures.is c.terms-ys.ensures.is c.loop-i-test.true (omega (arith, c.if-xs-ys.false, c.loop-i-test.true)) c.index-xs-i.is c.index-ys-i.is (λ e. ne_means g.F.Elem.PartialEq.eq g.met.F.Field.exact _ _ _ c.ne.ensures c.if-ne.true (ap (λ t. t.1) e)) c.requires.left c.requires.right }

pub compare-requires-clause-left : goal.compare-requires-clause-left
compare-requires-clause-left g c =
    let S = over g.F.Field.field g.O.TermOrder.order c.args.space.now in
    (entry_at S g.M.Monomial.exps _ _ _ c.loop-i-test.true c.index-xs-i.is (subst (λ l. Fits S (entries g.M.Monomial.exps l)) (sym c.terms-xs.ensures.is) c.requires.left)).place.fits

pub compare-requires-clause-right : goal.compare-requires-clause-right
compare-requires-clause-right g c =
    let S = over g.F.Field.field g.O.TermOrder.order c.args.space.now in
    (entry_at S g.M.Monomial.exps _ _ _ (omega (arith, c.if-xs-ys.false, c.loop-i-test.true)) c.index-ys-i.is (subst (λ l. Fits S (entries g.M.Monomial.exps l)) (sym c.terms-ys.ensures.is) c.requires.right)).place.fits

pub returns-in_default : goal.returns-in_default
returns-in_default g c =
    let S = over g.F.Field.field g.O.TermOrder.order c.args.space.now in
    record { exact = entries_differ S g.M.Monomial.exps c.terms-xs.result.now c.terms-ys.result.now _ _ c.loop-i.i c.index-xs-i.result c.index-ys-i.result c.terms-xs.ensures.is c.terms-ys.ensures.is c.loop-i-test.true (omega (arith, c.if-xs-ys.false, c.loop-i-test.true)) c.index-xs-i.is c.index-ys-i.is (λ e. other_place S _ _ c.compare.result c.compare.ensures.is c.in_default.not-Equal (ap (λ t. t.0) e)) c.requires.left c.requires.right }

pub loop-i-preserved : goal.loop-i-preserved
loop-i-preserved g c =
    let S = over g.F.Field.field g.O.TermOrder.order c.args.space.now in
    same_more S g.M.Monomial.exps c.terms-xs.result.now c.terms-ys.result.now c.loop-i.i c.index-xs-i.result c.index-ys-i.result c.loop-i-test.true (omega (arith, c.if-xs-ys.false, c.loop-i-test.true)) c.index-xs-i.is c.index-ys-i.is
    (entry_same S g.M.Monomial.exps c.index-xs-i.result c.index-ys-i.result (sym c.compare.ensures.is ∙ c.in-Equal.is) (eq_means g.F.Elem.PartialEq.eq g.met.F.Field.exact _ _ _ c.ne.ensures c.if-ne.false)) c.loop-i.invariant

pub returns : goal.returns
returns g c =
    let S = over g.F.Field.field g.O.TermOrder.order c.args.space.now in
    record { exact = same_all S g.M.Monomial.exps c.terms-xs.result.now c.terms-ys.result.now _ _ c.loop-i.i c.terms-xs.ensures.is c.terms-ys.ensures.is (omega (arith, c.if-xs-ys.false)) (omega arith) c.loop-i.invariant }
