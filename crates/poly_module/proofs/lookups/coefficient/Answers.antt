use Rattle.std.proofs.Common.{◌∙◌, sym, subst, ap, arith}
use Rattle.alg_core.specs.Fields.{scalar, scalar_zero}
use Rattle.alg_core.specs.Spaces.{over, place, entries, Fits}
use Rattle.poly_module.proofs.EntryLists.{entry_at}
use Rattle.poly_module.proofs.LookupSteps.{found}
use Rattle.poly_module.proofs.SearchSteps.{none_before, begins, rises, sinks, no_value, middle_below}
use Rattle.poly_module.proofs.lookups.coefficient.Goals as goal

pub loop-low-init : goal.loop-low-init
loop-low-init g c =
    let S = over g.F.Field.field g.O.TermOrder.order c.args.space.now in
    let exps = g.M.Monomial.exps in
    record {
      order = omega arith;
      within = omega arith;
      before = none_before S (place exps c.args.at.now) (entries exps c.terms-terms.result.now);
      after = begins S exps (place exps c.args.at.now) c.terms-terms.result.now c.args.a.now c.terms-terms.ensures.is c.requires.vector;
    }

pub offset_bounds-terms-middle : goal.offset_bounds-terms-middle
offset_bounds-terms-middle g c = let below = middle_below c.loop-low.low c.loop-low.high c.loop-low-test.true in let within = c.loop-low.invariant.within in omega arith

pub bounds-terms-middle : goal.bounds-terms-middle
bounds-terms-middle g c = let below = middle_below c.loop-low.low c.loop-low.high c.loop-low-test.true in let within = c.loop-low.invariant.within in omega arith

pub compare-requires-clause-left : goal.compare-requires-clause-left
compare-requires-clause-left g c =
    let S = over g.F.Field.field g.O.TermOrder.order c.args.space.now in
    let below = middle_below c.loop-low.low c.loop-low.high c.loop-low-test.true in
    let within = c.loop-low.invariant.within in
    (entry_at S g.M.Monomial.exps _ _ _ (omega arith) c.index-terms-middle.is (subst (λ l. Fits S (entries g.M.Monomial.exps l)) (sym c.terms-terms.ensures.is) c.requires.vector)).place.fits

pub returns-in-Equal-clause-has : goal.returns-in-Equal-clause-has
returns-in-Equal-clause-has g c =
    let S = over g.F.Field.field g.O.TermOrder.order c.args.space.now in
    let below = middle_below c.loop-low.low c.loop-low.high c.loop-low-test.true in
    let within = c.loop-low.invariant.within in
    (entry_at S g.M.Monomial.exps _ _ _ (omega arith) c.index-terms-middle.is (subst (λ l. Fits S (entries g.M.Monomial.exps l)) (sym c.terms-terms.ensures.is) c.requires.vector)).has

pub returns-in-Equal-clause-is : goal.returns-in-Equal-clause-is
returns-in-Equal-clause-is g c =
    let S = over g.F.Field.field g.O.TermOrder.order c.args.space.now in
    let exps = g.M.Monomial.exps in
    let below = middle_below c.loop-low.low c.loop-low.high c.loop-low-test.true in
    let within = c.loop-low.invariant.within in
    found S exps (place exps c.args.at.now) c.terms-terms.result.now _ _ c.index-terms-middle.result c.terms-terms.ensures.is (omega arith) c.index-terms-middle.is (sym c.compare.ensures.is ∙ c.in-Equal.is) c.requires.vector

pub loop-low-preserved-in-Greater : goal.loop-low-preserved-in-Greater
loop-low-preserved-in-Greater g c =
    let S = over g.F.Field.field g.O.TermOrder.order c.args.space.now in
    let exps = g.M.Monomial.exps in
    let below = middle_below c.loop-low.low c.loop-low.high c.loop-low-test.true in
    let within = c.loop-low.invariant.within in
    record {
      order = omega arith;
      within = within;
      before = rises S exps (place exps c.args.at.now) c.terms-terms.result.now c.args.a.now c.terms-terms.ensures.is c.requires.vector _ c.index-terms-middle.result (omega arith) c.index-terms-middle.is
          (sym c.compare.ensures.is ∙ c.in-Greater.is);
      after = c.loop-low.invariant.after;
    }

pub loop-low-preserved : goal.loop-low-preserved
loop-low-preserved g c =
    let S = over g.F.Field.field g.O.TermOrder.order c.args.space.now in
    let exps = g.M.Monomial.exps in
    let below = middle_below c.loop-low.low c.loop-low.high c.loop-low-test.true in
    let within = c.loop-low.invariant.within in
    record {
      order = omega arith;
      within = omega arith;
      before = c.loop-low.invariant.before;
      after = sinks S exps (place exps c.args.at.now) c.terms-terms.result.now c.args.a.now c.terms-terms.ensures.is c.requires.vector _ c.index-terms-middle.result (omega arith) c.index-terms-middle.is
          (sym c.compare.ensures.is ∙ c.in-Less.is);
    }

pub returns-clause-is : goal.returns-clause-is
returns-clause-is g c =
    let S = over g.F.Field.field g.O.TermOrder.order c.args.space.now in
    let exps = g.M.Monomial.exps in
    ap (scalar S.field) c.zero.ensures.is ∙ scalar_zero S.field
    ∙ sym (no_value S exps (place exps c.args.at.now) c.terms-terms.result.now c.args.a.now c.terms-terms.ensures.is c.requires.vector c.loop-low.low c.loop-low.high (omega (arith, c.loop-low-test.false)) c.requires.place c.loop-low.invariant.before c.loop-low.invariant.after)
