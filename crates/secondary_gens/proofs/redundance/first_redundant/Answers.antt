use Rattle.std.proofs.Common.{◌≡◌, refl, sym, subst, arith}
use Rattle.std.specs.Prelude.{remove}
use Rattle.alg_core.specs.Spaces.{over}
use Rattle.secondary_gens.proofs.OverSteps.{all_entries, others_forms, over_redundant, redundant_over, none_more, none_all, first_found, not_true}
use Rattle.secondary_gens.proofs.redundance.first_redundant.Goals as goal

pub is_over-requires-clause-polynomials : goal.is_over-requires-clause-polynomials
is_over-requires-clause-polynomials g c =
    let S = over g.F.Field.field g.O.TermOrder.order c.args.space.now in
    let copies = subst (λ ps. all_entries S ps ≡ all_entries S (remove c.args.secs.now c.loop-j.j)) (sym c.as_slice.ensures.value) c.in_ok-others.ensures.copies in
    others_forms S c.args.theta.now c.args.secs.now c.as_slice.result.now c.loop-j.j c.index-secs-j.result c.loop-j-test.true c.index-secs-j.is copies c.requires.secondaries

pub returns-then-branch-clause-some : goal.returns-then-branch-clause-some
returns-then-branch-clause-some g c =
    let S = over g.F.Field.field g.O.TermOrder.order c.args.space.now in
    let copies = subst (λ ps. all_entries S ps ≡ all_entries S (remove c.args.secs.now c.loop-j.j)) (sym c.as_slice.ensures.value) c.in_ok-others.ensures.copies in
    first_found S c.args.theta.now c.args.secs.now c.loop-j.j _ refl c.loop-j-test.true c.loop-j.invariant.none
    (over_redundant S c.args.theta.now c.args.secs.now c.as_slice.result.now c.loop-j.j c.index-secs-j.result c.loop-j-test.true c.index-secs-j.is copies (c.in_ok-is_over.ensures.exact.0 c.if-branch.true))

pub loop-j-preserved : goal.loop-j-preserved
loop-j-preserved g c =
    let S = over g.F.Field.field g.O.TermOrder.order c.args.space.now in
    let copies = subst (λ ps. all_entries S ps ≡ all_entries S (remove c.args.secs.now c.loop-j.j)) (sym c.as_slice.ensures.value) c.in_ok-others.ensures.copies in
    record {
      levels = c.in_ok-is_over.ensures.levels;
      none = none_more S c.args.theta.now c.args.secs.now c.loop-j.j c.loop-j.invariant.none
          (λ a. not_true c.in_ok-is_over.field-0 c.if-branch.false (c.in_ok-is_over.ensures.exact.1 (redundant_over S c.args.theta.now c.args.secs.now c.as_slice.result.now c.loop-j.j c.index-secs-j.result c.loop-j-test.true c.index-secs-j.is copies a)));
    }

pub returns-clause-none : goal.returns-clause-none
returns-clause-none g c =
    let S = over g.F.Field.field g.O.TermOrder.order c.args.space.now in
    none_all S c.args.theta.now c.args.secs.now c.loop-j.j (omega (arith, c.loop-j-test.false)) c.loop-j.invariant.none
