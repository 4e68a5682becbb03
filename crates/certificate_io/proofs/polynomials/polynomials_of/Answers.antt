use Rattle.std.proofs.Common.{subst, sym, ◌+◌, ◌≤◌, ℕ}
use Rattle.alg_core.specs.Spaces.{over}
use Rattle.poly_text.specs.Syntax.{spelling}
use Rattle.poly_text.proofs.EntrySteps.{field_of}
use Rattle.certificate_io.specs.Conditions.{IsPolynomialIn}
use Rattle.certificate_io.specs.Readings.{AreReadBy, poly_tree, poly_kind, run_fault}
use Rattle.certificate_io.specs.Syntax.{IsPolynomial}
use Rattle.certificate_io.proofs.ReadingRuns.{ReadsLines, error_answers, part_at, lines_begin, lines_more, lines_fault, lines_end, lines_length}
use Rattle.certificate_io.proofs.polynomials.polynomials_of.Goals as goal

pub loop-i-init : goal.loop-i-init
loop-i-init g c = λ xs each same.
    let S = over field_of g.O.TermOrder.order c.args.space.now in
    subst (ReadsLines (IsPolynomialIn S c.args.names.now) (poly_tree S c.args.names.now) (λ x. x) (λ _ ts. poly_kind S c.args.names.now ts) c.args.first xs 0) (sym c.new-polynomials.ensures.items)
    (lines_begin (IsPolynomialIn S c.args.names.now) (poly_tree S c.args.names.now) (λ x. x) (λ _ ts. poly_kind S c.args.names.now ts) c.args.first xs)

pub returns-in_err-polynomial : goal.returns-in_err-polynomial
returns-in_err-polynomial g c = record {
  is = λ xs each same.
      let S = over field_of g.O.TermOrder.order c.args.space.now in
      let at = part_at spelling IsPolynomial c.args.lines.now xs c.loop-i.i c.tail_at-text.result.now c.loop-i-test.true c.tail_at-text.ensures.is same each in
      let told = c.in_err-polynomial.ensures.is at.part (record { terms = at.of; spelled = at.spelled }) in
      error_answers c.from_residual.result c.in_err-polynomial.field-0.0 (run_fault (λ _ ts. poly_kind S c.args.names.now ts) c.args.first 0 xs) (λ v. AreReadBy (IsPolynomialIn S c.args.names.now) (poly_tree S c.args.names.now) (λ x. x) xs v.items) c.from_residual.ensures.1
      (lines_fault (IsPolynomialIn S c.args.names.now) (poly_tree S c.args.names.now) (λ x. x) (λ _ ts. poly_kind S c.args.names.now ts) c.args.first spelling IsPolynomial xs c.loop-i.i _ c.loop-i.polynomials.items at (c.loop-i.invariant xs each same) c.in_err-polynomial.field-0.0 told);
}

pub loop-i-preserved : goal.loop-i-preserved
loop-i-preserved g c = λ xs each same.
    let S = over field_of g.O.TermOrder.order c.args.space.now in
    let at = part_at spelling IsPolynomial c.args.lines.now xs c.loop-i.i c.tail_at-text.result.now c.loop-i-test.true c.tail_at-text.ensures.is same each in
    let told = c.in_ok-polynomial.ensures.is at.part (record { terms = at.of; spelled = at.spelled }) in
    subst (ReadsLines (IsPolynomialIn S c.args.names.now) (poly_tree S c.args.names.now) (λ x. x) (λ _ ts. poly_kind S c.args.names.now ts) c.args.first xs (c.loop-i.i + 1)) (sym c.in_ok-push.ensures.items)
    (lines_more (IsPolynomialIn S c.args.names.now) (poly_tree S c.args.names.now) (λ x. x) (λ _ ts. poly_kind S c.args.names.now ts) c.args.first spelling IsPolynomial xs c.loop-i.i _ c.loop-i.polynomials.items at (c.loop-i.invariant xs each same) c.in_ok-polynomial.polynomial told.0 told.1.0 told.1.1)

pub returns : goal.returns
returns g c = record {
  is = λ xs each same.
      let S = over field_of g.O.TermOrder.order c.args.space.now in
      lines_end (IsPolynomialIn S c.args.names.now) (poly_tree S c.args.names.now) (λ x. x) (λ _ ts. poly_kind S c.args.names.now ts) c.args.first xs c.loop-i.i c.loop-i.polynomials.items
      (subst (λ (n : ℕ). n ≤ c.loop-i.i) (sym (lines_length spelling c.args.lines.now xs same)) c.loop-i-test.false) (c.loop-i.invariant xs each same);
}
