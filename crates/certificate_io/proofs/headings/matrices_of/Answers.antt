use Rattle.std.proofs.Common.{subst, sym, ◌+◌, ◌≤◌, ℕ}
use Rattle.certificate_io.specs.Certificates.{matrix_of}
use Rattle.certificate_io.specs.Conditions.{IsSquare}
use Rattle.certificate_io.specs.Parts.{IsSomeOf}
use Rattle.certificate_io.specs.Readings.{AreReadBy, matrix_cells, matrix_kind, matrix_text, run_fault}
use Rattle.certificate_io.specs.Syntax.{IsCell}
use Rattle.certificate_io.proofs.ReadingRuns.{ReadsLines, error_answers, part_at, lines_begin, lines_more, lines_fault, lines_end, lines_length}
use Rattle.certificate_io.proofs.headings.matrices_of.Goals as goal

pub loop-i-init : goal.loop-i-init
loop-i-init c = λ xs each same.
    subst (ReadsLines (λ m. IsSquare c.args.p c.args.n (matrix_of m)) (λ m. matrix_cells c.args.p (matrix_of m)) (λ x. x) (λ _ cs. matrix_kind c.args.p c.args.n cs) c.args.first xs 0) (sym c.new-matrices.ensures.items)
    (lines_begin (λ m. IsSquare c.args.p c.args.n (matrix_of m)) (λ m. matrix_cells c.args.p (matrix_of m)) (λ x. x) (λ _ cs. matrix_kind c.args.p c.args.n cs) c.args.first xs)

pub returns-in_err-matrix : goal.returns-in_err-matrix
returns-in_err-matrix c = record {
  is = λ xs each same.
      let at = part_at matrix_text (IsSomeOf IsCell) c.args.lines.now xs c.loop-i.i c.tail_at-text.result.now c.loop-i-test.true c.tail_at-text.ensures.is same each in
      let told = c.in_err-matrix.ensures.is at.part at.of at.spelled in
      error_answers c.from_residual.result c.in_err-matrix.field-0.0 (run_fault (λ _ cs. matrix_kind c.args.p c.args.n cs) c.args.first 0 xs) (λ v. AreReadBy (λ m. IsSquare c.args.p c.args.n (matrix_of m)) (λ m. matrix_cells c.args.p (matrix_of m)) (λ x. x) xs v.items)
      c.from_residual.ensures.1
      (lines_fault (λ m. IsSquare c.args.p c.args.n (matrix_of m)) (λ m. matrix_cells c.args.p (matrix_of m)) (λ x. x) (λ _ cs. matrix_kind c.args.p c.args.n cs) c.args.first matrix_text (IsSomeOf IsCell) xs c.loop-i.i _ c.loop-i.matrices.items at (c.loop-i.invariant xs each same) c.in_err-matrix.field-0.0 told);
}

pub loop-i-preserved : goal.loop-i-preserved
loop-i-preserved c = λ xs each same.
    let at = part_at matrix_text (IsSomeOf IsCell) c.args.lines.now xs c.loop-i.i c.tail_at-text.result.now c.loop-i-test.true c.tail_at-text.ensures.is same each in
    let told = c.in_ok-matrix.ensures.is at.part at.of at.spelled in
    subst (ReadsLines (λ m. IsSquare c.args.p c.args.n (matrix_of m)) (λ m. matrix_cells c.args.p (matrix_of m)) (λ x. x) (λ _ cs. matrix_kind c.args.p c.args.n cs) c.args.first xs (c.loop-i.i + 1)) (sym c.in_ok-push.ensures.items)
    (lines_more (λ m. IsSquare c.args.p c.args.n (matrix_of m)) (λ m. matrix_cells c.args.p (matrix_of m)) (λ x. x) (λ _ cs. matrix_kind c.args.p c.args.n cs) c.args.first matrix_text (IsSomeOf IsCell) xs c.loop-i.i _ c.loop-i.matrices.items at (c.loop-i.invariant xs each same) c.in_ok-matrix.matrix told.0 told.1.0 told.1.1)

pub returns : goal.returns
returns c = record {
  is = λ xs each same.
      lines_end (λ m. IsSquare c.args.p c.args.n (matrix_of m)) (λ m. matrix_cells c.args.p (matrix_of m)) (λ x. x) (λ _ cs. matrix_kind c.args.p c.args.n cs) c.args.first xs c.loop-i.i c.loop-i.matrices.items
      (subst (λ (n : ℕ). n ≤ c.loop-i.i) (sym (lines_length matrix_text c.args.lines.now xs same)) c.loop-i-test.false) (c.loop-i.invariant xs each same);
}
