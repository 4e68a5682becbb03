use Rattle.std.proofs.Common.{subst, sym, ◌+◌, ◌≤◌, ℕ}
use Rattle.alg_core.specs.Spaces.{over}
use Rattle.poly_text.proofs.EntrySteps.{field_of}
use Rattle.certificate_io.specs.LineReadings.{image_kind, image_tree, IsImageIn}
use Rattle.certificate_io.specs.Parts.{IsImageTree}
use Rattle.certificate_io.specs.Readings.{AreReadBy, run_fault, image_text}
use Rattle.certificate_io.proofs.ReadingRuns.{ReadsLines, error_answers, part_at, lines_begin, lines_more, lines_fault, lines_end, lines_length}
use Rattle.certificate_io.proofs.polynomials.images_of.Goals as goal

pub loop-i-init : goal.loop-i-init
loop-i-init g c = λ xs each same.
    let S = over field_of g.O.TermOrder.order c.args.plain.now in
    let T = over field_of g.P.TermOrder.order c.args.combined.now in
    subst (ReadsLines (IsImageIn S T c.args.names.now) (image_tree T c.args.names.now) (λ x. x) (λ _ x. image_kind S T c.args.names.now x) c.args.first xs 0) (sym c.new-images.ensures.items)
    (lines_begin (IsImageIn S T c.args.names.now) (image_tree T c.args.names.now) (λ x. x) (λ _ x. image_kind S T c.args.names.now x) c.args.first xs)

pub returns-in_err-image : goal.returns-in_err-image
returns-in_err-image g c = record {
  is = λ xs each same.
      let S = over field_of g.O.TermOrder.order c.args.plain.now in
      let T = over field_of g.P.TermOrder.order c.args.combined.now in
      let at = part_at image_text IsImageTree c.args.lines.now xs c.loop-i.i c.tail_at-text.result.now c.loop-i-test.true c.tail_at-text.ensures.is same each in
      let told = c.in_err-image.ensures.is at.part at.of at.spelled in
      error_answers c.from_residual.result c.in_err-image.field-0.0 (run_fault (λ _ x. image_kind S T c.args.names.now x) c.args.first 0 xs) (λ v. AreReadBy (IsImageIn S T c.args.names.now) (image_tree T c.args.names.now) (λ x. x) xs v.items) c.from_residual.ensures.1
      (lines_fault (IsImageIn S T c.args.names.now) (image_tree T c.args.names.now) (λ x. x) (λ _ x. image_kind S T c.args.names.now x) c.args.first image_text IsImageTree xs c.loop-i.i _ c.loop-i.images.items at (c.loop-i.invariant xs each same) c.in_err-image.field-0.0 told);
}

pub loop-i-preserved : goal.loop-i-preserved
loop-i-preserved g c = λ xs each same.
    let S = over field_of g.O.TermOrder.order c.args.plain.now in
    let T = over field_of g.P.TermOrder.order c.args.combined.now in
    let at = part_at image_text IsImageTree c.args.lines.now xs c.loop-i.i c.tail_at-text.result.now c.loop-i-test.true c.tail_at-text.ensures.is same each in
    let told = c.in_ok-image.ensures.is at.part at.of at.spelled in
    subst (ReadsLines (IsImageIn S T c.args.names.now) (image_tree T c.args.names.now) (λ x. x) (λ _ x. image_kind S T c.args.names.now x) c.args.first xs (c.loop-i.i + 1)) (sym c.in_ok-push.ensures.items)
    (lines_more (IsImageIn S T c.args.names.now) (image_tree T c.args.names.now) (λ x. x) (λ _ x. image_kind S T c.args.names.now x) c.args.first image_text IsImageTree xs c.loop-i.i _ c.loop-i.images.items at (c.loop-i.invariant xs each same) c.in_ok-image.image told.0 told.1.0 told.1.1)

pub returns : goal.returns
returns g c = record {
  is = λ xs each same.
      let S = over field_of g.O.TermOrder.order c.args.plain.now in
      let T = over field_of g.P.TermOrder.order c.args.combined.now in
      lines_end (IsImageIn S T c.args.names.now) (image_tree T c.args.names.now) (λ x. x) (λ _ x. image_kind S T c.args.names.now x) c.args.first xs c.loop-i.i c.loop-i.images.items
      (subst (λ (n : ℕ). n ≤ c.loop-i.i) (sym (lines_length image_text c.args.lines.now xs same)) c.loop-i-test.false) (c.loop-i.invariant xs each same);
}

pub image-requires-clause-text : goal.image-requires-clause-text
image-requires-clause-text g c =
    let at = part_at image_text IsImageTree c.args.lines.now c.requires.texts.0 c.loop-i.i c.tail_at-text.result.now c.loop-i-test.true c.tail_at-text.ensures.is c.requires.texts.2 c.requires.texts.1 in
    (at.part, at.of, at.spelled)
