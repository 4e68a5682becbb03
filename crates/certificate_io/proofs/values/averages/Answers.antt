use Rattle.std.proofs.Common.{◌≡◌, None}
use Rattle.certificate_io.specs.Certificates.{evidence_of}
use Rattle.certificate_io.specs.LineReadings.{image_kind, IsImageIn, image_tree}
use Rattle.certificate_io.specs.PartFaults.{evidence_faults}
use Rattle.certificate_io.specs.Parts as trees
use Rattle.certificate_io.specs.ReadParts.{IsEvidence}
use Rattle.certificate_io.specs.Readings.{AnswersFault, AreReadBy, run_fault}
use Rattle.certificate_io.proofs.ReadingRuns.{error_answers}
use Rattle.certificate_io.proofs.SpaceReadings.{pair_moved}
use Rattle.certificate_io.proofs.values.averages.Goals as goal

pub returns-in_err-images : goal.returns-in_err-images
returns-in_err-images c = record {
  is = λ t h combination i xs each run.
      let made = c.in_ok-variables.ensures.is t h in
      let e = c.in_err-images.field-0.0 in
      let told = pair_moved (λ S T names j. AnswersFault e (run_fault (λ _ x. image_kind S T names x) j 0 xs)) _ _ _ _ _ _ _ _ made.0 combination made.1 run.number (c.in_err-images.ensures.is xs each run.tails) in
      error_answers c.from_residual-in_err-images.result e (evidence_faults t i (trees.Images xs)) (λ y. IsEvidence t (trees.Images xs) (evidence_of y)) c.from_residual-in_err-images.ensures.1 told;
}

pub returns : goal.returns
returns c = record {
  is = λ t h combination i xs each run.
      let made = c.in_ok-variables.ensures.is t h in
      pair_moved (λ S T names j. (run_fault (λ _ x. image_kind S T names x) j 0 xs ≡ None) × AreReadBy (IsImageIn S T names) (image_tree T names) (λ x. x) xs c.in_ok-images.images.items)
      _ _ _ _ _ _ _ _ made.0 combination made.1 run.number (c.in_ok-images.ensures.is xs each run.tails);
}
