use Rattle.std.proofs.Common.{◌≡◌, None}
use Rattle.certificate_io.specs.Certificates.{evidence_of}
use Rattle.certificate_io.specs.LineReadings.{member_kind, IsMemberIn, member_tree}
use Rattle.certificate_io.specs.PartFaults.{evidence_faults}
use Rattle.certificate_io.specs.Parts as trees
use Rattle.certificate_io.specs.ReadParts.{IsEvidence}
use Rattle.certificate_io.specs.Readings.{AnswersFault, AreReadBy, run_fault}
use Rattle.certificate_io.proofs.ReadingRuns.{error_answers}
use Rattle.certificate_io.proofs.SpaceReadings.{pair_moved}
use Rattle.certificate_io.proofs.values.members.Goals as goal

pub returns-in_err-members : goal.returns-in_err-members
returns-in_err-members c = record {
  is = λ t h d combination i xs each run.
      let made = c.in_ok-variables.ensures.is t h d in
      let e = c.in_err-members.field-0.0 in
      let told = pair_moved (λ S T names j. AnswersFault e (run_fault (λ _ x. member_kind S T names x) j 0 xs)) _ _ _ _ _ _ _ _ made.0 combination made.1 run.number (c.in_err-members.ensures.is xs each run.tails) in
      error_answers c.from_residual-in_err-members.result e (evidence_faults t i (trees.Kernel xs)) (λ y. IsEvidence t (trees.Kernel xs) (evidence_of y)) c.from_residual-in_err-members.ensures.1 told;
}

pub returns : goal.returns
returns c = record {
  is = λ t h d combination i xs each run.
      let made = c.in_ok-variables.ensures.is t h d in
      pair_moved (λ S T names j. (run_fault (λ _ x. member_kind S T names x) j 0 xs ≡ None) × AreReadBy (IsMemberIn S T names) (member_tree S T names) (λ x. x) xs c.in_ok-members.members.items)
      _ _ _ _ _ _ _ _ made.0 combination made.1 run.number (c.in_ok-members.ensures.is xs each run.tails);
}
