use Rattle.certificate_io.specs.ReadParts.{ArePolynomials}
use Rattle.certificate_io.specs.Readings.{Answers, poly_kind, run_fault}
use Rattle.certificate_io.proofs.SpaceReadings.{moved}
use Rattle.certificate_io.proofs.values.marked_polynomials.Goals as goal

pub returns : goal.returns
returns c = record {
  is = λ t h d i xs each run.
      let made = c.in_ok-variables.ensures.is t h d in
      moved (λ S names j. Answers c.polynomials_of.result (run_fault (λ _ ts. poly_kind S names ts) j 0 xs) (λ v. ArePolynomials S names xs v.items)) _ _ _ _ _ _ made.0 made.1 run.number
      (c.polynomials_of.ensures.is xs each run.tails);
}
