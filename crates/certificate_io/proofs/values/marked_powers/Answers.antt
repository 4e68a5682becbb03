use Rattle.certificate_io.specs.LineReadings.{power_kind}
use Rattle.certificate_io.specs.ReadParts.{ArePowers}
use Rattle.certificate_io.specs.Readings.{Answers, run_fault}
use Rattle.certificate_io.proofs.SpaceReadings.{moved}
use Rattle.certificate_io.proofs.values.marked_powers.Goals as goal

pub returns : goal.returns
returns c = record {
  is = λ t h d i xs each run.
      let made = c.in_ok-variables.ensures.is t h d in
      moved (λ S names j. Answers c.powers_of.result (run_fault (power_kind S names) j 0 xs) (λ v. ArePowers S names xs v.items)) _ _ _ _ _ _ made.0 made.1 run.number
      (c.powers_of.ensures.is xs each run.tails);
}
