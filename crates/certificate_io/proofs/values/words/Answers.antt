use Rattle.std.proofs.Common.{◌∙◌, ◌++◌, length, ap, ap₂}
use Rattle.std.proofs.lemmas.List.{length-map}
use Rattle.certificate_io.specs.PartFaults.{heading_seen}
use Rattle.certificate_io.specs.ReadParts.{ArePolynomials}
use Rattle.certificate_io.specs.Readings.{Answers, poly_kind, run_fault}
use Rattle.certificate_io.specs.Spaces.{word_space, word_names}
use Rattle.certificate_io.specs.Values.{tree_degree}
use Rattle.certificate_io.proofs.SpaceReadings.{field_is, moved}
use Rattle.certificate_io.proofs.values.words.Goals as goal

pub returns : goal.returns
returns c = record {
  is = λ t h d e i xs each run.
      let space = c.in_ok-variables.ensures.space ∙ ap₂ (λ k ws. word_space k ws) (field_is t.characteristic _ h.field) (ap₂ (λ l m. l ++ m) d e) in
      let names = c.in_ok-variables.ensures.names ∙ ap₂ word_names (ap length d ∙ length-map t.primaries (tree_degree (heading_seen t))) (ap length e ∙ length-map t.irreducibles (tree_degree (heading_seen t))) in
      moved (λ S names j. Answers c.polynomials_of.result (run_fault (λ _ ts. poly_kind S names ts) j 0 xs) (λ v. ArePolynomials S names xs v.items)) _ _ _ _ _ _ space names run.number
      (c.polynomials_of.ensures.is xs each run.tails);
}
