use Rattle.std.proofs.Common.{◌≡◌, [], ◌∷◌, ap₂}
use Rattle.alg_core.specs.Spaces.{over}
use Rattle.poly_text.specs.Syntax.{monomial_term, spelling}
use Rattle.poly_text.proofs.EntrySteps.{field_of}
use Rattle.certificate_io.specs.Lines.{bytes_at, joined}
use Rattle.certificate_io.specs.LineReadings.{image_kind, image_tree, IsImageIn}
use Rattle.certificate_io.specs.Readings.{on_line, poly_kind, comb_kind}
use Rattle.certificate_io.proofs.PartReadings.{first_of_two, second_of_two, both_pass, image_split, image_of, lone_text}
use Rattle.certificate_io.proofs.ReadingRuns.{error_answers}
use Rattle.certificate_io.proofs.polynomials.image.Goals as goal

pub monomial-requires-clause-text : goal.monomial-requires-clause-text
monomial-requires-clause-text g c =
    let x = c.requires.text in
    (x.0.monomial, (image_split c.args.text.now c.split.result.0.now (bytes_at c.split.result.1) x.0 c.split.ensures.is x.1 x.2).0)

pub returns-in_err-mono : goal.returns-in_err-mono
returns-in_err-mono g c = record {
  is = λ x is text.
      let S = over field_of g.O.TermOrder.order c.args.plain.now in
      let T = over field_of g.P.TermOrder.order c.args.combined.now in
      let parts = image_split c.args.text.now c.split.result.0.now (bytes_at c.split.result.1) x c.split.ensures.is is text in
      error_answers c.from_residual.result c.in_err-mono.field-0.0 (on_line c.args.line (image_kind S T c.args.names.now x)) (λ y. IsImageIn S T c.args.names.now y × (image_tree T c.args.names.now y ≡ x)) c.from_residual.ensures.1
      (first_of_two c.in_err-mono.field-0.0 c.args.line (poly_kind S c.args.names.now (monomial_term x.monomial ∷ [])) (comb_kind T x.combination) (c.in_err-mono.ensures.is x.monomial parts.0));
}

pub returns-in_err-comb : goal.returns-in_err-comb
returns-in_err-comb g c = record {
  is = λ x is text.
      let S = over field_of g.O.TermOrder.order c.args.plain.now in
      let T = over field_of g.P.TermOrder.order c.args.combined.now in
      let parts = image_split c.args.text.now c.split.result.0.now (bytes_at c.split.result.1) x c.split.ensures.is is text in
      let told = c.in_ok-mono.ensures.is x.monomial parts.0 in
      let second = lone_text x.combination c.second_part-second.result.now is.combination (c.second_part-second.ensures.is (joined (spelling x.combination ∷ [])) parts.1) in
      error_answers c.from_residual-in_err-comb.result c.in_err-comb.field-0.0 (on_line c.args.line (image_kind S T c.args.names.now x)) (λ y. IsImageIn S T c.args.names.now y × (image_tree T c.args.names.now y ≡ x)) c.from_residual-in_err-comb.ensures.1
      (second_of_two c.in_err-comb.field-0.0 c.args.line (poly_kind S c.args.names.now (monomial_term x.monomial ∷ [])) (comb_kind T x.combination) told.0 (c.in_err-comb.ensures.is x.combination second));
}

pub returns : goal.returns
returns g c = record {
  is = λ x is text.
      let S = over field_of g.O.TermOrder.order c.args.plain.now in
      let T = over field_of g.P.TermOrder.order c.args.combined.now in
      let parts = image_split c.args.text.now c.split.result.0.now (bytes_at c.split.result.1) x c.split.ensures.is is text in
      let told = c.in_ok-mono.ensures.is x.monomial parts.0 in
      let second = lone_text x.combination c.second_part-second.result.now is.combination (c.second_part-second.ensures.is (joined (spelling x.combination ∷ [])) parts.1) in
      let after = c.in_ok-comb.ensures.is x.combination second in (
        both_pass c.args.line (poly_kind S c.args.names.now (monomial_term x.monomial ∷ [])) (comb_kind T x.combination) told.0 after.0,
        (record { place = told.1.0.0; monomial = told.1.0.1; combination = after.1.0 }, ap₂ (λ u v. image_of u v) told.1.1 after.1.1),
      );
}
