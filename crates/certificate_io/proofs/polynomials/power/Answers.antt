use Rattle.std.proofs.Common.{◌≡◌, ◌∙◌, ℕ, ◌≤◌, ◌<◌, [], ◌∷◌, sym, ap, ap₂, subst}
use Rattle.std.specs.Prelude.{decimal}
use Rattle.alg_core.specs.Spaces.{over}
use Rattle.poly_text.specs.Syntax.{spelling}
use Rattle.poly_text.proofs.EntrySteps.{field_of}
use Rattle.certificate_io.specs.Lines.{bytes_at, joined}
use Rattle.certificate_io.specs.LineReadings.{power_kind, power_parts, power_said, IsPowerIn}
use Rattle.certificate_io.specs.Readings.{AnswersFault, on_line, poly_kind}
use Rattle.certificate_io.specs.Values.{is_name_at}
use Rattle.certificate_io.proofs.PartReadings.{power_split, raised_split, lone_text, power_unnamed, power_high, power_low}
use Rattle.certificate_io.proofs.ReadingRuns.{error_answers}
use Rattle.certificate_io.proofs.polynomials.power.Goals as goal

pub returns-then-not-is_name_at : goal.returns-then-not-is_name_at
returns-then-not-is_name_at g c = record {
  is = λ x is text.
      let S = over field_of g.O.TermOrder.order c.args.space.now in
      let first = power_split c.args.text.now c.split.result.0.now (bytes_at c.split.result.1) x c.split.ensures.is is text in
      power_unnamed c.args.line c.args.names.now.vars c.args.i x (poly_kind S c.args.names.now x.form)
      (sym (c.is_name_at.ensures.is ∙ ap (is_name_at c.args.names.now.vars c.args.i) first.0) ∙ c.if-not-is_name_at.true);
}

pub returns-then-exponent-gt4096 : goal.returns-then-exponent-gt4096
returns-then-exponent-gt4096 g c = record {
  is = λ x is text.
      let S = over field_of g.O.TermOrder.order c.args.space.now in
      let first = power_split c.args.text.now c.split.result.0.now (bytes_at c.split.result.1) x c.split.ensures.is is text in
      let named = sym (c.is_name_at.ensures.is ∙ ap (is_name_at c.args.names.now.vars c.args.i) first.0) ∙ c.if-not-is_name_at.false in
      let second = raised_split c.second_part-raised.result.now c.split-2.result.0.now (bytes_at c.split-2.result.1) x c.split-2.ensures.is is (c.second_part-raised.ensures.is (joined (decimal x.exponent ∷ spelling x.form ∷ [])) first.1) in
      power_high c.args.line c.args.names.now.vars c.args.i x (poly_kind S c.args.names.now x.form) named
      (subst (λ (n : ℕ). 4096 < n) (c.exponent_of-exponent.ensures.is x.exponent (is.exponent, sym second.0)) c.if-exponent-gt4096.true);
}

pub returns-in_err-form : goal.returns-in_err-form
returns-in_err-form g c = record {
  is = λ x is text.
      let S = over field_of g.O.TermOrder.order c.args.space.now in
      let first = power_split c.args.text.now c.split.result.0.now (bytes_at c.split.result.1) x c.split.ensures.is is text in
      let named = sym (c.is_name_at.ensures.is ∙ ap (is_name_at c.args.names.now.vars c.args.i) first.0) ∙ c.if-not-is_name_at.false in
      let second = raised_split c.second_part-raised.result.now c.split-2.result.0.now (bytes_at c.split-2.result.1) x c.split-2.ensures.is is (c.second_part-raised.ensures.is (joined (decimal x.exponent ∷ spelling x.form ∷ [])) first.1) in
      let low = power_low c.args.line c.args.names.now.vars c.args.i x (poly_kind S c.args.names.now x.form) named
      (subst (λ (n : ℕ). n ≤ 4096) (c.exponent_of-exponent.ensures.is x.exponent (is.exponent, sym second.0)) c.if-exponent-gt4096.false) in
      let form = lone_text x.form c.second_part.result.now is.form (c.second_part.ensures.is (joined (spelling x.form ∷ [])) second.1) in
      error_answers c.from_residual.result c.in_err-form.field-0.0 (on_line c.args.line (power_kind S c.args.names.now c.args.i x)) (λ p. IsPowerIn S c.args.names.now p × (power_parts S c.args.names.now p ≡ power_said x)) c.from_residual.ensures.1
      (subst (AnswersFault c.in_err-form.field-0.0) (sym low) (c.in_err-form.ensures.is x.form form));
}

pub returns : goal.returns
returns g c = record {
  is = λ x is text.
      let S = over field_of g.O.TermOrder.order c.args.space.now in
      let first = power_split c.args.text.now c.split.result.0.now (bytes_at c.split.result.1) x c.split.ensures.is is text in
      let named = sym (c.is_name_at.ensures.is ∙ ap (is_name_at c.args.names.now.vars c.args.i) first.0) ∙ c.if-not-is_name_at.false in
      let second = raised_split c.second_part-raised.result.now c.split-2.result.0.now (bytes_at c.split-2.result.1) x c.split-2.ensures.is is (c.second_part-raised.ensures.is (joined (decimal x.exponent ∷ spelling x.form ∷ [])) first.1) in
      let same = c.exponent_of-exponent.ensures.is x.exponent (is.exponent, sym second.0) in
      let small = subst (λ (n : ℕ). n ≤ 4096) same c.if-exponent-gt4096.false in
      let low = power_low c.args.line c.args.names.now.vars c.args.i x (poly_kind S c.args.names.now x.form) named small in
      let form = lone_text x.form c.second_part.result.now is.form (c.second_part.ensures.is (joined (spelling x.form ∷ [])) second.1) in
      let told = c.in_ok-form.ensures.is x.form form in (
        low ∙ told.0,
        (record { exponent = (subst (λ (n : ℕ). 1 ≤ n) (sym same) is.exponent.0, c.if-exponent-gt4096.false); form = told.1.0 }, ap₂ (λ n t. (n, t)) same told.1.1),
      );
}
