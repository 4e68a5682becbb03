use Rattle.std.proofs.Common.{◌≡◌, ◌∙◌, refl}
use Rattle.certificate_io.specs.Conditions.{IsCertificate}
use Rattle.certificate_io.specs.Parts.{lines_in, parts_of}
use Rattle.certificate_io.specs.Values.{first_fault, nothing_seen}
use Rattle.certificate_io.proofs.CertificateMade.{certificate_made}
use Rattle.certificate_io.proofs.ReadingRuns.{error_answers}
use Rattle.certificate_io.proofs.TextAnswers.{heading_error, module_error, generator_error, no_error}
use Rattle.certificate_io.proofs.values.certificate_of.Goals as goal

pub returns-in_err-heading : goal.returns-in_err-heading
returns-in_err-heading c = record {
  is = λ t are same.
      let first = c.heading_lines.ensures.is t (refl, same) in
      let e = c.in_err-heading.field-0.0 in
      error_answers c.from_residual.result e (first_fault 1 nothing_seen (lines_in t)) (λ d. IsCertificate d × (parts_of d ≡ t)) c.from_residual.ensures.1 (heading_error t e (c.in_err-heading.ensures.is t are first.0));
}

pub returns-in_err-module : goal.returns-in_err-module
returns-in_err-module c = record {
  is = λ t are same.
      let first = c.heading_lines.ensures.is t (refl, same) in
      let heading = c.in_ok-heading.ensures.is t are first.0 in
      let second = c.module_lines.ensures.is t first.1 in
      let e = c.in_err-module.field-0.0 in
      error_answers c.from_residual-in_err-module.result e (first_fault 1 nothing_seen (lines_in t)) (λ d. IsCertificate d × (parts_of d ≡ t)) c.from_residual-in_err-module.ensures.1
      (module_error t e heading.0 (c.in_err-module.ensures.is t are heading.1 second.0));
}

pub returns-in_err-generators : goal.returns-in_err-generators
returns-in_err-generators c = record {
  is = λ t are same.
      let first = c.heading_lines.ensures.is t (refl, same) in
      let heading = c.in_ok-heading.ensures.is t are first.0 in
      let second = c.module_lines.ensures.is t first.1 in
      let found = c.in_ok-module.ensures.is t are heading.1 second.0 in
      let third = c.generator_lines-third.ensures.is t second.1 in
      let e = c.in_err-generators.field-0.0 in
      error_answers c.from_residual-in_err-generators.result e (first_fault 1 nothing_seen (lines_in t)) (λ d. IsCertificate d × (parts_of d ≡ t)) c.from_residual-in_err-generators.ensures.1
      (generator_error t e heading.0 found.0 (c.in_err-generators.ensures.is t are heading.1 (c.as_slice.ensures.value ∙ found.1.degrees) third));
}

pub returns : goal.returns
returns c = record {
  is = λ t are same.
      let first = c.heading_lines.ensures.is t (refl, same) in
      let heading = c.in_ok-heading.ensures.is t are first.0 in
      let second = c.module_lines.ensures.is t first.1 in
      let found = c.in_ok-module.ensures.is t are heading.1 second.0 in
      let third = c.generator_lines-third.ensures.is t second.1 in
      let made = c.in_ok-generators.ensures.is t are heading.1 (c.as_slice.ensures.value ∙ found.1.degrees) third in (
        no_error t heading.0 found.0 made.0,
        certificate_made t c.in_ok-heading.heading c.in_ok-module.module c.in_ok-generators.generators are c.in_ok-heading.ensures.ready heading.1 found.1 made.1 found.0 made.0,
      );
}
