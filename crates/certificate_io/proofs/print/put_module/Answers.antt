use Rattle.std.proofs.Common.{◌++◌, ◌∙◌, ap, refl}
use Rattle.poly_text.proofs.OutputLaws.{says_same}
use Rattle.certificate_io.specs.Texts.{ended, module_lines}
use Rattle.certificate_io.proofs.CertificateLines.{module_put}
use Rattle.certificate_io.proofs.print.put_module.Goals as goal

pub returns : goal.returns
returns c = record {
  is = λ w says. says_same _ _ _ _ refl
      (module_put w _ c.as_slice-names.result.now c.as_slice-primaries.result.now c.as_slice.result.now c.as_slice-2.result.now c.as_slice-names.ensures.value c.as_slice-primaries.ensures.value c.as_slice.ensures.value c.as_slice-2.ensures.value
      ∙ ap (λ k. w ++ ended (module_lines k)) c.cert.view_is)
      (c.put_number_line.ensures.is _ (c.put_power_lines.ensures.is _ (c.put_polynomial_lines-2.ensures.is _ (c.put_polynomial_lines.ensures.is w says))));
}
