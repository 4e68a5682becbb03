use Rattle.std.proofs.Common.{◌++◌, ◌∙◌, length, ap, refl, sym, subst}
use Rattle.poly_text.proofs.OutputLaws.{says_same}
use Rattle.certificate_io.specs.Certificates.{evidence_of}
use Rattle.certificate_io.specs.Printable.{IsPrintable, AreEvidence}
use Rattle.certificate_io.specs.Texts.{ended, generator_lines}
use Rattle.certificate_io.proofs.CertificateLines.{generators_put}
use Rattle.certificate_io.proofs.print.put_generators.Goals as goal

pub put_evidence_lines-requires : goal.put_evidence_lines-requires
put_evidence_lines-requires c =
    let printable = subst IsPrintable (sym c.cert.view_is) c.requires.printable in
    record { printable = subst (λ n. AreEvidence c.cert.inside.characteristic n (evidence_of c.cert.inside.evidence)) (sym (ap length c.as_slice-secondaries.ensures.value)) printable.evidence }

pub returns : goal.returns
returns c = record {
  is = λ w says. says_same _ _ _ _ refl
      (generators_put w _ c.as_slice-names.result.now c.as_slice-secondaries.result.now c.as_slice-2.result.now c.as_slice-3.result.now _ c.as_slice-names.ensures.value c.as_slice-secondaries.ensures.value c.as_slice-2.ensures.value c.as_slice-3.ensures.value (ap length c.as_slice.ensures.value)
      ∙ ap (λ k. w ++ ended (generator_lines k)) c.cert.view_is)
      (c.put.ensures.is _ (c.put_polynomial_lines-3.ensures.is _ (c.put_polynomial_lines-2.ensures.is _ (c.put_evidence_lines.ensures.is _ (c.put_polynomial_lines.ensures.is w says)))));
}
