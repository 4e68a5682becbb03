use Rattle.std.proofs.Common.{◌<◌, ◌++◌, ◌∙◌, map, ap, refl, sym, subst}
use Rattle.std.specs.Prelude.{All}
use Rattle.poly_text.proofs.OutputLaws.{says_same}
use Rattle.certificate_io.specs.Certificates.{MatrixOf, matrix_of}
use Rattle.certificate_io.specs.Printable.{IsPrintable}
use Rattle.certificate_io.specs.Texts.{ended, heading_lines}
use Rattle.certificate_io.proofs.LineLaws.{all_of_map}
use Rattle.certificate_io.proofs.CertificateLines.{heading_put}
use Rattle.certificate_io.proofs.print.put_heading.Goals as goal

pub put_matrix_lines-requires : goal.put_matrix_lines-requires
put_matrix_lines-requires c =
    let printable = subst IsPrintable (sym c.cert.view_is) c.requires.printable in
    record {
      below = subst (All (λ m. All (λ x. x < c.cert.inside.characteristic) m.cells.items)) (sym c.as_slice-2.ensures.value)
          (all_of_map (λ (m : MatrixOf _). All (λ x. x < c.cert.inside.characteristic) m.cells) matrix_of c.cert.inside.matrices.items printable.matrices);
    }

pub returns : goal.returns
returns c = record {
  is = λ w says. says_same _ _ _ _ refl
      (heading_put w _ c.from.result c.as_slice.result.now (map matrix_of c.as_slice-2.result.now) c.from.ensures c.as_slice.ensures.value (ap (map matrix_of) c.as_slice-2.ensures.value) ∙ ap (λ k. w ++ ended (heading_lines k)) c.cert.view_is)
      (c.put_number_line-2.ensures.is _ (c.put_matrix_lines.ensures.is _ (c.put_names_line.ensures.is _ (c.put_number_line.ensures.is _ (c.put.ensures.is w says)))));
}
