use Rattle.std.proofs.Common.{◌++◌, ◌∷◌, map, ◌∙◌, ap, refl, sym, subst, append_assoc}
use Rattle.std.specs.Prelude.{All, codes}
use Rattle.poly_text.proofs.OutputLaws.{says_same}
use Rattle.certificate_io.specs.Certificates.{evidence_of}
use Rattle.certificate_io.specs.Printable.{IsPrintableComb, AreEvidence}
use Rattle.certificate_io.specs.Texts.{ended, image_line, member_line, evidence_lines}
use Rattle.certificate_io.proofs.lines.put_evidence_lines.Goals as goal

pub put_image_lines-requires : goal.put_image_lines-requires
put_image_lines-requires c = record {
  printable = subst (All (λ x. IsPrintableComb c.args.p c.args.count x.comb)) (sym c.deref.ensures.value)
      (subst (λ e. AreEvidence c.args.p c.args.count (evidence_of e)) c.in-Reynolds.is c.requires.printable);
}

pub returns-in-Reynolds : goal.returns-in-Reynolds
returns-in-Reynolds c =
    let line = image_line c.args.p c.args.names.now c.args.count in
    record {
      is = λ w says. says_same _ _ _ _ refl
          (append_assoc w (codes "evidence reynolds\n") (ended (map line c.deref.result.now)) ∙ ap (λ l. w ++ ended (codes "evidence reynolds" ∷ map line l)) c.deref.ensures.value
          ∙ ap (λ e. w ++ ended (evidence_lines c.args.p c.args.names.now c.args.primaries c.args.count (evidence_of e))) (sym c.in-Reynolds.is))
          (c.put_image_lines.ensures.is _ (c.put.ensures.is w says));
    }

pub returns-in-Kernel : goal.returns-in-Kernel
returns-in-Kernel c =
    let line = member_line c.args.p c.args.names.now c.args.primaries c.args.count in
    record {
      is = λ w says. says_same _ _ _ _ refl
          (append_assoc w (codes "evidence kernel\n") (ended (map line c.deref-in-Kernel.result.now)) ∙ ap (λ l. w ++ ended (codes "evidence kernel" ∷ map line l)) c.deref-in-Kernel.ensures.value
          ∙ ap (λ e. w ++ ended (evidence_lines c.args.p c.args.names.now c.args.primaries c.args.count (evidence_of e))) (sym c.in-Kernel.is))
          (c.put_member_lines.ensures.is _ (c.put-in-Kernel.ensures.is w says));
    }
