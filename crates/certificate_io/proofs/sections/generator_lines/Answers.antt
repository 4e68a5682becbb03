use Rattle.std.proofs.Common.{◌≡◌, ℕ, ◌+◌, List, [], ◌∷◌, ◌++◌, length, map, refl, subst, append-nil, arith}
use Rattle.std.specs.Prelude.{All}
use Rattle.poly_text.specs.Syntax.{spelling}
use Rattle.certificate_io.specs.PartFaults.{module_end, evidence_begin, evidence_end, evidence_length, words_begin, text_end}
use Rattle.certificate_io.specs.Parts.{evidence_lines}
use Rattle.certificate_io.specs.Sections.{section_kind, StopsLines, IsSection}
use Rattle.certificate_io.specs.Syntax.{LineTree, SecondaryLine, IrreducibleLine, WordLine, EndLine, kind_of}
use Rattle.certificate_io.specs.declared.line_kind.LineKind.TheVariants as kinds
use Rattle.certificate_io.proofs.SectionRuns.{in_run, run_of, stops_run, after_run, renumbered, stops_evidence, evidence_cut, others_stop}
use Rattle.certificate_io.proofs.sections.generator_lines.Goals as goal

pub returns-clause-is : goal.returns-clause-is
returns-clause-is c =
    λ t s.
    let first = module_end t + 1 in
    let third = evidence_end t + 1 in
    let fourth = words_begin t + 1 in
    let ended = map WordLine t.words ++ (EndLine ∷ []) in
    let reducible = map IrreducibleLine t.irreducibles ++ ended in
    let evident = evidence_lines t.evidence ++ reducible in
    let m = c.split_run.ensures.is first (map SecondaryLine t.secondaries) evident s (in_run SecondaryLine kinds.Secondary (λ x. refl) t.secondaries) (stops_evidence t.evidence reducible) in
    let before = renumbered (first + length t.secondaries) (evidence_begin t) evident c.split_run.result.1 (omega arith) (after_run SecondaryLine first t.secondaries evident c.split_run.result.1 m.1) in
    let cut = subst (λ k. (i : ℕ) (ls ms : List LineTree) → IsSection i (ls ++ ms) c.split_line.result.1 → All (λ l. section_kind (kind_of l) ≡ k) ls → StopsLines k ms
    → IsSection i ls c.split_run-2.result.0 × IsSection (i + length ls) ms c.split_run-2.result.1) c.evidence_kind.ensures.is c.split_run-2.ensures.is in
    let e = evidence_cut t t.evidence c.begins_with-by_kernel.result (evidence_begin t) reducible c.split_run.result.1 c.split_line.result.1 c.split_run-2.result.0 c.split_run-2.result.1
    before c.begins_with-by_kernel.ensures.is (λ i l ls h. (c.split_line.ensures.is i l ls h).1) cut (others_stop t.irreducibles t.words) in
    let i = c.split_run-3.ensures.is third (map IrreducibleLine t.irreducibles) ended (renumbered (evidence_begin t + 1 + evidence_length t t.evidence) third reducible c.split_run-2.result.1 (omega arith) e.1)
    (in_run IrreducibleLine kinds.Irreducible (λ x. refl) t.irreducibles) (stops_run WordLine kinds.Irreducible (λ x e. absurd cc) t.words (EndLine ∷ []) (λ e. absurd cc)) in
    let w = c.split_run-4.ensures.is fourth (map WordLine t.words) (EndLine ∷ [])
    (renumbered (third + length t.irreducibles) fourth ended c.split_run-3.result.1 (omega arith) (after_run IrreducibleLine third t.irreducibles ended c.split_run-3.result.1 i.1))
    (in_run WordLine kinds.Word (λ x. refl) t.words) (λ e. absurd cc) in
    record {
      secondaries = run_of SecondaryLine spelling (λ x. append-nil (spelling x)) first t.secondaries c.split_run.result.0 m.0;
      evidence = e.0;
      irreducibles = run_of IrreducibleLine spelling (λ x. append-nil (spelling x)) third t.irreducibles c.split_run-3.result.0 i.0;
      words = run_of WordLine spelling (λ x. append-nil (spelling x)) fourth t.words c.split_run-4.result.0 w.0;
      end_line = (renumbered (fourth + length t.words) (text_end t) (EndLine ∷ []) c.split_run-4.result.1 (omega arith) (after_run WordLine fourth t.words (EndLine ∷ []) c.split_run-4.result.1 w.1)).0;
    }
