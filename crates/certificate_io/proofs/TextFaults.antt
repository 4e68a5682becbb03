-- The first fault of a text, section by section.
use Rattle.std.proofs.Common.{◌≡◌, ◌∙◌, ℕ, suc, ◌+◌, List, [], ◌∷◌, ◌++◌, Option, Some, None, length, map, refl, sym, ap, ap₂, arith}
use Rattle.std.specs.Prelude.{nat_le, ◌==◌}
use Rattle.std.specs.Option.{option_or}
use Rattle.std.proofs.lemmas.List.{length-map}
use Rattle.alg_core.specs.declared.value_kind.ValueKind.{ValueKind}
use Rattle.alg_core.specs.declared.value_kind.ValueKind.TheVariants as kinds
use Rattle.poly_text.specs.Syntax.{Term}
use Rattle.prime_field.specs.ListedPrimes.{is_listed}
use Rattle.certificate_io.specs.LineReadings.{power_kind, member_kind}
use Rattle.certificate_io.specs.PartFaults.{heading_seen, degrees_of, plain_of, marked_of, combined_of, worded_of, heading_end, module_end, evidence_begin, evidence_end, words_begin, text_end, heading_faults, module_faults, evidence_faults, evidence_length, generator_faults}
use Rattle.certificate_io.specs.Parts.{EvidenceTree, Images, Kernel, TextParts, power_line, image_line, member_line, evidence_lines, lines_in}
use Rattle.certificate_io.specs.Readings.{on_line, run_fault, matrix_kind, poly_kind}
use Rattle.certificate_io.specs.Spaces.{plain_names, marked_names, word_names}
use Rattle.certificate_io.specs.Syntax.{LineTree, VersionLine, FieldLine, NamesLine, MatrixLine, OrderLine, PrimaryLine, LiftLine, RankLine, SecondaryLine, IrreducibleLine, WordLine, EndLine}
use Rattle.certificate_io.specs.Values.{Seen, nothing_seen, tree_degree, checked, names_fault, first_fault}
use Rattle.certificate_io.proofs.SectionFaults.{one_line, matrices_chain, primaries_chain, lifts_chain, powers_chain, secondaries_chain, images_chain, members_chain, irreducibles_chain, words_chain}

or_assoc : {A : Type 0} (a b c : Option A) → option_or (option_or a b) c ≡ option_or a (option_or b c)
or_assoc None b c = refl
or_assoc (Some x) b c = refl

module _ (t : TextParts) where
  abbrev module_seen : Seen
  module_seen = record { characteristic = t.characteristic; names = t.names; powers = length t.powers; degrees = degrees_of t t.primaries; secondary_degrees = []; irreducible_degrees = []; words = 0 }

  module _ (more : List LineTree) where
    -- from the line after the words on
    heading_chain : first_fault 1 nothing_seen (VersionLine ∷ FieldLine t.characteristic ∷ NamesLine t.names ∷ (map MatrixLine t.matrices ++ (OrderLine t.order ∷ more)))
        ≡ option_or (heading_faults t) (first_fault (heading_end t + 1) (heading_seen t) more)
    heading_chain =
        let s = heading_seen t in
        let field = on_line 2 (checked kinds.Field (is_listed t.characteristic)) in
        let names = on_line 3 (names_fault nothing_seen t.names) in
        let matrices = run_fault (λ _ cs. matrix_kind t.characteristic (length t.names) cs) 4 0 t.matrices in
        let e : suc (heading_end t) ≡ heading_end t + 1 = omega arith in
        let rest : first_fault (heading_end t) s (OrderLine t.order ∷ more) ≡ first_fault (heading_end t + 1) s more = ap (λ n. first_fault n s more) e in
        one_line 2 (checked kinds.Field (is_listed t.characteristic)) _
        ∙ ap (option_or field) (one_line 3 (names_fault nothing_seen t.names) _ ∙ ap (option_or names) (matrices_chain 4 s (OrderLine t.order ∷ more) t.matrices ∙ ap (option_or matrices) rest)
        ∙ sym (or_assoc names matrices (first_fault (heading_end t + 1) s more)))
        ∙ sym (or_assoc field (option_or names matrices) (first_fault (heading_end t + 1) s more))

    module_chain : first_fault (heading_end t + 1) (heading_seen t) (map PrimaryLine t.primaries ++ (map LiftLine t.lifts ++ (map power_line t.powers ++ (RankLine t.rank ∷ more))))
        ≡ option_or (module_faults t) (first_fault (module_end t + 1) module_seen more)
    module_chain =
        let s = heading_seen t in
        let h = heading_end t in
        let np = length t.primaries in
        let nl = length t.lifts in
        let nw = length t.powers in
        let z : Seen = record s { degrees = degrees_of t t.primaries } in
        let counted : length (degrees_of t t.primaries) ≡ np = length-map t.primaries (tree_degree s) in
        let names = marked_names t.names np in
        let primaries = run_fault (λ _ ts. poly_kind (plain_of t) (plain_names t.names) ts) (h + 1) 0 t.primaries in
        let lifts = run_fault (λ _ ts. poly_kind (marked_of t) names ts) (h + np + 1) 0 t.lifts in
        let powers = run_fault (power_kind (marked_of t) names) (h + np + nl + 1) 0 t.powers in
        let count = on_line (module_end t) (checked kinds.Count (nat_le (length t.names) nw)) in
        let last = first_fault (module_end t + 1) module_seen more in
        let at_lifts : (h + 1) + np ≡ h + np + 1 = omega arith in
        let at_powers : (h + np + 1) + nl ≡ h + np + nl + 1 = omega arith in
        let at_rank : (h + np + nl + 1) + nw ≡ module_end t = omega arith in
        let next : suc (module_end t) ≡ module_end t + 1 = omega arith in
        let none : 0 + nw ≡ nw = omega arith in
        let ranks : first_fault (module_end t) module_seen (RankLine t.rank ∷ more) ≡ option_or count last =
        one_line (module_end t) (checked kinds.Count (nat_le (length t.names) nw)) (first_fault (suc (module_end t)) module_seen more) ∙ ap (λ n. option_or count (first_fault n module_seen more)) next in
        let from_powers : first_fault (h + np + nl + 1) z (map power_line t.powers ++ (RankLine t.rank ∷ more)) ≡ option_or powers (option_or count last) =
        powers_chain (h + np + nl + 1) z (RankLine t.rank ∷ more) t.powers
        ∙ ap (λ r. option_or (run_fault (power_kind (marked_of t) (marked_names t.names r)) (h + np + nl + 1) 0 t.powers) (first_fault ((h + np + nl + 1) + nw) (record z { powers = 0 + nw }) (RankLine t.rank ∷ more))) counted
        ∙ ap (option_or powers) (ap₂ (λ n m. first_fault n (record z { powers = m }) (RankLine t.rank ∷ more)) at_rank none ∙ ranks) in
        let from_lifts : first_fault (h + np + 1) z (map LiftLine t.lifts ++ (map power_line t.powers ++ (RankLine t.rank ∷ more))) ≡ option_or lifts (option_or powers (option_or count last)) =
        lifts_chain (h + np + 1) z (map power_line t.powers ++ (RankLine t.rank ∷ more)) t.lifts
        ∙ ap (λ r. option_or (run_fault (λ _ ts. poly_kind (marked_of t) (marked_names t.names r) ts) (h + np + 1) 0 t.lifts) (first_fault ((h + np + 1) + nl) z (map power_line t.powers ++ (RankLine t.rank ∷ more)))) counted
        ∙ ap (option_or lifts) (ap (λ n. first_fault n z (map power_line t.powers ++ (RankLine t.rank ∷ more))) at_powers ∙ from_powers) in
        primaries_chain (h + 1) s (map LiftLine t.lifts ++ (map power_line t.powers ++ (RankLine t.rank ∷ more))) t.primaries
        ∙ ap (option_or primaries) (ap (λ n. first_fault n z (map LiftLine t.lifts ++ (map power_line t.powers ++ (RankLine t.rank ∷ more)))) at_lifts ∙ from_lifts)
        ∙ sym (or_assoc primaries (option_or lifts (option_or powers count)) last ∙ ap (option_or primaries) (or_assoc lifts (option_or powers count) last ∙ ap (option_or lifts) (or_assoc powers count last)))

  abbrev evidence_seen : Seen
  evidence_seen = record { characteristic = t.characteristic; names = t.names; powers = length t.powers; degrees = degrees_of t t.primaries; secondary_degrees = degrees_of t t.secondaries; irreducible_degrees = []; words = 0 }

  evidence_chain : (i : ℕ) (e : EvidenceTree) (more : List LineTree)
      → first_fault i (evidence_seen) (evidence_lines e ++ more) ≡ option_or (evidence_faults t (i + 1) e) (first_fault (i + 1 + evidence_length t e) evidence_seen more)
  evidence_chain i (Images xs) more = let next : suc i ≡ i + 1 = omega arith in ap (λ n. first_fault n evidence_seen (map image_line xs ++ more)) next ∙ images_chain (i + 1) evidence_seen more xs
  evidence_chain i (Kernel xs) more =
      let next : suc i ≡ i + 1 = omega arith in
      let counted : length (degrees_of t t.primaries) ≡ length t.primaries = length-map t.primaries (tree_degree (heading_seen t)) in
      ap (λ n. first_fault n evidence_seen (map member_line xs ++ more)) next ∙ members_chain (i + 1) evidence_seen more xs
      ∙ ap (λ r. option_or (run_fault (λ _ x. member_kind (marked_of t) (combined_of t) (marked_names t.names r) x) (i + 1) 0 xs) (first_fault (i + 1 + length xs) evidence_seen more)) counted

  generator_chain : first_fault (module_end t + 1) module_seen (map SecondaryLine t.secondaries ++ (evidence_lines t.evidence ++ (map IrreducibleLine t.irreducibles ++ (map WordLine t.words ++ (EndLine ∷ []))))) ≡ generator_faults t
  generator_chain =
      let z = evidence_seen in
      let y : Seen = record z { irreducible_degrees = degrees_of t t.irreducibles } in
      let ns = length t.secondaries in
      let ni = length t.irreducibles in
      let nw = length t.words in
      let in_primaries : length (degrees_of t t.primaries) ≡ length t.primaries = length-map t.primaries (tree_degree (heading_seen t)) in
      let in_secondaries : length (degrees_of t t.secondaries) ≡ ns = length-map t.secondaries (tree_degree (heading_seen t)) in
      let in_irreducibles : length (degrees_of t t.irreducibles) ≡ ni = length-map t.irreducibles (tree_degree (heading_seen t)) in
      let at_evidence : (module_end t + 1) + ns ≡ evidence_begin t = omega arith in
      let at_irreducibles : evidence_begin t + 1 + evidence_length t t.evidence ≡ evidence_end t + 1 = omega arith in
      let at_words : (evidence_end t + 1) + ni ≡ words_begin t + 1 = omega arith in
      let at_end : (words_begin t + 1) + nw ≡ text_end t = omega arith in
      let none : 0 + nw ≡ nw = omega arith in
      let plain : ℕ → List Term → Option ValueKind = λ _ ts. poly_kind (plain_of t) (plain_names t.names) ts in
      let secondaries = run_fault plain (module_end t + 1) 0 t.secondaries in
      let evidence = evidence_faults t (evidence_begin t + 1) t.evidence in
      let irreducibles = run_fault plain (evidence_end t + 1) 0 t.irreducibles in
      let words = run_fault (λ _ ts. poly_kind (worded_of t) (word_names (length t.primaries) ni) ts) (words_begin t + 1) 0 t.words in
      let end_lines = EndLine ∷ [] in
      let word_lines = map WordLine t.words ++ end_lines in
      let irreducible_lines = map IrreducibleLine t.irreducibles ++ word_lines in
      let ends : first_fault (text_end t) (record y { words = nw }) end_lines ≡ on_line (text_end t) (checked kinds.Count (nw == ns)) = ap (λ m. on_line (text_end t) (checked kinds.Count (nw == m))) in_secondaries in
      let from_words : first_fault (words_begin t + 1) y word_lines ≡ option_or words (on_line (text_end t) (checked kinds.Count (nw == ns))) =
      words_chain (words_begin t + 1) y end_lines t.words
      ∙ ap₂ (λ r q. option_or (run_fault (λ _ ts. poly_kind (worded_of t) (word_names r q) ts) (words_begin t + 1) 0 t.words) (first_fault ((words_begin t + 1) + nw) (record y { words = 0 + nw }) end_lines)) in_primaries in_irreducibles
      ∙ ap (option_or words) (ap₂ (λ n m. first_fault n (record y { words = m }) end_lines) at_end none ∙ ends) in
      let from_irreducibles : first_fault (evidence_end t + 1) z irreducible_lines ≡ option_or irreducibles (option_or words (on_line (text_end t) (checked kinds.Count (nw == ns)))) =
      irreducibles_chain (evidence_end t + 1) z word_lines t.irreducibles ∙ ap (option_or irreducibles) (ap (λ n. first_fault n y word_lines) at_words ∙ from_words) in
      let from_evidence : first_fault (evidence_begin t) z (evidence_lines t.evidence ++ irreducible_lines) ≡ option_or evidence (option_or irreducibles (option_or words (on_line (text_end t) (checked kinds.Count (nw == ns))))) =
      evidence_chain (evidence_begin t) t.evidence irreducible_lines ∙ ap (option_or evidence) (ap (λ n. first_fault n z irreducible_lines) at_irreducibles ∙ from_irreducibles) in
      secondaries_chain (module_end t + 1) module_seen (evidence_lines t.evidence ++ irreducible_lines) t.secondaries
      ∙ ap (option_or secondaries) (ap (λ n. first_fault n z (evidence_lines t.evidence ++ irreducible_lines)) at_evidence ∙ from_evidence)

  -- the faults of a text are those of its sections
  pub text_faults : first_fault 1 nothing_seen (lines_in t) ≡ option_or (heading_faults t) (option_or (module_faults t) (generator_faults t))
  unfolding lines_in
  text_faults =
      let generators = map SecondaryLine t.secondaries ++ (evidence_lines t.evidence ++ (map IrreducibleLine t.irreducibles ++ (map WordLine t.words ++ (EndLine ∷ [])))) in
      let others = map PrimaryLine t.primaries ++ (map LiftLine t.lifts ++ (map power_line t.powers ++ (RankLine t.rank ∷ generators))) in
      heading_chain others ∙ ap (option_or (heading_faults t)) (module_chain generators ∙ ap (option_or (module_faults t)) generator_chain)
