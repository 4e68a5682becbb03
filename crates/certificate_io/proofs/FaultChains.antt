-- The first fault of a chain of sections.
use Rattle.std.proofs.Common.{◌≡◌, ◌≢◌, ◌∙◌, ℕ, ◌+◌, ◌<◌, ◌≤◌, Bool, true, false, List, [], ◌∷◌, Option, Some, None, length, refl, sym, ap, arith}
use Rattle.std.specs.Prelude.{AllPairs, All, nat_le, ◌==◌, ◌||◌, not}
use Rattle.std.specs.Option.{option_or}
use Rattle.std.specs.Str.{bytes_eq}
use Rattle.std.proofs.lemmas.Bool.{and_parts, lt-leb, le-leb, ne_eqb, eq-eqb}
use Rattle.std.proofs.lemmas.List.Elements.{All-nil, All-cons}
use Rattle.std.proofs.lemmas.List.Kept.{AllPairs-cons}
use Rattle.alg_core.specs.declared.value_kind.ValueKind.{ValueKind}
use Rattle.alg_core.specs.declared.value_kind.ValueKind.TheVariants as kinds
use Rattle.poly_text.specs.Syntax.{Term}
use Rattle.certificate_io.specs.LineReadings.{power_kind}
use Rattle.certificate_io.specs.PartFaults.{plain_of, marked_of, worded_of, heading_end, module_end, evidence_begin, evidence_end, words_begin, text_end, module_faults, evidence_faults, generator_faults}
use Rattle.certificate_io.specs.Parts.{TextParts}
use Rattle.certificate_io.specs.Readings.{AnswersFault, on_line, poly_kind, run_fault}
use Rattle.certificate_io.specs.Spaces.{plain_names, marked_names, word_names}
use Rattle.certificate_io.specs.Values.{are_distinct, checked, is_among, names_fault, nothing_seen}
use Rattle.certificate_io.specs.declared.fault.CertFault.{CertFault}
use Rattle.certificate_io.proofs.ClassCells.{same_bytes}
use Rattle.certificate_io.proofs.TextAnswers.{fault_of_first, fault_of_second}

abbrev Fault : Type 0
Fault = Option (ℕ × ValueKind)

pub chain_next : (a b : Fault) → a ≡ None → option_or a b ≡ b
chain_next a b none = ap (λ x. option_or x b) none

module _ (t : TextParts) where
  abbrev plain_run : ℕ → List (List Term) → Fault
  plain_run i xs = run_fault (λ _ ts. poly_kind (plain_of t) (plain_names t.names) ts) i 0 xs

  abbrev primaries : Fault
  primaries = plain_run (heading_end t + 1) t.primaries

  abbrev lifts : Fault
  lifts = run_fault (λ _ ts. poly_kind (marked_of t) (marked_names t.names (length t.primaries)) ts) (heading_end t + length t.primaries + 1) 0 t.lifts

  abbrev powers : Fault
  powers = run_fault (power_kind (marked_of t) (marked_names t.names (length t.primaries))) (heading_end t + length t.primaries + length t.lifts + 1) 0 t.powers

  abbrev enough : Fault
  enough = on_line (module_end t) (checked kinds.Count (nat_le (length t.names) (length t.powers)))

  pub primaries_fail : (e : CertFault) → AnswersFault e primaries → AnswersFault e (module_faults t)
  primaries_fail e h = fault_of_first e primaries (option_or lifts (option_or powers enough)) h

  module _ (p : primaries ≡ None) where
    pub lifts_fail : (e : CertFault) → AnswersFault e lifts → AnswersFault e (module_faults t)
    lifts_fail e h = fault_of_second e primaries (option_or lifts (option_or powers enough)) p (fault_of_first e lifts (option_or powers enough) h)

    module _ (l : lifts ≡ None) where
      pub powers_fail : (e : CertFault) → AnswersFault e powers → AnswersFault e (module_faults t)
      powers_fail e h = fault_of_second e primaries (option_or lifts (option_or powers enough)) p (fault_of_second e lifts (option_or powers enough) l (fault_of_first e powers enough h))

      module _ (w : powers ≡ None) where
        counted : module_faults t ≡ enough
        counted = chain_next primaries (option_or lifts (option_or powers enough)) p ∙ chain_next lifts (option_or powers enough) l ∙ chain_next powers enough w

        pub rank_fails : length t.powers < length t.names → module_faults t ≡ Some (module_end t, kinds.Count)
        rank_fails few = counted ∙ ap (λ b. on_line (module_end t) (checked kinds.Count b)) (lt-leb (length t.names) (length t.powers) few)

        pub module_passes : length t.names ≤ length t.powers → module_faults t ≡ None
        module_passes many = counted ∙ ap (λ b. on_line (module_end t) (checked kinds.Count b)) (le-leb (length t.names) (length t.powers) many)

  abbrev secondaries : Fault
  secondaries = plain_run (module_end t + 1) t.secondaries

  abbrev evident : Fault
  evident = evidence_faults t (evidence_begin t + 1) t.evidence

  abbrev irreducibles : Fault
  irreducibles = plain_run (evidence_end t + 1) t.irreducibles

  abbrev words : Fault
  words = run_fault (λ _ ts. poly_kind (worded_of t) (word_names (length t.primaries) (length t.irreducibles)) ts) (words_begin t + 1) 0 t.words

  abbrev ended : Fault
  ended = on_line (text_end t) (checked kinds.Count (length t.words == length t.secondaries))

  abbrev after_evidence : Fault
  after_evidence = option_or irreducibles (option_or words ended)

  pub secondaries_fail : (e : CertFault) → AnswersFault e secondaries → AnswersFault e (generator_faults t)
  secondaries_fail e h = fault_of_first e secondaries (option_or evident after_evidence) h

  module _ (s : secondaries ≡ None) where
    pub evidence_fails : (e : CertFault) → AnswersFault e evident → AnswersFault e (generator_faults t)
    evidence_fails e h = fault_of_second e secondaries (option_or evident after_evidence) s (fault_of_first e evident after_evidence h)

    module _ (v : evident ≡ None) where
      later : (e : CertFault) → AnswersFault e after_evidence → AnswersFault e (generator_faults t)
      later e h = fault_of_second e secondaries (option_or evident after_evidence) s (fault_of_second e evident after_evidence v h)

      pub irreducibles_fail : (e : CertFault) → AnswersFault e irreducibles → AnswersFault e (generator_faults t)
      irreducibles_fail e h = later e (fault_of_first e irreducibles (option_or words ended) h)

      module _ (i : irreducibles ≡ None) where
        pub words_fail : (e : CertFault) → AnswersFault e words → AnswersFault e (generator_faults t)
        words_fail e h = later e (fault_of_second e irreducibles (option_or words ended) i (fault_of_first e words ended h))

        module _ (w : words ≡ None) where
          closed : generator_faults t ≡ ended
          closed = chain_next secondaries (option_or evident after_evidence) s ∙ chain_next evident after_evidence v ∙ chain_next irreducibles (option_or words ended) i ∙ chain_next words ended w

          pub end_fails : length t.words ≢ length t.secondaries → generator_faults t ≡ Some (text_end t, kinds.Count)
          end_fails other = closed ∙ ap (λ b. on_line (text_end t) (checked kinds.Count b)) (ne_eqb (length t.words) (length t.secondaries) other)

          pub generators_pass : length t.words ≡ length t.secondaries → generator_faults t ≡ None
          generators_pass same = closed ∙ ap (λ b. on_line (text_end t) (checked kinds.Count b)) (eq-eqb (length t.words) (length t.secondaries) same)

-- names that pass are distinct
not_among : (w : List ℕ) (ws : List (List ℕ)) → not (is_among w ws) ≡ true → All (λ v. w ≢ v) ws
not_among w [] h = All-nil (λ v. w ≢ v)
not_among w (v ∷ ws) h =
    All-cons (λ u. w ≢ u) v ws (λ e. let found : bytes_eq w v ≡ true = ap (bytes_eq w) (sym e) ∙ same_bytes w in this (bytes_eq w v) found h) (not_among w ws (rest (bytes_eq w v) h))
  where
    this : (b : Bool) → b ≡ true → not (b || is_among w ws) ≡ true → ⊥
    this true found h = cc
    this false found h = cc

    rest : (b : Bool) → not (b || is_among w ws) ≡ true → not (is_among w ws) ≡ true
    rest true h = absurd cc
    rest false h = h

pub pairs_distinct : (ws : List (List ℕ)) → are_distinct ws ≡ true → AllPairs (λ v w. v ≢ w) ws
pairs_distinct [] h = λ i j d before low. absurd (omega (arith, low))
pairs_distinct (w ∷ ws) h =
    let parts = and_parts (not (is_among w ws)) (are_distinct ws) h in
    AllPairs-cons (λ v w. v ≢ w) w ws (not_among w ws parts.0) (pairs_distinct ws parts.1)

pub names_pass : (ws : List (List ℕ)) → on_line 3 (names_fault nothing_seen ws) ≡ None → are_distinct ws ≡ true
names_pass ws h = go (nat_le (length ws) 8) (are_distinct ws) h
  where
    go : (a b : Bool) → on_line 3 (option_or (checked kinds.Variables a) (checked kinds.Twice b)) ≡ None → b ≡ true
    go true true h = refl
    go true false h = absurd cc
    go false b h = absurd cc
