-- The faults of a text, section by section, in words of its parts; the lines are counted as the calls that read them do.
--
--   heading_seen t          what the lines of the characteristic and the names tell
--   degrees_of t tss        the greatest degrees of these polynomials in the variables
--   plain_of, marked_of, combined_of, worded_of t   the spaces of the text
--   heading_end, module_end, evidence_begin, evidence_end, words_begin, text_end t
--                           the number of the last line: of the matrices and the order; of the rank; of the kind of the evidence; of the
--                           evidence; of the irreducible generators; of all lines
--   evidence_length e       how many lines the evidence e has, after that of its kind
--   heading_faults, module_faults, evidence_faults, generator_faults t   the first fault of the lines up to that of the order, of those
--                           up to that of the rank, of the evidence, of those after the rank
use Rattle.std.specs.Prelude.{ℕ, ◌+◌, ◌==◌, nat_le, List, [], ◌++◌, length, map, Option}
use Rattle.std.specs.Option.{option_or}
use Rattle.alg_core.specs.PolynomialSpaces.{plain_space, marked_space}
use Rattle.alg_core.specs.Spaces.{SpaceOver}
use Rattle.alg_core.specs.declared.value_kind.ValueKind.{ValueKind}
use Rattle.alg_core.specs.declared.value_kind.ValueKind.TheVariants as kinds
use Rattle.poly_text.specs.Syntax.{Term}
use Rattle.prime_field.specs.ListedPrimes.{is_listed}
use Rattle.certificate_io.specs.LineReadings.{power_kind, image_kind, member_kind}
use Rattle.certificate_io.specs.Parts.{EvidenceTree, Images, Kernel, TextParts}
use Rattle.certificate_io.specs.Readings.{on_line, run_fault, matrix_kind, poly_kind}
use Rattle.certificate_io.specs.Spaces.{field_at, combination_space, word_space, plain_names, marked_names, word_names}
use Rattle.certificate_io.specs.Values.{Seen, nothing_seen, tree_degree, checked, names_fault}

module _ (t : TextParts) where
  abbrev pub heading_seen : Seen
  heading_seen = record { characteristic = t.characteristic; names = t.names; powers = 0; degrees = []; secondary_degrees = []; irreducible_degrees = []; words = 0 }

  abbrev pub degrees_of : List (List Term) → List ℕ
  degrees_of tss = map (tree_degree heading_seen) tss

  abbrev pub plain_of : SpaceOver ℕ
  plain_of = plain_space (field_at t.characteristic) (length t.names)

  abbrev pub marked_of : SpaceOver ℕ
  marked_of = marked_space (field_at t.characteristic) (length t.names) (degrees_of t.primaries)

  abbrev pub combined_of : SpaceOver ℕ
  combined_of = combination_space (field_at t.characteristic) (degrees_of t.primaries) (degrees_of t.secondaries)

  abbrev pub worded_of : SpaceOver ℕ
  worded_of = word_space (field_at t.characteristic) (degrees_of t.primaries ++ degrees_of t.irreducibles)

  abbrev pub heading_end : ℕ
  heading_end = 4 + length t.matrices

  abbrev pub heading_faults : Option (ℕ × ValueKind)
  heading_faults =
      option_or (on_line 2 (checked kinds.Field (is_listed t.characteristic)))
      (option_or (on_line 3 (names_fault nothing_seen t.names)) (run_fault (λ _ cs. matrix_kind t.characteristic (length t.names) cs) 4 0 t.matrices))

  abbrev pub module_end : ℕ
  module_end = heading_end + length t.primaries + length t.lifts + (length t.powers + 1)

  abbrev pub module_faults : Option (ℕ × ValueKind)
  module_faults =
      let names = marked_names t.names (length t.primaries) in
      option_or (run_fault (λ _ ts. poly_kind plain_of (plain_names t.names) ts) (heading_end + 1) 0 t.primaries)
      (option_or (run_fault (λ _ ts. poly_kind marked_of names ts) (heading_end + length t.primaries + 1) 0 t.lifts)
      (option_or (run_fault (power_kind marked_of names) (heading_end + length t.primaries + length t.lifts + 1) 0 t.powers)
      (on_line module_end (checked kinds.Count (nat_le (length t.names) (length t.powers))))))

  abbrev pub evidence_begin : ℕ
  evidence_begin = module_end + (length t.secondaries + 1)

  abbrev pub evidence_faults : ℕ → EvidenceTree → Option (ℕ × ValueKind)
  evidence_faults i (Images xs) = run_fault (λ _ x. image_kind plain_of combined_of (plain_names t.names) x) i 0 xs
  evidence_faults i (Kernel xs) = run_fault (λ _ x. member_kind marked_of combined_of (marked_names t.names (length t.primaries)) x) i 0 xs

  abbrev pub evidence_length : EvidenceTree → ℕ
  evidence_length (Images xs) = length xs
  evidence_length (Kernel xs) = length xs

  abbrev pub evidence_end : ℕ
  evidence_end = evidence_begin + evidence_length t.evidence

  abbrev pub words_begin : ℕ
  words_begin = evidence_end + length t.irreducibles

  abbrev pub text_end : ℕ
  text_end = words_begin + (length t.words + 1)

  abbrev pub generator_faults : Option (ℕ × ValueKind)
  generator_faults =
      let plain : ℕ → List Term → Option ValueKind = λ _ ts. poly_kind plain_of (plain_names t.names) ts in
      option_or (run_fault plain (module_end + 1) 0 t.secondaries)
      (option_or (evidence_faults (evidence_begin + 1) t.evidence)
      (option_or (run_fault plain (evidence_end + 1) 0 t.irreducibles)
      (option_or (run_fault (λ _ ts. poly_kind worded_of (word_names (length t.primaries) (length t.irreducibles)) ts) (words_begin + 1) 0 t.words)
      (on_line text_end (checked kinds.Count (length t.words == length t.secondaries))))))
