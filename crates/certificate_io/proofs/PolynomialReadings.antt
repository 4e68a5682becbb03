-- What the calls on polynomial texts tell of a text's tree.
use Rattle.std.proofs.Common.{◌≡◌, ◌∙◌, ℕ, List, [], ◌∷◌, Option, Some, None, length, map, refl, sym, ap}
use Rattle.std.specs.Prelude.{All}
use Rattle.std.specs.Option.{option_map}
use Rattle.std.proofs.lemmas.List.Elements.{All-nil, All-cons, All-head, All-tail}
use Rattle.alg_core.specs.Spaces.{SpaceOver, IsTerm as IsTermOf, entries}
use Rattle.alg_core.specs.Vectors.{Entry}
use Rattle.alg_core.specs.declared.value_kind.ValueKind.{ValueKind}
use Rattle.alg_core.specs.declared.term.Term.{Term as CodeTerm}
use Rattle.prime_field.specs.PrimeFields.{IsPrimeField}
use Rattle.poly_module.specs.declared.vector.Comb.{Comb}
use Rattle.poly_text.specs.Faults.{IsTextFault}
use Rattle.poly_text.specs.Syntax.{Term, IsText, IsTerm}
use Rattle.poly_text.specs.Texts.{by_position, polynomial_text, combination_term, combination_text}
use Rattle.poly_text.specs.Values.{first_fault, IsFault, IsReadableTerm}
use Rattle.poly_text.specs.declared.fault.TextFault.{TextFault}
use Rattle.poly_text.specs.declared.fault.TextFault.TheVariants as texts
use Rattle.poly_text.specs.declared.names.Names.{Names}
use Rattle.poly_text.proofs.PrintedLaws.{printed_values}
use Rattle.poly_text.proofs.CombinationLaws.{every_valued}
use Rattle.poly_text.proofs.CombinationReads.{mark_printed}
use Rattle.poly_text.proofs.PositionParts.{by_all, by_terms}
use Rattle.poly_text.proofs.Scans.{text_unique}
use Rattle.certificate_io.specs.Conditions.{IsPolynomialIn, IsCombinationIn}
use Rattle.certificate_io.specs.Readings.{fault_on, AnswersFault, on_line, poly_tree, comb_tree, poly_kind, comb_kind, CanRead}
use Rattle.certificate_io.specs.Values.{kind_of_fault}

-- a fault of the text is that of its tree
pub text_fault : (m : Option ℕ) (S : SpaceOver ℕ) (names : Names) (text : List ℕ) (ts : List Term) (line : ℕ) (e : TextFault) → IsText ts text → IsTextFault m S names text e
    → AnswersFault (fault_on line e) (on_line line (kind_of_fault m S names ts))
text_fault m S names text ts line (texts.Syntax n) is h = absurd (h.none ts is)
text_fault m S names text ts line (texts.Value term kind) is h =
    ap (λ f. on_line line (option_map (λ x. x.1) f)) (ap (first_fault m S names None 1) (text_unique text ts h.0 is h.1) ∙ h.2)
text_fault m S names text ts line texts.Memory is h = tt

module _ (S : SpaceOver ℕ) (p : ℕ) (prime : IsPrimeField p S.field) where
  -- the polynomial that is read has the text's tree, whose values pass
  pub polynomial_read : (names : Names) (can : CanRead S names) (text : List ℕ) (ts : List Term) (f : List (CodeTerm ℕ (List ℕ))) (line : ℕ) → IsText ts text → IsPolynomialIn S names f → polynomial_text S names (entries (λ m. m) f) ≡ text
      → (on_line line (poly_kind S names ts) ≡ None) × (IsPolynomialIn S names f × (poly_tree S names f ≡ ts))
  polynomial_read names can text ts f line is reads printed =
      let values = printed_values S names p (entries (λ m. m) f) prime can.places can.distinct can.variables reads.0.fits reads.0.position reads.1 in
      let same : poly_tree S names f ≡ ts = text_unique text (poly_tree S names f) ts (record { terms = values.2; spelled = printed }) is in (
        ap (λ l. on_line line (option_map (λ x. x.1) l)) (ap (first_fault None S names None 1) (sym same) ∙ values.1),
        (reads, same),
      )

  comb_short : (es : List (Entry ℕ)) → All (IsTermOf S) es → All (IsReadableTerm S) es → All IsTerm (map (combination_term S.field.characteristic) es)
  comb_short [] terms readable = All-nil IsTerm
  comb_short (e ∷ es) terms readable =
      All-cons IsTerm (combination_term S.field.characteristic e) (map (combination_term S.field.characteristic) es)
      (mark_printed S p e prime (All-head (IsTermOf S) e es terms) (All-head (IsReadableTerm S) e es readable)).short
      (comb_short es (All-tail (IsTermOf S) e es terms) (All-tail (IsReadableTerm S) e es readable))

  -- the tree of a combination is that of its text
  pub comb_text : (c : Comb ℕ) → IsCombinationIn S c.vector → IsText (comb_tree S c) (combination_text S (entries (λ m. m) c.vector))
  comb_text c reads =
      let es = entries (λ (m : List ℕ). m) c.vector in
      record {
        terms = comb_short (by_position (length S.shifts) es) (by_terms S (length S.shifts) es reads.0) (λ k d w. (by_all S (IsReadableTerm S) (length S.shifts) es reads.1 k d w).0);
        spelled = refl;
      }

  no_fault : (f : Option (ℕ × ValueKind)) → ((e : TextFault) → IsFault e f → e ≡ texts.Memory) → f ≡ None
  no_fault None h = refl
  no_fault (Some x) h = absurd (let bad = h (texts.Value x.0 x.1) refl in cc)

  -- and its values pass
  pub comb_passes : (c : Comb ℕ) → IsCombinationIn S c.vector → comb_kind S (comb_tree S c) ≡ None
  comb_passes c reads =
      ap (option_map (λ x. x.1)) (no_fault _ (every_valued S p prime (combination_text S (entries (λ m. m) c.vector)) (entries (λ m. m) c.vector) reads.0 reads.1 refl (comb_tree S c) (comb_text c reads)))

  pub combination_read : (text : List ℕ) (ts : List Term) (c : Comb ℕ) (line : ℕ) → IsText ts text → IsCombinationIn S c.vector → combination_text S (entries (λ m. m) c.vector) ≡ text
      → (on_line line (comb_kind S ts) ≡ None) × (IsCombinationIn S c.vector × (comb_tree S c ≡ ts))
  combination_read text ts c line is reads printed =
      let own = comb_text c reads in
      let same : comb_tree S c ≡ ts = text_unique text (comb_tree S c) ts (record { terms = own.terms; spelled = printed }) is in (
        ap (on_line line) (ap (comb_kind S) (sym same) ∙ comb_passes c reads),
        (reads, same),
      )
