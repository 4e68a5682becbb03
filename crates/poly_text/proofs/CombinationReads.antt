-- Terms of a combination whose values pass are those that are printed for their entries.
use Rattle.std.proofs.Common.{◌≡◌, ◌≢◌, ◌∙◌, ℕ, ◌+◌, ◌-◌, ◌<◌, ◌≤◌, true, List, [], ◌∷◌, ◌++◌, Option, Some, None, length, get_or, refl, sym, ap, ap₂, subst, arith}
use Rattle.std.specs.Prelude.{All, ◌&&◌, nat_le}
use Rattle.std.proofs.lemmas.Bool.{and_from, and_parts, le-leb, leb-true}
use Rattle.std.proofs.lemmas.List.{map-append}
use Rattle.std.proofs.lemmas.List.Elements.{All-nil, All-cons, All-append}
use Rattle.std.proofs.lemmas.List.Folds.{list_all-append}
use Rattle.alg_core.specs.Keys.{TermPlace}
use Rattle.alg_core.specs.Spaces.{SpaceOver, IsTerm as IsTermOf}
use Rattle.alg_core.specs.Vectors.{Entry}
use Rattle.prime_field.specs.PrimeFields.{IsPrimeField}
use Rattle.alg_core.specs.declared.value_kind.ValueKind.TheVariants as kinds
use Rattle.poly_text.specs.declared.names.Names.{Names}
use Rattle.poly_text.specs.declared.syntax.Mark.TheVariants.{Primary, Secondary}
use Rattle.poly_text.specs.Syntax.{Marked, Factor, Term, IsVariable, IsFactor, IsTerm}
use Rattle.poly_text.specs.Texts.{place_count, variable_at, factors_from, combination_term}
use Rattle.poly_text.specs.Values.{is_known, is_within, place, are_small, term_conditions, value_of, are_known, are_within, has_ending, last_index, places, rise, exponents_from, exponent_at, is_printed, entry_of, falls, place_conditions, conditions, first_failed, IsIndexed, IsReadableTerm, mark_names}
use Rattle.poly_text.proofs.FactorSteps.{rise_from, rise_start, length-exponents_from}
use Rattle.poly_text.proofs.EntrySteps.{passes, factors_pass, place_passes}
use Rattle.poly_text.proofs.PrintedLaws.{pass, prime_listed, prime_value, small_exponents, exponents_at, occurring_indexed}
use Rattle.poly_text.proofs.PrintedValues.{printed_value, value_printed}
use Rattle.poly_text.proofs.PrintedFactors.{AreFactorsOf, printed_factors}
use Rattle.poly_text.proofs.VariablePlaces.{variable_stands}
use Rattle.poly_text.proofs.CombinationFactors.{mark_factor, last_mark, last_index_is, ends_with_mark, rise_more, factors_same, all_more, exponents_last, ArePlain, before_mark, factors_split, mark_at, marks_back}

-- factors that pass, taken apart
record IsParted (r n : ℕ) (fs : List Factor) : Type 0 where
  init : List Factor
  index : ℕ
  is : fs ≡ init ++ (mark_factor index ∷ [])
  plain : ArePlain (mark_names r) n init
  short : All IsFactor init
  index_short : (1 ≤ index) × (index ≤ 99999)

parted : (r n : ℕ) (fs : List Factor) → All IsFactor fs → are_known (Some n) (mark_names r) fs ≡ true → are_within (Some n) (mark_names r) fs ≡ true
    → (has_ending (Some n) fs && rise (places (mark_names r) fs)) ≡ true → IsParted r n fs
parted r n fs short known within rises =
    let names = mark_names r in
    let parts = and_parts _ _ rises in
    let last = last_mark fs parts.0 in
    let shorts = factors_split IsFactor last.0 (mark_factor last.1) (subst (All IsFactor) last.2 short) in
    record {
      init = last.0;
      index = last.1;
      is = last.2;
      plain = before_mark names n last.0 last.1 (subst (λ l. are_known (Some n) names l ≡ true) last.2 known) (subst (λ l. are_within (Some n) names l ≡ true) last.2 within)
          (subst (λ l. rise (places names l) ≡ true) last.2 parts.1);
      short = shorts.0;
      index_short = shorts.1.variable;
    }

factors_printed : (r n : ℕ) (fs : List Factor) → IsParted r n fs
    → factors_from (λ i. Marked Primary (i + 1)) 0 (exponents_from (mark_names r) (place_count (mark_names r)) 0 fs) ++ (mark_factor (last_index fs - 1 + 1) ∷ []) ≡ fs
factors_printed r n fs p =
    subst (λ l. factors_from (λ i. Marked Primary (i + 1)) 0 (exponents_from (mark_names r) (place_count (mark_names r)) 0 l) ++ (mark_factor (last_index l - 1 + 1) ∷ []) ≡ l) (sym p.is)
    (marks_back r n p.init p.index p.plain p.short p.index_short.0)

module _ (S : SpaceOver ℕ) where
  abbrev pub marks : Names
  marks = mark_names (length S.weights)

  abbrev pub kind : Option ℕ
  kind = Some (length S.shifts)

  mark_low : (t : Term) (p : IsParted (length S.weights) (length S.shifts) t.factors) (i : ℕ) → i < length (entry_of kind S marks t).0.1 → get_or (entry_of kind S marks t).0.1 i 0 ≢ 0 → i + 1 ≤ 99999
  mark_low t p i below some =
      let k = place_count marks in
      let low : i < place_count marks = subst (λ c. i < c) (length-exponents_from marks k 0 t.factors) below in
      let same : exponents_from marks (place_count marks) 0 t.factors ≡ exponents_from marks (place_count marks) 0 p.init =
      ap (exponents_from marks k 0) p.is ∙ exponents_last marks k 0 p.init (mark_factor p.index) (omega arith) in
      let occurs : exponent_at marks p.init i ≢ 0 = λ none. some (ap (λ l. get_or l i 0) same ∙ exponents_at S marks k 0 i p.init low ∙ ap (exponent_at marks p.init) (omega arith) ∙ none) in
      subst IsIndexed (mark_at (length S.weights) i low) (occurring_indexed S marks p.init i p.short p.plain.known p.plain.within occurs)

  -- a term that passes is the one that is printed for its entry, which can be read
  pub combination_read : (before : Option TermPlace) (t : Term) → IsTerm t → first_failed (conditions kind S marks before t) ≡ None
      → (combination_term S.field.characteristic (entry_of kind S marks t) ≡ t) × IsReadableTerm S (entry_of kind S marks t) × (falls kind S before (entry_of kind S marks t).0 ≡ true)
  combination_read before t short passed =
      let q = S.field.characteristic in
      let fs = t.factors in
      let e = entry_of kind S marks t in
      let found = factors_pass kind marks fs ((is_printed q t, kinds.Coefficient) ∷ place_conditions kind S before e.0) passed in
      let printed = passes (is_printed q t) kinds.Coefficient (place_conditions kind S before e.0) found.4 in
      let placed = place_passes kind S before e.0 printed.1 in
      let p = parted (length S.weights) (length S.shifts) fs short.factors found.0 found.1 found.2 in
      let value = value_printed q t printed.0 in
      let index_low = p.index_short.1 in
      let index_some = p.index_short.0 in
      let index : last_index t.factors ≡ p.index = ap last_index p.is ∙ last_index_is p.init p.index in (
        ap (λ b. record { is_negative = b; coefficient = (combination_term q e).coefficient; factors = (combination_term q e).factors }) value.0
            ∙ ap₂ (λ c l. record { is_negative = t.is_negative; coefficient = c; factors = l }) value.1 (factors_printed (length S.weights) (length S.shifts) fs p),
        record {
          degree = leb-true _ _ placed.0;
          exponents = small_exponents S marks (place_count marks) 0 fs found.3;
          marks = mark_low t p;
          secondary = omega arith;
        },
        placed.1,
      )

  -- the term that is printed for an entry
  pub record IsPrintedMark (e : Entry ℕ) : Type 0 where
    pub same : entry_of kind S marks (combination_term S.field.characteristic e) ≡ e
    pub short : IsTerm (combination_term S.field.characteristic e)
    pub passing : first_failed (term_conditions kind S.field.characteristic marks (combination_term S.field.characteristic e)) ≡ None

  marks_of : (a : List ℕ) → length a ≡ length S.weights → All (λ x. x ≤ 4096) a → ((i : ℕ) → i < length a → get_or a i 0 ≢ 0 → i + 1 ≤ 99999)
      → AreFactorsOf marks 0 a (factors_from (λ i. Marked Primary (i + 1)) 0 a)
  marks_of a wide small indices =
      subst (AreFactorsOf marks 0 a) (factors_same (variable_at marks) (λ i. Marked Primary (i + 1)) 0 a (λ i low high. mark_at (length S.weights) i (omega arith)))
      (printed_factors marks 0 a (λ i low high. variable_stands marks i (λ i j w low high. absurd (omega arith)) (omega arith)) small
      (λ i below some. let low : i + 1 ≤ 99999 = indices i below some in let same : i ≡ 0 + i = omega arith in let some : 1 ≤ i + 1 = omega arith in
      subst (λ v. IsVariable v) (sym (ap (variable_at marks) (sym same) ∙ mark_at (length S.weights) i (omega arith))) (some, low)))

  pub mark_printed : (p : ℕ) (e : Entry ℕ) → IsPrimeField p S.field → IsTermOf S e → IsReadableTerm S e → IsPrintedMark e
  mark_printed p e prime term readable =
      let q = S.field.characteristic in
      let n = length S.shifts in
      let a = e.0.1 in
      let j = e.0.0 + 1 in
      let init = factors_from (λ i. Marked Primary (i + 1)) 0 a in
      let fs = init ++ (mark_factor j ∷ []) in
      let wide = term.place.wide in
      let low = term.place.low in
      let factors : AreFactorsOf marks 0 a init = marks_of a wide readable.exponents readable.marks in
      let more = all_more marks n init factors.short factors.known factors.within in
      let small = prime_value p S.field e.1 prime term.has term.not_zero in
      let value = printed_value q e.1 fs (prime_listed p S.field prime) small.0 small.1 in
      let known : are_known kind marks fs ≡ true = list_all-append (λ (f : Factor). is_known kind marks f.variable) init (mark_factor j ∷ []) ∙ and_from _ _ more.0 refl in
      let inside : is_within kind marks (Marked Secondary j) ≡ true = le-leb j n (omega arith) in
      let within : are_within kind marks fs ≡ true = list_all-append (λ (f : Factor). is_within kind marks f.variable) init (mark_factor j ∷ []) ∙ and_from _ _ more.1 (and_from _ _ inside refl) in
      let rising : rise (places marks fs) ≡ true = rise_start (places marks fs) ∙ ap (rise_from 0) (map-append (λ (f : Factor). place marks f.variable) init (mark_factor j ∷ []))
      ∙ rise_more (places marks init) 0 (place_count marks) factors.rising more.2 (omega arith) in
      let ends : has_ending kind fs ≡ true = ends_with_mark init j in
      let little : are_small fs ≡ true = list_all-append (λ (f : Factor). nat_le f.exponent 4096) init (mark_factor j ∷ []) ∙ and_from _ _ factors.small refl in
      let last = (is_printed q (combination_term q e), kinds.Coefficient) ∷ [] in
      let after_rising = (are_small fs, kinds.Exponent) ∷ last in
      let after_within = (has_ending kind fs && rise (places marks fs), kinds.Factor) ∷ after_rising in
      let exps : exponents_from marks (place_count marks) 0 fs ≡ a =
      exponents_last marks (place_count marks) 0 init (mark_factor j) (omega arith) ∙ ap (λ n. exponents_from marks n 0 init) (let h = wide in omega arith) ∙ factors.exponents in
      let position : last_index fs - 1 ≡ e.0.0 = omega (arith, last_index_is init j) in
      let mark_short : IsFactor (mark_factor j) = record { variable = (omega arith, readable.secondary); exponent = (omega arith, omega arith) } in
      record {
        same = ap₂ (λ l i. ((i, l), value_of q (combination_term q e))) exps position ∙ ap (λ c. (e.0, c)) value.value;
        short = record { coefficient = value.short; factors = All-append IsFactor init (mark_factor j ∷ []) factors.short (All-cons IsFactor (mark_factor j) [] mark_short (All-nil IsFactor)) };
        passing = pass (are_known kind marks fs) kinds.Name ((are_within kind marks fs, kinds.Index) ∷ after_within) known (pass (are_within kind marks fs) kinds.Index after_within within
            (pass (has_ending kind fs && rise (places marks fs)) kinds.Factor after_rising (and_from _ _ ends rising) (pass (are_small fs) kinds.Exponent last little
            (pass (is_printed q (combination_term q e)) kinds.Coefficient [] value.printed refl))));
      }
