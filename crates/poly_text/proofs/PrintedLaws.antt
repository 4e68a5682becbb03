-- The terms that are printed for entries, and the entries of terms whose values pass: each gives the other back.
use Rattle.std.proofs.Common.{◌≡◌, ◌≢◌, ◌∙◌, ℕ, zero, suc, ◌+◌, ◌<◌, ◌≤◌, ◌⊎◌, inl, inr, Bool, true, false, List, [], ◌∷◌, Option, Some, None, length, map, get_or, refl, sym, ap, ap₂, subst, arith}
use Rattle.std.specs.Prelude.{All, IsTrue, nat_le}
use Rattle.std.specs.Ordering.{is_gt}
use Rattle.std.proofs.lemmas.Bool.{le-leb, leb-true, and_parts, cases_eq, ltb-true}
use Rattle.std.proofs.lemmas.List.Elements.{All-nil, All-cons, All-head, All-tail}
use Rattle.alg_core.specs.Fields.{FieldOn, Has}
use Rattle.alg_core.specs.Keys.{TermPlace}
use Rattle.alg_core.specs.Names.{is_name}
use Rattle.alg_core.specs.Spaces.{SpaceOver, IsTerm as IsTermOf, IsAbove, Fits}
use Rattle.alg_core.specs.Vectors.{Entry}
use Rattle.alg_core.specs.declared.value_kind.ValueKind.{ValueKind}
use Rattle.alg_core.specs.declared.value_kind.ValueKind.TheVariants as kinds
use Rattle.prime_field.specs.ListedPrimes.{is_listed}
use Rattle.prime_field.specs.PrimeFields.{IsPrimeField}
use Rattle.poly_text.specs.declared.names.Names.{Names}
use Rattle.poly_text.specs.Syntax.{Variable, Named, Marked, Term, Factor, IsVariable, IsFactor, IsTerm}
use Rattle.poly_text.specs.Texts.{place_count, variable_at, factors_from, term_of}
use Rattle.poly_text.specs.Values.{place, are_known, are_within, are_small, places, rise, exponent_at, exponents_from, is_printed, entry_of, falls, term_conditions, place_conditions, conditions, first_failed, fault_or, first_fault, AreDistinct, IsIndexed, IsReadable}
use Rattle.poly_text.proofs.FactorSteps.{rise_start, length-exponents_from}
use Rattle.poly_text.proofs.EntrySteps.{both_none, failed-append, passes, factors_pass, place_passes}
use Rattle.poly_text.proofs.VariablePlaces.{variable_stands, variable_at_place, variable_is_one}
use Rattle.poly_text.proofs.PrintedFactors.{AreFactorsOf, printed_factors, factors_back, exponent_here, exponent_there}
use Rattle.poly_text.proofs.PrintedValues.{printed_value, value_printed}

pub prime_listed : (p : ℕ) (k : FieldOn ℕ) → IsPrimeField p k → is_listed k.characteristic ≡ true
prime_listed p k prime = subst (λ (f : FieldOn ℕ). is_listed f.characteristic ≡ true) (sym prime.1) prime.0

pub prime_value : (p : ℕ) (k : FieldOn ℕ) (c : ℕ) → IsPrimeField p k → Has k c → c ≢ k.zero → (c < k.characteristic) × (c ≢ 0)
prime_value p k c prime =
    subst (λ (f : FieldOn ℕ). Has f c → c ≢ f.zero → (c < f.characteristic) × (c ≢ 0)) (sym prime.1) (λ has some. (ltb-true c p has, some))

pub pass : (b : Bool) (k : ValueKind) (cs : List (Bool × ValueKind)) → b ≡ true → first_failed cs ≡ None → first_failed ((b, k) ∷ cs) ≡ None
pass true k cs h rest = rest
pass false k cs h rest = absurd cc

module _ (S : SpaceOver ℕ) (names : Names) where
  -- what is printed for an entry
  record IsPrintedEntry (e : Entry ℕ) : Type 0 where
    same : entry_of None S names (term_of names S.field.characteristic e) ≡ e
    short : IsTerm (term_of names S.field.characteristic e)
    passing : first_failed (term_conditions None S.field.characteristic names (term_of names S.field.characteristic e)) ≡ None

  printed_entry : (p : ℕ) (e : Entry ℕ) → IsPrimeField p S.field → length S.weights ≡ place_count names → AreDistinct names → All (λ w. IsTrue (is_name w)) names.vars
      → IsTermOf S e → e.0.0 ≡ 0 → IsReadable S names e → IsPrintedEntry e
  printed_entry p e prime places_are distinct names_are term at_zero readable =
      let q = S.field.characteristic in
      let a = e.0.1 in
      let fs = factors_from (variable_at names) 0 a in
      let wide : length a ≡ place_count names = term.place.wide ∙ places_are in
      let factors : AreFactorsOf names 0 a fs = printed_factors names 0 a
      (λ j low high. variable_stands names j distinct (omega arith))
      readable.exponents
      (λ k below some. let same : k ≡ 0 + k = omega arith in subst (λ j. IsVariable (variable_at names j)) same (variable_is_one names k names_are (readable.indices k below some))) in
      let small = prime_value p S.field e.1 prime term.has term.not_zero in
      let value = printed_value q e.1 fs (prime_listed p S.field prime) small.0 small.1 in
      let last = (is_printed q (term_of names q e), kinds.Coefficient) ∷ [] in
      let after_rising = (are_small fs, kinds.Exponent) ∷ last in
      let after_within = (rise (places names fs), kinds.Factor) ∷ after_rising in
      record {
        same = ap₂ (λ l c. ((0, l), c)) (ap (λ n. exponents_from names n 0 fs) (sym wide) ∙ factors.exponents) value.value ∙ ap (λ i. ((i, a), e.1)) (sym at_zero);
        short = record { coefficient = value.short; factors = factors.short };
        passing = pass (are_known None names fs) kinds.Name ((are_within None names fs, kinds.Index) ∷ after_within) factors.known (pass (are_within None names fs) kinds.Index after_within factors.within
            (pass (rise (places names fs)) kinds.Factor after_rising (rise_start (places names fs) ∙ factors.rising) (pass (are_small fs) kinds.Exponent last factors.small (pass (is_printed q (term_of names q e)) kinds.Coefficient [] value.printed refl))));
      }

  -- the first of the entries is smaller than the place before
  abbrev Follows : Option TermPlace → List (Entry ℕ) → Type 0
  Follows before [] = Unit {0}
  Follows before (e ∷ es) = falls None S before e.0 ≡ true

  above_follows : (p : TermPlace) (es : List (Entry ℕ)) → IsAbove S p es → Follows (Some p) es
  above_follows p [] h = tt
  above_follows p (e ∷ es) h = ap is_gt h.0

  printed_from : (p : ℕ) (before : Option TermPlace) (i : ℕ) (es : List (Entry ℕ)) → IsPrimeField p S.field → length S.weights ≡ place_count names → AreDistinct names → All (λ w. IsTrue (is_name w)) names.vars
      → Fits S es → All (λ e. e.0.0 ≡ 0) es → All (IsReadable S names) es → Follows before es
      → (map (entry_of None S names) (map (term_of names S.field.characteristic) es) ≡ es) × (first_fault None S names before i (map (term_of names S.field.characteristic) es) ≡ None) × All IsTerm (map (term_of names S.field.characteristic) es)
  printed_from p before i [] prime places_are distinct names_are fits zeros readable follows = (refl, refl, All-nil IsTerm)
  printed_from p before i (e ∷ es) prime places_are distinct names_are fits zeros readable follows =
      let q = S.field.characteristic in
      let t = term_of names q e in
      let here = All-head (IsReadable S names) e es readable in
      let one = printed_entry p e prime places_are distinct names_are fits.0 (All-head (λ (f : Entry ℕ). f.0.0 ≡ 0) e es zeros) here in
      let rest = printed_from p (Some e.0) (suc i) es prime places_are distinct names_are fits.2 (All-tail (λ (f : Entry ℕ). f.0.0 ≡ 0) e es zeros) (All-tail (IsReadable S names) e es readable) (above_follows e.0 es fits.1) in
      let placed : first_failed (place_conditions None S before e.0) ≡ None = pass _ kinds.Degree ((falls None S before e.0, kinds.Order) ∷ []) (le-leb _ _ here.degree) (pass (falls None S before e.0) kinds.Order [] follows refl) in
      let passed : first_failed (conditions None S names before t) ≡ None =
      failed-append (term_conditions None q names t) (place_conditions None S before (entry_of None S names t).0) one.passing ∙ ap (λ (x : Entry ℕ). first_failed (place_conditions None S before x.0)) one.same ∙ placed in (
        ap₂ ◌∷◌ one.same rest.0,
        ap (λ f. fault_or i f (first_fault None S names (Some (entry_of None S names t).0) (suc i) (map (term_of names q) es))) passed
            ∙ ap (λ (x : Entry ℕ). first_fault None S names (Some x.0) (suc i) (map (term_of names q) es)) one.same ∙ rest.1,
        All-cons IsTerm t (map (term_of names q) es) one.short rest.2,
      )

  -- what is printed for entries that fit and can be read is a tree whose values pass, and its entries are these
  pub printed_values : (p : ℕ) (es : List (Entry ℕ)) → IsPrimeField p S.field → length S.weights ≡ place_count names → AreDistinct names → All (λ w. IsTrue (is_name w)) names.vars
      → Fits S es → All (λ e. e.0.0 ≡ 0) es → All (IsReadable S names) es
      → (map (entry_of None S names) (map (term_of names S.field.characteristic) es) ≡ es) × (first_fault None S names None 1 (map (term_of names S.field.characteristic) es) ≡ None) × All IsTerm (map (term_of names S.field.characteristic) es)
  printed_values p es prime places_are distinct names_are fits zeros readable = printed_from p None 1 es prime places_are distinct names_are fits zeros readable (first es)
    where
      first : (es : List (Entry ℕ)) → Follows None es
      first [] = tt
      first (e ∷ es) = refl

  small_exponent : (fs : List Factor) (i : ℕ) → are_small fs ≡ true → exponent_at names fs i ≤ 4096
  small_exponent [] i h = omega arith
  small_exponent (f ∷ fs) i h =
      let parts = and_parts (nat_le f.exponent 4096) (are_small fs) h in
      go (cases_eq (place names f.variable) i) (leb-true f.exponent 4096 parts.0) (small_exponent fs i parts.1)
    where
      go : (place names f.variable ≡ i) ⊎ (place names f.variable ≢ i) → f.exponent ≤ 4096 → exponent_at names fs i ≤ 4096 → exponent_at names (f ∷ fs) i ≤ 4096
      go (inl at) low rest = subst (λ x. x ≤ 4096) (sym (exponent_here names f fs i at)) low
      go (inr other) low rest = subst (λ x. x ≤ 4096) (sym (exponent_there names f fs i other)) rest

  pub small_exponents : (n i : ℕ) (fs : List Factor) → are_small fs ≡ true → All (λ x. x ≤ 4096) (exponents_from names n i fs)
  small_exponents zero i fs h = All-nil _
  small_exponents (suc n) i fs h = All-cons (λ x. x ≤ 4096) _ _ (small_exponent fs i h) (small_exponents n (suc i) fs h)

  pub exponents_at : (n i k : ℕ) (fs : List Factor) → k < n → get_or (exponents_from names n i fs) k 0 ≡ exponent_at names fs (i + k)
  exponents_at zero i k fs below = absurd (omega arith)
  exponents_at (suc n) i zero fs below = ap (exponent_at names fs) (omega arith)
  exponents_at (suc n) i (suc k) fs below = exponents_at n (suc i) k fs (omega arith) ∙ ap (exponent_at names fs) (omega arith)

  variable_indexed : (v : Variable) → IsVariable v → IsIndexed v
  variable_indexed (Named w) h = tt
  variable_indexed (Marked m j) h = h.1

  -- a variable that occurs is short
  pub occurring_indexed : (fs : List Factor) (i : ℕ) → All IsFactor fs → are_known None names fs ≡ true → are_within None names fs ≡ true → exponent_at names fs i ≢ 0 → IsIndexed (variable_at names i)
  occurring_indexed [] i short known within some = absurd (some refl)
  occurring_indexed (f ∷ fs) i short known within some =
      go (cases_eq (place names f.variable) i) (occurring_indexed fs i (All-tail IsFactor f fs short) (and_parts _ _ known).1 (and_parts _ _ within).1)
    where
      go : (place names f.variable ≡ i) ⊎ (place names f.variable ≢ i) → (exponent_at names fs i ≢ 0 → IsIndexed (variable_at names i)) → IsIndexed (variable_at names i)
      go (inl at) rest =
          let one = (All-head IsFactor f fs short).variable in
          let stands = variable_at_place names f.variable one (and_parts _ _ known).0 (and_parts _ _ within).0 in
          subst IsIndexed (sym (ap (variable_at names) (sym at) ∙ stands.0)) (variable_indexed f.variable one)
      go (inr other) rest = rest (λ none. some (exponent_there names f fs i other ∙ none))

  read_term : (before : Option TermPlace) (t : Term) → length S.weights ≡ place_count names → IsTerm t → first_failed (conditions None S names before t) ≡ None
      → (term_of names S.field.characteristic (entry_of None S names t) ≡ t) × IsReadable S names (entry_of None S names t)
  read_term before t places_are short passed =
      let q = S.field.characteristic in
      let fs = t.factors in
      let n = place_count names in
      let e = entry_of None S names t in
      let found = factors_pass None names fs ((is_printed q t, kinds.Coefficient) ∷ place_conditions None S before e.0) passed in
      let printed = passes (is_printed q t) kinds.Coefficient (place_conditions None S before e.0) found.4 in
      let value = value_printed q t printed.0 in
      let back = factors_back names n 0 fs (omega arith) short.factors found.0 found.1 (sym (rise_start (places names fs)) ∙ found.2) in (
        ap (λ b. record { is_negative = b; coefficient = (term_of names q e).coefficient; factors = (term_of names q e).factors }) value.0
            ∙ ap₂ (λ c l. record { is_negative = t.is_negative; coefficient = c; factors = l }) value.1 back,
        record {
          degree = leb-true _ _ (place_passes None S before e.0 printed.1).0;
          exponents = small_exponents n 0 fs found.3;
          indices = λ i below some. occurring_indexed fs i short.factors found.0 found.1
              (λ none. some (exponents_at n 0 i fs (subst (λ k. i < k) (length-exponents_from names n 0 fs) below) ∙ ap (exponent_at names fs) (omega arith) ∙ none));
        },
      )

  read_from : (before : Option TermPlace) (i : ℕ) (ts : List Term) → length S.weights ≡ place_count names → All IsTerm ts → first_fault None S names before i ts ≡ None
      → (map (term_of names S.field.characteristic) (map (entry_of None S names) ts) ≡ ts) × All (IsReadable S names) (map (entry_of None S names) ts)
  read_from before i [] places_are short passed = (refl, All-nil _)
  read_from before i (t ∷ ts) places_are short passed =
      let none = both_none i (first_failed (conditions None S names before t)) (first_fault None S names (Some (entry_of None S names t).0) (suc i) ts) passed in
      let one = read_term before t places_are (All-head IsTerm t ts short) none.0 in
      let rest = read_from (Some (entry_of None S names t).0) (suc i) ts places_are (All-tail IsTerm t ts short) none.1 in
      (ap₂ ◌∷◌ one.0 rest.0, All-cons (IsReadable S names) (entry_of None S names t) (map (entry_of None S names) ts) one.1 rest.1)

  -- a tree whose values pass is what is printed for its entries, and these can be read
  pub values_printed : (ts : List Term) → length S.weights ≡ place_count names → All IsTerm ts → first_fault None S names None 1 ts ≡ None
      → (map (term_of names S.field.characteristic) (map (entry_of None S names) ts) ≡ ts) × All (IsReadable S names) (map (entry_of None S names) ts)
  values_printed ts places_are short passed = read_from None 1 ts places_are short passed
