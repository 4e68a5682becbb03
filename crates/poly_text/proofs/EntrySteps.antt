-- The entries of terms whose values pass: they fit the space, and fall.
use Rattle.std.proofs.Common.{◌≡◌, ◌≢◌, ◌∙◌, ℕ, zero, suc, ◌+◌, ◌-◌, ◌<◌, ◌≤◌, Bool, true, false, List, [], ◌∷◌, ◌++◌, Option, Some, None, length, get_or, refl, sym, ap, subst, append_assoc, append-nil, arith}
use Rattle.std.specs.Prelude.{nat_le, replicate, ◌&&◌, All, map}
use Rattle.std.proofs.lemmas.Bool.{and_parts, leb-true}
use Rattle.std.proofs.lemmas.List.Elements.{All-head, All-tail}
use Rattle.std.specs.declared.cmp.Ordering.{Ordering}
use Rattle.std.specs.declared.cmp.Ordering.TheVariants.{Less, Equal, Greater}
use Rattle.std.specs.Ordering.{is_gt}
use Rattle.std.proofs.lemmas.Bool.Decides.{nat_tests}
use Rattle.std.proofs.lemmas.List.{length-replicate, length-map, get_or-map}
use Rattle.alg_core.specs.declared.value_kind.ValueKind.TheVariants as kinds
use Rattle.alg_core.specs.Fields.{FieldOn, Has}
use Rattle.alg_core.specs.Keys.{TermPlace}
use Rattle.alg_core.specs.Spaces.{SpaceOver, IsPlace, IsTerm as IsTermOf, Fits, entry, entries}
use Rattle.alg_core.specs.Vectors.{Entry}
use Rattle.alg_core.specs.declared.term.Term.{Term as CodeTerm}
use Rattle.alg_core.specs.declared.value_kind.ValueKind.{ValueKind}
use Rattle.alg_core.proofs.FittingLists.{above_more}
use Rattle.prime_field.specs.PrimeFields.{gfp, IsPrimeField}
use Rattle.prime_field.specs.declared.gfp.PrimeField.{PrimeField}
use Rattle.poly_text.specs.declared.names.Names.{Names}
use Rattle.poly_text.specs.declared.syntax.Mark.TheVariants.{Primary, Irreducible, Secondary}
use Rattle.poly_text.specs.Syntax.{Variable, Named, Marked, Term, Factor, IsVariable, IsFactor, IsTerm}
use Rattle.poly_text.specs.Texts.{place_count}
use Rattle.poly_text.specs.Values.{is_within, is_secondary, index, ends_with_secondary, has_ending, last_index, position_of, position_count, HasPositions, degree_at, first_fault, are_known, are_within, are_small, places, rise, exponents_from, is_printed, value_of, entry_of, falls, first_failed, fault_or, factor_conditions, term_conditions, place_conditions, conditions, last_from, last_place}
use Rattle.poly_text.proofs.FactorSteps.{length-exponents_from}

abbrev pub field_of : PrimeField → FieldOn ℕ
field_of f = gfp f.p f.listed

-- where the first conditions hold, the others count
pub failed-append : (xs ys : List (Bool × ValueKind)) → first_failed xs ≡ None → first_failed (xs ++ ys) ≡ first_failed ys
failed-append [] ys h = refl
failed-append ((true, k) ∷ xs) ys h = failed-append xs ys h
failed-append ((false, k) ∷ xs) ys h = cc

pub both_none : (i : ℕ) (f : Option ValueKind) (rest : Option (ℕ × ValueKind)) → fault_or i f rest ≡ None → (f ≡ None) × (rest ≡ None)
both_none i None rest h = (refl, h)
both_none i (Some k) rest h = absurd cc

-- a value that is printed is one of the field, and not 0
value_small : (p c : ℕ) (sign : Bool) → 1 ≤ c → is_printed p (record { is_negative = sign; coefficient = c; factors = [] }) ≡ true
    → (value_of p (record { is_negative = sign; coefficient = c; factors = [] }) < p) × (value_of p (record { is_negative = sign; coefficient = c; factors = [] }) ≢ 0)
value_small p c true some h = (grind (arith, nat_tests), grind (arith, nat_tests))
value_small p c false some h = (grind (arith, nat_tests), grind (arith, nat_tests))

pub value_fits : (p : ℕ) (k : FieldOn ℕ) (t : Term) → IsPrimeField p k → 1 ≤ t.coefficient → is_printed k.characteristic t ≡ true → Has k (value_of k.characteristic t) × (value_of k.characteristic t ≢ k.zero)
value_fits p k t prime some h =
    let at : is_printed p t ≡ true = subst (λ (f : FieldOn ℕ). is_printed f.characteristic t ≡ true) prime.1 h in
    let fits = value_small p t.coefficient t.is_negative some at in
    subst (λ (f : FieldOn ℕ). Has f (value_of f.characteristic t) × (value_of f.characteristic t ≢ f.zero)) (sym prime.1) (let below = fits.0 in grind (arith, nat_tests), fits.1)

-- the first of them that fails
pub failed-first : (xs ys : List (Bool × ValueKind)) (k : ValueKind) → first_failed xs ≡ Some k → first_failed (xs ++ ys) ≡ Some k
failed-first [] ys k h = absurd cc
failed-first ((true, _) ∷ xs) ys k h = failed-first xs ys k h
failed-first ((false, _) ∷ xs) ys k h = h

-- the first of conditions that all hold, and the others
pub passes : (b : Bool) (k : ValueKind) (cs : List (Bool × ValueKind)) → first_failed ((b, k) ∷ cs) ≡ None → (b ≡ true) × (first_failed cs ≡ None)
passes true k cs h = (refl, h)
passes false k cs h = absurd cc

pub factors_pass : (m : Option ℕ) (names : Names) (fs : List Factor) (cs : List (Bool × ValueKind)) → first_failed (factor_conditions m names fs ++ cs) ≡ None
    → (are_known m names fs ≡ true) × (are_within m names fs ≡ true) × ((has_ending m fs && rise (places names fs)) ≡ true) × (are_small fs ≡ true) × (first_failed cs ≡ None)
factors_pass m names fs cs h =
    let after_rising = (are_small fs, kinds.Exponent) ∷ cs in
    let after_within = (has_ending m fs && rise (places names fs), kinds.Factor) ∷ after_rising in
    let known = passes (are_known m names fs) kinds.Name ((are_within m names fs, kinds.Index) ∷ after_within) h in
    let within = passes (are_within m names fs) kinds.Index after_within known.1 in
    let rising = passes (has_ending m fs && rise (places names fs)) kinds.Factor after_rising within.1 in
    let small = passes (are_small fs) kinds.Exponent cs rising.1 in
    (known.0, within.0, rising.0, small.0, small.1)

pub printed_passes : (m : Option ℕ) (p : ℕ) (names : Names) (t : Term) → first_failed (term_conditions m p names t) ≡ None → is_printed p t ≡ true
printed_passes m p names t h = (passes (is_printed p t) kinds.Coefficient [] (factors_pass m names t.factors ((is_printed p t, kinds.Coefficient) ∷ []) h).4).0

pub place_passes : (m : Option ℕ) (S : SpaceOver ℕ) (before : Option TermPlace) (here : TermPlace) → first_failed (place_conditions m S before here) ≡ None → (nat_le (degree_at m S here) 4096 ≡ true) × (falls m S before here ≡ true)
place_passes m S before here h =
    let degree = passes (nat_le (degree_at m S here) 4096) kinds.Degree ((falls m S before here, kinds.Order) ∷ []) h in
    (degree.0, (passes (falls m S before here) kinds.Order [] degree.1).0)

-- the index of a mark % that is within
index_low : (n : ℕ) (names : Names) (v : Variable) → IsVariable v → is_within (Some n) names v ≡ true → is_secondary v ≡ true → index v - 1 < n
index_low n names (Named w) short within is = absurd cc
index_low n names (Marked Primary j) short within is = absurd cc
index_low n names (Marked Irreducible j) short within is = absurd cc
index_low n names (Marked Secondary j) short within is =
    let positive : 1 ≤ j = short.0 in
    let low : j ≤ n = leb-true j n within in
    omega arith

last_low : (n : ℕ) (names : Names) (fs : List Factor) → All IsFactor fs → are_within (Some n) names fs ≡ true → ends_with_secondary fs ≡ true → last_index fs - 1 < n
last_low n names [] short within is = absurd cc
last_low n names (f ∷ []) short within is = index_low n names f.variable (All-head IsFactor f [] short).variable (and_parts _ _ within).0 (and_parts _ _ is).0
last_low n names (f ∷ g ∷ fs) short within is = last_low n names (g ∷ fs) (All-tail IsFactor f (g ∷ fs) short) (and_parts _ _ within).1 is

-- the position of factors whose values pass
pub position_low : (m : Option ℕ) (names : Names) (fs : List Factor) → All IsFactor fs → are_within m names fs ≡ true → has_ending m fs ≡ true → position_of m fs < position_count m
position_low None names fs short within is = omega arith
position_low (Some n) names fs short within is = last_low n names fs short within is

module _ (m : Option ℕ) (S : SpaceOver ℕ) (names : Names) where
  -- a fault of the place
  pub place_fails : (before : Option TermPlace) (t : Term) (e : Entry ℕ) (n : ℕ) (k : ValueKind) → first_failed (term_conditions m S.field.characteristic names t) ≡ None → e ≡ entry_of m S names t
      → first_failed (place_conditions m S before e.0) ≡ Some k → fault_or n (first_failed (conditions m S names before t)) None ≡ Some (n, k)
  place_fails before t e n k passed is failed =
      ap (λ f. fault_or n f None) (failed-append (term_conditions m S.field.characteristic names t) (place_conditions m S before (entry_of m S names t).0) passed
      ∙ ap (λ x. first_failed (place_conditions m S before x.0)) (sym is) ∙ failed)

  -- a fault of the term
  pub term_fails : (before : Option TermPlace) (t : Term) (n : ℕ) (k : ValueKind) → first_failed (term_conditions m S.field.characteristic names t) ≡ Some k → fault_or n (first_failed (conditions m S names before t)) None ≡ Some (n, k)
  term_fails before t n k failed = ap (λ f. fault_or n f None) (failed-first (term_conditions m S.field.characteristic names t) (place_conditions m S before (entry_of m S names t).0) k failed)

  -- no fault of the term
  pub place_passed : (before : Option TermPlace) (t : Term) (e : Entry ℕ) (n : ℕ) → first_failed (term_conditions m S.field.characteristic names t) ≡ None → e ≡ entry_of m S names t
      → first_failed (place_conditions m S before e.0) ≡ None → fault_or n (first_failed (conditions m S names before t)) None ≡ None
  place_passed before t e n passed is none =
      ap (λ f. fault_or n f None) (failed-append (term_conditions m S.field.characteristic names t) (place_conditions m S before (entry_of m S names t).0) passed
      ∙ ap (λ x. first_failed (place_conditions m S before x.0)) (sym is) ∙ none)

  pub entry_place : (t : Term) → length S.weights ≡ place_count names → HasPositions m S → IsTerm t → first_failed (term_conditions m S.field.characteristic names t) ≡ None → IsPlace S (entry_of m S names t).0
  entry_place t places positions short passed =
      let found = factors_pass m names t.factors ((is_printed S.field.characteristic t, kinds.Coefficient) ∷ []) passed in
      let constants = positions (position_of m t.factors) (position_low m names t.factors short.factors found.1 (and_parts _ _ found.2).0) in
      let long : length (exponents_from names (place_count names) 0 t.factors) ≡ length S.weights = length-exponents_from names (place_count names) 0 t.factors ∙ sym places in
      let zeros : length {A = ℕ} (replicate (length S.weights) 0) ≡ length S.weights = length-replicate (length S.weights) 0 in
      record {
        fits = ap (S.order.fits (position_of m t.factors)) (long ∙ sym zeros) ∙ constants.fits;
        wide = long;
        low = constants.low;
      }

  pub entry_term : (p : ℕ) (t : Term) (e : Entry ℕ) → IsPrimeField p S.field → length S.weights ≡ place_count names → HasPositions m S → IsTerm t → first_failed (term_conditions m S.field.characteristic names t) ≡ None
      → e ≡ entry_of m S names t → IsTermOf S e
  entry_term p t e prime places positions short passed is =
      let value = value_fits p S.field t prime short.coefficient.0 (printed_passes m _ names t passed) in
      subst (IsTermOf S) (sym is) (record { has = value.0; not_zero = value.1; place = entry_place t places positions short passed })

module _ (S : SpaceOver ℕ) where
  pub last_push : (before : Option TermPlace) (es : List (Entry ℕ)) (e : Entry ℕ) → last_from before (es ++ (e ∷ [])) ≡ Some e.0
  last_push before [] e = refl
  last_push before (f ∷ es) e = last_push (Some f.0) es e

  pub greater_from_test : (o : Ordering) → is_gt o ≡ true → o ≡ Greater
  greater_from_test Less h = cc
  greater_from_test Equal h = cc
  greater_from_test Greater h = refl

  push_after : (x : Entry ℕ) (es : List (Entry ℕ)) (e : Entry ℕ) → Fits S (x ∷ es) → IsTermOf S e → falls None S (last_from (Some x.0) es) e.0 ≡ true → Fits S (x ∷ (es ++ (e ∷ [])))
  push_after x [] e fits term smaller = (fits.0, (greater_from_test _ smaller, tt), (term, tt, tt))
  push_after x (y ∷ es) e fits term smaller =
      let rest = push_after y es e fits.2 term smaller in
      (fits.0, (fits.1.0, above_more S x.0 y.0 (es ++ (e ∷ [])) fits.1.0 rest.1), rest)

  -- one entry more, smaller than the last
  pub fits_push : (es : List (Entry ℕ)) (e : Entry ℕ) → Fits S es → IsTermOf S e → falls None S (last_place es) e.0 ≡ true → Fits S (es ++ (e ∷ []))
  fits_push [] e fits term smaller = (term, tt, tt)
  fits_push (x ∷ es) e fits term smaller = push_after x es e fits term smaller

  -- the place of the last
  pub last_at : (before : Option TermPlace) (es : List (Entry ℕ)) (i : ℕ) (d : Entry ℕ) → i + 1 ≡ length es → last_from before es ≡ Some (get_or es i d).0
  last_at before [] i d at = absurd (omega arith)
  last_at before (e ∷ []) zero d at = refl
  last_at before (e ∷ []) (suc i) d at = absurd (omega arith)
  last_at before (e ∷ f ∷ es) zero d at = absurd (omega arith)
  last_at before (e ∷ f ∷ es) (suc i) d at = last_at (Some e.0) (f ∷ es) i d (omega arith)

  -- terms of the space that fall
  pub fits_from : (names : Names) (before : Option TermPlace) (i : ℕ) (ts : List Term) → All (IsTermOf S) (map (entry_of None S names) ts) → first_fault None S names before i ts ≡ None
      → (es : List (Entry ℕ)) → before ≡ last_place es → Fits S es → Fits S (es ++ map (entry_of None S names) ts)
  fits_from names before i [] terms passed es at fits = subst (Fits S) (sym (append-nil es)) fits
  fits_from names before i (t ∷ ts) terms passed es at fits =
      let e = entry_of None S names t in
      let found = both_none i (first_failed (conditions None S names before t)) (first_fault None S names (Some e.0) (suc i) ts) passed in
      let factors = factors_pass None names t.factors ((is_printed S.field.characteristic t, kinds.Coefficient) ∷ place_conditions None S before e.0) found.0 in
      let placed = passes (is_printed S.field.characteristic t) kinds.Coefficient (place_conditions None S before e.0) factors.4 in
      let smaller = subst (λ b. falls None S b e.0 ≡ true) at (place_passes None S before e.0 placed.1).1 in
      let one = fits_push es e fits (All-head (IsTermOf S) e (map (entry_of None S names) ts) terms) smaller in
      subst (Fits S) (append_assoc es (e ∷ []) (map (entry_of None S names) ts))
      (fits_from names (Some e.0) (suc i) ts (All-tail (IsTermOf S) e (map (entry_of None S names) ts) terms) found.1 (es ++ (e ∷ [])) (sym (last_push None es e)) one)

  -- each term of a list of the program
  pub term_at : (ts : List (CodeTerm ℕ (List ℕ))) (i : ℕ) (t : CodeTerm ℕ (List ℕ)) → i < length ts → t ≡ get_or ts i t → All (IsTermOf S) (entries (λ m. m) ts) → IsTermOf S (entry (λ m. m) t)
  term_at ts i t below is all =
      subst (IsTermOf S) (get_or-map (entry (λ m. m)) ts i t (entry (λ m. m) t) below ∙ ap (entry (λ m. m)) (sym is))
      (all i (entry (λ m. m) t) (subst (λ n. i < n) (sym (length-map ts (entry (λ (m : List ℕ). m)))) below))

  -- the last term of a list of the program
  pub last_term : (ts : List (CodeTerm ℕ (List ℕ))) (t : CodeTerm ℕ (List ℕ)) → 0 < length ts → t ≡ get_or ts (length ts - 1) t → last_place (entries (λ m. m) ts) ≡ Some (entry (λ m. m) t).0
  last_term ts t some is =
      last_at None (entries (λ m. m) ts) (length ts - 1) (entry (λ m. m) t) (omega (arith, length-map ts (entry (λ (m : List ℕ). m))))
      ∙ ap (λ e. Some e.0) (get_or-map (entry (λ m. m)) ts (length ts - 1) t (entry (λ m. m) t) (omega arith) ∙ ap (entry (λ m. m)) (sym is))
