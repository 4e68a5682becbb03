-- The factors of a term of a combination: powers of marks @, and last a mark %.
use Rattle.std.proofs.Common.{◌≡◌, ◌≢◌, ◌∙◌, ℕ, zero, suc, ◌+◌, ◌-◌, ◌<◌, ◌≤◌, true, List, [], ◌∷◌, ◌++◌, Some, None, length, refl, sym, ap, ap₂, arith}
use Rattle.std.specs.Prelude.{All, ◌==◌, nat_le, if◌then◌else◌}
use Rattle.std.proofs.lemmas.Bool.{and_from, and_parts, le-leb, leb-true}
use Rattle.std.proofs.lemmas.Bool.Decides.{nat_tests}
use Rattle.std.proofs.lemmas.List.{map-append}
use Rattle.std.proofs.lemmas.List.Elements.{All-nil, All-cons, All-head, All-tail}
use Rattle.std.proofs.lemmas.List.Folds.{list_all-append}
use Rattle.poly_text.specs.declared.names.Names.{Names}
use Rattle.poly_text.specs.declared.syntax.Mark.TheVariants.{Primary, Irreducible, Secondary}
use Rattle.poly_text.specs.Syntax.{Variable, Named, Marked, Factor, IsFactor}
use Rattle.poly_text.specs.Texts.{place_count, variable_at, factors_from}
use Rattle.poly_text.specs.Values.{is_known, is_within, is_secondary, index, ends_with_secondary, last_index, place, places, rise, are_known, are_within, exponent_at, exponents_from, mark_names}
use Rattle.poly_text.proofs.FactorSteps.{rise_from, rise_start, length-exponents_from}
use Rattle.poly_text.proofs.PrintedFactors.{exponent_there, factors_back}
use Rattle.poly_text.proofs.VariablePlaces.{variable_primary, variable_at_place}

-- a mark % without exponent
abbrev pub mark_factor : ℕ → Factor
mark_factor j = record { variable = Marked Secondary j; exponent = 1 }

mark_of : (v : Variable) (e : ℕ) → is_secondary v ≡ true → (e == 1) ≡ true → ◌≡◌ {A = Factor} (record { variable = v; exponent = e }) (mark_factor (index v))
mark_of (Named w) e is one = absurd cc
mark_of (Marked Primary j) e is one = absurd cc
mark_of (Marked Irreducible j) e is one = absurd cc
mark_of (Marked Secondary j) e is one = let same : e ≡ 1 = grind (arith, nat_tests) in ap (λ x. record { variable = Marked Secondary j; exponent = x }) same

-- the factors before the last
pub last_mark : (fs : List Factor) → ends_with_secondary fs ≡ true → (init : List Factor) × (j : ℕ) × (fs ≡ init ++ (mark_factor j ∷ []))
last_mark [] ends = absurd cc
last_mark (f ∷ []) ends = let parts = and_parts _ _ ends in ([], index f.variable, ap (λ g. g ∷ []) (mark_of f.variable f.exponent parts.0 parts.1))
last_mark (f ∷ g ∷ fs) ends = let rest = last_mark (g ∷ fs) ends in (f ∷ rest.0, rest.1, ap (λ l. f ∷ l) rest.2)

pub last_index_is : (init : List Factor) (j : ℕ) → last_index (init ++ (mark_factor j ∷ [])) ≡ j
last_index_is [] j = refl
last_index_is (f ∷ []) j = refl
last_index_is (f ∷ g ∷ fs) j = last_index_is (g ∷ fs) j

pub ends_with_mark : (init : List Factor) (j : ℕ) → ends_with_secondary (init ++ (mark_factor j ∷ [])) ≡ true
ends_with_mark [] j = refl
ends_with_mark (f ∷ []) j = refl
ends_with_mark (f ∷ g ∷ fs) j = ends_with_mark (g ∷ fs) j

-- numbers that rise to a last one
rise_last : (l : List ℕ) (m c : ℕ) → rise_from m (l ++ (c ∷ [])) ≡ true → (rise_from m l ≡ true) × All (λ x. x < c) l × (m ≤ c)
rise_last [] m c h = (refl, All-nil (λ x. x < c), leb-true m c (and_parts _ _ h).0)
rise_last (x ∷ l) m c h =
    let parts = and_parts (nat_le m x) (rise_from (suc x) (l ++ (c ∷ []))) h in
    let rest = rise_last l (suc x) c parts.1 in
    let low : m ≤ x = leb-true m x parts.0 in
    let below : suc x ≤ c = rest.2 in
    (and_from _ _ parts.0 rest.0, All-cons (λ x. x < c) x l (omega arith) rest.1, omega arith)

pub rise_more : (l : List ℕ) (m c : ℕ) → rise_from m l ≡ true → All (λ x. x < c) l → m ≤ c → rise_from m (l ++ (c ∷ [])) ≡ true
rise_more [] m c h low below = and_from _ _ (le-leb m c below) refl
rise_more (x ∷ l) m c h low below =
    let parts = and_parts (nat_le m x) (rise_from (suc x) l) h in
    let first = All-head (λ x. x < c) x l low in
    and_from _ _ parts.0 (rise_more l (suc x) c parts.1 (All-tail (λ x. x < c) x l low) (omega arith))

pub factors_same : (v w : ℕ → Variable) (i : ℕ) (a : List ℕ) → ((j : ℕ) → i ≤ j → j < i + length a → v j ≡ w j) → factors_from v i a ≡ factors_from w i a
factors_same v w i [] same = refl
factors_same v w i (e ∷ a) same =
    ap₂ (λ x l. if e == 0 then l else record { variable = x; exponent = e } ∷ l) (same i (omega arith) (omega arith)) (factors_same v w (suc i) a (λ j low high. same j (omega arith) (omega arith)))

module _ (names : Names) where
  exponent_last : (fs : List Factor) (f : Factor) (i : ℕ) → place names f.variable ≢ i → exponent_at names (fs ++ (f ∷ [])) i ≡ exponent_at names fs i
  exponent_last [] f i other = exponent_there names f [] i other
  exponent_last (g ∷ fs) f i other = ap (λ x. if place names g.variable == i then g.exponent else x) (exponent_last fs f i other)

  -- a factor past the places changes nothing
  pub exponents_last : (k i : ℕ) (fs : List Factor) (f : Factor) → i + k ≤ place names f.variable → exponents_from names k i (fs ++ (f ∷ [])) ≡ exponents_from names k i fs
  exponents_last zero i fs f past = refl
  exponents_last (suc k) i fs f past = ap₂ ◌∷◌ (exponent_last fs f i (omega arith)) (exponents_last k (suc i) fs f (omega arith))

  module _ (n : ℕ) where
    plain_known : (v : Variable) → place names v < place_count names → is_known (Some n) names v ≡ true → is_known None names v ≡ true
    plain_known (Named w) low h = h
    plain_known (Marked Primary j) low h = h
    plain_known (Marked Irreducible j) low h = h
    plain_known (Marked Secondary j) low h = absurd (omega arith)

    plain_within : (v : Variable) → place names v < place_count names → is_within (Some n) names v ≡ true → is_within None names v ≡ true
    plain_within (Named w) low h = h
    plain_within (Marked Primary j) low h = h
    plain_within (Marked Irreducible j) low h = h
    plain_within (Marked Secondary j) low h = absurd (omega arith)

    -- factors before a mark % are those of a polynomial
    plain_all : (fs : List Factor) → All (λ x. x < place_count names) (places names fs) → are_known (Some n) names fs ≡ true → are_within (Some n) names fs ≡ true → (are_known None names fs ≡ true) × (are_within None names fs ≡ true)
    plain_all [] low known within = (refl, refl)
    plain_all (f ∷ fs) low known within =
        let first = All-head (λ x. x < place_count names) (place names f.variable) (places names fs) low in
        let rest = plain_all fs (All-tail (λ x. x < place_count names) (place names f.variable) (places names fs) low) (and_parts _ _ known).1 (and_parts _ _ within).1 in
        (and_from _ _ (plain_known f.variable first (and_parts _ _ known).0) rest.0, and_from _ _ (plain_within f.variable first (and_parts _ _ within).0) rest.1)

    known_more : (v : Variable) → is_known None names v ≡ true → is_known (Some n) names v ≡ true
    known_more (Named w) h = h
    known_more (Marked Primary j) h = h
    known_more (Marked Irreducible j) h = h
    known_more (Marked Secondary j) h = refl

    within_more : (v : Variable) → is_known None names v ≡ true → is_within None names v ≡ true → is_within (Some n) names v ≡ true
    within_more (Named w) known h = h
    within_more (Marked Primary j) known h = h
    within_more (Marked Irreducible j) known h = h
    within_more (Marked Secondary j) known h = absurd cc

    -- those of a polynomial may stand before a mark %
    pub all_more : (fs : List Factor) → All IsFactor fs → are_known None names fs ≡ true → are_within None names fs ≡ true
        → (are_known (Some n) names fs ≡ true) × (are_within (Some n) names fs ≡ true) × All (λ x. x < place_count names) (places names fs)
    all_more [] short known within = (refl, refl, All-nil (λ x. x < place_count names))
    all_more (f ∷ fs) short known within =
        let rest = all_more fs (All-tail IsFactor f fs short) (and_parts _ _ known).1 (and_parts _ _ within).1 in
        let stands = variable_at_place names f.variable (All-head IsFactor f fs short).variable (and_parts _ _ known).0 (and_parts _ _ within).0 in (
          and_from _ _ (known_more f.variable (and_parts _ _ known).0) rest.0,
          and_from _ _ (within_more f.variable (and_parts _ _ known).0 (and_parts _ _ within).0) rest.1,
          All-cons (λ x. x < place_count names) (place names f.variable) (places names fs) stands.1 rest.2,
        )

    -- what the conditions say of the factors before the mark
    pub record ArePlain (init : List Factor) : Type 0 where
      pub known : are_known None names init ≡ true
      pub within : are_within None names init ≡ true
      pub rising : rise_from 0 (places names init) ≡ true

    pub before_mark : (init : List Factor) (j : ℕ) → are_known (Some n) names (init ++ (mark_factor j ∷ [])) ≡ true → are_within (Some n) names (init ++ (mark_factor j ∷ [])) ≡ true
        → rise (places names (init ++ (mark_factor j ∷ []))) ≡ true → ArePlain init
    before_mark init j known within rises =
        let rising = rise_last (places names init) 0 (place_count names) (ap (rise_from 0) (sym (map-append (λ (f : Factor). place names f.variable) init (mark_factor j ∷ []))) ∙ sym (rise_start (places names (init ++ (mark_factor j ∷ [])))) ∙ rises) in
        let plain = plain_all init rising.1
        (and_parts _ _ (sym (list_all-append (λ (f : Factor). is_known (Some n) names f.variable) init (mark_factor j ∷ [])) ∙ known)).0
        (and_parts _ _ (sym (list_all-append (λ (f : Factor). is_within (Some n) names f.variable) init (mark_factor j ∷ [])) ∙ within)).0 in
        record { known = plain.0; within = plain.1; rising = rising.0 }

-- what holds of all factors
pub factors_split : (P : Factor → Type 0) (init : List Factor) (f : Factor) → All P (init ++ (f ∷ [])) → All P init × P f
factors_split P [] f all = (All-nil P, All-head P f [] all)
factors_split P (g ∷ init) f all =
    let rest = factors_split P init f (All-tail P g (init ++ (f ∷ [])) all) in
    (All-cons P g init (All-head P g (init ++ (f ∷ [])) all) rest.0, rest.1)

pub mark_at : (r i : ℕ) → i < place_count (mark_names r) → variable_at (mark_names r) i ≡ Marked Primary (i + 1)
mark_at r i low = let same : i - 0 + 1 ≡ i + 1 = omega arith in variable_primary (mark_names r) i (omega arith) (omega arith) ∙ ap (Marked Primary) same

-- the printed factors of the exponents and of the position
pub marks_back : (r n : ℕ) (init : List Factor) (j : ℕ) → ArePlain (mark_names r) n init → All IsFactor init → 1 ≤ j
    → factors_from (λ i. Marked Primary (i + 1)) 0 (exponents_from (mark_names r) (place_count (mark_names r)) 0 (init ++ (mark_factor j ∷ []))) ++ (mark_factor (last_index (init ++ (mark_factor j ∷ [])) - 1 + 1) ∷ [])
    ≡ init ++ (mark_factor j ∷ [])
marks_back r n init j plain short positive =
    let names = mark_names r in
    let k = place_count names in
    let exps = exponents_from names k 0 init in
    let index : last_index (init ++ (mark_factor j ∷ [])) - 1 + 1 ≡ j = omega (arith, last_index_is init j) in
    ap₂ (λ l i. factors_from (λ i. Marked Primary (i + 1)) 0 l ++ (mark_factor i ∷ [])) (exponents_last names k 0 init (mark_factor j) (omega arith)) index
    ∙ ap (λ l. l ++ (mark_factor j ∷ [])) (sym (factors_same (variable_at names) (λ i. Marked Primary (i + 1)) 0 exps (λ i low high. mark_at r i (let long = length-exponents_from names k 0 init in omega arith)))
    ∙ factors_back names k 0 init (omega arith) short plain.known plain.within plain.rising)
