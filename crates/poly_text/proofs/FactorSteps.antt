-- Loops over the factors of a term.
use Rattle.std.proofs.Common.{◌≡◌, ◌∙◌, ℕ, zero, suc, ◌+◌, ◌-◌, ◌<◌, ◌≤◌, Bool, true, false, List, [], ◌∷◌, length, get_or, set, drop, reverse, refl, sym, ap, ap₂, subst, arith}
use Rattle.std.specs.Prelude.{All, ◌&&◌, ◌==◌, nat_le, nat_lt, replicate}
use Rattle.std.specs.List.{list_all}
use Rattle.std.proofs.lemmas.Bool.{and_parts, le-leb, lt-leb}
use Rattle.std.proofs.lemmas.Bool.Decides.{nat_tests}
use Rattle.std.proofs.lemmas.List.{get_or-map, get_or-reverse, length-map, length-reverse, drop_more}
use Rattle.poly_text.specs.declared.names.Names.{Names}
use Rattle.poly_text.specs.declared.syntax.FactorText.{FactorText}
use Rattle.poly_text.specs.Syntax.{Factor}
use Rattle.poly_text.specs.Trees.{variable_of, factor_of, factors_of}
use Rattle.poly_text.specs.Values.{is_known, is_within, HasPlace, HavePlaces, is_secondary, index, ends_with_secondary, last_index, place, places, rise, exponents_from}

below_tree : (xs : List FactorText) (i : ℕ) → i < length xs → i < length (factors_of xs)
below_tree xs i below = subst (λ n. i < n) (sym (length-map xs factor_of)) below

-- what holds of each factor
pub given_factor : (P : Factor → Type 0) (xs : List FactorText) (i : ℕ) (d : FactorText) → i < length xs → All P (factors_of xs) → P (factor_of (get_or xs i d))
given_factor P xs i d below all = subst P (get_or-map factor_of xs i d (factor_of d) below) (all i (factor_of d) (below_tree xs i below))

list_all-get_or : {X : Type 0} (p : X → Bool) (xs : List X) (i : ℕ) (d : X) → i < length xs → list_all p xs ≡ true → p (get_or xs i d) ≡ true
list_all-get_or p [] i d below h = absurd (omega arith)
list_all-get_or p (x ∷ xs) zero d below h = (and_parts _ _ h).0
list_all-get_or p (x ∷ xs) (suc i) d below h = list_all-get_or p xs i d (omega arith) (and_parts _ _ h).1

-- what a test found of each factor
pub passing_factor : (p : Factor → Bool) (xs : List FactorText) (i : ℕ) (d : FactorText) → i < length xs → list_all p (factors_of xs) ≡ true → p (factor_of (get_or xs i d)) ≡ true
passing_factor p xs i d below all = ap p (sym (get_or-map factor_of xs i d (factor_of d) below)) ∙ list_all-get_or p (factors_of xs) i (factor_of d) (below_tree xs i below) all

-- the numbers rise, the first of them at least m
abbrev pub rise_from : ℕ → List ℕ → Bool
rise_from m [] = true
rise_from m (x ∷ l) = nat_le m x && rise_from (suc x) l

rise_first : (x : ℕ) (l : List ℕ) → rise (x ∷ l) ≡ rise_from (suc x) l
rise_first x [] = refl
rise_first x (y ∷ l) = ap (λ b. nat_lt x y && b) (rise_first y l)

pub rise_start : (l : List ℕ) → rise l ≡ rise_from 0 l
rise_start [] = refl
rise_start (x ∷ l) = rise_first x l ∙ sym (ap (λ b. b && rise_from (suc x) l) (le-leb 0 x (omega arith)))

-- the place of the next factor, and the places after it
pub places_more : (names : Names) (xs : List FactorText) (i : ℕ) (d : FactorText) → i < length xs → drop i (places names (factors_of xs)) ≡ place names (factor_of (get_or xs i d)).variable ∷ drop (i + 1) (places names (factors_of xs))
places_more names xs i d below =
    let long : i < length (places names (factors_of xs)) = subst (λ n. i < n) (sym (length-map (factors_of xs) (λ f. place names f.variable))) (below_tree xs i below) in
    let here : get_or (places names (factors_of xs)) i 0 ≡ place names (factor_of (get_or xs i d)).variable =
    get_or-map (λ f. place names f.variable) (factors_of xs) i (factor_of d) 0 (below_tree xs i below) ∙ ap (λ f. place names f.variable) (get_or-map factor_of xs i d (factor_of d) below) in
    drop_more (places names (factors_of xs)) i 0 long ∙ ap (λ x. x ∷ drop (i + 1) (places names (factors_of xs))) here

pub rise_step : (names : Names) (xs : List FactorText) (i : ℕ) (d : FactorText) (least p : ℕ) → i < length xs → p ≡ place names (factor_of (get_or xs i d)).variable → least ≤ p → rise_from least (drop i (places names (factors_of xs))) ≡ rise_from (p + 1) (drop (i + 1) (places names (factors_of xs)))
rise_step names xs i d least p below is enough =
    let one : suc p ≡ p + 1 = omega arith in
    ap (rise_from least) (places_more names xs i d below ∙ ap (λ x. x ∷ drop (i + 1) (places names (factors_of xs))) (sym is))
    ∙ ap (λ b. b && rise_from (suc p) (drop (i + 1) (places names (factors_of xs)))) (le-leb least p enough)
    ∙ ap (λ n. rise_from n (drop (i + 1) (places names (factors_of xs)))) one

pub rise_fails : (names : Names) (xs : List FactorText) (i : ℕ) (d : FactorText) (least p : ℕ) → i < length xs → p ≡ place names (factor_of (get_or xs i d)).variable → p < least → rise_from least (drop i (places names (factors_of xs))) ≡ false
rise_fails names xs i d least p below is small =
    ap (rise_from least) (places_more names xs i d below ∙ ap (λ x. x ∷ drop (i + 1) (places names (factors_of xs))) (sym is))
    ∙ ap (λ b. b && rise_from (suc p) (drop (i + 1) (places names (factors_of xs)))) (lt-leb least p small)

-- the last factor tells the ending and the index
pub ending_last : (xs : List FactorText) (k : ℕ) (d : FactorText) → suc k ≡ length xs → ends_with_secondary (factors_of xs) ≡ (is_secondary (variable_of (get_or xs k d).variable) && ((get_or xs k d).exponent == 1))
ending_last [] k d last = absurd (omega arith)
ending_last (y ∷ []) zero d last = refl
ending_last (y ∷ []) (suc k) d last = absurd (omega arith)
ending_last (y ∷ z ∷ xs) zero d last = absurd (omega arith)
ending_last (y ∷ z ∷ xs) (suc k) d last = ending_last (z ∷ xs) k d (omega arith)

pub ending_of : (xs : List FactorText) (k : ℕ) (d : FactorText) (b : Bool) → suc k ≡ length xs → b ≡ is_secondary (variable_of (get_or xs k d).variable) → ends_with_secondary (factors_of xs) ≡ (b && ((get_or xs k d).exponent == 1))
ending_of xs k d b last is = ending_last xs k d last ∙ ap (λ t. t && ((get_or xs k d).exponent == 1)) (sym is)

pub index_last : (xs : List FactorText) (k : ℕ) (d : FactorText) → suc k ≡ length xs → last_index (factors_of xs) ≡ index (variable_of (get_or xs k d).variable)
index_last [] k d last = absurd (omega arith)
index_last (y ∷ []) zero d last = refl
index_last (y ∷ []) (suc k) d last = absurd (omega arith)
index_last (y ∷ z ∷ xs) zero d last = absurd (omega arith)
index_last (y ∷ z ∷ xs) (suc k) d last = index_last (z ∷ xs) k d (omega arith)

-- what is known of all factors holds of each
pub placed_factor : (names : Names) (xs : List FactorText) (i : ℕ) (d : FactorText) → i < length xs → HavePlaces names (factors_of xs) → HasPlace names (variable_of (get_or xs i d).variable)
placed_factor names xs i d below have =
    (have.0, passing_factor (λ f. is_known have.0 names f.variable) xs i d below have.1, passing_factor (λ f. is_within have.0 names f.variable) xs i d below have.2)

-- exponents of no factors
pub exponents_none : (names : Names) (n i : ℕ) → replicate n 0 ≡ exponents_from names n i []
exponents_none names zero i = refl
exponents_none names (suc n) i = ap (λ l. 0 ∷ l) (exponents_none names n (suc i))

pub length-exponents_from : (names : Names) (n i : ℕ) (fs : List Factor) → length (exponents_from names n i fs) ≡ n
length-exponents_from names zero i fs = refl
length-exponents_from names (suc n) i fs = ap suc (length-exponents_from names n (suc i) fs)

-- a factor before the places changes nothing
pub exponents_past : (names : Names) (n i : ℕ) (f : Factor) (fs : List Factor) → place names f.variable < i → exponents_from names n i (f ∷ fs) ≡ exponents_from names n i fs
exponents_past names zero i f fs low = refl
exponents_past names (suc n) i f fs low =
    let other : (place names f.variable == i) ≡ false = grind (arith, nat_tests) in
    ap₂ ◌∷◌ (grind (arith, nat_tests)) (exponents_past names n (suc i) f fs (omega arith))

-- one factor more is an exponent written at its place
pub exponents_more : (names : Names) (n i k : ℕ) (f : Factor) (fs : List Factor) → place names f.variable ≡ i + k → set (exponents_from names n i fs) k f.exponent ≡ exponents_from names n i (f ∷ fs)
exponents_more names zero i zero f fs at = refl
exponents_more names zero i (suc k) f fs at = refl
exponents_more names (suc n) i zero f fs at =
    let here : (place names f.variable == i) ≡ true = grind (arith, nat_tests) in
    ap₂ ◌∷◌ (grind (arith, nat_tests)) (sym (exponents_past names n (suc i) f fs (omega arith)))
exponents_more names (suc n) i (suc k) f fs at =
    let other : (place names f.variable == i) ≡ false = grind (arith, nat_tests) in
    ap₂ ◌∷◌ (grind (arith, nat_tests)) (exponents_more names n (suc i) k f fs (omega arith))

-- the next factor towards the front
pub factor_back : (xs : List FactorText) (k : ℕ) (x : FactorText) → (k < length (reverse xs)) × (x ≡ get_or (reverse xs) k x) → (k < length xs) × (x ≡ get_or xs (length xs - 1 - k) x)
factor_back xs k x turn =
    let below : k < length xs = omega (arith, turn.0, length-reverse xs) in
    (below, turn.1 ∙ get_or-reverse xs k x below)

pub exponents_step : (names : Names) (n : ℕ) (xs : List FactorText) (i : ℕ) (x : FactorText) (es : List ℕ) (left : ℕ) → left ≡ i + 1 → i < length xs → x ≡ get_or xs i x
    → es ≡ exponents_from names n 0 (factors_of (drop left xs)) → set es (place names (factor_of x).variable) x.exponent ≡ exponents_from names n 0 (factors_of (drop i xs))
exponents_step names n xs i x es left next below is was =
    ap (λ l. set l (place names (factor_of x).variable) x.exponent) (was ∙ ap (λ k. exponents_from names n 0 (factors_of (drop k xs))) next)
    ∙ exponents_more names n 0 (place names (factor_of x).variable) (factor_of x) (factors_of (drop (i + 1) xs)) (omega arith)
    ∙ ap (λ l. exponents_from names n 0 (factors_of l)) (sym (drop_more xs i x below ∙ ap (λ y. y ∷ drop (i + 1) xs) (sym is)))

-- the turn of the k-th factor from the back
pub exponents_turn : (names : Names) (n : ℕ) (xs : List FactorText) (k : ℕ) (x : FactorText) (es : List ℕ) (next : ℕ) → next ≡ k + 1 → k < length xs → x ≡ get_or xs (length xs - 1 - k) x
    → es ≡ exponents_from names n 0 (factors_of (drop (length xs - k) xs)) → set es (place names (factor_of x).variable) x.exponent ≡ exponents_from names n 0 (factors_of (drop (length xs - next) xs))
exponents_turn names n xs k x es next more below is was =
    let here : length xs - k ≡ length xs - 1 - k + 1 = omega arith in
    let within : length xs - 1 - k < length xs = omega arith in
    let fewer : length xs - 1 - k ≡ length xs - next = omega arith in
    exponents_step names n xs (length xs - 1 - k) x es (length xs - k) here within is was ∙ ap (λ i. exponents_from names n 0 (factors_of (drop i xs))) fewer
