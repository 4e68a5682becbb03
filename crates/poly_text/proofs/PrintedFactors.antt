-- Exponents and the factors with which they are printed: each list gives the other back.
use Rattle.std.proofs.Common.{◌≡◌, ◌≢◌, ◌∙◌, ℕ, zero, suc, ◌+◌, ◌<◌, ◌≤◌, ◌⊎◌, inl, inr, true, None, List, [], ◌∷◌, length, get_or, refl, sym, ap, ap₂, subst, arith}
use Rattle.std.specs.Prelude.{All, nat_le, if◌then◌else◌}
use Rattle.std.proofs.lemmas.Bool.{eq-eqb, ne_eqb, le-leb, leb-true, and_from, and_parts, cases_eq}
use Rattle.std.proofs.lemmas.List.Elements.{All-nil, All-cons, All-head, All-tail}
use Rattle.poly_text.specs.declared.names.Names.{Names}
use Rattle.poly_text.specs.Syntax.{Variable, Factor, IsVariable, IsFactor}
use Rattle.poly_text.specs.Texts.{place_count, variable_at, factors_from}
use Rattle.poly_text.specs.Values.{place, are_known, are_within, are_small, places, exponent_at, exponents_from}
use Rattle.poly_text.proofs.FactorSteps.{rise_from, exponents_past}
use Rattle.poly_text.proofs.VariablePlaces.{StandsAt, variable_at_place}

module _ (v : ℕ → Variable) where
  factors_skip : (i e : ℕ) (a : List ℕ) → e ≡ 0 → factors_from v i (e ∷ a) ≡ factors_from v (suc i) a
  factors_skip i e a none = ap (λ b. if b then factors_from v (suc i) a else record { variable = v i; exponent = e } ∷ factors_from v (suc i) a) (eq-eqb e 0 none)

  factors_take : (i e : ℕ) (a : List ℕ) → e ≢ 0 → factors_from v i (e ∷ a) ≡ record { variable = v i; exponent = e } ∷ factors_from v (suc i) a
  factors_take i e a some = ap (λ b. if b then factors_from v (suc i) a else record { variable = v i; exponent = e } ∷ factors_from v (suc i) a) (ne_eqb e 0 some)

rise_lower : (m n : ℕ) (l : List ℕ) → m ≤ n → rise_from n l ≡ true → rise_from m l ≡ true
rise_lower m n [] h r = refl
rise_lower m n (x ∷ l) h r =
    let parts = and_parts (nat_le n x) (rise_from (suc x) l) r in
    let high : n ≤ x = leb-true n x parts.0 in
    and_from _ _ (le-leb m x (omega arith)) parts.1

module _ (names : Names) where
  pub exponent_here : (f : Factor) (fs : List Factor) (i : ℕ) → place names f.variable ≡ i → exponent_at names (f ∷ fs) i ≡ f.exponent
  exponent_here f fs i at = ap (λ b. if b then f.exponent else exponent_at names fs i) (eq-eqb (place names f.variable) i at)

  pub exponent_there : (f : Factor) (fs : List Factor) (i : ℕ) → place names f.variable ≢ i → exponent_at names (f ∷ fs) i ≡ exponent_at names fs i
  exponent_there f fs i other = ap (λ b. if b then f.exponent else exponent_at names fs i) (ne_eqb (place names f.variable) i other)

  -- before the first place the exponent is 0
  exponent_below : (fs : List Factor) (m i : ℕ) → i < m → rise_from m (places names fs) ≡ true → exponent_at names fs i ≡ 0
  exponent_below [] m i low rising = refl
  exponent_below (f ∷ fs) m i low rising =
      let parts = and_parts (nat_le m (place names f.variable)) (rise_from (suc (place names f.variable)) (places names fs)) rising in
      let high : m ≤ place names f.variable = leb-true _ _ parts.0 in
      exponent_there f fs i (omega arith) ∙ exponent_below fs (suc (place names f.variable)) i (omega arith) parts.1

  -- the factors of the exponents from the place i on
  pub record AreFactorsOf (i : ℕ) (a : List ℕ) (fs : List Factor) : Type 0 where
    pub known : are_known None names fs ≡ true
    pub within : are_within None names fs ≡ true
    pub rising : rise_from i (places names fs) ≡ true
    pub small : are_small fs ≡ true
    pub exponents : exponents_from names (length a) i fs ≡ a
    pub short : All IsFactor fs

  none_printed : (i e : ℕ) (a : List ℕ) (fs : List Factor) → e ≡ 0 → AreFactorsOf (suc i) a fs → AreFactorsOf i (e ∷ a) fs
  none_printed i e a fs none rest = record {
    known = rest.known;
    within = rest.within;
    rising = rise_lower i (suc i) (places names fs) (omega arith) rest.rising;
    small = rest.small;
    exponents = ap₂ ◌∷◌ (exponent_below fs (suc i) i (omega arith) rest.rising ∙ sym none) rest.exponents;
    short = rest.short;
  }

  one_printed : (i : ℕ) (f : Factor) (a : List ℕ) (fs : List Factor) → StandsAt names f.variable i → f.exponent ≤ 4096 → IsFactor f → AreFactorsOf (suc i) a fs → AreFactorsOf i (f.exponent ∷ a) (f ∷ fs)
  one_printed i f a fs stands small short rest = record {
    known = and_from _ _ stands.known rest.known;
    within = and_from _ _ stands.within rest.within;
    rising = and_from _ _ (le-leb i (place names f.variable) (omega (arith, stands.place))) (ap (λ p. rise_from (suc p) (places names fs)) stands.place ∙ rest.rising);
    small = and_from _ _ (le-leb f.exponent 4096 small) rest.small;
    exponents = ap₂ ◌∷◌ (exponent_here f fs i stands.place) (exponents_past names (length a) (suc i) f fs (omega (arith, stands.place)) ∙ rest.exponents);
    short = All-cons IsFactor f fs short rest.short;
  }

  -- exponents that are printed
  pub printed_factors : (i : ℕ) (a : List ℕ) → ((j : ℕ) → i ≤ j → j < i + length a → StandsAt names (variable_at names j) j) → All (λ e. e ≤ 4096) a
      → ((k : ℕ) → k < length a → get_or a k 0 ≢ 0 → IsVariable (variable_at names (i + k))) → AreFactorsOf i a (factors_from (variable_at names) i a)
  printed_factors i [] stands small short = record { known = refl; within = refl; rising = refl; small = refl; exponents = refl; short = All-nil IsFactor }
  printed_factors i (e ∷ a) stands small short =
      let rest = printed_factors (suc i) a (λ j low high. stands j (omega arith) (omega arith)) (All-tail (λ x. x ≤ 4096) e a small)
      (λ k below some. let same : i + suc k ≡ suc i + k = omega arith in subst (λ j. IsVariable (variable_at names j)) same (short (suc k) (omega arith) some)) in
      go (cases_eq e 0) rest
    where
      go : (e ≡ 0) ⊎ (e ≢ 0) → AreFactorsOf (suc i) a (factors_from (variable_at names) (suc i) a) → AreFactorsOf i (e ∷ a) (factors_from (variable_at names) i (e ∷ a))
      go (inl none) rest = subst (AreFactorsOf i (e ∷ a)) (sym (factors_skip (variable_at names) i e a none)) (none_printed i e a _ none rest)
      go (inr some) rest =
          let low : e ≤ 4096 = All-head (λ x. x ≤ 4096) e a small in
          let here : i + 0 ≡ i = omega arith in
          let one : IsVariable (variable_at names i) = subst (λ j. IsVariable (variable_at names j)) here (short 0 (omega arith) some) in
          subst (AreFactorsOf i (e ∷ a)) (sym (factors_take (variable_at names) i e a some))
          (one_printed i (record { variable = variable_at names i; exponent = e }) a _ (stands i (omega arith) (omega arith)) low (record { variable = one; exponent = (omega arith, omega arith) }) rest)

  -- the factors that are printed for the exponents of factors whose values pass
  pub factors_back : (n i : ℕ) (fs : List Factor) → i + n ≡ place_count names → All IsFactor fs → are_known None names fs ≡ true → are_within None names fs ≡ true → rise_from i (places names fs) ≡ true
      → factors_from (variable_at names) i (exponents_from names n i fs) ≡ fs
  factors_back zero i [] whole short known within rising = refl
  factors_back zero i (f ∷ fs) whole short known within rising =
      let stands = variable_at_place names f.variable (All-head IsFactor f fs short).variable (and_parts _ _ known).0 (and_parts _ _ within).0 in
      let high : i ≤ place names f.variable = leb-true _ _ (and_parts (nat_le i (place names f.variable)) _ rising).0 in
      absurd (omega (arith, stands.1))
  factors_back (suc n) i [] whole short known within rising =
      factors_skip (variable_at names) i 0 (exponents_from names n (suc i) []) refl ∙ factors_back n (suc i) [] (omega arith) short refl refl refl
  factors_back (suc n) i (f ∷ fs) whole short known within rising =
      go (cases_eq (place names f.variable) i)
      (factors_back n (suc i) fs (omega arith) (All-tail IsFactor f fs short) (and_parts _ _ known).1 (and_parts _ _ within).1)
      (factors_back n (suc i) (f ∷ fs) (omega arith) short known within)
    where
      go : (place names f.variable ≡ i) ⊎ (place names f.variable ≢ i)
          → (rise_from (suc i) (places names fs) ≡ true → factors_from (variable_at names) (suc i) (exponents_from names n (suc i) fs) ≡ fs)
          → (rise_from (suc i) (places names (f ∷ fs)) ≡ true → factors_from (variable_at names) (suc i) (exponents_from names n (suc i) (f ∷ fs)) ≡ f ∷ fs)
          → factors_from (variable_at names) i (exponents_from names (suc n) i (f ∷ fs)) ≡ f ∷ fs
      go (inl at) after same =
          let stands = variable_at_place names f.variable (All-head IsFactor f fs short).variable (and_parts _ _ known).0 (and_parts _ _ within).0 in
          let positive : f.exponent ≢ 0 = let some = (All-head IsFactor f fs short).exponent.0 in omega arith in
          let rest : rise_from (suc i) (places names fs) ≡ true = ap (λ p. rise_from (suc p) (places names fs)) (sym at) ∙ (and_parts (nat_le i (place names f.variable)) _ rising).1 in
          let variable : variable_at names i ≡ f.variable = ap (variable_at names) (sym at) ∙ stands.0 in
          ap₂ (λ e l. factors_from (variable_at names) i (e ∷ l)) (exponent_here f fs i at) (exponents_past names n (suc i) f fs (omega arith))
          ∙ factors_take (variable_at names) i f.exponent (exponents_from names n (suc i) fs) positive
          ∙ ap₂ (λ w l. record { variable = w; exponent = f.exponent } ∷ l) variable (after rest)
      go (inr other) after same =
          let high : i ≤ place names f.variable = leb-true _ _ (and_parts (nat_le i (place names f.variable)) _ rising).0 in
          let rest : rise_from (suc i) (places names (f ∷ fs)) ≡ true = and_from _ _ (le-leb (suc i) (place names f.variable) (omega arith)) (and_parts (nat_le i (place names f.variable)) _ rising).1 in
          factors_skip (variable_at names) i (exponent_at names (f ∷ fs) i) (exponents_from names n (suc i) (f ∷ fs)) (exponent_below (f ∷ fs) (suc i) i (omega arith) rest)
          ∙ same rest
