-- One round of spreading: it keeps values and degrees, and what is left to replace has a smaller degree in the variables.
use Rattle.std.proofs.Common.{◌≡◌, ◌∙◌, ◌+◌, ◌<◌, ◌≤◌, ℕ, suc, Option, Some, None, List, [], ◌∷◌, ◌++◌, length, get_or, replicate, refl, sym, ap, subst, arith}
use Rattle.std.proofs.lemmas.List.{length-map, get_or-map}
use native.Mathlib.Decide.{ℕ_discrete, dec_le}
use Rattle.alg_core.specs.Rings.{Linear}
use Rattle.alg_core.specs.ModuleLaws as modules
use Rattle.alg_core.specs.Fields.{FieldOn, scalars}
use Rattle.alg_core.specs.FreeModules.{extend_linear, extend_single, linear_unique}
use Rattle.alg_core.specs.Keys.{Key, key_same, keys, times_key}
use Rattle.alg_core.specs.Monomials.{Mon, monomials, mono, exponent}
use Rattle.alg_core.specs.SpaceGrading.{AllPositive, weight, weight_mul}
use Rattle.alg_core.specs.Vectors.{Vect, vectors, plus, zero_vector, shift}
use Rattle.poly_module.specs.MonomialVariables.{after_zeros}
use Rattle.poly_module.specs.Polynomials.{single_vector, product}
use Rattle.poly_module.specs.Products.{shift_product, product_single}
use Rattle.poly_module.specs.Substitutions.{substitute_product, substitute_single}
use Rattle.poly_module.specs.Variables.{substitute_linear, length_mul}
use Rattle.poly_module.specs.Parts.{Supp, supp_weaken, supp_single, supp_shift, linear_supp}
use Rattle.poly_module.specs.Forms.{key_weight}
use Rattle.poly_module.specs.Combinations.{mark_value}
use Rattle.poly_module.proofs.MarkValues.{mark_value_polynomial}
use Rattle.finite_certificate.specs.MarkSpaces.{HasMark}
use Rattle.finite_certificate.specs.Ideals.{variable_power}
use Rattle.finite_certificate.specs.Finiteness.{IsBelow}
use Rattle.finite_certificate.specs.Spreading.{first_reached, without, exponents_of, replaced_at, replaced, spread_once}
use Rattle.finite_certificate.proofs.VariablePowers.{power_single}
use Rattle.finite_certificate.proofs.Reached.{reached_some, none_below, below_none, lowered_times}
use Rattle.finite_certificate.proofs.MarkDegrees.{variable_degree, marked_degree, power_degree, power_variable_degree, variable_degree_mul, power_length, without_length}

-- how many rounds a monomial can want
pub rank_at : Option ℕ → ℕ → ℕ
rank_at None d = 0
rank_at (Some i) d = suc d

-- 0 where no variable is reached, else one more than its degree in the variables
abbrev pub rounds : ℕ → List ℕ → Key → ℕ
rounds n es t = rank_at (first_reached es t.1.0) (variable_degree n t)

pub rounds_most : (n : ℕ) (es : List ℕ) (t : Key) → rounds n es t ≤ suc (variable_degree n t)
unfolding rank_at
rounds_most n es t = at (first_reached es t.1.0)
  where
    at : (o : Option ℕ) → rank_at o (variable_degree n t) ≤ suc (variable_degree n t)
    at None = omega arith
    at (Some i) = omega arith

pub rounds_none : (n : ℕ) (es : List ℕ) (t : Key) → rounds n es t ≤ 0 → IsBelow es t
unfolding rank_at
rounds_none n es t h = none_below es t (at (first_reached es t.1.0) h)
  where
    at : (o : Option ℕ) → rank_at o (variable_degree n t) ≤ 0 → o ≡ None
    at None h = refl
    at (Some i) h = absurd (omega arith)

pub below_rounds : (n : ℕ) (es : List ℕ) (t : Key) → IsBelow es t → rounds n es t ≤ 0
unfolding rank_at
below_rounds n es t h = subst (λ o. rank_at o (variable_degree n t) ≤ 0) (sym (below_none es t h)) (omega arith)

module _ {E : Type 0} (k : FieldOn E) (n : ℕ) (ds : List ℕ) (ps : List (ℕ × Vect k)) where
  abbrev es : List ℕ
  es = exponents_of k ps

  abbrev pub power_at : ℕ → ℕ × Vect k
  power_at i = get_or ps i (0, zero_vector k)

  -- a key at position 0, of a degree, in the variables and marks
  abbrev pub IsKeyOf : ℕ → Key → Type 0
  IsKeyOf d t = (t.0 ≡ 0) × (key_weight (replicate n 1 ++ ds) t ≡ d) × (length t.1.0 ≤ n + length ds)

  -- the forms have the degrees of the powers, and a mark in each term
  abbrev pub AreMarkedForms : Type 0
  AreMarkedForms = (i : ℕ) → i < n → Supp k (λ t. IsKeyOf (power_at i).0 t × HasMark n t) (power_at i).1

  -- a key at position 0, of such a degree, in the variables and marks, that wants at most b rounds
  abbrev pub Within : (ℕ → Type 0) → ℕ → Key → Type 0
  Within D b t = (t.0 ≡ 0) × D (key_weight (replicate n 1 ++ ds) t) × (length t.1.0 ≤ n + length ds) × (rounds n es t ≤ b)

  pub once_linear : Linear (vectors k) (vectors k) (spread_once k ps)
  unfolding spread_once
  once_linear = extend_linear (scalars k) key_same (vectors k) _

  pub once_single : (t : Key) → spread_once k ps (single_vector k t) ≡ replaced k ps t
  unfolding spread_once single_vector
  once_single t = extend_single (scalars k) key_same (vectors k) _ t

  pub once_plus : (u v : Vect k) → spread_once k ps (plus k u v) ≡ plus k (spread_once k ps u) (spread_once k ps v)
  unfolding plus
  once_plus = once_linear.add

  -- a variable that is reached
  record Reach (t : Key) (i : ℕ) : Type 0 where
    pub within : i < length ps
    pub high : (power_at i).0 ≤ exponent t.1.0 i

  reach : (t : Key) (i : ℕ) → first_reached es t.1.0 ≡ Some i → Reach t i
  reach t i e =
      let r = reached_some 0 es t.1.0 i e in
      let same : r.place ≡ i = omega (arith, r.from) in
      let count : length es ≡ length ps = length-map ps (λ (p : ℕ × Vect k). p.0) in
      let within : i < length ps = omega (arith, r.within) in
      let high : get_or es i 0 ≤ exponent t.1.0 i = subst (λ (l : ℕ). get_or es l 0 ≤ exponent t.1.0 i) same r.reached in
      record { within = within; high = subst (λ (x : ℕ). x ≤ exponent t.1.0 i) (get_or-map (λ (p : ℕ × Vect k). p.0) ps i (0, zero_vector k) 0 within) high }

  -- values
  module _ (θ : List (Vect k)) (count : length ps ≡ n) (values : (i : ℕ) → i < n → mark_value k n θ (power_at i).1 ≡ variable_power k i (power_at i).0) where
    abbrev value : Vect k → Vect k
    value = mark_value k n θ

    times_value : (a b : Mon) → product k (value (single_vector k (0, a))) (value (single_vector k (0, b))) ≡ value (single_vector k (0, monomials.◌·◌ a b))
    unfolding keys
    times_value a b = sym (substitute_product k _ (single_vector k (0, a)) (single_vector k (0, b))) ∙ ap value (product_single k (0, a) (0, b))

    top_value : (i e : ℕ) → i < n → value (single_vector k (0, mono (after_zeros i (e ∷ [])))) ≡ single_vector k (0, mono (after_zeros i (e ∷ [])))
    top_value i e h = mark_value_polynomial k n θ _ (supp_single k (λ t. t.0 ≡ 0) (0, mono (after_zeros i (e ∷ []))) refl)
        (supp_single k (λ t. length t.1.0 ≤ n) (0, mono (after_zeros i (e ∷ []))) (power_length n i e h))

    replaced_value : (t : Key) (i : ℕ) → Reach t i → value (shift k (mono (without i (power_at i).0 t.1.0)) (power_at i).1) ≡ value (single_vector k t)
    replaced_value t i r =
        let e = (power_at i).0 in
        let low = mono (without i e t.1.0) in
        let top = mono (after_zeros i (e ∷ [])) in
        let within : i < n = omega (arith, r.within) in
        ap value (shift_product k low (power_at i).1) ∙ substitute_product k _ (single_vector k (0, low)) (power_at i).1
        ∙ ap (product k (value (single_vector k (0, low)))) (values i within ∙ power_single k i e ∙ sym (top_value i e within))
        ∙ times_value low top ∙ ap (λ m. value (single_vector k (0, m))) (lowered_times i e t.1 r.high)
        ∙ substitute_single k _ (0, t.1) ∙ sym (substitute_single k _ t)

    single_value : (t : Key) → value (replaced k ps t) ≡ value (single_vector k t)
    unfolding replaced_at
    single_value t = at (first_reached es t.1.0) refl
      where
        at : (o : Option ℕ) → first_reached es t.1.0 ≡ o → value (replaced_at k ps t o) ≡ value (single_vector k t)
        at None e = refl
        at (Some i) e = replaced_value t i (reach t i e)

    -- a round keeps the value
    pub once_value : (u : Vect k) → value (spread_once k ps u) ≡ value u
    unfolding single_vector
    once_value = linear_unique (scalars k) key_same (vectors k) (λ u. value (spread_once k ps u)) value
        (modules.linear_after (vectors k) (vectors k) (vectors k) (spread_once k ps) value once_linear (substitute_linear k _)) (substitute_linear k _)
        (λ t. ap value (once_single t) ∙ single_value t)

  -- keys
  module _ (count : length ps ≡ n) (positive : AllPositive ds) (forms : AreMarkedForms) where
    -- of the same degree, and of a smaller one in the variables
    abbrev IsSmaller : Key → Key → Type 0
    IsSmaller t s = IsKeyOf (key_weight (replicate n 1 ++ ds) t) s × (variable_degree n s < variable_degree n t)

    is_smaller : (t s : Key) → Dec (IsSmaller t s)
    is_smaller t s = dec_three (ℕ_discrete s.0 0) (ℕ_discrete (key_weight (replicate n 1 ++ ds) s) _) (dec_le (length s.1.0) _) (dec_le (suc (variable_degree n s)) (variable_degree n t))
      where
        dec_three : {A B C D : Type 0} → Dec A → Dec B → Dec C → Dec D → Dec ((A × B × C) × D)
        dec_three (yes a) (yes b) (yes c) (yes d) = yes ((a, b, c), d)
        dec_three (no a) b c d = no (λ h. a h.0.0)
        dec_three (yes a) (no b) c d = no (λ h. b h.0.1)
        dec_three (yes a) (yes b) (no c) d = no (λ h. c h.0.2)
        dec_three (yes a) (yes b) (yes c) (no d) = no (λ h. d h.1)

    replaced_keys : (t : Key) (i : ℕ) → length t.1.0 ≤ n + length ds → Reach t i → Supp k (IsSmaller t) (shift k (mono (without i (power_at i).0 t.1.0)) (power_at i).1)
    replaced_keys t i short r = supp_shift k (λ s. IsKeyOf (power_at i).0 s × HasMark n s) (IsSmaller t) (is_smaller t) (mono (without i (power_at i).0 t.1.0)) each (power_at i).1 (forms i within)
      where
        within : i < n
        within = omega (arith, r.within)

        each : (s : Key) → IsKeyOf (power_at i).0 s × HasMark n s → IsSmaller t (times_key (mono (without i (power_at i).0 t.1.0)) s)
        each s h =
            let e = (power_at i).0 in
            let W = replicate n 1 ++ ds in
            let low = mono (without i e t.1.0) in
            let top = mono (after_zeros i (e ∷ [])) in
            let whole = lowered_times i e t.1 r.high in
            let less = marked_degree n ds s positive h.0.2 h.1 in
            let is = h.0.1 in
            let w1 = weight_mul W low s.1 in
            let w2 : weight W 0 t.1.0 ≡ weight W 0 low.0 + weight W 0 top.0 = ap (λ m. weight W 0 m.0) (sym whole) ∙ weight_mul W low top in
            let w3 : weight W 0 top.0 ≡ e = power_degree n i e ds within in
            let d1 = variable_degree_mul n low s.1 in
            let d2 : variable_degree n t ≡ variable_degree n (0, low) + variable_degree n (0, top) = ap (λ m. variable_degree n (0, m)) (sym whole) ∙ variable_degree_mul n low top in
            let d3 : variable_degree n (0, top) ≡ e = power_variable_degree n i e within in
            ((h.0.0, omega arith, length_mul (n + length ds) low s.1 (without_length i e (n + length ds) t.1.0 short) h.0.2), omega arith)

    -- the keys of a replaced monomial are those of its degree, and want fewer rounds than it
    abbrev pub Fewer : Key → Key → Type 0
    Fewer t s = IsKeyOf (key_weight (replicate n 1 ++ ds) t) s × ((b : ℕ) → rounds n es t ≤ suc b → rounds n es s ≤ b)

    single_keys : (t : Key) → t.0 ≡ 0 → length t.1.0 ≤ n + length ds → Supp k (Fewer t) (replaced k ps t)
    unfolding replaced_at rank_at
    single_keys t z short = at (first_reached es t.1.0) refl
      where
        at : (o : Option ℕ) → first_reached es t.1.0 ≡ o → Supp k (Fewer t) (replaced_at k ps t o)
        at None e = supp_single k (Fewer t) t ((z, refl, short), λ b h. let none : rounds n es t ≤ 0 = subst (λ o. rank_at o (variable_degree n t) ≤ 0) (sym e) (omega arith) in omega arith)
        at (Some i) e = supp_weaken k (IsSmaller t) (Fewer t) (λ s h. (
          h.0,
          λ b up.
              let some : rounds n es t ≡ suc (variable_degree n t) = ap (λ o. rank_at o (variable_degree n t)) e in
              let most = rounds_most n es s in
              let less = h.1 in
              omega arith,
        )) _ (replaced_keys t i short (reach t i e))

    -- a polynomial in the variables and marks stays one, of its degrees, and wants one round less
    pub once_keys : (D : ℕ → Type 0) → ((d : ℕ) → Dec (D d)) → (b : ℕ) (u : Vect k) → Supp k (Within D (suc b)) u → Supp k (Within D b) (spread_once k ps u)
    once_keys D test b = linear_supp k (spread_once k ps) once_linear (Within D (suc b)) (Within D b) within
        (λ t h. subst (Supp k (Within D b)) (sym (once_single t)) (supp_weaken k (Fewer t) (Within D b) (λ s f. (f.0.0, subst D (sym f.0.1) h.1, f.0.2, f.1 b h.3)) _ (single_keys t h.0 h.2)))
      where
        dec_four : {A B C D : Type 0} → Dec A → Dec B → Dec C → Dec D → Dec (A × B × C × D)
        dec_four (yes a) (yes b) (yes c) (yes d) = yes (a, b, c, d)
        dec_four (no a) b c d = no (λ h. a h.0)
        dec_four (yes a) (no b) c d = no (λ h. b h.1)
        dec_four (yes a) (yes b) (no c) d = no (λ h. c h.2)
        dec_four (yes a) (yes b) (yes c) (no d) = no (λ h. d h.3)

        within : (t : Key) → Dec (Within D b t)
        within t = dec_four (ℕ_discrete t.0 0) (test (key_weight (replicate n 1 ++ ds) t)) (dec_le (length t.1.0) _) (dec_le (rounds n es t) b)
