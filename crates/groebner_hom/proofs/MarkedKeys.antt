-- Keys with one of the first marks, and weights of keys in the first variables.
use Rattle.std.proofs.Common.{◌≡◌, ◌∙◌, ◌⊎◌, ◌+◌, ◌-◌, ◌*◌, ◌<◌, ◌≤◌, ℕ, zero, suc, List, [], ◌∷◌, ◌++◌, length, refl, sym, ap, subst, inl, inr, arith}
use native.Mathlib.Decide.{dec_le}
use Rattle.alg_core.specs.CommonMultiples.{exponents_divide}
use Rattle.alg_core.specs.Keys.{Key}
use Rattle.alg_core.specs.Monomials.{Mon, exponent, exponent_mono, Divides}
use Rattle.alg_core.specs.SpaceGrading.{weight}
use Rattle.alg_core.proofs.MonomialLists.{exponent_past, length_mon}
use Rattle.poly_module.specs.MonomialVariables.{variable, after_zeros}
use Rattle.finite_certificate.specs.MarkSpaces.{HasMark}

-- the exponents of a variable
exponent_here : (i : ℕ) → exponent (after_zeros i (1 ∷ [])) i ≡ 1
unfolding after_zeros
exponent_here zero = refl
exponent_here (suc i) = exponent_here i

pub exponent_elsewhere : (i e j : ℕ) → ¬ (j ≡ i) → exponent (after_zeros i (e ∷ [])) j ≡ 0
unfolding after_zeros
exponent_elsewhere zero e zero n = absurd (n refl)
exponent_elsewhere zero e (suc j) n = refl
exponent_elsewhere (suc i) e zero n = refl
exponent_elsewhere (suc i) e (suc j) n = exponent_elsewhere i e j (λ p. n (ap suc p))

-- a variable with an exponent in a monomial divides it
pub variable_divides : (i : ℕ) (m : Mon) → 0 < exponent m.0 i → Divides (variable i) m
unfolding variable
variable_divides i m h = exponents_divide (variable i) m (λ j. at j (dec_same j i))
  where
    dec_same : (j i : ℕ) → Dec (j ≡ i)
    dec_same j i = from (dec_le j i) (dec_le i j)
      where
        from : Dec (j ≤ i) → Dec (i ≤ j) → Dec (j ≡ i)
        from (yes a) (yes b) = yes (omega arith)
        from (yes a) (no b) = no (λ e. b (omega arith))
        from (no a) b = no (λ e. a (omega arith))

    at : (j : ℕ) → Dec (j ≡ i) → exponent (variable i).0 j ≤ exponent m.0 j
    at j (yes e) =
        let p = exponent_mono (after_zeros i (1 ∷ [])) i in
        let q = exponent_here i in
        subst (λ l. exponent (variable i).0 l ≤ exponent m.0 l) (sym e) (omega arith)
    at j (no n) = let p = exponent_mono (after_zeros i (1 ∷ [])) j in let q = exponent_elsewhere i 1 j n in omega arith

-- weights of keys in the first variables
pub weight_front : (ws ds : List ℕ) (i : ℕ) (a : List ℕ) → length a ≤ length ws → weight (ws ++ ds) i a ≡ weight ws i a
unfolding weight
weight_front ws ds i [] h = refl
weight_front [] ds i (x ∷ a) h = absurd (omega arith)
weight_front (w ∷ ws) ds i (x ∷ a) h = ap (λ e. w * x + e) (weight_front ws ds (suc i) a (omega arith))

module _ (n : ℕ) where
  -- one of the first j marks has an exponent
  abbrev pub MarkBelow : ℕ → Key → Type 0
  MarkBelow zero t = ⊥
  MarkBelow (suc j) t = MarkBelow j t ⊎ (0 < exponent t.1.0 (n + j))

  either : {A B : Type 0} → Dec A → Dec B → Dec (A ⊎ B)
  either (yes a) b = yes (inl a)
  either (no a) (yes b) = yes (inr b)
  either (no a) (no b) = no (λ s. elim s [ inl x ↦ a x | inr y ↦ b y ])

  pub mark_below : (j : ℕ) (t : Key) → Dec (MarkBelow j t)
  mark_below zero t = no (λ h. h)
  mark_below (suc j) t = either (mark_below j t) (dec_le 1 (exponent t.1.0 (n + j)))

  -- which one
  pub the_mark : (j : ℕ) (t : Key) → MarkBelow j t → (i : ℕ) × (i < j) × (0 < exponent t.1.0 (n + i))
  the_mark zero t h = absurd h
  the_mark (suc j) t (inl h) = let r = the_mark j t h in (r.0, (let l = r.1 in omega arith), r.2)
  the_mark (suc j) t (inr h) = (j, omega arith, h)

  pub more_marks : (j : ℕ) (s t : Key) → ((i : ℕ) → exponent s.1.0 (n + i) ≤ exponent t.1.0 (n + i)) → MarkBelow j s → MarkBelow j t
  more_marks zero s t h m = m
  more_marks (suc j) s t h (inl m) = inl (more_marks j s t h m)
  more_marks (suc j) s t h (inr m) = let r = h j in inr (omega arith)

  none_of : (x : ℕ) → ¬ (0 < x) → x ≡ 0
  none_of zero h = refl
  none_of (suc x) h = absurd (h (omega arith))

  -- where none has
  pub without_marks : (j : ℕ) (t : Key) → ¬ MarkBelow j t → (i : ℕ) → i < j → exponent t.1.0 (n + i) ≡ 0
  without_marks zero t none i h = absurd (omega arith)
  without_marks (suc j) t none i h = at (dec_le j i) (without_marks j t (λ m. none (inl m)) i)
    where
      at : Dec (j ≤ i) → (i < j → exponent t.1.0 (n + i) ≡ 0) → exponent t.1.0 (n + i) ≡ 0
      at (no low) before = before (omega arith)
      at (yes high) before = let e : j ≡ i = omega arith in ap (λ l. exponent t.1.0 (n + l)) (sym e) ∙ none_of (exponent t.1.0 (n + j)) (λ p. none (inr p))

  -- in n variables and j marks a key has one of these, or no mark
  pub plain_or_marked : (j : ℕ) (t : Key) → length t.1.0 ≤ n + j → ¬ MarkBelow j t → length t.1.0 ≤ n
  plain_or_marked j t h none = length_mon n t.1 (λ i past. at i past (dec_le (suc i) (n + j)))
    where
      at : (i : ℕ) → n ≤ i → Dec (suc i ≤ n + j) → exponent t.1.0 i ≡ 0
      at i past (no high) = exponent_past t.1.0 i (omega arith)
      at i past (yes low) = let e : n + (i - n) ≡ i = omega arith in subst (λ l. exponent t.1.0 l ≡ 0) e (without_marks j t none (i - n) (omega arith))

  pub marked : (j : ℕ) (t : Key) → length t.1.0 ≤ n + j → HasMark n t → MarkBelow j t
  marked j t h mark = at (mark_below j t)
    where
      at : Dec (MarkBelow j t) → MarkBelow j t
      at (yes m) = m
      at (no none) = let l = plain_or_marked j t h none in absurd (omega arith)
