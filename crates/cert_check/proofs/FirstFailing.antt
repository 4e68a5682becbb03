-- The members of a list are tested in their order, up to the first that fails.
use Rattle.std.proofs.Common.{◌≡◌, ◌∙◌, ◌+◌, ◌<◌, ◌≤◌, ◌⊎◌, ℕ, zero, suc, List, [], ◌∷◌, length, get_or, inl, inr, refl, sym, ap, subst, arith}
use Rattle.std.specs.Prelude.{Option, Some, None, slice_get}
use Rattle.std.proofs.lemmas.Bool.{cases_lt}
use Rattle.cert_check.specs.Endings.{IsFirstFailing}
use Rattle.cert_check.specs.Parts.{At}

some-of : {A : Type 0} → A → Option A → A
some-of d None = d
some-of d (Some x) = x

-- there is nothing past the end, and one member at a place
read-at : {A : Type 0} (xs : List A) (i : ℕ) (x y : A) → slice_get xs i ≡ Some y → y ≡ get_or xs i x
unfolding some-of
read-at [] i x y e = absurd cc
read-at (z ∷ xs) zero x y e = sym (ap (some-of y) e)
read-at (z ∷ xs) (suc i) x y e = read-at xs i x y e

get-at : {A : Type 0} (xs : List A) (i : ℕ) (x : A) → i < length xs → slice_get xs i ≡ Some (get_or xs i x)
get-at [] i x h = absurd (omega arith)
get-at (z ∷ xs) zero x h = refl
get-at (z ∷ xs) (suc i) x h = get-at xs i x (omega arith)

within : {A : Type 0} (xs : List A) (i : ℕ) (y : A) → slice_get xs i ≡ Some y → i < length xs
within [] i y e = absurd cc
within (z ∷ xs) zero y e = omega arith
within (z ∷ xs) (suc i) y e = let h = within xs i y e in omega arith

below-next : (m n : ℕ) → m < suc n → (m < n) ⊎ (m ≡ n)
below-next m n h = either (cases_lt m n)
  where
    either : (m < n) ⊎ (n ≤ m) → (m < n) ⊎ (m ≡ n)
    either (inl l) = inl l
    either (inr g) = inr (omega (arith, g, h))

module _ {A : Type 0} (Q : A → Type 0) (xs : List A) where
  -- of the member at the place j, from 1
  abbrev pub AtPlace : ℕ → Type 0
  AtPlace j = (x : A) → At xs j x → Q x

  -- of the members before the place i, from 0
  abbrev pub Before : ℕ → Type 0
  Before i = (j : ℕ) → j < i + 1 → (x : A) → At xs j x → Q x

  pub none_before : Before 0
  none_before j h x at = let e = at.1 in absurd (omega (arith, e, h))

  pub one_more : (i : ℕ) (x : A) → x ≡ get_or xs i x → Q x → Before i → Before (i + 1)
  one_more i x read q before j h y at = next (below-next j (i + 1) (omega (arith, h)))
    where
      next : (j < i + 1) ⊎ (j ≡ i + 1) → Q y
      next (inl l) = before j l y at
      next (inr e) =
          let place : at.0 ≡ i = (let f = at.1 in omega (arith, e, f)) in
          subst Q (read ∙ sym (read-at xs i x y (ap (slice_get xs) (sym place) ∙ at.2))) q

  pub all_hold : (i : ℕ) → length xs ≤ i → Before i → (j : ℕ) → AtPlace j
  all_hold i past before j x at = before j (let w = within xs at.0 x at.2 in let f = at.1 in omega (arith, w, f, past)) x at

  pub first_fails : (i : ℕ) (x : A) → i < length xs → x ≡ get_or xs i x → ¬ Q x → Before i → IsFirstFailing AtPlace (Some (i + 1))
  first_fails i x low read n before = (before, λ h. n (h x (i, refl, get-at xs i x low ∙ ap Some (sym read))))
