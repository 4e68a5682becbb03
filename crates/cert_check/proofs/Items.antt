-- Items of a list one after another: what holds of all up to one, and the first that fails.
use Rattle.std.proofs.Common.{◌≡◌, ◌∙◌, ◌⊎◌, ℕ, zero, suc, ◌+◌, ◌<◌, ◌≤◌, List, [], ◌∷◌, length, map, get_or, inl, inr, refl, sym, ap, subst, arith}
use Rattle.std.specs.Prelude.{Some, slice_get}
use Rattle.std.proofs.lemmas.Bool.{cases_lt}
use Rattle.std.proofs.lemmas.Option.{slice_get-get_or}
use Rattle.alg_core.specs.Lists.{In}
use Rattle.cert_check.specs.Endings.{IsFirstFailing}
use Rattle.cert_check.specs.Parts.{At}
use Rattle.cert_check.proofs.MadePlaces.{place_within, same_some}

module _ (P : ℕ → Type 0) where
  -- the items up to n
  abbrev pub HoldsTo : ℕ → Type 0
  HoldsTo n = (i : ℕ) → i < suc n → P i

  pub holds_first : P 0 → HoldsTo 0
  holds_first h i l = let e : 0 ≡ i = omega arith in subst P e h

  pub holds_more : (n : ℕ) → HoldsTo n → P (n + 1) → HoldsTo (n + 1)
  holds_more n h next i l = go (cases_lt i (suc n))
    where
      go : (i < suc n) ⊎ (suc n ≤ i) → P i
      go (inl b) = h i b
      go (inr b) = let e : n + 1 ≡ i = omega arith in subst P e next

  pub first_failing : (n : ℕ) → HoldsTo n → ¬ P (n + 1) → IsFirstFailing P (Some (n + 1))
  first_failing n h fails = (λ j l. h j (omega arith), fails)

  pub holds_all : (n : ℕ) → HoldsTo n → ((i : ℕ) → n < i → P i) → (i : ℕ) → P i
  holds_all n h past i = go (cases_lt i (suc n))
    where
      go : (i < suc n) ⊎ (suc n ≤ i) → P i
      go (inl b) = h i b
      go (inr b) = past i (omega arith)

module _ {A : Type 0} where
  pub at_zero : (xs : List A) (x : A) → ¬ At xs 0 x
  at_zero xs x at = let e = at.1 in omega arith

  pub at_past : (xs : List A) (n i : ℕ) (x : A) → length xs ≤ n → n < i → ¬ At xs i x
  at_past xs n i x h l at = let e = at.1 in let w = place_within xs at.0 x at.2 in omega arith

  pub at_within : (xs : List A) (i : ℕ) (x : A) → At xs i x → i ≤ length xs
  at_within xs i x at = let e = at.1 in let w = place_within xs at.0 x at.2 in omega arith

  -- the member that is read at a place
  pub at_read : (xs : List A) (j : ℕ) (x : A) → j < length xs → x ≡ get_or xs j x → At xs (j + 1) x
  at_read xs j x l e = (j, refl, slice_get-get_or xs j x l ∙ ap Some (sym e))

  pub at_same : (xs : List A) (i : ℕ) (x y : A) → At xs i x → At xs i y → x ≡ y
  at_same xs i x y a b =
      let e = a.1 in
      let d = b.1 in
      let same : a.0 ≡ b.0 = omega arith in
      same_some x y (sym a.2 ∙ ap (slice_get xs) same ∙ b.2)

  pub at_in : (xs : List A) (x : A) → In x xs → (i : ℕ) × At xs i x
  at_in [] x i = absurd i
  at_in (y ∷ xs) x (inl e) = (1, (0, refl, ap Some e))
  at_in (y ∷ xs) x (inr i) = let r = at_in xs x i in let a = r.1 in let e = a.1 in (suc r.0, (suc a.0, omega (arith, e), a.2))

module _ {A B : Type 0} (f : A → B) where
  pub place_back : (xs : List A) (j : ℕ) (y : B) → slice_get (map f xs) j ≡ Some y → (x : A) × (slice_get xs j ≡ Some x) × (f x ≡ y)
  place_back [] j y e = absurd cc
  place_back (x ∷ xs) zero y e = (x, refl, same_some (f x) y e)
  place_back (x ∷ xs) (suc j) y e = place_back xs j y e

  pub at_back : (xs : List A) (i : ℕ) (y : B) → At (map f xs) i y → (x : A) × At xs i x × (f x ≡ y)
  at_back xs i y at = let r = place_back xs at.0 y at.2 in (r.0, (at.0, at.1, r.1), r.2)

  pub in_back : (xs : List A) (y : B) → In y (map f xs) → (x : A) × In x xs × (f x ≡ y)
  in_back [] y i = absurd i
  in_back (x ∷ xs) y (inl e) = (x, inl refl, e)
  in_back (x ∷ xs) y (inr i) = let r = in_back xs y i in (r.0, inr r.1, r.2)
