-- What holds of each element of a list.
use Rattle.std.proofs.Common.{◌≡◌, ℕ, ◌<◌, ◌≤◌, ◌⊎◌, inl, inr, List, [], ◌∷◌, ◌++◌, map, arith, subst}
use Rattle.std.specs.List.{AllByRecursion as Each}
use Rattle.std.proofs.lemmas.Bool.{cases_lt}
use Rattle.alg_core.specs.Lists.{In}

module _ {X : Type 0} where
  pub Each_at : (P : X → Type 0) (l : List X) → Each P l → (x : X) → In x l → P x
  Each_at P [] h x i = absurd i
  Each_at P (y ∷ l) h x (inl e) = subst P e h.0
  Each_at P (y ∷ l) h x (inr i) = Each_at P l h.1 x i

  pub Each_from : (P : X → Type 0) (l : List X) → ((x : X) → In x l → P x) → Each P l
  Each_from P [] h = tt
  Each_from P (y ∷ l) h = (h y (inl (λ _. y)), Each_from P l (λ x i. h x (inr i)))

  pub Each_weaker : (P Q : X → Type 0) → ((x : X) → P x → Q x) → (l : List X) → Each P l → Each Q l
  Each_weaker P Q f [] h = tt
  Each_weaker P Q f (y ∷ l) h = (f y h.0, Each_weaker P Q f l h.1)

  pub Each_both : (P Q S : X → Type 0) → ((x : X) → P x → Q x → S x) → (l : List X) → Each P l → Each Q l → Each S l
  Each_both P Q S f [] h g = tt
  Each_both P Q S f (y ∷ l) h g = (f y h.0 g.0, Each_both P Q S f l h.1 g.1)

  pub Each_append : (P : X → Type 0) (l r : List X) → Each P l → Each P r → Each P (l ++ r)
  Each_append P [] r h g = g
  Each_append P (y ∷ l) r h g = (h.0, Each_append P l r h.1 g)

  pub Each_append_left : (P : X → Type 0) (l r : List X) → Each P (l ++ r) → Each P l
  Each_append_left P [] r h = tt
  Each_append_left P (y ∷ l) r h = (h.0, Each_append_left P l r h.1)

  pub Each_append_right : (P : X → Type 0) (l r : List X) → Each P (l ++ r) → Each P r
  Each_append_right P [] r h = h
  Each_append_right P (y ∷ l) r h = Each_append_right P l r h.1

  pub Each_map : {Y : Type 0} (P : Y → Type 0) (f : X → Y) (l : List X) → Each (λ x. P (f x)) l → Each P (map f l)
  Each_map P f [] h = tt
  Each_map P f (y ∷ l) h = (h.0, Each_map P f l h.1)

  pub Each_of_map : {Y : Type 0} (P : Y → Type 0) (f : X → Y) (l : List X) → Each P (map f l) → Each (λ x. P (f x)) l
  Each_of_map P f [] h = tt
  Each_of_map P f (y ∷ l) h = (h.0, Each_of_map P f l h.1)

-- below, equal or above
pub three_ways : (m n : ℕ) → (m < n) ⊎ ((m ≡ n) ⊎ (n < m))
three_ways m n = at (cases_lt m n) (cases_lt n m)
  where
    at : (m < n) ⊎ (n ≤ m) → (n < m) ⊎ (m ≤ n) → (m < n) ⊎ ((m ≡ n) ⊎ (n < m))
    at (inl h) g = inl h
    at (inr h) (inl g) = inr (inr g)
    at (inr h) (inr g) = inr (inl (omega arith))
