-- Members of lists.
--
--   In x l               x is a member of the list l
--   pairs f xs ys        f of each member of xs and each member of ys
--   numbers_below n      the numbers below n
use Rattle.std.specs.Prelude.{◌≡◌, ◌⊎◌, ◌<◌, ◌≤◌, ℕ, zero, suc, List, [], ◌∷◌, ◌++◌, map}
use mathlib.Core.Path.{ap, subst}
use native.Mathlib.Decide.{dec_le}
use native.Mathlib.Omega.{arith}
use Rattle.std.proofs.Common.{inl, inr}

-- x is a member of the list
abbrev pub In : {A : Type 0} → A → List A → Type 0
In x [] = ⊥
In x (y ∷ l) = (y ≡ x) ⊎ In x l

pub map_in : {A B : Type 0} (f : A → B) (x : A) (l : List A) → In x l → In (f x) (map f l)
map_in f x [] h = h
map_in f x (y ∷ l) (inl e) = inl (ap f e)
map_in f x (y ∷ l) (inr h) = inr (map_in f x l h)

pub in_left : {A : Type 0} (x : A) (l l' : List A) → In x l → In x (l ++ l')
in_left x [] l' h = absurd h
in_left x (y ∷ l) l' (inl e) = inl e
in_left x (y ∷ l) l' (inr h) = inr (in_left x l l' h)

pub in_right : {A : Type 0} (x : A) (l l' : List A) → In x l' → In x (l ++ l')
in_right x [] l' h = h
in_right x (y ∷ l) l' h = inr (in_right x l l' h)

-- a function of all pairs
unfoldable pub pairs : {A B C : Type 0} → (A → B → C) → List A → List B → List C
pairs f [] ys = []
pairs f (x ∷ xs) ys = map (f x) ys ++ pairs f xs ys

pub in_pairs : {A B C : Type 0} (f : A → B → C) (x : A) (y : B) (xs : List A) (ys : List B) → In x xs → In y ys → In (f x y) (pairs f xs ys)
unfolding pairs
in_pairs f x y [] ys h g = absurd h
in_pairs f x y (z ∷ xs) ys (inl e) g = in_left _ (map (f z) ys) _ (subst (λ u. In (f u y) (map (f z) ys)) e (map_in (f z) y ys g))
in_pairs f x y (z ∷ xs) ys (inr h) g = in_right _ (map (f z) ys) _ (in_pairs f x y xs ys h g)

unfoldable pub numbers_below : ℕ → List ℕ
numbers_below zero = []
numbers_below (suc n) = n ∷ numbers_below n

pub in_numbers_below : (x n : ℕ) → x < n → In x (numbers_below n)
unfolding numbers_below
in_numbers_below x zero h = absurd (omega arith)
in_numbers_below x (suc n) h = at (dec_le n x) (in_numbers_below x n)
  where
    at : Dec (n ≤ x) → (x < n → In x (numbers_below n)) → (n ≡ x) ⊎ In x (numbers_below n)
    at (yes p) ih = inl (omega arith)
    at (no p) ih = inr (ih (omega arith))
