-- What holds of each element of a list at its place.
use Rattle.invariant_space.proofs.Common.{◌≡◌, ◌⊎◌, ℕ, zero, suc, ◌+◌, ◌<◌, ◌≤◌, inl, inr, List, [], ◌∷◌, ◌++◌, length, get_or, refl, sym, ap, subst, ◌∙◌, arith, cases_lt, get_or_append_left, get_or_default, get_or_push, length-append, Key, key, place, Term, EachAt, keys_of}

pub at_none : {A : Type 0} (P : ℕ → A → Type 0) (l : List A) → l ≡ [] → EachAt P l
at_none P l none i x h e = let n = ap length none in absurd (omega (arith, n))

-- one element more at the end
pub at_more : {A : Type 0} (P : ℕ → A → Type 0) (l new : List A) (n : ℕ) (x : A) → new ≡ l ++ x ∷ [] → length l ≡ n → EachAt P l → P n x → EachAt P new
at_more P l new n x is many was here i y h e = go (cases_lt i n)
  where
    read : y ≡ get_or (l ++ x ∷ []) i y
    read = e ∙ ap (λ m. get_or m i y) is

    go : (i < n) ⊎ (n ≤ i) → P i y
    go (inl low) = let inside : i < length l = omega arith in was i y inside (read ∙ get_or_append_left l (x ∷ []) y i inside)
    go (inr high) =
        let all = ap length is in
        let long = length-append l (x ∷ []) in
        let same : n ≡ i = omega arith in
        subst (λ j. P j y) same (subst (P n) (sym (read ∙ get_or_push l x y i (many ∙ same))) here)

pub length_more : {A : Type 0} (l new : List A) (n : ℕ) (x : A) → new ≡ l ++ x ∷ [] → length l ≡ n → length new ≡ n + 1
length_more l new n x is many = let all = ap length is in let long = length-append l (x ∷ []) in omega arith

-- an element as it is read with another default
pub at_read : {A : Type 0} (P : ℕ → A → Type 0) (l : List A) (i : ℕ) (x d : A) → EachAt P l → i < length l → x ≡ get_or l i d → P i x
at_read P l i x d all h e = all i x h (e ∙ sym (get_or_default l i x d h))

-- the element at a place, and the place of an element
pub element_at : {X : Type 0} (l : List X) (p : ℕ) → p < length l → (x : X) × (get_or l p x ≡ x)
element_at [] p h = absurd (omega arith)
element_at (y ∷ l) zero h = (y, refl)
element_at (y ∷ l) (suc p) h = element_at l p (omega arith)

module _ {E : Type 0} where
  -- the keys of terms
  pub length_keys : (p : List (Term E (List ℕ))) → length (keys_of p) ≡ length p
  length_keys [] = refl
  length_keys (x ∷ p) = ap suc (length_keys p)

  pub keys_append : (p q : List (Term E (List ℕ))) → keys_of (p ++ q) ≡ keys_of p ++ keys_of q
  keys_append [] q = refl
  keys_append (x ∷ p) q = ap (λ l. key (place (λ m. m) x.at) ∷ l) (keys_append p q)

  pub key_read : (p : List (Term E (List ℕ))) (i : ℕ) (x : Term E (List ℕ)) (t : Key) → i < length p → x ≡ get_or p i x → get_or (keys_of p) i t ≡ key (place (λ m. m) x.at)
  key_read [] i x t h e = absurd (omega arith)
  key_read (y ∷ p) zero x t h e = ap (λ (z : Term E (List ℕ)). key (place (λ m. m) z.at)) (sym e)
  key_read (y ∷ p) (suc i) x t h e = key_read p i x t (omega arith) e

-- one element, as it is read twice
pub read_twice : {A : Type 0} (l : List A) (i : ℕ) (x y : A) → i < length l → x ≡ get_or l i x → y ≡ get_or l i y → x ≡ y
read_twice l i x y h e f = e ∙ get_or_default l i x y h ∙ sym f
