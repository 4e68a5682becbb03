-- Members of lists: of maps, filters and pairs; how long lists with distinct members are.
--
--   Apart l            no member of l is equal to a later one
--   dropped l h        the list l without the member at the place h
use Rattle.std.proofs.Common.{◌≡◌, ◌⊎◌, ℕ, zero, suc, ◌<◌, ◌≤◌, Bool, true, false, cond, List, [], ◌∷◌, ◌++◌, length, map, sym, ap, ◌∙◌, refl, subst, arith, inl, inr}
use Rattle.std.specs.Prelude.{filter, Contains, slice_index_or}
use Rattle.alg_core.specs.Lists.{In, pairs, numbers_below}

pub in_cases : {A : Type 0} (x : A) (l l' : List A) → In x (l ++ l') → In x l ⊎ In x l'
in_cases x [] l' h = inr h
in_cases x (y ∷ l) l' (inl e) = inl (inl e)
in_cases x (y ∷ l) l' (inr h) = go (in_cases x l l' h)
  where
    go : In x l ⊎ In x l' → In x (y ∷ l) ⊎ In x l'
    go (inl p) = inl (inr p)
    go (inr p) = inr p

pub from_map : {A B : Type 0} (f : A → B) (z : B) (l : List A) → In z (map f l) → (x : A) × In x l × (f x ≡ z)
from_map f z [] h = absurd h
from_map f z (y ∷ l) (inl e) = (y, inl refl, e)
from_map f z (y ∷ l) (inr h) = let r = from_map f z l h in (r.0, inr r.1, r.2)

pub from_pairs : {A B C : Type 0} (f : A → B → C) (z : C) (xs : List A) (ys : List B) → In z (pairs f xs ys) → (x : A) × (y : B) × In x xs × In y ys × (f x y ≡ z)
unfolding pairs
from_pairs f z [] ys h = absurd h
from_pairs {A = A} {B = B} f z (x ∷ xs) ys h = go (in_cases z (map (f x) ys) (pairs f xs ys) h) (from_pairs f z xs ys)
  where
    go : In z (map (f x) ys) ⊎ In z (pairs f xs ys) → (In z (pairs f xs ys) → (u : A) × (y : B) × In u xs × In y ys × (f u y ≡ z)) → (u : A) × (y : B) × In u (x ∷ xs) × In y ys × (f u y ≡ z)
    go (inl p) rest = let r = from_map (f x) z ys p in (x, r.0, inl refl, r.1, r.2)
    go (inr p) rest = let r = rest p in (r.0, r.1, inr r.2, r.3, r.4)

pub from_numbers_below : (x n : ℕ) → In x (numbers_below n) → x < n
unfolding numbers_below
from_numbers_below x zero h = absurd h
from_numbers_below x (suc n) (inl e) = omega arith
from_numbers_below x (suc n) (inr h) = let r = from_numbers_below x n h in omega arith

module _ {A : Type 0} (f : A → Bool) where
  pub in_filter : (x : A) (l : List A) → In x l → f x ≡ true → In x (filter f l)
  in_filter x [] h e = absurd h
  in_filter x (y ∷ l) (inl p) e = at (f y) (ap f p ∙ e)
    where
      at : (b : Bool) → b ≡ true → In x (cond b (y ∷ filter f l) (filter f l))
      at true e = inl p
      at false e = absurd cc
  in_filter x (y ∷ l) (inr h) e = at (f y) (in_filter x l h e)
    where
      at : (b : Bool) → In x (filter f l) → In x (cond b (y ∷ filter f l) (filter f l))
      at true i = inr i
      at false i = i

  pub from_filter : (x : A) (l : List A) → In x (filter f l) → In x l × (f x ≡ true)
  from_filter x [] h = absurd h
  from_filter x (y ∷ l) h = at (f y) refl h (from_filter x l)
    where
      at : (b : Bool) → f y ≡ b → In x (cond b (y ∷ filter f l) (filter f l)) → (In x (filter f l) → In x l × (f x ≡ true)) → In x (y ∷ l) × (f x ≡ true)
      at true e (inl p) rest = (inl p, ap f (sym p) ∙ e)
      at true e (inr i) rest = (inr (rest i).0, (rest i).1)
      at false e i rest = (inr (rest i).0, (rest i).1)

-- what passes fewer members is no longer
pub filter_no_longer : {A : Type 0} (f g : A → Bool) (l : List A) → ((x : A) → f x ≡ true → g x ≡ true) → length (filter f l) ≤ length (filter g l)
filter_no_longer f g [] h = omega arith
filter_no_longer f g (x ∷ l) h = at (f x) (g x) (h x) (filter_no_longer f g l h)
  where
    at : (a b : Bool) → (a ≡ true → b ≡ true) → length (filter f l) ≤ length (filter g l) → length (cond a (x ∷ filter f l) (filter f l)) ≤ length (cond b (x ∷ filter g l) (filter g l))
    at true true h i = omega arith
    at true false h i = absurd (let e = h refl in cc)
    at false true h i = omega arith
    at false false h i = i

-- and shorter where it leaves out a member
pub filter_shorter : {A : Type 0} (f g : A → Bool) (l : List A) (x : A) → ((x : A) → f x ≡ true → g x ≡ true) → In x l → f x ≡ false → g x ≡ true → length (filter f l) < length (filter g l)
filter_shorter f g [] x h i p q = absurd i
filter_shorter f g (y ∷ l) x h (inl e) p q = at (f y) (g y) (ap f e ∙ p) (ap g e ∙ q) (filter_no_longer f g l h)
  where
    at : (a b : Bool) → a ≡ false → b ≡ true → length (filter f l) ≤ length (filter g l) → length (cond a (y ∷ filter f l) (filter f l)) < length (cond b (y ∷ filter g l) (filter g l))
    at true b p q i = absurd cc
    at false true p q i = omega arith
    at false false p q i = absurd cc
filter_shorter f g (y ∷ l) x h (inr i) p q = at (f y) (g y) (h y) (filter_shorter f g l x h i p q)
  where
    at : (a b : Bool) → (a ≡ true → b ≡ true) → length (filter f l) < length (filter g l) → length (cond a (y ∷ filter f l) (filter f l)) < length (cond b (y ∷ filter g l) (filter g l))
    at true true h i = omega arith
    at true false h i = absurd (let e = h refl in cc)
    at false true h i = omega arith
    at false false h i = i

abbrev pub Apart : {A : Type 0} → List A → Type 0
Apart [] = Unit {0}
Apart (x ∷ l) = ((y : _) → In y l → ¬ (y ≡ x)) × Apart l

dropped : {A : Type 0} (x : A) (l : List A) → In x l → List A
dropped x [] h = []
dropped x (y ∷ l) (inl e) = l
dropped x (y ∷ l) (inr h) = y ∷ dropped x l h

length_dropped : {A : Type 0} (x : A) (l : List A) (h : In x l) → suc (length (dropped x l h)) ≡ length l
unfolding dropped
length_dropped x [] h = absurd h
length_dropped x (y ∷ l) (inl e) = refl
length_dropped x (y ∷ l) (inr h) = ap suc (length_dropped x l h)

in_dropped : {A : Type 0} (x y : A) (l : List A) (h : In x l) → ¬ (y ≡ x) → In y l → In y (dropped x l h)
unfolding dropped
in_dropped x y [] h n i = absurd h
in_dropped x y (z ∷ l) (inl e) n (inl i) = absurd (n (sym i ∙ e))
in_dropped x y (z ∷ l) (inl e) n (inr i) = i
in_dropped x y (z ∷ l) (inr h) n (inl i) = inl i
in_dropped x y (z ∷ l) (inr h) n (inr i) = inr (in_dropped x y l h n i)

-- distinct members that are all in a list are no more than it has
pub apart_no_longer : {A : Type 0} (l m : List A) → Apart l → ((x : A) → In x l → In x m) → length l ≤ length m
apart_no_longer [] m a h = omega arith
apart_no_longer (x ∷ l) m a h =
    let here = h x (inl refl) in
    let rest = apart_no_longer l (dropped x m here) a.1 (λ y i. in_dropped x y m here (a.0 y i) (h y (inr i))) in
    let one = length_dropped x m here in
    omega arith

pub apart_append : {A : Type 0} (l m : List A) → Apart l → Apart m → ((x : A) → In x l → ¬ In x m) → Apart (l ++ m)
apart_append [] m a b h = b
apart_append (x ∷ l) m a b h = (λ y i. go y (in_cases y l m i), apart_append l m a.1 b (λ y i. h y (inr i)))
  where
    go : (y : _) → In y l ⊎ In y m → ¬ (y ≡ x)
    go y (inl i) = a.0 y i
    go y (inr i) = λ e. h x (inl refl) (subst (λ z. In z m) e i)

pub apart_map : {A B : Type 0} (f : A → B) (l : List A) → ((x y : A) → In x l → In y l → f x ≡ f y → x ≡ y) → Apart l → Apart (map f l)
apart_map f [] h a = tt
apart_map f (x ∷ l) h a = (λ z i. go z (from_map f z l i), apart_map f l (λ u v i j. h u v (inr i) (inr j)) a.1)
  where
    go : (z : _) → (y : _) × In y l × (f y ≡ z) → ¬ (z ≡ f x)
    go z r = λ e. a.0 r.0 r.1 (h r.0 x (inr r.1) (inl refl) (r.2 ∙ e))

-- members by their places
pub in_contains : {A : Type 0} (x : A) (l : List A) → In x l → Contains l x
in_contains x [] h = absurd h
in_contains x (y ∷ l) (inl e) = (0, omega arith, e)
in_contains x (y ∷ l) (inr h) = let r = in_contains x l h in (suc r.0, (let w = r.1 in omega arith), r.2)

pub contains_in : {A : Type 0} (x : A) (l : List A) → Contains l x → In x l
contains_in x l c = go l c.0 c.1 c.2
  where
    go : (l : List _) (i : ℕ) → i < length l → slice_index_or l i x ≡ x → In x l
    go [] i h e = absurd (omega arith)
    go (y ∷ l) zero h e = inl e
    go (y ∷ l) (suc i) h e = inr (go l i (omega arith) e)
