-- Walks: what is kept was not skipped, comes from the list, and covers it; lists of numbers and lists that are mapped.
use Rattle.std.proofs.Common.{◌≡◌, ◌⊎◌, inl, inr, ℕ, zero, suc, ◌+◌, ◌<◌, ◌≤◌, List, [], ◌∷◌, ◌++◌, map, sym, ap, ap₂, ◌∙◌, refl, subst, arith, append_assoc}
use Rattle.std.proofs.lemmas.List.{append-nil}
use Rattle.alg_core.specs.Lists.{In}
use Rattle.alg_core.proofs.Members.{in_cases}
use Rattle.poly_module.specs.Walks.{Keeps}
use Rattle.poly_module.proofs.WalkLaws.{keeps_more}
use Rattle.secondary_gens.proofs.ColumnSteps.{split_append}
use Rattle.irreducible_gens.specs.Irreducibles.{numbers}

nothing_splits : {A : Type 0} (f : List A) (x : A) (U : List A) → [] ≡ f ++ x ∷ U → ⊥
nothing_splits [] x U e = cc
nothing_splits (z ∷ f) x U e = cc

module _ {A : Type 0} (Skips : List A → A → Type 0) where
  -- none is skipped by those before it
  abbrev pub AreFresh : List A → Type 0
  AreFresh all = (P : List A) (x : A) (U : List A) → all ≡ P ++ x ∷ U → ¬ Skips P x

  fresh_none : AreFresh []
  fresh_none P x U e = absurd (nothing_splits P x U e)

  fresh_push : (all : List A) (y : A) → AreFresh all → ¬ Skips all y → AreFresh (all ++ y ∷ [])
  fresh_push all y h n P x U e = go (split_append all (y ∷ []) P x U e)
    where
      last : (f : List A) → P ≡ all ++ f → y ∷ [] ≡ f ++ x ∷ U → ¬ Skips P x
      last [] p q = let same : y ≡ x = cc in λ a. n (subst (Skips all) (sym same) (subst (λ l. Skips l x) (p ∙ append-nil all) a))
      last (z ∷ f) p q = absurd (nothing_splits f x U (let tail : [] ≡ f ++ x ∷ U = cc in tail))

      go : ((b : List A) × (all ≡ P ++ x ∷ b)) ⊎ ((f : List A) × (P ≡ all ++ f) × (y ∷ [] ≡ f ++ x ∷ U)) → ¬ Skips P x
      go (inl b) = h P x b.0 b.1
      go (inr f) = last f.0 f.1 f.2

  fresh_walk : (kept xs all : List A) → Keeps Skips kept xs all → AreFresh kept → AreFresh all
  fresh_walk kept [] all h f = subst AreFresh (sym h) f
  fresh_walk kept (x ∷ xs) all (inl h) f = fresh_walk kept xs all h.1 f
  fresh_walk kept (x ∷ xs) all (inr h) f = fresh_walk (kept ++ x ∷ []) xs all h.1 (fresh_push kept x f h.0)

  pub kept_fresh : (xs all : List A) → Keeps Skips [] xs all → AreFresh all
  kept_fresh xs all h = fresh_walk [] xs all h fresh_none

  -- what is kept comes from the list
  pub kept_from : (kept xs all : List A) → Keeps Skips kept xs all → (x : A) → In x all → In x kept ⊎ In x xs
  kept_from kept [] all h x i = inl (subst (In x) h i)
  kept_from kept (y ∷ xs) all (inl h) x i = go (kept_from kept xs all h.1 x i)
    where
      go : In x kept ⊎ In x xs → In x kept ⊎ In x (y ∷ xs)
      go (inl a) = inl a
      go (inr b) = inr (inr b)
  kept_from kept (y ∷ xs) all (inr h) x i = go (kept_from (kept ++ y ∷ []) xs all h.1 x i)
    where
      old : In x kept ⊎ In x (y ∷ []) → In x kept ⊎ In x (y ∷ xs)
      old (inl a) = inl a
      old (inr (inl e)) = inr (inl e)
      old (inr (inr n)) = absurd n

      go : In x (kept ++ y ∷ []) ⊎ In x xs → In x kept ⊎ In x (y ∷ xs)
      go (inl a) = old (in_cases x kept (y ∷ []) a)
      go (inr b) = inr (inr b)

  -- where more members keep what is skipped, and each member is skipped where it stands, the whole list is
  module _ (more : (a b : List A) (x : A) → Skips a x → Skips (a ++ b) x) (own : (a : List A) (x : A) (b : List A) → Skips (a ++ x ∷ b) x) where
    pub kept_covers : (kept xs all : List A) → Keeps Skips kept xs all → (x : A) → In x xs → Skips all x
    kept_covers kept [] all h x i = absurd i
    kept_covers kept (y ∷ xs) all (inl h) x (inl e) = let m = keeps_more Skips kept xs all h.1 in subst (λ l. Skips l x) (sym m.1) (more kept m.0 x (subst (Skips kept) e h.0))
    kept_covers kept (y ∷ xs) all (inr h) x (inl e) =
        let m = keeps_more Skips (kept ++ y ∷ []) xs all h.1 in
        subst (λ l. Skips l x) (sym (m.1 ∙ append_assoc kept (y ∷ []) m.0)) (subst (λ z. Skips (kept ++ z ∷ m.0) x) (sym e) (own kept x m.0))
    kept_covers kept (y ∷ xs) all (inl h) x (inr i) = kept_covers kept xs all h.1 x i
    kept_covers kept (y ∷ xs) all (inr h) x (inr i) = kept_covers (kept ++ y ∷ []) xs all h.1 x i

-- a list of numbers
pub numbers_bounds : (i n p : ℕ) → In p (numbers i n) → (i ≤ p) × (p < i + n)
numbers_bounds i zero p h = absurd h
numbers_bounds i (suc n) p (inl e) = (omega arith, omega arith)
numbers_bounds i (suc n) p (inr h) = let r = numbers_bounds (suc i) n p h in let a = r.0 in let b = r.1 in (omega arith, omega arith)

pub numbers_has : (i n p : ℕ) → p < n → In (i + p) (numbers i n)
numbers_has i zero p h = absurd (omega arith)
numbers_has i (suc n) zero h = inl (omega arith)
numbers_has i (suc n) (suc p) h = inr (let q : suc i + p ≡ i + suc p = omega arith in subst (λ m. In m (numbers (suc i) n)) q (numbers_has (suc i) n p (omega arith)))

pub numbers_push : (i n : ℕ) → numbers i (suc n) ≡ numbers i n ++ (i + n) ∷ []
numbers_push i zero = let q : i ≡ i + 0 = omega arith in ap (λ m. m ∷ []) q
numbers_push i (suc n) = ap (λ l. i ∷ l) (numbers_push (suc i) n ∙ (let q : suc i + n ≡ i + suc n = omega arith in ap (λ m. numbers (suc i) n ++ m ∷ []) q))

-- where a mapped list has a member, so has the list
pub map_split : {A B : Type 0} (f : A → B) (ps : List A) (P : List B) (s : B) (U : List B) → map f ps ≡ P ++ s ∷ U
    → (front : List A) × (p : A) × (back : List A) × (ps ≡ front ++ p ∷ back) × (map f front ≡ P) × (f p ≡ s)
map_split f [] [] s U e = absurd (let c : ⊥ = cc in c)
map_split f [] (x ∷ P) s U e = absurd (let c : ⊥ = cc in c)
map_split f (p ∷ ps) [] s U e = ([], p, ps, refl, refl, cc)
map_split {A} {B} f (p ∷ ps) (x ∷ P) s U e =
    let tails : map f ps ≡ P ++ s ∷ U = cc in
    let heads : f p ≡ x = cc in
    go heads (map_split f ps P s U tails)
  where
    go : f p ≡ x → (front : List A) × (q : A) × (back : List A) × (ps ≡ front ++ q ∷ back) × (map f front ≡ P) × (f q ≡ s)
        → (front : List A) × (q : A) × (back : List A) × (p ∷ ps ≡ front ++ q ∷ back) × (map f front ≡ x ∷ P) × (f q ≡ s)
    go heads r = (p ∷ r.0, r.1, r.2, ap (λ l. p ∷ l) r.3, ap₂ ◌∷◌ heads r.4, r.5)
