-- Lists of exponents that rise by degree reverse lexicographic order: what lies in another is no longer than it.
use Rattle.std.proofs.Common.{◌≡◌, ◌∙◌, ℕ, ◌≤◌, List, [], ◌∷◌, length, replicate, sym, subst, inl, inr, refl, arith}
use Rattle.std.specs.declared.cmp.Ordering.TheVariants.{Less}
use Rattle.alg_core.specs.DpOrder.{dp_order, dp_compare}
use Rattle.alg_core.specs.Fields.{FieldOn}
use Rattle.alg_core.specs.Lists.{In}
use Rattle.alg_core.specs.Monomials.{mono, exponents_mono}
use Rattle.alg_core.specs.Vectors.{Vect}
use Rattle.alg_core.proofs.FittingLists.{less_turned}
use Rattle.alg_core.proofs.MonomialLists.{length_mono}
use Rattle.module_groebner.proofs.Families.{all_in}
use Rattle.finite_certificate.specs.StandardMonomials.{IsStandard, Rise, AreStandardMonomials, IsOverRank}

module _ (n : ℕ) where
  abbrev IsLess : List ℕ → List ℕ → Type 0
  IsLess a b = dp_compare (replicate n 1) (0, a) (0, b) ≡ Less

  against : (a b : List ℕ) → IsLess a b → IsLess b a → ⊥
  against a b h g = let t = less_turned (dp_order (replicate n 1)) (0, a) (0, b) h in absurd cc

  module _ (a b : List ℕ) (A B : List (List ℕ)) (first : (x : List ℕ) → In x A → IsLess a x) (to : (x : List ℕ) → In x (a ∷ A) → In x (b ∷ B)) where
    -- where the least members are one
    rest-in : b ≡ a → (x : List ℕ) → In x A → In x B
    rest-in e x i = at (to x (inr i))
      where
        at : In x (b ∷ B) → In x B
        at (inr j) = j
        at (inl d) = let l = subst (IsLess a) (sym d ∙ e) (first x i) in absurd (against a a l l)

    -- where that of A is greater
    all-in : IsLess b a → (x : List ℕ) → In x (a ∷ A) → In x B
    all-in below x k = at k (to x k)
      where
        at : In x (a ∷ A) → In x (b ∷ B) → In x B
        at k (inr j) = j
        at (inl e) (inl d) = let l = subst (IsLess b) (e ∙ sym d) below in absurd (against b b l l)
        at (inr k) (inl d) = absurd (against a b (subst (IsLess a) (sym d) (first x k)) below)

  pub no_longer : (A B : List (List ℕ)) → Rise n A → Rise n B → ((a : List ℕ) → In a A → In a B) → length A ≤ length B
  no_longer [] B h g to = omega arith
  no_longer (a ∷ A) [] h g to = absurd (to a (inl refl))
  no_longer (a ∷ A) (b ∷ B) h g to =
      step (to a (inl refl)) (λ e. no_longer A B h.1 g.1 (rest-in a b A B h.0 to e)) (λ i. no_longer (a ∷ A) B h g.1 (all-in a b A B h.0 to (g.0 a i)))
    where
      step : In a (b ∷ B) → (b ≡ a → length A ≤ length B) → (In a B → length (a ∷ A) ≤ length B) → length (a ∷ A) ≤ length (b ∷ B)
      step (inl e) same later = let few = same e in omega arith
      step (inr i) same later = let few = later i in omega arith

-- the standard monomials are no more than a limit, or over it
module _ (k : FieldOn ℕ) (n : ℕ) (θ : List (Vect k)) where
  pub over_not_few : (B : List (List ℕ)) (m : ℕ) → AreStandardMonomials k n θ B → IsOverRank k n θ m → length B ≤ m → ⊥
  over_not_few B m h g few = let longer = no_longer n g.some B g.rising h.rising among in let count = g.count in omega arith
    where
      among : (a : List ℕ) → In a g.some → In a B
      among a i =
          let wide = all_in (λ (x : List ℕ). length x ≡ n) g.some g.wide a i in
          subst (λ (x : List ℕ). In x B) (exponents_mono n a wide)
          (h.all (mono a) (let l = length_mono a in omega arith) (all_in (λ (x : List ℕ). IsStandard k n θ (mono x)) g.some g.standard a i))
