-- Places of monomials in a list of different ones, and their degrees.
use Rattle.std.proofs.Common.{◌≡◌, ◌∙◌, ◌<◌, ◌≤◌, ◌⊎◌, ℕ, zero, suc, List, [], ◌∷◌, length, map, replicate, refl, sym, ap, subst, inl, inr, arith}
use Rattle.std.specs.Prelude.{All, ◌↔◌}
use Rattle.std.specs.declared.cmp.Ordering.TheVariants.{Less, Equal}
use Rattle.std.proofs.lemmas.Cmp.{tied_itself}
use Rattle.alg_core.specs.DpOrder.{dp_compare, dp_total}
use Rattle.alg_core.specs.Fields.{FieldOn}
use Rattle.alg_core.specs.Lists.{In}
use Rattle.alg_core.specs.MonomialParts.{variable_part}
use Rattle.alg_core.specs.Monomials.{Mon, mono, mon_same, exponents, exponent_mono, mono_exponents, mono_injective}
use Rattle.alg_core.specs.SpaceGrading.{weight, weight_ext, height}
use Rattle.alg_core.specs.Vectors.{Vect}
use Rattle.alg_core.proofs.MonomialLists.{length_mono}
use Rattle.alg_core.proofs.MonomialParts.{length_variable_part}
use Rattle.poly_module.specs.GreatestExponents.{total}
use Rattle.module_groebner.proofs.Families.{all_in}
use Rattle.finite_certificate.specs.StandardMonomials.{Rise, AreStandardMonomials, IsStandard, IsStandardForm}
use Rattle.primary_module.specs.Positions.{AreDifferent, IsPart, zero_or, place_of, part_at, HasParts}

-- what is not the first is one of the others
later_part : (b : List ℕ) (B : List (List ℕ)) (m : Mon) → IsPart (b ∷ B) m → ¬ (mono b ≡ m) → IsPart B m
later_part b B m h other = go h.1
  where
    go : (b ≡ h.0) ⊎ In h.0 B → IsPart B m
    go (inl e) = absurd (other (ap mono e ∙ h.2))
    go (inr i) = (h.0, i, h.2)

pub place_in : (B : List (List ℕ)) (m : Mon) → IsPart B m → place_of B m < length B
unfolding place_of zero_or
place_in [] m h = absurd h.1
place_in (b ∷ B) m h = at (mon_same (mono b) m) (place_in B m)
  where
    at : (d : Dec (mono b ≡ m)) → (IsPart B m → place_of B m < length B) → zero_or d (suc (place_of B m)) < length (b ∷ B)
    at (yes e) rest = omega arith
    at (no other) rest = let r = rest (later_part b B m h other) in omega arith

pub part_place : (B : List (List ℕ)) (m : Mon) → IsPart B m → part_at B (place_of B m) ≡ m
unfolding place_of zero_or part_at
part_place [] m h = absurd h.1
part_place (b ∷ B) m h = at (mon_same (mono b) m) (part_place B m)
  where
    at : (d : Dec (mono b ≡ m)) → (IsPart B m → part_at B (place_of B m) ≡ m) → part_at (b ∷ B) (zero_or d (suc (place_of B m))) ≡ m
    at (yes e) rest = e
    at (no other) rest = rest (later_part b B m h other)

pub part_in : (B : List (List ℕ)) (i : ℕ) → i < length B → IsPart B (part_at B i)
unfolding part_at
part_in [] i h = absurd (omega arith)
part_in (b ∷ B) zero h = (b, inl refl, refl)
part_in (b ∷ B) (suc i) h = let r = part_in B i (omega arith) in (r.0, inr r.1, r.2)

pub place_part : (B : List (List ℕ)) → AreDifferent B → (i : ℕ) → i < length B → place_of B (part_at B i) ≡ i
unfolding place_of zero_or part_at
place_part [] different i h = absurd (omega arith)
place_part (b ∷ B) different zero h = at (mon_same (mono b) (mono b))
  where
    at : (d : Dec (mono b ≡ mono b)) → zero_or d (suc (place_of B (mono b))) ≡ zero
    at (yes e) = refl
    at (no other) = absurd (other refl)
place_part (b ∷ B) different (suc i) h = at (mon_same (mono b) (part_at B i)) (place_part B different.1 i (omega arith)) (part_in B i (omega arith))
  where
    at : (d : Dec (mono b ≡ part_at B i)) → place_of B (part_at B i) ≡ i → IsPart B (part_at B i) → zero_or d (suc (place_of B (part_at B i))) ≡ suc i
    at (yes e) rest p = absurd (different.0 p.0 p.1 (p.2 ∙ sym e))
    at (no other) rest p = ap suc rest

pub part_dec : (B : List (List ℕ)) (m : Mon) → Dec (IsPart B m)
part_dec [] m = no (λ h. absurd h.1)
part_dec (b ∷ B) m = at (mon_same (mono b) m) (part_dec B m)
  where
    at : Dec (mono b ≡ m) → Dec (IsPart B m) → Dec (IsPart (b ∷ B) m)
    at (yes e) rest = yes (b, inl refl, e)
    at (no other) (yes p) = yes (p.0, inr p.1, p.2)
    at (no other) (no none) = no (λ h. none (later_part b B m h other))

-- lists of n exponents
module _ (n : ℕ) where
  pub part_wide : (B : List (List ℕ)) → All (λ b. length b ≡ n) B → (i : ℕ) → i < length B → length (part_at B i).0 ≤ n
  part_wide B wide i h =
      let p = part_in B i h in
      let w = all_in (λ b. length b ≡ n) B wide p.0 p.1 in
      let l = length_mono p.0 in
      subst (λ (m : Mon). length m.0 ≤ n) p.2 (omega arith)

  total_weight : (m j : ℕ) (a : List ℕ) → length a ≤ m → weight (replicate m 1) j a ≡ total a
  unfolding weight
  total_weight m j [] h = refl
  total_weight zero j (x ∷ a) h = absurd (omega arith)
  total_weight (suc m) j (x ∷ a) h = let r = total_weight m (suc j) a (omega arith) in omega arith

  -- the shift of a position
  pub part_degree : (B : List (List ℕ)) → All (λ b. length b ≡ n) B → (i : ℕ) → i < length B → height (map total B) i ≡ weight (replicate n 1) 0 (part_at B i).0
  unfolding height part_at
  part_degree [] wide i h = absurd (omega arith)
  part_degree (b ∷ B) wide zero h =
      let w = wide 0 b (omega arith) in
      sym (weight_ext (replicate n 1) 0 (mono b).0 b (exponent_mono b) ∙ total_weight n 0 b (omega arith))
  part_degree (b ∷ B) wide (suc i) h = part_degree B (λ j d l. wide (suc j) d (omega arith)) i (omega arith)

  -- rising lists have different members
  rising_different : (B : List (List ℕ)) → All (λ b. length b ≡ n) B → Rise n B → AreDifferent B
  rising_different [] wide rise = tt
  rising_different (b ∷ B) wide rise = (apart, rising_different B (λ j d l. wide (suc j) d (omega arith)) rise.1)
    where
      apart : (a : List ℕ) → In a B → ¬ (mono a ≡ mono b)
      apart a i e =
          let here = wide 0 b (omega arith) in
          let there = all_in (λ c. length c ≡ n) B (λ j d l. wide (suc j) d (omega arith)) a i in
          let same : a ≡ b = mono_injective a b (there ∙ sym here) e in
          irreflexive b (subst (λ (c : List ℕ). dp_compare (replicate n 1) (0, b) (0, c) ≡ Less) same (rise.0 a i))
        where
          irreflexive : (b : List ℕ) → ¬ (dp_compare (replicate n 1) (0, b) (0, b) ≡ Less)
          irreflexive b less = unequal (sym (tied_itself (dp_total (replicate n 1)) (0, b)) ∙ less)
            where
              unequal : ¬ (Equal ≡ Less)
              unequal e = grind arith

  module _ {E : Type 0} (k : FieldOn E) (θ : List (Vect k)) (B : List (List ℕ)) (are : AreStandardMonomials k n θ B) where
    pub standard_different : AreDifferent B
    standard_different = rising_different B are.wide are.rising

    standard_part : (m : Mon) → length m.0 ≤ n → IsStandard k n θ m → IsPart B m
    standard_part m short s = (exponents n m.0, are.all m short s, mono_exponents n m short)

    part_standard : (m : Mon) → IsPart B m → IsStandard k n θ m
    part_standard m p = subst (IsStandard k n θ) p.2 (all_in (λ a. IsStandard k n θ (mono a)) B are.standard p.0 p.1)

    pub standard_parts : (u : Vect k) → IsStandardForm k n θ u ↔ HasParts k n B u
    standard_parts u = (
      λ h t c. standard_part (variable_part n t.1) (length_variable_part n t.1) (h t c),
      λ h t c. part_standard (variable_part n t.1) (h t c),
    )
