-- What stands at the positions of the parts of a vector for their values: the monomials at their own positions, 0 at the others.
use Rattle.std.proofs.Common.{◌≡◌, ◌∙◌, ◌-◌, ◌*◌, ◌<◌, ◌≤◌, ℕ, zero, suc, List, [], ◌∷◌, ◌++◌, length, map, replicate, refl, sym, ap, inl, inr, arith, suc-mul, zero-mul}
use Rattle.std.specs.Prelude.{All}
use native.Mathlib.Decide.{dec_le}
use Rattle.alg_core.specs.Fields.{FieldOn}
use Rattle.alg_core.specs.Lists.{In}
use Rattle.alg_core.specs.Monomials.{mono}
use Rattle.alg_core.specs.SpaceGrading.{height}
use Rattle.alg_core.specs.Vectors.{Vect, zero_vector}
use Rattle.poly_module.specs.Forms.{AreForms, OfDegree}
use Rattle.poly_module.specs.GreatestExponents.{total}
use Rattle.poly_module.specs.Modules.{listed}
use Rattle.poly_module.specs.Parts.{supp_zero, supp_single}
use Rattle.poly_module.specs.Polynomials.{single_vector}
use Rattle.poly_module.proofs.MarkValues.{forms_append}
use Rattle.module_groebner.proofs.Families.{length_map, listed_front}
use Rattle.primary_module.specs.Positions.{part_at}
use Rattle.primary_module.proofs.Places.{part_degree}
use Rattle.syzygy_kernel.specs.Graphs.{copies, nothings, part_values}

module _ {E : Type 0} (k : FieldOn E) where
  listed_back : (xs ys : List (Vect k)) (q : ℕ) → length xs ≤ q → listed k (xs ++ ys) q ≡ listed k ys (q - length xs)
  listed_back [] ys q h = ap (listed k ys) (omega arith)
  listed_back (x ∷ xs) ys zero h = absurd (omega arith)
  listed_back (x ∷ xs) ys (suc q) h = listed_back xs ys q (omega arith) ∙ ap (listed k ys) (omega arith)

  append_has : (P : Vect k → Type 0) (xs ys : List (Vect k)) → ((q : ℕ) → P (listed k xs q)) → ((q : ℕ) → P (listed k ys q)) → (q : ℕ) → P (listed k (xs ++ ys) q)
  append_has P [] ys h g q = g q
  append_has P (x ∷ xs) ys h g zero = h zero
  append_has P (x ∷ xs) ys h g (suc q) = append_has P xs ys (λ r. h (suc r)) g q

  map_has : (P : Vect k → Type 0) (f : List ℕ → Vect k) (B : List (List ℕ)) → P (zero_vector k) → ((b : List ℕ) → In b B → P (f b)) → (q : ℕ) → P (listed k (map f B) q)
  map_has P f [] none each q = none
  map_has P f (b ∷ B) none each zero = each b (inl refl)
  map_has P f (b ∷ B) none each (suc q) = map_has P f B none (λ a i. each a (inr i)) q

  -- each is a monomial of the list, or 0
  pub part_has : (B : List (List ℕ)) (P : Vect k → Type 0) → P (zero_vector k) → ((b : List ℕ) → In b B → P (single_vector k (0, mono b))) → (c i q : ℕ) → P (listed k (part_values k B c i) q)
  part_has B P none each zero i q = none
  part_has B P none each (suc c) zero q = append_has P _ (copies c (nothings k B)) (map_has P (λ b. single_vector k (0, mono b)) B none each) (nothing c) q
    where
      nothing : (c q : ℕ) → P (listed k (copies c (nothings k B)) q)
      nothing zero q = none
      nothing (suc c) q = append_has P (nothings k B) _ (map_has P (λ b. zero_vector k) B none (λ b i. none)) (nothing c) q
  part_has B P none each (suc c) (suc i) q = append_has P (nothings k B) _ (map_has P (λ b. zero_vector k) B none (λ b i. none)) (part_has B P none each c i) q

  nothings_listed : (B : List (List ℕ)) (q : ℕ) → listed k (nothings k B) q ≡ zero_vector k
  nothings_listed [] q = refl
  nothings_listed (b ∷ B) zero = refl
  nothings_listed (b ∷ B) (suc q) = nothings_listed B q

  copies_listed : (B : List (List ℕ)) (c q : ℕ) → listed k (copies c (nothings k B)) q ≡ zero_vector k
  copies_listed B zero q = refl
  copies_listed B (suc c) q = append_has (λ v. v ≡ zero_vector k) (nothings k B) _ (nothings_listed B) (copies_listed B c) q

  monomials_listed : (B : List (List ℕ)) (q : ℕ) → q < length B → listed k (map (λ b. single_vector k (0, mono b)) B) q ≡ single_vector k (0, part_at B q)
  unfolding part_at
  monomials_listed [] q h = absurd (omega arith)
  monomials_listed (b ∷ B) zero h = refl
  monomials_listed (b ∷ B) (suc q) h = monomials_listed B q (omega arith)

  module _ (B : List (List ℕ)) where
    abbrev monos : List (Vect k)
    monos = map (λ b. single_vector k (0, mono b)) B

    long : length (map (λ b. single_vector k (0, mono b)) B) ≡ length B
    long = length_map (λ b. single_vector k (0, mono b)) B

    none_long : length (nothings k B) ≡ length B
    none_long = length_map (λ b. zero_vector k) B

    -- after its own positions
    pub part_late : (c i q : ℕ) → suc i * length B ≤ q → listed k (part_values k B c i) q ≡ zero_vector k
    part_late zero i q h = refl
    part_late (suc c) zero q h = let l = long in let s = suc-mul 0 (length B) in let z = zero-mul (length B) in
        listed_back monos (copies c (nothings k B)) q (omega arith) ∙ copies_listed B c _
    part_late (suc c) (suc i) q h = let l = none_long in let s = suc-mul (suc i) (length B) in
        listed_back (nothings k B) (part_values k B c i) q (omega arith) ∙ part_late c i (q - length (nothings k B)) (omega arith)

    -- before them
    pub part_early : (c i q : ℕ) → q < i * length B → listed k (part_values k B c i) q ≡ zero_vector k
    part_early zero i q h = refl
    part_early (suc c) zero q h = absurd (let z = zero-mul (length B) in omega arith)
    part_early (suc c) (suc i) q h = go (part_early c i (q - length (nothings k B))) (dec_le (length (nothings k B)) q)
      where
        go : (q - length (nothings k B) < i * length B → listed k (part_values k B c i) (q - length (nothings k B)) ≡ zero_vector k) → Dec (length (nothings k B) ≤ q)
            → listed k (nothings k B ++ part_values k B c i) q ≡ zero_vector k
        go before (yes p) = let l = none_long in let s = suc-mul i (length B) in
            listed_back (nothings k B) (part_values k B c i) q p ∙ before (omega arith)
        go before (no p) = listed_front k (nothings k B) (part_values k B c i) q (omega arith) ∙ nothings_listed B q

    -- at them
    pub part_own : (c i q : ℕ) → i < c → i * length B ≤ q → q < suc i * length B → listed k (part_values k B c i) q ≡ single_vector k (0, part_at B (q - i * length B))
    part_own zero i q l low high = absurd (omega arith)
    part_own (suc c) zero q l low high =
        let e = long in let s = suc-mul 0 (length B) in let z = zero-mul (length B) in
        let same : q ≡ q - 0 * length B = omega arith in
        listed_front k monos (copies c (nothings k B)) q (omega arith) ∙ monomials_listed B q (omega arith) ∙ ap (λ (j : ℕ). single_vector k (0, part_at B j)) same
    part_own (suc c) (suc i) q l low high =
        let e = none_long in let s = suc-mul i (length B) in let r = suc-mul (suc i) (length B) in
        let same : (q - length (nothings k B)) - i * length B ≡ q - suc i * length B = omega arith in
        listed_back (nothings k B) (part_values k B c i) q (omega arith) ∙ part_own c i (q - length (nothings k B)) (omega arith) (omega arith) (omega arith)
        ∙ ap (λ (j : ℕ). single_vector k (0, part_at B j)) same

  -- they are forms, of the degrees that stand at their positions
  module _ (n : ℕ) where
    monomial_forms : (B : List (List ℕ)) → All (λ b. length b ≡ n) B → AreForms k (replicate n 1) (map total B) (map (λ b. single_vector k (0, mono b)) B)
    unfolding height part_at
    monomial_forms [] wide = tt
    monomial_forms (b ∷ B) wide = (
      supp_single k (OfDegree k (replicate n 1) (total b)) (0, mono b) (refl, sym (part_degree n (b ∷ B) wide 0 (omega arith))),
      monomial_forms B (λ j d l. wide (suc j) d (omega arith)),
    )

    no_forms : (B : List (List ℕ)) → AreForms k (replicate n 1) (map total B) (nothings k B)
    no_forms [] = tt
    no_forms (b ∷ B) = (supp_zero k (OfDegree k (replicate n 1) (total b)), no_forms B)

    copies_forms : (B : List (List ℕ)) (c : ℕ) → AreForms k (replicate n 1) (copies c (map total B)) (copies c (nothings k B))
    copies_forms B zero = tt
    copies_forms B (suc c) = forms_append k (replicate n 1) (map total B) (copies c (map total B)) (nothings k B) (copies c (nothings k B)) (no_forms B) (copies_forms B c)

    pub part_forms : (B : List (List ℕ)) → All (λ b. length b ≡ n) B → (c i : ℕ) → AreForms k (replicate n 1) (copies c (map total B)) (part_values k B c i)
    part_forms B wide zero i = tt
    part_forms B wide (suc c) zero = forms_append k (replicate n 1) (map total B) (copies c (map total B)) _ (copies c (nothings k B)) (monomial_forms B wide) (copies_forms B c)
    part_forms B wide (suc c) (suc i) = forms_append k (replicate n 1) (map total B) (copies c (map total B)) (nothings k B) (part_values k B c i) (no_forms B) (part_forms B wide c i)
