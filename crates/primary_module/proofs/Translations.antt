-- Polynomials with parts of a list in the variables, and vectors with a position for each of them: linear, multiples by
-- polynomials in the marks, one the inverse of the other, degrees.
use Rattle.std.proofs.Common.{◌≡◌, ◌∙◌, ◌+◌, ◌<◌, ◌≤◌, ℕ, suc, List, ◌++◌, length, map, replicate, refl, sym, ap, ap₂, subst, arith}
use Rattle.std.specs.Prelude.{All}
use native.Mathlib.Decide.{ℕ_discrete, dec_le}
use Rattle.alg_core.specs.BlockOrder.{length_ones}
use Rattle.alg_core.specs.Fields.{FieldOn, scalars}
use Rattle.alg_core.specs.FreeModules.{extend_linear, extend_single}
use Rattle.alg_core.specs.Keys.{Key, key_same, keys}
use Rattle.alg_core.specs.ModuleLaws as modules
use Rattle.alg_core.specs.MonomialParts.{variable_part, mark_part, as_marks, key_as_marks}
use Rattle.alg_core.specs.Monomials.{Mon, monomials}
use Rattle.alg_core.specs.Rings.{Linear}
use Rattle.alg_core.specs.SpaceGrading.{weight, weight_mul, height}
use Rattle.alg_core.specs.Vectors.{Vect, vectors}
use Rattle.alg_core.proofs.MonomialLists.{length_mul}
use Rattle.alg_core.proofs.MonomialParts.{parts, as_marks_mul, mark_part_as_marks, mark_part_mul, mark_part_none, variable_part_as_marks, variable_part_mul, variable_part_same, length_as_marks, length_mark_part, weight_as_marks, weight_parts}
use Rattle.poly_module.specs.Combinations.{IsCombination, combination_degree}
use Rattle.poly_module.specs.Degrees.{IsGraded}
use Rattle.poly_module.specs.Forms.{IsForm, OfDegree, of_degree, key_weight, dec_both}
use Rattle.poly_module.specs.GreatestExponents.{total}
use Rattle.poly_module.specs.Marks.{IsMixed, in_marks}
use Rattle.poly_module.specs.Parts.{Supp, IsPolynomial, supp_single, linear_supp, linear_unique_supp}
use Rattle.poly_module.specs.Polynomials.{single_vector, product}
use Rattle.poly_module.specs.Products.{product_linear, product_linear_left, product_single}
use Rattle.poly_module.proofs.Marks.{agree, in_marks_linear, in_marks_single}
use Rattle.finite_certificate.proofs.ModuleTerms.{weight_variables}
use Rattle.primary_module.specs.Positions.{AreDifferent, IsPart, place_of, part_at, HasParts, HasPositions, key_at_position, at_positions, key_from_position, from_positions}
use Rattle.primary_module.proofs.Places.{place_in, part_place, part_in, place_part, part_dec, part_wide, part_degree}

module _ {E : Type 0} (k : FieldOn E) (n : ℕ) (B : List (List ℕ)) where
  pub at_linear : Linear (vectors k) (vectors k) (at_positions k n B)
  unfolding at_positions
  at_linear = extend_linear (scalars k) key_same (vectors k) _

  pub at_single : (t : Key) → at_positions k n B (single_vector k t) ≡ single_vector k (key_at_position k n B t)
  unfolding at_positions single_vector
  at_single t = extend_single (scalars k) key_same (vectors k) _ t

  pub from_linear : Linear (vectors k) (vectors k) (from_positions k n B)
  unfolding from_positions
  from_linear = extend_linear (scalars k) key_same (vectors k) _

  pub from_single : (t : Key) → from_positions k n B (single_vector k t) ≡ single_vector k (key_from_position k n B t)
  unfolding from_positions single_vector
  from_single t = extend_single (scalars k) key_same (vectors k) _ t

  -- parts of what a monomial in the marks multiplies
  part_kept : (a m : Mon) → variable_part n (monomials.◌·◌ (as_marks n a) m) ≡ variable_part n m
  part_kept a m = variable_part_mul n (as_marks n a) m ∙ ap (λ (c : Mon). monomials.◌·◌ c (variable_part n m)) (variable_part_as_marks n a)
      ∙ monomials.comm monomials.one (variable_part n m) ∙ monomials.mul_one (variable_part n m)

  marks_multiplied : (a m : Mon) → mark_part n (monomials.◌·◌ (as_marks n a) m) ≡ monomials.◌·◌ a (mark_part n m)
  marks_multiplied a m = mark_part_mul n (as_marks n a) m ∙ ap (λ (c : Mon). monomials.◌·◌ c (mark_part n m)) (mark_part_as_marks n a)

  at_multiple : (s t : Key) → key_at_position k n B (keys.◌·◌ (key_as_marks n s) t) ≡ keys.◌·◌ s (key_at_position k n B t)
  unfolding keys
  at_multiple s t =
      let place : s.0 + t.0 + place_of B (variable_part n (monomials.◌·◌ (as_marks n s.1) t.1)) ≡ s.0 + (t.0 + place_of B (variable_part n t.1)) =
      ap (λ (m : Mon). s.0 + t.0 + place_of B m) (part_kept s.1 t.1) ∙ omega arith in
      ap₂ (λ (i : ℕ) (m : Mon). (i, m)) place (marks_multiplied s.1 t.1)

  -- a multiple by a polynomial in the marks
  pub at_product : (a u : Vect k) → at_positions k n B (product k (in_marks k n a) u) ≡ product k a (at_positions k n B u)
  at_product a u = agree k (λ a. at_positions k n B (product k (in_marks k n a) u)) (λ a. product k a (at_positions k n B u))
      (modules.linear_after (vectors k) (vectors k) (vectors k) (λ a. product k (in_marks k n a) u) (at_positions k n B)
      (modules.linear_after (vectors k) (vectors k) (vectors k) (in_marks k n) (λ c. product k c u) (in_marks_linear k n) (product_linear_left k u)) at_linear)
      (product_linear_left k (at_positions k n B u)) at_left a
    where
      at_left : (s : Key) → at_positions k n B (product k (in_marks k n (single_vector k s)) u) ≡ product k (single_vector k s) (at_positions k n B u)
      at_left s = agree k (λ u. at_positions k n B (product k (in_marks k n (single_vector k s)) u)) (λ u. product k (single_vector k s) (at_positions k n B u))
          (modules.linear_after (vectors k) (vectors k) (vectors k) (product k (in_marks k n (single_vector k s))) (at_positions k n B) (product_linear k _) at_linear)
          (modules.linear_after (vectors k) (vectors k) (vectors k) (at_positions k n B) (product k (single_vector k s)) at_linear (product_linear k _))
          (λ t. ap (λ c. at_positions k n B (product k c (single_vector k t))) (in_marks_single k n s) ∙ ap (at_positions k n B) (product_single k (key_as_marks n s) t)
          ∙ at_single (keys.◌·◌ (key_as_marks n s) t) ∙ ap (single_vector k) (at_multiple s t)
          ∙ sym (ap (product k (single_vector k s)) (at_single t) ∙ product_single k s (key_at_position k n B t)))
          u

  from_multiple : (s t : Key) → s.0 ≡ 0 → key_from_position k n B (keys.◌·◌ s t) ≡ keys.◌·◌ (key_as_marks n s) (key_from_position k n B t)
  unfolding keys
  from_multiple s t z =
      let P : Mon = part_at B t.0 in
      let a : Mon = as_marks n s.1 in
      let b : Mon = as_marks n t.1 in
      let place : s.0 + t.0 ≡ t.0 = omega arith in
      let first : 0 ≡ s.0 + 0 = omega arith in
      let here : monomials.◌·◌ (part_at B (s.0 + t.0)) (as_marks n (monomials.◌·◌ s.1 t.1)) ≡ monomials.◌·◌ P (monomials.◌·◌ a b) =
      ap₂ (λ (i : ℕ) (m : Mon). monomials.◌·◌ (part_at B i) m) place (as_marks_mul n s.1 t.1) in
      ap₂ (λ (i : ℕ) (m : Mon). (i, m)) first
      (here ∙ sym (monomials.assoc P a b) ∙ ap (λ (m : Mon). monomials.◌·◌ m b) (monomials.comm P a) ∙ monomials.assoc a P b)

  pub from_product : (a w : Vect k) → IsPolynomial k a → from_positions k n B (product k a w) ≡ product k (in_marks k n a) (from_positions k n B w)
  from_product a w h = linear_unique_supp k (vectors k) (λ a. from_positions k n B (product k a w)) (λ a. product k (in_marks k n a) (from_positions k n B w))
      (modules.linear_after (vectors k) (vectors k) (vectors k) (λ a. product k a w) (from_positions k n B) (product_linear_left k w) from_linear)
      (modules.linear_after (vectors k) (vectors k) (vectors k) (in_marks k n) (λ c. product k c (from_positions k n B w)) (in_marks_linear k n) (product_linear_left k _))
      (λ s. s.0 ≡ 0) at_left a h
    where
      at_left : (s : Key) → s.0 ≡ 0 → from_positions k n B (product k (single_vector k s) w) ≡ product k (in_marks k n (single_vector k s)) (from_positions k n B w)
      at_left s z = agree k (λ w. from_positions k n B (product k (single_vector k s) w)) (λ w. product k (in_marks k n (single_vector k s)) (from_positions k n B w))
          (modules.linear_after (vectors k) (vectors k) (vectors k) (product k (single_vector k s)) (from_positions k n B) (product_linear k _) from_linear)
          (modules.linear_after (vectors k) (vectors k) (vectors k) (from_positions k n B) (product k (in_marks k n (single_vector k s))) from_linear (product_linear k _))
          (λ t. ap (from_positions k n B) (product_single k s t) ∙ from_single (keys.◌·◌ s t) ∙ ap (single_vector k) (from_multiple s t z)
          ∙ sym (ap₂ (product k) (in_marks_single k n s) (from_single t) ∙ product_single k (key_as_marks n s) (key_from_position k n B t)))
          w

  -- there and back
  there_and_back : (t : Key) → t.0 ≡ 0 → IsPart B (variable_part n t.1) → key_from_position k n B (key_at_position k n B t) ≡ t
  there_and_back t z p =
      let place : t.0 + place_of B (variable_part n t.1) ≡ place_of B (variable_part n t.1) = omega arith in
      ap₂ (λ (i : ℕ) (m : Mon). (i, m)) (sym z)
      (ap (λ (m : Mon). monomials.◌·◌ m (as_marks n (mark_part n t.1))) (ap (part_at B) place ∙ part_place B (variable_part n t.1) p) ∙ parts n t.1)

  pub from_at : (u : Vect k) → IsPolynomial k u → HasParts k n B u → from_positions k n B (at_positions k n B u) ≡ u
  from_at u poly h = linear_unique_supp k (vectors k) (λ u. from_positions k n B (at_positions k n B u)) (λ u. u)
      (modules.linear_after (vectors k) (vectors k) (vectors k) (at_positions k n B) (from_positions k n B) at_linear from_linear) (modules.linear_same (vectors k))
      (λ t. (t.0 ≡ 0) × IsPart B (variable_part n t.1))
      (λ t q. ap (from_positions k n B) (at_single t) ∙ from_single (key_at_position k n B t) ∙ ap (single_vector k) (there_and_back t q.0 q.1))
      u (λ t c. (poly t c, h t c))

  pub at_keys : (r : ℕ) (u : Vect k) → IsMixed k n r u → HasParts k n B u → IsCombination k r (length B) (at_positions k n B u)
  at_keys r u mixed h = linear_supp k (at_positions k n B) at_linear (λ t. (t.0 ≡ 0) × (length t.1.0 ≤ n + r) × IsPart B (variable_part n t.1))
      (λ t. (length t.1.0 ≤ r) × (t.0 < length B)) (λ t. dec_both (dec_le (length t.1.0) r) (dec_le (suc t.0) (length B)))
      (λ t q. subst (IsCombination k r (length B)) (sym (at_single t))
      (supp_single k (λ s. (length s.1.0 ≤ r) × (s.0 < length B)) (key_at_position k n B t)
      (length_mark_part n r t.1 q.1, (let z = q.0 in let low = place_in B (variable_part n t.1) q.2 in omega arith))))
      u (λ t c. (mixed.polynomial t c, mixed.variables t c, h t c))

  module _ (wide : All (λ b. length b ≡ n) B) where
    part_front : (i : ℕ) (m : Mon) → i < length B → variable_part n (monomials.◌·◌ (part_at B i) (as_marks n m)) ≡ part_at B i
    part_front i m h = ap (variable_part n) (monomials.comm (part_at B i) (as_marks n m)) ∙ part_kept m (part_at B i) ∙ variable_part_same n (part_at B i) (part_wide n B wide i h)

    marks_back : (i : ℕ) (m : Mon) → i < length B → mark_part n (monomials.◌·◌ (part_at B i) (as_marks n m)) ≡ m
    marks_back i m h = ap (mark_part n) (monomials.comm (part_at B i) (as_marks n m)) ∙ marks_multiplied m (part_at B i)
        ∙ ap (monomials.◌·◌ m) (mark_part_none n (part_at B i) (part_wide n B wide i h)) ∙ monomials.mul_one m

    back_and_there : AreDifferent B → (t : Key) → t.0 < length B → key_at_position k n B (key_from_position k n B t) ≡ t
    back_and_there different t h =
        let place : 0 + place_of B (variable_part n (monomials.◌·◌ (part_at B t.0) (as_marks n t.1))) ≡ t.0 =
        ap (λ (m : Mon). 0 + place_of B m) (part_front t.0 t.1 h) ∙ ap (λ (i : ℕ). 0 + i) (place_part B different t.0 h) ∙ omega arith in
        ap₂ (λ (i : ℕ) (m : Mon). (i, m)) place (marks_back t.0 t.1 h)

    pub at_from : (w : Vect k) → AreDifferent B → HasPositions k (length B) w → at_positions k n B (from_positions k n B w) ≡ w
    at_from w different h = linear_unique_supp k (vectors k) (λ w. at_positions k n B (from_positions k n B w)) (λ w. w)
        (modules.linear_after (vectors k) (vectors k) (vectors k) (from_positions k n B) (at_positions k n B) from_linear at_linear) (modules.linear_same (vectors k))
        (λ t. t.0 < length B)
        (λ t q. ap (at_positions k n B) (from_single t) ∙ at_single (key_from_position k n B t) ∙ ap (single_vector k) (back_and_there different t q))
        w h

    -- its keys
    abbrev FromKeys : ℕ → Key → Type 0
    FromKeys r t = (t.0 ≡ 0) × (length t.1.0 ≤ n + r) × IsPart B (variable_part n t.1)

    from_keys_dec : (r : ℕ) (t : Key) → Dec (FromKeys r t)
    from_keys_dec r t = at (dec_both (ℕ_discrete t.0 0) (dec_le (length t.1.0) (n + r))) (part_dec B (variable_part n t.1))
      where
        at : Dec ((t.0 ≡ 0) × (length t.1.0 ≤ n + r)) → Dec (IsPart B (variable_part n t.1)) → Dec (FromKeys r t)
        at (yes a) (yes b) = yes (a.0, a.1, b)
        at (yes a) (no b) = no (λ q. b q.2)
        at (no a) b = no (λ q. a (q.0, q.1))

    from_keys : (r : ℕ) (w : Vect k) → IsCombination k r (length B) w → Supp k (FromKeys r) (from_positions k n B w)
    from_keys r w h = linear_supp k (from_positions k n B) from_linear (λ t. (length t.1.0 ≤ r) × (t.0 < length B)) (FromKeys r) (from_keys_dec r)
        (λ t q. subst (Supp k (FromKeys r)) (sym (from_single t)) (supp_single k (FromKeys r) (key_from_position k n B t) (
          refl,
          length_mul (n + r) (part_at B t.0) (as_marks n t.1) (let l = part_wide n B wide t.0 q.1 in omega arith) (let l = length_as_marks n t.1 in let short = q.0 in omega arith),
          subst (IsPart B) (sym (part_front t.0 t.1 q.1)) (part_in B t.0 q.1),
        )))
        w h

    pub from_mixed : (r : ℕ) (w : Vect k) → IsCombination k r (length B) w → IsMixed k n r (from_positions k n B w) × HasParts k n B (from_positions k n B w)
    from_mixed r w h =
        let f = from_keys r w h in
        (record { polynomial = λ t c. (f t c).0; variables = λ t c. (f t c).1 }, λ t c. (f t c).2)

    -- degrees
    module _ (ds : List ℕ) where
      abbrev W : List ℕ
      W = replicate n 1 ++ ds

      abbrev place_degree : Key → ℕ
      place_degree = combination_degree ds (map total B)

      at_key_degree : (t : Key) → t.0 ≡ 0 → length t.1.0 ≤ n + length ds → IsPart B (variable_part n t.1) → place_degree (key_at_position k n B t) ≡ key_weight W t
      at_key_degree t z short p =
          let m = variable_part n t.1 in
          let i = place_of B m in
          let place : t.0 + place_of B (variable_part n t.1) ≡ place_of B (variable_part n t.1) = omega arith in
          let up : height (map total B) (t.0 + place_of B (variable_part n t.1)) ≡ weight (replicate n 1) 0 (variable_part n t.1).0 =
          ap (height (map total B)) place ∙ part_degree n B wide (place_of B (variable_part n t.1)) (place_in B (variable_part n t.1) p)
          ∙ ap (λ (a : Mon). weight (replicate n 1) 0 a.0) (part_place B (variable_part n t.1) p) in
          let e : length {A = ℕ} (replicate n 1) ≡ n = length_ones n in
          let split = weight_parts (replicate n 1) ds t.1 (omega arith) in
          let whole : key_weight (replicate n 1 ++ ds) t ≡ weight (replicate n 1) 0 (variable_part n t.1).0 + weight ds 0 (mark_part n t.1).0 =
          subst (λ (l : ℕ). key_weight (replicate n 1 ++ ds) t ≡ weight (replicate n 1) 0 (variable_part l t.1).0 + weight ds 0 (mark_part l t.1).0) e split in
          omega arith

      pub at_degree : (d : ℕ) (u : Vect k) → IsMixed k n (length ds) u → HasParts k n B u → IsForm k (replicate n 1 ++ ds) d u → IsGraded k (combination_degree ds (map total B)) d (at_positions k n B u)
      at_degree d u mixed h form = linear_supp k (at_positions k n B) at_linear (λ t. (t.0 ≡ 0) × (length t.1.0 ≤ n + length ds) × IsPart B (variable_part n t.1) × (key_weight W t ≡ d))
          (λ t. place_degree t ≡ d) (λ t. ℕ_discrete (place_degree t) d)
          (λ t q. subst (IsGraded k place_degree d) (sym (at_single t)) (supp_single k (λ s. place_degree s ≡ d) (key_at_position k n B t) (at_key_degree t q.0 q.1 q.2 ∙ q.3)))
          u (λ t c. (mixed.polynomial t c, mixed.variables t c, h t c, (form t c).1))

      from_key_degree : (t : Key) → t.0 < length B → length t.1.0 ≤ length ds → key_weight W (key_from_position k n B t) ≡ place_degree t
      from_key_degree t h short =
          let product = weight_mul W (part_at B t.0) (as_marks n t.1) in
          let e : length {A = ℕ} (replicate n 1) ≡ n = length_ones n in
          let marks : weight (replicate n 1 ++ ds) 0 (as_marks n t.1).0 ≡ weight ds 0 t.1.0 =
          subst (λ (l : ℕ). weight (replicate n 1 ++ ds) 0 (as_marks l t.1).0 ≡ weight ds 0 t.1.0) e (weight_as_marks (replicate n 1) ds t.1 short) in
          let front : weight (replicate n 1 ++ ds) 0 (part_at B t.0).0 ≡ height (map total B) t.0 =
          weight_variables n ds 0 (part_at B t.0).0 (part_wide n B wide t.0 h) ∙ sym (part_degree n B wide t.0 h) in
          omega arith

      pub from_degree : (d : ℕ) (w : Vect k) → IsCombination k (length ds) (length B) w → IsGraded k (combination_degree ds (map total B)) d w → IsForm k (replicate n 1 ++ ds) d (from_positions k n B w)
      from_degree d w h graded = linear_supp k (from_positions k n B) from_linear (λ t. (length t.1.0 ≤ length ds) × (t.0 < length B) × (place_degree t ≡ d)) (OfDegree k W d) (of_degree k W d)
          (λ t q. subst (IsForm k W d) (sym (from_single t)) (supp_single k (OfDegree k W d) (key_from_position k n B t) (refl, from_key_degree t q.1 q.0 ∙ q.2)))
          w (λ t c. ((h t c).0, (h t c).1, graded t c))
