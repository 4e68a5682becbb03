-- Values of combinations: sums, multiples, degrees, and what is a combination over given polynomials.
use Rattle.std.proofs.Common.{◌≡◌, ℕ, zero, suc, ◌+◌, ◌<◌, ◌≤◌, List, [], ◌∷◌, length, sym, ap, ap₂, ◌∙◌, refl, subst, arith}
use native.Mathlib.Decide.{dec_le}
use Rattle.alg_core.specs.Rings.{Linear}
use Rattle.alg_core.specs.ModuleLaws as modules
use Rattle.alg_core.specs.Fields.{FieldOn, Scalar, scalars}
use Rattle.alg_core.specs.FreeModules.{extend, extend_linear, extend_single}
use Rattle.alg_core.specs.Monomials.{monomials}
use Rattle.alg_core.specs.Keys.{Key, key_same, keys}
use Rattle.alg_core.specs.SpaceGrading.{weight, height}
use Rattle.alg_core.specs.Vectors.{Vect, vectors, plus, zero_vector}
use Rattle.poly_module.specs.Polynomials.{single_vector, product, vector_ring}
use Rattle.poly_module.specs.Products.{product_linear, product_linear_left, product_single, product_assoc, one_product, ring_product, ring_one}
use Rattle.poly_module.specs.Substitutions.{monomial_value_mul, monomial_value_one, substitute, substitute_single}
use Rattle.poly_module.specs.Parts.{IsPolynomial, InVariables, supp_single, supp_plus, supp_zero, supp_product, linear_supp, linear_unique_supp, supp_act}
use Rattle.poly_module.specs.Variables.{substitute_linear, length_mul, length_one}
use Rattle.poly_module.specs.Degrees.{IsGraded, graded_part, graded_part_supp, graded_map}
use Rattle.poly_module.specs.Forms.{dec_both, key_weight, OfDegree, of_degree, IsForm, AreForms, form_part, form_product, form_monomial}
use Rattle.poly_module.specs.Modules.{IsSubspace, listed}
use Rattle.poly_module.specs.Combinations.{term_value, combination_value, IsCombination, Over, combination_degree}

module _ {E : Type 0} (k : FieldOn E) where
  module _ (θ S : List (Vect k)) where
    pub combination_value_linear : Linear (vectors k) (vectors k) (combination_value k θ S)
    unfolding combination_value
    combination_value_linear = extend_linear (scalars k) key_same (vectors k) _

    pub combination_value_plus : (c d : Vect k) → combination_value k θ S (plus k c d) ≡ plus k (combination_value k θ S c) (combination_value k θ S d)
    unfolding plus
    combination_value_plus = combination_value_linear.add

    pub combination_value_zero : combination_value k θ S (zero_vector k) ≡ zero_vector k
    unfolding zero_vector
    combination_value_zero = modules.linear_zero (vectors k) (vectors k) _ combination_value_linear

    pub combination_value_single : (t : Key) → combination_value k θ S (single_vector k t) ≡ term_value k θ S t
    unfolding combination_value single_vector
    combination_value_single t = extend_single (scalars k) key_same (vectors k) _ t

    -- the value of a multiple by a polynomial is the multiple by its value
    pub combination_value_product : (a c : Vect k) → IsPolynomial k a → combination_value k θ S (product k a c) ≡ product k (substitute k θ a) (combination_value k θ S c)
    unfolding keys
    combination_value_product a c = linear_unique_supp k (vectors k) (λ a. combination_value k θ S (product k a c)) (λ a. product k (substitute k θ a) (combination_value k θ S c))
        (modules.linear_after (vectors k) (vectors k) (vectors k) (λ a. product k a c) (combination_value k θ S) (product_linear_left k c) combination_value_linear)
        (modules.linear_after (vectors k) (vectors k) (vectors k) (substitute k θ) (λ a. product k a (combination_value k θ S c)) (substitute_linear k θ) (product_linear_left k _))
        (λ t. t.0 ≡ 0) one_factor a
      where
        two : (s t : Key) → s.0 ≡ 0 → combination_value k θ S (product k (single_vector k s) (single_vector k t)) ≡ product k (substitute k θ (single_vector k s)) (combination_value k θ S (single_vector k t))
        two s t z =
            let same : s.0 + t.0 ≡ t.0 = omega arith in
            ap (combination_value k θ S) (product_single k s t) ∙ combination_value_single (keys.◌·◌ s t)
            ∙ ap₂ (product k) (monomial_value_mul (vector_ring k) θ s.1 t.1 ∙ ring_product k _ _) (ap (listed k S) same) ∙ product_assoc k _ _ _
            ∙ sym (ap₂ (product k) (substitute_single k θ s) (combination_value_single t))

        one_factor : (s : Key) → s.0 ≡ 0 → combination_value k θ S (product k (single_vector k s) c) ≡ product k (substitute k θ (single_vector k s)) (combination_value k θ S c)
        one_factor s z = linear_unique_supp k (vectors k) (λ c. combination_value k θ S (product k (single_vector k s) c)) (λ c. product k (substitute k θ (single_vector k s)) (combination_value k θ S c))
            (modules.linear_after (vectors k) (vectors k) (vectors k) (product k (single_vector k s)) (combination_value k θ S) (product_linear k _) combination_value_linear)
            (modules.linear_after (vectors k) (vectors k) (vectors k) (combination_value k θ S) (product k (substitute k θ (single_vector k s))) combination_value_linear (product_linear k _))
            (λ t. Unit {0}) (λ t q. two s t z) c (λ t n. tt)

    -- the member at a position
    pub combination_value_member : (j : ℕ) → combination_value k θ S (single_vector k (j, monomials.one)) ≡ listed k S j
    combination_value_member j = combination_value_single (j, monomials.one) ∙ ap (λ w. product k w (listed k S j)) (monomial_value_one (vector_ring k) θ ∙ ring_one k) ∙ one_product k _

  module _ (θ S : List (Vect k)) where
    pub over_zero : Over k θ S (zero_vector k)
    over_zero = (zero_vector k, supp_zero k (λ t. (length t.1.0 ≤ length θ) × (t.0 < length S)), combination_value_zero θ S)

    pub over_plus : (f g : Vect k) → Over k θ S f → Over k θ S g → Over k θ S (plus k f g)
    over_plus f g a b = (plus k a.0 b.0, supp_plus k (λ t. (length t.1.0 ≤ length θ) × (t.0 < length S)) a.0 b.0 a.1 b.1, combination_value_plus θ S a.0 b.0 ∙ ap₂ (plus k) a.2 b.2)

    pub over_act : (c : Scalar k) (f : Vect k) → Over k θ S f → Over k θ S ((vectors k).◌·◌ c f)
    over_act c f a = ((vectors k).◌·◌ c a.0, supp_act k (λ t. (length t.1.0 ≤ length θ) × (t.0 < length S)) c a.0 a.1, (combination_value_linear θ S).act c a.0 ∙ ap ((vectors k).◌·◌ c) a.2)

    pub over_subspace : IsSubspace k (Over k θ S)
    over_subspace = record { zero = over_zero; plus = over_plus; act = over_act }

    -- a multiple by a polynomial in θ
    pub over_product : (a f : Vect k) → IsPolynomial k a → InVariables k (length θ) a → Over k θ S f → Over k θ S (product k (substitute k θ a) f)
    unfolding keys
    over_product a f p v o = (
      product k a o.0,
      supp_product k (λ t. (t.0 ≡ 0) × (length t.1.0 ≤ length θ)) (λ t. (length t.1.0 ≤ length θ) × (t.0 < length S)) (λ t. (length t.1.0 ≤ length θ) × (t.0 < length S))
          (λ t. dec_both (dec_le (length t.1.0) (length θ)) (dec_le (suc t.0) (length S)))
          (λ s t x y. let z = x.0 in let w = y.1 in (length_mul (length θ) s.1 t.1 x.1 y.0, omega arith)) a o.0 (λ t n. (p t n, v t n)) o.1,
      combination_value_product θ S a o.0 p ∙ ap (product k (substitute k θ a)) o.2,
    )

    pub over_member : (j : ℕ) → j < length S → Over k θ S (listed k S j)
    over_member j h = (single_vector k (j, monomials.one), supp_single k (λ t. (length t.1.0 ≤ length θ) × (t.0 < length S)) (j, monomials.one) (short, h), combination_value_member θ S j)
      where
        short : length monomials.one.0 ≤ length θ
        short = length_one (length θ)

  place_dec : (θ S : List (Vect k)) (t : Key) → Dec ((length t.1.0 ≤ length θ) × (t.0 < length S))
  place_dec θ S t = dec_both (dec_le (length t.1.0) (length θ)) (dec_le (suc t.0) (length S))

  module _ (θ S S' : List (Vect k)) (each : (j : ℕ) → j < length S → Over k θ S' (listed k S j)) where
    -- a combination over S' with the value of the member of S at position j
    chosen : (j : ℕ) → Dec (j < length S) → Vect k
    chosen j (yes h) = (each j h).0
    chosen j (no n) = zero_vector k

    chosen_value : (j : ℕ) (d : Dec (j < length S)) → j < length S → combination_value k θ S' (chosen j d) ≡ listed k S j
    unfolding chosen
    chosen_value j (yes h) l = (each j h).2
    chosen_value j (no n) l = absurd (n l)

    chosen_supp : (j : ℕ) (d : Dec (j < length S)) → IsCombination k (length θ) (length S') (chosen j d)
    unfolding chosen
    chosen_supp j (yes h) = (each j h).1
    chosen_supp j (no n) = supp_zero k (λ t. (length t.1.0 ≤ length θ) × (t.0 < length S'))

    moved : Vect k → Vect k
    moved = extend (scalars k) key_same (vectors k) (λ t. product k (single_vector k (0, t.1)) (chosen t.0 (dec_le (suc t.0) (length S))))

    moved_linear : Linear (vectors k) (vectors k) moved
    unfolding moved
    moved_linear = extend_linear (scalars k) key_same (vectors k) _

    moved_single : (t : Key) → moved (single_vector k t) ≡ product k (single_vector k (0, t.1)) (chosen t.0 (dec_le (suc t.0) (length S)))
    unfolding moved single_vector
    moved_single t = extend_single (scalars k) key_same (vectors k) _ t

    moved_value : (c : Vect k) → IsCombination k (length θ) (length S) c → combination_value k θ S' (moved c) ≡ combination_value k θ S c
    moved_value = linear_unique_supp k (vectors k) (λ c. combination_value k θ S' (moved c)) (combination_value k θ S)
        (modules.linear_after (vectors k) (vectors k) (vectors k) moved (combination_value k θ S') moved_linear (combination_value_linear θ S')) (combination_value_linear θ S)
        (λ t. (length t.1.0 ≤ length θ) × (t.0 < length S))
        (λ t q. ap (combination_value k θ S') (moved_single t) ∙ combination_value_product θ S' (single_vector k (0, t.1)) _ (supp_single k (λ s. s.0 ≡ 0) (0, t.1) refl)
        ∙ ap₂ (product k) (substitute_single k θ (0, t.1)) (chosen_value t.0 _ q.1) ∙ sym (combination_value_single θ S t))

    moved_supp : (c : Vect k) → IsCombination k (length θ) (length S) c → IsCombination k (length θ) (length S') (moved c)
    unfolding keys
    moved_supp = linear_supp k moved moved_linear (λ t. (length t.1.0 ≤ length θ) × (t.0 < length S)) (λ t. (length t.1.0 ≤ length θ) × (t.0 < length S')) (place_dec θ S')
        (λ t q. subst (IsCombination k (length θ) (length S')) (sym (moved_single t))
        (supp_product k (λ s. (s.0 ≡ 0) × (length s.1.0 ≤ length θ)) (λ s. (length s.1.0 ≤ length θ) × (s.0 < length S')) (λ s. (length s.1.0 ≤ length θ) × (s.0 < length S')) (place_dec θ S')
        (λ r s x y. let z = x.0 in let w = y.1 in (length_mul (length θ) r.1 s.1 x.1 y.0, omega arith)) (single_vector k (0, t.1)) _
        (supp_single k (λ s. (s.0 ≡ 0) × (length s.1.0 ≤ length θ)) (0, t.1) (refl, q.0)) (chosen_supp t.0 _)))

    -- where each member of S is over S', so is all that is over S
    pub over_within : (f : Vect k) → Over k θ S f → Over k θ S' f
    over_within f a = (moved a.0, moved_supp a.0 a.1, moved_value a.0 a.1 ∙ a.2)

  module _ (ws ds es : List ℕ) (θ S : List (Vect k)) (h : AreForms k ws ds θ) (g : AreForms k ws es S) where
    listed_form : (es : List ℕ) (S : List (Vect k)) → AreForms k ws es S → (q : ℕ) → IsForm k ws (height es q) (listed k S q)
    unfolding height
    listed_form [] [] g q = supp_zero k (OfDegree k ws q)
    listed_form [] (f ∷ S) g q = absurd g
    listed_form (d ∷ es) [] g q = absurd g
    listed_form (d ∷ es) (f ∷ S) g zero = g.0
    listed_form (d ∷ es) (f ∷ S) g (suc q) = listed_form es S g.1 q

    term_form : (t : Key) → length t.1.0 ≤ length θ → IsForm k ws (combination_degree ds es t) (combination_value k θ S (single_vector k t))
    term_form t l = subst (IsForm k ws (combination_degree ds es t)) (sym (combination_value_single θ S t))
        (form_product k ws (weight ds 0 t.1.0) (height es t.0) _ _ (form_monomial k ws ds θ h 0 t.1.0 l) (listed_form es S g t.0))

    -- the value of a homogeneous combination of forms is a form
    pub combination_value_form : (d : ℕ) (c : Vect k) → IsGraded k (combination_degree ds es) d c → InVariables k (length θ) c → IsForm k ws d (combination_value k θ S c)
    combination_value_form d c q v = linear_supp k (combination_value k θ S) (combination_value_linear θ S) (λ t. (combination_degree ds es t ≡ d) × (length t.1.0 ≤ length θ)) (OfDegree k ws d) (of_degree k ws d)
        (λ t p. subst (λ n. IsForm k ws n (combination_value k θ S (single_vector k t))) p.0 (term_form t p.1)) c (λ t n. (q t n, v t n))

    -- and the value of a part is the part of the value
    pub combination_value_part : (d : ℕ) (c : Vect k) → InVariables k (length θ) c → form_part k ws d (combination_value k θ S c) ≡ combination_value k θ S (graded_part k (combination_degree ds es) d c)
    combination_value_part d c v = subst (λ n. form_part k ws n (combination_value k θ S c) ≡ combination_value k θ S (graded_part k (combination_degree ds es) d c)) (omega arith)
        (graded_map k (combination_degree ds es) (key_weight ws) 0 (combination_value k θ S) (combination_value_linear θ S) (λ t. length t.1.0 ≤ length θ)
        (λ t l. subst (λ n. IsGraded k (key_weight ws) n (combination_value k θ S (single_vector k t))) (omega arith) (λ s n. (term_form t l s n).1)) d c v)

    -- the parts of what is a combination are combinations
    pub over_part : (d : ℕ) (f : Vect k) → Over k θ S f → Over k θ S (form_part k ws d f)
    over_part d f a = (
      graded_part k (combination_degree ds es) d a.0,
      graded_part_supp k (combination_degree ds es) d (λ t. (length t.1.0 ≤ length θ) × (t.0 < length S)) a.0 a.1,
      sym (combination_value_part d a.0 (λ t n. (a.1 t n).0)) ∙ ap (form_part k ws d) a.2,
    )
