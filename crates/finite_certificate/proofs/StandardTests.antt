-- Standard monomials: by the leads of a basis, closed under divisors, with the monomial 1.
use Rattle.std.proofs.Common.{◌≡◌, ◌∙◌, ◌↔◌, ◌+◌, ◌≤◌, ℕ, List, length, replicate, refl, sym, ap, subst, arith}
use Rattle.alg_core.specs.Fields.{FieldOn}
use Rattle.alg_core.specs.Keys.{Key, KeyDivides}
use Rattle.alg_core.specs.KeyOrders.{OrderOn}
use Rattle.alg_core.specs.Monomials.{Mon, monomials}
use Rattle.alg_core.specs.PolynomialSpaces.{plain_space, marked_space}
use Rattle.alg_core.specs.SpaceGrading.{weight, weight_mul}
use Rattle.alg_core.specs.SpaceOrder.{key_order}
use Rattle.alg_core.specs.Vectors.{Vect, coef_at, zero_vector, shift}
use Rattle.alg_core.proofs.MonomialLists.{length_one}
use Rattle.alg_core.proofs.VectorLaws.{coef_at_ext, coef_at_zero}
use Rattle.poly_module.specs.Polynomials.{single_vector, product}
use Rattle.poly_module.specs.Products.{shift_product, product_zero}
use Rattle.poly_module.specs.Substitutions.{substitute_product, substitute_zero}
use Rattle.poly_module.specs.Variables.{product_polynomial, product_in_variables}
use Rattle.poly_module.specs.Parts.{supp_single, supp_outside, select_inside}
use Rattle.poly_module.specs.Modules.{LeadBy, listed}
use Rattle.poly_module.specs.Combinations.{mark_value}
use Rattle.poly_module.specs.Marks.{IsRelation}
use Rattle.poly_module.proofs.LeadLaws.{lead_shift}
use Rattle.poly_module.proofs.ModuleElements.{module_shift}
use Rattle.finite_certificate.specs.Ideals.{InIdeal}
use Rattle.finite_certificate.specs.MarkSpaces.{ArePositiveForms}
use Rattle.finite_certificate.specs.StandardMonomials.{IsStandard, IsLeadMultiple, LeadsDivide}
use Rattle.finite_certificate.proofs.MarkDegrees.{marked_degree}
use Rattle.finite_certificate.proofs.ModuleTerms.{factor_length}
use Rattle.finite_certificate.proofs.RelationLeads.{passes, Marked, lift, standard_by_relations}

module _ {E : Type 0} (k : FieldOn E) (n : ℕ) (θ : List (Vect k)) where
  abbrev o : OrderOn Key
  o = key_order (plain_space k n)

  -- by a basis of the ideal
  pub standard_by_basis : (gs : List (Vect k)) → LeadsDivide k o (InIdeal k θ) gs → (m : Mon) → IsStandard k n θ m ↔ (¬ IsLeadMultiple k o gs (0, m))
  standard_by_basis gs basis m = (
    λ standard d. standard (shift k d.4.0 d.0) (module_shift k (listed k θ) d.4.0 d.0 (basis.elements d.0 d.1)) (subst (LeadBy k o (shift k d.4.0 d.0)) d.4.1 (lead_shift (plain_space k n) d.4.0 d.0 d.2 d.3)),
    λ no f inside lead. no (basis.divided f (0, m) inside lead),
  )

  -- divisors of standard monomials are standard
  pub standard_divisor : (a b : Mon) → KeyDivides (0, a) (0, b) → IsStandard k n θ b → IsStandard k n θ a
  standard_divisor a b d standard f inside lead =
      standard (shift k d.0 f) (module_shift k (listed k θ) d.0 f inside) (subst (LeadBy k o (shift k d.0 f)) d.1 (lead_shift (plain_space k n) d.0 f (0, a) lead))

  module _ (ds : List ℕ) (primaries : ArePositiveForms k n ds θ) where
    abbrev blocks : OrderOn Key
    blocks = key_order (marked_space k n ds)

    relation_shift : (c : Mon) (g : Vect k) → length c.0 ≤ n → IsRelation k n θ g → IsRelation k n θ (shift k c g)
    relation_shift c g short h = subst (IsRelation k n θ) (sym (shift_product k c g)) (record {
      mixed = record {
        polynomial = product_polynomial k (single_vector k (0, c)) g (supp_single k (λ t. t.0 ≡ 0) (0, c) refl) h.mixed.polynomial;
        variables = product_in_variables k (n + length θ) (single_vector k (0, c)) g (supp_single k (λ t. length t.1.0 ≤ n + length θ) (0, c) (omega arith)) h.mixed.variables;
      };
      value = substitute_product k _ (single_vector k (0, c)) g ∙ ap (product k (mark_value k n θ (single_vector k (0, c)))) h.value ∙ product_zero k _;
    })

    -- by a basis of the relations
    pub standard_by_lifts : (gs : List (Vect k)) → LeadsDivide k blocks (IsRelation k n θ) gs → (m : Mon) → length m.0 ≤ n → IsStandard k n θ m ↔ (¬ IsLeadMultiple k blocks gs (0, m))
    standard_by_lifts gs basis m short = (
      λ standard d.
          let c = d.4.0 in
          let divides : monomials.◌·◌ c d.2.1 ≡ m = ap (λ (t : Key). t.1) d.4.1 in
          let low : length c.0 ≤ n = factor_length n c d.2.1 (subst (λ (a : Mon). length a.0 ≤ n) (sym divides) short) in
          (standard_by_relations k n ds θ primaries m short).0 standard (shift k c d.0) (relation_shift c d.0 low (basis.elements d.0 d.1)) (subst (LeadBy k blocks (shift k c d.0)) d.4.1 (lead_shift (marked_space k n ds) c d.0 d.2 d.3)),
      λ no. (standard_by_relations k n ds θ primaries m short).1 (λ u relation lead. no (basis.divided u (0, m) relation lead)),
    )

    -- the monomial 1
    pub one_standard : IsStandard k n θ monomials.one
    unfolding coef_at
    one_standard f inside lead =
        let D = variable_one in
        lead.there (sym (select_inside k (passes k n ds θ primaries D) f (0, monomials.one) (refl, (length_one n, refl))) ∙ ap (λ v. coef_at k v (0, monomials.one)) (sym (lift k n ds θ primaries D f inside).2 ∙ ap (mark_value k n θ) empty ∙ substitute_zero k _) ∙ coef_at_zero k (0, monomials.one))
      where
        variable_one : ℕ
        variable_one = weight (replicate n 1) 0 monomials.one.0

        w : Vect k
        w = (lift k n ds θ primaries variable_one f inside).0

        empty : w ≡ zero_vector k
        empty = coef_at_ext k w (zero_vector k) (λ t. supp_outside k (Marked k n ds θ primaries variable_one) w (lift k n ds θ primaries variable_one f inside).1 t (λ q. let less = marked_degree n ds t primaries.positive q.2 q.3 in let is = q.1 in let z : variable_one ≡ 0 = none in omega arith) ∙ sym (coef_at_zero k t))
          where
            none : variable_one ≡ 0
            none = let w = weight_mul (replicate n 1) monomials.one monomials.one in let e = ap (λ (m : Mon). weight (replicate n 1) 0 m.0) (monomials.mul_one monomials.one) in omega arith
