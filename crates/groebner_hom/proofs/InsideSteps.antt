-- The polynomial 1, and the leads of a polynomial by two orders, as the program finds them.
use Rattle.std.proofs.Common.{◌≡◌, ◌∙◌, ℕ, List, [], ◌∷◌, replicate, sym, ap, subst, arith}
use Rattle.alg_core.specs.Keys.{Key, key, KeyDivides}
use Rattle.alg_core.specs.Monomials.{Mon, mono}
use Rattle.alg_core.specs.declared.term.Term.{Term}
use Rattle.alg_core.specs.Spaces.{SpaceOver}
use Rattle.alg_core.specs.SpaceOrder.{key_order}
use Rattle.alg_core.specs.SpaceGrading.{height}
use Rattle.alg_core.specs.Vectors.{Vect}
use Rattle.poly_module.specs.Forms.{form_one, form_homogeneous}
use Rattle.poly_module.specs.Modules.{LeadBy}
use Rattle.poly_module.specs.Parts.{IsPolynomial}
use Rattle.poly_module.specs.Polynomials.{one_vector, single_vector}
use Rattle.poly_module.specs.Products.{one_vector_single}
use Rattle.poly_module.specs.SpaceVectors.{vector_of, IsVectorOf, IsPoly, IsUpTo}
use Rattle.poly_module.proofs.ConstantSteps.{mono_zeros}
use Rattle.poly_module.proofs.ExponentBounds.{vec_scaled}
use Rattle.poly_module.proofs.ModuleElements.{polynomial_one}
use Rattle.poly_module.proofs.PowerSteps.{scale_one}
use Rattle.groebner_hom.specs.Colons.{KeepsLead}

module _ {E : Type 0} (S : SpaceOver E) where
  abbrev Terms : Type 0
  Terms = List (Term E (List ℕ))

  module _ (c : E) (a : List ℕ) (n : ℕ) (made : Terms) (unit : c ≡ S.field.one) (zeros : a ≡ replicate n 0)
      (is : IsVectorOf S (λ m. m) (vector_of S (λ m. m) (record { coef = c; at = record { pos = 0; mono = a } } ∷ [])) made) where
    term_is : vector_of S (λ m. m) (record { coef = c; at = record { pos = 0; mono = a } } ∷ []) ≡ one_vector S.field
    unfolding key
    term_is = vec_scaled S.field ((0, a), c) ∙ scale_one S (λ (m : List ℕ). m) c unit _ ∙ ap (λ (l : List ℕ). single_vector S.field (0, mono l)) zeros
        ∙ ap (λ (p : ℕ × Mon). single_vector S.field (0, p.1)) (mono_zeros n) ∙ sym (one_vector_single S.field)

    pub one_poly : IsPoly S (λ m. m) made
    one_poly = record { fits = is.fits; position = is.position (subst (IsPolynomial S.field) (sym term_is) (polynomial_one S.field)) }

    pub one_is : vector_of S (λ m. m) made ≡ one_vector S.field
    one_is = is.is ∙ term_is

  -- it has the degree 0
  pub one_small : height S.shifts 0 ≡ 0 → (d : ℕ) (v : Vect S.field) → v ≡ one_vector S.field → IsUpTo S d v
  one_small shift d v e = subst (IsUpTo S d) (sym e) (λ t c. let z = form_homogeneous S shift 0 (one_vector S.field) (form_one S.field S.weights) t c in omega arith)

pub leads_kept : {E : Type 0} (S T : SpaceOver E) (p seen pair : List (Term E (List ℕ))) (own other : Key) → seen ≡ p → IsVectorOf T (λ m. m) (vector_of T (λ m. m) seen) pair
    → LeadBy S.field (key_order S) (vector_of S (λ m. m) p) own → LeadBy T.field (key_order T) (vector_of T (λ m. m) pair) other → KeyDivides other own → KeepsLead S T p
leads_kept S T p seen pair own other same is mine theirs divides = record {
  own = own;
  other = other;
  own_lead = mine;
  other_lead = subst (λ v. LeadBy T.field (key_order T) v other) (is.is ∙ ap (vector_of T (λ m. m)) same) theirs;
  divides = divides;
}
