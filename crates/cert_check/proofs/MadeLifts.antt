-- The members of the reduced basis of the ideal of the relations are relations other than 0, and homogeneous.
use Rattle.std.proofs.Common.{◌≡◌, ◌∙◌, ℕ, suc, ◌+◌, ◌<◌, ◌≤◌, List, [], ◌∷◌, ◌++◌, length, replicate, get_or, refl, sym, ap, subst, inl, inr, arith}
use Rattle.std.specs.Prelude.{◌==◌, true}
use Rattle.std.proofs.lemmas.List.{length-append}
use Rattle.alg_core.specs.BlockOrder.{length_ones}
use Rattle.alg_core.specs.Fields.{FieldOn}
use Rattle.alg_core.specs.Keys.{Key}
use Rattle.alg_core.specs.Lists.{In}
use Rattle.alg_core.specs.PolynomialSpaces.{marked_space}
use Rattle.alg_core.specs.SpaceGrading.{degree, height}
use Rattle.alg_core.specs.Spaces.{SpaceOver}
use Rattle.alg_core.specs.Vectors.{Vect, zero_vector}
use Rattle.alg_core.proofs.PolynomialSpaces.{marked_positive}
use Rattle.poly_module.specs.Combinations.{mark_value}
use Rattle.poly_module.specs.Degrees.{IsHomogeneous}
use Rattle.poly_module.specs.Forms.{OfDegree, IsForm, AreForms, form_homogeneous, homogeneous_form}
use Rattle.poly_module.specs.Marks.{relations, relations_from}
use Rattle.poly_module.specs.MonomialVariables.{variable}
use Rattle.poly_module.specs.Parts.{IsPolynomial, InVariables, supp_single}
use Rattle.poly_module.specs.ReducedLists.{FitsOrder}
use Rattle.poly_module.specs.SpaceVectors.{IsPositive}
use Rattle.poly_module.specs.Substitutions.{variable_vector}
use Rattle.poly_module.proofs.RelationIdeals.{ideal_value}
use Rattle.poly_module.proofs.SpaceVectorLaws.{supp_minus}
use Rattle.module_groebner.specs.HomogeneousLists.{AreHomogeneous}
use Rattle.module_groebner.proofs.Families.{all_in, in_all}
use Rattle.module_groebner.proofs.ListLaws.{basis_homogeneous}
use Rattle.finite_certificate.specs.Ideals.{InIdeal}
use Rattle.finite_certificate.specs.MarkSpaces.{IsMarkSpace, ArePositiveForms}
use Rattle.finite_certificate.proofs.ModuleTerms.{weight_variables, weight_of_mark}
use Rattle.groebner_hom.specs.Lifts.{AreLifts}
use Rattle.groebner_hom.proofs.MarkedValues.{form_plain}
use Rattle.groebner_hom.proofs.PolynomialLists.{members_nonzero}
use Rattle.cert_check.specs.Conditions.{IsNonzeroForm}

equal_test : (m n : ℕ) → m ≡ n → (m == n) ≡ true
equal_test m n e = grind arith

module _ (k : FieldOn ℕ) (n : ℕ) (ds : List ℕ) where
  abbrev S : SpaceOver ℕ
  S = marked_space k n ds

  pub is_mark_space : IsMarkSpace (marked_space k n ds) n ds
  unfolding height
  is_mark_space = record { order = refl; weights = refl; position = omega arith; shift = refl }

  pub all_fit : (t : Key) → FitsOrder (marked_space k n ds) t
  all_fit t = equal_test (length (replicate n 1 ++ ds)) (n + length ds) (length-append (replicate n 1) ds ∙ ap (λ m. m + length ds) (length_ones n))

  module _ (θ : List (Vect k)) (primaries : ArePositiveForms k n ds θ) where
    mark_homogeneous : (j : ℕ) → j < length ds → IsHomogeneous S (get_or ds j 0) (variable_vector k (n + j))
    unfolding variable_vector height
    mark_homogeneous j h = form_homogeneous S refl (get_or ds j 0) _ (supp_single k (OfDegree k (replicate n 1 ++ ds) (get_or ds j 0)) (0, variable (n + j)) (refl, weight_of_mark n ds j h))

    plain_homogeneous : (d : ℕ) (f : Vect k) → IsForm k (replicate n 1) d f → InVariables k n f → IsHomogeneous S d f
    unfolding height
    plain_homogeneous d f h v = form_homogeneous S refl d f (λ t c. ((h t c).0, weight_variables n ds 0 t.1.0 (v t c) ∙ (h t c).1))

    relations_homogeneous : (j : ℕ) (es : List ℕ) (fs : List (Vect k)) → ((i : ℕ) → i < length es → get_or ds (j + i) 0 ≡ get_or es i 0) → j + length es ≤ length ds
        → AreForms k (replicate n 1) es fs → ((f : Vect k) → In f fs → InVariables k n f) → (v : Vect k) → In v (relations_from k n j fs) → (d : ℕ) × IsHomogeneous S d v
    relations_homogeneous j [] [] same low h short v i = absurd i
    relations_homogeneous j [] (f ∷ fs) same low h short v i = absurd h
    relations_homogeneous j (d ∷ es) [] same low h short v i = absurd i
    relations_homogeneous j (d ∷ es) (f ∷ fs) same low h short v (inl e) =
        let z : j + 0 ≡ j = omega arith in
        let at : get_or ds j 0 ≡ d = sym (ap (λ x. get_or ds x 0) z) ∙ same 0 (omega arith) in (
          d,
          subst (IsHomogeneous S d) e (supp_minus k (λ t. degree S t ≡ d) f (variable_vector k (n + j)) (plain_homogeneous d f h.0 (short f (inl refl)))
              (subst (λ x. IsHomogeneous S x (variable_vector k (n + j))) at (mark_homogeneous j (omega arith)))),
        )
    relations_homogeneous j (d ∷ es) (f ∷ fs) same low h short v (inr i) =
        relations_homogeneous (suc j) es fs (λ x l. let e : suc j + x ≡ j + suc x = omega arith in ap (λ y. get_or ds y 0) e ∙ same (suc x) (omega arith)) (omega arith) h.1 (λ g p. short g (inr p)) v i

    all_homogeneous : AreHomogeneous (marked_space k n ds) (relations k n θ)
    all_homogeneous = in_all (λ v. (d : ℕ) × IsHomogeneous S d v) (relations k n θ)
        (relations_homogeneous 0 ds θ (λ i l. let e : 0 + i ≡ i = omega arith in ap (λ x. get_or ds x 0) e) (omega arith) primaries.forms (λ f i. all_in (InVariables k n) θ primaries.variables f i))

    pub marks_positive : IsPositive (marked_space k n ds)
    marks_positive = let p = marked_positive k n ds primaries.positive in record { order = p.0; weights = p.1 }

    module _ (vs : List (Vect k)) (lifts : AreLifts (marked_space k n ds) n θ vs) (v : Vect k) (inside : In v vs) (polynomial : IsPolynomial k v) where
      pub lift_form : IsNonzeroForm k (replicate n 1 ++ ds) v
      unfolding height
      lift_form =
          let l = lifts.reduced.lead v inside in
          let h = basis_homogeneous S marks_positive (relations k n θ) vs all_homogeneous (λ w i t c. all_fit t) lifts v l.0 inside l.1 in
          record {
            not_zero = all_in (λ w. ¬ (w ≡ zero_vector k)) vs (members_nonzero S (InIdeal k (relations k n θ)) vs lifts) v inside;
            degree = degree S l.0;
            form = homogeneous_form S refl (degree S l.0) v polynomial h;
          }

      pub lift_value : mark_value k n θ v ≡ zero_vector k
      lift_value = ideal_value k n θ (form_plain k n ds θ primaries) v (lifts.reduced.inside v inside)
