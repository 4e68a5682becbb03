-- The homogeneous forms of powers of the variables have the degrees of the powers.
use Rattle.std.proofs.Common.{◌≡◌, ◌∙◌, ◌+◌, ◌<◌, ℕ, suc, List, [], ◌∷◌, ◌++◌, length, replicate, refl, sym, ap, subst}
use Rattle.std.proofs.lemmas.List.{append-nil}
use Rattle.alg_core.specs.BlockOrder.{length_ones}
use Rattle.alg_core.specs.CanonicalLists.{indicator_yes}
use Rattle.alg_core.specs.Fields.{FieldOn, scalars, is_field}
use Rattle.alg_core.specs.Keys.{Key, key_same}
use Rattle.alg_core.specs.Monomials.{mono}
use Rattle.alg_core.specs.SpaceGrading.{weight}
use Rattle.alg_core.specs.Vectors.{Vect, coef_at}
use Rattle.poly_module.specs.MonomialVariables.{after_zeros}
use Rattle.poly_module.specs.Parts.{InVariables, coef_at_single}
use Rattle.poly_module.specs.Forms.{IsForm, AreForms}
use Rattle.poly_module.specs.Combinations.{mark_value}
use Rattle.poly_module.proofs.MarkValues.{mark_value_form}
use Rattle.finite_certificate.specs.Ideals.{variable_power}
use Rattle.finite_certificate.proofs.VariablePowers.{power_single}
use Rattle.finite_certificate.proofs.MarkDegrees.{power_degree}

module _ {E : Type 0} (k : FieldOn E) where
  pub forms_count : (ws ds : List ℕ) (fs : List (Vect k)) → AreForms k ws ds fs → length fs ≡ length ds
  forms_count ws [] [] h = refl
  forms_count ws [] (f ∷ fs) h = absurd h
  forms_count ws (d ∷ ds) [] h = absurd h
  forms_count ws (d ∷ ds) (f ∷ fs) h = ap suc (forms_count ws ds fs h.1)

  module _ (n : ℕ) (ds : List ℕ) (θ : List (Vect k)) (primaries : AreForms k (replicate n 1) ds θ) where
    -- the value of a form
    pub value_form : (d : ℕ) (u : Vect k) → IsForm k (replicate n 1 ++ ds) d u → InVariables k (n + length θ) u → IsForm k (replicate n 1) d (mark_value k n θ u)
    value_form d u form vars =
        subst (λ (m : ℕ). IsForm k (replicate n 1) d (mark_value k m θ u)) (length_ones n)
        (mark_value_form k (replicate n 1) ds θ primaries d u (λ t c. (form t c).1) (subst (λ (m : ℕ). InVariables k (m + length θ) u) (sym (length_ones n)) vars))

    power_there : (i e : ℕ) → ¬ (coef_at k (variable_power k i e) (0, mono (after_zeros i (e ∷ []))) ≡ (scalars k).zero)
    power_there i e z =
        let t : Key = (0, mono (after_zeros i (e ∷ []))) in
        (is_field k).one_not_zero (sym (ap (λ v. coef_at k v t) (power_single k i e) ∙ coef_at_single k t t ∙ indicator_yes (scalars k) (key_same t t) refl) ∙ z)

    pub ones_degree : (i e : ℕ) → i < n → weight (replicate n 1) 0 (mono (after_zeros i (e ∷ []))).0 ≡ e
    ones_degree i e h = ap (λ ws. weight ws 0 (mono (after_zeros i (e ∷ []))).0) (sym (append-nil (replicate n 1))) ∙ power_degree n i e [] h

    pub power_form_degree : (i e d : ℕ) (u : Vect k) → i < n → IsForm k (replicate n 1 ++ ds) d u → InVariables k (n + length θ) u → mark_value k n θ u ≡ variable_power k i e → d ≡ e
    power_form_degree i e d u h form vars is =
        let there = subst (IsForm k (replicate n 1) d) is (value_form d u form vars) (0, mono (after_zeros i (e ∷ []))) (power_there i e) in
        sym there.1 ∙ ones_degree i e h
