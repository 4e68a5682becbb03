-- A power of a variable that is the value of a form with a mark in each term lies in the ideal of the forms of the marks.
use Rattle.std.proofs.Common.{◌≡◌, ◌∙◌, ℕ, ◌<◌, ◌≤◌, List, [], ◌∷◌, length, sym, ap, subst, arith}
use Rattle.alg_core.specs.Fields.{FieldOn, scalars}
use Rattle.alg_core.specs.ModuleLaws as modules
use Rattle.alg_core.specs.Monomials.{mono}
use Rattle.alg_core.specs.PolynomialSpaces.{plain_space}
use Rattle.alg_core.specs.SpaceOrder.{key_order}
use Rattle.alg_core.specs.Vectors.{Vect, vectors, zero_vector, plus}
use Rattle.alg_core.proofs.VectorLaws.{plus_comm}
use Rattle.poly_module.specs.Marks.{relations}
use Rattle.poly_module.specs.Modules.{listed}
use Rattle.poly_module.specs.MonomialVariables.{after_zeros}
use Rattle.poly_module.specs.Parts.{InVariables, supp_single, select_all, select_none, select_plus}
use Rattle.poly_module.specs.Signs.{minus}
use Rattle.poly_module.proofs.ModuleElements.{module_zero, module_plus, module_act}
use Rattle.poly_module.proofs.RelationIdeals.{less_value}
use Rattle.poly_module.proofs.SpaceVectorLaws.{minus_plus, minus_unique}
use Rattle.finite_certificate.specs.Finiteness.{IsPower, FiniteBy}
use Rattle.finite_certificate.specs.Ideals.{InIdeal, Ended, variable_power}
use Rattle.finite_certificate.specs.MarkSpaces.{HasMark, ArePositiveForms}
use Rattle.finite_certificate.proofs.MarkDegrees.{power_length}
use Rattle.finite_certificate.proofs.VariablePowers.{power_single}
use Rattle.groebner_hom.proofs.UnmarkedParts.{in_variables, unmarked, each_member, unmarked_inside}

module _ {E : Type 0} (k : FieldOn E) (n : ℕ) (ds : List ℕ) (θ : List (Vect k)) (primaries : ArePositiveForms k n ds θ) where
  module _ (i : ℕ) (within : i < n) (p : ℕ × Vect k) (power : IsPower k n θ i p) where
    abbrev x : Vect k
    x = variable_power k i p.0

    short : InVariables k n (variable_power k i p.0)
    short = subst (InVariables k n) (sym (power_single k i p.0)) (supp_single k (λ t. length t.1.0 ≤ n) (0, mono (after_zeros i (p.0 ∷ []))) (power_length n i p.0 within))

    relation : InIdeal k (relations k n θ) (minus k p.1 (variable_power k i p.0))
    relation = subst (λ v. InIdeal k (relations k n θ) (minus k p.1 v)) power.value (less_value k n θ (each_member k n ds θ primaries) (key_order (plain_space k n)) p.1 power.mixed)

    none : unmarked k n p.1 ≡ zero_vector k
    none = select_none k (in_variables k n) (HasMark n) (λ t mark low. omega (arith, mark, low)) p.1 power.marks

    -- its part without marks is the power less 0
    part : plus k (unmarked k n (minus k p.1 (variable_power k i p.0))) (variable_power k i p.0) ≡ zero_vector k
    part = ap (plus k (unmarked k n (minus k p.1 x))) (sym (select_all k (in_variables k n) x short))
        ∙ sym (select_plus k (in_variables k n) (minus k p.1 x) x) ∙ ap (unmarked k n) (minus_plus k p.1 x) ∙ none

    opposite : (v : Vect k) → InIdeal k θ v → InIdeal k θ (minus k (zero_vector k) v)
    unfolding minus
    opposite v h = module_plus k (listed k θ) (zero_vector k) _ (module_zero k (listed k θ))
        (subst (InIdeal k θ) (sym (modules.minus_is (vectors k) v)) (module_act k (listed k θ) ((scalars k).neg (scalars k).one) v h))

    pub power_inside : InIdeal k θ (variable_power k i p.0)
    power_inside =
        let u = unmarked k n (minus k p.1 x) in
        subst (InIdeal k θ) (sym (minus_unique k x (zero_vector k) u (plus_comm k x u ∙ part))) (opposite u (unmarked_inside k n ds θ primaries (minus k p.1 x) relation))

  pub powers_end : (ps : List (ℕ × Vect k)) → FiniteBy k n θ ps → Ended k n θ
  powers_end ps h i within = (_, power_inside i within _ (h.powers i within))
