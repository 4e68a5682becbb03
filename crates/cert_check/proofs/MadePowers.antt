-- The coordinates of a power of a variable that lies in the ideal of the primary invariants: each term has a mark.
use Rattle.std.proofs.Common.{◌≡◌, ◌∙◌, ℕ, ◌<◌, ◌≤◌, List, [], ◌∷◌, length, sym, ap, subst, inl, inr, arith}
use Rattle.alg_core.specs.Fields.{FieldOn, scalars, is_field}
use Rattle.alg_core.specs.KeyOrders.{OrderOn}
use Rattle.alg_core.specs.Keys.{Key, key_same}
use Rattle.alg_core.specs.Leads.{HasLead, has_lead}
use Rattle.alg_core.specs.Monomials.{mono}
use Rattle.alg_core.specs.PolynomialSpaces.{plain_space}
use Rattle.alg_core.specs.SpaceOrder.{key_order}
use Rattle.alg_core.specs.Vectors.{Vect, zero_vector, plus, coef_at}
use Rattle.alg_core.proofs.MonomialParts.{variable_part_same}
use Rattle.alg_core.proofs.VectorLaws.{coef_at_zero}
use Rattle.poly_module.specs.Marks.{relations}
use Rattle.poly_module.specs.Modules.{LeadBy, listed}
use Rattle.poly_module.specs.MonomialVariables.{after_zeros}
use Rattle.poly_module.specs.Parts.{Supp, InVariables, supp_single, supp_select, select_all, select_inside, select_plus}
use Rattle.poly_module.specs.Signs.{minus}
use Rattle.poly_module.proofs.ModuleElements.{module_plus}
use Rattle.poly_module.proofs.RelationIdeals.{less_value}
use Rattle.poly_module.proofs.SpaceVectorLaws.{minus_plus}
use Rattle.finite_certificate.specs.Finiteness.{IsPower}
use Rattle.finite_certificate.specs.Ideals.{InIdeal, variable_power}
use Rattle.finite_certificate.specs.MarkSpaces.{HasMark, ArePositiveForms}
use Rattle.finite_certificate.specs.StandardMonomials.{IsStandard, IsCoordinates}
use Rattle.finite_certificate.proofs.MarkDegrees.{power_length}
use Rattle.finite_certificate.proofs.VariablePowers.{power_single}
use Rattle.groebner_hom.proofs.UnmarkedParts.{in_variables, unmarked, each_member, unmarked_inside}

module _ {E : Type 0} (k : FieldOn E) (n : ℕ) (ds : List ℕ) (θ : List (Vect k)) (primaries : ArePositiveForms k n ds θ) (i e : ℕ) (within : i < n)
    (inside : InIdeal k θ (variable_power k i e)) (u : Vect k) (coordinates : IsCoordinates k n θ (variable_power k i e) u) where
  abbrev plain : OrderOn Key
  plain = key_order (plain_space k n)

  power_short : InVariables k n (variable_power k i e)
  power_short = subst (InVariables k n) (sym (power_single k i e)) (supp_single k (λ t. length t.1.0 ≤ n) (0, mono (after_zeros i (e ∷ []))) (power_length n i e within))

  relation : InIdeal k (relations k n θ) (minus k u (variable_power k i e))
  relation = subst (λ p. InIdeal k (relations k n θ) (minus k u p)) coordinates.value (less_value k n θ (each_member k n ds θ primaries) plain u coordinates.mixed)

  unmarked_sum : plus k (unmarked k n (minus k u (variable_power k i e))) (variable_power k i e) ≡ unmarked k n u
  unmarked_sum = ap (plus k (unmarked k n (minus k u (variable_power k i e)))) (sym (select_all k (in_variables k n) (variable_power k i e) power_short))
      ∙ sym (select_plus k (in_variables k n) (minus k u (variable_power k i e)) (variable_power k i e)) ∙ ap (unmarked k n) (minus_plus k u (variable_power k i e))

  unmarked_in : InIdeal k θ (unmarked k n u)
  unmarked_in = subst (InIdeal k θ) unmarked_sum (module_plus k (listed k θ) _ _ (unmarked_inside k n ds θ primaries _ relation) inside)

  no_lead : (t : Key) → LeadBy k plain (unmarked k n u) t → ⊥
  unfolding coef_at
  no_lead t l =
      let short = supp_select k (in_variables k n) u t l.there in
      let c : ¬ (coef_at k u t ≡ (scalars k).zero) = λ z. l.there (select_inside k (in_variables k n) u t short ∙ z) in
      let first = coordinates.mixed.polynomial t c in
      let s = subst (IsStandard k n θ) (variable_part_same n t.1 short) (coordinates.standard t c) in
      s (unmarked k n u) unmarked_in (subst (LeadBy k plain (unmarked k n u)) (ap (λ (x : ℕ). (x, t.1)) first) l)

  all_marked : unmarked k n u ≡ zero_vector k → Supp k (HasMark n) u
  all_marked none t c = at (in_variables k n t)
    where
      at : Dec (length t.1.0 ≤ n) → HasMark n t
      at (yes short) = absurd (c (sym (select_inside k (in_variables k n) u t short) ∙ ap (λ v. coef_at k v t) none ∙ coef_at_zero k t))
      at (no long) = omega arith

  -- such a power with its coordinates
  pub coordinates_power : IsPower k n θ i (e, u)
  unfolding zero_vector
  coordinates_power = record { mixed = coordinates.mixed; marks = go (has_lead (scalars k) (is_field k) key_same plain (unmarked k n u)); value = coordinates.value }
    where
      go : HasLead (scalars k) (is_field k) key_same plain (unmarked k n u) → Supp k (HasMark n) u
      go (inl none) = all_marked none
      go (inr l) = absurd (no_lead l.0 l.1)
