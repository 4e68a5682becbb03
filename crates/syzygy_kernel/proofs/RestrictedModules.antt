-- A module over the polynomials in the first n variables that has the parts of its elements: its reduced basis is that of the module
-- over all polynomials that its homogeneous elements generate.
use Rattle.std.proofs.Common.{◌≡◌, ◌∙◌, ℕ, zero, suc, List, refl, sym, ap, subst, inl, inr}
use Rattle.alg_core.specs.Fields.{FieldOn, scalars, is_field}
use Rattle.alg_core.specs.Keys.{Key, key_same, times_key, KeyDivides}
use Rattle.alg_core.specs.KeyOrders.{OrderOn}
use Rattle.alg_core.specs.Leads.{HasLead, has_lead, lead_unique}
use Rattle.alg_core.specs.Lists.{In}
use Rattle.alg_core.specs.MonomialParts.{mark_part, as_marks}
use Rattle.alg_core.specs.Monomials.{Mon}
use Rattle.alg_core.specs.SpaceGrading.{degree}
use Rattle.alg_core.specs.SpaceOrder.{key_order}
use Rattle.alg_core.specs.Spaces.{SpaceOver}
use Rattle.alg_core.specs.Vectors.{Vect, coef_at, plus, zero_vector, shift}
use Rattle.alg_core.proofs.VectorLaws.{shift_zero_vector}
use Rattle.poly_module.specs.Degrees.{IsHomogeneous, part, parts_below, parts_sum, grade_bound, graded_part_graded}
use Rattle.poly_module.specs.Modules.{InModule, LeadBy, listed}
use Rattle.poly_module.specs.Parts.{IsPolynomial, InVariables, select, supp_select}
use Rattle.poly_module.specs.Polynomials.{product}
use Rattle.poly_module.specs.ReducedLists.{IsReducedBasis, IsReducedBasisOf}
use Rattle.poly_module.proofs.LeadLaws.{lead_shift}
use Rattle.poly_module.proofs.ModuleElements.{module_zero, module_plus, module_product, module_member, module_ind}
use Rattle.poly_module.proofs.Reduced.{divides_trans}
use Rattle.module_groebner.proofs.CompletionEnds.{lead_not_zero}
use Rattle.syzygy_kernel.proofs.Selections.{rest_test, module_rest, select_lead}
use Rattle.syzygy_kernel.proofs.Stripped.{stripped, stripped_zero, stripped_plus, stripped_product, stripped_same, stripped_polynomial, stripped_variables, stripped_back}

module _ {E : Type 0} (S : SpaceOver E) (n : ℕ) (U : Vect S.field → Type 0) where
  abbrev k : FieldOn E
  k = S.field

  abbrev o : OrderOn Key
  o = key_order S

  pub record IsRestricted : Type 0 where
    pub variables : (v : Vect S.field) → U v → InVariables S.field n v
    pub zero : U (zero_vector S.field)
    pub plus : (u v : Vect S.field) → U u → U v → U (plus S.field u v)
    pub product : (f v : Vect S.field) → IsPolynomial S.field f → InVariables S.field n f → U v → U (product S.field f v)
    pub part : (e : ℕ) (v : Vect S.field) → U v → U (part S e v)

  -- the homogeneous elements
  pub record Element : Type 0 where
    pub vector : Vect S.field
    pub degree : ℕ
    pub inside : U vector
    pub homogeneous : IsHomogeneous S degree vector

  abbrev pub element : Element → Vect S.field
  element x = x.vector

  module _ (R : IsRestricted) where
    -- each element is a sum of these
    pub element_sum : (v : Vect S.field) → U v → InModule S.field element v
    element_sum v u = let b = grade_bound k (degree S) o v in subst (InModule k element) (parts_sum k (degree S) b.0 v b.1) (below b.0)
      where
        below : (m : ℕ) → InModule k element (parts_below k (degree S) m v)
        below zero = module_zero k element
        below (suc m) = module_plus k element _ _ (below m)
            (module_member k element (record { vector = part S m v; degree = m; inside = R.part m v u; homogeneous = graded_part_graded k (degree S) m v }))

    pub stripped_inside : (v : Vect S.field) → InModule S.field element v → U (stripped S.field n v)
    stripped_inside = module_ind k element (λ v. U (stripped k n v)) (subst U (sym (stripped_zero k n)) R.zero)
        (λ f v i p a. subst U (sym (stripped_plus k n _ v ∙ ap (λ x. plus k x (stripped k n v)) (stripped_product k n f i.vector ∙ ap (product k (stripped k n f)) (stripped_same k n i.vector (R.variables i.vector i.inside)))))
        (R.plus _ _ (R.product (stripped k n f) i.vector (stripped_polynomial k n f p) (stripped_variables k n f) i.inside) a))

    pub restricted_inside : (v : Vect S.field) → InModule S.field element v → InVariables S.field n v → U v
    restricted_inside v a h = subst U (stripped_same k n v h) (stripped_inside v a)

    module _ (ws : List (Vect S.field)) (basis : IsReducedBasisOf S U ws) where
      abbrev Covered : Key → Type 0
      Covered t = (w : Vect S.field) × (s : Key) × In w ws × LeadBy S.field (key_order S) w s × KeyDivides s t

      covers : (v : Vect S.field) (t : Key) → InModule S.field element v → LeadBy S.field (key_order S) v t → Covered t
      unfolding zero_vector coef_at
      covers v t inside lead = go (has_lead (scalars k) (is_field k) key_same o rest)
        where
          u : Mon
          u = mark_part n t.1

          chosen : Vect k
          chosen = select k (rest_test k n u) v

          rest : Vect k
          rest = stripped k n chosen

          back : shift k (as_marks n u) rest ≡ chosen
          back = stripped_back k n u chosen (supp_select k (rest_test k n u) v)

          chosen_lead : LeadBy k o chosen t
          chosen_lead = select_lead k (rest_test k n u) o v t lead refl

          rest_inside : U rest
          rest_inside = stripped_inside chosen (module_rest k n u element (λ i. R.variables i.vector i.inside) v inside)

          go : HasLead (scalars k) (is_field k) key_same o rest → Covered t
          go (inl z) = absurd (lead_not_zero S chosen t chosen_lead (sym back ∙ ap (shift k (as_marks n u)) z ∙ shift_zero_vector k (as_marks n u)))
          go (inr l) =
              let e = lead_unique (scalars k) (is_field k) key_same o chosen (times_key (as_marks n u) l.0) t
              (subst (λ x. LeadBy k o x (times_key (as_marks n u) l.0)) back (lead_shift S (as_marks n u) rest l.0 l.1)) chosen_lead in
              let c = basis.reduced.covers rest l.0 rest_inside l.1 in
              (c.0, c.1, c.2, c.3, divides_trans S element c.1 l.0 t c.4 (as_marks n u, e))

      generates : (v : Vect S.field) → InModule S.field element v → InModule S.field (listed S.field ws) v
      generates = module_ind k element (InModule k (listed k ws)) (module_zero k (listed k ws))
          (λ f v i p a. module_plus k (listed k ws) _ v (module_product k (listed k ws) f i.vector p (basis.generates i.vector i.inside)) a)

      -- the reduced basis of the restricted module
      pub reduced_restricted : IsReducedBasis S element ws
      reduced_restricted = record {
        reduced = record {
          inside = λ w i. element_sum w (basis.reduced.inside w i);
          lead = basis.reduced.lead;
          monic = basis.reduced.monic;
          covers = covers;
          apart = basis.reduced.apart;
          falling = basis.reduced.falling;
        };
        generates = generates;
      }
