-- The leads of the reduced basis of the ideal of the relations: over a regular sequence none has a mark; powers are among them.
use Rattle.std.proofs.Common.{◌≡◌, ◌∙◌, ◌⊎◌, ◌+◌, ◌≤◌, ℕ, List, [], ◌∷◌, length, replicate, sym, ap, ap₂, subst, inl, inr, Result, Ok, Err, arith}
use Rattle.std.specs.Global.{Vec}
use Rattle.std.specs.Prelude.{IfOk}
use Rattle.std.proofs.lemmas.List.{length-append}
use Rattle.alg_core.specs.BlockOrder.{length_ones}
use Rattle.alg_core.specs.Fields.{FieldOn, scalars, is_field}
use Rattle.alg_core.specs.KeyOrders.{OrderOn}
use Rattle.alg_core.specs.Keys.{Key, key, key_same, KeyDivides}
use Rattle.alg_core.specs.Leads.{lead_unique}
use Rattle.alg_core.specs.Lists.{In}
use Rattle.alg_core.specs.MonomialParts.{variable_part}
use Rattle.alg_core.specs.Monomials.{Mon, monomials, mono, mono_mon, exponent, exponent_mono, exponent_mul}
use Rattle.alg_core.specs.PolynomialSpaces.{plain_space, marked_space}
use Rattle.alg_core.specs.SpaceGrading.{degree}
use Rattle.alg_core.specs.SpaceOrder.{key_order}
use Rattle.alg_core.specs.Spaces.{SpaceOver, entries}
use Rattle.alg_core.specs.Vectors.{Vect, coef_at}
use Rattle.alg_core.specs.declared.term.Term.{Term}
use Rattle.alg_core.proofs.Members.{from_map}
use Rattle.alg_core.proofs.MonomialParts.{length_variable_part}
use Rattle.alg_core.proofs.PolynomialSpaces.{plain_positive}
use Rattle.poly_module.specs.Marks.{IsRelation, relations}
use Rattle.poly_module.specs.Modules.{LeadBy}
use Rattle.poly_module.specs.MonomialVariables.{after_zeros}
use Rattle.poly_module.specs.Parts.{IsPolynomial, InVariables, supp_zero}
use Rattle.poly_module.specs.SpaceVectors.{IsVector, vector_of, vectors_of}
use Rattle.poly_module.proofs.FittingKeys.{vec_in_variables}
use Rattle.poly_module.proofs.RelationIdeals.{relations_exact}
use Rattle.module_groebner.proofs.Families.{all_in}
use Rattle.module_groebner.proofs.Remainders.{single_lead}
use Rattle.finite_certificate.specs.Ideals.{InIdeal, Regular, Ended, variable_power}
use Rattle.finite_certificate.specs.MarkSpaces.{IsMarkSpace, ArePositiveForms}
use Rattle.finite_certificate.specs.StandardMonomials.{IsStandard}
use Rattle.finite_certificate.proofs.Coordinates.{standard_decided}
use Rattle.finite_certificate.proofs.MarkDegrees.{power_length}
use Rattle.finite_certificate.proofs.PowerForms.{forms_count}
use Rattle.finite_certificate.proofs.RelationLeads.{lead_lifts}
use Rattle.finite_certificate.proofs.VariablePowers.{power_single}
use Rattle.groebner_hom.specs.IdealBases.{AreHomogeneousPolys}
use Rattle.groebner_hom.specs.Lifts.{AreLifts, LeadsWithoutMarks, HavePowers}
use Rattle.groebner_hom.proofs.IdealsAbove.{divides_trans, divisor_length, part_divides}
use Rattle.groebner_hom.proofs.LeadsOfRelations.{lead_not_standard}
use Rattle.groebner_hom.proofs.MarkedKeys.{exponent_elsewhere}
use Rattle.groebner_hom.proofs.MarkedValues.{form_plain}
use Rattle.groebner_hom.proofs.PolynomialLists.{are_vectors, are_polynomials}

module _ {E : Type 0} (S : SpaceOver E) (n : ℕ) (ds : List ℕ) (θ : List (Vect S.field)) (space : IsMarkSpace S n ds) (primaries : ArePositiveForms S.field n ds θ) where
  abbrev k : FieldOn E
  k = S.field

  abbrev o : OrderOn Key
  o = key_order S

  abbrev blocks : OrderOn Key
  blocks = key_order (marked_space S.field n ds)

  -- the order of the space
  pub same_orders : key_order S ≡ key_order (marked_space S.field n ds)
  same_orders = ap₂ (λ ws p. key_order (record { field = S.field; order = p; weights = ws; shifts = 0 ∷ [] })) space.weights space.order

  pub weights_count : length S.weights ≡ n + length θ
  weights_count =
      let c = forms_count S.field (replicate n 1) ds θ primaries.forms in
      ap length space.weights ∙ length-append (replicate n 1) ds ∙ ap₂ ◌+◌ (length_ones n) (sym c)

  -- elements of the ideal in the variables and marks
  pub element_relation : (v : Vect S.field) → IsPolynomial S.field v → InVariables S.field (n + length θ) v → InIdeal S.field (relations S.field n θ) v → IsRelation S.field n θ v
  element_relation v p h inside = (relations_exact k n θ (form_plain k n ds θ primaries) o v).1 (record { polynomial = p; variables = h }, inside)

  pub relation_element : (v : Vect S.field) → IsRelation S.field n θ v → InIdeal S.field (relations S.field n θ) v
  relation_element v h = ((relations_exact k n θ (form_plain k n ds θ primaries) o v).0 h).1

  -- a lead of the ideal of the forms is one of the ideal of the relations
  lifted : (m : Mon) → length m.0 ≤ n → (f : Vect S.field) → InIdeal S.field θ f → LeadBy S.field (key_order (plain_space S.field n)) f (0, m)
      → (u : Vect S.field) × InIdeal S.field (relations S.field n θ) u × LeadBy S.field (key_order S) u (0, m)
  lifted m short f inside lead = let l = lead_lifts k n ds θ primaries m short f inside lead in (l.0, relation_element l.0 l.1, subst (λ p. LeadBy k p l.0 (0, m)) (sym same_orders) l.2)

  module _ (vs : List (Vect S.field)) (lifts : AreLifts S n θ vs) where
    module _ (regular : Regular S.field θ) (polynomial : (v : Vect S.field) → In v vs → IsPolynomial S.field v) (within : (v : Vect S.field) → In v vs → InVariables S.field (length S.weights) v) where
      -- no lead has a mark
      pub leads_unmarked : LeadsWithoutMarks S n vs
      unfolding coef_at
      leads_unmarked v t i lead mark = at (standard_decided k n ds θ primaries m (length_variable_part n t.1))
        where
          m : Mon
          m = variable_part n t.1

          relation : IsRelation k n θ v
          relation = element_relation v (polynomial v i) (λ s c. let l = within v i s c in let w = weights_count in omega arith) (lifts.reduced.inside v i)

          at : IsStandard k n θ m ⊎ ((f : Vect k) × InIdeal k θ f × LeadBy k (key_order (plain_space k n)) f (0, m)) → ⊥
          at (inl std) = lead_not_standard k n ds θ primaries regular v t relation (subst (λ p. LeadBy k p v t) same_orders lead) std
          at (inr f) =
              let u = lifted m (length_variable_part n t.1) f.0 f.1 f.2 in
              let c = lifts.reduced.covers u.0 (0, m) u.1 u.2 in
              let s = c.1 in
              let divides = divides_trans s (0, m) t c.4 (part_divides n t (polynomial v i t lead.there)) in
              let one : c.0 ≡ v = lifts.reduced.apart v c.0 s t i c.2 c.3 lead.there divides in
              let same : s ≡ t = lead_unique (scalars k) (is_field k) key_same o v s t (subst (λ x. LeadBy k o x s) one c.3) lead in
              let short = divisor_length n s m (length_variable_part n t.1) c.4 in
              let long : length s.1.0 ≡ length t.1.0 = ap (λ (r : Key). length r.1.0) same in
              omega arith

    -- a power of each variable is among the leads, where it has one in the ideal
    pub have_powers : Ended S.field n θ → HavePowers S n vs
    unfolding key
    have_powers ended i h = record { member = c.0; inside = c.2; exponents = c.1.1.0; lead = subst (LeadBy k o c.0) same c.3; power = power }
      where
        e : ℕ
        e = (ended i h).0

        m : Mon
        m = mono (after_zeros i (e ∷ []))

        lead : LeadBy k (key_order (plain_space k n)) (variable_power k i e) (0, m)
        lead = subst (λ x. LeadBy k (key_order (plain_space k n)) x (0, m)) (sym (power_single k i e)) (single_lead (plain_space k n) (plain_positive k n).1 [] (λ j. (0, supp_zero k (λ t. degree (plain_space k n) t ≡ 0))) (0, m))

        u : (x : Vect k) × InIdeal k (relations k n θ) x × LeadBy k o x (0, m)
        u = lifted m (power_length n i e h) (variable_power k i e) (ended i h).1 lead

        c : (w : Vect k) × (s : Key) × In w vs × LeadBy k o w s × KeyDivides s (0, m)
        c = lifts.reduced.covers u.0 (0, m) u.1 u.2

        same : c.1 ≡ (0, mono c.1.1.0)
        same = ap₂ (λ (q : ℕ) (a : Mon). (q, a)) (ap (λ (t : Key). t.0) c.4.1) (sym (mono_mon c.1.1))

        power : (j : ℕ) → ¬ (j ≡ i) → exponent c.1.1.0 j ≡ 0
        power j other =
            let p = exponent_mul c.4.0 c.1.1 j in
            let q : exponent (monomials.◌·◌ c.4.0 c.1.1).0 j ≡ exponent m.0 j = ap (λ (t : Key). exponent t.1.0 j) c.4.1 in
            let r = exponent_mono (after_zeros i (e ∷ [])) j in
            let z = exponent_elsewhere i e j other in
            omega arith

module _ {E : Type 0} (S : SpaceOver E) (n : ℕ) (ds : List ℕ) (θ : List (Vect S.field)) (space : IsMarkSpace S n ds) (primaries : ArePositiveForms S.field n ds θ) where
  abbrev Terms : Type 0
  Terms = List (Term E (List ℕ))

  -- of the lists of terms of the program
  pub lifts_unmarked : {Y : Type 0} (cap : ℕ) (r : Result (Vec Terms) Y) → Regular S.field θ → IfOk r (λ vs. AreHomogeneousPolys S cap vs.items) → IfOk r (λ vs. AreLifts S n θ (vectors_of S (λ m. m) vs.items))
      → IfOk r (λ vs. LeadsWithoutMarks S n (vectors_of S (λ m. m) vs.items))
  lifts_unmarked cap (Err e) regular polys lifts = tt
  lifts_unmarked cap (Ok vs) regular polys lifts = leads_unmarked S n ds θ space primaries (vectors_of S (λ m. m) vs.items) lifts regular (are_polynomials S cap vs.items polys)
      (λ v i. let x = from_map (vector_of S (λ m. m)) v vs.items i in
      subst (InVariables S.field (length S.weights)) x.2 (vec_in_variables S (entries (λ m. m) x.0) (all_in (IsVector S (λ m. m)) vs.items (are_vectors S cap vs.items polys) x.0 x.1)))

  pub lifts_have_powers : {Y : Type 0} (r : Result (Vec Terms) Y) → Ended S.field n θ → IfOk r (λ vs. AreLifts S n θ (vectors_of S (λ m. m) vs.items)) → IfOk r (λ vs. HavePowers S n (vectors_of S (λ m. m) vs.items))
  lifts_have_powers (Err e) ended lifts = tt
  lifts_have_powers (Ok vs) ended lifts = have_powers S n ds θ space primaries (vectors_of S (λ m. m) vs.items) lifts ended
