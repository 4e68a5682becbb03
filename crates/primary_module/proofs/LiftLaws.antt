-- The lifts of a module: their leads divide those of all relations, so coordinates are unique, and remainders by the lifts are coordinates.
use Rattle.std.proofs.Common.{◌≡◌, ◌∙◌, ◌↔◌, ◌+◌, ◌<◌, ◌≤◌, ℕ, List, ◌++◌, length, replicate, refl, sym, ap, ap₂, subst, inl, inr, arith}
use native.Mathlib.Decide.{dec_le}
use Rattle.alg_core.specs.Fields.{scalars, is_field}
use Rattle.alg_core.specs.Keys.{Key, key_same, times_key, KeyDivides}
use Rattle.alg_core.specs.KeyOrders.{OrderOn}
use Rattle.alg_core.specs.Leads.{HasLead, has_lead}
use Rattle.alg_core.specs.Lists.{In}
use Rattle.alg_core.specs.Monomials.{Mon, monomials}
use Rattle.alg_core.specs.MonomialParts.{variable_part, mark_part, as_marks}
use Rattle.alg_core.specs.PlaceOrders.{PlaceOrder}
use Rattle.alg_core.specs.PolynomialSpaces.{marked_space}
use Rattle.alg_core.specs.Spaces.{SpaceOver, entries}
use Rattle.alg_core.specs.SpaceOrder.{key_order, key_compare, key_total, key_tied}
use Rattle.alg_core.specs.Vectors.{Vect, coef_at, plus, zero_vector}
use Rattle.alg_core.specs.declared.term.Term.{Term}
use Rattle.alg_core.proofs.Members.{from_map}
use Rattle.alg_core.proofs.MonomialParts.{parts, variable_part_mul, variable_part_same, length_variable_part}
use Rattle.alg_core.proofs.VectorLaws.{plus_comm, plus_zero, zero_plus}
use Rattle.poly_module.specs.Parts.{IsPolynomial, InVariables, supp_zero}
use Rattle.poly_module.specs.Signs.{minus}
use Rattle.poly_module.specs.Substitutions.{substitute_zero, substitute_plus}
use Rattle.poly_module.specs.Variables.{substitute_linear}
use Rattle.poly_module.specs.Modules.{InModule, LeadBy, listed}
use Rattle.poly_module.specs.Combinations.{mark_value}
use Rattle.poly_module.specs.Marks.{IsMixed, relations, IsRelation}
use Rattle.poly_module.specs.SpaceVectors.{IsVector, IsPoly, IsUpTo, vector_of, vectors_of}
use Rattle.poly_module.proofs.FittingKeys.{vec_in_variables}
use Rattle.poly_module.proofs.Reduced.{place_of_member}
use Rattle.poly_module.proofs.RelationIdeals.{relations_exact}
use Rattle.poly_module.proofs.SpaceVectorLaws.{minus_plus, minus_unique, supp_minus, vector_given, is_polynomial}
use Rattle.module_groebner.specs.Remainders.{IsRemainder}
use Rattle.module_groebner.proofs.Families.{all_in, inside_by_members}
use Rattle.module_groebner.proofs.Remainders.{remainder_difference}
use Rattle.finite_certificate.specs.MarkSpaces.{degree_limit}
use Rattle.finite_certificate.specs.StandardMonomials.{IsStandard, IsStandardForm, IsLeadMultiple, LeadsDivide, IsCoordinates, CoordinatesAreUnique, CoordinatesExist, MarksAreIndependent}
use Rattle.finite_certificate.proofs.Coordinates.{coordinates}
use Rattle.finite_certificate.proofs.LowImages.{marked_length}
use Rattle.finite_certificate.proofs.ModuleTerms.{linear_less, less_itself}
use Rattle.finite_certificate.proofs.PowerForms.{forms_count}
use Rattle.finite_certificate.proofs.StandardTests.{standard_by_lifts, one_standard}
use Rattle.groebner_hom.specs.IdealBases.{IsHomogeneousPoly}
use Rattle.groebner_hom.proofs.PolynomialLists.{ideal_polynomials}
use Rattle.primary_module.specs.PrimaryModules.{AreForModule}

-- the order of the keys by that of the places
abbrev order_by : ℕ → PlaceOrder → OrderOn Key
order_by n q = record { compare = key_compare n q; total = key_total n q; tied = key_tied n q }

module _ {E : Type 0} (S : SpaceOver E) (n : ℕ) (ds : List ℕ) (θ ls : List (List (Term E (List ℕ)))) (given : AreForModule S n ds θ ls) where
  abbrev θs : List (Vect S.field)
  θs = vectors_of S (λ m. m) θ

  abbrev vs : List (Vect S.field)
  vs = vectors_of S (λ m. m) ls

  abbrev o : OrderOn Key
  o = key_order S

  abbrev blocks : OrderOn Key
  blocks = key_order (marked_space S.field n ds)

  same_order : o ≡ blocks
  same_order = ap₂ order_by (ap length given.space.weights) given.space.order

  lead_blocks : (v : Vect S.field) (t : Key) → LeadBy S.field o v t → LeadBy S.field blocks v t
  lead_blocks v t = subst (λ (q : OrderOn Key). LeadBy S.field q v t) same_order

  pub wide : length S.weights ≡ n + length θs
  wide = let w = marked_length S n ds given.space in let c = forms_count S.field (replicate n 1) ds θs given.forms.forms in omega arith

  pub each : (f : Vect S.field) → In f θs → IsPolynomial S.field f × InVariables S.field n f
  each f i = let w = from_map (vector_of S (λ m. m)) f θ i in
      (subst (IsPolynomial S.field) w.2 (is_polynomial S (λ m. m) w.0 (all_in (λ p. IsPoly S (λ m. m) p × IsUpTo S degree_limit (vector_of S (λ m. m) p)) θ given.theta w.0 w.1).0), all_in (InVariables S.field n) θs given.forms.variables f i)

  -- the polynomials of the space are those in the variables and marks
  pub mixed_of : (p : List (Term E (List ℕ))) → IsPoly S (λ m. m) p → IsMixed S.field n (length θs) (vector_of S (λ m. m) p)
  mixed_of p h = record {
    polynomial = is_polynomial S (λ m. m) p h;
    variables = subst (λ m. InVariables S.field m (vector_of S (λ m. m) p)) wide (vec_in_variables S (entries (λ m. m) p) h.fits);
  }

  lift_relation : (g : Vect S.field) → In g vs → IsRelation S.field n θs g
  lift_relation g i =
      let w = from_map (vector_of S (λ m. m)) g ls i in
      (relations_exact S.field n θs each o g).1 (
        subst (IsMixed S.field n (length θs)) w.2 (mixed_of w.0 (all_in (IsHomogeneousPoly S degree_limit) ls given.lifts.polynomials w.0 w.1).polynomial),
        given.lifts.lifts.reduced.inside g i,
      )

  -- the lead of each relation is a multiple of the lead of a lift
  relation_divided : (f : Vect S.field) (t : Key) → IsRelation S.field n θs f → LeadBy S.field o f t → (g : Vect S.field) × (s : Key) × In g vs × LeadBy S.field o g s × KeyDivides s t
  relation_divided f t r lead = given.lifts.lifts.reduced.covers f t ((relations_exact S.field n θs each o f).0 r).1 lead

  lifts_divide : LeadsDivide S.field blocks (IsRelation S.field n θs) vs
  lifts_divide = record {
    elements = lift_relation;
    divided = λ f t r lead. let c = relation_divided f t r (subst (λ (q : OrderOn Key). LeadBy S.field q f t) (sym same_order) lead) in (c.0, c.2, c.1, lead_blocks c.0 c.1 c.3, c.4);
  }

  pub standard_exact : (m : Mon) → length m.0 ≤ n → IsStandard S.field n θs m ↔ (¬ IsLeadMultiple S.field blocks vs (0, m))
  standard_exact = standard_by_lifts S.field n θs ds given.forms vs lifts_divide

  -- the lead of a lift that divides a key divides its part in the variables
  divides_part : (g : Vect S.field) (s t : Key) → In g vs → LeadBy S.field o g s → KeyDivides s t → t.0 ≡ 0 → IsLeadMultiple S.field blocks vs (0, variable_part n t.1)
  divides_part g s t i lead d z = (g, i, s, lead_blocks g s lead, (variable_part n d.0, ap₂ (λ (q : ℕ) (m : Mon). (q, m)) (ap (λ (r : Key). r.0) d.1 ∙ z) same))
    where
      short : Dec (length s.1.0 ≤ n) → length s.1.0 ≤ n
      short (yes p) = p
      short (no p) = absurd (given.lifts.unmarked g s i lead (omega arith))

      same : monomials.◌·◌ (variable_part n d.0) s.1 ≡ variable_part n t.1
      same = ap (monomials.◌·◌ (variable_part n d.0)) (sym (variable_part_same n s.1 (short (dec_le (length s.1.0) n)))) ∙ sym (variable_part_mul n d.0 s.1) ∙ ap (λ (r : Key). variable_part n r.1) d.1

  -- what divides the part in the variables divides the key
  part_divides : (s t : Key) → t.0 ≡ 0 → KeyDivides s (0, variable_part n t.1) → KeyDivides s t
  part_divides s t z d = (monomials.◌·◌ marks d.0, ap₂ (λ (q : ℕ) (m : Mon). (q, m)) (ap (λ (r : Key). r.0) d.1 ∙ sym z) same)
    where
      marks : Mon
      marks = as_marks n (mark_part n t.1)

      same : monomials.◌·◌ (monomials.◌·◌ marks d.0) s.1 ≡ t.1
      same = monomials.assoc marks d.0 s.1 ∙ ap (λ (r : Key). monomials.◌·◌ marks r.1) d.1 ∙ monomials.comm marks (variable_part n t.1) ∙ parts n t.1

  -- a relation that is a standard form is 0
  relation_zero : (w : Vect S.field) → IsRelation S.field n θs w → IsStandardForm S.field n θs w → w ≡ zero_vector S.field
  unfolding zero_vector coef_at
  relation_zero w relation standard = go (has_lead (scalars S.field) (is_field S.field) key_same o w)
    where
      go : HasLead (scalars S.field) (is_field S.field) key_same o w → w ≡ zero_vector S.field
      go (inl z) = z
      go (inr l) =
          let t = l.0 in
          let c = relation_divided w t relation l.1 in
          absurd ((standard_exact (variable_part n t.1) (length_variable_part n t.1)).0 (standard t l.1.there) (divides_part c.0 c.1 t c.2 c.3 c.4 (relation.mixed.polynomial t l.1.there)))

  pub unique : CoordinatesAreUnique S.field n θs
  unique f u v a b =
      let w = minus S.field u v in
      let relation : IsRelation S.field n θs w = record {
        mixed = record {
          polynomial = supp_minus S.field (λ t. t.0 ≡ 0) u v a.mixed.polynomial b.mixed.polynomial;
          variables = supp_minus S.field (λ t. length t.1.0 ≤ n + length θs) u v a.mixed.variables b.mixed.variables;
        };
        value = linear_less S.field (mark_value S.field n θs) (substitute_linear S.field _) u v ∙ ap₂ (minus S.field) a.value b.value ∙ less_itself S.field f;
      } in
      sym (minus_plus S.field u v) ∙ ap (λ y. plus S.field y v) (relation_zero w relation (supp_minus S.field (λ t. IsStandard S.field n θs (variable_part n t.1)) u v a.standard b.standard)) ∙ zero_plus S.field v

  pub exist : CoordinatesExist S.field n θs
  exist = coordinates S.field n ds θs given.forms

  pub independent : MarksAreIndependent S.field n θs
  independent u mixed marks zero = unique (zero_vector S.field) u (zero_vector S.field)
      (record { mixed = mixed; standard = λ t c. subst (IsStandard S.field n θs) (sym (marks t c)) (one_standard S.field n θs ds given.forms); value = zero })
      (record {
        mixed = record { polynomial = supp_zero S.field (λ t. t.0 ≡ 0); variables = supp_zero S.field (λ t. length t.1.0 ≤ n + length θs) };
        standard = supp_zero S.field (λ t. IsStandard S.field n θs (variable_part n t.1));
        value = substitute_zero S.field _;
      })

  -- what a remainder by the lifts says
  module _ (f r : List (Term E (List ℕ))) (poly : IsPoly S (λ m. m) f) (fits : IsVector S (λ m. m) r)
      (remainder : IsRemainder S (listed S.field vs) (vector_of S (λ m. m) f) (vector_of S (λ m. m) r)) where
    abbrev u : Vect S.field
    u = vector_of S (λ m. m) f

    abbrev rest : Vect S.field
    rest = vector_of S (λ m. m) r

    divided : (w : Vect S.field) × InModule S.field (listed S.field vs) w × (plus S.field rest w ≡ u)
    divided = remainder_difference S (listed S.field vs) u rest remainder

    pub remainder_poly : IsPoly S (λ m. m) r
    remainder_poly =
        let w = divided in
        let p = ideal_polynomials S degree_limit ls given.lifts.polynomials w.0 w.1 in
        record { fits = fits; position = (vector_given S (λ m. m) rest r fits refl).position (subst (IsPolynomial S.field) (sym (minus_unique S.field rest u w.0 w.2)) (supp_minus S.field (λ t. t.0 ≡ 0) u w.0 (is_polynomial S (λ m. m) f poly) p)) }

    remainder_standard : IsStandardForm S.field n θs rest
    remainder_standard t c = (standard_exact (variable_part n t.1) (length_variable_part n t.1)).1 (λ m.
        let p = place_of_member S.field vs m.0 m.1 in
        let lead = subst (λ (q : OrderOn Key). LeadBy S.field q m.0 m.2) (sym same_order) m.3 in
        remainder.irreducible p.0 m.2 t (subst (λ g. LeadBy S.field o g m.2) (sym p.1) lead) c (part_divides m.2 t (is_polynomial S (λ m. m) r remainder_poly t c) m.4))

    remainder_value : mark_value S.field n θs rest ≡ mark_value S.field n θs u
    remainder_value =
        let w = divided in
        let a = mixed_of f poly in
        let b = mixed_of r remainder_poly in
        let is = minus_unique S.field w.0 u rest (plus_comm S.field w.0 rest ∙ w.2) in
        let mixed : IsMixed S.field n (length θs) w.0 = subst (IsMixed S.field n (length θs)) (sym is) (record {
          polynomial = supp_minus S.field (λ t. t.0 ≡ 0) u rest a.polynomial b.polynomial;
          variables = supp_minus S.field (λ t. length t.1.0 ≤ n + length θs) u rest a.variables b.variables;
        }) in
        let inside = inside_by_members S.field vs (listed S.field (relations S.field n θs)) given.lifts.lifts.reduced.inside w.0 w.1 in
        let none = ((relations_exact S.field n θs each o w.0).1 (mixed, inside)).value in
        sym (ap (mark_value S.field n θs) (sym w.2) ∙ substitute_plus S.field _ rest w.0 ∙ ap (plus S.field (mark_value S.field n θs rest)) none ∙ plus_zero S.field (mark_value S.field n θs rest))

    pub remainder_coordinates : IsCoordinates S.field n θs (mark_value S.field n θs u) rest
    remainder_coordinates = record { mixed = mixed_of r remainder_poly; standard = remainder_standard; value = remainder_value }
