-- Over a regular sequence of forms a standard form with the value 0 is 0: by the degree, and in each degree by the marks.
use Rattle.std.proofs.Common.{◌≡◌, ◌∙◌, ◌+◌, ◌-◌, ◌<◌, ◌≤◌, ℕ, zero, suc, List, [], ◌∷◌, ◌++◌, length, get_or, replicate, append_assoc, refl, sym, ap, ap₂, subst, inl, inr, arith}
use Rattle.std.proofs.lemmas.List.{length-append}
use Rattle.alg_core.specs.BlockOrder.{length_ones}
use Rattle.alg_core.specs.Fields.{FieldOn, scalars, is_field}
use Rattle.alg_core.specs.KeyOrders.{OrderOn}
use Rattle.alg_core.specs.Keys.{Key, key_same, times_key, keys}
use Rattle.alg_core.specs.Leads.{HasLead, has_lead}
use Rattle.alg_core.specs.Lists.{In}
use Rattle.alg_core.specs.ModuleLaws as modules
use Rattle.alg_core.specs.MonomialParts.{variable_part, mark_part, as_marks}
use Rattle.alg_core.specs.Monomials.{Mon, monomials, exponent, exponent_mul}
use Rattle.alg_core.specs.PolynomialSpaces.{plain_space}
use Rattle.alg_core.specs.SpaceGrading.{AllPositive, weight, weight_mul}
use Rattle.alg_core.specs.SpaceOrder.{key_order}
use Rattle.alg_core.specs.Vectors.{Vect, vectors, coef_at, plus, zero_vector, shift}
use Rattle.alg_core.proofs.MonomialParts.{parts, length_variable_part, length_mark_part, length_as_marks, weight_parts, weight_as_marks, variable_part_mul, variable_part_as_marks, variable_part_same, exponent_as_marks, exponent_mark_part}
use Rattle.alg_core.proofs.VectorLaws.{coef_at_ext, coef_at_plus, coef_at_zero, zero_plus, shift_linear, shift_single, shift_zero_vector}
use Rattle.poly_module.specs.Combinations.{mark_value}
use Rattle.poly_module.specs.Degrees.{graded_part, graded_part_inside, graded_part_graded, graded_part_supp, graded_part_zero}
use Rattle.poly_module.specs.Forms.{key_weight, OfDegree, IsForm, AreForms, form_part, part_substitute}
use Rattle.poly_module.specs.Marks.{IsMixed}
use Rattle.poly_module.specs.Modules.{IsSubspace, LeadBy, listed}
use Rattle.poly_module.specs.MonomialVariables.{variable}
use Rattle.poly_module.specs.Parts.{Supp, IsPolynomial, InVariables, supp_zero, supp_plus, supp_act, supp_single, supp_outside, select, select_inside, select_outside, supp_select, select_supp, select_all}
use Rattle.poly_module.specs.Polynomials.{single_vector, product, vector_ring}
use Rattle.poly_module.specs.Products.{product_single, product_comm, shift_product}
use Rattle.poly_module.specs.Signs.{minus}
use Rattle.poly_module.specs.Substitutions.{image, variable_vector, substitute_plus, substitute_product}
use Rattle.poly_module.specs.Variables.{variables, length_variables, substitute_linear, length_mul}
use Rattle.poly_module.proofs.MarkValues.{mark_value_polynomial, mark_value_mark, forms_append, variables_forms}
use Rattle.poly_module.proofs.ModuleElements.{module_zero, module_subspace}
use Rattle.poly_module.proofs.RelationIdeals.{linear_in_subspace}
use Rattle.poly_module.proofs.SpaceVectorLaws.{minus_plus, supp_minus}
use Rattle.finite_certificate.specs.Ideals.{InIdeal, Regular}
use Rattle.finite_certificate.specs.MarkSpaces.{ArePositiveForms}
use Rattle.finite_certificate.specs.StandardMonomials.{IsStandard, IsStandardForm, IsCoordinates, CoordinatesAreUnique, MarksAreIndependent}
use Rattle.finite_certificate.proofs.Coordinates.{Standard, form_coordinates}
use Rattle.finite_certificate.proofs.ModuleTerms.{factor_length, shift_keys, image_member, weight_of_mark, mark_variables, linear_less, less_itself}
use Rattle.finite_certificate.proofs.PowerForms.{forms_count, value_form}
use Rattle.finite_certificate.proofs.RelationLeads.{LiftOf, lift, passes, Passes}
use Rattle.finite_certificate.proofs.StandardTests.{one_standard}
use Rattle.groebner_hom.proofs.MarkedKeys.{MarkBelow, mark_below, more_marks, plain_or_marked, marked, variable_divides, weight_front}
use Rattle.groebner_hom.proofs.MarkedValues.{Cut, cut, image_front, image_at, other_summand, form_plain, value_polynomial, value_variables, value_ideal, value_before}

dec_not : {A : Type 0} → Dec A → Dec (¬ A)
dec_not (yes a) = no (λ n. n a)
dec_not (no n) = yes n

positive_at : (ds : List ℕ) (i : ℕ) → i < length ds → AllPositive ds → 0 < get_or ds i 0
positive_at [] i h p = absurd (omega arith)
positive_at (d ∷ ds) zero h p = p.0
positive_at (d ∷ ds) (suc i) h p = positive_at ds i (omega arith) p.1

module _ {E : Type 0} (k : FieldOn E) where
  -- a vector is its part at the keys that pass and its part at the others
  split_parts : {Q : Key → Type 0} (test : (t : Key) → Dec (Q t)) (u : Vect k) → plus k (select k (λ t. dec_not (test t)) u) (select k test u) ≡ u
  split_parts {Q = Q} test u = coef_at_ext k _ u (λ t. coef_at_plus k _ _ t ∙ at t (test t))
    where
      at : (t : Key) → Dec (Q t) → (scalars k).◌+◌ (coef_at k (select k (λ t. dec_not (test t)) u) t) (coef_at k (select k test u) t) ≡ coef_at k u t
      at t (yes q) = ap₂ (scalars k).◌+◌ (select_outside k (λ t. dec_not (test t)) u t (λ n. n q)) (select_inside k test u t q) ∙ (scalars k).add_comm _ _ ∙ (scalars k).add_zero _
      at t (no n) = ap₂ (scalars k).◌+◌ (select_inside k (λ t. dec_not (test t)) u t n) (select_outside k test u t n) ∙ (scalars k).add_zero _

  pub no_keys : (v : Vect k) → Supp k (λ t. ⊥) v → v ≡ zero_vector k
  no_keys v h = coef_at_ext k v (zero_vector k) (λ t. supp_outside k (λ t. ⊥) v h t (λ b. b) ∙ sym (coef_at_zero k t))

  equal_by_difference : (u v : Vect k) → minus k u v ≡ zero_vector k → u ≡ v
  equal_by_difference u v e = sym (minus_plus k u v) ∙ ap (λ w. plus k w v) e ∙ zero_plus k v

module _ {E : Type 0} (k : FieldOn E) (n : ℕ) (ds : List ℕ) (θ : List (Vect k)) (primaries : ArePositiveForms k n ds θ) where
  abbrev W : List ℕ
  W = replicate n 1 ++ ds

  abbrev value : Vect k → Vect k
  value = mark_value k n θ

  abbrev o : OrderOn Key
  o = key_order (plain_space k n)

  abbrev Std : ℕ → Key → Type 0
  Std = Standard k n ds θ primaries

  count : length θ ≡ length ds
  count = forms_count k (replicate n 1) ds θ primaries.forms

  -- the same monomial in the variables times a standard form
  module _ (t : Key) (z : t.0 ≡ 0) (short : length t.1.0 ≤ n + length θ) where
    abbrev m : Mon
    m = variable_part n t.1

    abbrev a : Mon
    a = as_marks n (mark_part n t.1)

    coordinates : (u : Vect k) × IsCoordinates k n θ (single_vector k (0, m)) u × IsForm k (replicate n 1 ++ ds) (weight (replicate n 1) 0 m.0) u
    coordinates = form_coordinates k n ds θ primaries (weight (replicate n 1) 0 m.0) (single_vector k (0, m))
        (supp_single k (OfDegree k (replicate n 1) (weight (replicate n 1) 0 m.0)) (0, m) (refl, refl)) (supp_single k (λ s. length s.1.0 ≤ n) (0, m) (length_variable_part n t.1))

    marks_weight : weight (replicate n 1 ++ ds) 0 a.0 ≡ weight ds 0 (mark_part n t.1).0
    marks_weight =
        let low = length_mark_part n (length ds) t.1 (omega (arith, count)) in
        subst (λ (l : ℕ). weight (replicate n 1 ++ ds) 0 (as_marks l (mark_part n t.1)).0 ≡ weight ds 0 (mark_part n t.1).0) (length_ones n) (weight_as_marks (replicate n 1) ds (mark_part n t.1) low)

    whole_weight : key_weight (replicate n 1 ++ ds) t ≡ weight (replicate n 1) 0 m.0 + weight ds 0 (mark_part n t.1).0
    whole_weight =
        let e : length {A = ℕ} (replicate n 1) ≡ n = length_ones n in
        subst (λ (l : ℕ). key_weight (replicate n 1 ++ ds) t ≡ weight (replicate n 1) 0 (variable_part l t.1).0 + weight ds 0 (mark_part l t.1).0) e
        (weight_parts (replicate n 1) ds t.1 (omega (arith, count)))

    -- no mark has a smaller exponent
    abbrev pub NoLess : Key → Type 0
    NoLess r = (i : ℕ) → exponent t.1.0 (n + i) ≤ exponent r.1.0 (n + i)

    pub standardized : (u : Vect k) × Supp k (λ r. Standard k n ds θ primaries (key_weight (replicate n 1 ++ ds) t) r × NoLess r) u × (mark_value k n θ u ≡ mark_value k n θ (single_vector k t))
    unfolding keys
    standardized = (shift k a u, keys_of, same)
      where
        u : Vect k
        u = coordinates.0

        keys_of : Supp k (λ r. Standard k n ds θ primaries (key_weight (replicate n 1 ++ ds) t) r × NoLess r) (shift k a u)
        keys_of r c =
            let q = shift_keys k a u r c in
            let s = q.0 in
            let coords = coordinates.1 in
            let w = weight_mul W a s.1 in
            let d = (coordinates.2 s q.2).1 in
            let x = marks_weight in
            let y = whole_weight in
            let low = length_mark_part n (length θ) t.1 short in
            let long = length_as_marks n (mark_part n t.1) in
            let same : variable_part n (times_key a s).1 ≡ variable_part n s.1 =
            variable_part_mul n a s.1 ∙ ap (λ (b : Mon). monomials.◌·◌ b (variable_part n s.1)) (variable_part_as_marks n (mark_part n t.1)) ∙ monomials.comm monomials.one (variable_part n s.1) ∙ monomials.mul_one (variable_part n s.1) in
            subst (λ r. Standard k n ds θ primaries (key_weight (replicate n 1 ++ ds) t) r × NoLess r) q.1 (
              (coords.mixed.polynomial s q.2, omega arith, length_mul (n + length θ) a s.1 (omega arith) (coords.mixed.variables s q.2), subst (IsStandard k n θ) (sym same) (coords.standard s q.2)),
              λ i. let e = exponent_mul a s.1 (n + i) in let f = exponent_as_marks n (mark_part n t.1) i in let g = exponent_mark_part n t.1 i in omega arith,
            )

        again : product k (single_vector k (0, a)) (single_vector k (0, m)) ≡ single_vector k t
        again = product_single k (0, a) (0, m) ∙ ap₂ (λ (i : ℕ) (b : Mon). single_vector k (i, b)) (sym z) (monomials.comm a m ∙ parts n t.1)

        same : mark_value k n θ (shift k a u) ≡ mark_value k n θ (single_vector k t)
        same =
            let plain = mark_value_polynomial k n θ (single_vector k (0, m)) (supp_single k (λ s. s.0 ≡ 0) (0, m) refl) (supp_single k (λ s. length s.1.0 ≤ n) (0, m) (length_variable_part n t.1)) in
            ap (mark_value k n θ) (shift_product k a u) ∙ substitute_product k _ (single_vector k (0, a)) u
            ∙ ap (product k (mark_value k n θ (single_vector k (0, a)))) (coordinates.1.value ∙ sym plain)
            ∙ sym (ap (mark_value k n θ) (sym again) ∙ substitute_product k _ (single_vector k (0, a)) (single_vector k (0, m)))

  -- keys of a standard form with one of the first j marks
  abbrev Low : ℕ → ℕ → Key → Type 0
  Low D j t = Std D t × MarkBelow n j t

  abbrev Reached : ℕ → ℕ → Vect k → Type 0
  Reached D j v = (u : Vect k) × Supp k (Low D j) u × (value u ≡ value v)

  reached : (D j : ℕ) → IsSubspace k (Reached D j)
  reached D j = record {
    zero = (zero_vector k, supp_zero k (Low D j), refl);
    plus = λ u v a b. (plus k a.0 b.0, supp_plus k (Low D j) a.0 b.0 a.1 b.1, substitute_plus k _ a.0 b.0 ∙ ap₂ (plus k) a.2 b.2 ∙ sym (substitute_plus k _ u v));
    act = λ c u a. ((vectors k).◌·◌ c a.0, supp_act k (Low D j) c a.0 a.1, (substitute_linear k _).act c a.0 ∙ ap ((vectors k).◌·◌ c) a.2 ∙ sym ((substitute_linear k _).act c u));
  }

  standard_with_marks : (D j : ℕ) (v : Vect k) → Supp k (λ t. (t.0 ≡ 0) × (key_weight W t ≡ D) × (length t.1.0 ≤ n + length θ) × MarkBelow n j t) v → Reached D j v
  standard_with_marks D j = linear_in_subspace k o (λ v. v) (modules.linear_same (vectors k)) (Reached D j) (reached D j) (λ t. (t.0 ≡ 0) × (key_weight W t ≡ D) × (length t.1.0 ≤ n + length θ) × MarkBelow n j t)
      (λ t h. let s = standardized t h.0 h.2 in (s.0, (λ r c. let q = s.1 r c in (subst (λ (d : ℕ). Std d r) h.1 q.0, more_marks n j t r q.1 h.3)), s.2))

  -- a standard form of degree D with the value 0 is 0
  abbrev Injective : ℕ → Type 0
  Injective D = (u : Vect k) → Supp k (Std D) u → value u ≡ zero_vector k → u ≡ zero_vector k

  plain_given : (f : Vect k) → In f θ → IsPolynomial k f × InVariables k n f
  plain_given = form_plain k n ds θ primaries

  module _ (regular : Regular k θ) (D : ℕ) (before : (e : ℕ) → e < D → Injective e) where
    -- one mark less
    module _ (j : ℕ) (h : j < length θ) (u : Vect k) (low : Supp k (Low D (suc j)) u) (none : value u ≡ zero_vector k) where
      abbrev c : Cut k n ds θ j
      c = cut k n ds θ j primaries h

      abbrev mark : Mon
      mark = variable (n + j)

      abbrev d : ℕ
      d = D - get_or ds j 0

      abbrev Rest : Key → Type 0
      Rest s = Std d s × (¬ MarkBelow n j s)

      upper : Vect k
      upper = select k (λ t. dec_not (mark_below n j t)) u

      lower : Vect k
      lower = select k (mark_below n j) u

      upper_keys : Supp k (λ t. Low D (suc j) t × (¬ MarkBelow n j t)) upper
      unfolding upper
      upper_keys t x = (select_supp k (λ t. dec_not (mark_below n j t)) (Low D (suc j)) u low t x, supp_select k (λ t. dec_not (mark_below n j t)) u t x)

      -- the degree of the mark
      mark_degree : weight (replicate n 1 ++ ds) 0 mark.0 ≡ get_or ds j 0
      mark_degree = weight_of_mark n ds j (omega (arith, count))

      -- divided by the mark
      Quotient : Vect k → Type 0
      Quotient v = (w : Vect k) × Supp k Rest w × (shift k mark w ≡ v)

      quotients : IsSubspace k Quotient
      unfolding Quotient plus zero_vector
      quotients = record {
        zero = (zero_vector k, supp_zero k Rest, shift_zero_vector k mark);
        plus = λ u v a b. (plus k a.0 b.0, supp_plus k Rest a.0 b.0 a.1 b.1, (shift_linear k mark).add a.0 b.0 ∙ ap₂ (plus k) a.2 b.2);
        act = λ c u a. ((vectors k).◌·◌ c a.0, supp_act k Rest c a.0 a.1, (shift_linear k mark).act c a.0 ∙ ap ((vectors k).◌·◌ c) a.2);
      }

      quotient_key : (t : Key) → Low D (suc j) t → ¬ MarkBelow n j t → (s : Key) × Rest s × (times_key mark s ≡ t)
      quotient_key t (std, inl m) other = absurd (other m)
      quotient_key t (std, inr m) other = (
        s,
        (
          (
            std.0,
            (let w = weight_mul W mark q.0 in let e : weight W 0 (monomials.◌·◌ mark q.0).0 ≡ key_weight W t = ap (λ (b : Mon). weight W 0 b.0) q.1 in let g = mark_degree in let f = std.1 in omega arith),
            factor_length (n + length θ) q.0 mark (subst (λ (b : Mon). length b.0 ≤ n + length θ) (sym q.1 ∙ monomials.comm mark q.0) std.2),
            subst (IsStandard k n θ) part std.3,
          ),
          λ l. other (more_marks n j s t (λ i. let e = exponent_mul mark q.0 (n + i) in let f : exponent (monomials.◌·◌ mark q.0).0 (n + i) ≡ exponent t.1.0 (n + i) = ap (λ (b : Mon). exponent b.0 (n + i)) q.1 in omega arith) l),
        ),
        ap (λ (b : Mon). (t.0, b)) q.1,
      )
        where
          q : (b : Mon) × (monomials.◌·◌ mark b ≡ t.1)
          q = variable_divides (n + j) t.1 m

          s : Key
          s = (t.0, q.0)

          part : variable_part n t.1 ≡ variable_part n q.0
          part = ap (variable_part n) (sym q.1) ∙ variable_part_mul n mark q.0 ∙ ap (λ (b : Mon). monomials.◌·◌ b (variable_part n q.0)) (mark_variables n j) ∙ monomials.comm monomials.one (variable_part n q.0) ∙ monomials.mul_one (variable_part n q.0)

      divided : Quotient upper
      unfolding Quotient single_vector
      divided = linear_in_subspace k o (λ v. v) (modules.linear_same (vectors k)) Quotient quotients (λ t. Low D (suc j) t × (¬ MarkBelow n j t))
          (λ t p. let q = quotient_key t p.0 p.1 in (single_vector k q.0, supp_single k Rest q.0 q.1, shift_single k mark q.0 ∙ ap (single_vector k) q.2)) upper upper_keys

      w : Vect k
      unfolding Quotient
      w = divided.0

      w_keys : Supp k Rest w
      unfolding Quotient w
      w_keys = divided.1

      w_is : shift k mark w ≡ upper
      unfolding Quotient w
      w_is = divided.2

      upper_value : value upper ≡ product k (value w) c.member
      unfolding variable_vector
      upper_value =
          let at : mark_value k n θ (variable_vector k (n + j)) ≡ c.member = mark_value_mark k n θ j ∙ subst (λ l. image (vector_ring k) l j ≡ c.member) c.is (subst (λ (i : ℕ). image (vector_ring k) (c.before ++ c.member ∷ c.after) i ≡ c.member) c.count (image_at k c.before c.member c.after)) in
          ap value (sym w_is ∙ shift_product k mark w) ∙ substitute_product k _ (single_vector k (0, mark)) w ∙ ap (λ x. product k x (value w)) at ∙ product_comm k c.member (value w)

      images : (i : ℕ) → i < j → image (vector_ring k) θ i ≡ listed k c.before i
      images i l = let e = c.count in subst (λ fs. image (vector_ring k) fs i ≡ listed k c.before i) c.is (image_front k c.before (c.member ∷ c.after) i (omega arith) ∙ image_member k c.before i (omega arith))

      -- the value of the quotient lies in the ideal of the members before
      inside : InIdeal k c.before (value w)
      unfolding upper lower
      inside = regular c.before c.after c.member c.is (value w) (value_polynomial k n θ plain_given w)
          (subst (InIdeal k c.before) upper_value
          (other_summand k (InIdeal k c.before) (module_subspace k (listed k c.before)) (value lower) (value upper) (zero_vector k)
          (sym (substitute_plus k _ upper lower) ∙ ap value (split_parts k (mark_below n j) u) ∙ none)
          (module_zero k (listed k c.before))
          (value_ideal k n θ plain_given o c.before j images lower (supp_select k (mark_below n j) u))))

      value_passes : Supp k (Passes k n c.degrees c.before c.forms d) (value w)
      value_passes t x =
          let form = value_form k n ds θ primaries.forms d w (λ s y. let p = w_keys s y in (p.0.0, p.0.1)) (λ s y. let p = w_keys s y in p.0.2) in
          ((form t x).0, (value_variables k n θ plain_given w t x, (form t x).1))

      lifted : LiftOf k n c.degrees c.before c.forms d (value w)
      lifted = subst (LiftOf k n c.degrees c.before c.forms d) (select_all k (passes k n c.degrees c.before c.forms d) (value w) value_passes) (lift k n c.degrees c.before c.forms d (value w) inside)

      degrees_count : length c.degrees ≡ j
      degrees_count = sym (forms_count k (replicate n 1) c.degrees c.before c.forms.forms) ∙ c.count

      lifted_keys : Supp k (λ t. (t.0 ≡ 0) × (key_weight (replicate n 1 ++ ds) t ≡ d) × (length t.1.0 ≤ n + length θ) × MarkBelow n j t) lifted.0
      lifted_keys t x =
          let p = lifted.1 t x in
          let e = degrees_count in
          let l = p.2 in
          let a = length-append (replicate n 1) c.degrees in
          let b : length {A = ℕ} (replicate n 1) ≡ n = length_ones n in
          let front = weight_front (replicate n 1 ++ c.degrees) c.others 0 t.1.0 (omega arith) in
          let whole : (replicate n 1 ++ c.degrees) ++ c.others ≡ replicate n 1 ++ ds = append_assoc (replicate n 1) c.degrees c.others ∙ ap (λ es. replicate n 1 ++ es) c.weights in
          let again : key_weight (replicate n 1 ++ ds) t ≡ key_weight (replicate n 1 ++ c.degrees) t = ap (λ ws. weight ws 0 t.1.0) (sym whole) ∙ front in
          (p.0, again ∙ p.1, omega arith, marked n j t (omega arith) p.3)

      lifted_value : value lifted.0 ≡ value w
      lifted_value =
          let e = degrees_count in
          let f = c.count in
          ap (λ fs. mark_value k n fs lifted.0) (sym c.is) ∙ sym (value_before k n c.before (c.member ∷ c.after) lifted.0 (λ t x. let l = (lifted.1 t x).2 in omega arith)) ∙ lifted.2

      other : Reached d j lifted.0
      other = standard_with_marks d j lifted.0 lifted_keys

      quotient_zero : d < D → w ≡ zero_vector k
      quotient_zero less = no_keys k w (λ t x. (w_keys t x).1 (subst (Supp k (Low d j)) (sym same) other.1 t x).1)
        where
          same : w ≡ other.0
          same = equal_by_difference k w other.0 (before d less (minus k w other.0)
              (supp_minus k (Std d) w other.0 (λ t x. (w_keys t x).0) (λ t x. (other.1 t x).0))
              (linear_less k value (substitute_linear k _) w other.0 ∙ ap (minus k (value w)) (other.2 ∙ lifted_value) ∙ less_itself k (value w)))

      one_less : Supp k (Low D j) u
      unfolding upper
      one_less t x = at (mark_below n j t)
        where
          at : Dec (MarkBelow n j t) → Low D j t
          at (yes m) = ((low t x).0, m)
          at (no m) = absurd (x (sym (select_inside k (λ t. dec_not (mark_below n j t)) u t m) ∙ ap (λ v. coef_at k v t) (sym w_is ∙ ap (shift k mark) (quotient_zero less) ∙ shift_zero_vector k mark) ∙ coef_at_zero k t))
            where
              less : d < D
              less =
                  let q = quotient_key t (low t x) m in
                  let e : weight W 0 (times_key mark q.0).1.0 ≡ key_weight W t = ap (key_weight W) q.2 in
                  let p = weight_mul W mark q.0.1 in
                  let g = mark_degree in
                  let f = (low t x).0.1 in
                  let y = positive_at ds j (omega (arith, count)) primaries.positive in
                  omega arith

    no_marks : (j : ℕ) → j ≤ length θ → (u : Vect k) → Supp k (Low D j) u → value u ≡ zero_vector k → u ≡ zero_vector k
    no_marks zero h u low none = no_keys k u (λ t x. (low t x).1)
    no_marks (suc j) h u low none = no_marks j (omega arith) u (one_less j (omega arith) u low none) none

    -- each key has a mark
    module _ (u : Vect k) (std : Supp k (Std D) u) (none : value u ≡ zero_vector k) where
      abbrev r : ℕ
      r = length θ

      plain : Vect k
      plain = select k (λ t. dec_not (mark_below n r t)) u

      plain_keys : Supp k (λ t. Std D t × (length t.1.0 ≤ n)) plain
      unfolding plain
      plain_keys t x =
          let p = select_supp k (λ t. dec_not (mark_below n r t)) (Std D) u std t x in
          (p, plain_or_marked n r t p.2 (supp_select k (λ t. dec_not (mark_below n r t)) u t x))

      plain_inside : InIdeal k θ plain
      unfolding plain
      plain_inside = subst (InIdeal k θ) (mark_value_polynomial k n θ plain (λ t x. (plain_keys t x).0.0) (λ t x. (plain_keys t x).1))
          (other_summand k (InIdeal k θ) (module_subspace k (listed k θ)) (value (select k (mark_below n r) u)) (value plain) (zero_vector k)
          (sym (substitute_plus k _ plain (select k (mark_below n r) u)) ∙ ap value (split_parts k (mark_below n r) u) ∙ none)
          (module_zero k (listed k θ))
          (value_ideal k n θ plain_given o θ r (image_member k θ) (select k (mark_below n r) u) (supp_select k (mark_below n r) u)))

      plain_zero : plain ≡ zero_vector k
      unfolding zero_vector coef_at
      plain_zero = at (has_lead (scalars k) (is_field k) key_same o plain)
        where
          at : HasLead (scalars k) (is_field k) key_same o plain → plain ≡ zero_vector k
          at (inl e) = e
          at (inr l) =
              let t = l.0 in
              let p = plain_keys t l.1.there in
              absurd (subst (IsStandard k n θ) (variable_part_same n t.1 p.1) p.0.3 plain plain_inside (subst (λ (q : ℕ). LeadBy k o plain (q, t.1)) p.0.0 l.1))

      all_marked : Supp k (Low D r) u
      unfolding plain
      all_marked t x = at (mark_below n r t)
        where
          at : Dec (MarkBelow n r t) → Low D r t
          at (yes m) = (std t x, m)
          at (no m) = absurd (x (sym (select_inside k (λ t. dec_not (mark_below n r t)) u t m) ∙ ap (λ v. coef_at k v t) plain_zero ∙ coef_at_zero k t))

    degree_injective : Injective D
    degree_injective u std none = no_marks (length θ) (omega arith) u (all_marked u std none) none

  images_forms : AreForms k (replicate n 1) (replicate n 1 ++ ds) (variables k n ++ θ)
  images_forms = forms_append k (replicate n 1) (replicate n 1) ds (variables k n) θ
      (subst (λ (l : ℕ). AreForms k (replicate n 1) (replicate n 1) (variables k l)) (length_ones n) (variables_forms k (replicate n 1))) primaries.forms

  -- a part of what has the value 0
  pub part_value : (D : ℕ) (u : Vect k) → InVariables k (n + length θ) u → mark_value k n θ u ≡ zero_vector k → mark_value k n θ (graded_part k (key_weight (replicate n 1 ++ ds)) D u) ≡ zero_vector k
  part_value D u vars none = sym (part_substitute k (replicate n 1) W (variables k n ++ θ) images_forms D u
      (λ t x. let l = vars t x in let a = length-append (variables k n) θ in let b = length_variables k n in omega arith))
      ∙ ap (form_part k (replicate n 1) D) none ∙ graded_part_zero k (key_weight (replicate n 1)) D

  module _ (regular : Regular k θ) where
    each_degree : (b D : ℕ) → D < b → Injective D
    each_degree zero D h = absurd (omega arith)
    each_degree (suc b) D h = degree_injective regular D (λ e l. each_degree b e (omega arith))

    -- a standard form with the value 0 is 0
    pub std_value_injective : (u : Vect k) → IsMixed k n (length θ) u → IsStandardForm k n θ u → mark_value k n θ u ≡ zero_vector k → u ≡ zero_vector k
    std_value_injective u mixed std none = coef_at_ext k u (zero_vector k) (λ t. sym (graded_part_inside k (key_weight W) (key_weight W t) u t refl) ∙ ap (λ v. coef_at k v t) (part_zero (key_weight W t)))
      where
        part_zero : (D : ℕ) → graded_part k (key_weight W) D u ≡ zero_vector k
        part_zero D = each_degree (suc D) D (omega arith) (graded_part k (key_weight W) D u)
            (λ t x. (
              graded_part_supp k (key_weight W) D (λ t. t.0 ≡ 0) u mixed.polynomial t x,
              graded_part_graded k (key_weight W) D u t x,
              graded_part_supp k (key_weight W) D (λ t. length t.1.0 ≤ n + length θ) u mixed.variables t x,
              graded_part_supp k (key_weight W) D (λ t. IsStandard k n θ (variable_part n t.1)) u std t x,
            ))
            (part_value D u mixed.variables none)

    -- coordinates are unique
    pub coordinates_unique : CoordinatesAreUnique k n θ
    coordinates_unique f u v a b = equal_by_difference k u v (std_value_injective (minus k u v)
        (record {
          polynomial = supp_minus k (λ t. t.0 ≡ 0) u v a.mixed.polynomial b.mixed.polynomial;
          variables = supp_minus k (λ t. length t.1.0 ≤ n + length θ) u v a.mixed.variables b.mixed.variables;
        })
        (supp_minus k (λ t. IsStandard k n θ (variable_part n t.1)) u v a.standard b.standard)
        (linear_less k value (substitute_linear k _) u v ∙ ap₂ (minus k) a.value b.value ∙ less_itself k f))

    -- no polynomial in the marks alone has the value 0
    pub marks_independent : MarksAreIndependent k n θ
    marks_independent u mixed alone none = std_value_injective u mixed (λ t x. subst (IsStandard k n θ) (sym (alone t x)) (one_standard k n θ ds primaries)) none
