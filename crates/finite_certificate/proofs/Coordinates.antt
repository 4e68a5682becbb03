-- Over positive forms each polynomial is the value of one whose parts in the variables are standard: by the degree, with Gaussian
-- elimination in each degree.
use Rattle.std.proofs.Common.{◌≡◌, ◌∙◌, ◌+◌, ◌<◌, ◌≤◌, ℕ, zero, suc, true, List, [], ◌∷◌, ◌++◌, length, get_or, replicate, refl, sym, ap, ap₂, subst, inl, inr, ◌⊎◌, arith}
use native.Mathlib.Decide.{ℕ_discrete, dec_le}
use Rattle.alg_core.specs.BlockOrder.{length_ones}
use Rattle.alg_core.specs.ModuleLaws as modules
use Rattle.alg_core.specs.CanonicalLists.{indicator_yes}
use Rattle.alg_core.specs.Fields.{FieldOn, scalars, is_field}
use Rattle.alg_core.specs.Leads.{HasLead, has_lead}
use Rattle.alg_core.specs.RingLaws as rings
use Rattle.alg_core.specs.Keys.{Key, key_same, times_key}
use Rattle.alg_core.specs.KeyLists.{InSpace, keys_up_to}
use Rattle.std.specs.declared.cmp.Ordering.TheVariants.{Less}
use Rattle.alg_core.specs.KeyOrders.{OrderOn}
use Rattle.alg_core.specs.Lists.{In, pairs, in_pairs, numbers_below, in_numbers_below}
use Rattle.alg_core.specs.Monomials.{Mon, monomials}
use Rattle.alg_core.specs.MonomialParts.{variable_part}
use Rattle.alg_core.specs.PolynomialSpaces.{plain_space}
use Rattle.alg_core.specs.SpaceGrading.{AllPositive, weight, weight_mul, height, degree}
use Rattle.alg_core.specs.SpaceOrder.{key_order}
use Rattle.alg_core.specs.Spaces.{SpaceOver}
use Rattle.alg_core.specs.Vectors.{Vect, vectors, coef_at, plus, zero_vector}
use Rattle.alg_core.proofs.KeyLists.{keys_up_to_exact}
use Rattle.alg_core.proofs.Members.{from_pairs, from_numbers_below}
use Rattle.alg_core.proofs.MonomialParts.{variable_part_same, variable_part_mul}
use Rattle.alg_core.proofs.PolynomialSpaces.{plain_constants, plain_positive}
use Rattle.alg_core.proofs.SpanLaws.{span_member, span_ind}
use Rattle.alg_core.proofs.VectorLaws.{coef_at_plus, coef_at_zero}
use Rattle.poly_module.specs.MonomialVariables.{variable}
use Rattle.poly_module.specs.Polynomials.{single_vector, product}
use Rattle.poly_module.specs.Products.{product_linear_left, product_zero, product_comm, shift_product}
use Rattle.poly_module.specs.Substitutions.{variable_vector, substitute_zero, substitute_plus, substitute_product}
use Rattle.poly_module.specs.Variables.{substitute_linear, length_mul}
use Rattle.poly_module.specs.Parts.{Supp, coef_at_single, InVariables, supp_zero, supp_plus, supp_act, supp_single, supp_select, select, select_linear, select_plus, select_zero, select_all, select_inside, select_outside}
use Rattle.poly_module.specs.Forms.{key_weight, IsForm, dec_both}
use Rattle.poly_module.specs.Echelons.{Spans}
use Rattle.poly_module.specs.Modules.{IsSubspace, LeadBy, listed}
use Rattle.poly_module.specs.Combinations.{mark_value}
use Rattle.poly_module.proofs.Echelon.{span_split}
use Rattle.poly_module.proofs.EchelonLists.{spans_subspace, spans_supp}
use Rattle.poly_module.proofs.MarkValues.{mark_value_polynomial, mark_value_mark}
use Rattle.poly_module.proofs.ModuleElements.{module_zero, module_plus, module_act, module_product, module_member, module_ind}
use Rattle.poly_module.proofs.RelationIdeals.{linear_in_subspace}
use Rattle.poly_module.proofs.SpaceVectorLaws.{minus_unique, supp_minus}
use Rattle.finite_certificate.specs.Ideals.{InIdeal}
use Rattle.finite_certificate.specs.MarkSpaces.{ArePositiveForms}
use Rattle.finite_certificate.specs.StandardMonomials.{IsStandard, IsCoordinates, CoordinatesExist}
use Rattle.finite_certificate.proofs.ModuleTerms.{listed_past, image_member, weight_variables, weight_of_mark, variable_length, mark_variables, shift_keys}
use Rattle.finite_certificate.proofs.PowerForms.{forms_count}
use Rattle.finite_certificate.proofs.RelationLeads.{Passes, passes, member_passes, lift_outside}

positive_at : (ds : List ℕ) (i : ℕ) → i < length ds → AllPositive ds → 0 < get_or ds i 0
positive_at [] i h p = absurd (omega arith)
positive_at (d ∷ ds) zero h p = p.0
positive_at (d ∷ ds) (suc i) h p = positive_at ds i (omega arith) p.1

module _ {E : Type 0} (k : FieldOn E) (n : ℕ) (ds : List ℕ) (θ : List (Vect k)) (primaries : ArePositiveForms k n ds θ) where
  abbrev W : List ℕ
  W = replicate n 1 ++ ds

  abbrev value : Vect k → Vect k
  value = mark_value k n θ

  abbrev S : SpaceOver E
  S = plain_space k n

  abbrev o : OrderOn Key
  o = key_order S

  count : length θ ≡ length ds
  count = forms_count k (replicate n 1) ds θ primaries.forms

  abbrev Pass : ℕ → Key → Type 0
  Pass = Passes k n ds θ primaries

  abbrev pass : (D : ℕ) (t : Key) → Dec (Pass D t)
  pass = passes k n ds θ primaries

  abbrev part : ℕ → Vect k → Vect k
  part D = select k (pass D)

  -- a multiple of a member by a monomial
  abbrev multiple : Key → ℕ → Vect k
  multiple s i = product k (single_vector k s) (listed k θ i)

  abbrev Inside : ℕ → Key → ℕ → Type 0
  Inside D s i = (length s.1.0 ≤ n) × (key_weight (replicate n 1) s + get_or ds i 0 ≡ D)

  inside : (D : ℕ) (s : Key) (i : ℕ) → Dec (Inside D s i)
  inside D s i = dec_both (dec_le (length s.1.0) n) (ℕ_discrete (key_weight (replicate n 1) s + get_or ds i 0) D)

  -- inside of its degree it is its part
  multiple_part : (D : ℕ) (s : Key) (i : ℕ) → i < length θ → s.0 ≡ 0 → Inside D s i → part D (multiple s i) ≡ multiple s i
  multiple_part D s i h z p = select_all k (pass D) (multiple s i) (member_passes k n ds θ primaries D i s h z p.0 p.1)

  -- the multiples of degree D
  multiples : ℕ → List (Vect k)
  multiples D = pairs (λ i s. part D (multiple s i)) (numbers_below (length θ)) (keys_up_to S D)

  multiples_pass : (D : ℕ) (w : Vect k) → In w (multiples D) → Supp k (Pass D) w
  unfolding multiples
  multiples_pass D w i = let p = from_pairs (λ i s. part D (multiple s i)) w (numbers_below (length θ)) (keys_up_to S D) i in subst (Supp k (Pass D)) p.4 (supp_select k (pass D) (multiple p.1 p.0))

  fits : S.order.fits 0 (length S.weights) ≡ true
  fits = ap (S.order.fits 0) (sym (plain_constants k n).wide) ∙ (plain_constants k n).fits

  multiple_in : (D : ℕ) (s : Key) (i : ℕ) → i < length θ → s.0 ≡ 0 → Inside D s i → In (part D (multiple s i)) (multiples D)
  unfolding multiples degree height
  multiple_in D s i h z p =
      let e : length {A = ℕ} (replicate n 1) ≡ n = length_ones n in
      let short = p.0 in
      let up = p.1 in
      let space : InSpace S s = record { fits = ap (λ (q : ℕ). S.order.fits q (length S.weights)) z ∙ fits; variables = omega arith; position = omega arith } in
      let shift : height S.shifts s.0 ≡ 0 = ap (height S.shifts) z in
      let low : degree S s ≤ D = omega arith in
      in_pairs (λ i s. part D (multiple s i)) i s (numbers_below (length θ)) (keys_up_to S D) (in_numbers_below i (length θ) h) ((keys_up_to_exact S (plain_positive k n).1 D s).1 (space, low))

  -- the part of degree D of an element of the ideal is in the span of the multiples
  multiple_spans : (D : ℕ) (i : ℕ) (s : Key) → s.0 ≡ 0 → Spans k (multiples D) (part D (multiple s i))
  multiple_spans D i s z = at (dec_le (suc i) (length θ))
    where
      none : part D (multiple s i) ≡ zero_vector k → Spans k (multiples D) (part D (multiple s i))
      none e = subst (Spans k (multiples D)) (sym e) (spans_subspace k (multiples D)).zero

      at : Dec (suc i ≤ length θ) → Spans k (multiples D) (part D (multiple s i))
      at (no past) = none (ap (λ v. part D (product k (single_vector k s) v)) (listed_past k θ i (omega arith)) ∙ ap (part D) (product_zero k (single_vector k s)) ∙ select_zero k (pass D))
      at (yes h) = go (inside D s i)
        where
          go : Dec (Inside D s i) → Spans k (multiples D) (part D (multiple s i))
          go (yes p) = span_member (vectors k) (multiples D) _ (multiple_in D s i h z p)
          go (no p) = none (lift_outside k n ds θ primaries D i s h p)

  part_spans : (D : ℕ) (v : Vect k) → InIdeal k θ v → Spans k (multiples D) (part D v)
  part_spans D = module_ind k (listed k θ) (λ v. Spans k (multiples D) (part D v)) (subst (Spans k (multiples D)) (sym (select_zero k (pass D))) (spans_subspace k (multiples D)).zero)
      (λ f v i p h. subst (Spans k (multiples D)) (sym (select_plus k (pass D) (product k f (listed k θ i)) v))
      ((spans_subspace k (multiples D)).plus _ _ (linear_in_subspace k o (λ f. part D (product k f (listed k θ i)))
      (modules.linear_after (vectors k) (vectors k) (vectors k) (λ f. product k f (listed k θ i)) (part D) (product_linear_left k (listed k θ i)) (select_linear k (pass D)))
      (Spans k (multiples D)) (spans_subspace k (multiples D)) (λ t. t.0 ≡ 0) (multiple_spans D i) f p) h))

  -- a lead of an element of the ideal is one of its part
  part_lead : (f : Vect k) (t : Key) → t.0 ≡ 0 → length t.1.0 ≤ n → LeadBy k o f (0, t.1) → LeadBy k o (part (key_weight (replicate n 1) t) f) (0, t.1)
  unfolding coef_at
  part_lead f t z short lead = record {
    there = λ c. lead.there (sym (select_inside k (pass D) f (0, t.1) (refl, (short, refl))) ∙ c);
    above = λ s less. at s less (pass D s);
  }
    where
      D : ℕ
      D = key_weight (replicate n 1) t

      at : (s : Key) → o.compare (0, t.1) s ≡ Less → Dec (Pass D s) → coef_at k (part D f) s ≡ (scalars k).zero
      at s less (yes p) = select_inside k (pass D) f s p ∙ lead.above s less
      at s less (no p) = select_outside k (pass D) f s p

  -- a monomial as a sum of standard ones and an element of the ideal
  record Split (D : ℕ) (s : Key) : Type 0 where
    pub rest : Vect k
    pub member : Vect k
    pub spans : Spans k (multiples D) member
    pub sum : plus k rest member ≡ single_vector k s
    pub standard : Supp k (λ t. Pass D t × IsStandard k n θ t.1) rest
    pub apart : (t : Key) → LeadBy k o member t → coef_at k rest t ≡ (scalars k).zero

  split : (D : ℕ) (s : Key) → s.0 ≡ 0 → length s.1.0 ≤ n → key_weight (replicate n 1) s ≡ D → Split D s
  split D s z short here = record { rest = g; member = v; spans = p.2; sum = p.3; standard = standard; apart = λ t. p.4 v t p.2 }
    where
      p : (v : Vect k) × (g : Vect k) × Spans k (multiples D) v × (plus k g v ≡ single_vector k s) × ((w : Vect k) (t : Key) → Spans k (multiples D) w → LeadBy k o w t → coef_at k g t ≡ (scalars k).zero)
      p = span_split k o (multiples D) (single_vector k s)

      v : Vect k
      v = p.0

      g : Vect k
      g = p.1

      passing : Supp k (Pass D) g
      passing = subst (Supp k (Pass D)) (sym (minus_unique k g (single_vector k s) v p.3))
          (supp_minus k (Pass D) (single_vector k s) v (supp_single k (Pass D) s (z, (short, here))) (spans_supp k (Pass D) (multiples D) (multiples_pass D) v p.2))

      standard : Supp k (λ t. Pass D t × IsStandard k n θ t.1) g
      standard t c =
          let q = passing t c in (
            q,
            λ f inside lead. c (ap (coef_at k g) (ap (λ (i : ℕ). (i, t.1)) q.0)
                ∙ p.4 (part D f) (0, t.1) (part_spans D f inside) (subst (λ (d : ℕ). LeadBy k o (part d f) (0, t.1)) q.1.1 (part_lead f t q.0 q.1.0 lead))),
          )

  -- the span of the multiples lies in the ideal
  spans_ideal : (D : ℕ) (v : Vect k) → Spans k (multiples D) v → InIdeal k θ v
  unfolding plus zero_vector multiples
  spans_ideal D = span_ind (vectors k) (InIdeal k θ) (module_zero k (listed k θ)) (module_plus k (listed k θ)) (module_act k (listed k θ)) (multiples D)
      (λ w i. let p = from_pairs (λ i s. part D (multiple s i)) w (numbers_below (length θ)) (keys_up_to S D) i in
      let space = ((keys_up_to_exact S (plain_positive k n).1 D p.1).0 p.3).0 in
      subst (InIdeal k θ) p.4 (go p.0 p.1 (from_numbers_below p.0 (length θ) p.2) (let low = space.position in omega arith) (inside D p.1 p.0)))
    where
      go : (i : ℕ) (s : Key) → i < length θ → s.0 ≡ 0 → Dec (Inside D s i) → InIdeal k θ (part D (multiple s i))
      go i s h z (no p) = subst (InIdeal k θ) (sym (lift_outside k n ds θ primaries D i s h p)) (module_zero k (listed k θ))
      go i s h z (yes p) = subst (InIdeal k θ) (sym (multiple_part D s i h z p)) (module_product k (listed k θ) (single_vector k s) (listed k θ i) (supp_single k (λ t. t.0 ≡ 0) s z) (module_member k (listed k θ) i))

  -- a monomial in the variables is standard, or an element of the ideal has it as lead
  pub standard_decided : (m : Mon) → length m.0 ≤ n → IsStandard k n θ m ⊎ ((f : Vect k) × InIdeal k θ f × LeadBy k o f (0, m))
  unfolding coef_at zero_vector
  standard_decided m short = by_lead (has_lead (scalars k) (is_field k) key_same o p.member)
    where
      s : Key
      s = (0, m)

      p : Split (key_weight (replicate n 1) s) s
      p = split (key_weight (replicate n 1) s) s refl short refl

      there : ¬ (coef_at k (single_vector k s) s ≡ (scalars k).zero)
      there z = (is_field k).one_not_zero (sym (coef_at_single k s s ∙ indicator_yes (scalars k) (key_same s s) refl) ∙ z)

      at_sum : (t : Key) → coef_at k (single_vector k s) t ≡ (scalars k).◌+◌ (coef_at k p.rest t) (coef_at k p.member t)
      at_sum t = ap (λ v. coef_at k v t) (sym p.sum) ∙ coef_at_plus k p.rest p.member t

      by_lead : HasLead (scalars k) (is_field k) key_same o p.member → IsStandard k n θ m ⊎ ((f : Vect k) × InIdeal k θ f × LeadBy k o f (0, m))
      by_lead (inl none) = inl (p.standard s (λ z. there (at_sum s ∙ ap₂ (scalars k).◌+◌ z (ap (λ v. coef_at k v s) none ∙ coef_at_zero k s) ∙ (scalars k).add_zero (scalars k).zero))).1
      by_lead (inr l) =
          let t = l.0 in
          let only : s ≡ t = supp_single k (λ r. s ≡ r) s refl t (λ z. l.1.there (sym (rings.zero_add (scalars k) (coef_at k p.member t)) ∙ ap (λ x. (scalars k).◌+◌ x (coef_at k p.member t)) (sym (p.apart t l.1)) ∙ sym (at_sum t) ∙ z)) in
          inr (p.member, spans_ideal (key_weight (replicate n 1) s) p.member p.spans, subst (LeadBy k o p.member) (sym only) l.1)

  -- keys with a standard part in the variables, of a degree
  abbrev pub Standard : ℕ → Key → Type 0
  Standard D t = (t.0 ≡ 0) × (key_weight W t ≡ D) × (length t.1.0 ≤ n + length θ) × IsStandard k n θ (variable_part n t.1)

  -- what is the value of a standard form of degree D
  abbrev pub Reached : ℕ → Vect k → Type 0
  Reached D v = (u : Vect k) × Supp k (Standard D) u × (value u ≡ v)

  reached : (D : ℕ) → IsSubspace k (Reached D)
  reached D = record {
    zero = (zero_vector k, supp_zero k (Standard D), substitute_zero k _);
    plus = λ u v a b. (plus k a.0 b.0, supp_plus k (Standard D) a.0 b.0 a.1 b.1, substitute_plus k _ a.0 b.0 ∙ ap₂ (plus k) a.2 b.2);
    act = λ c u a. ((vectors k).◌·◌ c a.0, supp_act k (Standard D) c a.0 a.1, (substitute_linear k _).act c a.0 ∙ ap ((vectors k).◌·◌ c) a.2);
  }

  -- times a mark
  times_mark : (D : ℕ) (s : Key) (i : ℕ) → i < length θ → Inside D s i → Reached (key_weight (replicate n 1) s) (single_vector k s) → Reached D (multiple s i)
  unfolding variable_vector
  times_mark D s i h p r = (product k r.0 (variable_vector k (n + i)), keys_standard, substitute_product k _ r.0 (variable_vector k (n + i)) ∙ ap₂ (product k) r.2 (mark_value_mark k n θ i ∙ image_member k θ i h))
    where
      keys_standard : Supp k (Standard D) (product k r.0 (variable_vector k (n + i)))
      keys_standard t c =
          let mark = variable (n + i) in
          let q = shift_keys k mark r.0 t (λ z. c (ap (λ v. coef_at k v t) (product_comm k r.0 (single_vector k (0, mark)) ∙ sym (shift_product k mark r.0)) ∙ z)) in
          let s' = q.0 in
          let b = r.1 s' q.2 in
          let w = weight_mul W mark s'.1 in
          let m = weight_of_mark n ds i (omega (arith, count)) in
          let is = b.1 in
          let up = p.1 in
          let same : variable_part n (times_key mark s').1 ≡ variable_part n s'.1 =
          variable_part_mul n mark s'.1 ∙ ap (λ (a : Mon). monomials.◌·◌ a (variable_part n s'.1)) (mark_variables n i) ∙ monomials.comm monomials.one (variable_part n s'.1) ∙ monomials.mul_one (variable_part n s'.1) in
          subst (Standard D) q.1
          (b.0, omega arith, length_mul (n + length θ) mark s'.1 (variable_length (n + length θ) (n + i) (omega arith)) b.2, subst (IsStandard k n θ) (sym same) b.3)

  -- a part that lies in the span of the multiples of degree D is reached where the monomials of smaller degrees are
  module _ (D : ℕ) (before : (s : Key) → s.0 ≡ 0 → length s.1.0 ≤ n → key_weight (replicate n 1) s < D → Reached (key_weight (replicate n 1) s) (single_vector k s)) where
    multiple_reached : (i : ℕ) (s : Key) → i < length θ → s.0 ≡ 0 → Reached D (part D (multiple s i))
    multiple_reached i s h z = at (inside D s i)
      where
        at : Dec (Inside D s i) → Reached D (part D (multiple s i))
        at (no p) = subst (Reached D) (sym (lift_outside k n ds θ primaries D i s h p)) (reached D).zero
        at (yes p) =
            let positive = positive_at ds i (omega (arith, count)) primaries.positive in
            let up = p.1 in
            subst (Reached D) (sym (multiple_part D s i h z p)) (times_mark D s i h p (before s z p.0 (omega arith)))

    spans_reached : (v : Vect k) → Spans k (multiples D) v → Reached D v
    unfolding plus zero_vector multiples
    spans_reached = span_ind (vectors k) (Reached D) (reached D).zero (reached D).plus (reached D).act (multiples D)
        (λ w i. let p = from_pairs (λ i s. part D (multiple s i)) w (numbers_below (length θ)) (keys_up_to S D) i in
        let space = ((keys_up_to_exact S (plain_positive k n).1 D p.1).0 p.3).0 in
        subst (Reached D) p.4 (multiple_reached p.0 p.1 (from_numbers_below p.0 (length θ) p.2) (let low = space.position in omega arith)))

    monomial_reached : (s : Key) → s.0 ≡ 0 → length s.1.0 ≤ n → key_weight (replicate n 1) s ≡ D → Reached D (single_vector k s)
    monomial_reached s z short here =
        let p = split D s z short here in
        subst (Reached D) p.sum ((reached D).plus p.rest p.member (p.rest, rest_standard p, mark_value_polynomial k n θ p.rest (λ t c. (p.standard t c).0.0) (λ t c. (p.standard t c).0.1.0)) (spans_reached p.member p.spans))
      where
        rest_standard : (p : Split D s) → Supp k (Standard D) p.rest
        rest_standard p t c =
            let q = p.standard t c in
            let w : weight W 0 t.1.0 ≡ key_weight (replicate n 1) t = weight_variables n ds 0 t.1.0 q.0.1.0 in
            let is = q.0.1.1 in
            (q.0.0, omega arith, (let l = q.0.1.0 in omega arith), subst (IsStandard k n θ) (sym (variable_part_same n t.1 q.0.1.0)) q.1)

  -- by induction on the degree
  monomials_reached : (b : ℕ) (s : Key) → s.0 ≡ 0 → length s.1.0 ≤ n → key_weight (replicate n 1) s < b → Reached (key_weight (replicate n 1) s) (single_vector k s)
  monomials_reached zero s z short low = absurd (omega arith)
  monomials_reached (suc b) s z short low = monomial_reached (key_weight (replicate n 1) s) (λ t zt ht less. monomials_reached b t zt ht (omega arith)) s z short refl

  -- homogeneous coordinates of a form
  pub form_coordinates : (D : ℕ) (f : Vect k) → IsForm k (replicate n 1) D f → InVariables k n f → (u : Vect k) × IsCoordinates k n θ f u × IsForm k W D u
  form_coordinates D f form vars =
      let r = linear_in_subspace k o (λ v. v) (modules.linear_same (vectors k)) (Reached D) (reached D) (λ t. (t.0 ≡ 0) × (length t.1.0 ≤ n) × (key_weight (replicate n 1) t ≡ D))
      (λ t h. subst (λ (d : ℕ). Reached d (single_vector k t)) h.2 (monomials_reached (suc (key_weight (replicate n 1) t)) t h.0 h.1 (omega arith))) f (λ t c. ((form t c).0, vars t c, (form t c).1)) in (
        r.0,
        record { mixed = record { polynomial = λ t c. (r.1 t c).0; variables = λ t c. (r.1 t c).2 }; standard = λ t c. (r.1 t c).3; value = r.2 },
        λ t c. ((r.1 t c).0, (r.1 t c).1),
      )

  abbrev AnyStandard : Key → Type 0
  AnyStandard t = (t.0 ≡ 0) × (length t.1.0 ≤ n + length θ) × IsStandard k n θ (variable_part n t.1)

  abbrev AnyReached : Vect k → Type 0
  AnyReached v = (u : Vect k) × Supp k AnyStandard u × (value u ≡ v)

  any_reached : IsSubspace k AnyReached
  any_reached = record {
    zero = (zero_vector k, supp_zero k AnyStandard, substitute_zero k _);
    plus = λ u v a b. (plus k a.0 b.0, supp_plus k AnyStandard a.0 b.0 a.1 b.1, substitute_plus k _ a.0 b.0 ∙ ap₂ (plus k) a.2 b.2);
    act = λ c u a. ((vectors k).◌·◌ c a.0, supp_act k AnyStandard c a.0 a.1, (substitute_linear k _).act c a.0 ∙ ap ((vectors k).◌·◌ c) a.2);
  }

  pub coordinates : CoordinatesExist k n θ
  coordinates f poly vars =
      let r = linear_in_subspace k o (λ v. v) (modules.linear_same (vectors k)) AnyReached any_reached (λ t. (t.0 ≡ 0) × (length t.1.0 ≤ n))
      (λ t h. let m = monomials_reached (suc (key_weight (replicate n 1) t)) t h.0 h.1 (omega arith) in (m.0, (λ s c. ((m.1 s c).0, (m.1 s c).2, (m.1 s c).3)), m.2)) f (λ t c. (poly t c, vars t c)) in (
        r.0,
        record { mixed = record { polynomial = λ t c. (r.1 t c).0; variables = λ t c. (r.1 t c).1 }; standard = λ t c. (r.1 t c).2; value = r.2 },
      )
