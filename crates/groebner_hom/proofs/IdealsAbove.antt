-- Elements above a cap of the ideal of forms, in the variables and with marks: by the monomials that are not standard.
use Rattle.std.proofs.Common.{◌≡◌, ◌∙◌, ◌⊎◌, ◌+◌, ◌<◌, ◌≤◌, ℕ, List, [], ◌∷◌, length, replicate, refl, sym, ap, ap₂, subst, inl, inr, arith}
use Rattle.std.specs.declared.cmp.Ordering.TheVariants.{Less}
use native.Mathlib.Decide.{dec_le}
use Rattle.std.proofs.lemmas.List.{length-append}
use Rattle.alg_core.specs.BlockOrder.{length_ones}
use Rattle.alg_core.specs.Fields.{FieldOn, scalars}
use Rattle.alg_core.specs.KeyOrders.{OrderOn}
use Rattle.alg_core.specs.Keys.{Key, KeyDivides, times_key, times_key_mul}
use Rattle.alg_core.specs.Lists.{In}
use Rattle.alg_core.specs.MonomialParts.{variable_part, mark_part, as_marks}
use Rattle.alg_core.specs.Monomials.{Mon, monomials}
use Rattle.alg_core.specs.PolynomialSpaces.{plain_space}
use Rattle.alg_core.specs.SpaceGrading.{weight, height, degree}
use Rattle.alg_core.specs.SpaceOrder.{key_order, key_compare}
use Rattle.alg_core.specs.DpOrder.{dp_order}
use Rattle.alg_core.specs.Spaces.{SpaceOver}
use Rattle.alg_core.specs.Vectors.{Vect, coef_at}
use Rattle.alg_core.proofs.BlockKeys.{in_variables_alone}
use Rattle.alg_core.proofs.MonomialParts.{parts, length_variable_part}
use Rattle.poly_module.specs.Caps.{IsAboveCap}
use Rattle.poly_module.specs.Modules.{LeadBy}
use Rattle.poly_module.specs.Parts.{Supp, IsPolynomial, InVariables, select, select_inside, select_outside, supp_select}
use Rattle.poly_module.specs.SpaceVectors.{IsUpTo}
use Rattle.finite_certificate.specs.Ideals.{InIdeal}
use Rattle.finite_certificate.specs.MarkSpaces.{IsMarkSpace, ArePositiveForms}
use Rattle.finite_certificate.specs.StandardMonomials.{IsStandard}
use Rattle.finite_certificate.proofs.Coordinates.{standard_decided}
use Rattle.finite_certificate.proofs.ModuleTerms.{factor_length, image_member, weight_variables}
use Rattle.finite_certificate.proofs.PowerForms.{forms_count}
use Rattle.finite_certificate.proofs.RelationLeads.{Passes, passes, lift}
use Rattle.groebner_hom.proofs.LeadsOfRelations.{standard_dec}
use Rattle.groebner_hom.proofs.MarkedKeys.{marked}
use Rattle.groebner_hom.proofs.MarkedValues.{form_plain, value_ideal}
use Rattle.groebner_hom.proofs.StrippedElements.{inner, element_polynomial}

pub divides_trans : (r s t : Key) → KeyDivides r s → KeyDivides s t → KeyDivides r t
divides_trans r s t a b = (monomials.◌·◌ b.0 a.0, times_key_mul b.0 a.0 r ∙ ap (times_key b.0) a.1 ∙ b.1)

pub divisor_length : (n : ℕ) (s : Key) (m : Mon) → length m.0 ≤ n → KeyDivides s (0, m) → length s.1.0 ≤ n
divisor_length n s m short d = factor_length n s.1 d.0 (subst (λ (a : Mon). length a.0 ≤ n) (sym (ap (λ (t : Key). t.1) d.1) ∙ monomials.comm d.0 s.1) short)

pub part_divides : (n : ℕ) (t : Key) → t.0 ≡ 0 → KeyDivides (0, variable_part n t.1) t
part_divides n t z = (as_marks n (mark_part n t.1), ap₂ (λ (q : ℕ) (a : Mon). (q, a)) (sym z) (monomials.comm (as_marks n (mark_part n t.1)) (variable_part n t.1) ∙ parts n t.1))

-- a space whose keys in n variables are ordered, and have degrees, as in the space of these alone
pub record IsPlainIn {E : Type 0} (T : SpaceOver E) (n : ℕ) : Type 0 where
  pub order : (s t : Key) → length s.1.0 ≤ n → length t.1.0 ≤ n → (key_order T).compare s t ≡ (key_order (plain_space T.field n)).compare s t
  pub degrees : (t : Key) → t.0 ≡ 0 → length t.1.0 ≤ n → degree T t ≡ weight (replicate n 1) 0 t.1.0

pub plain_in_plain : {E : Type 0} (k : FieldOn E) (n : ℕ) → IsPlainIn (plain_space k n) n
unfolding degree height
plain_in_plain k n = record { order = λ s t hs ht. refl; degrees = λ t z short. let h : height (0 ∷ []) t.0 ≡ 0 = ap (height (0 ∷ [])) z in omega arith }

pub mark_space_plain : {E : Type 0} (S : SpaceOver E) (n : ℕ) (ds : List ℕ) → IsMarkSpace S n ds → IsPlainIn S n
unfolding degree
mark_space_plain S n ds space = record {
  order = λ s t hs ht. ap₂ (λ (m : ℕ) p. key_compare m p s t) (ap length space.weights ∙ length-append (replicate n 1) ds ∙ ap (λ m. m + length ds) (length_ones n)) space.order
      ∙ in_variables_alone n ds s t hs ht ∙ ap (λ (m : ℕ). key_compare m (dp_order (replicate n 1)) s t) (sym (length_ones n));
  degrees = λ t z short. let h : height S.shifts t.0 ≡ 0 = ap (height S.shifts) z ∙ space.shift in let w : weight S.weights 0 t.1.0 ≡ weight (replicate n 1) 0 t.1.0 = ap (λ ws. weight ws 0 t.1.0) space.weights ∙ weight_variables n ds 0 t.1.0 short in omega arith;
}

module _ {E : Type 0} (k : FieldOn E) (n : ℕ) (ds : List ℕ) (θ : List (Vect k)) (primaries : ArePositiveForms k n ds θ) where
  abbrev Degree : Mon → ℕ
  Degree m = weight (replicate n 1) 0 m.0

  abbrev plain : OrderOn Key
  plain = key_order (plain_space k n)

  -- a monomial of a degree over the cap that is not standard, with standard divisors of degrees up to the cap
  pub record IsAboveMonomial (cap : ℕ) (m : Mon) : Type 0 where
    pub short : length m.0 ≤ n
    pub other : ¬ IsStandard k n θ m
    pub over : cap < weight (replicate n 1) 0 m.0
    pub new : (a : Mon) → weight (replicate n 1) 0 a.0 ≤ cap → KeyDivides (0, a) (0, m) → IsStandard k n θ a

  -- the part of an element of the ideal that has its lead
  module _ (o p : OrderOn Key) (agree : (s t : Key) → length s.1.0 ≤ n → length t.1.0 ≤ n → o.compare s t ≡ p.compare s t) (f : Vect k) (m : Mon) (short : length m.0 ≤ n)
      (inside : InIdeal k θ f) (lead : LeadBy k o f (0, m)) where
    abbrev part : Vect k
    part = select k (passes k n ds θ primaries (weight (replicate n 1) 0 m.0)) f

    pub part_inside : InIdeal k θ (select k (passes k n ds θ primaries (weight (replicate n 1) 0 m.0)) f)
    part_inside =
        let c = forms_count k (replicate n 1) ds θ primaries.forms in
        let l = lift k n ds θ primaries (Degree m) f inside in
        subst (InIdeal k θ) l.2 (value_ideal k n θ (form_plain k n ds θ primaries) plain θ (length θ) (image_member k θ) l.0 (λ t x. let q = l.1 t x in let s = q.2 in marked n (length θ) t (omega arith) q.3))

    pub part_lead : LeadBy k p (select k (passes k n ds θ primaries (weight (replicate n 1) 0 m.0)) f) (0, m)
    unfolding coef_at
    part_lead = record { there = λ z. lead.there (sym (select_inside k (passes k n ds θ primaries (Degree m)) f (0, m) (refl, (short, refl))) ∙ z); above = λ s less. at s less (passes k n ds θ primaries (Degree m) s) }
      where
        at : (s : Key) → p.compare (0, m) s ≡ Less → Dec (Passes k n ds θ primaries (Degree m) s) → coef_at k part s ≡ (scalars k).zero
        at s less (yes q) = select_inside k (passes k n ds θ primaries (Degree m)) f s q ∙ lead.above s (agree (0, m) s short q.1.0 ∙ less)
        at s less (no q) = select_outside k (passes k n ds θ primaries (Degree m)) f s q

module _ {E : Type 0} (T : SpaceOver E) (n : ℕ) (ds : List ℕ) (θ : List (Vect T.field)) (space : IsPlainIn T n) (primaries : ArePositiveForms T.field n ds θ) where
  abbrev k : FieldOn E
  k = T.field

  abbrev o : OrderOn Key
  o = key_order T

  abbrev plainly : OrderOn Key
  plainly = key_order (plain_space T.field n)

  abbrev degree_of : Mon → ℕ
  degree_of m = weight (replicate n 1) 0 m.0

  -- a lead of the ideal is not standard
  pub lead_other : (f : Vect T.field) (m : Mon) → length m.0 ≤ n → InIdeal T.field θ f → LeadBy T.field (key_order T) f (0, m) → ¬ IsStandard T.field n θ m
  lead_other f m short inside lead std = std (select k (passes k n ds θ primaries (degree_of m)) f) (part_inside k n ds θ primaries o plainly space.order f m short inside lead) (part_lead k n ds θ primaries o plainly space.order f m short inside lead)

  -- and each other monomial is the lead of a homogeneous element
  pub record Member (m : Mon) : Type 0 where
    pub member : Vect T.field
    pub inside : InIdeal T.field θ member
    pub keys : Supp T.field (λ t. degree T t ≡ weight (replicate n 1) 0 m.0) member
    pub lead : LeadBy T.field (key_order T) member (0, m)

  pub member_with_lead : (m : Mon) → length m.0 ≤ n → ¬ IsStandard T.field n θ m → Member m
  member_with_lead m short other = at (standard_decided k n ds θ primaries m short)
    where
      agree : (s t : Key) → length s.1.0 ≤ n → length t.1.0 ≤ n → plainly.compare s t ≡ o.compare s t
      agree s t hs ht = sym (space.order s t hs ht)

      at : IsStandard k n θ m ⊎ ((f : Vect k) × InIdeal k θ f × LeadBy k plainly f (0, m)) → Member m
      at (inl std) = absurd (other std)
      at (inr f) = record {
        member = select k (passes k n ds θ primaries (degree_of m)) f.0;
        inside = part_inside k n ds θ primaries plainly o agree f.0 m short f.1 f.2;
        keys = λ t c. let q = supp_select k (passes k n ds θ primaries (degree_of m)) f.0 t c in space.degrees t q.0 q.1.0 ∙ q.1.1;
        lead = part_lead k n ds θ primaries plainly o agree f.0 m short f.1 f.2;
      }

  -- from the monomial to an element
  pub above_from : (cap : ℕ) (m : Mon) → IsAboveMonomial T.field n ds θ primaries cap m → (v : Vect T.field) × IsAboveCap T (InIdeal T.field θ) cap v (0, m)
  unfolding coef_at
  above_from cap m h = (r.member, record { inside = r.inside; lead = r.lead; homogeneous = λ t c. r.keys t c ∙ sym whole; over = (let w = whole in let l = h.over in omega arith); new = new })
    where
      r : Member m
      r = member_with_lead m h.short h.other

      whole : degree T (0, m) ≡ degree_of m
      whole = space.degrees (0, m) refl h.short

      new : (w : Vect k) (s : Key) → InIdeal k θ w → IsUpTo T cap w → LeadBy k o w s → ¬ KeyDivides s (0, m)
      new w s inside low lead d =
          let z : s.0 ≡ 0 = ap (λ (t : Key). t.0) d.1 in
          let short = divisor_length n s m h.short d in
          let up = low s lead.there in
          let e = space.degrees s z short in
          let same : s ≡ (0, s.1) = ap (λ (q : ℕ). (q, s.1)) z in
          lead_other w s.1 short inside (subst (LeadBy k o w) same lead) (h.new s.1 (omega arith) (subst (λ (t : Key). KeyDivides t (0, m)) same d))

  -- and back
  pub above_to : (cap : ℕ) (v : Vect T.field) (t : Key) → IsAboveCap T (InIdeal T.field θ) cap v t → (m : Mon) × IsAboveMonomial T.field n ds θ primaries cap m
  unfolding coef_at
  above_to cap v t h = (m, record { short = length_variable_part n t.1; other = other; over = over (dec_le (degree_of m) cap); new = λ a low d. standard a low d (standard_dec k n ds θ primaries a (divisor_length n (0, a) m (length_variable_part n t.1) d)) })
    where
      m : Mon
      m = variable_part n t.1

      given : (f : Vect k) → In f θ → IsPolynomial k f × InVariables k n f
      given = form_plain k n ds θ primaries

      divides : KeyDivides (0, m) t
      divides = part_divides n t (element_polynomial k n o θ given v h.inside t h.lead.there)

      other : ¬ IsStandard k n θ m
      other = let i = inner T n θ given v t h.inside h.lead in lead_other i.element m (length_variable_part n t.1) i.inside i.lead

      -- no small element of the ideal has a lead that divides it
      none : (a : Mon) → length a.0 ≤ n → ¬ IsStandard k n θ a → degree_of a ≤ cap → ¬ KeyDivides (0, a) t
      none a short x low d = let r = member_with_lead a short x in h.new r.member (0, a) r.inside (λ s c. let e = r.keys s c in omega arith) r.lead d

      over : Dec (degree_of m ≤ cap) → cap < degree_of m
      over (no high) = omega arith
      over (yes low) = absurd (none m (length_variable_part n t.1) other low divides)

      standard : (a : Mon) → degree_of a ≤ cap → KeyDivides (0, a) (0, m) → Dec (IsStandard k n θ a) → IsStandard k n θ a
      standard a low d (yes s) = s
      standard a low d (no x) = absurd (none a (divisor_length n (0, a) m (length_variable_part n t.1) d) x low (divides_trans (0, a) (0, m) t d divides))
