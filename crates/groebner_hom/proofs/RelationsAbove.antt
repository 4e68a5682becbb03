-- The ideal of the relations between forms and their marks has elements above a cap exactly where the ideal of the forms has.
use Rattle.std.proofs.Common.{◌≡◌, ◌∙◌, ◌+◌, ◌<◌, ◌≤◌, ℕ, suc, List, [], ◌∷◌, ◌++◌, length, replicate, refl, sym, ap, subst, inl, inr, Result, Ok, Err, arith}
use Rattle.std.specs.Prelude.{IfOk}
use native.Mathlib.Decide.{dec_le}
use Rattle.alg_core.specs.Fields.{FieldOn}
use Rattle.alg_core.specs.KeyOrders.{OrderOn}
use Rattle.alg_core.specs.Keys.{Key, KeyDivides}
use Rattle.alg_core.specs.Lists.{In}
use Rattle.alg_core.specs.MonomialParts.{variable_part}
use Rattle.alg_core.specs.Monomials.{Mon, mon_ext, exponent}
use Rattle.alg_core.specs.PolynomialSpaces.{plain_space, marked_space}
use Rattle.alg_core.specs.SpaceGrading.{weight, height, degree}
use Rattle.alg_core.specs.SpaceOrder.{key_order}
use Rattle.alg_core.specs.Spaces.{SpaceOver}
use Rattle.alg_core.specs.Vectors.{Vect, coef_at}
use Rattle.alg_core.proofs.MonomialParts.{length_variable_part, variable_part_same, variable_part_past, exponent_variable_part}
use Rattle.poly_module.specs.Caps.{IsAboveCap}
use Rattle.poly_module.specs.Forms.{key_weight}
use Rattle.poly_module.specs.Marks.{IsRelation, relations, relations_from}
use Rattle.poly_module.specs.Modules.{LeadBy}
use Rattle.poly_module.specs.Parts.{Supp, IsPolynomial, InVariables, supp_single, supp_weaken}
use Rattle.poly_module.specs.MonomialVariables.{variable}
use Rattle.poly_module.specs.SpaceVectors.{IsUpTo}
use Rattle.poly_module.specs.Substitutions.{variable_vector}
use Rattle.poly_module.proofs.SpaceVectorLaws.{supp_minus}
use Rattle.module_groebner.specs.BasisBounds.{NothingAbove}
use Rattle.finite_certificate.specs.Ideals.{InIdeal, Regular}
use Rattle.finite_certificate.specs.MarkSpaces.{IsMarkSpace, ArePositiveForms}
use Rattle.finite_certificate.specs.StandardMonomials.{IsStandard}
use Rattle.finite_certificate.proofs.ModuleTerms.{weight_variables, variable_length}
use Rattle.finite_certificate.proofs.RelationLeads.{lead_drops}
use Rattle.groebner_hom.proofs.LeadsOfRelations.{standard_dec, form_relation, relation_with_lead, lead_not_standard}
use Rattle.groebner_hom.proofs.LiftLeads.{same_orders, element_relation, relation_element}
use Rattle.groebner_hom.proofs.MarkedValues.{form_plain}
use Rattle.groebner_hom.proofs.StrippedElements.{inner, element_polynomial}
use Rattle.groebner_hom.proofs.IdealsAbove.{IsPlainIn, plain_in_plain, mark_space_plain, IsAboveMonomial, above_from, above_to, divides_trans, divisor_length, part_divides}

-- the part in the first variables of that in more
part_of_part : (n r : ℕ) (m : Mon) → variable_part n (variable_part (n + r) m) ≡ variable_part n m
part_of_part n r m = mon_ext _ _ (λ i. at i (dec_le n i))
  where
    at : (i : ℕ) → Dec (n ≤ i) → exponent (variable_part n (variable_part (n + r) m)).0 i ≡ exponent (variable_part n m).0 i
    at i (yes past) = variable_part_past n _ i past ∙ sym (variable_part_past n m i past)
    at i (no low) = exponent_variable_part n _ i (omega arith) ∙ exponent_variable_part (n + r) m i (omega arith) ∙ sym (exponent_variable_part n m i (omega arith))

module _ {E : Type 0} (S : SpaceOver E) (n : ℕ) (ds : List ℕ) (θ : List (Vect S.field)) (space : IsMarkSpace S n ds) (primaries : ArePositiveForms S.field n ds θ) where
  abbrev k : FieldOn E
  k = S.field

  abbrev o : OrderOn Key
  o = key_order S

  abbrev degree_of : Mon → ℕ
  degree_of m = weight (replicate n 1) 0 m.0

  abbrev Relations : Vect S.field → Type 0
  Relations = InIdeal S.field (relations S.field n θ)

  abbrev Above : ℕ → Mon → Type 0
  Above = IsAboveMonomial S.field n ds θ primaries

  -- the ideal in the variables and with marks
  pub nothing_with_marks : (cap : ℕ) → NothingAbove (plain_space S.field n) (InIdeal S.field θ) cap → NothingAbove S (InIdeal S.field θ) cap
  nothing_with_marks cap none v t h =
      let m = above_to S n ds θ (mark_space_plain S n ds space) primaries cap v t h in
      let w = above_from (plain_space k n) n ds θ (plain_in_plain k n) primaries cap m.0 m.1 in
      none w.0 (0, m.0) w.1

  -- the relations are polynomials in the variables and marks
  relations_plain : (f : Vect S.field) → In f (relations S.field n θ) → IsPolynomial S.field f × InVariables S.field (n + length θ) f
  unfolding variable_vector
  relations_plain = go 0 θ (form_plain k n ds θ primaries) (omega arith)
    where
      go : (j : ℕ) (fs : List (Vect k)) → ((f : Vect k) → In f fs → IsPolynomial k f × InVariables k n f) → j + length fs ≤ length θ → (f : Vect k) → In f (relations_from k n j fs) → IsPolynomial k f × InVariables k (n + length θ) f
      go j [] given low f i = absurd i
      go j (g ∷ fs) given low f (inl e) =
          let h = given g (inl refl) in
          subst (λ x. IsPolynomial k x × InVariables k (n + length θ) x) e (
            supp_minus k (λ t. t.0 ≡ 0) g (variable_vector k (n + j)) h.0 (supp_single k (λ t. t.0 ≡ 0) (0, variable (n + j)) refl),
            supp_minus k (λ t. length t.1.0 ≤ n + length θ) g (variable_vector k (n + j)) (supp_weaken k (λ t. length t.1.0 ≤ n) (λ t. length t.1.0 ≤ n + length θ) (λ t s. omega arith) g h.1)
                (supp_single k (λ t. length t.1.0 ≤ n + length θ) (0, variable (n + j)) (variable_length (n + length θ) (n + j) (omega arith))),
          )
      go j (g ∷ fs) given low f (inr i) = go (suc j) fs (λ f i. given f (inr i)) (omega arith) f i

  -- an element of the ideal of the relations, and the same in the variables and marks
  inner_relation : (v : Vect S.field) (t : Key) → Relations v → LeadBy S.field (key_order S) v t → (u : Vect S.field) × IsRelation S.field n θ u × LeadBy S.field (key_order S) u (0, variable_part (n + length θ) t.1)
  inner_relation v t inside lead =
      let i = inner S (n + length θ) (relations k n θ) relations_plain v t inside lead in
      (i.element, element_relation S n ds θ space primaries i.element i.polynomial i.variables i.inside, i.lead)

  in_blocks : (u : Vect S.field) (t : Key) → LeadBy S.field (key_order S) u t → LeadBy S.field (key_order (marked_space S.field n ds)) u t
  in_blocks u t = subst (λ p. LeadBy k p u t) (same_orders S n ds θ space primaries)

  -- a monomial in the variables that is not standard is the lead of a homogeneous relation
  record Member (m : Mon) : Type 0 where
    pub member : Vect S.field
    pub inside : Relations member
    pub keys : Supp S.field (λ t. degree S t ≡ weight (replicate n 1) 0 m.0) member
    pub lead : LeadBy S.field (key_order S) member (0, m)

  relation_member : (m : Mon) → length m.0 ≤ n → ¬ IsStandard S.field n θ m → Member m
  unfolding degree
  relation_member m short other =
      let same = variable_part_same n m short in
      let r = relation_with_lead k n ds θ primaries (0, m) refl (omega arith) (subst (λ (a : Mon). ¬ IsStandard k n θ a) (sym same) other) in
      let d = weight_variables n ds 0 m.0 short in
      record {
        member = r.0;
        inside = relation_element S n ds θ space primaries r.0 (form_relation k n ds θ primaries _ r.0 r.1);
        keys = λ t c. let q = r.1.keys t c in let h : height S.shifts t.0 ≡ 0 = ap (height S.shifts) q.0 ∙ space.shift in let w : weight S.weights 0 t.1.0 ≡ key_weight (replicate n 1 ++ ds) t = ap (λ ws. weight ws 0 t.1.0) space.weights in let e = q.1 in omega arith;
        lead = subst (λ p. LeadBy k p r.0 (0, m)) (sym (same_orders S n ds θ space primaries)) r.2;
      }

  pub relations_from_above : (cap : ℕ) (m : Mon) → IsAboveMonomial S.field n ds θ primaries cap m → (v : Vect S.field) × IsAboveCap S (InIdeal S.field (relations S.field n θ)) cap v (0, m)
  unfolding coef_at
  relations_from_above cap m h = (r.member, record { inside = r.inside; lead = r.lead; homogeneous = λ t c. r.keys t c ∙ sym whole; over = (let w = whole in let l = h.over in omega arith); new = new })
    where
      plainly : IsPlainIn S n
      plainly = mark_space_plain S n ds space

      r : Member m
      r = relation_member m h.short h.other

      whole : degree S (0, m) ≡ degree_of m
      whole = plainly.degrees (0, m) refl h.short

      new : (w : Vect k) (s : Key) → Relations w → IsUpTo S cap w → LeadBy k o w s → ¬ KeyDivides s (0, m)
      new w s inside low lead d =
          let z : s.0 ≡ 0 = ap (λ (t : Key). t.0) d.1 in
          let short = divisor_length n s m h.short d in
          let up = low s lead.there in
          let e = plainly.degrees s z short in
          let i = inner_relation w s inside lead in
          let same : variable_part (n + length θ) s.1 ≡ s.1 = variable_part_same (n + length θ) s.1 (omega arith) in
          let f = lead_drops k n ds θ primaries s.1 short i.0 i.1 (in_blocks i.0 (0, s.1) (subst (λ (a : Mon). LeadBy k o i.0 (0, a)) same i.2)) in
          h.new s.1 (omega arith) (subst (λ (q : ℕ). KeyDivides (q, s.1) (0, m)) z d) f.0 f.1 f.2

  pub relations_to_above : Regular S.field θ → (cap : ℕ) (v : Vect S.field) (t : Key) → IsAboveCap S (InIdeal S.field (relations S.field n θ)) cap v t → (m : Mon) × IsAboveMonomial S.field n ds θ primaries cap m
  unfolding coef_at
  relations_to_above regular cap v t h = (m, record { short = length_variable_part n t.1; other = other; over = over (dec_le (degree_of m) cap); new = λ a low d. standard a low d (standard_dec k n ds θ primaries a (divisor_length n (0, a) m (length_variable_part n t.1) d)) })
    where
      m : Mon
      m = variable_part n t.1

      divides : KeyDivides (0, m) t
      divides = part_divides n t (element_polynomial k (n + length θ) o (relations k n θ) relations_plain v h.inside t h.lead.there)

      other : ¬ IsStandard k n θ m
      other =
          let i = inner_relation v t h.inside h.lead in
          subst (λ (a : Mon). ¬ IsStandard k n θ a) (part_of_part n (length θ) t.1) (lead_not_standard k n ds θ primaries regular i.0 (0, variable_part (n + length θ) t.1) i.1 (in_blocks i.0 _ i.2))

      none : (a : Mon) → length a.0 ≤ n → ¬ IsStandard k n θ a → degree_of a ≤ cap → ¬ KeyDivides (0, a) t
      none a short x low d = let r = relation_member a short x in h.new r.member (0, a) r.inside (λ s c. let e = r.keys s c in omega arith) r.lead d

      over : Dec (degree_of m ≤ cap) → cap < degree_of m
      over (no high) = omega arith
      over (yes low) = absurd (none m (length_variable_part n t.1) other low divides)

      standard : (a : Mon) → degree_of a ≤ cap → KeyDivides (0, a) (0, m) → Dec (IsStandard k n θ a) → IsStandard k n θ a
      standard a low d (yes s) = s
      standard a low d (no x) = absurd (none a (divisor_length n (0, a) m (length_variable_part n t.1) d) x low (divides_trans (0, a) (0, m) t d divides))

  -- the ideal of the relations is above the cap exactly where that of the forms is
  pub nothing_of_forms : (cap : ℕ) → NothingAbove S (InIdeal S.field (relations S.field n θ)) cap → NothingAbove S (InIdeal S.field θ) cap
  nothing_of_forms cap none v t h =
      let m = above_to S n ds θ (mark_space_plain S n ds space) primaries cap v t h in
      let w = relations_from_above cap m.0 m.1 in
      none w.0 (0, m.0) w.1

  pub some_of_forms : Regular S.field θ → (cap : ℕ) (v : Vect S.field) (t : Key) → IsAboveCap S (InIdeal S.field (relations S.field n θ)) cap v t → ¬ NothingAbove S (InIdeal S.field θ) cap
  some_of_forms regular cap v t h none =
      let m = relations_to_above regular cap v t h in
      let w = above_from S n ds θ (mark_space_plain S n ds space) primaries cap m.0 m.1 in
      none w.0 (0, m.0) w.1

  pub result_of_forms : {X Y : Type 0} (cap : ℕ) (r : Result X Y) → IfOk r (λ _. NothingAbove S (InIdeal S.field (relations S.field n θ)) cap) → IfOk r (λ _. NothingAbove S (InIdeal S.field θ) cap)
  result_of_forms cap (Ok x) none = nothing_of_forms cap none
  result_of_forms cap (Err e) none = tt
