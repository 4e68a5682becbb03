-- The S-vector of two vectors: the size of the factors, and what the difference of the two multiples is.
use Rattle.std.proofs.Common.{◌≡◌, ◌<◌, ◌≤◌, ℕ, List, length, sym, ap, ap₂, ◌∙◌, refl, subst, arith}
use native.Mathlib.Decide.{dec_le}
use Rattle.alg_core.specs.Fields.{FieldOn}
use Rattle.alg_core.specs.CommonMultiples.{common_multiple}
use Rattle.alg_core.specs.Monomials.{Mon, monomials, mono, mon_cancel}
use Rattle.alg_core.specs.Keys.{TermPlace, Key, key, times_key, KeyDivides}
use Rattle.alg_core.specs.declared.term.Term.{Term}
use Rattle.alg_core.specs.Spaces.{SpaceOver, IsPlace}
use Rattle.alg_core.specs.SpaceOrder.{key_order}
use Rattle.alg_core.specs.SpaceGrading.{AllPositive, weight, weight_mul, degree, degree_times_key}
use Rattle.alg_core.specs.Vectors.{Vect, plus, shift}
use Rattle.alg_core.proofs.KeyMultiples.{key_lcm_least}
use Rattle.poly_module.specs.Modules.{LeadBy}
use Rattle.poly_module.specs.Parts.{supp_act, supp_shift}
use Rattle.poly_module.specs.Signs.{minus}
use Rattle.poly_module.specs.Sizes.{HasRoomAt}
use Rattle.poly_module.specs.SpaceVectors.{vector_of, IsVector, IsUpTo}
use Rattle.poly_module.proofs.Room.{room_at}
use Rattle.poly_module.proofs.SpaceVectorLaws.{minus_plus, minus_unique, supp_minus}
use Rattle.module_groebner.specs.HomogeneousLists.{cap_limit, degree_limit}
use Rattle.module_groebner.specs.SVectors.{IsMonicMultiple, IsSVector}
use Rattle.module_groebner.proofs.ReductionSteps.{same_lead, weight_of, bounded_lead}

pub key_position : (p : TermPlace) → (key p).0 ≡ p.0
unfolding key
key_position p = refl

-- a factor is no heavier than another one whose product with the key it divides
factor_weight : (ws : List ℕ) (m n : Mon) (s l : Key) → times_key m s ≡ l → KeyDivides l (times_key n s) → weight ws 0 m.0 ≤ weight ws 0 n.0
factor_weight ws m n s l e d =
    let whole : monomials.◌·◌ d.0 (monomials.◌·◌ m s.1) ≡ monomials.◌·◌ n s.1 = ap (λ u. monomials.◌·◌ d.0 u.1) e ∙ ap (λ u. u.1) d.1 in
    let same : monomials.◌·◌ d.0 m ≡ n = mon_cancel s.1 _ _ (monomials.comm s.1 _ ∙ monomials.assoc d.0 m s.1 ∙ whole ∙ monomials.comm n s.1) in
    let sum = weight_mul ws d.0 m in
    let w : weight ws 0 (monomials.◌·◌ d.0 m).0 ≡ weight ws 0 n.0 = ap (λ u. weight ws 0 u.0) same in
    omega arith

module _ {E : Type 0} (S : SpaceOver E) where
  abbrev k : FieldOn E
  k = S.field

  weight_in_degree : (t : Key) → weight S.weights 0 t.1.0 ≤ degree S t
  unfolding degree
  weight_in_degree t = omega arith

  pub left_low : (s t : Key) (m : Mon) → s.0 ≡ t.0 → times_key m s ≡ common_multiple s t → weight S.weights 0 m.0 ≤ degree S t
  left_low s t m p e =
      let both : KeyDivides (common_multiple s t) (times_key t.1 s) = key_lcm_least s t (times_key t.1 s) (t.1, refl) (s.1, ap₂ (λ i a. (i, a)) (sym p) (monomials.comm s.1 t.1)) in
      let h = factor_weight S.weights m t.1 s (common_multiple s t) e both in
      let w = weight_in_degree t in
      omega arith

  pub right_low : (s t : Key) (m : Mon) → s.0 ≡ t.0 → times_key m t ≡ common_multiple s t → weight S.weights 0 m.0 ≤ degree S s
  right_low s t m p e =
      let both : KeyDivides (common_multiple s t) (times_key s.1 t) = key_lcm_least s t (times_key s.1 t) (t.1, ap₂ (λ i a. (i, a)) p (monomials.comm t.1 s.1)) (s.1, refl) in
      let h = factor_weight S.weights m s.1 t (common_multiple s t) e both in
      let w = weight_in_degree s in
      omega arith

  -- a factor and a vector within the cap have room
  pub room_low : {M : Type 0} (exps : M → List ℕ) → AllPositive S.weights → (m : List ℕ) (v : List (Term E M)) → length m ≡ length S.weights → weight S.weights 0 (mono m).0 ≤ cap_limit
      → IsVector S exps v → IsUpTo S cap_limit (vector_of S exps v) → HasRoomAt degree_limit exps m v
  room_low exps positive m v wide low fits up = let w = weight_of S m wide in room_at S positive exps degree_limit cap_limit cap_limit m v (omega arith) wide (omega arith) fits up

  -- the common multiple of two places
  pub lcm_place : (p q l : TermPlace) → IsPlace S p → key l ≡ common_multiple (key p) (key q) → length l.1 ≡ length p.1 → IsPlace S l
  lcm_place p q l h e w =
      let at : l.0 ≡ p.0 = sym (key_position l) ∙ ap (λ u. u.0) e ∙ key_position p in
      record { fits = ap₂ S.order.fits at w ∙ h.fits; wide = w ∙ h.wide; low = subst (λ i. i < length S.shifts) (sym at) h.low }

  module _ (a b : Vect S.field) where
    pub same_position : (s t : Key) (p q : TermPlace) → LeadBy S.field (key_order S) a s → LeadBy S.field (key_order S) b t → s.0 ≡ t.0
        → LeadBy S.field (key_order S) a (key p) → LeadBy S.field (key_order S) b (key q) → p.0 ≡ q.0
    same_position s t p q la lb e lp lq = sym (key_position p) ∙ ap (λ u. u.0) (same_lead S a (key p) s lp la) ∙ e ∙ ap (λ u. u.0) (same_lead S b t (key q) lb lq) ∙ key_position q

    pub s_vector_is : (v x y : Vect S.field) (p q : TermPlace) (l : Key) → LeadBy S.field (key_order S) a (key p) → LeadBy S.field (key_order S) b (key q) → p.0 ≡ q.0 → l ≡ common_multiple (key p) (key q)
        → (s : Key) × IsMonicMultiple S a s l x → (t : Key) × IsMonicMultiple S b t l y → v ≡ minus S.field x y → IsSVector S a b v
    s_vector_is v x y p q l lp lq e is hx hy d = record {
      left = key p;
      right = key q;
      position = key_position p ∙ e ∙ sym (key_position q);
      left_multiple = x;
      right_multiple = y;
      is_left = subst (λ s. IsMonicMultiple S a s (common_multiple (key p) (key q)) x) (same_lead S a hx.0 (key p) hx.1.lead lp) (subst (λ r. IsMonicMultiple S a hx.0 r x) is hx.1);
      is_right = subst (λ s. IsMonicMultiple S b s (common_multiple (key p) (key q)) y) (same_lead S b hy.0 (key q) hy.1.lead lq) (subst (λ r. IsMonicMultiple S b hy.0 r y) is hy.1);
      difference = ap (λ u. plus k u y) d ∙ minus_plus k x y;
    }

    -- the S-vector of two vectors within the cap
    multiple_up_to : (u w : Vect S.field) (s l : Key) (h : IsMonicMultiple S u s l w) → weight S.weights 0 h.monomial.0 ≤ cap_limit → IsUpTo S cap_limit u → IsUpTo S degree_limit w
    multiple_up_to u w s l h low up = subst (IsUpTo S degree_limit) (sym h.is) (supp_act k (λ t. degree S t ≤ degree_limit) h.factor (shift k h.monomial u)
        (supp_shift k (λ t. degree S t ≤ cap_limit) (λ t. degree S t ≤ degree_limit) (λ t. dec_le (degree S t) degree_limit) h.monomial (λ t b. let e = degree_times_key S h.monomial t in omega arith) u up))

    pub s_up_to : (v : Vect S.field) → IsSVector S a b v → IsUpTo S cap_limit a → IsUpTo S cap_limit b → IsUpTo S degree_limit v
    s_up_to v h ua ub =
        let x = left_low h.left h.right h.is_left.monomial h.position h.is_left.reaches in
        let y = right_low h.left h.right h.is_right.monomial h.position h.is_right.reaches in
        let s = bounded_lead S cap_limit a h.left ua h.is_left.lead in
        let t = bounded_lead S cap_limit b h.right ub h.is_right.lead in
        subst (IsUpTo S degree_limit) (sym (minus_unique k v h.left_multiple h.right_multiple h.difference))
        (supp_minus k (λ r. degree S r ≤ degree_limit) h.left_multiple h.right_multiple (multiple_up_to a h.left_multiple h.left _ h.is_left (omega arith) ua) (multiple_up_to b h.right_multiple h.right _ h.is_right (omega arith) ub))
