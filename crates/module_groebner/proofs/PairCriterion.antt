-- Treated pairs: at each multiple of the common multiple of their leads the multiples of the two members agree up to what lies
-- below; Buchberger's criterion by pairs.
use Rattle.std.proofs.Common.{◌≡◌, ℕ, suc, ◌<◌, ◌≤◌, sym, ap, ap₂, ◌∙◌, subst, arith}
use Rattle.std.specs.declared.cmp.Ordering.TheVariants.{Less}
use native.Mathlib.Decide.{ℕ_discrete, dec_le}
use Rattle.alg_core.specs.ModuleLaws as modules
use Rattle.alg_core.specs.Fields.{FieldOn, Scalar, scalars, is_field}
use Rattle.alg_core.specs.Monomials.{Mon, monomials, mon_cancel}
use Rattle.alg_core.specs.Keys.{Key, key_same, times_key, times_key_mul, KeyDivides}
use Rattle.alg_core.specs.CommonMultiples.{common_multiple}
use Rattle.alg_core.specs.KeyOrders.{OrderOn}
use Rattle.alg_core.specs.Leads.{lead_unique}
use Rattle.alg_core.specs.Spaces.{SpaceOver}
use Rattle.alg_core.specs.SpaceOrder.{key_order}
use Rattle.alg_core.specs.SpaceGrading.{AllPositive, degree, degree_times_key}
use Rattle.alg_core.specs.Vectors.{Vect, vectors, coef_at, plus, zero_vector, shift}
use Rattle.alg_core.proofs.KeyMultiples.{key_lcm_least}
use Rattle.alg_core.proofs.VectorLaws.{plus_comm, plus_zero, shift_linear, shift_plus}
use Rattle.poly_module.specs.Signs.{minus}
use Rattle.poly_module.specs.Degrees.{IsHomogeneous}
use Rattle.poly_module.specs.Modules.{LeadBy, InModule}
use Rattle.poly_module.proofs.SpaceVectorLaws.{minus_unique}
use Rattle.module_groebner.specs.Remainders.{IsSumBelow}
use Rattle.module_groebner.specs.SVectors.{IsSVector, IsTreated}
use Rattle.module_groebner.proofs.Sums.{shift_mul, sum_zero, sum_act, below_shift}
use Rattle.module_groebner.proofs.SVectors.{s_left, s_right}
use Rattle.module_groebner.proofs.DegreeCriterion.{Agrees, Found, criterion_in_degree}

module _ {E : Type 0} (S : SpaceOver E) (g : ℕ → Vect S.field) where
  abbrev k : FieldOn E
  k = S.field

  abbrev o : OrderOn Key
  o = key_order S

  same_monomial : (a m : Mon) (s x : Key) → times_key a s ≡ x → times_key m s ≡ x → a ≡ m
  same_monomial a m s x p q = mon_cancel s.1 a m (monomials.comm s.1 a ∙ ap (λ r. r.1) (p ∙ sym q) ∙ monomials.comm m s.1)

  module _ (x : Key) (m n : Mon) (i j : ℕ) (s t : Key) (li : LeadBy S.field (key_order S) (g i) s) (lj : LeadBy S.field (key_order S) (g j) t) (at_i : times_key m s ≡ x) (at_j : times_key n t ≡ x)
      (v : Vect S.field) (sv : IsSVector S (g i) (g j) v) (below : IsSumBelow S g (common_multiple s t) v) where
    abbrev xi : Vect S.field
    xi = shift S.field m (g i)

    abbrev xj : Vect S.field
    xj = shift S.field n (g j)

    up : KeyDivides (common_multiple s t) x
    up = key_lcm_least s t x (m, at_i) (n, at_j)

    abbrev y : Mon
    y = up.0

    left_is : shift S.field y sv.left_multiple ≡ (vectors S.field).◌·◌ sv.is_left.factor xi
    left_is = ap (shift k y) sv.is_left.is ∙ (shift_linear k y).act sv.is_left.factor _ ∙ ap ((vectors k).◌·◌ sv.is_left.factor) (sym (shift_mul S g y sv.is_left.monomial (g i)) ∙ ap (λ a. shift k a (g i)) same)
      where
        left : sv.left ≡ s
        left = s_left S (g i) (g j) v sv s li

        right : sv.right ≡ t
        right = s_right S (g i) (g j) v sv t lj

        same : monomials.◌·◌ y sv.is_left.monomial ≡ m
        same = same_monomial (monomials.◌·◌ y sv.is_left.monomial) m s x
            (times_key_mul y sv.is_left.monomial s ∙ ap (times_key y) (ap (times_key sv.is_left.monomial) (sym left) ∙ sv.is_left.reaches ∙ ap₂ common_multiple left right) ∙ up.1) at_i

    right_is : shift S.field y sv.right_multiple ≡ (vectors S.field).◌·◌ sv.is_right.factor xj
    right_is = ap (shift k y) sv.is_right.is ∙ (shift_linear k y).act sv.is_right.factor _ ∙ ap ((vectors k).◌·◌ sv.is_right.factor) (sym (shift_mul S g y sv.is_right.monomial (g j)) ∙ ap (λ a. shift k a (g j)) same)
      where
        left : sv.left ≡ s
        left = s_left S (g i) (g j) v sv s li

        right : sv.right ≡ t
        right = s_right S (g i) (g j) v sv t lj

        same : monomials.◌·◌ y sv.is_right.monomial ≡ n
        same = same_monomial (monomials.◌·◌ y sv.is_right.monomial) n t x
            (times_key_mul y sv.is_right.monomial t ∙ ap (times_key y) (ap (times_key sv.is_right.monomial) (sym right) ∙ sv.is_right.reaches ∙ ap₂ common_multiple left right) ∙ up.1) at_j

    -- the S-vector, raised to x
    raised : plus S.field (shift S.field y v) ((vectors S.field).◌·◌ sv.is_right.factor xj) ≡ (vectors S.field).◌·◌ sv.is_left.factor xi
    raised = ap (plus k (shift k y v)) (sym right_is) ∙ sym (shift_plus k y v sv.right_multiple) ∙ ap (shift k y) sv.difference ∙ left_is

    raised_below : IsSumBelow S g x (shift S.field y v)
    raised_below = subst (λ z. IsSumBelow S g z (shift k y v)) up.1 (below_shift S g y (common_multiple s t) v below)

    undo : (a b : Scalar S.field) (w : Vect S.field) → (scalars S.field).◌*◌ a b ≡ (scalars S.field).one → (vectors S.field).◌·◌ b ((vectors S.field).◌·◌ a w) ≡ w
    undo a b w e = sym ((vectors k).mul_act b a w) ∙ ap (λ c. (vectors k).◌·◌ c w) ((scalars k).mul_comm b a ∙ e) ∙ (vectors k).one_act w

    -- the multiple of the first member by that of the second
    pub forth : (c : Scalar S.field) × (w : Vect S.field) × IsSumBelow S g x w × (plus S.field ((vectors S.field).◌·◌ c xj) w ≡ xi)
    unfolding plus
    forth =
        let a = coef_at k (g i) sv.left in (
          (scalars k).◌*◌ a sv.is_right.factor,
          (vectors k).◌·◌ a (shift k y v),
          sum_act S g (λ z. o.compare z x ≡ Less) a _ raised_below,
          plus_comm k _ _ ∙ ap (plus k ((vectors k).◌·◌ a (shift k y v))) ((vectors k).mul_act a sv.is_right.factor xj) ∙ sym ((vectors k).act_add a _ _) ∙ ap ((vectors k).◌·◌ a) raised ∙ undo sv.is_left.factor a xi sv.is_left.monic,
        )

    -- and that of the second by that of the first
    pub back : (c : Scalar S.field) × (w : Vect S.field) × IsSumBelow S g x w × (plus S.field ((vectors S.field).◌·◌ c xi) w ≡ xj)
    unfolding plus minus
    back =
        let b = coef_at k (g j) sv.right in
        let neg = (vectors k).◌·◌ ((scalars k).neg (scalars k).one) (shift k y v) in (
          (scalars k).◌*◌ b sv.is_left.factor,
          (vectors k).◌·◌ b neg,
          sum_act S g (λ z. o.compare z x ≡ Less) b neg (sum_act S g (λ z. o.compare z x ≡ Less) _ _ raised_below),
          ap (λ u. plus k u ((vectors k).◌·◌ b neg)) ((vectors k).mul_act b sv.is_left.factor xi) ∙ sym ((vectors k).act_add b _ _)
              ∙ ap ((vectors k).◌·◌ b) (ap (plus k ((vectors k).◌·◌ sv.is_left.factor xi)) (sym (modules.minus_is (vectors k) (shift k y v))) ∙ sym (minus_unique k _ _ _ (plus_comm k _ _ ∙ raised)))
              ∙ undo sv.is_right.factor b xj sv.is_right.monic,
        )

  -- the pairs of a degree up to d are treated
  abbrev pub Treats : ℕ → Type 0
  Treats d = (i j : ℕ) → i < j → (s t : Key) → LeadBy S.field (key_order S) (g i) s → LeadBy S.field (key_order S) (g j) t → s.0 ≡ t.0 → degree S (common_multiple s t) ≤ d → IsTreated S g i j

  treats_agrees : (d : ℕ) → Treats d → (x : Key) → degree S x ≡ d → Agrees S g x
  treats_agrees d treats x dx m n i j s t li lj at_i at_j = go (ℕ_discrete i j) (dec_le (suc i) j)
    where
      Goal : Type 0
      Goal = (c : Scalar k) × (w : Vect k) × IsSumBelow S g x w × (plus k ((vectors k).◌·◌ c (shift k n (g j))) w ≡ shift k m (g i))

      low : (p q : Key) → KeyDivides p x → KeyDivides q x → degree S (common_multiple p q) ≤ d
      low p q dp dq =
          let u = key_lcm_least p q x dp dq in
          let e = degree_times_key S u.0 (common_multiple p q) in
          let f : degree S (times_key u.0 (common_multiple p q)) ≡ degree S x = ap (degree S) u.1 in
          omega arith

      position : s.0 ≡ t.0
      position = ap (λ r. r.0) at_i ∙ sym (ap (λ r. r.0) at_j)

      itself : i ≡ j → Goal
      itself e =
          let st : s ≡ t = lead_unique (scalars k) (is_field k) key_same o (g j) s t (subst (λ z. LeadBy k o (g z) s) e li) lj in
          let mn : m ≡ n = same_monomial m n s x at_i (ap (times_key n) st ∙ at_j) in
          ((scalars k).one, zero_vector k, sum_zero S g (λ z. o.compare z x ≡ Less), plus_zero k _ ∙ (vectors k).one_act _ ∙ ap₂ (shift k) (sym mn) (ap g (sym e)))

      go : Dec (i ≡ j) → Dec (i < j) → Goal
      go (yes e) c = itself e
      go (no n') (yes l) = let r = treats i j l s t li lj position (low s t (m, at_i) (n, at_j)) s t li lj position in forth x m n i j s t li lj at_i at_j r.0 r.1 r.2
      go (no n') (no l) = let less : j < i = omega arith in
          let r = treats j i less t s lj li (sym position) (low t s (n, at_j) (m, at_i)) t s lj li (sym position) in
          back x n m j i t s lj li at_j at_i r.0 r.1 r.2

  module _ (positive : AllPositive S.weights) (degrees : ℕ → ℕ) (homogeneous : (i : ℕ) → IsHomogeneous S (degrees i) (g i)) where
    -- where the pairs up to a degree are treated, the lead of an element of that degree is a multiple of the lead of a member
    pub found_in_degree : (d : ℕ) → Treats d → (v : Vect S.field) (s : Key) → IsHomogeneous S d v → InModule S.field g v → LeadBy S.field (key_order S) v s → Found S g s
    found_in_degree d treats = criterion_in_degree S g positive degrees homogeneous d (treats_agrees d treats)
