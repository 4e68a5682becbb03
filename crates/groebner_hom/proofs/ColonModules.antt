-- The elements of a colon module: its elements with no first part are the polynomials of the colon ideal at position 1.
use Rattle.std.proofs.Common.{◌≡◌, ◌≤◌, ℕ, zero, suc, List, [], ◌∷◌, map, length, sym, ap, ap₂, ◌∙◌, subst, refl, arith}
use native.Mathlib.Decide.{ℕ_discrete}
use Rattle.alg_core.specs.Fields.{FieldOn, scalars}
use Rattle.alg_core.specs.FormalSums.{regular, indicator}
use Rattle.alg_core.specs.CanonicalLists.{indicator_yes, indicator_no}
use Rattle.alg_core.specs.FreeModules.{linear_unique}
use Rattle.alg_core.specs.Keys.{Key, key_same, keys}
use Rattle.alg_core.specs.Lists.{In, map_in}
use Rattle.alg_core.specs.ModuleLaws as modules
use Rattle.alg_core.specs.Monomials.{monomials}
use Rattle.alg_core.specs.Rings.{Linear}
use Rattle.alg_core.specs.Spaces.{SpaceOver}
use Rattle.alg_core.specs.SpaceGrading.{AllPositive}
use Rattle.alg_core.specs.Vectors.{Vect, vectors, coef_at, plus, zero_vector}
use Rattle.alg_core.proofs.VectorLaws.{plus_assoc, plus_comm, plus_left_comm, plus_zero, zero_plus, coef_at_ext}
use Rattle.poly_module.specs.Degrees.{IsHomogeneous}
use Rattle.poly_module.specs.Modules.{InModule, listed}
use Rattle.poly_module.specs.Parts.{Supp, IsPolynomial, InVariables, supp_zero, supp_plus, supp_single, supp_weaken, select_plus, select_all, select_none, coef_at_single, coef_at_linear}
use Rattle.poly_module.specs.Polynomials.{single_vector, product}
use Rattle.poly_module.specs.Products.{product_linear_left, product_plus, plus_product, product_assoc, zero_product, product_single}
use Rattle.poly_module.specs.ReducedLists.{IsReducedBasis}
use Rattle.poly_module.specs.Signs.{minus}
use Rattle.poly_module.specs.Substitutions.{position_vector}
use Rattle.poly_module.specs.Variables.{product_polynomial, product_positions}
use Rattle.poly_module.proofs.ModuleElements.{module_zero, module_plus, module_act, module_product, module_member, module_within, module_ind, module_positions}
use Rattle.poly_module.proofs.Reduced.{listed_has, reduced_is_basis}
use Rattle.poly_module.proofs.SpaceVectorLaws.{minus_plus, minus_unique}
use Rattle.module_groebner.specs.Eliminations.{IsEliminated}
use Rattle.module_groebner.proofs.Eliminations.{elimination_generates}
use Rattle.module_groebner.proofs.Families.{member_inside, inside_by_members}
use Rattle.finite_certificate.specs.Ideals.{InIdeal, Nonzerodivisor}
use Rattle.groebner_hom.specs.Colons.{lifted, AreSecondParts, colon, InColon, IsPair, IsColonIdeal, colon_space}

module _ {E : Type 0} (k : FieldOn E) where
  -- what is left of an element when one is taken away
  pub module_rest : {I : Type 0} (g : I → Vect k) (u v w : Vect k) → plus k u w ≡ v → InModule k g v → InModule k g w → InModule k g u
  unfolding minus
  module_rest g u v w e hv hw = subst (InModule k g) (sym (minus_unique k u v w e)) (module_plus k g v _ hv (subst (InModule k g) (sym (modules.minus_is (vectors k) w)) (module_act k g _ w hw)))

  -- a multiple of a vector and an element of the module of a list
  abbrev IsFirstAndRest : Vect k → List (Vect k) → Vect k → Type 0
  IsFirstAndRest a θ v = (h : Vect k) × (p : Vect k) × IsPolynomial k h × InModule k (listed k θ) p × (plus k (product k h a) p ≡ v)

  one_more : (a : Vect k) (θ : List (Vect k)) (f v : Vect k) (i : ℕ) → IsPolynomial k f → IsFirstAndRest a θ v → IsFirstAndRest a θ (plus k (product k f (listed k (a ∷ θ) i)) v)
  one_more a θ f v zero pf s = (plus k f s.0, s.1, supp_plus k (λ t. t.0 ≡ 0) f s.0 pf s.2, s.3, ap (λ x. plus k x s.1) (plus_product k f s.0 a) ∙ plus_assoc k _ _ _ ∙ ap (plus k (product k f a)) s.4)
  one_more a θ f v (suc i) pf s = (
    s.0,
    plus k (product k f (listed k θ i)) s.1,
    s.2,
    module_plus k (listed k θ) _ s.1 (module_product k (listed k θ) f (listed k θ i) pf (module_member k (listed k θ) i)) s.3,
    plus_left_comm k _ _ _ ∙ ap (plus k (product k f (listed k θ i))) s.4,
  )

  -- such are the elements of the module of the list with the vector before it
  pub module_cons : (a : Vect k) (θ : List (Vect k)) (v : Vect k) → InModule k (listed k (a ∷ θ)) v
      → (h : Vect k) × (p : Vect k) × IsPolynomial k h × InModule k (listed k θ) p × (plus k (product k h a) p ≡ v)
  module_cons a θ = module_ind k (listed k (a ∷ θ)) (IsFirstAndRest a θ)
      (zero_vector k, zero_vector k, supp_zero k (λ t. t.0 ≡ 0), module_zero k (listed k θ), plus_zero k _ ∙ zero_product k a) (one_more a θ)

  -- position 1
  abbrev one : Vect k
  one = position_vector k

  supp_position : Supp k (λ t. t.0 ≡ 1) (position_vector k)
  unfolding position_vector
  supp_position = supp_single k (λ t. t.0 ≡ 1) (1, monomials.one) refl

  pub supp_lifted : (h : Vect k) → IsPolynomial k h → Supp k (λ t. t.0 ≡ 1) (lifted k h)
  supp_lifted h p = product_positions k (λ q. q ≡ 1) (λ q. ℕ_discrete q 1) h one p supp_position

  pub lifted_eliminated : (h : Vect k) → IsPolynomial k h → IsEliminated k 1 (lifted k h)
  lifted_eliminated h p = supp_weaken k (λ t. t.0 ≡ 1) (λ t. 1 ≤ t.0) (λ t e. omega arith) (lifted k h) (supp_lifted h p)

  lift_key : (s : Key) → keys.◌·◌ s (1, monomials.one) ≡ (suc s.0, s.1)
  unfolding keys
  lift_key s = ap₂ (λ q m. (q, m)) (omega arith) (monomials.mul_one s.1)

  pub lift_single : (s : Key) → lifted k (single_vector k s) ≡ single_vector k (suc s.0, s.1)
  unfolding position_vector
  lift_single s = product_single k s (1, monomials.one) ∙ ap (single_vector k) (lift_key s)

  down : ℕ → ℕ
  down zero = zero
  down (suc n) = n

  lift_indicator : (s t : Key) → indicator (scalars k) (key_same (suc s.0, s.1) (suc t.0, t.1)) ≡ indicator (scalars k) (key_same s t)
  unfolding down
  lift_indicator s t = go (key_same s t)
    where
      go : (d : Dec (s ≡ t)) → indicator (scalars k) (key_same (suc s.0, s.1) (suc t.0, t.1)) ≡ indicator (scalars k) d
      go (yes e) = indicator_yes (scalars k) (key_same (suc s.0, s.1) (suc t.0, t.1)) (ap (λ x. (suc x.0, x.1)) e) ∙ sym (indicator_yes (scalars k) (yes e) e)
      go (no n) = indicator_no (scalars k) (key_same (suc s.0, s.1) (suc t.0, t.1)) (λ e. n (ap (λ x. (down x.0, x.1)) e)) ∙ sym (indicator_no (scalars k) (no n) n)

  lift_linear : (t : Key) → Linear (vectors k) (regular (scalars k)) (λ h. coef_at k (lifted k h) (suc t.0, t.1))
  lift_linear t = modules.linear_after (vectors k) (vectors k) (regular (scalars k)) (λ h. lifted k h) (λ v. coef_at k v (suc t.0, t.1)) (product_linear_left k one) (coef_at_linear k (suc t.0, t.1))

  -- the coefficients of a polynomial at position 1 are its own
  pub coef_lifted : (h : Vect k) (t : Key) → coef_at k (lifted k h) (suc t.0, t.1) ≡ coef_at k h t
  unfolding single_vector
  coef_lifted h t = linear_unique (scalars k) key_same (regular (scalars k)) (λ h. coef_at k (lifted k h) (suc t.0, t.1)) (λ h. coef_at k h t) (lift_linear t) (coef_at_linear k t)
      (λ s. ap (λ v. coef_at k v (suc t.0, t.1)) (lift_single s) ∙ coef_at_single k (suc s.0, s.1) (suc t.0, t.1) ∙ lift_indicator s t ∙ sym (coef_at_single k s t)) h

  pub lifted_cancel : (h g : Vect k) → lifted k h ≡ lifted k g → h ≡ g
  lifted_cancel h g e = coef_at_ext k h g (λ t. sym (coef_lifted h t) ∙ ap (λ v. coef_at k v (suc t.0, t.1)) e ∙ coef_lifted g t)

  -- a polynomial that is the first part of a vector without one is 0
  first_part_zero : (u w : Vect k) → IsPolynomial k u → IsEliminated k 1 w → IsEliminated k 1 (plus k u w) → u ≡ zero_vector k
  first_part_zero u w pu ew es =
      let test = λ (t : Key). ℕ_discrete t.0 0 in
      let none : (t : Key) → 1 ≤ t.0 → ¬ (t.0 ≡ 0) = λ t p q. omega arith in
      sym (plus_zero k u)
      ∙ ap₂ (plus k) (sym (select_all k test u pu)) (sym (select_none k test (λ t. 1 ≤ t.0) none w ew))
      ∙ sym (select_plus k test u w)
      ∙ select_none k test (λ t. 1 ≤ t.0) none (plus k u w) es

  module _ (θ : List (Vect k)) (f : Vect k) (pθ : (v : Vect k) → In v θ → IsPolynomial k v) (pf : IsPolynomial k f) where
    ideal_polynomial : (p : Vect k) → InIdeal k θ p → IsPolynomial k p
    ideal_polynomial = module_positions k (listed k θ) (λ q. q ≡ 0) (λ q. ℕ_discrete q 0) (listed_has k (IsPolynomial k) (supp_zero k (λ t. t.0 ≡ 0)) θ pθ)

    -- an element of the colon module is a pair
    pub colon_pair : (v : Vect k) → InColon k θ f v → IsPair k θ f v
    colon_pair v inside =
        let s = module_cons (plus k f one) θ v inside in
        let h = s.0 in
        let p = s.1 in
        let rest : p ≡ minus k (plus k (product k h f) p) (product k h f) = minus_unique k p (plus k (product k h f) p) (product k h f) (plus_comm k p (product k h f)) in
        record {
          first = plus k (product k h f) p;
          second = h;
          first_polynomial = supp_plus k (λ t. t.0 ≡ 0) (product k h f) p (product_polynomial k h f s.2 pf) (ideal_polynomial p s.3);
          second_polynomial = s.2;
          is = plus_assoc k _ _ _ ∙ ap (plus k (product k h f)) (plus_comm k p (lifted k h)) ∙ sym (plus_assoc k _ _ _) ∙ ap (λ x. plus k x p) (sym (product_plus k h f one)) ∙ s.4;
          inside = subst (InIdeal k θ) rest s.3;
        }

    -- and each pair is an element
    pub pair_colon : (v : Vect k) → IsPair k θ f v → InColon k θ f v
    pair_colon v a =
        let h = a.second in
        let r = minus k a.first (product k h f) in
        subst (InColon k θ f)
        (ap (λ x. plus k x r) (product_plus k h f one) ∙ plus_assoc k _ _ _ ∙ ap (plus k (product k h f)) (plus_comm k (lifted k h) r) ∙ sym (plus_assoc k _ _ _)
        ∙ ap (λ x. plus k x (lifted k h)) (plus_comm k (product k h f) r ∙ minus_plus k a.first (product k h f)) ∙ a.is)
        (module_plus k (listed k (colon k θ f)) _ r
        (module_product k (listed k (colon k θ f)) h (plus k f one) a.second_polynomial (module_member k (listed k (colon k θ f)) 0))
        (module_within k (listed k θ) (listed k (colon k θ f)) (λ i. module_member k (listed k (colon k θ f)) (suc i)) r a.inside))

    -- an element of the colon module with no first part is a polynomial of the colon ideal at position 1
    pub colon_second : (v : Vect k) → InColon k θ f v → IsEliminated k 1 v → (h : Vect k) × IsPolynomial k h × InIdeal k θ (product k h f) × (lifted k h ≡ v)
    colon_second v inside second =
        let a = colon_pair v inside in
        let h = a.second in
        let none : a.first ≡ zero_vector k = first_part_zero a.first (lifted k h) a.first_polynomial (lifted_eliminated h a.second_polynomial) (subst (IsEliminated k 1) (sym a.is) second) in
        let sum : plus k (product k h f) (minus k a.first (product k h f)) ≡ zero_vector k = plus_comm k _ _ ∙ minus_plus k a.first (product k h f) ∙ none in (
          h,
          a.second_polynomial,
          module_rest (listed k θ) (product k h f) (zero_vector k) (minus k a.first (product k h f)) sum (module_zero k (listed k θ)) a.inside,
          sym (zero_plus k (lifted k h)) ∙ ap (λ x. plus k x (lifted k h)) (sym none) ∙ a.is,
        )

    -- and such a polynomial is one
    pub colon_first : (h : Vect k) → IsPolynomial k h → InIdeal k θ (product k h f) → InColon k θ f (lifted k h)
    colon_first h p inside = module_rest (listed k (colon k θ f)) (lifted k h) (product k h (plus k f one)) (product k h f)
        (plus_comm k _ _ ∙ sym (product_plus k h f one))
        (module_product k (listed k (colon k θ f)) h (plus k f one) p (module_member k (listed k (colon k θ f)) 0))
        (module_within k (listed k θ) (listed k (colon k θ f)) (λ i. module_member k (listed k (colon k θ f)) (suc i)) (product k h f) inside)

    -- the colon ideal is an ideal
    colon_closed : (hs : List (Vect k)) → ((h : Vect k) → In h hs → InIdeal k θ (product k h f)) → (h : Vect k) → InIdeal k hs h → InIdeal k θ (product k h f)
    colon_closed hs each = module_ind k (listed k hs) (λ h. InIdeal k θ (product k h f)) none
        (λ g v i pg a. subst (InIdeal k θ) (ap (λ x. plus k x (product k v f)) (sym (product_assoc k g (listed k hs i) f)) ∙ sym (plus_product k (product k g (listed k hs i)) v f))
        (module_plus k (listed k θ) _ _ (module_product k (listed k θ) g _ pg (listed_has k (λ h. InIdeal k θ (product k h f)) none hs each i)) a))
      where
        none : InIdeal k θ (product k (zero_vector k) f)
        none = subst (InIdeal k θ) (sym (zero_product k f)) (module_zero k (listed k θ))

  listed_lifted : (hs : List (Vect k)) (i : ℕ) → listed k (map (lifted k) hs) i ≡ lifted k (listed k hs i)
  listed_lifted [] i = sym (zero_product k one)
  listed_lifted (h ∷ hs) zero = refl
  listed_lifted (h ∷ hs) (suc i) = listed_lifted hs i

  -- the module of polynomials at position 1
  lifted_module : (hs : List (Vect k)) (x : Vect k) → InModule k (listed k (map (lifted k) hs)) x → (g : Vect k) × InIdeal k hs g × (lifted k g ≡ x)
  lifted_module hs = module_ind k (listed k (map (lifted k) hs)) (λ x. (g : Vect k) × InIdeal k hs g × (lifted k g ≡ x))
      (zero_vector k, module_zero k (listed k hs), zero_product k one)
      (λ f v i pf a. (
        plus k (product k f (listed k hs i)) a.0,
        module_plus k (listed k hs) _ a.0 (module_product k (listed k hs) f _ pf (module_member k (listed k hs) i)) a.1,
        plus_product k _ a.0 one ∙ ap₂ (plus k) (product_assoc k f (listed k hs i) one ∙ ap (product k f) (sym (listed_lifted hs i))) a.2,
      ))

module _ {E : Type 0} (S : SpaceOver E) (d : ℕ) (positive : AllPositive S.weights) (θ : List (Vect S.field)) (f : Vect S.field)
    (pθ : (v : Vect S.field) → In v θ → IsPolynomial S.field v) (pf : IsPolynomial S.field f) where
  abbrev k : FieldOn E
  k = S.field

  abbrev T : SpaceOver E
  T = colon_space S d

  -- the members of the reduced basis of the colon module with no first part generate the colon ideal
  pub colon_ideal_by : (vs hs : List (Vect S.field)) → IsReducedBasis (colon_space S d) (listed S.field (colon S.field θ f)) vs
      → ((w : Vect S.field) → In w vs → (e : ℕ) × IsHomogeneous (colon_space S d) e w)
      → ((w : Vect S.field) → In w vs → InVariables S.field (length S.weights) w)
      → AreSecondParts S.field vs hs → IsColonIdeal S.field θ f hs
  colon_ideal_by vs hs reduced homogeneous variables second h p = (forth, back)
    where
      forth : InIdeal k θ (product k h f) → InIdeal k hs h
      forth a =
          let inside = reduced.generates (lifted k h) (colon_first k θ f pθ pf h p a) in
          let x = elimination_generates k 1 S.weights S.weights (0 ∷ d ∷ []) refl positive vs (map (lifted k) hs)
          (reduced_is_basis T (listed k (colon k θ f)) vs reduced) homogeneous variables second (lifted k h) inside (lifted_eliminated k h p) in
          let g = lifted_module k hs (lifted k h) x in
          subst (InIdeal k hs) (lifted_cancel k g.0 h g.2) g.1

      each : (g : Vect k) → In g hs → InIdeal k θ (product k g f)
      each g i =
          let w = (second (lifted k g)).0 (map_in (lifted k) g hs i) in
          let c = colon_second k θ f pθ pf (lifted k g) (reduced.reduced.inside (lifted k g) w.0) w.1 in
          subst (λ x. InIdeal k θ (product k x f)) (lifted_cancel k c.0 g c.3) c.2

      back : InIdeal k hs h → InIdeal k θ (product k h f)
      back a = colon_closed k θ f pθ pf hs each h a

module _ {E : Type 0} (k : FieldOn E) (θ hs : List (Vect k)) (f : Vect k) (colon_ideal : IsColonIdeal k θ f hs) where
  -- a nonzerodivisor is one whose colon ideal lies in the ideal
  pub nonzerodivisor_where : ((h : Vect k) → In h hs → InIdeal k θ h) → Nonzerodivisor k θ f
  nonzerodivisor_where each h p a = inside_by_members k hs (listed k θ) each h ((colon_ideal h p).0 a)

  pub nonzerodivisor_only : ((h : Vect k) → In h hs → IsPolynomial k h) → Nonzerodivisor k θ f → (h : Vect k) → In h hs → InIdeal k θ h
  nonzerodivisor_only polys n h i = n h (polys h i) ((colon_ideal h (polys h i)).1 (member_inside k hs h i))
