-- The search for a bad pair: what is said of one pair, and of all pairs that were passed.
use Rattle.std.proofs.Common.{◌≡◌, ℕ, ◌+◌, ◌-◌, ◌<◌, ◌≤◌, List, length, get_or, sym, ap, ◌∙◌, refl, subst, arith, Bool, true, false, inl, IsTrue}
use Rattle.std.specs.Prelude.{All, Option, Some, None, IsNone, ◌↔◌}
use Rattle.std.specs.Option.{is_some}
use Rattle.std.proofs.lemmas.List.Elements.{All-weaker}
use native.Mathlib.Decide.{dec_le}
use Rattle.alg_core.specs.Keys.{TermPlace, key, times_key}
use Rattle.alg_core.specs.CommonMultiples.{common_multiple}
use Rattle.alg_core.specs.declared.term.Term.{Term}
use Rattle.alg_core.specs.Spaces.{SpaceOver}
use Rattle.alg_core.specs.SpaceOrder.{key_order}
use Rattle.alg_core.specs.SpaceGrading.{AllPositive, degree, degree_times_key}
use Rattle.alg_core.specs.Vectors.{Vect, zero_vector}
use Rattle.poly_module.specs.Degrees.{IsHomogeneous}
use Rattle.poly_module.specs.Modules.{LeadBy, IsGroebnerBasis, listed}
use Rattle.poly_module.specs.SpaceVectors.{vector_of, vectors_of, IsUpTo}
use Rattle.module_groebner.specs.HomogeneousLists.{degree_limit, cap_limit, AreHomogeneous, AreHomogeneousUpTo, IsHomogeneousUpTo}
use Rattle.module_groebner.specs.Remainders.{IsRemainder}
use Rattle.module_groebner.specs.SVectors.{IsSVector, IsTreated, IsBadPair}
use Rattle.module_groebner.proofs.BasisLaws.{treated_basis}
use Rattle.module_groebner.proofs.DivisionSteps.{listed_at, member_has}
use Rattle.module_groebner.proofs.Families.{length_map, listed_past}
use Rattle.module_groebner.proofs.ListLaws.{family}
use Rattle.module_groebner.proofs.PairSteps.{left_low, key_position}
use Rattle.module_groebner.proofs.ReductionSteps.{lead_not_zero, same_lead, bounded_lead}
use Rattle.module_groebner.proofs.SVectors.{s_homogeneous, treated_by}

pub none_exact : (A : Type 0) {P : Type 0} → P → IsNone {T = A} None ↔ P
none_exact A p = (λ n. p, λ q. refl)

pub some_exact : {A P : Type 0} (x : A) → ¬ P → IsNone (Some x) ↔ P
some_exact x n = (λ e. absurd (unequal e), λ p. absurd (n p))
  where
    unequal : ¬ (true ≡ false)
    unequal e = grind arith

-- a member at a place, of a fact on all
pub all_has : {A : Type 0} (P : A → Type 0) (l : List A) (i : ℕ) (x : A) → i < length l → x ≡ get_or l i x → All P l → P x
all_has P l i x h e a = subst P (sym e) (a i x h)

pub position_of : (p q : TermPlace) → p.0 ≡ q.0 → (key p).0 ≡ (key q).0
position_of p q e = key_position p ∙ e ∙ sym (key_position q)

pub true_of : (b : Bool) → b ≡ true → IsTrue b
true_of b e = grind arith

pub not_zero_or : {A : Type 0} (o : Option A) → IsNone o → (b : Bool) → b ≡ is_some o → IsTrue b → ⊥
not_zero_or o n b e t = grind arith

module _ {E M : Type 0} (S : SpaceOver E) (exps : M → List ℕ) where
  abbrev Terms : Type 0
  Terms = List (Term E M)

  -- a homogeneous vector has a bounded degree
  pub up_to : (d : ℕ) (v : Vect S.field) → IsHomogeneousUpTo S d v → IsUpTo S d v
  up_to d v h t nz = let e = h.2 t nz in let b = h.1 in omega arith

  pub are_homogeneous : (d : ℕ) (vs : List (Vect S.field)) → AreHomogeneousUpTo S d vs → AreHomogeneous S vs
  are_homogeneous d vs = All-weaker (IsHomogeneousUpTo S d) (λ v. (e : ℕ) × IsHomogeneous S e v) (λ v h. (h.0, h.2)) vs

  module _ (list : List Terms) (i j : ℕ) (x y : Terms) (hi : i < length list) (hj : j < length list) (xi : x ≡ get_or list i x) (yj : y ≡ get_or list j y) where
    abbrev vs : List (Vect S.field)
    vs = vectors_of S exps list

    -- the S-vector has a degree that is not too great
    pub s_up_to : AreHomogeneousUpTo S cap_limit (vectors_of S exps list) → (v : Vect S.field) → IsSVector S (vector_of S exps x) (vector_of S exps y) v → IsUpTo S degree_limit v
    s_up_to h v s t nz =
        let hx = member_has S exps (IsHomogeneousUpTo S cap_limit) list i x hi xi h in
        let hy = member_has S exps (IsHomogeneousUpTo S cap_limit) list j y hj yj h in
        let e = s_homogeneous S (vector_of S exps x) (vector_of S exps y) v s hx.0 hy.0 hx.2 hy.2 t nz in
        let a = degree_times_key S s.is_left.monomial s.left in
        let b : degree S (times_key s.is_left.monomial s.left) ≡ degree S (common_multiple s.left s.right) = ap (degree S) s.is_left.reaches in
        let c = left_low S s.left s.right s.is_left.monomial s.position s.is_left.reaches in
        let p = bounded_lead S cap_limit (vector_of S exps x) s.left (up_to cap_limit _ hx) s.is_left.lead in
        let q = bounded_lead S cap_limit (vector_of S exps y) s.right (up_to cap_limit _ hy) s.is_right.lead in
        omega arith

    -- a pair with leads at two positions is treated
    pub apart_treated : (p q : TermPlace) → LeadBy S.field (key_order S) (vector_of S exps x) (key p) → LeadBy S.field (key_order S) (vector_of S exps y) (key q) → ¬ (p.0 ≡ q.0) → IsTreated S (listed S.field (vectors_of S exps list)) i j
    apart_treated p q lp lq n s t ls lt same = absurd (n (sym (key_position p) ∙ ap (λ u. u.0) (same_lead S (vector_of S exps x) (key p) s lp (subst (λ u. LeadBy S.field (key_order S) u s) (sym (listed_at S exps list i x hi xi)) ls))
        ∙ same ∙ ap (λ u. u.0) (same_lead S (vector_of S exps y) t (key q) (subst (λ u. LeadBy S.field (key_order S) u t) (sym (listed_at S exps list j y hj yj)) lt) lq) ∙ key_position q))

    module _ (v r : Vect S.field) (s : IsSVector S (vector_of S exps x) (vector_of S exps y) v) (m : IsRemainder S (listed S.field (vectors_of S exps list)) v r) where
      at_places : IsSVector S (listed S.field (vectors_of S exps list) i) (listed S.field (vectors_of S exps list) j) v
      at_places = subst (λ u. IsSVector S u (listed S.field vs j) v) (listed_at S exps list i x hi xi) (subst (λ u. IsSVector S (vector_of S exps x) u v) (listed_at S exps list j y hj yj) s)

      -- so is one whose S-vector has the remainder 0
      pub zero_treated : r ≡ zero_vector S.field → IsTreated S (listed S.field (vectors_of S exps list)) i j
      zero_treated z = treated_by S (listed S.field vs) (listed S.field vs) (λ n. inl (n, refl)) i j v r refl refl at_places m (inl z)

      -- and one with another remainder is bad
      pub other_bad : i < j → ¬ (r ≡ zero_vector S.field) → IsBadPair S (vectors_of S exps list) (i + 1) (j + 1)
      other_bad less n = record {
        first = omega arith;
        rising = omega arith;
        last = let e = length_map (vector_of S exps) list in omega arith;
        s_vector = v;
        remainder = r;
        is_s_vector = let a : i ≡ (i + 1) - 1 = omega arith in let b : j ≡ (j + 1) - 1 = omega arith in
            subst (λ p. IsSVector S (listed S.field vs p) (listed S.field vs ((j + 1) - 1)) v) a (subst (λ q. IsSVector S (listed S.field vs i) (listed S.field vs q) v) b at_places);
        is_remainder = m;
        not_zero = n;
      }

  -- all pairs before a place
  abbrev pub TreatedBefore : List Terms → ℕ → Type 0
  TreatedBefore list j = (a b : ℕ) → a < b → b < j → IsTreated S (listed S.field (vectors_of S exps list)) a b

  pub all_treated : AllPositive S.weights → (list : List Terms) (j : ℕ) → AreHomogeneousUpTo S cap_limit (vectors_of S exps list) → length list ≤ j → TreatedBefore list j → IsGroebnerBasis S.field (listed S.field (vectors_of S exps list)) (key_order S)
  all_treated positive list j h done t = treated_basis S positive (listed S.field (vectors_of S exps list)) (family S (vectors_of S exps list) (are_homogeneous cap_limit (vectors_of S exps list) h)) pair
    where
      pair : (a b : ℕ) → a < b → IsTreated S (listed S.field (vectors_of S exps list)) a b
      pair a b less = go (dec_le (b + 1) j)
        where
          go : Dec (b + 1 ≤ j) → IsTreated S (listed S.field (vectors_of S exps list)) a b
          go (yes c) = t a b less (omega arith)
          go (no n) = λ s r ls lr same. absurd (lead_not_zero S (listed S.field (vectors_of S exps list) b) r lr (listed_past S.field (vectors_of S exps list) b (let e = length_map (vector_of S exps) list in omega arith)))
