-- The search for the monomials that no lead divides: those below a degree, and what the ends of the search tell.
use Rattle.std.proofs.Common.{◌≡◌, ◌⊎◌, ◌+◌, ◌-◌, ◌<◌, ◌≤◌, ℕ, zero, suc, true, List, [], ◌∷◌, ◌++◌, length, take, replicate, refl, sym, ap, ap₂, subst, inl, inr, length-append, arith}
use Rattle.std.specs.Prelude.{All}
use Rattle.std.proofs.lemmas.List.{length-take-le}
use native.Mathlib.Decide.{dec_le, ℕ_discrete}
use Rattle.alg_core.specs.Lists.{In, in_left, in_right}
use Rattle.alg_core.proofs.Members.{in_cases}
use Rattle.poly_module.specs.GreatestExponents.{total}
use Rattle.module_groebner.proofs.Families.{all_in, in_all}
use Rattle.finite_certificate.specs.StandardMonomials.{Rise}
use Rattle.primary_module.specs.PrimaryModules.{rank_limit}
use Rattle.primary_module.specs.UndividedMonomials.{is_undivided, multiples_below, AreUndivided, HasUndivided, IsSmall}
use Rattle.primary_module.proofs.RisingMonomials.{degree_smaller, rise_append, in_take, rise_take}
use Rattle.primary_module.proofs.DegreeLayers.{IsDegree, next_degree}

zeros_of_degree : (n : ℕ) (a : List ℕ) → length a ≡ n → total a ≡ 0 → replicate n 0 ≡ a
zeros_of_degree zero [] l t = refl
zeros_of_degree zero (x ∷ a) l t = absurd (omega arith)
zeros_of_degree (suc n) [] l t = absurd (omega arith)
zeros_of_degree (suc n) (x ∷ a) l t = ap₂ ◌∷◌ (omega arith) (zeros_of_degree n a (omega arith) (omega arith))

wide_zeros : (n : ℕ) → length {A = ℕ} (replicate n 0) ≡ n
wide_zeros zero = refl
wide_zeros (suc n) = ap suc (wide_zeros n)

total_zeros : (n : ℕ) → total (replicate n 0) ≡ 0
total_zeros zero = refl
total_zeros (suc n) = let r = total_zeros n in omega arith

one_only : (P : List ℕ → Type 0) (a b : List ℕ) → P a → In b (a ∷ []) → P b
one_only P a b h (inl e) = subst P e h
one_only P a b h (inr i) = absurd i

module _ (ls : List (List ℕ)) (n : ℕ) where
  -- those of a degree below d
  pub record AreLow (d : ℕ) (ms : List (List ℕ)) : Type 0 where
    pub wide : All (λ a. length a ≡ n) ms
    pub low : All (λ a. total a < d) ms
    pub rising : Rise n ms
    pub undivided : All (λ a. is_undivided ls a ≡ true) ms
    pub all : (a : List ℕ) → length a ≡ n → total a < d → is_undivided ls a ≡ true → In a ms

  -- how far the search is: those below a degree, at least one of each, and those of this degree
  pub record IsSearch (ms bs : List (List ℕ)) : Type 0 where
    pub degree : ℕ
    pub before : AreLow degree ms
    pub here : IsDegree ls n degree bs
    pub many : degree ≤ length ms

  pub search_first : (ms bs : List (List ℕ)) → is_undivided ls (replicate n 0) ≡ true → ms ≡ [] → bs ≡ replicate n 0 ∷ [] → IsSearch ms bs
  search_first ms bs one e f = subst (λ x. IsSearch x bs) (sym e) (subst (IsSearch []) (sym f) (record {
    degree = 0;
    before = record {
      wide = in_all (λ a. length a ≡ n) [] (λ a i. absurd i);
      low = in_all (λ a. total a < 0) [] (λ a i. absurd i);
      rising = tt;
      undivided = in_all (λ a. is_undivided ls a ≡ true) [] (λ a i. absurd i);
      all = λ a l t u. absurd (omega arith);
    };
    here = record {
      wide = in_all (λ a. length a ≡ n) (replicate n 0 ∷ []) (λ a. one_only (λ x. length x ≡ n) (replicate n 0) a (wide_zeros n));
      degree = in_all (λ a. total a ≡ 0) (replicate n 0 ∷ []) (λ a. one_only (λ x. total x ≡ 0) (replicate n 0) a (total_zeros n));
      rising = (λ b i. absurd i, tt);
      undivided = in_all (λ a. is_undivided ls a ≡ true) (replicate n 0 ∷ []) (λ a. one_only (λ x. is_undivided ls x ≡ true) (replicate n 0) a one);
      all = λ a l t u. inl (zeros_of_degree n a l t);
    };
    many = omega arith;
  }))

  all_both : (P : List ℕ → Type 0) (xs ys : List (List ℕ)) → All P xs → All P ys → All P (xs ++ ys)
  all_both P xs ys h g = in_all P (xs ++ ys) (λ a i. go a (in_cases a xs ys i))
    where
      go : (a : List ℕ) → In a xs ⊎ In a ys → P a
      go a (inl i) = all_in P xs h a i
      go a (inr i) = all_in P ys g a i

  module _ (d : ℕ) (ms bs : List (List ℕ)) (h : AreLow d ms) (g : IsDegree ls n d bs) where
    both_wide : All (λ a. length a ≡ n) (ms ++ bs)
    both_wide = all_both (λ a. length a ≡ n) ms bs h.wide g.wide

    both_undivided : All (λ a. is_undivided ls a ≡ true) (ms ++ bs)
    both_undivided = all_both (λ a. is_undivided ls a ≡ true) ms bs h.undivided g.undivided

    both_rising : Rise n (ms ++ bs)
    both_rising = rise_append n ms bs h.rising g.rising (λ a b p q.
        let low = all_in (λ x. total x < d) ms h.low a p in
        let same = all_in (λ x. total x ≡ d) bs g.degree b q in
        degree_smaller n a b (all_in (λ x. length x ≡ n) ms h.wide a p) (all_in (λ x. length x ≡ n) bs g.wide b q) (omega arith))

    both_low : AreLow (suc d) (ms ++ bs)
    both_low = record {
      wide = both_wide;
      low = all_both (λ a. total a < suc d) ms bs
          (in_all (λ a. total a < suc d) ms (λ a i. let t = all_in (λ x. total x < d) ms h.low a i in omega arith))
          (in_all (λ a. total a < suc d) bs (λ a i. let t = all_in (λ x. total x ≡ d) bs g.degree a i in omega arith));
      rising = both_rising;
      undivided = both_undivided;
      all = λ a l t u. go a l t u (ℕ_discrete (total a) d);
    }
      where
        go : (a : List ℕ) → length a ≡ n → total a < suc d → is_undivided ls a ≡ true → Dec (total a ≡ d) → In a (ms ++ bs)
        go a l t u (yes e) = in_right a ms bs (g.all a l e u)
        go a l t u (no e) = in_left a ms bs (h.all a l (omega arith) u)

  pub search_more : (ms bs new next : List (List ℕ)) → IsSearch ms bs → 0 < length bs → new ≡ ms ++ bs → next ≡ multiples_below ls n n bs → IsSearch new next
  search_more ms bs new next s some e f = subst (λ x. IsSearch x next) (sym e) (subst (IsSearch (ms ++ bs)) (sym f) (record {
    degree = suc s.degree;
    before = both_low s.degree ms bs s.before s.here;
    here = next_degree ls n s.degree bs s.here;
    many = let l = length-append ms bs in let m = s.many in omega arith;
  }))

  -- no memory is taken past the greatest rank
  pub search_small : (ms bs : List (List ℕ)) → IsSearch ms bs → length ms ≤ rank_limit → All (IsSmall n) bs
  search_small ms bs s few = in_all (IsSmall n) bs (λ a i. record {
    wide = all_in (λ x. length x ≡ n) bs s.here.wide a i;
    low = let t = all_in (λ x. total x ≡ s.degree) bs s.here.degree a i in let m = s.many in omega arith;
  })

  -- the first too many
  pub search_over : (ms bs : List (List ℕ)) (m : ℕ) → IsSearch ms bs → m ≤ length ms + length bs → HasUndivided ls n m
  search_over ms bs m s more = record {
    some = take m (ms ++ bs);
    wide = in_all (λ a. length a ≡ n) (take m (ms ++ bs)) (λ a i. all_in (λ x. length x ≡ n) (ms ++ bs) (both_wide s.degree ms bs s.before s.here) a (in_take n m (ms ++ bs) a i));
    rising = rise_take n m (ms ++ bs) (both_rising s.degree ms bs s.before s.here);
    undivided = in_all (λ a. is_undivided ls a ≡ true) (take m (ms ++ bs)) (λ a i. all_in (λ x. is_undivided ls x ≡ true) (ms ++ bs) (both_undivided s.degree ms bs s.before s.here) a (in_take n m (ms ++ bs) a i));
    count = length-take-le m (ms ++ bs) (let l = length-append ms bs in omega arith);
  }

  nothing_below : (j : ℕ) → multiples_below ls n j [] ≡ []
  nothing_below zero = refl
  nothing_below (suc j) = nothing_below j

  -- a degree without any is followed by such degrees alone
  nothing_after : (k d : ℕ) → IsDegree ls n d [] → IsDegree ls n (k + d) []
  nothing_after zero d h = let e : d ≡ 0 + d = omega arith in subst (λ x. IsDegree ls n x []) e h
  nothing_after (suc k) d h =
      let e : suc (k + d) ≡ suc k + d = omega arith in
      subst (λ x. IsDegree ls n x []) e (subst (IsDegree ls n (suc (k + d))) (nothing_below n) (next_degree ls n (k + d) [] (nothing_after k d h)))

  -- the end of the search
  pub search_ends : (ms bs : List (List ℕ)) → IsSearch ms bs → length bs ≡ 0 → AreUndivided ls n ms × All (λ a. total a < length ms) ms
  search_ends ms (x ∷ bs) s none = absurd (omega arith)
  search_ends ms [] s none = (
    record { wide = s.before.wide; rising = s.before.rising; undivided = s.before.undivided; all = λ a l u. go a l u (dec_le s.degree (total a)) },
    in_all (λ a. total a < length ms) ms (λ a i. let t = all_in (λ x. total x < s.degree) ms s.before.low a i in let m = s.many in omega arith),
  )
    where
      go : (a : List ℕ) → length a ≡ n → is_undivided ls a ≡ true → Dec (s.degree ≤ total a) → In a ms
      go a l u (yes p) = absurd ((nothing_after (total a - s.degree) s.degree s.here).all a l (omega arith) u)
      go a l u (no p) = s.before.all a l (omega arith) u
