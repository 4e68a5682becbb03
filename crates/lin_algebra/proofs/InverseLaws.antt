-- The inverse of a matrix by the reduced echelon form of the matrix and the identity.
use Rattle.std.proofs.Common.{◌≡◌, ℕ, zero, suc, ◌+◌, ◌-◌, ◌<◌, ◌≤◌, ◌⊎◌, inl, inr, List, [], ◌∷◌, ◌++◌, map, length, get_or, sym, ap, ap₂, ◌∙◌, refl, arith, subst}
use Rattle.std.proofs.lemmas.Bool.{cases_lt}
use Rattle.std.proofs.lemmas.List.{map-append, append-nil, ext_get_or}
use native.Mathlib.Decide.{ℕ_discrete}
use Rattle.alg_core.specs.Rings.{Ring}
use Rattle.alg_core.specs.ModuleLaws as modules
use Rattle.lin_algebra.specs.Vectors.{vectors, dot, unit}
use Rattle.alg_core.specs.Spans.{InSpan, SameSpan}
use Rattle.lin_algebra.specs.Matrices.{beside, product, IsIdentity, IsInverse}
use Rattle.lin_algebra.specs.Echelons.{PivotRow, rows, IsPivotRow, Precedes, IsReducedEchelon}
use Rattle.alg_core.specs.Lists.{In}
use Rattle.lin_algebra.proofs.EachLaws.{Each_at}
use Rattle.lin_algebra.proofs.SpanLaws.{span_ind, SameSpan_from}
use Rattle.lin_algebra.proofs.DotLaws.{dot_same, dot_zero, dot_add, dot_act, dot_comm, dot_unit, dot_unit_past, unit_at, unit_other, unit_comm}
use Rattle.lin_algebra.proofs.EchelonLaws.{by_pivots, by_pivots_span, each_pivot_row, zero_at_others, reduced_unique}
use Rattle.lin_algebra.proofs.ChangeLaws.{IsReducedEchelon_insert}
use Rattle.lin_algebra.proofs.KernelLaws.{span_total}
use Rattle.lin_algebra.proofs.CutLaws.{listing, length_listing, get_or-listing}
use Rattle.lin_algebra.proofs.KernelOf.{Each_listing, span_listing}
use Rattle.lin_algebra.proofs.BesideLaws.{beside_left, beside_right}
use Rattle.lin_algebra.proofs.SolutionLaws.{pivot_row_in_span}

pub map_listing : {A B : Type 0} (f : A → B) (g : ℕ → A) (n : ℕ) → map f (listing g n) ≡ listing (λ i. f (g i)) n
map_listing f g zero = refl
map_listing f g (suc n) = map-append f (listing g n) (g n ∷ []) ∙ ap (λ l. l ++ f (g n) ∷ []) (map_listing f g n)

pub in_at : {A : Type 0} (l : List A) (i : ℕ) (d : A) → i < length l → In (get_or l i d) l
in_at [] i d h = absurd (omega arith)
in_at (x ∷ l) zero d h = inl refl
in_at (x ∷ l) (suc i) d h = inr (in_at l i d (omega arith))

module _ {K : Type 0} (R : Ring K) where
  abbrev V : Type 0
  V = ℕ → K

  by_pivots_append : (v : V) (l : List (PivotRow K)) (e : PivotRow K) → by_pivots R v (l ++ e ∷ []) ≡ (vectors R).◌+◌ (by_pivots R v l) ((vectors R).◌·◌ (v e.0) e.1)
  by_pivots_append v [] e = (vectors R).add_zero _ ∙ sym (modules.zero_add (vectors R) _)
  by_pivots_append v (x ∷ l) e = ap ((vectors R).◌+◌ ((vectors R).◌·◌ (v x.0) x.1)) (by_pivots_append v l e) ∙ sym ((vectors R).add_assoc _ _ _)

  -- with the pivots 0, 1, .. it is a sum over the columns
  by_pivots_listing : (v : V) (f : ℕ → V) (n c : ℕ) → by_pivots R v (listing (λ t. (let e : PivotRow K = (t, f t) in e)) n) c ≡ dot R n v (λ t. f t c)
  by_pivots_listing v f zero c = refl
  by_pivots_listing v f (suc n) c = ap (λ u. u c) (by_pivots_append v (listing (λ t. (let e : PivotRow K = (t, f t) in e)) n) (n, f n)) ∙ ap (λ x. R.◌+◌ x (R.◌*◌ (v n) (f n c))) (by_pivots_listing v f n c)

  pub IsReducedEchelon_listing : (g : ℕ → PivotRow K) (n : ℕ) → ((j : ℕ) → j < n → IsPivotRow R (g j)) → ((i j : ℕ) → i < j → j < n → Precedes R (g i) (g j)) → IsReducedEchelon R (listing g n)
  IsReducedEchelon_listing g zero h p = tt
  IsReducedEchelon_listing g (suc n) h p =
      IsReducedEchelon_insert R (listing g n) [] (g n) (subst (IsReducedEchelon R) (sym (append-nil (listing g n))) (IsReducedEchelon_listing g n (λ j b. h j (omega arith)) (λ i j q b. p i j q (omega arith)))) (h n (omega arith))
      (Each_listing (λ e. Precedes R e (g n)) g n (λ i b. p i n b (omega arith))) tt

  module _ (n : ℕ) (a : ℕ → V) where
    -- a row of a, and the unit vector after it
    abbrev pub augmented : ℕ → V
    augmented i = beside n (a i) (unit R i)

    -- the left half of a combination is its right half times a
    left_half : (j : ℕ) → j < n → (z : V) → InSpan (vectors R) (listing augmented n) z → z j ≡ dot R n (λ t. z (n + t)) (λ t. a t j)
    left_half j b = span_ind (vectors R) (λ z. z j ≡ dot R n (λ t. z (n + t)) (λ t. a t j))
        (sym (dot_zero R n _ _ (λ _ _. refl)))
        (λ u v h g. ap₂ R.◌+◌ h g ∙ sym (dot_add R n (λ t. u (n + t)) (λ t. v (n + t)) (λ t. a t j)))
        (λ c u h. ap (R.◌*◌ c) h ∙ sym (dot_act R n c (λ t. u (n + t)) (λ t. a t j)))
        (listing augmented n)
        (Each_listing (λ z. z j ≡ dot R n (λ t. z (n + t)) (λ t. a t j)) augmented n (λ i p.
        beside_left n (a i) (unit R i) j b
        ∙ sym (dot_same R n (λ t. augmented i (n + t)) (unit R i) _ (λ t. a t j) (λ t _. right i t) (λ _ _. refl) ∙ dot_comm R n (unit R i) (λ t. a t j) ∙ dot_unit R n (λ t. a t j) i p)))
      where
        right : (i t : ℕ) → augmented i (n + t) ≡ unit R i t
        right i t = beside_right n (a i) (unit R i) (n + t) (omega arith) ∙ ap (unit R i) (omega arith)

    module _ (l : List (PivotRow K)) (r : IsReducedEchelon R l) (s : SameSpan (vectors R) (rows R l) (listing augmented n)) where
      module _ (d : PivotRow K) (count : length l ≡ n) (pivots : (i : ℕ) → i < n → (get_or l i d).0 ≡ i) where
        abbrev row_at : ℕ → V
        row_at i = (get_or l i d).1

        in_list : (i : ℕ) → i < n → In (get_or l i d) l
        in_list i b = in_at l i d (omega (arith, count))

        -- the left half of the list is the identity
        row_at_unit : (i j : ℕ) → i < n → j < n → row_at i j ≡ unit R i j
        row_at_unit i j b q = go (ℕ_discrete i j)
          where
            go : Dec (i ≡ j) → row_at i j ≡ unit R i j
            go (yes e) = ap (row_at i) (sym e ∙ sym (pivots i b)) ∙ (Each_at (IsPivotRow R) l (each_pivot_row R l r) (get_or l i d) (in_list i b)).at ∙ sym (unit_at R i j e)
            go (no m) = ap (row_at i) (sym (pivots j q)) ∙ zero_at_others R l r (get_or l i d) (get_or l j d) (in_list i b) (in_list j q) (λ e. m (sym (pivots i b) ∙ e ∙ pivots j q)) ∙ sym (unit_other R i j m)

        abbrev pub right_half : ℕ → V
        right_half i j = row_at i (n + j)

        left_inverse : IsIdentity R n (product R n right_half a)
        left_inverse i j b q = sym (left_half j q (row_at i) ((s (row_at i)).0 (pivot_row_in_span R l (get_or l i d) (in_list i b)))) ∙ row_at_unit i j b q

        list_is : l ≡ listing (λ t. (let e : PivotRow K = (t, row_at t) in e)) n
        list_is = ext_get_or d l (listing (λ t. (let e : PivotRow K = (t, row_at t) in e)) n) (count ∙ sym (length_listing _ n))
            (λ i b. let q : i < n = omega (arith, count) in (let e : get_or l i d ≡ (i, row_at i) = λ x. (pivots i q x, row_at i) in e) ∙ sym (get_or-listing (λ t. (let e : PivotRow K = (t, row_at t) in e)) n i d q))

        right_inverse : IsIdentity R n (product R n a right_half)
        right_inverse i j b q =
            let u = augmented i in
            let split : by_pivots R u l ≡ u = by_pivots_span R l r u ((s u).1 (span_listing (vectors R) augmented n i b)) in
            sym (dot_same R n u (a i) (λ t. row_at t (n + j)) (λ t. row_at t (n + j)) (λ t p. beside_left n (a i) (unit R i) t p) (λ _ _. refl))
            ∙ sym (by_pivots_listing u row_at n (n + j)) ∙ ap (λ m. by_pivots R u m (n + j)) (sym list_is) ∙ ap (λ v. v (n + j)) split
            ∙ beside_right n (a i) (unit R i) (n + j) (omega arith) ∙ ap (unit R i) (omega arith)

        pub half_is_inverse : IsInverse R n a right_half
        half_is_inverse = record { right = right_inverse; left = left_inverse }

      -- with an inverse the list has the pivots 0, .., n - 1
      module _ (one_not_zero : ¬ (R.one ≡ R.zero)) (b : ℕ → V) (inverse : IsInverse R n a b) where
        abbrev other : ℕ → V
        other j = beside n (unit R j) (beside n (b j) (λ _. R.zero))

        abbrev wanted : ℕ → PivotRow K
        wanted j = (j, other j)

        other_left : (j c : ℕ) → c < n → other j c ≡ unit R j c
        other_left j c h = beside_left n (unit R j) (beside n (b j) (λ _. R.zero)) c h

        wanted_reduced : IsReducedEchelon R (listing wanted n)
        wanted_reduced = IsReducedEchelon_listing wanted n
            (λ j h. record { before = λ c q. other_left j c (omega arith) ∙ unit_other R j c (λ e. absurd (omega arith)); at = other_left j j h ∙ unit_at R j j refl })
            (λ i j q h. record { rises = q; clear = other_left i j h ∙ unit_other R i j (λ e. absurd (omega arith)) })

        -- each wanted row is a combination of the augmented rows
        other_at : (j c : ℕ) → j < n → (c < n) ⊎ (n ≤ c) → dot R n (b j) (λ i. augmented i c) ≡ other j c
        other_at j c h (inl q) = dot_same R n (b j) (b j) (λ i. augmented i c) (λ i. a i c) (λ _ _. refl) (λ i _. beside_left n (a i) (unit R i) c q) ∙ inverse.left j c h q ∙ sym (other_left j c q)
        other_at j c h (inr q) =
            dot_same R n (b j) (b j) (λ i. augmented i c) (unit R (c - n)) (λ _ _. refl) (λ i _. beside_right n (a i) (unit R i) c q ∙ unit_comm R i (c - n))
            ∙ at (cases_lt (c - n) n) ∙ sym (beside_right n (unit R j) (beside n (b j) (λ _. R.zero)) c q)
          where
            at : (c - n < n) ⊎ (n ≤ c - n) → dot R n (b j) (unit R (c - n)) ≡ beside n (b j) (λ _. R.zero) (c - n)
            at (inl p) = dot_unit R n (b j) (c - n) p ∙ sym (beside_left n (b j) (λ _. R.zero) (c - n) p)
            at (inr p) = dot_unit_past R n (b j) (c - n) p ∙ sym (beside_right n (b j) (λ _. R.zero) (c - n) p)

        -- and each augmented row one of the wanted rows
        augmented_at : (i c : ℕ) → i < n → (c < n) ⊎ (n ≤ c) → dot R n (a i) (λ j. other j c) ≡ augmented i c
        augmented_at i c h (inl q) =
            dot_same R n (a i) (a i) (λ j. other j c) (unit R c) (λ _ _. refl) (λ j _. other_left j c q ∙ unit_comm R j c) ∙ dot_unit R n (a i) c q ∙ sym (beside_left n (a i) (unit R i) c q)
        augmented_at i c h (inr q) = at (cases_lt (c - n) n) ∙ sym (beside_right n (a i) (unit R i) c q)
          where
            at : (c - n < n) ⊎ (n ≤ c - n) → dot R n (a i) (λ j. other j c) ≡ unit R i (c - n)
            at (inl p) = dot_same R n (a i) (a i) (λ j. other j c) (λ j. b j (c - n)) (λ _ _. refl) (λ j _. beside_right n (unit R j) (beside n (b j) (λ _. R.zero)) c q ∙ beside_left n (b j) (λ _. R.zero) (c - n) p) ∙ inverse.right i (c - n) h p
            at (inr p) = dot_comm R n (a i) _ ∙ dot_zero R n (λ j. other j c) (a i) (λ j _. beside_right n (unit R j) (beside n (b j) (λ _. R.zero)) c q ∙ beside_right n (b j) (λ _. R.zero) (c - n) p)
                ∙ sym (unit_other R i (c - n) (λ e. absurd (omega arith)))

        wanted_span : SameSpan (vectors R) (listing other n) (listing augmented n)
        wanted_span = SameSpan_from (vectors R) (listing other n) (listing augmented n)
            (Each_listing (InSpan (vectors R) (listing augmented n)) other n (λ j h. subst (InSpan (vectors R) (listing augmented n)) (λ x c. other_at j c h (cases_lt c n) x) (span_total R (listing augmented n) n (b j) augmented (λ i q. span_listing (vectors R) augmented n i q))))
            (Each_listing (InSpan (vectors R) (listing other n)) augmented n (λ i h. subst (InSpan (vectors R) (listing other n)) (λ x c. augmented_at i c h (cases_lt c n) x) (span_total R (listing other n) n (a i) other (λ j q. span_listing (vectors R) other n j q))))

        wanted_is : l ≡ listing wanted n
        wanted_is = reduced_unique R one_not_zero l (listing wanted n) r wanted_reduced
            (λ v. (
              λ h. subst (λ m. InSpan (vectors R) m v) (sym (map_listing (λ e. e.1) wanted n)) ((wanted_span v).1 ((s v).0 h)),
              λ h. (s v).1 ((wanted_span v).0 (subst (λ m. InSpan (vectors R) m v) (map_listing (λ e. e.1) wanted n) h)),
            ))

        pub inverse_count : length l ≡ n
        inverse_count = ap length wanted_is ∙ length_listing wanted n

        pub inverse_pivots : (i : ℕ) (d : PivotRow K) → i < n → (get_or l i d).0 ≡ i
        inverse_pivots i d h = ap (λ m. (get_or m i d).0) wanted_is ∙ ap (λ e. e.0) (get_or-listing wanted n i d h)
