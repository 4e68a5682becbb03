-- The steps of elimination on rows of values.
use Rattle.std.proofs.Common.{◌≡◌, ◌≢◌, ◌⊎◌, max, ℕ, zero, suc, ◌+◌, ◌<◌, ◌≤◌, inl, inr, List, [], ◌∷◌, ◌++◌, map, length, take, drop, get_or, set, All, Option, Some, IfSome, sym, ap, ap₂, ◌∙◌, arith, subst}
use Rattle.std.proofs.lemmas.Bool.{cases_lt}
use Rattle.std.specs.List.{insert, AllByRecursion as Each}
use Rattle.std.specs.Vec.{with_items}
use Rattle.std.proofs.lemmas.List.{with_items_is, drop_more, drop_all, get_or_read, get_or-map, map-set, map-append, take-map, drop-map, length-map, ext_get_or, get_or_default, length-take-le, get_or-take}
use Rattle.std.proofs.lemmas.List.Elements.{All-set, All-from_recursion, recursion_from_All}
use Rattle.alg_core.specs.RingLaws as rings
use Rattle.alg_core.specs.Lists.{In}
use Rattle.lin_algebra.proofs.EachLaws.{Each_at, Each_map, Each_of_map}
use Rattle.lin_algebra.proofs.EchelonLaws.{each_pivot_row, zero_at_others}
use Rattle.alg_core.specs.Fields.{FieldOn, Has, Scalar, scalars, scalar, scalar_zero, scalar_one, scalar_mul, scalar_neg}
use Rattle.lin_algebra.specs.declared.elimination.BasisRow.{BasisRow}
use Rattle.lin_algebra.specs.Vectors.{vectors, vector, IsRow}
use Rattle.lin_algebra.specs.Echelons.{PivotRow, IsPivotRow}
use Rattle.lin_algebra.specs.Bases.{cleared_at, cleared, reduced_by, basis_rows, rows_of_basis, IsBasis, IsMonicMultiple, IsPlacedIn, IsPutIn}
use Rattle.lin_algebra.proofs.RowLaws.{Written, written_more}

module _ {E : Type 0} (k : FieldOn E) where
  -- the factor that clears a column
  pub factor_is : (row : List E) (column : ℕ) (a factor : E) → column < length row → All (Has k) row → a ≡ get_or row column a → factor ≡ k.neg a
      → scalar k factor ≡ (scalars k).neg (vector k row column)
  factor_is row column a factor inside has read is =
      let was = get_or_read row column a inside read k.zero in
      ap (scalar k) (is ∙ ap k.neg was) ∙ scalar_neg k _ (has column k.zero inside)

  -- where the factor is 0 nothing is to be done
  pub cleared_by_zero : (row by : List E) (column : ℕ) (a factor : E) → column < length row → All (Has k) row → a ≡ get_or row column a → factor ≡ k.neg a → factor ≡ k.zero
      → vector k row ≡ cleared_at (scalars k) column (vector k by) (vector k row)
  cleared_by_zero row by column a factor inside has read is none =
      let X = vectors (scalars k) in
      let zero_factor : (scalars k).neg (vector k row column) ≡ (scalars k).zero = sym (factor_is row column a factor inside has read is) ∙ ap (scalar k) none ∙ scalar_zero k in
      sym (ap (X.◌+◌ (vector k row)) (ap (λ c. X.◌·◌ c (vector k by)) zero_factor ∙ X.zero_act (vector k by)) ∙ X.add_zero (vector k row))

  pub cleared_by_sum : (row by new : List E) (column : ℕ) (a factor : E) → column < length row → All (Has k) row → a ≡ get_or row column a → factor ≡ k.neg a
      → vector k new ≡ (vectors (scalars k)).◌+◌ (vector k row) ((vectors (scalars k)).◌·◌ (scalar k factor) (vector k by))
      → vector k new ≡ cleared_at (scalars k) column (vector k by) (vector k row)
  cleared_by_sum row by new column a factor inside has read is sum =
      let X = vectors (scalars k) in
      sum ∙ ap (λ c. X.◌+◌ (vector k row) (X.◌·◌ c (vector k by))) (factor_is row column a factor inside has read is)

  -- one row more has cleared
  pub reduced_more : (basis : List (BasisRow E)) (i : ℕ) (x : BasisRow E) (row new : List E) (total : ℕ → Scalar k) → i < length basis → x ≡ get_or basis i x
      → vector k new ≡ cleared_at (scalars k) x.pivot (vector k x.entries.items) (vector k row)
      → reduced_by (scalars k) (vector k row) (basis_rows k (drop i basis)) ≡ total
      → reduced_by (scalars k) (vector k new) (basis_rows k (drop (i + 1) basis)) ≡ total
  reduced_more basis i x row new total inside read clear was =
      let split : drop i basis ≡ x ∷ drop (i + 1) basis = drop_more basis i x inside ∙ ap (λ (y : BasisRow E). y ∷ drop (i + 1) basis) (sym read) in
      ap (λ v. reduced_by (scalars k) v (basis_rows k (drop (i + 1) basis))) clear
      ∙ sym (ap (λ l. reduced_by (scalars k) (vector k row) (basis_rows k l)) split) ∙ was

  pub reduced_all : (basis : List (BasisRow E)) (i : ℕ) (v total : ℕ → Scalar k) → length basis ≤ i
      → reduced_by (scalars k) v (basis_rows k (drop i basis)) ≡ total → v ≡ total
  reduced_all basis i v total past was = sym (ap (λ l. reduced_by (scalars k) v (basis_rows k l)) (drop_all i basis past)) ∙ was

  abbrev row_of : BasisRow E → PivotRow (Scalar k)
  row_of e = (e.pivot, vector k e.entries.items)

  abbrev pub no_row : PivotRow (Scalar k)
  no_row = (0, (vectors (scalars k)).zero)

  -- a row of the list, at its place among the vectors
  pub basis_rows_at : (basis : List (BasisRow E)) (i : ℕ) (x : BasisRow E) (d : PivotRow (Scalar k)) → i < length basis → x ≡ get_or basis i x → row_of x ≡ get_or (basis_rows k basis) i d
  basis_rows_at basis i x d inside read =
      ap row_of read ∙ sym (get_or-map row_of basis i x d inside)

  pub basis_rows_set : (basis : List (BasisRow E)) (i : ℕ) (x : BasisRow E) → basis_rows k (set basis i x) ≡ set (basis_rows k basis) i (x.pivot, vector k x.entries.items)
  basis_rows_set basis i x = map-set row_of basis i x

  pub length_basis_rows : (basis : List (BasisRow E)) → length (basis_rows k basis) ≡ length basis
  length_basis_rows basis = length-map basis row_of

  pub basis_rows_insert : (basis : List (BasisRow E)) (i : ℕ) (x : BasisRow E) → basis_rows k (insert basis i x) ≡ take i (basis_rows k basis) ++ (x.pivot, vector k x.entries.items) ∷ drop i (basis_rows k basis)
  basis_rows_insert basis i x =
      let f : BasisRow E → PivotRow (Scalar k) = λ e. (e.pivot, vector k e.entries.items) in
      map-append f (take i basis) (x ∷ drop i basis) ∙ ap₂ (λ (a b : List (PivotRow (Scalar k))). a ++ f x ∷ b) (sym (take-map f i basis)) (sym (drop-map f i basis))

  -- all rows are cleared
  pub all_cleared : (p : ℕ) (w : ℕ → Scalar k) (old new : List (PivotRow (Scalar k))) (i : ℕ) → length new ≡ length old → length old ≤ i
      → Written no_row (λ j. cleared (scalars k) p w) old new i → new ≡ map (cleared (scalars k) p w) old
  all_cleared p w old new i same past h =
      ext_get_or no_row new (map (cleared (scalars k) p w) old) (same ∙ sym (length-map old (cleared (scalars k) p w)))
      (λ j b. h.done j (omega arith) ∙ sym (get_or-map (cleared (scalars k) p w) old j no_row no_row (omega arith)))

  -- a row of the list is written anew
  module _ (n p : ℕ) (w : ℕ → Scalar k) (init : List (PivotRow (Scalar k))) (basis : List (BasisRow E)) (i : ℕ) (d : BasisRow E) (ws : List E)
      (inside : i < length basis) (count : length ws ≡ length (get_or basis i d).entries.items) where
    abbrev pub changed : BasisRow E
    changed = record { pivot = (get_or basis i d).pivot; entries = with_items (get_or basis i d).entries ws }

    changed_items : changed.entries.items ≡ ws
    changed_items = let whole = (get_or basis i d).entries.ok.0 in with_items_is (get_or basis i d).entries ws (omega (arith, whole, count))

    pub rows_more : All (Has k) ws → All (λ e. IsRow k n e.entries.items) basis → All (λ e. IsRow k n e.entries.items) (set basis i changed)
    rows_more has h = All-set (λ e. IsRow k n e.entries.items) basis i changed
        (subst (IsRow k n) (sym changed_items) (record { count = count ∙ (h i d inside).count; has = has })) h

    pub clear_more : vector k ws ≡ cleared_at (scalars k) p w (vector k (get_or basis i d).entries.items)
        → Written no_row (λ j. cleared (scalars k) p w) init (basis_rows k basis) i → Written no_row (λ j. cleared (scalars k) p w) init (basis_rows k (set basis i changed)) (i + 1)
    clear_more clear was =
        let old : PivotRow (Scalar k) = row_of (get_or basis i d) in
        let made : ◌≡◌ {A = PivotRow (Scalar k)} (row_of changed) (cleared (scalars k) p w old) = λ t. ((get_or basis i d).pivot, (ap (vector k) changed_items ∙ clear) t) in
        subst (λ l. Written no_row (λ j. cleared (scalars k) p w) init l (i + 1)) (sym (basis_rows_set basis i changed))
        (written_more no_row (λ j. cleared (scalars k) p w) init (basis_rows k basis) i old (row_of changed) (omega (arith, length_basis_rows basis)) was
        (basis_rows_at basis i (get_or basis i d) old inside (get_or_default basis i d (get_or basis i d) inside)) made)

  -- the multiple of a row by the inverse of its entry
  pub monic_by : (row new : List E) (p : ℕ) (a b : E) (o : Option E) → p < length row → All (Has k) row → a ≡ get_or row p a → o ≡ Some b → IfSome o (λ x. Has k x × (k.mul a x ≡ k.one))
      → vector k new ≡ (vectors (scalars k)).◌·◌ (scalar k b) (vector k row) → IsMonicMultiple (scalars k) p (vector k row) (vector k new)
  monic_by row new p a b o inside has read found h multiple =
      let P : E → Type 0 = λ x. Has k x × (k.mul a x ≡ k.one) in
      let b_is : P b = subst (λ x. IfSome x P) found h in
      let was = get_or_read row p a inside read k.zero in
      let has_a : Has k a = subst (Has k) (sym was) (has p k.zero inside) in
      record {
        factor = scalar k b;
        inverse = (scalars k).mul_comm _ _ ∙ ap (λ x. (scalars k).◌*◌ (scalar k x) (scalar k b)) (sym was) ∙ sym (scalar_mul k a b has_a b_is.0) ∙ ap (scalar k) b_is.1 ∙ scalar_one k;
        multiple = multiple;
      }

  -- of the rows and of their pivots
  pub inside_rows : (n : ℕ) (basis : List (BasisRow E)) → All (λ e. e.pivot < n) basis → Each (λ e. e.0 < n) (basis_rows k basis)
  inside_rows n basis h = Each_map (λ (e : PivotRow (Scalar k)). e.0 < n) row_of basis (recursion_from_All (λ (e : BasisRow E). e.pivot < n) basis h)

  pub rows_inside : (n : ℕ) (basis : List (BasisRow E)) → Each (λ e. e.0 < n) (basis_rows k basis) → All (λ e. e.pivot < n) basis
  rows_inside n basis h = All-from_recursion (λ (e : BasisRow E). e.pivot < n) basis (Each_of_map (λ (e : PivotRow (Scalar k)). e.0 < n) row_of basis h)

  pub inside_cleared : (n p : ℕ) (w : ℕ → Scalar k) (old mid : List (BasisRow E)) → basis_rows k mid ≡ map (cleared (scalars k) p w) (basis_rows k old) → All (λ e. e.pivot < n) old → All (λ e. e.pivot < n) mid
  inside_cleared n p w old mid clear h =
      rows_inside n mid (subst (Each (λ e. e.0 < n)) (sym clear) (Each_map (λ (e : PivotRow (Scalar k)). e.0 < n) (cleared (scalars k) p w) (basis_rows k old) (inside_rows n old h)))

  -- the row stands after those with smaller pivots
  pub put_in_by : (p t : ℕ) (entries : List E) (old mid new : List (BasisRow E)) (x : BasisRow E) → basis_rows k mid ≡ map (cleared (scalars k) p (vector k entries)) (basis_rows k old)
      → t ≤ length mid → ((i : ℕ) (d : BasisRow E) → i < t → (get_or mid i d).pivot < p) → ((d : BasisRow E) → t < length mid → p ≤ (get_or mid t d).pivot)
      → new ≡ insert mid t x → x.pivot ≡ p → x.entries.items ≡ entries → IsPutIn (scalars k) p (vector k entries) (basis_rows k old) (basis_rows k new)
  put_in_by p t entries old mid new x clear within before after is pivot_is entries_is =
      let u = vector k entries in
      let low : Each (λ e. e.0 < p) (take t (basis_rows k mid))
      = subst (Each (λ (e : PivotRow (Scalar k)). e.0 < p)) (sym (take-map row_of t mid)) (inside_rows p (take t mid)
      (λ i d h. let i_below : i < t = omega (arith, length-take-le t mid within) in subst (λ (e : BasisRow E). e.pivot < p) (sym (get_or-take t mid i d i_below)) (before i d i_below))) in
      let high : (d : PivotRow (Scalar k)) → t < length (basis_rows k mid) → p ≤ (get_or (basis_rows k mid) t d).0
      = λ d h. let t_inside : t < length mid = omega (arith, length_basis_rows mid) in subst (λ (e : PivotRow (Scalar k)). p ≤ e.0) (sym (get_or-map row_of mid t x d t_inside)) (after x t_inside) in
      let list : basis_rows k new ≡ take t (basis_rows k mid) ++ (p, u) ∷ drop t (basis_rows k mid)
      = ap (basis_rows k) is ∙ basis_rows_insert mid t x ∙ ap₂ (λ (q : ℕ) (ys : List E). take t (basis_rows k mid) ++ (q, vector k ys) ∷ drop t (basis_rows k mid)) pivot_is entries_is in
      subst (λ m. IsPlacedIn (scalars k) p u m (basis_rows k new)) clear (record { place = t; low = low; high = high; list = list })

  pub zero_before : (seen : List E) (p : ℕ) → ((i : ℕ) → i < p → get_or seen i k.zero ≡ k.zero) → (j : ℕ) → j < p → vector k seen j ≡ (scalars k).zero
  zero_before seen p h j b = ap (scalar k) (h j b) ∙ scalar_zero k

  pub IsBasis_nil : (n : ℕ) (basis : List (BasisRow E)) → basis ≡ [] → IsBasis k n basis
  IsBasis_nil n basis e = subst (IsBasis k n) (sym e) (record { reduced = tt; rows = λ i d h. absurd (omega arith); inside = λ i d h. absurd (omega arith) })

  pub rows_of_basis_nil : (basis : List (BasisRow E)) → basis ≡ [] → rows_of_basis k basis ≡ []
  rows_of_basis_nil basis e = ap (rows_of_basis k) e

  -- a row of the list is among its vectors
  pub in_basis_rows : (basis : List (BasisRow E)) (i : ℕ) (x : BasisRow E) → i < length basis → get_or basis i x ≡ x → In (row_of x) (basis_rows k basis)
  in_basis_rows [] i x inside read = absurd (omega arith)
  in_basis_rows (e ∷ l) zero x inside read = inl (ap row_of read)
  in_basis_rows (e ∷ l) (suc i) x inside read = inr (in_basis_rows l i x (omega arith) read)

  -- before its pivot a row of the list is 0
  pub zero_before_pivot : (n : ℕ) (basis : List (BasisRow E)) (i : ℕ) (x : BasisRow E) → IsBasis k n basis → i < length basis → x ≡ get_or basis i x
      → (j : ℕ) → j < x.pivot → vector k x.entries.items j ≡ (scalars k).zero
  zero_before_pivot n basis i x h inside read =
      (Each_at (IsPivotRow (scalars k)) (basis_rows k basis) (each_pivot_row (scalars k) (basis_rows k basis) h.reduced) (row_of x) (in_basis_rows basis i x inside (sym read))).before

  -- and where the pivots in front are 0, 1, .., it is 0 there but at its own pivot
  pub zero_before_rest : (n : ℕ) (basis : List (BasisRow E)) (front from i : ℕ) (x : BasisRow E) → IsBasis k n basis → front ≤ length basis → ((j : ℕ) (d : BasisRow E) → j < front → (get_or basis j d).pivot ≡ j)
      → from ≡ max front x.pivot → i < length basis → x ≡ get_or basis i x → (j : ℕ) → j < from → j ≢ x.pivot → vector k x.entries.items j ≡ (scalars k).zero
  zero_before_rest n basis front from i x h within pivots is inside read j low other = go (cases_lt j x.pivot)
    where
      go : (j < x.pivot) ⊎ (x.pivot ≤ j) → vector k x.entries.items j ≡ (scalars k).zero
      go (inl early) = zero_before_pivot n basis i x h inside read j early
      go (inr late) =
          let there : j < front = omega (arith, is, other) in
          let y : BasisRow E = get_or basis j x in
          let at : y.pivot ≡ j = pivots j x there in
          subst (λ p. vector k x.entries.items p ≡ (scalars k).zero) at
          (zero_at_others (scalars k) (basis_rows k basis) h.reduced (row_of x) (row_of y) (in_basis_rows basis i x inside (sym read)) (in_basis_rows basis j y (omega arith) (get_or_default basis j y x (omega arith)))
          (λ e. other (sym at ∙ sym e)))

  -- so is a multiple of a row that is
  pub monic_before : (p : ℕ) (w u : ℕ → Scalar k) → IsMonicMultiple (scalars k) p w u → ((j : ℕ) → j < p → w j ≡ (scalars k).zero) → (j : ℕ) → j < p → u j ≡ (scalars k).zero
  monic_before p w u monic before j h = ap (λ x. x j) monic.multiple ∙ ap ((scalars k).◌*◌ monic.factor) (before j h) ∙ rings.mul_zero (scalars k) monic.factor
