-- The equations of the invariants: their entries, and what solves them.
use Rattle.invariant_space.proofs.Common.{◌≡◌, ◌↔◌, ℕ, ◌+◌, ◌*◌, ◌<◌, ◌≤◌, List, [], ◌∷◌, ◌++◌, length, get_or, Vec, Global, sym, ap, ap₂, subst, ◌∙◌, arith, All, Each, get_or_default, get_or_read, length-append, All-append, All-from_recursion, recursion_from_All, Ring, Linear, FieldOn, Has, Scalar, scalars, scalar, scalar_add, scalar_neg, scalar_one, Key, Falls, OrderOn, In, Vect, vectors, coef_at, coef_at_ext, Supp, supp_outside, coef_at_linear, linear_unique_supp, single_vector, Matrix, IsMatrix, IsKernelVector, cut, rows_of, dot, unit, vector, IsRow, columns, cut_more, length_cut, dot_add_right, dot_act_right, dot_unit, unit_at, unit_comm, unit_other, Each_append, Each_append_left, Each_append_right, act_by, Invariant, IsSquare, act_linear, IsMonomialList, coordinates, Solves, AreImages, EachAt, in_contains, in_or_not, key_same, below_more}
use Rattle.alg_core.specs.FormalSums.{regular}
use Rattle.lin_algebra.specs.Matrices.{entries}
use Rattle.alg_core.specs.RingLaws as rings
use Rattle.alg_core.specs.ModuleLaws as modules
use Rattle.invariant_space.proofs.ImageLaws.{act_keys}
use Rattle.invariant_space.proofs.Places.{element_at}
use Rattle.invariant_space.proofs.RowPolynomials.{coordinates_at, coordinates_past, coordinates_linear, coordinates_single}

-- a product at one vector is linear in the other
dot_linear : {K : Type 0} (R : Ring K) (n : ℕ) (u : ℕ → K) → Linear (columns R) (regular R) (dot R n u)
unfolding regular
dot_linear R n u = record { add = λ v w. dot_add_right R n u v w; act = λ c v. dot_act_right R n c u v }

module _ {E : Type 0} (k : FieldOn E) where
  abbrev plus : Scalar k → Scalar k → Scalar k
  plus = (scalars k).◌+◌

  -- an entry, less 1 on the diagonal
  pub entry_same : (s l : ℕ) (r : List E) (x one minus y : E) → All (Has k) r → s < length r → x ≡ get_or r s x → l ≡ s → one ≡ k.one → minus ≡ k.neg one → y ≡ k.add x minus → plus (scalar k y) (unit (scalars k) s l) ≡ vector k r s
  entry_same s l r x one minus y row h read same o m sum =
      let has : Has k x = subst (Has k) (sym read) (row s x h) in
      let neg_has : Has k (k.neg k.one) = k.has_neg k.one k.has_one in
      let minus_is = m ∙ ap k.neg o in
      ap₂ plus (ap (scalar k) (sum ∙ ap (k.add x) minus_is) ∙ scalar_add k x (k.neg k.one) has neg_has ∙ ap (plus (scalar k x)) (scalar_neg k k.one k.has_one ∙ ap (scalars k).neg (scalar_one k))) (unit_at (scalars k) s l (sym same))
      ∙ (scalars k).add_assoc _ _ _ ∙ ap (plus (scalar k x)) ((scalars k).add_comm _ _ ∙ (scalars k).add_neg _) ∙ (scalars k).add_zero _ ∙ ap (scalar k) (get_or_read r s x h read k.zero)

  pub entry_other : (s l : ℕ) (r : List E) (x : E) → s < length r → x ≡ get_or r s x → ¬ (l ≡ s) → plus (scalar k x) (unit (scalars k) s l) ≡ vector k r s
  entry_other s l r x h read other = ap (plus (scalar k x)) (unit_other (scalars k) s l (λ e. other (sym e))) ∙ (scalars k).add_zero _ ∙ ap (scalar k) (get_or_read r s x h read k.zero)

  -- the equation at a monomial: the coefficient of the image is that of the polynomial
  pub equation_at : (o : OrderOn Key) (m : Matrix E) (ts : List Key) (t : Key) (f : Vect k) (s : ℕ) (image : List (Vec E Global)) (row : List E) → Falls o ts → AreImages k m ts image → s < length image → get_or ts s t ≡ t
      → length row ≡ length image → EachAt (λ l x. (r : Vec E Global) → r ≡ get_or image l r → (scalars k).◌+◌ (scalar k x) (unit (scalars k) s l) ≡ vector k r.items s) row → Supp k (λ u. In u ts) f
      → (scalars k).◌+◌ (dot (scalars k) (length image) (vector k row) (coordinates k ts f)) (coef_at k f t) ≡ coef_at k (act_by k m f) t
  unfolding regular
  equation_at o m ts t f s image row falls images h e wide entry keys = linear_unique_supp k (regular (scalars k)) (λ f. plus (dot (scalars k) n (vector k row) (coordinates k ts f)) (coef_at k f t)) (λ f. coef_at k (act_by k m f) t)
      (modules.linear_add (vectors k) (regular (scalars k)) (λ f. dot (scalars k) n (vector k row) (coordinates k ts f)) (λ f. coef_at k f t)
      (modules.linear_after (vectors k) (columns (scalars k)) (regular (scalars k)) (coordinates k ts) (dot (scalars k) n (vector k row)) (coordinates_linear k ts) (dot_linear (scalars k) n (vector k row))) (coef_at_linear k t))
      (modules.linear_after (vectors k) (vectors k) (regular (scalars k)) (act_by k m) (λ f. coef_at k f t) (act_linear k m.rows (entries k m)) (coef_at_linear k t))
      (λ u. In u ts) at f keys
    where
      n : ℕ
      n = length image

      at : (u : Key) → In u ts → plus (dot (scalars k) n (vector k row) (coordinates k ts (single_vector k u))) (coef_at k (single_vector k u) t) ≡ coef_at k (act_by k m (single_vector k u)) t
      at u i =
          let l = in_contains u ts i in
          let c = images.count in
          let inside : l.0 < n = let a = l.1 in omega arith in
          let column : coordinates k ts (single_vector k u) ≡ unit (scalars k) l.0 = λ r j. coordinates_single k o ts falls l.0 u l.1 l.2 j r in
          let there : s < length ts = omega arith in
          let r = element_at image l.0 inside in
          let low : l.0 < length row = omega arith in
          let x = element_at row l.0 low in
          ap₂ plus (ap (dot (scalars k) n (vector k row)) column ∙ dot_unit (scalars k) n (vector k row) l.0 inside ∙ ap (scalar k) (sym (get_or_read row l.0 x.0 low (sym x.1) k.zero)))
          (sym (coordinates_at k ts (single_vector k u) s t there e) ∙ ap (λ (w : ℕ → Scalar k). w s) column ∙ unit_comm (scalars k) l.0 s)
          ∙ entry l.0 x.0 low (sym x.1) r.0 (sym r.1)
          ∙ ap (λ (w : ℕ → Scalar k). w s) (images.each l.0 r.0 inside (sym r.1) u l.2).is ∙ coordinates_at k ts (act_by k m (single_vector k u)) s t there e

  -- one row more
  pub record Pushed (a b : Matrix E) (row : List E) : Type 0 where
    pub matrix : IsMatrix k b
    pub rows : rows_of b ≡ rows_of a ++ row ∷ []

  pub pushed : (a b : Matrix E) (seen row : List E) (c : ℕ) → IsMatrix k a → a.cols ≡ c → IsRow k c row → seen ≡ row → b.rows ≡ a.rows + 1 → b.cols ≡ a.cols → b.cells.items ≡ a.cells.items ++ seen → Pushed a b row
  pushed a b seen row c whole wide is_row same rows cols cells =
      let n = is_row.count in
      let w = whole.whole in
      let many = length-append a.cells.items row in
      let all = ap length (cells ∙ ap (λ r. a.cells.items ++ r) same) in
      let full : length row ≡ a.cols = omega arith in
      record {
        matrix = record { whole = (let e : b.rows * b.cols ≡ (a.rows + 1) * a.cols = ap₂ (λ x y. x * y) rows cols in omega arith); has = subst (All (Has k)) (sym (cells ∙ ap (λ r. a.cells.items ++ r) same)) (All-append (Has k) a.cells.items row whole.has is_row.has) };
        rows = ap₂ (λ x y. cut x y b.cells.items) rows cols ∙ ap (cut (a.rows + 1) a.cols) (cells ∙ ap (λ r. a.cells.items ++ r) same) ∙ cut_more a.rows a.cols a.cells.items row w full;
      }

  pub solves_pushed : (a b : Matrix E) (row : List E) (c : ℕ) (w : ℕ → Scalar k) → Pushed a b row → a.cols ≡ c → b.cols ≡ a.cols → Solves k b w ↔ (Solves k a w × (dot (scalars k) c (vector k row) w ≡ (scalars k).zero))
  solves_pushed a b row c w h wide cols = (
    λ s. let all = subst (λ (l : List (List E)). Each (P a.cols) l) h.rows (subst (λ (x : ℕ). Each (P x) (rows_of b)) cols s) in
        (Each_append_left (P a.cols) (rows_of a) (row ∷ []) all, subst (λ (x : ℕ). P x row) wide (Each_append_right (P a.cols) (rows_of a) (row ∷ []) all).0),
    λ s. subst (λ (x : ℕ). Each (P x) (rows_of b)) (sym cols) (subst (λ (l : List (List E)). Each (P a.cols) l) (sym h.rows) (Each_append (P a.cols) (rows_of a) (row ∷ []) s.0 (subst (λ (x : ℕ). P x row) (sym wide) s.1, tt))),
  )
    where
      P : ℕ → List E → Type 0
      P x r = dot (scalars k) x (vector k r) w ≡ (scalars k).zero

  pub solves_none : (a : Matrix E) (w : ℕ → Scalar k) → a.rows ≡ 0 → Solves k a w
  solves_none a w e = subst (λ (x : ℕ). Each (λ r. dot (scalars k) a.cols (vector k r) w ≡ (scalars k).zero) (cut x a.cols a.cells.items)) (sym e) tt

  -- the coefficients of the image are those of the polynomial at the first monomials
  abbrev pub FixedBelow : Matrix E → List Key → ℕ → Vect k → Type 0
  FixedBelow m ts s f = (p : ℕ) (t : Key) → p < s → get_or ts p t ≡ t → coef_at k (act_by k m f) t ≡ coef_at k f t

  -- the equation at the next monomial
  pub fixed_more : (ts : List Key) (m : Matrix E) (f : Vect k) (s : ℕ) (Old New Start : Type 0) (x : Scalar k) → s < length ts → (New ↔ (Old × (x ≡ (scalars k).zero))) → ((t : Key) → get_or ts s t ≡ t → (scalars k).◌+◌ x (coef_at k f t) ≡ coef_at k (act_by k m f) t)
      → (Old ↔ (Start × FixedBelow m ts s f)) → (New ↔ (Start × FixedBelow m ts (s + 1) f))
  fixed_more ts m f s Old New Start x h both equation was = (
    λ z.
        let y = both.0 z in
        let w = was.0 y.0 in
        let here = λ (t : Key) (e : get_or ts s t ≡ t). sym (equation t e) ∙ ap (λ y. plus y (coef_at k f t)) y.1 ∙ rings.zero_add (scalars k) _ in
        (w.0, λ p t low e. below_more (λ p. (t : Key) → get_or ts p t ≡ t → coef_at k (act_by k m f) t ≡ coef_at k f t) s (λ p l t e. w.1 p t l e) here p low t e),
    λ z. both.1 (
      was.1 (z.0, λ p t low e. z.1 p t (omega arith) e),
      let t = element_at ts s h in let here : s < s + 1 = omega arith in
          rings.add_cancel (scalars k) (coef_at k f t.0) _ _ ((scalars k).add_comm _ _ ∙ equation t.0 t.1 ∙ z.1 s t.0 here t.1 ∙ sym ((scalars k).add_zero _)),
    ),
  )

  -- at all monomials
  pub fixed_all : (o : OrderOn Key) (n d : ℕ) (ts : List Key) (m : Matrix E) (f : Vect k) (s : ℕ) → IsMonomialList o n d ts → IsSquare k n m → Supp k (λ t. In t ts) f → length ts ≤ s → FixedBelow m ts s f ↔ (act_by k m f ≡ f)
  fixed_all o n d ts m f s monomials square keys all = (λ h. coef_at_ext k _ f (λ t. go h t (in_or_not key_same t ts)), λ h p t low e. ap (λ v. coef_at k v t) h)
    where
      go : FixedBelow m ts s f → (t : Key) → Dec (In t ts) → coef_at k (act_by k m f) t ≡ coef_at k f t
      go h t (yes i) = let p = in_contains t ts i in h p.0 t (let l = p.1 in omega arith) p.2
      go h t (no n') = supp_outside k (λ u. In u ts) _ (act_keys k n o d ts monomials m square f keys) t n' ∙ sym (supp_outside k (λ u. In u ts) f keys t n')

  -- fixed by the first matrices
  abbrev pub InvariantBelow : List (Matrix E) → ℕ → Vect k → Type 0
  InvariantBelow gens i f = (j : ℕ) (d : Matrix E) → j < i → act_by k (get_or gens j d) f ≡ f

  pub invariant_more : (gens : List (Matrix E)) (i : ℕ) (m : Matrix E) (f : Vect k) (Old New : Type 0) → i < length gens → m ≡ get_or gens i m → (New ↔ (Old × (act_by k m f ≡ f))) → (Old ↔ InvariantBelow gens i f) → (New ↔ InvariantBelow gens (i + 1) f)
  invariant_more gens i m f Old New h read both was = (
    λ z j d low.
        let y = both.0 z in
        below_more (λ j. (d : Matrix E) → act_by k (get_or gens j d) f ≡ f) i (λ j l d. was.0 y.0 j d l) (λ d. subst (λ x. act_by k x f ≡ f) (read ∙ get_or_default gens i m d h) y.1) j low d,
    λ z. both.1 (was.1 (λ j d low. z j d (omega arith)), subst (λ x. act_by k x f ≡ f) (sym read) (z i m (omega arith))),
  )

  pub invariant_all : (gens : List (Matrix E)) (i : ℕ) (f : Vect k) → length gens ≤ i → i ≤ length gens → InvariantBelow gens i f ↔ Invariant k gens f
  invariant_all gens i f all within = (λ h j d low. h j d (omega arith), λ h j d low. h j d (omega arith))

  -- the kernel is what solves the rows
  pub kernel_solves : (a : Matrix E) (ts : List Key) (f : Vect k) → a.cols ≡ length ts → IsKernelVector k a (coordinates k ts f) ↔ Solves k a (coordinates k ts f)
  kernel_solves a ts f wide = (
    λ h. recursion_from_All P (rows_of a) (λ i r low. subst P (get_or_default (rows_of a) i [] r low) (h.zero i (let c = many in omega arith))),
    λ h. record { past = λ j low. coordinates_past k ts f j (omega arith); zero = λ i low. All-from_recursion P (rows_of a) h i [] (let c = many in omega arith) },
  )
    where
      P : List E → Type 0
      P r = dot (scalars k) a.cols (vector k r) (coordinates k ts f) ≡ (scalars k).zero

      many : length (rows_of a) ≡ a.rows
      many = length_cut a.rows a.cols a.cells.items
