-- Images of the monomials of a degree, from those of the degree below.
use Rattle.invariant_space.proofs.Common.{◌≡◌, ℕ, zero, suc, ◌<◌, ◌≤◌, inl, inr, List, [], ◌∷◌, length, replicate, get_or, Vec, Global, refl, sym, ap, ap₂, subst, ◌∙◌, arith, All, Option, None, Some, IfNone, IfSome, IsSome, get_or_default, FieldOn, Has, Scalar, scalars, scalar_one, monomials, Key, times_key, times_key_product, Falls, OrderOn, less_irreflexive, In, key_order, SpaceOver, Vect, coef_at, variable, variable_vector, IsForm, Supp, InVariables, supp_single, product, single_vector, product_single, one_vector_single, IsPoly, Matrix, rows_of, vector, IsRow, IsRow_row, act_by, linear_form, IsSquare, act_product, act_variable, act_one, act_form, act_in_variables, image_inside, IsInvariantForm, IsMonomialList, coordinates, Term, IsQuotient, IsTable, IsStep, IsCoordinates, AreImages, AllImages, IsLevel, AreSums, keys_of, contains_in, All-cons, All-nil, scalar_zero}
use Rattle.lin_algebra.specs.Matrices.{entries}
use Rattle.invariant_space.specs.declared.images.Level.{Level}
use Rattle.invariant_space.proofs.Places.{element_at}
use Rattle.invariant_space.proofs.MonomialSums.{lowered, monomial_list, of_degree_zero, one_degree}
use Rattle.invariant_space.proofs.RowPolynomials.{coef_single_same}

module _ {E : Type 0} (k : FieldOn E) (n : ℕ) (o : OrderOn Key) (d : ℕ) (ts : List Key) (monomials : IsMonomialList o n d ts) where
  -- the forms of degree d are the polynomials in these keys
  form_keys : (f : Vect k) → IsForm k (replicate n 1) d f → InVariables k n f → Supp k (λ t. In t ts) f
  form_keys f h v t c = let p = h t c in (monomials.all t).1 (record { position = p.0; variables = v t c; degree = p.1 })

  pub keys_form : (f : Vect k) → Supp k (λ t. In t ts) f → IsForm k (replicate n 1) d f
  keys_form f h t c = let q = (monomials.all t).0 (h t c) in (q.position, q.degree)

  pub keys_variables : (f : Vect k) → Supp k (λ t. In t ts) f → InVariables k n f
  keys_variables f h t c = ((monomials.all t).0 (h t c)).variables

  -- an invariant form has its keys in the list
  pub invariant_keys : (gens : List (Matrix E)) (f : Vect k) → IsInvariantForm k n gens d f → Supp k (λ t. In t ts) f
  invariant_keys gens f h = form_keys f h.form h.variables

  -- a square matrix takes polynomials in these keys to such polynomials
  pub act_keys : (m : Matrix E) → IsSquare k n m → (f : Vect k) → Supp k (λ t. In t ts) f → Supp k (λ t. In t ts) (act_by k m f)
  act_keys m square f h =
      let wide : m.rows ≤ n = omega (arith, square.rows) in
      form_keys (act_by k m f) (act_form k m.rows (entries k m) n wide d f (keys_variables f h) (keys_form f h)) (act_in_variables k m.rows (entries k m) n wide f (keys_variables f h))

module _ {E : Type 0} (k : FieldOn E) where
  -- the image of a variable times a monomial
  image_times : (m : Matrix E) (i : ℕ) (v : Key) → i < m.rows → act_by k m (single_vector k (times_key (variable i) v)) ≡ product k (linear_form k m.rows (entries k m i)) (act_by k m (single_vector k v))
  unfolding variable_vector
  image_times m i v h =
      ap (λ t. act_by k m (single_vector k t)) (times_key_product (variable i) v) ∙ ap (act_by k m) (sym (product_single k (0, variable i) v))
      ∙ act_product k m.rows (entries k m) (variable_vector k i) (single_vector k v) ∙ ap (λ f. product k f (act_by k m (single_vector k v))) (act_variable k m.rows (entries k m) i ∙ image_inside k m.rows (entries k m) i h)

  -- the rows have as many values as there are keys
  pub image_row : (m : Matrix E) (ts : List Key) (rows : List (Vec E Global)) (u : ℕ) (r : Vec E Global) → AreImages k m ts rows → u < length rows → r ≡ get_or rows u r → IsRow k (length ts) r.items
  image_row m ts rows u r images h read = let c = images.count in let there : u < length ts = omega arith in let t = element_at ts u there in (images.each u r h read t.0 t.1).row

  pub image_rows : (m : Matrix E) (ts : List Key) (rows : List (Vec E Global)) → AreImages k m ts rows → All (λ r. IsRow k (length rows) r.items) rows
  image_rows m ts rows images i d h = subst (λ (c : ℕ). IsRow k c (get_or rows i d).items) (sym images.count) (image_row m ts rows i (get_or rows i d) images h (sym (get_or_default rows i (get_or rows i d) d h)))

  one_image : (m : Matrix E) → coef_at k (act_by k m (single_vector k (0, monomials.one))) (0, monomials.one) ≡ (scalars k).one
  one_image m = ap (λ v. coef_at k v (0, monomials.one)) (ap (act_by k m) (sym (one_vector_single k)) ∙ act_one k m.rows (entries k m) ∙ one_vector_single k) ∙ coef_single_same k (0, monomials.one) (0, monomials.one) refl

  -- 1 is its own image
  pub first_images : (m : Matrix E) (ts : List Key) (rows : List (Vec E Global)) (row : Vec E Global) → ts ≡ (0, monomials.one) ∷ [] → rows ≡ row ∷ [] → row.items ≡ k.one ∷ [] → AreImages k m ts rows
  first_images m ts rows row keys is one = subst (λ l. AreImages k m l rows) (sym keys) (subst (AreImages k m ((0, monomials.one) ∷ [])) (sym is) record { count = refl; each = each })
    where
      at : (l : ℕ) → vector k (k.one ∷ []) l ≡ coordinates k ((0, monomials.one) ∷ []) (act_by k m (single_vector k (0, monomials.one))) l
      at zero = scalar_one k ∙ sym (one_image m)
      at (suc l) = scalar_zero k

      alone : IsCoordinates k ((0, monomials.one) ∷ []) (act_by k m (single_vector k (0, monomials.one))) (k.one ∷ [])
      alone = record { row = record { count = refl; has = All-cons (Has k) k.one [] k.has_one (All-nil (Has k)) }; is = λ i l. at l i }

      each : (l : ℕ) (r : Vec E Global) → l < 1 → r ≡ get_or (row ∷ []) l r → (t : Key) → get_or ((0, monomials.one) ∷ []) l t ≡ t → IsCoordinates k ((0, monomials.one) ∷ []) (act_by k m (single_vector k t)) r.items
      each zero r h read t at =
          let items : r.items ≡ k.one ∷ [] = ap (λ (v : Vec E Global). v.items) read ∙ one in
          subst (λ u. IsCoordinates k ((0, monomials.one) ∷ []) (act_by k m (single_vector k u)) r.items) at (subst (IsCoordinates k ((0, monomials.one) ∷ []) (act_by k m (single_vector k (0, monomials.one)))) (sym items) alone)
      each (suc l) r h read t at = absurd (omega arith)

  -- the list of the monomials of degree 0
  pub first_keys : (o : OrderOn Key) (n : ℕ) (ts : List Key) → IsMonomialList o n 0 ts → ts ≡ (0, monomials.one) ∷ []
  first_keys o n ts h = go ts h.falls (λ t i. let p = (h.all t).0 i in of_degree_zero k n n t (omega arith) p p.variables) ((h.all (0, monomials.one)).1 (one_degree k n))
    where
      go : (ts : List Key) → Falls o ts → ((t : Key) → In t ts → t ≡ (0, monomials.one)) → In (0, monomials.one) ts → ts ≡ (0, monomials.one) ∷ []
      go [] falls one there = absurd there
      go (t ∷ []) falls one there = ap (λ x. x ∷ []) (one t (inl refl))
      go (t ∷ s ∷ ts) falls one there = absurd (less_irreflexive o s t (one s (inr (inl refl)) ∙ sym (one t (inl refl))) (falls.0 s (inl refl)))

module _ {E : Type 0} (S : SpaceOver E) where
  -- each monomial of a step is a multiple
  pub some_first : (d : ℕ) (ts below : List Key) (table : List (Vec (Option ℕ) Global)) (l : ℕ) (o : Option (ℕ × ℕ)) → IsStep S d ts below table → l < length ts
      → IfNone o ((ts below : List Key) (t : Key) → IsTable ts below table → get_or ts l t ≡ t → (j : ℕ) (v : Key) → j < length table → In v below → ¬ (times_key (variable j) v ≡ t)) → IsSome o
  some_first d ts below table l (Some p) step h none = refl
  some_first d ts below table l None step h none = absurd (
      let t = element_at ts l h in
      let degree = (step.upper.all t.0).0 (contains_in t.0 ts (l, h, t.1)) in
      let r = lowered S.field (length S.weights) d (length S.weights) t.0 (omega arith) degree degree.variables in
      let c = step.count in let low = r.2 in
      none ts below t.0 step.quotients t.1 r.0 r.1 (omega arith) ((step.lower.all r.1).1 r.3) r.4)

  pub first_within : (d : ℕ) (ts below : List Key) (table : List (Vec (Option ℕ) Global)) (m : Matrix E) (rows : List (Vec E Global)) (l : ℕ) (o : Option (ℕ × ℕ)) (p : ℕ × ℕ) → IsStep S d ts below table → AreImages S.field m below rows → l < length ts → o ≡ Some p
      → IfSome o (λ p. (ts below : List Key) (t : Key) → IsTable ts below table → get_or ts l t ≡ t → IsQuotient below p.0 t (Some p.1)) → p.1 < length rows
  first_within d ts below table m rows l o p step images h e some =
      let t = element_at ts l h in
      let q = subst (λ o. IfSome o (λ p. (ts below : List Key) (t : Key) → IsTable ts below table → get_or ts l t ≡ t → IsQuotient below p.0 t (Some p.1))) e some ts below t.0 step.quotients t.1 in
      let many = images.count in let low = q.1 in omega arith

  -- the image of a monomial is the product of the images of its first variable and of its quotient
  pub next_row : (d : ℕ) (ts below : List Key) (table : List (Vec (Option ℕ) Global)) (m : Matrix E) (rows : List (Vec E Global)) (l i u : ℕ) (form : List E) (row made : Vec E Global)
      → IsStep S d ts below table → IsSquare S.field (length S.weights) m → AreImages S.field m below rows → i < length table → form ≡ get_or (rows_of m) i [] → u < length rows → row ≡ get_or rows u row
      → ((ts below : List Key) (t : Key) → IsTable ts below table → get_or ts l t ≡ t → IsQuotient below i t (Some u))
      → ((f : Vect S.field) → Supp S.field (λ v. In v below) f → vector S.field row.items ≡ coordinates S.field below f
      → IsCoordinates S.field ts (product S.field (linear_form S.field (length form) (vector S.field form)) f) made.items)
      → (t : Key) → get_or ts l t ≡ t → IsCoordinates S.field ts (act_by S.field m (single_vector S.field t)) made.items
  next_row d ts below table m rows l i u form row made step square images h is low read some times t at =
      let q = some ts below t step.quotients at in
      let c = step.count in
      let inside : i < m.rows = omega (arith, square.rows) in
      let wide : length form ≡ m.rows = (IsRow_row S.field m i form square.matrix inside is).count ∙ square.cols ∙ sym square.rows in
      let v : Key = q.0 in
      let f : Vect S.field = act_by S.field m (single_vector S.field v) in
      subst (λ w. IsCoordinates S.field ts w made.items)
      (ap₂ (λ (x : ℕ) (c : ℕ → Scalar S.field). product S.field (linear_form S.field x c) f) wide (ap (vector S.field) is) ∙ sym (image_times S.field m i v inside) ∙ ap (λ s. act_by S.field m (single_vector S.field s)) q.3)
      (times f (act_keys S.field (length S.weights) (key_order S) d below step.lower m square (single_vector S.field v) (supp_single S.field (λ s. In s below) v (contains_in v below (u, q.1, q.2)))) (images.each u row low read v q.2).is)

  -- one degree more
  pub level_step : (gens : List (Matrix E)) (d i : ℕ) (level : Level E) (sums : List (List (Term E (List ℕ)))) (p q : List (Term E (List ℕ))) (table seen : List (Vec (Option ℕ) Global)) (images : List (Vec (Vec E Global) Global))
      → i ≡ length S.weights → IsLevel S gens d level → AreSums S (suc d) sums → p ≡ get_or sums i p → q ≡ get_or level.sums.items i q → length table ≡ length S.weights → IsTable (keys_of p) (keys_of q) table
      → seen ≡ table → images ≡ level.images.items → IsStep S d (keys_of p) (keys_of q) seen × AllImages S.field gens (keys_of q) images
  level_step gens d i level sums p q table seen images last was now read got many quotients same taken =
      let n = was.sums.count in
      let m = now.count in
      let above = read ∙ ap (λ (j : ℕ). get_or sums j p) last in
      let below = got ∙ ap (λ (j : ℕ). get_or level.sums.items j q) last in (
        subst (IsStep S d (keys_of p) (keys_of q)) (sym same) record {
          upper = monomial_list S (suc d) p (now.each (length S.weights) p (omega arith) above);
          lower = monomial_list S d q (was.sums.each (length S.weights) q (omega arith) below);
          count = many;
          quotients = quotients;
        },
        subst (AllImages S.field gens (keys_of q)) (sym taken) (was.images q below),
      )

  -- the monomials of a level, and their images
  pub level_monomials : (gens : List (Matrix E)) (d i : ℕ) (level : Level E) (p : List (Term E (List ℕ))) (seen : List (Vec (Vec E Global) Global)) → i ≡ length S.weights → IsLevel S gens d level → p ≡ get_or level.sums.items i p → seen ≡ level.images.items
      → IsMonomialList (key_order S) (length S.weights) d (keys_of p) × AllImages S.field gens (keys_of p) seen × IsPoly S (λ m. m) p
  level_monomials gens d i level p seen last h read same =
      let n = h.sums.count in
      let there = read ∙ ap (λ (j : ℕ). get_or level.sums.items j p) last in
      let sum = h.sums.each (length S.weights) p (omega arith) there in
      (monomial_list S d p sum, subst (AllImages S.field gens (keys_of p)) (sym same) (h.images p there), record { fits = sum.fits; position = sum.position })
