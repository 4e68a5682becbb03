-- Rows in reduced echelon form are a reduced echelon list of polynomials.
use Rattle.invariant_space.proofs.Common.{◌≡◌, ◌↔◌, ℕ, suc, ◌<◌, ◌≤◌, inl, inr, List, [], ◌∷◌, length, map, slice_index_or, sym, ap, ◌∙◌, refl, subst, arith, get_or_default, Each, Less, dec_le, FieldOn, Scalar, scalars, is_field, monomials, Key, Falls, OrderOn, In, Vect, vectors, coef_at, Supp, Row, AreRows, columns, InSpan, PivotRow, rows, IsPivotRow, Precedes, IsReducedEchelon, Each_at, span_member, row_polynomial, coordinates, from_map, Each_map}
use Rattle.poly_module.specs.Echelons.{Spans, IsEchelon}
use Rattle.alg_core.proofs.SpanLaws.{span_map}
use Rattle.poly_module.proofs.EchelonLists.{IsRow}
use Rattle.poly_module.proofs.EchelonLists as echelons
use Rattle.poly_module.proofs.Echelon as echelon
use Rattle.invariant_space.proofs.RowPolynomials.{falls_at, row_polynomial_linear, row_keys, coef_row, coordinates_row_all, row_coordinates, row_lead}

module _ {E : Type 0} (k : FieldOn E) (o : OrderOn Key) where
  -- a reduced echelon list of a set is one of each smaller set that has its members
  pub echelon_within : (U W : Vect k → Type 0) (vs : List (Vect k)) → ((v : Vect k) → In v vs → U v) → ((v : Vect k) → U v → W v) → IsEchelon k o W vs → IsEchelon k o U vs
  echelon_within U W vs inside within e = record {
    reduced = record {
      inside = inside;
      lead = e.reduced.lead;
      monic = e.reduced.monic;
      covers = λ v t u. e.reduced.covers v t (within v u);
      apart = e.reduced.apart;
      falling = e.reduced.falling;
    };
    spans = λ v u. e.spans v (within v u);
  }

  module _ (ts : List Key) (falls : Falls o ts) where
    -- the row as a polynomial, with the key of its pivot
    abbrev key_at : ℕ → Key
    key_at p = slice_index_or ts p (0, monomials.one)

    abbrev polynomial_row : PivotRow (Scalar k) → Row k
    polynomial_row e = (row_polynomial k ts e.1, key_at e.0)

    abbrev Past : (ℕ → Scalar k) → Type 0
    Past w = (j : ℕ) → length ts ≤ j → w j ≡ (scalars k).zero

    key_is : (p : ℕ) → p < length ts → slice_index_or ts p (key_at p) ≡ key_at p
    key_is p h = get_or_default ts p _ _ h

    -- a pivot is the place of a key
    pivot_inside : (e : PivotRow (Scalar k)) → IsPivotRow (scalars k) e → Past e.1 → e.0 < length ts
    pivot_inside e r past = go (dec_le (suc e.0) (length ts))
      where
        go : Dec (suc e.0 ≤ length ts) → e.0 < length ts
        go (yes h) = omega arith
        go (no n) = absurd ((is_field k).one_not_zero (sym r.at ∙ past e.0 (omega (arith, n))))

    is_row : (e : PivotRow (Scalar k)) → IsPivotRow (scalars k) e → Past e.1 → IsRow k o (polynomial_row e)
    is_row e r past =
        let h = pivot_inside e r past in record {
          lead = row_lead k o ts falls e.1 e.0 (key_at e.0) r.before (λ z. (is_field k).one_not_zero (sym r.at ∙ z)) h (key_is e.0 h);
          monic = coef_row k o ts falls e.1 e.0 (key_at e.0) h (key_is e.0 h) ∙ r.at;
        }

    abbrev Good : PivotRow (Scalar k) → Type 0
    Good e = IsPivotRow (scalars k) e × Past e.1

    abbrev Apart : Row k → Row k → Type 0
    Apart e f = (o.compare f.1 e.1 ≡ Less) × (coef_at k e.0 f.1 ≡ (scalars k).zero) × (coef_at k f.0 e.1 ≡ (scalars k).zero)

    rows_apart : (e f : PivotRow (Scalar k)) → Good e → Good f → Precedes (scalars k) e f → Apart (polynomial_row e) (polynomial_row f)
    rows_apart e f g h p =
        let a = pivot_inside e g.0 g.1 in
        let b = pivot_inside f h.0 h.1 in (
          falls_at o ts falls e.0 f.0 _ _ p.rises b (key_is e.0 a) (key_is f.0 b),
          coef_row k o ts falls e.1 f.0 _ b (key_is f.0 b) ∙ p.clear,
          coef_row k o ts falls f.1 e.0 _ a (key_is e.0 a) ∙ h.0.before e.0 p.rises,
        )

    each_apart : (e : PivotRow (Scalar k)) → Good e → (l : List (PivotRow (Scalar k))) → IsReducedEchelon (scalars k) l → Each (λ f. Past f.1) l → Each (Precedes (scalars k) e) l → (f : Row k) → In f (map polynomial_row l) → Apart (polynomial_row e) f
    each_apart e g [] r past p f i = absurd i
    each_apart e g (x ∷ l) r past p f (inl q) = subst (Apart (polynomial_row e)) q (rows_apart e x g (r.0, past.0) p.0)
    each_apart e g (x ∷ l) r past p f (inr i) = each_apart e g l r.2 past.1 p.1 f i

    are_rows : (l : List (PivotRow (Scalar k))) → IsReducedEchelon (scalars k) l → Each (λ f. Past f.1) l → AreRows k o (map polynomial_row l)
    unfolding AreRows
    are_rows [] r past = tt
    are_rows (e ∷ l) r past = (is_row e r.0 past.0, each_apart e (r.0, past.0) l r.2 past.1 r.1, are_rows l r.2 past.1)

    -- the polynomials of the rows
    abbrev polynomials : List (PivotRow (Scalar k)) → List (Vect k)
    polynomials l = map (row_polynomial k ts) (rows (scalars k) l)

    polynomials_of_rows : (l : List (PivotRow (Scalar k))) → echelons.rows k (map polynomial_row l) ≡ polynomials l
    polynomials_of_rows [] = refl
    polynomials_of_rows (e ∷ l) = ap (λ vs. row_polynomial k ts e.1 ∷ vs) (polynomials_of_rows l)

    -- The polynomials whose coordinates are the combinations of rows in reduced echelon form have, as their reduced
    -- echelon list, the polynomials of the rows.
    pub echelon_rows : (l : List (PivotRow (Scalar k))) → IsReducedEchelon (scalars k) l → Each (λ e. (j : ℕ) → length ts ≤ j → e.1 j ≡ (scalars k).zero) l
        → (U : Vect k → Type 0) → ((f : Vect k) → U f → Supp k (λ t. In t ts) f)
        → ((f : Vect k) → Supp k (λ t. In t ts) f → (U f ↔ InSpan (columns (scalars k)) (rows (scalars k) l) (coordinates k ts f)))
        → IsEchelon k o U (map (row_polynomial k ts) (rows (scalars k) l))
    echelon_rows l r past U keys same = echelon_within U (Spans k (polynomials l)) (polynomials l) inside within (subst (λ us. IsEchelon k o (Spans k us) us) (polynomials_of_rows l)
        (echelon.echelon_rows k o _ (map polynomial_row l) (record { are = are_rows l r past; inside = λ v s. s; outside = λ v s. s })))
      where
        inside : (v : Vect k) → In v (polynomials l) → U v
        inside v i =
            let w = from_map (row_polynomial k ts) v (rows (scalars k) l) i in
            let is = coordinates_row_all k o ts falls w.0 (Each_at Past (rows (scalars k) l) (Each_map Past (λ e. e.1) l past) w.0 w.1) in
            subst U w.2 ((same _ (row_keys k ts w.0)).1 (subst (InSpan (columns (scalars k)) (rows (scalars k) l)) (sym is)
            (Each_at (InSpan (columns (scalars k)) (rows (scalars k) l)) (rows (scalars k) l) (span_member (columns (scalars k)) (rows (scalars k) l)) w.0 w.1)))

        within : (v : Vect k) → U v → Spans k (polynomials l) v
        within v u =
            let f : (ℕ → Scalar k) → Vect k = row_polynomial k ts in
            let ws = rows (scalars k) l in
            subst (Spans k (polynomials l)) (row_coordinates k o ts falls v (keys v u))
            (span_map (columns (scalars k)) (vectors k) f (row_polynomial_linear k ts) ws (coordinates k ts v) ((same v (keys v u)).0 u))
