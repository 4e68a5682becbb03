-- The polynomial of a row of coefficients, term by term.
use Rattle.invariant_space.proofs.Common.{◌≡◌, ℕ, suc, ◌+◌, ◌<◌, ◌≤◌, List, [], ◌∷◌, ◌++◌, length, map, get_or, take, sym, ap, ap₂, subst, ◌∙◌, arith, All, map-append, take_all, get_or_read, get_or-map, take_more, length-map, length-take-le, FieldOn, Has, Scalar, scalars, scalar, Key, key, vectors, vec, plus, zero_vector, Term, SpaceOver, place, entry, entries, IsPlace, vec_append, vec_nothing, vec_single, plus_assoc, plus_zero, zero_plus, single_vector, IsPolyOf, IsVectorOf, vector_of, vec_supp, Matrix, rows_of, vectors_of, vector, length_cut, listed_more, row_polynomial, keys_of}
use Rattle.alg_core.specs.declared.term.ModTerm.{ModTerm}
use Rattle.poly_module.proofs.CheckedEntries.{all_pushed}
use Rattle.invariant_space.proofs.Places.{length_keys, keys_append}

module _ {E : Type 0} (k : FieldOn E) where
  -- one key more at the end
  row_push : (ts : List Key) (t : Key) (w : ℕ → Scalar k) → row_polynomial k (ts ++ t ∷ []) w ≡ plus k (row_polynomial k ts w) ((vectors k).◌·◌ (w (length ts)) (single_vector k t))
  row_push [] t w = plus_zero k _ ∙ sym (zero_plus k _)
  row_push (s ∷ ts) t w = ap (plus k ((vectors k).◌·◌ (w 0) (single_vector k s))) (row_push ts t (λ l. w (suc l))) ∙ sym (plus_assoc k _ _ _)

module _ {E : Type 0} (S : SpaceOver E) where
  abbrev Terms : Type 0
  Terms = List (Term E (List ℕ))

  -- so far the terms of the first coefficients
  pub record Row (cs : Terms) (w : ℕ → Scalar S.field) (l : ℕ) (terms : Terms) : Type 0 where
    pub given : All (λ e. Has S.field e.1 × IsPlace S e.0) (entries (λ m. m) terms)
    pub first : All (λ e. e.0.0 ≡ 0) (entries (λ m. m) terms)
    pub is : vec S.field (entries (λ m. m) terms) ≡ row_polynomial S.field (keys_of (take l cs)) w

  pub row_none : (cs : Terms) (w : ℕ → Scalar S.field) (terms : Terms) → terms ≡ [] → Row cs w 0 terms
  row_none cs w terms none = subst (Row cs w 0) (sym none) record { given = λ i d h. absurd (omega arith); first = λ i d h. absurd (omega arith); is = vec_nothing S.field }

  row_more : (cs : Terms) (xs : List E) (l : ℕ) (c : Term E (List ℕ)) (x : E) → l < length cs → c ≡ get_or cs l c → l < length xs → x ≡ get_or xs l x
      → row_polynomial S.field (keys_of (take (l + 1) cs)) (vector S.field xs) ≡ plus S.field (row_polynomial S.field (keys_of (take l cs)) (vector S.field xs)) ((vectors S.field).◌·◌ (scalar S.field x) (single_vector S.field (key (place (λ m. m) c.at))))
  row_more cs xs l c x inside read within there =
      let count : length (keys_of (take l cs)) ≡ l = length_keys (take l cs) ∙ length-take-le l cs (omega arith) in
      ap (λ ts. row_polynomial S.field ts (vector S.field xs)) (ap keys_of (take_more cs l c inside ∙ ap (λ y. take l cs ++ y ∷ []) (sym read)) ∙ keys_append (take l cs) (c ∷ [])) ∙ row_push S.field (keys_of (take l cs)) (key (place (λ m. m) c.at)) (vector S.field xs)
      ∙ ap (λ a. plus S.field (row_polynomial S.field (keys_of (take l cs)) (vector S.field xs)) ((vectors S.field).◌·◌ a (single_vector S.field (key (place (λ m. m) c.at))))) (ap (vector S.field xs) count ∙ ap (scalar S.field) (sym (get_or_read xs l x within there S.field.zero)))

  -- a coefficient adds a term
  pub row_term : (cs : Terms) (xs : List E) (l : ℕ) (c : Term E (List ℕ)) (x : E) (at : ModTerm (List ℕ)) (terms new : Terms) → l < length cs → c ≡ get_or cs l c → l < length xs → x ≡ get_or xs l x → Has S.field x → IsPlace S (place (λ m. m) c.at) → c.at.pos ≡ 0
      → place (λ m. m) at ≡ place (λ m. m) c.at → new ≡ terms ++ record { coef = x; at = at } ∷ [] → Row cs (vector S.field xs) l terms → Row cs (vector S.field xs) (l + 1) new
  unfolding single_vector
  row_term cs xs l c x at terms new inside read within there has fits first same more was = record {
    given = all_pushed (entry (λ m. m)) (λ e. Has S.field e.1 × IsPlace S e.0) terms new term more was.given (has, subst (IsPlace S) (sym same) fits);
    first = all_pushed (entry (λ m. m)) (λ e. e.0.0 ≡ 0) terms new term more was.first (ap (λ p. p.0) same ∙ first);
    is = ap (λ l. vec S.field (entries (λ m. m) l)) more ∙ ap (vec S.field) (map-append (entry (λ m. m)) terms (term ∷ [])) ∙ vec_append S.field (entries (λ m. m) terms) (entries (λ m. m) (term ∷ []))
        ∙ ap₂ (plus S.field) was.is (vec_single S.field (entry (λ m. m) term) ∙ ap (λ p. (vectors S.field).◌·◌ (scalar S.field x) (single_vector S.field (key p))) same) ∙ sym (row_more cs xs l c x inside read within there);
  }
    where
      term : Term E (List ℕ)
      term = record { coef = x; at = at }

  -- the sum of the terms
  pub row_made : (cs : Terms) (w : ℕ → Scalar S.field) (l : ℕ) (terms p : Terms) → length cs ≤ l → Row cs w l terms → IsVectorOf S (λ m. m) (vector_of S (λ m. m) terms) p → IsPolyOf S (λ m. m) (row_polynomial S.field (keys_of cs) w) p
  unfolding key
  row_made cs w l terms p past row made = record {
    fits = made.fits;
    position = made.position (vec_supp S.field (λ t. t.0 ≡ 0) (entries (λ m. m) terms) row.first);
    is = made.is ∙ row.is ∙ ap (λ l. row_polynomial S.field (keys_of l) w) (take_all l cs past);
  }

  -- the polynomials of the first rows
  pub rows_more : (cs : Terms) (a : Matrix E) (i : ℕ) (ps new : List Terms) (p : Terms) (row : List E) → i < a.rows → row ≡ get_or (rows_of a) i [] → new ≡ ps ++ p ∷ [] → IsPolyOf S (λ m. m) (row_polynomial S.field (keys_of cs) (vector S.field row)) p
      → map (vector_of S (λ m. m)) ps ≡ take i (map (row_polynomial S.field (keys_of cs)) (vectors_of S.field a)) → map (vector_of S (λ m. m)) new ≡ take (i + 1) (map (row_polynomial S.field (keys_of cs)) (vectors_of S.field a))
  rows_more cs a i ps new p row h read more is was =
      let many = length_cut a.rows a.cols a.cells.items in
      let vs = length-map (rows_of a) (vector S.field) in
      let us = length-map (vectors_of S.field a) (row_polynomial S.field (keys_of cs)) in
      listed_more (vector_of S (λ m. m)) ps new p (map (row_polynomial S.field (keys_of cs)) (vectors_of S.field a)) i (zero_vector S.field) (omega arith) more was
      (is.is ∙ ap (λ r. row_polynomial S.field (keys_of cs) (vector S.field r)) read ∙ ap (row_polynomial S.field (keys_of cs)) (sym (get_or-map (vector S.field) (rows_of a) i [] (λ j. (scalars S.field).zero) (omega arith)))
      ∙ sym (get_or-map (row_polynomial S.field (keys_of cs)) (vectors_of S.field a) i (λ j. (scalars S.field).zero) (zero_vector S.field) (omega arith)))

  pub rows_whole : (cs : Terms) (a : Matrix E) (i : ℕ) (ps : List Terms) → a.rows ≤ i → map (vector_of S (λ m. m)) ps ≡ take i (map (row_polynomial S.field (keys_of cs)) (vectors_of S.field a)) → map (vector_of S (λ m. m)) ps ≡ map (row_polynomial S.field (keys_of cs)) (vectors_of S.field a)
  rows_whole cs a i ps all was =
      let many = length_cut a.rows a.cols a.cells.items in
      let vs = length-map (rows_of a) (vector S.field) in
      let us = length-map (vectors_of S.field a) (row_polynomial S.field (keys_of cs)) in
      was ∙ take_all i (map (row_polynomial S.field (keys_of cs)) (vectors_of S.field a)) (omega arith)
