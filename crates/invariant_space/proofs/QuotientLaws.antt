-- Products with linear forms, by the places of quotients.
use Rattle.invariant_space.proofs.Common.{◌≡◌, ◌⊎◌, ℕ, suc, ◌<◌, ◌≤◌, inl, inr, List, length, get_or, Vec, Global, refl, sym, ap, ap₂, ◌∙◌, arith, All, Option, None, Some, IfNone, IfSome, cases_lt, get_or_past, get_or_read, FieldOn, Has, Scalar, scalars, scalar, scalar_zero, scalar_add, scalar_mul, Mon, monomials, mono, divides_dec, Divides, TermPlace, Key, key, times_key, times_key_cancel, KeyDivides, In, Vect, vectors, coef_at, plus, shift, coef_at_plus, coef_at_zero, variable, variable_vector, Supp, supp_outside, product, plus_product, zero_product, product_linear_left, shift_product, coef_at_act, coef_shift, coef_shift_outside, vector, linear_form, coordinates, IsQuotient, IsTable, IsCoordinates, EachAt, in_contains}
use Rattle.std.specs.Option.{unwrap_or}
use Rattle.alg_core.specs.RingLaws.{zero_mul}
use Rattle.invariant_space.proofs.Places.{element_at}
use Rattle.invariant_space.proofs.RowPolynomials.{coordinates_at, coordinates_past}

pub key_position : (p : TermPlace) → (key p).0 ≡ p.0
unfolding key
key_position p = refl

-- no multiple of a variable at position 0
pub not_divided : (below : List Key) (j : ℕ) (x t : Key) → t.0 ≡ 0 → x ≡ (0, variable j) → ¬ KeyDivides x t → IsQuotient below j t None
not_divided below j x t first is n v i e = n (v.1, ap₂ (λ (q : ℕ) (m : Mon). (q, m)) (ap (λ (u : Key). u.0) is ∙ sym first) (ap (monomials.◌·◌ v.1) (ap (λ (u : Key). u.1) is) ∙ monomials.comm v.1 (variable j) ∙ ap (λ (u : Key). u.1) e))

-- the quotient times the variable
times_quotient : (j : ℕ) (x t : Key) (p : TermPlace) → p.0 ≡ t.0 → x ≡ (0, variable j) → times_key (mono p.1) x ≡ t → times_key (variable j) (key p) ≡ t
unfolding key
times_quotient j x t p first is e = ap₂ (λ (q : ℕ) (m : Mon). (q, m)) first (monomials.comm (variable j) (mono p.1) ∙ ap (monomials.◌·◌ (mono p.1)) (ap (λ (u : Key). u.1) (sym is)) ∙ ap (λ (u : Key). u.1) e)

-- the quotient is found
pub quotient_found : (below : List Key) (j u : ℕ) (x t : Key) (p : TermPlace) → p.0 ≡ t.0 → x ≡ (0, variable j) → times_key (mono p.1) x ≡ t → u < length below → get_or below u (key p) ≡ key p → IsQuotient below j t (Some u)
quotient_found below j u x t p first is e h read = (key p, h, read, times_quotient j x t p first is e)

-- it is found in the front, or in no place
pub quotient_sought : (below : List Key) (j from : ℕ) (x t : Key) (p : TermPlace) (o : Option ℕ) → p.0 ≡ t.0 → x ≡ (0, variable j) → times_key (mono p.1) x ≡ t
    → ((i : ℕ) → from ≤ i → i < length below → (v : Key) → get_or below i v ≡ v → ¬ (v ≡ key p)) → IfSome o (λ u. u < length below) → IfSome o (λ u. get_or below u (key p) ≡ key p)
    → IfNone o ((i : ℕ) → 0 ≤ i → i < from → (v : Key) → get_or below i v ≡ v → ¬ (v ≡ key p)) → IsQuotient below j t o
quotient_sought below j from x t p (Some u) first is e back inside found front = quotient_found below j u x t p first is e inside found
quotient_sought below j from x t p None first is e back inside found front = λ v i q.
    let r = in_contains v below i in
    let same : v ≡ key p = times_key_cancel (variable j) v (key p) (q ∙ sym (times_quotient j x t p first is e)) in
    go v r.0 r.1 r.2 same (cases_lt r.0 from)
  where
    go : (v : Key) (s : ℕ) → s < length below → get_or below s v ≡ v → v ≡ key p → (s < from) ⊎ (from ≤ s) → ⊥
    go v s h read same (inl low) = front s (omega arith) low v read same
    go v s h read same (inr high) = back s high h v read same

pub quotient_within : (below : List Key) (j : ℕ) (t : Key) (o : Option ℕ) → IsQuotient below j t o → IfSome o (λ u. u < length below)
quotient_within below j t (Some u) h = h.1
quotient_within below j t None h = tt

-- where the next one is sought
pub next_from : (o : Option ℕ) (from n next : ℕ) → next ≡ unwrap_or o from → IfSome o (λ u. u < n) → from ≤ n → next ≤ n
next_from (Some u) from n next is h low = omega arith
next_from None from n next is h low = omega arith

-- the place of a quotient in a table
pub table_at : (ts below : List Key) (table : List (Vec (Option ℕ) Global)) (j s : ℕ) (q : Vec (Option ℕ) Global) (o : Option ℕ) (t : Key) → IsTable ts below table → j < length table → q ≡ get_or table j q → s < length q.items → o ≡ get_or q.items s o → get_or ts s t ≡ t → IsQuotient below j t o
table_at ts below table j s q o t h inside read low got is = (h j q inside read).each s o low got t is

pub table_within : (ts below : List Key) (table : List (Vec (Option ℕ) Global)) (j s : ℕ) (q : Vec (Option ℕ) Global) → IsTable ts below table → j < length table → q ≡ get_or table j q → s < length ts → s < length q.items
table_within ts below table j s q h inside read low = let c = (h j q inside read).count in omega arith

module _ {E : Type 0} (k : FieldOn E) where
  -- the coefficient of a variable times a vector
  pub quotient_some : (below : List Key) (j u : ℕ) (t : Key) (f : Vect k) (row : List E) (x : E) → IsQuotient below j t (Some u) → u < length row → x ≡ get_or row u x → vector k row ≡ coordinates k below f → scalar k x ≡ coef_at k (shift k (variable j) f) t
  quotient_some below j u t f row x q inside read is =
      ap (scalar k) (get_or_read row u x inside read k.zero) ∙ ap (λ (w : ℕ → Scalar k). w u) is ∙ coordinates_at k below f u q.0 q.1 q.2 ∙ sym (coef_shift k (variable j) f q.0) ∙ ap (coef_at k (shift k (variable j) f)) q.3

  pub quotient_none : (below : List Key) (j : ℕ) (t : Key) (f : Vect k) → IsQuotient below j t None → Supp k (λ v. In v below) f → coef_at k (shift k (variable j) f) t ≡ (scalars k).zero
  quotient_none below j t f q keys = go (divides_dec (variable j) t.1)
    where
      go : Dec (Divides (variable j) t.1) → coef_at k (shift k (variable j) f) t ≡ (scalars k).zero
      go (no n) = coef_shift_outside k (variable j) f t n
      go (yes d) =
          let e : times_key (variable j) (t.0, d.0) ≡ t = ap (λ (m : Mon). (t.0, m)) d.1 in
          ap (coef_at k (shift k (variable j) f)) (sym e) ∙ coef_shift k (variable j) f (t.0, d.0) ∙ supp_outside k (λ v. In v below) f keys (t.0, d.0) (λ i. q (t.0, d.0) i e)

  -- the product with a linear form, term by term
  pub form_none : (c : ℕ → Scalar k) (f : Vect k) (t : Key) (x : E) → x ≡ k.zero → scalar k x ≡ coef_at k (product k (linear_form k 0 c) f) t
  form_none c f t x none = ap (scalar k) none ∙ scalar_zero k ∙ sym (coef_at_zero k t) ∙ ap (λ v. coef_at k v t) (sym (zero_product k f))

  pub form_more : (xs : List E) (j : ℕ) (f : Vect k) (t : Key) (c value sum times new : E) → Has k sum → Has k c → Has k value → j < length xs → c ≡ get_or xs j c → times ≡ k.mul c value → new ≡ k.add sum times
      → scalar k value ≡ coef_at k (shift k (variable j) f) t → scalar k sum ≡ coef_at k (product k (linear_form k j (vector k xs)) f) t
      → scalar k new ≡ coef_at k (product k (linear_form k (suc j) (vector k xs)) f) t
  unfolding plus variable_vector
  form_more xs j f t c value sum times new hs hc hv inside read mul add here was =
      let l = linear_form k j (vector k xs) in
      let x = variable_vector k j in
      let a = vector k xs j in
      ap (scalar k) (add ∙ ap (k.add sum) mul) ∙ scalar_add k sum (k.mul c value) hs (k.has_mul c value hc hv) ∙ ap₂ (scalars k).◌+◌ was (scalar_mul k c value hc hv ∙ ap₂ (scalars k).◌*◌ (ap (scalar k) (get_or_read xs j c inside read k.zero)) here)
      ∙ sym (ap (λ v. coef_at k v t) (plus_product k l ((vectors k).◌·◌ a x) f) ∙ coef_at_plus k (product k l f) (product k ((vectors k).◌·◌ a x) f) t
      ∙ ap ((scalars k).◌+◌ (coef_at k (product k l f) t)) (ap (λ v. coef_at k v t) ((product_linear_left k f).act a x) ∙ coef_at_act k a (product k x f) t
      ∙ ap (λ v. (scalars k).◌*◌ a (coef_at k v t)) (sym (shift_product k (variable j) f))))

  -- a coefficient of the form that is 0 adds nothing
  pub form_skip : (xs : List E) (j : ℕ) (f : Vect k) (t : Key) (c sum : E) → j < length xs → c ≡ get_or xs j c → c ≡ k.zero
      → scalar k sum ≡ coef_at k (product k (linear_form k j (vector k xs)) f) t → scalar k sum ≡ coef_at k (product k (linear_form k (suc j) (vector k xs)) f) t
  unfolding plus variable_vector
  form_skip xs j f t c sum inside read none was =
      let l = linear_form k j (vector k xs) in
      let x = variable_vector k j in
      let a = vector k xs j in
      let empty : a ≡ (scalars k).zero = sym (ap (scalar k) (get_or_read xs j c inside read k.zero)) ∙ ap (scalar k) none ∙ scalar_zero k in
      was
      ∙ sym (ap (λ v. coef_at k v t) (plus_product k l ((vectors k).◌·◌ a x) f) ∙ coef_at_plus k (product k l f) (product k ((vectors k).◌·◌ a x) f) t
      ∙ ap ((scalars k).◌+◌ (coef_at k (product k l f) t)) (ap (λ v. coef_at k v t) ((product_linear_left k f).act a x) ∙ coef_at_act k a (product k x f) t
      ∙ ap (λ b. (scalars k).◌*◌ b (coef_at k (product k x f) t)) empty ∙ zero_mul (scalars k) (coef_at k (product k x f) t)) ∙ (scalars k).add_zero (coef_at k (product k l f) t))

  -- a row of coefficients
  pub coordinates_made : (ts : List Key) (v : Vect k) (r : List E) → length r ≡ length ts → All (Has k) r → EachAt (λ s x. (t : Key) → get_or ts s t ≡ t → scalar k x ≡ coef_at k v t) r → IsCoordinates k ts v r
  coordinates_made ts v r count has each = record { row = record { count = count; has = has }; is = λ i l. at l (cases_lt l (length r)) i }
    where
      at : (l : ℕ) → (l < length r) ⊎ (length r ≤ l) → vector k r l ≡ coordinates k ts v l
      at l (inl h) = let x = element_at r l h in let there : l < length ts = omega arith in let t = element_at ts l there in
          ap (scalar k) (sym (get_or_read r l x.0 h (sym x.1) k.zero)) ∙ each l x.0 h (sym x.1) t.0 t.1 ∙ sym (coordinates_at k ts v l t.0 there t.1)
      at l (inr h) = ap (scalar k) (get_or_past r l k.zero h) ∙ scalar_zero k ∙ sym (coordinates_past k ts v l (omega arith))
