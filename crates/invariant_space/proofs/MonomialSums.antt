-- The sum of all monomials of a degree: its keys are these monomials, each with the coefficient 1.
use Rattle.invariant_space.proofs.Common.{◌≡◌, ◌⊎◌, ℕ, zero, suc, ◌+◌, ◌<◌, ◌≤◌, inl, inr, List, [], ◌∷◌, length, map, get_or, replicate, refl, sym, ap, ap₂, subst, ◌∙◌, arith, All, All-from_recursion, recursion_from_All, Less, ℕ_discrete, dec_le, FieldOn, scalars, is_field, Mon, monomials, mono, exponent, exponent_mono, exponent_mul, mon_ext, Divides, divides_dec, TermPlace, Key, key, times_key, Falls, greater_less, In, weight, weight_ext, key_order, key_compare_places, Entry, vec, coef_at, plus, shift, zero_vector, Term, SpaceOver, entries, Fits, IsAbove, coef_at_plus, vec_nothing, total, greatest, after_zeros, variable, Supp, supp_zero, supp_plus, supp_single, supp_shift, supp_weaken, supp_outside, one_vector, product, one_vector_single, shift_product, variable_vector, IsPolyOf, IsVectorOf, vector_of, vec_supp, fits_keys, within_product, coef_shift, coef_shift_outside, Each_at, Each_from, Each_map, Each_of_map, length_variable, IsOfDegree, IsMonomialList, keys_of, next_sum, all_monomials, weight_variable}
use Rattle.alg_core.specs.ExponentLists.{Within, product as list_product}
use Rattle.alg_core.specs.CommonMultiples.{divides_exponents, exponents_divide}
use Rattle.alg_core.specs.SpaceGrading.{weight_mul}
use Rattle.alg_core.proofs.MonomialLists.{exponent_past, length_mon, length_mul, length_one}
use Rattle.poly_module.specs.Forms.{key_weight, dec_both}
use Rattle.poly_module.specs.Sizes.{HasRoom}
use Rattle.poly_module.proofs.EntryCoefficients.{term_at_index}
use Rattle.poly_module.proofs.SpaceVectorLaws.{poly_given, vector_given}
use native.Mathlib.Decide.{map_dec}
use Rattle.matrix_group.proofs.FamilyLaws.{weight_ones}
use Rattle.alg_core.specs.RingLaws as rings
use Rattle.invariant_space.proofs.RowPolynomials.{coef_single_same}

variable_at : (i : ℕ) → exponent (variable i).0 i ≡ 1
unfolding variable after_zeros
variable_at i = exponent_mono (after_zeros i (1 ∷ [])) i ∙ go i
  where
    go : (i : ℕ) → exponent (after_zeros i (1 ∷ [])) i ≡ 1
    go zero = refl
    go (suc i) = go i

variable_other : (i j : ℕ) → ¬ (i ≡ j) → exponent (variable i).0 j ≡ 0
unfolding variable after_zeros
variable_other i j n = exponent_mono (after_zeros i (1 ∷ [])) j ∙ go i j n
  where
    go : (i j : ℕ) → ¬ (i ≡ j) → exponent (after_zeros i (1 ∷ [])) j ≡ 0
    go zero zero n = absurd (n refl)
    go zero (suc j) n = refl
    go (suc i) zero n = refl
    go (suc i) (suc j) n = go i j (λ e. n (ap suc e))

-- a monomial in one variable more is a multiple of that variable, or is in the others
last_variable : (i : ℕ) (m : Mon) → length m.0 ≤ suc i → Divides (variable i) m ⊎ (length m.0 ≤ i)
last_variable i m short = go (divides_dec (variable i) m)
  where
    go : Dec (Divides (variable i) m) → Divides (variable i) m ⊎ (length m.0 ≤ i)
    go (yes d) = inl d
    go (no n) = inr (length_mon i m (λ j h. past j h (ℕ_discrete i j)))
      where
        low : (l : ℕ) → 1 ≤ exponent m.0 i → Dec (i ≡ l) → exponent (variable i).0 l ≤ exponent m.0 l
        low l p (yes e) = subst (λ j. exponent (variable i).0 j ≤ exponent m.0 j) e (let a = variable_at i in omega arith)
        low l p (no e) = let a = variable_other i l e in omega arith

        nothing : Dec (1 ≤ exponent m.0 i) → exponent m.0 i ≡ 0
        nothing (yes p) = absurd (n (exponents_divide (variable i) m (λ l. low l p (ℕ_discrete i l))))
        nothing (no p) = omega (arith, p)

        past : (j : ℕ) → i ≤ j → Dec (i ≡ j) → exponent m.0 j ≡ 0
        past j h (yes e) = subst (λ l. exponent m.0 l ≡ 0) e (nothing (dec_le 1 (exponent m.0 i)))
        past j h (no e) = exponent_past m.0 j (omega (arith, e))

-- not both
not_both : (i : ℕ) (m : Mon) → length m.0 ≤ i → ¬ Divides (variable i) m
not_both i m short d = let a = divides_exponents (variable i) m d i in let b = variable_at i in let c = exponent_past m.0 i short in omega arith

pub nothing_left : (m : Mon) → length m.0 ≤ 0 → m ≡ monomials.one
nothing_left m h = mon_ext m monomials.one (λ i. exponent_past m.0 i (omega arith) ∙ sym (exponent_past monomials.one.0 i (let l = length_one 0 in omega arith)))

-- the degree of a place is the sum of its exponents
degree_place : (n d : ℕ) (p : TermPlace) → length p.1 ≡ n → IsOfDegree n d (key p) → total p.1 ≡ d
unfolding key
degree_place n d p wide h = sym (weight_ext (replicate n 1) 0 (mono p.1).0 p.1 (exponent_mono p.1) ∙ weight_ones n 0 p.1 (omega arith)) ∙ h.degree

greatest_total : (a : List ℕ) → greatest a ≤ total a
greatest_total [] = omega arith
greatest_total (x ∷ a) = let h = greatest_total a in omega arith

pub of_degree : (n d : ℕ) (t : Key) → Dec (IsOfDegree n d t)
of_degree n d t = map_dec (λ h. record { position = h.0; variables = h.1.0; degree = h.1.1 }) (λ h. (h.position, (h.variables, h.degree)))
    (dec_both (ℕ_discrete t.0 0) (dec_both (dec_le (length t.1.0) n) (ℕ_discrete (key_weight (replicate n 1) t) d)))

module _ {E : Type 0} (k : FieldOn E) (n : ℕ) where
  -- a variable times a monomial
  times_degree : (d i : ℕ) (t : Key) → i < n → IsOfDegree n d t → IsOfDegree n (suc d) (times_key (variable i) t)
  times_degree d i t h p = record {
    position = p.position;
    variables = length_mul n (variable i) t.1 (length_variable i n h) p.variables;
    degree = let w = weight_mul (replicate n 1) (variable i) t.1 in let v = weight_variable i n h in omega (arith, w, v, p.degree);
  }

  -- a multiple of a variable
  record Quotient (d i : ℕ) (t : Key) : Type 0 where
    key_of : Key
    is : times_key (variable i) key_of ≡ t
    lower : IsOfDegree n d key_of
    short : length key_of.1.0 ≤ length t.1.0

  quotient_weight : (i : ℕ) (t : Key) → i < n → (q : Divides (variable i) t.1) → suc (key_weight (replicate n 1) (t.0, q.0)) ≡ key_weight (replicate n 1) t
  quotient_weight i t h q =
      let w = weight_mul (replicate n 1) (variable i) q.0 in
      let v = weight_variable i n h in
      let e : weight (replicate n 1) 0 (monomials.◌·◌ (variable i) q.0).0 ≡ weight (replicate n 1) 0 t.1.0 = ap (λ (m : Mon). weight (replicate n 1) 0 m.0) q.1 in
      omega arith

  quotient_of : (d i : ℕ) (t : Key) → i < n → IsOfDegree n (suc d) t → Divides (variable i) t.1 → Quotient d i t
  quotient_of d i t h p q = record {
    key_of = (t.0, q.0);
    is = ap (λ (m : Mon). (t.0, m)) q.1;
    lower = record { position = p.position; variables = (let s = shorter in let v = p.variables in omega arith); degree = (let w = quotient_weight i t h q in let v = p.degree in omega arith) };
    short = shorter;
  }
    where
      shorter : length q.0.0 ≤ length t.1.0
      shorter = length_mon (length t.1.0) q.0 (λ j l.
          let a = exponent_mul (variable i) q.0 j in
          let b : exponent (monomials.◌·◌ (variable i) q.0).0 j ≡ exponent t.1.0 j = ap (λ (m : Mon). exponent m.0 j) q.1 in
          let c = exponent_past t.1.0 j l in
          omega arith)

  -- the only monomial of degree 0 is 1
  pub of_degree_zero : (i : ℕ) (t : Key) → i ≤ n → IsOfDegree n 0 t → length t.1.0 ≤ i → t ≡ (0, monomials.one)
  of_degree_zero zero t h p s = ap₂ (λ (q : ℕ) (m : Mon). (q, m)) p.position (nothing_left t.1 s)
  of_degree_zero (suc i) t h p s = go (last_variable i t.1 s) (of_degree_zero i t (omega arith) p)
    where
      go : Divides (variable i) t.1 ⊎ (length t.1.0 ≤ i) → (length t.1.0 ≤ i → t ≡ (0, monomials.one)) → t ≡ (0, monomials.one)
      go (inl q) rest = absurd (let w = quotient_weight i t (omega arith) q in let v = p.degree in omega arith)
      go (inr low) rest = rest low

  pub one_degree : IsOfDegree n 0 (0, monomials.one)
  one_degree = record { position = refl; variables = length_one n; degree = let w = weight_mul (replicate n 1) monomials.one monomials.one in let e : weight (replicate n 1) 0 (monomials.◌·◌ monomials.one monomials.one).0 ≡ weight (replicate n 1) 0 monomials.one.0 = ap (λ (m : Mon). weight (replicate n 1) 0 m.0) (monomials.mul_one monomials.one) in omega arith }

  -- a monomial of positive degree is a variable times one of the degree below
  pub lowered : (d i : ℕ) (t : Key) → i ≤ n → IsOfDegree n (suc d) t → length t.1.0 ≤ i → (j : ℕ) × (v : Key) × (j < n) × IsOfDegree n d v × (times_key (variable j) v ≡ t)
  lowered d zero t h p s = absurd (
      let e : weight (replicate n 1) 0 t.1.0 ≡ weight (replicate n 1) 0 monomials.one.0 = ap (λ (m : Mon). weight (replicate n 1) 0 m.0) (nothing_left t.1 s) in
      let o = one_degree.degree in let v = p.degree in omega arith)
  lowered d (suc i) t h p s = go (last_variable i t.1 s) (lowered d i t (omega arith) p)
    where
      go : Divides (variable i) t.1 ⊎ (length t.1.0 ≤ i) → (length t.1.0 ≤ i → (j : ℕ) × (v : Key) × (j < n) × IsOfDegree n d v × (times_key (variable j) v ≡ t)) → (j : ℕ) × (v : Key) × (j < n) × IsOfDegree n d v × (times_key (variable j) v ≡ t)
      go (inl q) rest = let inside : i < n = omega arith in let r = quotient_of d i t inside p q in (i, r.key_of, inside, r.lower, r.is)
      go (inr low) rest = rest low

  abbrev InFirst : ℕ → ℕ → Key → Type 0
  InFirst d i t = IsOfDegree n d t × (length t.1.0 ≤ i)

  in_first : (d i : ℕ) (t : Key) → Dec (InFirst d i t)
  in_first d i t = dec_both (of_degree n d t) (dec_le (length t.1.0) i)

  next_supp : (d : ℕ) → ((i : ℕ) → i ≤ n → Supp k (λ t. IsOfDegree n d t × (length t.1.0 ≤ i)) (all_monomials k d i)) → (i : ℕ) → i ≤ n → Supp k (λ t. IsOfDegree n (suc d) t × (length t.1.0 ≤ i)) (next_sum k (all_monomials k d) i)
  unfolding next_sum
  next_supp d below zero h = supp_zero k (InFirst (suc d) 0)
  next_supp d below (suc i) h = supp_plus k (InFirst (suc d) (suc i)) _ _
      (supp_shift k (InFirst d (suc i)) (InFirst (suc d) (suc i)) (in_first (suc d) (suc i)) (variable i)
      (λ t p. (times_degree d i t (omega arith) p.0, length_mul (suc i) (variable i) t.1 (length_variable i (suc i) (omega arith)) p.1)) (all_monomials k d (suc i)) (below (suc i) h))
      (supp_weaken k (InFirst (suc d) i) (InFirst (suc d) (suc i)) (λ t p. (p.0, let s = p.1 in omega arith)) _ (next_supp d below i (omega arith)))

  all_supp : (d i : ℕ) → i ≤ n → Supp k (λ t. IsOfDegree n d t × (length t.1.0 ≤ i)) (all_monomials k d i)
  unfolding all_monomials
  all_supp zero i h = subst (Supp k (InFirst 0 i)) (sym (one_vector_single k)) (supp_single k (InFirst 0 i) (0, monomials.one) (one_degree, length_one i))
  all_supp (suc d) i h = next_supp d (all_supp d) i h

  next_one : (d : ℕ) → ((i : ℕ) (t : Key) → i ≤ n → IsOfDegree n d t → length t.1.0 ≤ i → coef_at k (all_monomials k d i) t ≡ (scalars k).one) → (t : Key) → IsOfDegree n (suc d) t → (i : ℕ) → i ≤ n → length t.1.0 ≤ i
      → coef_at k (next_sum k (all_monomials k d) i) t ≡ (scalars k).one
  unfolding next_sum
  next_one d below t p zero h s = absurd (
      let e : weight (replicate n 1) 0 t.1.0 ≡ weight (replicate n 1) 0 monomials.one.0 = ap (λ (m : Mon). weight (replicate n 1) 0 m.0) (nothing_left t.1 s) in
      let o = one_degree.degree in let v = p.degree in omega arith)
  next_one d below t p (suc i) h s = at (last_variable i t.1 s) (next_one d below t p i (omega arith))
    where
      at : Divides (variable i) t.1 ⊎ (length t.1.0 ≤ i) → (length t.1.0 ≤ i → coef_at k (next_sum k (all_monomials k d) i) t ≡ (scalars k).one) → coef_at k (plus k (shift k (variable i) (all_monomials k d (suc i))) (next_sum k (all_monomials k d) i)) t ≡ (scalars k).one
      at (inl q) rest =
          let r = quotient_of d i t (omega arith) p q in
          coef_at_plus k _ _ t
          ∙ ap₂ (scalars k).◌+◌ (ap (coef_at k (shift k (variable i) (all_monomials k d (suc i)))) (sym r.is) ∙ coef_shift k (variable i) (all_monomials k d (suc i)) r.key_of ∙ below (suc i) r.key_of h r.lower (let l = r.short in omega arith))
          (supp_outside k (InFirst (suc d) i) _ (next_supp d (all_supp d) i (omega arith)) t (λ b. not_both i t.1 b.1 q)) ∙ (scalars k).add_zero _
      at (inr low) rest = coef_at_plus k _ _ t ∙ ap₂ (scalars k).◌+◌ (coef_shift_outside k (variable i) (all_monomials k d (suc i)) t (not_both i t.1 low)) (rest low) ∙ rings.zero_add (scalars k) _

  all_one : (d i : ℕ) (t : Key) → i ≤ n → IsOfDegree n d t → length t.1.0 ≤ i → coef_at k (all_monomials k d i) t ≡ (scalars k).one
  unfolding all_monomials
  all_one zero i t h p s = ap (λ v. coef_at k v t) (one_vector_single k) ∙ coef_single_same k (0, monomials.one) t (sym (of_degree_zero i t h p s))
  all_one (suc d) i t h p s = next_one d (all_one d) t p i h s

module _ {E : Type 0} (S : SpaceOver E) where
  abbrev Terms : Type 0
  Terms = List (Term E (List ℕ))

  abbrev n : ℕ
  n = length S.weights

  -- terms that fall
  below_first : (p : TermPlace) (es : List (Entry E)) → length p.1 ≡ n → Fits S es → IsAbove S p es → (s : Key) → In s (map (λ e. key e.0) es) → (key_order S).compare s (key p) ≡ Less
  below_first p [] w fits above s i = absurd i
  below_first p (e ∷ es) w fits above s (inl q) = subst (λ u. (key_order S).compare u (key p) ≡ Less) q (greater_less (key_order S) (key p) (key e.0) (key_compare_places n S.order p e.0 w fits.0.place.wide ∙ above.0))
  below_first p (e ∷ es) w fits above s (inr i) = below_first p es w fits.2 above.1 s i

  falls_fit : (es : List (Entry E)) → Fits S es → Falls (key_order S) (map (λ e. key e.0) es)
  falls_fit [] fits = tt
  falls_fit (e ∷ es) fits = (below_first e.0 es fits.0.place.wide fits.2 fits.1, falls_fit es fits.2)

  -- the terms of the sum
  pub monomial_list : (d : ℕ) (p : Terms) → IsPolyOf S (λ m. m) (all_monomials S.field d n) p → IsMonomialList (key_order S) n d (keys_of p)
  monomial_list d p is = record { falls = falls_fit es is.fits; all = λ t. (out t, into t) }
    where
      es : List (Entry E)
      es = entries (λ m. m) p

      out : (t : Key) → In t (keys_of p) → IsOfDegree n d t
      out = Each_at (IsOfDegree n d) (keys_of p) (Each_map (IsOfDegree n d) (λ e. key e.0) es (recursion_from_All (λ e. IsOfDegree n d (key e.0)) es
          (fits_keys S (IsOfDegree n d) es is.fits (subst (Supp S.field (IsOfDegree n d)) (sym is.is) (λ t c. (all_supp S.field n d n (omega arith) t c).0)))))

      into : (t : Key) → IsOfDegree n d t → In t (keys_of p)
      into t h = vec_supp S.field (λ s. In s (keys_of p)) es (All-from_recursion (λ e. In (key e.0) (keys_of p)) es (Each_of_map (λ s. In s (keys_of p)) (λ e. key e.0) es (Each_from (λ s. In s (keys_of p)) (keys_of p) (λ s i. i)))) t
          (λ z. (is_field S.field).one_not_zero (sym (ap (λ v. coef_at S.field v t) is.is ∙ all_one S.field n d n t (omega arith) h h.variables) ∙ z))

  -- the exponents of products are small
  terms_total : (d : ℕ) (es : List (Entry E)) → Fits S es → Supp S.field (IsOfDegree n d) (vec S.field es) → All (λ e. total e.0.1 ≤ d) es
  terms_total d es fits h i z w = let e = degree_place n d _ (term_at_index S es i z w fits).place.wide (fits_keys S (IsOfDegree n d) es fits h i z w) in omega arith

  room : (d e cap : ℕ) (f v : List (Entry E)) → d + e ≤ cap → Fits S f → Supp S.field (IsOfDegree n d) (vec S.field f) → Fits S v → Supp S.field (IsOfDegree n e) (vec S.field v)
      → All (λ x. All (λ y. Within cap (list_product x.0.1 y.0.1)) v) f
  room d e cap f v le hf uf hv uv i y x j z w = within_product cap _ _ (
      let a = greatest_total (get_or f i y).0.1 in let b = greatest_total (get_or v j z).0.1 in
      let c = terms_total d f hf uf i y x in let g = terms_total e v hv uv j z w in omega arith)

  -- the sums of the next degree
  pub first_sum : (n : ℕ) (p : Terms) → IsPolyOf S (λ m. m) (one_vector S.field) p → IsPolyOf S (λ m. m) (all_monomials S.field 0 n) p
  unfolding all_monomials
  first_sum n p h = h

  pub none_sum : (d : ℕ) (p : Terms) → p ≡ [] → IsPolyOf S (λ m. m) (all_monomials S.field (suc d) 0) p
  unfolding all_monomials next_sum
  none_sum d p none = subst (IsPolyOf S (λ m. m) (zero_vector S.field)) (sym none) record { fits = tt; position = λ i d h. absurd (omega arith); is = vec_nothing S.field }

  pub sum_room : (d i : ℕ) (x p : Terms) → d < 12288 → i < length S.weights → IsPolyOf S (λ m. m) (variable_vector S.field i) x → IsPolyOf S (λ m. m) (all_monomials S.field d (suc i)) p → HasRoom 4294967295 (λ m. m) x p
  unfolding variable_vector
  sum_room d i x p small h one sum = room 1 d 4294967295 (entries (λ m. m) x) (entries (λ m. m) p) (omega arith) one.fits
      (subst (Supp S.field (IsOfDegree n 1)) (sym one.is) (supp_single S.field (IsOfDegree n 1) (0, variable i) (record { position = refl; variables = length_variable i n h; degree = weight_variable i n h })))
      sum.fits (subst (Supp S.field (IsOfDegree n d)) (sym sum.is) (λ t c. (all_supp S.field n d (suc i) (omega arith) t c).0))

  pub sum_more : (d i : ℕ) (x p m a s : Terms) → i < length S.weights → IsPolyOf S (λ m. m) (variable_vector S.field i) x → IsPolyOf S (λ m. m) (all_monomials S.field d (suc i)) p → IsVectorOf S (λ m. m) (product S.field (vector_of S (λ m. m) x) (vector_of S (λ m. m) p)) m
      → IsPolyOf S (λ m. m) (all_monomials S.field (suc d) i) a → IsVectorOf S (λ m. m) (plus S.field (vector_of S (λ m. m) m) (vector_of S (λ m. m) a)) s → IsPolyOf S (λ m. m) (all_monomials S.field (suc d) (suc i)) s
  unfolding all_monomials next_sum variable_vector
  sum_more d i x p m a s h one sum times rest made = poly_given S (λ m. m) (all_monomials S.field (suc d) (suc i)) s
      (vector_given S (λ m. m) (all_monomials S.field (suc d) (suc i)) s made.fits (made.is ∙ ap₂ (plus S.field) (times.is ∙ ap₂ (product S.field) one.is sum.is ∙ sym (shift_product S.field (variable i) (all_monomials S.field d (suc i)))) rest.is))
      (λ t c. (all_supp S.field n (suc d) (suc i) h t c).0.position)
