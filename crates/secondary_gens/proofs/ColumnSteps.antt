-- The terms of one degree, in order, position by position.
use Rattle.std.proofs.Common.{◌≡◌, ℕ, zero, suc, ◌+◌, ◌<◌, ◌≤◌, ◌⊎◌, inl, inr, List, [], ◌∷◌, ◌++◌, length, map, get_or, take, refl, sym, ap, ap₂, subst, ◌∙◌, arith, append_assoc}
use Rattle.std.specs.Prelude.{All}
use Rattle.std.specs.declared.cmp.Ordering.TheVariants.{Less}
use Rattle.std.proofs.lemmas.Bool.{cases_lt}
use Rattle.std.proofs.lemmas.List.{take_more, take_all, map-append, append-nil, length-map}
use Rattle.std.proofs.lemmas.List.Elements.{All-nil, All-head, All-tail, All-push}
use Rattle.alg_core.specs.DpOrder.{dp_order}
use Rattle.alg_core.specs.KeyLists.{Falls}
use Rattle.alg_core.specs.KeyOrders.{OrderOn, less_asymmetric, less_irreflexive}
use native.Mathlib.Decide.{ℕ_discrete}
use Rattle.alg_core.specs.Fields.{FieldOn}
use Rattle.alg_core.specs.Keys.{Key, key, keys}
use Rattle.alg_core.specs.Lists.{In, in_left, in_right, map_in}
use Rattle.alg_core.specs.Monomials.{Mon, mono}
use Rattle.alg_core.specs.SpaceGrading.{weight, height}
use Rattle.alg_core.specs.SpaceOrder.{key_alike}
use Rattle.alg_core.specs.Spaces.{SpaceOver}
use Rattle.alg_core.specs.Vectors.{Vect}
use Rattle.alg_core.specs.declared.term.Term.{Term}
use Rattle.alg_core.proofs.Members.{in_cases, from_map}
use Rattle.alg_core.proofs.MonomialLists.{length_mono}
use Rattle.poly_module.specs.Combinations.{term_value, combination_degree}
use Rattle.poly_module.specs.Modules.{listed}
use Rattle.poly_module.specs.Polynomials.{product, vector_ring}
use Rattle.poly_module.specs.Parts.{IsPolynomial, supp_product}
use Rattle.poly_module.specs.Sizes.{HasRoom}
use Rattle.poly_module.specs.SpaceVectors.{vector_of, vectors_of, IsPoly, IsVectorOf}
use Rattle.poly_module.specs.Substitutions.{monomial_value, monomial_value_mono}
use Rattle.poly_module.proofs.SpaceVectorLaws.{poly_of, poly_given, is_polynomial}
use Rattle.secondary_gens.specs.Images.{IsImage}
use Rattle.secondary_gens.proofs.FormImages.{product_small}
use Rattle.secondary_gens.specs.PrintedCombinations.{IsTermBefore}
use Rattle.secondary_gens.specs.Columns.{turned, mark_order, key_of, keys_of, IsProduct, IsLevel, IsColumnPart, IsColumns}
use Rattle.secondary_gens.specs.declared.columns.Column.{Column}
use Rattle.secondary_gens.specs.declared.elimination.Row.{Row}
use Rattle.secondary_gens.specs.Eliminations.{IsRowOver, IsEchelonOf, lines_of}
use Rattle.secondary_gens.proofs.ProductSteps.{weight_mono}

-- a list that is put together, split at a member
pub split_append : {A : Type 0} (L M front : List A) (t : A) (back : List A) → L ++ M ≡ front ++ t ∷ back
    → ((b : List A) × (L ≡ front ++ t ∷ b)) ⊎ ((f : List A) × (front ≡ L ++ f) × (M ≡ f ++ t ∷ back))
split_append [] M front t back e = inr (front, refl, e)
split_append (x ∷ L) M [] t back e = let same : x ≡ t = cc in inl (L, ap (λ y. y ∷ L) same)
split_append (x ∷ L) M (y ∷ front) t back e = go (let rest : L ++ M ≡ front ++ t ∷ back = cc in split_append L M front t back rest) (let same : x ≡ y = cc in same)
  where
    go : ((b : List _) × (L ≡ front ++ t ∷ b)) ⊎ ((f : List _) × (front ≡ L ++ f) × (M ≡ f ++ t ∷ back)) → x ≡ y
        → ((b : List _) × (x ∷ L ≡ y ∷ (front ++ t ∷ b))) ⊎ ((f : List _) × (y ∷ front ≡ x ∷ (L ++ f)) × (M ≡ f ++ t ∷ back))
    go (inl b) s = inl (b.0, ap₂ (λ z l. z ∷ l) s b.1)
    go (inr f) s = inr (f.0, ap₂ (λ z l. z ∷ l) (sym s) f.1, f.2)

-- in a list that falls, what stands after a member is smaller
pub falls_back : {T : Type 0} (o : OrderOn T) (front : List T) (t : T) (back : List T) → Falls o (front ++ t ∷ back) → (s : T) → In s back → o.compare s t ≡ Less
falls_back o [] t back h s i = h.0 s i
falls_back o (x ∷ front) t back h s i = falls_back o front t back h.1 s i

-- the degree of a position
pub height_at : (es : List ℕ) (j : ℕ) → j < length es → height es j ≡ get_or es j 0
unfolding height
height_at [] j h = absurd (omega arith)
height_at (e ∷ es) zero h = refl
height_at (e ∷ es) (suc j) h = height_at es j (omega arith)

-- products of polynomials
product_polynomial : {E : Type 0} (k : FieldOn E) (u v : Vect k) → IsPolynomial k u → IsPolynomial k v → IsPolynomial k (product k u v)
unfolding keys
product_polynomial k u v = supp_product k (λ t. t.0 ≡ 0) (λ t. t.0 ≡ 0) (λ t. t.0 ≡ 0) (λ t. ℕ_discrete t.0 0) (λ s t p q. omega arith) u v

key_monomial : (q : ℕ) (a : List ℕ) → key (q, a) ≡ (q, mono a)
unfolding key
key_monomial q a = refl

module _ {E : Type 0} (S : SpaceOver E) (θ : List (Vect S.field)) (ds : List ℕ) where
  abbrev pub x : List (Term E (List ℕ)) → Vect S.field
  x v = vector_of S (λ m. m) v

  -- the values of a level are polynomials, and there is room for their products with a form
  pub level_polynomials : (e : ℕ) (level : List (Column E)) → IsLevel S θ ds e level → All (λ c. IsPoly S (λ m. m) c.value) level
  level_polynomials e level h i c l = poly_of S (λ m. m) _ _ (h.each i c l).value.polynomial

  pub level_wide : (e : ℕ) (level : List (Column E)) → IsLevel S θ ds e level → All (λ c. length c.at.mono ≡ length ds) level
  level_wide e level h i c l = (h.each i c l).wide

  pub level_room : (e d : ℕ) (level : List (Column E)) (u : Vect S.field) (p : List (Term E (List ℕ))) → IsLevel S θ ds e level → IsImage S d u p → e + d ≤ 12288
      → All (λ c. HasRoom 4294967295 (λ m. m) c.value p) level
  level_room e d level u p h form small i c l = product_small S e d 4294967295 _ u _ p (omega arith) (h.each i c l).value form

  -- the level at position j
  module _ (e j : ℕ) (level : List (Column E)) (h : IsLevel S θ ds e level) where
    abbrev placed : Column E → Key
    placed c = (j, (key_of c).1)

    product_key : (c : Column E) → IsProduct S θ ds e c → key_of c ≡ (0, mono c.at.mono)
    product_key c p = key_monomial c.at.pos c.at.mono ∙ ap (λ (q : ℕ). (q, mono c.at.mono)) p.position

    placed_rises : (cs : List (Column E)) → All (IsProduct S θ ds e) cs → Falls (turned (mark_order ds)) (keys_of cs) → Falls (turned (mark_order ds)) (map placed cs)
    placed_rises [] a f = tt
    placed_rises (c ∷ cs) a f = (smaller, placed_rises cs (All-tail (IsProduct S θ ds e) c cs a) f.1)
      where
        at : (b : Column E) → IsProduct S θ ds e b → (turned (mark_order ds)).compare (key_of b) (key_of c) ≡ Less → (turned (mark_order ds)).compare (placed b) (placed c) ≡ Less
        at b p l =
            key_alike (length ds) (dp_order ds) j (key_of c).1 (key_of b).1
            ∙ ap₂ (mark_order ds).compare (ap (λ (t : Key). (0, t.1)) (product_key c (All-head (IsProduct S θ ds e) c cs a)) ∙ sym (product_key c (All-head (IsProduct S θ ds e) c cs a)))
            (ap (λ (t : Key). (0, t.1)) (product_key b p) ∙ sym (product_key b p)) ∙ l

        member : (bs : List (Column E)) → All (IsProduct S θ ds e) bs → (s : Key) → In s (map placed bs) → (b : Column E) × In b bs × IsProduct S θ ds e b × (placed b ≡ s)
        member [] q s i = absurd i
        member (b ∷ bs) q s (inl m) = (b, inl refl, All-head (IsProduct S θ ds e) b bs q, m)
        member (b ∷ bs) q s (inr i) = let r = member bs (All-tail (IsProduct S θ ds e) b bs q) s i in (r.0, inr r.1, r.2, r.3)

        smaller : (s : Key) → In s (map placed cs) → (turned (mark_order ds)).compare s (placed c) ≡ Less
        smaller s i =
            let m = member cs (All-tail (IsProduct S θ ds e) c cs a) s i in
            subst (λ r. (turned (mark_order ds)).compare r (placed c) ≡ Less) m.3 (at m.0 m.2 (f.0 (key_of m.0) (map_in key_of m.0 cs m.1)))

    -- its keys
    placed_in : (s : Key) → In s (map placed level) → (c : Column E) × In c level × IsProduct S θ ds e c × (s ≡ (j, mono c.at.mono))
    placed_in s i = go level h.each i
      where
        go : (cs : List (Column E)) → All (IsProduct S θ ds e) cs → In s (map placed cs) → (c : Column E) × In c cs × IsProduct S θ ds e c × (s ≡ (j, mono c.at.mono))
        go [] a m = absurd m
        go (c ∷ cs) a (inl m) = (c, inl refl, All-head (IsProduct S θ ds e) c cs a, sym m ∙ ap (λ (t : Key). (j, t.1)) (product_key c (All-head (IsProduct S θ ds e) c cs a)))
        go (c ∷ cs) a (inr m) = let r = go cs (All-tail (IsProduct S θ ds e) c cs a) m in (r.0, inr r.1, r.2, r.3)

    in_placed : (m : Mon) → length m.0 ≤ length ds → weight ds 0 m.0 ≡ e → In (j, m) (map placed level)
    in_placed m l w =
        let f = from_map key_of (0, m) level (h.whole m l w) in
        subst (λ s. In s (map placed level)) (ap (λ (t : Key). (j, t.1)) f.2) (map_in placed f.0 level f.1)

    module _ (T : List (Vect S.field)) (es : List ℕ) (d : ℕ) (old new : List (Column E)) (p : List (Term E (List ℕ))) (degree : e + get_or es j 0 ≡ d) (inside : j < length es) (member : listed S.field T j ≡ x p)
        (polynomials : All (λ c. IsPoly S (λ m. m) c.value) new) (wide : All (λ c. length c.at.mono ≡ length ds) new) (names : keys_of new ≡ keys_of old ++ map placed level)
        (values : map (λ c. x c.value) new ≡ map (λ c. x c.value) old ++ map (λ c. product S.field (x c.value) (x p)) level)
        (was : IsColumnPart S θ ds T es d j old) where
      L : List Key
      L = keys_of old

      M : List Key
      M = map placed level

      own : height es j ≡ get_or es j 0
      own = height_at es j inside

      values_placed : (cs : List (Column E)) → All (IsProduct S θ ds e) cs → map (λ c. product S.field (x c.value) (x p)) cs ≡ map (term_value S.field θ T) (map placed cs)
      values_placed [] a = refl
      values_placed (c ∷ cs) a = ap₂ ◌∷◌
          (ap₂ (product S.field) ((All-head (IsProduct S θ ds e) c cs a).value.polynomial.is ∙ sym (monomial_value_mono (vector_ring S.field) θ c.at.mono)
          ∙ ap (λ (t : Key). monomial_value (vector_ring S.field) θ t.1.0) (sym (product_key c (All-head (IsProduct S θ ds e) c cs a)))) (sym member))
          (values_placed cs (All-tail (IsProduct S θ ds e) c cs a))

      pub part_more : IsColumnPart S θ ds T es d (j + 1) new
      unfolding L M
      part_more = record {
        polynomials = polynomials;
        wide = wide;
        values = values ∙ ap₂ ◌++◌ was.values (values_placed level h.each) ∙ sym (map-append (term_value S.field θ T) L M) ∙ ap (map (term_value S.field θ T)) (sym names);
        within = λ t i. inside_new t (in_cases t L M (subst (In t) names i));
        whole = λ t l q w. subst (In t) (sym names) (whole_new t l w (cases_lt t.0 j) q);
        ordered = λ s t front back split b. ordered_new s t front back (split_append L M front t back (sym names ∙ split)) b;
      }
        where
          inside_new : (t : Key) → In t L ⊎ In t M → (length t.1.0 ≤ length ds) × (t.0 < j + 1) × (combination_degree ds es t ≡ d)
          inside_new t (inl i) = let w = was.within t i in (w.0, let q = w.1 in omega arith, w.2)
          inside_new t (inr i) =
              let r = placed_in t i in
              let a = weight_mono ds r.0.at.mono in
              let b = r.2.degree in
              let c = own in
              let f : weight ds 0 t.1.0 ≡ weight ds 0 (mono r.0.at.mono).0 = ap (λ (u : Key). weight ds 0 u.1.0) r.3 in
              let g : height es t.0 ≡ height es j = ap (λ (u : Key). height es u.0) r.3 in
              (subst (λ (u : Key). length u.1.0 ≤ length ds) (sym r.3) (let m = length_mono r.0.at.mono in let w = r.2.wide in omega arith), let q : t.0 ≡ j = ap (λ (u : Key). u.0) r.3 in omega arith, omega arith)

          light : (t : Key) → t.0 ≡ j → combination_degree ds es t ≡ d → weight ds 0 t.1.0 ≡ e
          light t q w = let g : height es t.0 ≡ height es j = ap (height es) q in let c = own in omega arith

          at_j : (t : Key) → t.0 ≡ j → length t.1.0 ≤ length ds → combination_degree ds es t ≡ d → In t M
          at_j t q l w = subst (λ s. In s M) (ap (λ (n : ℕ). (n, t.1)) (sym q)) (in_placed t.1 l (light t q w))

          whole_new : (t : Key) → length t.1.0 ≤ length ds → combination_degree ds es t ≡ d → (t.0 < j) ⊎ (j ≤ t.0) → t.0 < j + 1 → In t (L ++ M)
          whole_new t l w (inl b) q = in_left t L M (was.whole t l b w)
          whole_new t l w (inr b) q = in_right t L M (at_j t (omega arith) l w)

          ordered_new : (s t : Key) (front back : List Key) → ((b : List Key) × (L ≡ front ++ t ∷ b)) ⊎ ((f : List Key) × (front ≡ L ++ f) × (M ≡ f ++ t ∷ back)) → IsTermBefore S.field ds es s t → In s front
          ordered_new s t front back (inl b) before = was.ordered s t front b.0 b.1 before
          ordered_new s t front back (inr f) before = subst (In s) (sym f.1) (go before.before)
            where
              there : In t M
              there = subst (In t) (sym f.2) (in_right t f.0 (t ∷ back) (inl refl))

              degree_s : combination_degree ds es s ≡ d
              degree_s = before.degree ∙ (inside_new t (inr there)).2

              position : t.0 ≡ j
              position = ap (λ (u : Key). u.0) (placed_in t there).3

              rises : Falls (turned (mark_order ds)) (f.0 ++ t ∷ back)
              rises = subst (Falls (turned (mark_order ds))) f.2 (placed_rises level h.each h.rises)

              later : In s f.0 ⊎ In s (t ∷ back) → (mark_order ds).compare s t ≡ Less → In s (L ++ f.0)
              later (inl i) c = in_right s L f.0 i
              later (inr (inl e)) c = absurd (less_irreflexive (mark_order ds) s t (sym e) c)
              later (inr (inr i)) c = absurd (less_asymmetric (mark_order ds) s t c (falls_back (turned (mark_order ds)) f.0 t back rises s i))

              go : (s.0 < t.0) ⊎ ((s.0 ≡ t.0) × ((mark_order ds).compare s t ≡ Less)) → In s (L ++ f.0)
              go (inl b) = in_left s L f.0 (was.whole s before.variables (let q = position in omega arith) degree_s)
              go (inr b) = later (in_cases s f.0 (t ∷ back) (subst (In s) f.2 (at_j s (b.0 ∙ position) before.variables degree_s))) b.1

  -- no term has the position of a polynomial of greater degree
  pub part_skip : (T : List (Vect S.field)) (es : List ℕ) (d j : ℕ) (cs : List (Column E)) → j < length es → d < get_or es j 0 → IsColumnPart S θ ds T es d j cs → IsColumnPart S θ ds T es d (j + 1) cs
  part_skip T es d j cs inside above was = record {
    polynomials = was.polynomials;
    wide = was.wide;
    values = was.values;
    within = λ t i. let w = was.within t i in (w.0, let q = w.1 in omega arith, w.2);
    whole = λ t l q w. go t l w (cases_lt t.0 j) q;
    ordered = was.ordered;
  }
    where
      go : (t : Key) → length t.1.0 ≤ length ds → combination_degree ds es t ≡ d → (t.0 < j) ⊎ (j ≤ t.0) → t.0 < j + 1 → In t (keys_of cs)
      go t l w (inl b) q = was.whole t l b w
      go t l w (inr b) q = absurd (let same : t.0 ≡ j = omega arith in let g : height es t.0 ≡ height es j = ap (height es) same in let a = height_at es j inside in omega arith)

  pub part_none : (T : List (Vect S.field)) (es : List ℕ) (d : ℕ) (cs : List (Column E)) → cs ≡ [] → IsColumnPart S θ ds T es d 0 cs
  part_none T es d cs none = subst (IsColumnPart S θ ds T es d 0) (sym none) (record {
    polynomials = All-nil (λ c. IsPoly S (λ m. m) c.value);
    wide = All-nil (λ c. length c.at.mono ≡ length ds);
    values = refl;
    within = λ t i. absurd i;
    whole = λ t l q w. absurd (omega arith);
    ordered = λ s t front back split b. absurd (nothing front t back split);
  })
    where
      nothing : (front : List Key) (t : Key) (back : List Key) → [] ≡ front ++ t ∷ back → ⊥
      nothing [] t back e = cc
      nothing (y ∷ front) t back e = cc

module _ {E : Type 0} (S : SpaceOver E) (θ : List (Vect S.field)) (ds : List ℕ) where
  -- all positions
  pub part_end : (polynomials : List (List (Term E (List ℕ)))) (es : List ℕ) (d j : ℕ) (cs : List (Column E)) → j ≡ length polynomials → IsColumnPart S θ ds (vectors_of S (λ m. m) polynomials) es d j cs
      → IsColumns S θ ds (vectors_of S (λ m. m) polynomials) es d cs
  part_end polynomials es d j cs all h = subst (λ n. IsColumnPart S θ ds (vectors_of S (λ m. m) polynomials) es d n cs) (all ∙ sym (length-map polynomials (vector_of S (λ m. m)))) h

module _ {E : Type 0} (S : SpaceOver E) where
  -- so far the products with the first i of a level
  pub record Added (level : List (Column E)) (p : List (Term E (List ℕ))) (j i : ℕ) (old new : List (Column E)) : Type 0 where
    pub polynomials : All (λ c. IsPoly S (λ m. m) c.value) new
    pub wide : (n : ℕ) → All (λ c. length c.at.mono ≡ n) level → All (λ c. length c.at.mono ≡ n) old → All (λ c. length c.at.mono ≡ n) new
    pub names : keys_of new ≡ keys_of old ++ map (λ c. (j, (key_of c).1)) (take i level)
    pub values : map (λ c. vector_of S (λ m. m) c.value) new ≡ map (λ c. vector_of S (λ m. m) c.value) old ++ map (λ c. product S.field (vector_of S (λ m. m) c.value) (vector_of S (λ m. m) p)) (take i level)

  pub added_none : (level : List (Column E)) (p : List (Term E (List ℕ))) (j : ℕ) (old : List (Column E)) → All (λ c. IsPoly S (λ m. m) c.value) old → Added level p j 0 old old
  added_none level p j old h = record { polynomials = h; wide = λ n a b. b; names = sym (append-nil (keys_of old)); values = sym (append-nil (map (λ c. vector_of S (λ m. m) c.value) old)) }

  pub added_more : (level : List (Column E)) (p : List (Term E (List ℕ))) (j i : ℕ) (old cs new : List (Column E)) (b c : Column E) → i < length level → b ≡ get_or level i b
      → new ≡ cs ++ c ∷ [] → c.at.pos ≡ j → c.at.mono ≡ b.at.mono → IsVectorOf S (λ m. m) (product S.field (vector_of S (λ m. m) b.value) (vector_of S (λ m. m) p)) c.value
      → IsPoly S (λ m. m) b.value → IsPoly S (λ m. m) p → Added level p j i old cs → Added level p j (i + 1) old new
  added_more level p j i old cs new b c inside read push pos at is hb hp was = record {
    polynomials = subst (All (λ a. IsPoly S (λ m. m) a.value)) (sym push) (All-push (λ a. IsPoly S (λ m. m) a.value) cs c was.polynomials poly);
    wide = λ n a o. subst (All (λ y. length y.at.mono ≡ n)) (sym push) (All-push (λ y. length y.at.mono ≡ n) cs c (was.wide n a o) (ap length at ∙ subst (λ y. length y.at.mono ≡ n) (sym read) (a i b inside)));
    names = ap keys_of push ∙ map-append key_of cs (c ∷ []) ∙ ap₂ (λ l t. l ++ t ∷ []) was.names (ap₂ (λ (q : ℕ) (a : List ℕ). key (q, a)) pos at ∙ key_monomial j b.at.mono ∙ ap (λ (t : Key). (j, t.1)) (sym (key_monomial b.at.pos b.at.mono)))
        ∙ append_assoc (keys_of old) _ _ ∙ ap (λ l. keys_of old ++ l) (sym (more (λ a. (j, (key_of a).1))));
    values = ap (map (λ a. vector_of S (λ m. m) a.value)) push ∙ map-append (λ a. vector_of S (λ m. m) a.value) cs (c ∷ []) ∙ ap₂ (λ l t. l ++ t ∷ []) was.values is.is
        ∙ append_assoc (map (λ a. vector_of S (λ m. m) a.value) old) _ _ ∙ ap (λ l. map (λ a. vector_of S (λ m. m) a.value) old ++ l) (sym (more (λ a. product S.field (vector_of S (λ m. m) a.value) (vector_of S (λ m. m) p))));
  }
    where
      poly : IsPoly S (λ m. m) c.value
      poly = poly_of S (λ m. m) _ c.value (poly_given S (λ m. m) _ c.value is (product_polynomial S.field (vector_of S (λ m. m) b.value) (vector_of S (λ m. m) p) (is_polynomial S (λ m. m) b.value hb) (is_polynomial S (λ m. m) p hp)))

      more : {B : Type 0} (f : Column E → B) → map f (take (i + 1) level) ≡ map f (take i level) ++ f b ∷ []
      more f = ap (map f) (take_more level i b inside ∙ ap (λ y. take i level ++ y ∷ []) (sym read)) ∙ map-append f (take i level) (b ∷ [])

-- the rows of the first columns
module _ {E : Type 0} (S : SpaceOver E) where
  pub record Rowed (columns : List (Column E)) (i : ℕ) (rows : List (Row E)) : Type 0 where
    pub over : All (IsRowOver S) rows
    pub echelon : IsEchelonOf S.field (map (λ c. vector_of S (λ m. m) c.value) (take i columns)) (lines_of S rows)

  pub rowed_none : (columns : List (Column E)) (rows : List (Row E)) → rows ≡ [] → Rowed columns 0 rows
  rowed_none columns rows none = subst (Rowed columns 0) (sym none) (record {
    over = All-nil (IsRowOver S);
    echelon = record { triangular = tt; inside = λ l i. absurd i; outside = λ v i. absurd i };
  })

  pub rowed_more : (columns : List (Column E)) (i : ℕ) (c : Column E) (rows new : List (Row E)) → i < length columns → c ≡ get_or columns i c → All (IsRowOver S) new
      → ((vs : List (Vect S.field)) → IsEchelonOf S.field vs (lines_of S rows) → IsEchelonOf S.field (vs ++ vector_of S (λ m. m) c.value ∷ []) (lines_of S new))
      → Rowed columns i rows → Rowed columns (i + 1) new
  rowed_more columns i c rows new inside read all more was = record {
    over = all;
    echelon = subst (λ vs. IsEchelonOf S.field vs (lines_of S new)) (sym (ap (map (λ a. vector_of S (λ m. m) a.value)) (take_more columns i c inside ∙ ap (λ y. take i columns ++ y ∷ []) (sym read)) ∙ map-append (λ a. vector_of S (λ m. m) a.value) (take i columns) (c ∷ []))) (more _ was.echelon);
  }

  pub rowed_all : (columns : List (Column E)) (i : ℕ) (rows : List (Row E)) → length columns ≤ i → Rowed columns i rows → IsEchelonOf S.field (map (λ c. vector_of S (λ m. m) c.value) columns) (lines_of S rows)
  rowed_all columns i rows past h = subst (λ l. IsEchelonOf S.field (map (λ c. vector_of S (λ m. m) c.value) l) (lines_of S rows)) (take_all i columns past) h.echelon
