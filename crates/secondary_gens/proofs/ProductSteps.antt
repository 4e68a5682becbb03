-- Products of primary invariants, level by level.
use Rattle.std.proofs.Common.{◌≡◌, ℕ, zero, suc, ◌+◌, ◌<◌, ◌≤◌, ◌⊎◌, inl, inr, List, [], ◌∷◌, ◌++◌, length, map, get_or, take, drop, replicate, refl, sym, ap, ap₂, subst, ◌∙◌, arith}
use Rattle.std.specs.Prelude.{All}
use Rattle.std.specs.List.{insert}
use Rattle.std.proofs.lemmas.Bool.{cases_lt}
use Rattle.std.proofs.lemmas.List.{take_more, take_all, map-append, take-map, drop-map, length-map, length-append, get_or_append_left, get_or_push}
use Rattle.std.proofs.lemmas.List.Elements.{All-append, All-take, All-drop, All-cons, All-nil}
use Rattle.alg_core.specs.ExponentLists.{product as list_product, Within}
use Rattle.alg_core.specs.KeyLists.{Falls, inserted}
use Rattle.std.specs.declared.cmp.Ordering.{Ordering}
use Rattle.alg_core.specs.DpOrder.{dp_order}
use Rattle.alg_core.specs.SpaceOrder.{key_compare_places}
use Rattle.alg_core.specs.Keys.{TermPlace, Key, key, keys, times_key, times_key_product}
use Rattle.alg_core.specs.Lists.{In}
use Rattle.alg_core.specs.Monomials.{Mon, monomials, mono, Divides, exponent, exponent_mono, exponent_mul}
use Rattle.alg_core.specs.SpaceGrading.{AllPositive, weight, weight_ext, weight_mul}
use Rattle.alg_core.specs.Spaces.{SpaceOver, entries, place}
use Rattle.alg_core.specs.Vectors.{Vect}
use Rattle.alg_core.specs.declared.term.Term.{Term}
use Rattle.alg_core.proofs.Members.{in_cases}
use Rattle.poly_module.specs.Variables.{exponent_past, length_mon}
use Rattle.secondary_gens.proofs.Lists.{some_variable, divides_variable, weight_zero_is_one, weight_one}
use Rattle.alg_core.proofs.MonomialLists.{mono_product}
use Rattle.poly_module.specs.GreatestExponents.{total}
use Rattle.poly_module.specs.MonomialVariables.{variable}
use Rattle.poly_module.specs.Modules.{listed}
use Rattle.poly_module.specs.Polynomials.{product, vector_ring, one_vector}
use Rattle.poly_module.specs.Products.{ring_product, ring_one}
use Rattle.poly_module.specs.SpaceVectors.{vector_of, IsVectorOf, IsPolyOf}
use Rattle.poly_module.specs.Substitutions.{image, monomial_value, monomial_value_mul, monomial_value_mono, monomial_value_one, monomial_value_variable}
use Rattle.poly_module.proofs.ConstantSteps.{mono_set, mono_zeros, length_zeros}
use Rattle.secondary_gens.specs.Images.{IsImage}
use Rattle.secondary_gens.specs.Images.{unit_exponents}
use Rattle.secondary_gens.proofs.FormImages.{product_small, product_image, one_image}
use Rattle.secondary_gens.proofs.MonomialDegrees.{key_times, length_times, total_times, length_unit, exponents_small, total_constant}
use Rattle.secondary_gens.specs.Columns.{turned, mark_order, key_of, keys_of, IsProduct, IsLevel, IsPart, AreLevels}
use Rattle.secondary_gens.specs.declared.columns.Column.{Column}
use Rattle.secondary_gens.proofs.Sorting.{falls_inserted, in_inserted}

-- a member put at a place
all_insert : {A : Type 0} (P : A → Type 0) (l : List A) (i : ℕ) (x : A) → All P l → P x → All P (insert l i x)
all_insert P l i x h p = All-append P (take i l) (x ∷ drop i l) (All-take P i l h) (All-cons P x (drop i l) p (All-drop P i l h))

map_insert : {A B : Type 0} (f : A → B) (l : List A) (i : ℕ) (x : A) → map f (insert l i x) ≡ insert (map f l) i (f x)
map_insert f l i x = map-append f (take i l) (x ∷ drop i l) ∙ ap₂ (λ a b. a ++ f x ∷ b) (sym (take-map f i l)) (sym (drop-map f i l))

key_monomial : (q : ℕ) (a : List ℕ) → key (q, a) ≡ (q, mono a)
unfolding key
key_monomial q a = refl

-- the key of a column at a place, and comparisons of columns
pub read_key : {E : Type 0} (cs : List (Column E)) (j : ℕ) (c : Column E) → j < length cs → c ≡ get_or cs j c → key_of c ≡ get_or (keys_of cs) j (key_of c)
read_key [] j c h e = absurd (omega arith)
read_key (x ∷ cs) zero c h e = ap key_of e
read_key (x ∷ cs) (suc j) c h e = read_key cs j c (omega arith) e

pub compared : (ds : List ℕ) (p q : TermPlace) (r : Ordering) → length p.1 ≡ length ds → length q.1 ≡ length ds → r ≡ (dp_order ds).compare p q → (turned (mark_order ds)).compare (key q) (key p) ≡ r
compared ds p q r a b e = key_compare_places (length ds) (dp_order ds) p q a b ∙ sym e

-- a mapped list at a place
pub read_map : {A B : Type 0} (f : A → B) (l : List A) (j : ℕ) (v : A) (d : B) → j < length l → v ≡ get_or l j v → f v ≡ get_or (map f l) j d
read_map f [] j v d h e = absurd (omega arith)
read_map f (x ∷ l) zero v d h e = ap f e
read_map f (x ∷ l) (suc j) v d h e = read_map f l j v d (omega arith) e

pub mark_within : (ds : List ℕ) (i : ℕ) (a : List ℕ) (e d : ℕ) → total a ≤ e → e + d ≤ 12288 → 1 ≤ d → i < length ds → length a ≡ length ds → Within 4294967295 (list_product a (unit_exponents (length ds) i))
mark_within ds i a e d l small positive inside wide = exponents_small (length ds) i a 4294967295 (omega arith) inside wide

-- the weight of a mark, of a product with a mark
weight_unit : (ds : List ℕ) (j i : ℕ) → i < length ds → weight ds j (unit_exponents (length ds) i) ≡ get_or ds i 0
unfolding weight
weight_unit [] j i h = absurd (omega arith)
weight_unit (d ∷ ds) j zero h = let z = weight_zeros ds (suc j) in omega arith
  where
    weight_zeros : (ds : List ℕ) (j : ℕ) → weight ds j (replicate (length ds) 0) ≡ 0
    weight_zeros [] j = refl
    weight_zeros (d ∷ ds) j = let z = weight_zeros ds (suc j) in omega arith
weight_unit (d ∷ ds) j (suc i) h = let r = weight_unit ds (suc j) i (omega arith) in omega arith

pub weight_mono : (ds a : List ℕ) → weight ds 0 (mono a).0 ≡ weight ds 0 a
weight_mono ds a = weight_ext ds 0 (mono a).0 a (exponent_mono a)

pub weight_times : (ds : List ℕ) (i : ℕ) (a : List ℕ) → i < length ds → length a ≡ length ds → weight ds 0 (list_product a (unit_exponents (length ds) i)) ≡ weight ds 0 a + get_or ds i 0
weight_times ds i a h e =
    let u = unit_exponents (length ds) i in
    sym (weight_mono ds (list_product a u)) ∙ ap (λ (m : Mon). weight ds 0 m.0) (mono_product a u (e ∙ sym (length_unit (length ds) i))) ∙ weight_mul ds (mono a) (mono u)
    ∙ ap₂ ◌+◌ (weight_mono ds a) (weight_mono ds u ∙ weight_unit ds 0 i h)

pub weight_variable : (ds : List ℕ) (i : ℕ) → i < length ds → weight ds 0 (variable i).0 ≡ get_or ds i 0
weight_variable ds i h = ap (λ (m : Mon). weight ds 0 m.0) (sym (mono_set (length ds) i h)) ∙ weight_mono ds (unit_exponents (length ds) i) ∙ weight_unit ds 0 i h

module _ {E : Type 0} (S : SpaceOver E) (θ : List (Vect S.field)) (ds : List ℕ) where
  abbrev pub Terms : Type 0
  Terms = List (Term E (List ℕ))

  image_listed : (xs : List (Vect S.field)) (i : ℕ) → i < length xs → image (vector_ring S.field) xs i ≡ listed S.field xs i
  image_listed [] i h = absurd (omega arith)
  image_listed (x ∷ xs) zero h = refl
  image_listed (x ∷ xs) (suc i) h = image_listed xs i (omega arith)

  -- the value of a product with a mark
  value_times : (i : ℕ) (a : List ℕ) → i < length ds → length a ≡ length ds → length θ ≡ length ds
      → monomial_value (vector_ring S.field) θ (list_product a (unit_exponents (length ds) i)) ≡ product S.field (monomial_value (vector_ring S.field) θ a) (listed S.field θ i)
  value_times i a h e same =
      let Y = vector_ring S.field in
      let u = unit_exponents (length ds) i in
      sym (monomial_value_mono Y θ (list_product a u)) ∙ ap (λ (m : Mon). monomial_value Y θ m.0) (mono_product a u (e ∙ sym (length_unit (length ds) i))) ∙ monomial_value_mul Y θ (mono a) (mono u)
      ∙ ring_product S.field _ _ ∙ ap₂ (product S.field) (monomial_value_mono Y θ a)
      (ap (λ (m : Mon). monomial_value Y θ m.0) (mono_set (length ds) i h) ∙ monomial_value_variable Y θ i ∙ image_listed θ i (omega arith))

  module _ (same : length θ ≡ length ds) (e d i : ℕ) (inside : i < length ds) (degree : d ≡ get_or ds i 0) (positive : 1 ≤ d) (p : Column E) (h : IsProduct S θ ds e p)
      (f : Terms) (form : IsImage S d (listed S.field θ i) f) (small : e + d ≤ 12288) where
    pub times_room : All (λ x. All (λ y. Within 4294967295 (list_product x.0.1 y.0.1)) (entries (λ m. m) f)) (entries (λ m. m) p.value)
    times_room = product_small S e d 4294967295 _ _ p.value f (omega arith) h.value form

    pub times_within : Within 4294967295 (list_product p.at.mono (unit_exponents (length ds) i))
    times_within = let l = h.low in exponents_small (length ds) i p.at.mono 4294967295 (omega arith) inside h.wide

    pub times_product : (c : Column E) → c.at.pos ≡ 0 → c.at.mono ≡ list_product p.at.mono (unit_exponents (length ds) i)
        → IsVectorOf S (λ m. m) (product S.field (vector_of S (λ m. m) p.value) (vector_of S (λ m. m) f)) c.value → IsProduct S θ ds (e + d) c
    times_product c pos at is = record {
      position = pos;
      wide = ap length at ∙ length_times (length ds) i p.at.mono h.wide;
      degree = ap (weight ds 0) at ∙ weight_times ds i p.at.mono inside h.wide ∙ ap₂ ◌+◌ h.degree (sym degree);
      low = let t : total c.at.mono ≡ total (list_product p.at.mono (unit_exponents (length ds) i)) = ap total at in let u = total_times (length ds) i p.at.mono inside h.wide in let l = h.low in omega arith;
      value = subst (λ u. IsImage S (e + d) u c.value) (sym (value_times i p.at.mono inside h.wide same) ∙ ap (monomial_value (vector_ring S.field) θ) (sym at))
          (product_image S e d (monomial_value (vector_ring S.field) θ p.at.mono) (listed S.field θ i) p.value f c.value h.value form is.fits is.is);
    }

    pub times_key_of : (c : Column E) → c.at.pos ≡ 0 → c.at.mono ≡ list_product p.at.mono (unit_exponents (length ds) i) → key_of c ≡ times_key (variable i) (key_of p)
    times_key_of c pos at = ap₂ (λ (q : ℕ) (a : List ℕ). key (q, a)) pos at ∙ key_times (length ds) i p.at.mono inside h.wide
        ∙ ap (λ (q : ℕ). keys.◌·◌ (0, variable i) (key (q, p.at.mono))) (sym h.position) ∙ sym (times_key_product (variable i) (key_of p))

  -- the products with the first j of the lower level are there
  pub record Adding (e i : ℕ) (lower : List (Column E)) (j : ℕ) (level : List (Column E)) : Type 0 where
    pub part : IsPart S θ ds e i level
    pub added : (t : Key) → In t (keys_of (take j lower)) → In (times_key (variable i) t) (keys_of level)

  pub adding_none : (e i : ℕ) (lower level : List (Column E)) → IsPart S θ ds e i level → Adding e i lower 0 level
  adding_none e i lower level h = record { part = h; added = λ t i. absurd i }

  module _ (e i j : ℕ) (lower level : List (Column E)) (p c : Column E) (inside : j < length lower) (read : p ≡ get_or lower j p) (t : Key) (is : t ≡ times_key (variable i) (key_of p)) (was : Adding e i lower j level) where
    keys_more : keys_of (take (j + 1) lower) ≡ keys_of (take j lower) ++ key_of p ∷ []
    keys_more = ap keys_of (take_more lower j p inside ∙ ap (λ y. take j lower ++ y ∷ []) (sym read)) ∙ map-append key_of (take j lower) (p ∷ [])

    grown : (new : List (Column E)) → ((s : Key) → In s (keys_of level) → In s (keys_of new)) → In t (keys_of new) → (s : Key) → In s (keys_of (take (j + 1) lower)) → In (times_key (variable i) s) (keys_of new)
    grown new keeps there s m = go (in_cases s (keys_of (take j lower)) (key_of p ∷ []) (subst (In s) keys_more m))
      where
        go : In s (keys_of (take j lower)) ⊎ In s (key_of p ∷ []) → In (times_key (variable i) s) (keys_of new)
        go (inl n) = keeps _ (was.added s n)
        go (inr (inl q)) = subst (λ r. In r (keys_of new)) (is ∙ ap (times_key (variable i)) q) there
        go (inr (inr n)) = absurd n

    -- the product was there
    pub adding_same : inserted (turned (mark_order ds)) t (keys_of level) ≡ keys_of level → Adding e i lower (j + 1) level
    adding_same same = record {
      part = was.part;
      added = grown level (λ s m. m) (subst (In t) same (in_inserted (turned (mark_order ds)) t t (keys_of level) was.part.rises (inl refl)));
    }

    -- it is put at its place
    pub adding_more : (l : ℕ) (new : List (Column E)) → l ≤ length level → new ≡ insert level l c → key_of c ≡ t → IsProduct S θ ds e c
        → inserted (turned (mark_order ds)) t (keys_of level) ≡ insert (keys_of level) l t → Adding e i lower (j + 1) new
    adding_more l new within put named h place = record {
      part = record {
        each = subst (All (IsProduct S θ ds e)) (sym put) (all_insert (IsProduct S θ ds e) level l c was.part.each h);
        rises = subst (Falls (turned (mark_order ds))) (sym same) (falls_inserted (turned (mark_order ds)) t (keys_of level) was.part.rises);
        has = λ m q b v w x. keeps (0, m) (was.part.has m q b v w x);
      };
      added = grown new keeps (subst (In t) (sym same) (in_inserted (turned (mark_order ds)) t t (keys_of level) was.part.rises (inl refl)));
    }
      where
        same : keys_of new ≡ inserted (turned (mark_order ds)) t (keys_of level)
        same = ap keys_of put ∙ map_insert key_of level l c ∙ ap (insert (keys_of level) l) named ∙ sym place

        keeps : (s : Key) → In s (keys_of level) → In s (keys_of new)
        keeps s m = subst (In s) (sym same) (in_inserted (turned (mark_order ds)) t s (keys_of level) was.part.rises (inr m))

  -- all of them are added
  pub adding_all : (e d i j : ℕ) (lower level : List (Column E)) → i < length ds → d ≡ get_or ds i 0 → IsLevel S θ ds e lower → length lower ≤ j → Adding (e + d) i lower j level → IsPart S θ ds (e + d) (i + 1) level
  adding_all e d i j lower level inside degree h past was = record { each = was.part.each; rises = was.part.rises; has = λ m q b v w x. go m q (cases_lt q i) b v w x }
    where
      go : (m : Mon) (q : ℕ) → (q < i) ⊎ (i ≤ q) → q < i + 1 → length m.0 ≤ length ds → weight ds 0 m.0 ≡ e + d → Divides (variable q) m → In (0, m) (keys_of level)
      go m q (inl b) c v w x = was.part.has m q b v w x
      go m q (inr b) c v w x = subst (λ u. In (0, u) (keys_of level)) there (was.added (0, x.0) (subst (λ l. In (0, x.0) (keys_of l)) (sym (take_all j lower past)) (h.whole x.0 short light)))
        where
          same : q ≡ i
          same = omega arith

          there : monomials.◌·◌ (variable i) x.0 ≡ m
          there = ap (λ (p : ℕ). monomials.◌·◌ (variable p) x.0) (sym same) ∙ x.1

          short : length x.0.0 ≤ length ds
          short = length_mon (length ds) x.0 (λ r past. let p = exponent_mul (variable q) x.0 r in let z : exponent m.0 r ≡ 0 = exponent_past m.0 r (omega arith) in let s : exponent (monomials.◌·◌ (variable q) x.0).0 r ≡ exponent m.0 r = ap (λ (u : Mon). exponent u.0 r) x.1 in omega arith)

          light : weight ds 0 x.0.0 ≡ e
          light = let a = weight_mul ds (variable i) x.0 in let b = weight_variable ds i inside in let c : weight ds 0 (monomials.◌·◌ (variable i) x.0).0 ≡ weight ds 0 m.0 = ap (λ (u : Mon). weight ds 0 u.0) there in omega arith

  -- a mark of greater degree is in no product
  pub part_skip : (e d i : ℕ) (level : List (Column E)) → i < length ds → d ≡ get_or ds i 0 → e < d → IsPart S θ ds e i level → IsPart S θ ds e (i + 1) level
  part_skip e d i level inside degree less h = record { each = h.each; rises = h.rises; has = λ m q b v w x. go m q (cases_lt q i) b v w x }
    where
      go : (m : Mon) (q : ℕ) → (q < i) ⊎ (i ≤ q) → q < i + 1 → length m.0 ≤ length ds → weight ds 0 m.0 ≡ e → Divides (variable q) m → In (0, m) (keys_of level)
      go m q (inl b) c v w x = h.has m q b v w x
      go m q (inr b) c v w x = absurd (
          let same : q ≡ i = omega arith in
          let a = weight_mul ds (variable q) x.0 in
          let b = weight_variable ds q (omega arith) in
          let c : weight ds 0 (monomials.◌·◌ (variable q) x.0).0 ≡ weight ds 0 m.0 = ap (λ (u : Mon). weight ds 0 u.0) x.1 in
          let f : get_or ds q 0 ≡ get_or ds i 0 = ap (λ n. get_or ds n 0) same in
          omega arith)

  pub part_none : (e : ℕ) (level : List (Column E)) → level ≡ [] → IsPart S θ ds e 0 level
  part_none e level none = record {
    each = subst (All (IsProduct S θ ds e)) (sym none) (All-nil (IsProduct S θ ds e));
    rises = subst (λ l. Falls (turned (mark_order ds)) (keys_of l)) (sym none) tt;
    has = λ m j b v w x. absurd (omega arith);
  }

  -- with all marks they are all products of a degree
  pub part_all : (e i : ℕ) (level : List (Column E)) → 0 < e → length ds ≤ i → IsPart S θ ds e i level → IsLevel S θ ds e level
  part_all e i level positive past h = record {
    each = h.each;
    rises = h.rises;
    whole = λ m v w. let s = some_variable ds 0 m.0 (omega arith) in h.has m s.0 (let l = s.1 in omega arith) v w (divides_variable m s.0 s.2);
  }

  pub level_one : (level : List (Column E)) (c : Column E) → AllPositive ds → level ≡ c ∷ [] → IsProduct S θ ds 0 c → IsLevel S θ ds 0 level
  level_one level c positive one h = record {
    each = subst (All (IsProduct S θ ds 0)) (sym one) (All-cons (IsProduct S θ ds 0) c [] h (All-nil (IsProduct S θ ds 0)));
    rises = subst (λ l. Falls (turned (mark_order ds)) (keys_of l)) (sym one) (λ s i. absurd i, tt);
    whole = λ m v w. subst (λ l. In (0, m) (keys_of l)) (sym one) (inl (key_is m w));
  }
    where
      key_is : (m : Mon) → weight ds 0 m.0 ≡ 0 → key_of c ≡ (0, m)
      key_is m w = ap (λ (q : ℕ). key (q, c.at.mono)) h.position ∙ key_monomial 0 c.at.mono
          ∙ ap (λ (u : Mon). (0, u)) (weight_zero_is_one ds (mono c.at.mono) positive (weight_mono ds c.at.mono ∙ h.degree) ∙ sym (weight_zero_is_one ds m positive w))

  pub one_product_column : (c : Column E) → c.at.pos ≡ 0 → c.at.mono ≡ replicate (length ds) 0 → IsPolyOf S (λ m. m) (one_vector S.field) c.value → IsProduct S θ ds 0 c
  one_product_column c pos at is = record {
    position = pos;
    wide = ap length at ∙ length_zeros (length ds);
    degree = sym (weight_mono ds c.at.mono) ∙ ap (λ (u : Mon). weight ds 0 u.0) (ap mono at ∙ ap (λ (p : ℕ × Mon). p.1) (mono_zeros (length ds))) ∙ weight_one ds;
    low = let t : total c.at.mono ≡ total (replicate (length ds) 0) = ap total at in let z = total_constant (length ds) in omega arith;
    value = subst (λ u. IsImage S 0 u c.value) (sym (sym (monomial_value_mono (vector_ring S.field) θ c.at.mono) ∙ ap (λ (u : Mon). monomial_value (vector_ring S.field) θ u.0) (ap mono at ∙ ap (λ (p : ℕ × Mon). p.1) (mono_zeros (length ds)))
        ∙ monomial_value_one (vector_ring S.field) θ ∙ ring_one S.field)) (one_image S c.value is);
  }

  -- the levels, and one level more
  pub levels_more : (levels : List (List (Column E))) (new : List (Column E)) → AreLevels S θ ds levels → IsLevel S θ ds (length levels) new → AreLevels S θ ds (levels ++ new ∷ [])
  levels_more levels new h g e l = go (cases_lt e (length levels))
    where
      go : (e < length levels) ⊎ (length levels ≤ e) → IsLevel S θ ds e (get_or (levels ++ new ∷ []) e [])
      go (inl b) = subst (IsLevel S θ ds e) (sym (get_or_append_left levels (new ∷ []) [] e b)) (h e b)
      go (inr b) =
          let same : e ≡ length levels = (let n = length-append levels (new ∷ []) in omega arith) in
          subst (λ n. IsLevel S θ ds n (get_or (levels ++ new ∷ []) n [])) (sym same) (subst (IsLevel S θ ds (length levels)) (sym (get_or_push levels new [] (length levels) refl)) g)

  -- the level below, of the i-th mark
  pub record Lower (e i d rest : ℕ) (lower : List (Column E)) : Type 0 where
    pub inside : i < length ds
    pub same : length θ ≡ length ds
    pub degree : d ≡ get_or ds i 0
    pub positive : 1 ≤ d
    pub sum : rest + d ≡ e
    pub small : rest + d ≤ 12288
    pub level : IsLevel S θ ds rest lower

  pub adding_end : (e i d rest j : ℕ) (lower level : List (Column E)) → Lower e i d rest lower → length lower ≤ j → Adding e i lower j level → IsPart S θ ds e (i + 1) level
  adding_end e i d rest j lower level q past was = subst (λ n. IsPart S θ ds n (i + 1) level) q.sum
      (adding_all rest d i j lower level q.inside q.degree q.level past (subst (λ n. Adding n i lower j level) (sym q.sum) was))

  module _ (e i d rest j : ℕ) (lower level : List (Column E)) (q : Lower e i d rest lower) (p : Column E) (inside : j < length lower) (read : p ≡ get_or lower j p) where
    pub lower_product : IsProduct S θ ds rest p
    lower_product = subst (IsProduct S θ ds rest) (sym read) (q.level.each j p inside)

    pub lower_within : Within 4294967295 (list_product p.at.mono (unit_exponents (length ds) i))
    lower_within = mark_within ds i p.at.mono rest d lower_product.low q.small q.positive q.inside lower_product.wide

    pub lower_wide : (a : List ℕ) → a ≡ list_product p.at.mono (unit_exponents (length ds) i) → length a ≡ length ds
    lower_wide a at = ap length at ∙ length_times (length ds) i p.at.mono lower_product.wide

    pub lower_room : (f : Terms) → IsImage S d (listed S.field θ i) f → All (λ x. All (λ y. Within 4294967295 (list_product x.0.1 y.0.1)) (entries (λ m. m) f)) (entries (λ m. m) p.value)
    lower_room f form = times_room q.same rest d i q.inside q.degree q.positive p lower_product f form q.small

    module _ (was : Adding e i lower j level) (c : Column E) (pos : c.at.pos ≡ 0) (at : c.at.mono ≡ list_product p.at.mono (unit_exponents (length ds) i)) where
      named : key_of c ≡ times_key (variable i) (key_of p)
      named = ap₂ (λ (n : ℕ) (a : List ℕ). key (n, a)) pos at ∙ key_times (length ds) i p.at.mono q.inside lower_product.wide
          ∙ ap (λ (n : ℕ). keys.◌·◌ (0, variable i) (key (n, p.at.mono))) (sym lower_product.position) ∙ sym (times_key_product (variable i) (key_of p))

      pub add_same : inserted (turned (mark_order ds)) (key_of c) (keys_of level) ≡ keys_of level → Adding e i lower (j + 1) level
      add_same same = adding_same e i j lower level p c inside read (key_of c) named was same

      pub add_more : (f : Terms) → IsImage S d (listed S.field θ i) f → IsVectorOf S (λ m. m) (product S.field (vector_of S (λ m. m) p.value) (vector_of S (λ m. m) f)) c.value
          → (l : ℕ) (new : List (Column E)) → l ≤ length level → new ≡ insert level l c → inserted (turned (mark_order ds)) (key_of c) (keys_of level) ≡ insert (keys_of level) l (key_of c) → Adding e i lower (j + 1) new
      add_more f form is l new within put place = adding_more e i j lower level p c inside read (key_of c) named was l new within put refl
          (subst (λ n. IsProduct S θ ds n c) q.sum (times_product q.same rest d i q.inside q.degree q.positive p lower_product f form q.small c pos at is)) place

  pub levels_pushed : {A : Type 0} (f : A → List (Column E)) (levels new : List A) (next : A) (e : ℕ) → new ≡ levels ++ next ∷ [] → length levels ≡ e → AreLevels S θ ds (map f levels) → IsLevel S θ ds e (f next)
      → AreLevels S θ ds (map f new) × (length new ≡ e + 1)
  levels_pushed f levels new next e push count h g = (
    subst (AreLevels S θ ds) (sym (ap (map f) push ∙ map-append f levels (next ∷ [])))
        (levels_more (map f levels) (f next) h (subst (λ n. IsLevel S θ ds n (f next)) (sym (length-map levels f ∙ count)) g)),
    ap length push ∙ length-append levels (next ∷ []) ∙ ap (λ n. n + 1) count,
  )
