-- The search for an item of least degree.
use Rattle.std.proofs.Common.{◌≡◌, ◌⊎◌, inl, inr, Some, None, ◌<◌, ◌≤◌, ◌+◌, ℕ, zero, suc, List, [], ◌∷◌, length, get_or, sym, ap, ◌∙◌, refl, subst, arith}
use Rattle.std.specs.Prelude.{Option, IsSome, IfSome}
use native.Mathlib.Decide.{ℕ_discrete}
use Rattle.alg_core.specs.ExponentLists.{lcm}
use Rattle.alg_core.specs.KeyLists.{place_degree}
use Rattle.alg_core.specs.Vectors.{Entry}
use Rattle.module_groebner.specs.declared.completion.Item.{Item}
use Rattle.module_groebner.specs.declared.completion.Item.TheVariants.{Generator, Pair}
use Rattle.module_groebner.specs.declared.completion.Candidate.{Candidate}
use Rattle.module_groebner.specs.Progress.{Progress, lead_place, IsLeast, IsDone, generator_degree, pair_degree}
use Rattle.module_groebner.specs.Items.{first_degree, IsWithin, item_degree, IsCurrent}

module _ {E : Type 0} (c : Progress E) where
  -- the degree is at most that of the first n generators and the first m pairs
  pub record Below (n m d : ℕ) : Type 0 where
    pub generators : (i : ℕ) → i < n → d ≤ generator_degree c (get_or c.generators i [])
    pub pairs : (i : ℕ) → i < m → d ≤ pair_degree c (get_or c.pairs i (0, 0))

  pub record IsBest (n m : ℕ) (r : Candidate) : Type 0 where
    pub within : IsWithin c r.item
    pub degree : item_degree c r.item ≡ r.degree
    pub below : Below n m r.degree

  -- the best of the first n generators and the first m pairs
  pub record Best (n m : ℕ) (best : Option Candidate) : Type 0 where
    pub some : (r : Candidate) → best ≡ Some r → IsBest n m r
    pub none : best ≡ None → (n ≡ 0) × (m ≡ 0)

  some_none : (r : Candidate) → ◌≡◌ {A = Option Candidate} None (Some r) → ⊥
  some_none r e = cc

  pub best_start : (best : Option Candidate) → best ≡ None → Best 0 0 best
  best_start best e = record { some = λ r h. absurd (some_none r (sym e ∙ h)); none = λ z. (refl, refl) }

  below_weaker : (n m d e : ℕ) → e ≤ d → Below n m d → Below n m e
  below_weaker n m d e le b = record { generators = λ i h. let x = b.generators i h in omega arith; pairs = λ i h. let x = b.pairs i h in omega arith }

  below_none : (n m d : ℕ) → n ≡ 0 → m ≡ 0 → Below n m d
  below_none n m d p q = record { generators = λ i h. absurd (omega arith); pairs = λ i h. absurd (omega arith) }

  more_generators : (n m d : ℕ) → Below n m d → d ≤ generator_degree c (get_or c.generators n []) → Below (n + 1) m d
  more_generators n m d b h = record { generators = λ i w. go i w (ℕ_discrete i n); pairs = b.pairs }
    where
      go : (i : ℕ) → i < n + 1 → Dec (i ≡ n) → d ≤ generator_degree c (get_or c.generators i [])
      go i w (yes e) = subst (λ j. d ≤ generator_degree c (get_or c.generators j [])) (sym e) h
      go i w (no n) = b.generators i (omega arith)

  more_pairs : (n m d : ℕ) → Below n m d → d ≤ pair_degree c (get_or c.pairs m (0, 0)) → Below n (m + 1) d
  more_pairs n m d b h = record { generators = b.generators; pairs = λ i w. go i w (ℕ_discrete i m) }
    where
      go : (i : ℕ) → i < m + 1 → Dec (i ≡ m) → d ≤ pair_degree c (get_or c.pairs i (0, 0))
      go i w (yes e) = subst (λ j. d ≤ pair_degree c (get_or c.pairs j (0, 0))) (sym e) h
      go i w (no n) = b.pairs i (omega arith)

  module _ (n m : ℕ) (best next : Option Candidate) (item : Item) (d : ℕ) (b : Best n m best) (within : IsWithin c item) (is : item_degree c item ≡ d)
      (one : IfSome next (λ r. (best ≡ Some r) ⊎ ((r.item ≡ item) × (r.degree ≡ d)))) (new : IfSome next (λ r. r.degree ≤ d)) (old : IfSome next (λ r. IfSome best (λ o. r.degree ≤ o.degree))) where
    -- the next candidate is at most the items before and the new one
    stays : (r : Candidate) → next ≡ Some r → IsWithin c r.item × (item_degree c r.item ≡ r.degree) × Below n m r.degree × (r.degree ≤ d)
    stays r e = go best refl (subst (λ x. IfSome x (λ r. (best ≡ Some r) ⊎ ((r.item ≡ item) × (r.degree ≡ d)))) e one)
      where
        le : r.degree ≤ d
        le = subst (λ x. IfSome x (λ r. r.degree ≤ d)) e new

        below : (x : Option Candidate) → best ≡ x → IfSome x (λ o. r.degree ≤ o.degree) → Below n m r.degree
        below None h w = below_none n m r.degree (b.none h).0 (b.none h).1
        below (Some o) h w = below_weaker n m o.degree r.degree w (b.some o h).below

        is_below : Below n m r.degree
        is_below = below best refl (subst (λ x. IfSome x (λ r. IfSome best (λ o. r.degree ≤ o.degree))) e old)

        go : (x : Option Candidate) → best ≡ x → (best ≡ Some r) ⊎ ((r.item ≡ item) × (r.degree ≡ d)) → IsWithin c r.item × (item_degree c r.item ≡ r.degree) × Below n m r.degree × (r.degree ≤ d)
        go x h (inl p) = ((b.some r p).within, (b.some r p).degree, is_below, le)
        go x h (inr p) = (subst (IsWithin c) (sym p.0) within, ap (item_degree c) p.0 ∙ is ∙ sym p.1, is_below, le)

  not_none : (next : Option Candidate) → IsSome next → next ≡ None → ⊥
  not_none None s e = grind arith
  not_none (Some r) s e = cc

  pub best_generator : (n : ℕ) (best next : Option Candidate) (d : ℕ) → Best n 0 best → n < length c.generators → d ≡ generator_degree c (get_or c.generators n []) → IsSome next
      → IfSome next (λ r. (best ≡ Some r) ⊎ ((r.item ≡ Generator n) × (r.degree ≡ d))) → IfSome next (λ r. r.degree ≤ d) → IfSome next (λ r. IfSome best (λ o. r.degree ≤ o.degree)) → Best (n + 1) 0 next
  best_generator n best next d b h is s one new old = record {
    some = λ r e. let x = stays n 0 best next (Generator n) d b h (sym is) one new old r e in
        record { within = x.0; degree = x.1; below = more_generators n 0 r.degree x.2 (subst (λ y. r.degree ≤ y) is x.3) };
    none = λ e. absurd (not_none next s e);
  }

  pub best_pair : (n m : ℕ) (best next : Option Candidate) (d : ℕ) → Best n m best → m < length c.pairs → d ≡ pair_degree c (get_or c.pairs m (0, 0)) → IsSome next
      → IfSome next (λ r. (best ≡ Some r) ⊎ ((r.item ≡ Pair m) × (r.degree ≡ d))) → IfSome next (λ r. r.degree ≤ d) → IfSome next (λ r. IfSome best (λ o. r.degree ≤ o.degree)) → Best n (m + 1) next
  best_pair n m best next d b h is s one new old = record {
    some = λ r e. let x = stays n m best next (Pair m) d b h (sym is) one new old r e in
        record { within = x.0; degree = x.1; below = more_pairs n m r.degree x.2 (subst (λ y. r.degree ≤ y) is x.3) };
    none = λ e. absurd (not_none next s e);
  }

  -- where all were compared
  pub best_is_current : (n m : ℕ) (best : Option Candidate) (r : Candidate) → length c.generators ≤ n → length c.pairs ≤ m → Best n m best → best ≡ Some r → IsCurrent c r.item
  best_is_current n m best r hn hm b e =
      let x = b.some r e in
      record {
        within = x.within;
        least = subst (IsLeast c) (sym x.degree) (record {
          generators = λ i d w. subst (λ es. r.degree ≤ generator_degree c es) (same c.generators i [] d w) (x.below.generators i (omega arith));
          pairs = λ i d w. subst (λ p. r.degree ≤ pair_degree c p) (same c.pairs i (0, 0) d w) (x.below.pairs i (omega arith));
        });
      }
    where
      same : {A : Type 0} (xs : List A) (i : ℕ) (d f : A) → i < length xs → get_or xs i d ≡ get_or xs i f
      same [] i d f h = absurd (omega arith)
      same (y ∷ xs) zero d f h = refl
      same (y ∷ xs) (suc i) d f h = same xs i d f (omega arith)

  pub current_not_done : (i : Item) → IsCurrent c i → ¬ IsDone c
  current_not_done i h d = go i h.within
    where
      go : (i : Item) → IsWithin c i → ⊥
      go (Generator i) w = let e = ap length d.generators in omega arith
      go (Pair i) w = let e = ap length d.pairs in omega arith

  pub best_none_done : (n m : ℕ) (best : Option Candidate) → length c.generators ≤ n → length c.pairs ≤ m → Best n m best → best ≡ None → IsDone c
  best_none_done n m best hn hm b e = record { generators = empty c.generators (let x = (b.none e).0 in omega arith); pairs = empty c.pairs (let x = (b.none e).1 in omega arith) }
    where
      empty : {A : Type 0} (xs : List A) → length xs ≤ 0 → xs ≡ []
      empty [] h = refl
      empty (x ∷ xs) h = absurd (omega arith)

  -- the degrees that the search computes
  pub generator_degree_is : (ws ss : List ℕ) → c.weights ≡ ws → c.shifts ≡ ss → (es : List (Entry E)) → first_degree ws ss es ≡ generator_degree c es
  generator_degree_is ws ss p q [] = refl
  generator_degree_is ws ss p q (e ∷ es) = ap (λ l. place_degree l ss e.0) (sym p) ∙ ap (λ l. place_degree c.weights l e.0) (sym q)

  pub pair_degree_is : (ws ss : List ℕ) → c.weights ≡ ws → c.shifts ≡ ss → (p : ℕ × ℕ) (x y : List (Entry E)) → get_or c.members p.0 [] ≡ x → get_or c.members p.1 [] ≡ y
      → place_degree ws ss ((lead_place x).0, lcm (lead_place x).1 (lead_place y).1) ≡ pair_degree c p
  unfolding pair_degree
  pair_degree_is ws ss pw ps p x y ex ey =
      ap (λ l. place_degree l ss ((lead_place x).0, lcm (lead_place x).1 (lead_place y).1)) (sym pw)
      ∙ ap (λ l. place_degree c.weights l ((lead_place x).0, lcm (lead_place x).1 (lead_place y).1)) (sym ps)
      ∙ ap (λ z. place_degree c.weights c.shifts ((lead_place z).0, lcm (lead_place z).1 (lead_place y).1)) (sym ex)
      ∙ ap (λ z. place_degree c.weights c.shifts ((lead_place (get_or c.members p.0 [])).0, lcm (lead_place (get_or c.members p.0 [])).1 (lead_place z).1)) (sym ey)
