-- From a list of elements whose leads divide all leads to the reduced basis: keep the minimal leads, reduce the tails, sort.
use Rattle.std.proofs.Common.{◌≡◌, ◌⊎◌, inl, inr, ℕ, List, [], ◌∷◌, map, sym, ◌∙◌, refl, subst}
use Rattle.std.specs.declared.cmp.Ordering.TheVariants.{Less}
use Rattle.alg_core.specs.Fields.{FieldOn}
use Rattle.alg_core.specs.Monomials.{monomials}
use Rattle.alg_core.specs.Keys.{Key, times_key_one, KeyDivides, key_divides_dec}
use Rattle.alg_core.specs.KeyOrders.{OrderOn, Trichotomy, trichotomy, less_transitive}
use Rattle.alg_core.specs.Lists.{In, map_in}
use Rattle.alg_core.specs.Spaces.{SpaceOver}
use Rattle.alg_core.specs.SpaceOrder.{key_order}
use Rattle.alg_core.specs.Vectors.{Vect, zero_vector}
use Rattle.alg_core.proofs.Members.{from_map}
use Rattle.poly_module.proofs.Reduced.{divides_trans}

module _ {E : Type 0} (S : SpaceOver E) where
  abbrev k : FieldOn E
  k = S.field

  abbrev o : OrderOn Key
  o = key_order S

  -- a vector and its lead
  abbrev pub Row : Type 0
  Row = Vect S.field × Key

  -- no key of the list divides another
  abbrev pub NoDivision : List Key → Type 0
  NoDivision [] = Unit {0}
  NoDivision (t ∷ l) = ((s : Key) → In s l → (¬ KeyDivides s t) × (¬ KeyDivides t s)) × NoDivision l

  abbrev pub leads : List Row → List Key
  leads l = map (λ e. e.1) l

  pub itself : (t : Key) → KeyDivides t t
  itself t = (monomials.one, times_key_one t)

  trans : (s t u : Key) → KeyDivides s t → KeyDivides t u → KeyDivides s u
  trans = divides_trans S (λ (i : ℕ). zero_vector k)

  pub same_row : (l : List Row) → NoDivision (leads l) → (e f : Row) → In e l → In f l → KeyDivides f.1 e.1 → f ≡ e
  same_row [] n e f i j d = absurd i
  same_row (x ∷ l) n e f (inl p) (inl q) d = sym q ∙ p
  same_row (x ∷ l) n e f (inl p) (inr j) d = absurd ((n.0 f.1 (map_in (λ g. g.1) f l j)).0 (subst (λ y. KeyDivides f.1 y.1) (sym p) d))
  same_row (x ∷ l) n e f (inr i) (inl q) d = absurd ((n.0 e.1 (map_in (λ g. g.1) e l i)).1 (subst (λ y. KeyDivides y.1 e.1) (sym q) d))
  same_row (x ∷ l) n e f (inr i) (inr j) d = same_row l n.1 e f i j d

  -- the rows whose lead t does not divide
  kept_by : {P : Type 0} → Dec P → Row → List Row → List Row
  kept_by (yes p) e l = l
  kept_by (no n) e l = e ∷ l

  kept : Key → List Row → List Row
  kept t [] = []
  kept t (e ∷ l) = kept_by (key_divides_dec t e.1) e (kept t l)

  in_kept : (t : Key) (l : List Row) (e : Row) → In e l → ¬ KeyDivides t e.1 → In e (kept t l)
  unfolding kept kept_by
  in_kept t [] e i n = absurd i
  in_kept t (x ∷ l) e i n = go (key_divides_dec t x.1) i (λ j. in_kept t l e j n)
    where
      go : (d : Dec (KeyDivides t x.1)) → In e (x ∷ l) → (In e l → In e (kept t l)) → In e (kept_by d x (kept t l))
      go (yes d) (inl p) f = absurd (n (subst (λ y. KeyDivides t y.1) p d))
      go (yes d) (inr j) f = f j
      go (no m) (inl p) f = inl p
      go (no m) (inr j) f = inr (f j)

  from_kept : (t : Key) (l : List Row) (e : Row) → In e (kept t l) → In e l × (¬ KeyDivides t e.1)
  unfolding kept kept_by
  from_kept t [] e i = absurd i
  from_kept t (x ∷ l) e i = go (key_divides_dec t x.1) i (from_kept t l e)
    where
      go : (d : Dec (KeyDivides t x.1)) → In e (kept_by d x (kept t l)) → (In e (kept t l) → In e l × (¬ KeyDivides t e.1)) → In e (x ∷ l) × (¬ KeyDivides t e.1)
      go (yes d) j f = let r = f j in (inr r.0, r.1)
      go (no m) (inl p) f = (inl p, λ d. m (subst (λ y. KeyDivides t y.1) (sym p) d))
      go (no m) (inr j) f = let r = f j in (inr r.0, r.1)

  no_division_kept : (t : Key) (l : List Row) → NoDivision (leads l) → NoDivision (leads (kept t l))
  unfolding kept kept_by
  no_division_kept t [] n = tt
  no_division_kept t (x ∷ l) n = go (key_divides_dec t x.1) (no_division_kept t l n.1)
    where
      go : (d : Dec (KeyDivides t x.1)) → NoDivision (leads (kept t l)) → NoDivision (leads (kept_by d x (kept t l)))
      go (yes d) h = h
      go (no m) h = (λ s i. let e = from_map (λ g. g.1) s (kept t l) i in let r = from_kept t l e.0 e.1 in n.0 s (subst (λ u. In u (leads l)) e.2 (map_in (λ g. g.1) e.0 l r.0)), h)

  some_divides : (l : List Row) (t : Key) → Dec ((f : Row) × In f l × KeyDivides f.1 t)
  some_divides [] t = no (λ r. r.1)
  some_divides (e ∷ l) t = go (key_divides_dec e.1 t) (some_divides l t)
    where
      go : Dec (KeyDivides e.1 t) → Dec ((f : Row) × In f l × KeyDivides f.1 t) → Dec ((f : Row) × In f (e ∷ l) × KeyDivides f.1 t)
      go (yes d) q = yes (e, inl refl, d)
      go (no n) (yes r) = yes (r.0, inr r.1, r.2)
      go (no n) (no m) = no (λ r. at r.0 r.1 r.2)
        where
          at : (f : Row) → In f (e ∷ l) → KeyDivides f.1 t → ⊥
          at f (inl p) d = n (subst (λ y. KeyDivides y.1 t) (sym p) d)
          at f (inr i) d = m (f, i, d)

  -- the rows with minimal leads
  pub record IsMinimal (l m : List Row) : Type 0 where
    pub from : (f : Row) → In f m → In f l
    pub covers : (e : Row) → In e l → (f : Row) × In f m × KeyDivides f.1 e.1
    pub apart : NoDivision (leads m)

  pub minimal : (l : List Row) → (m : List Row) × IsMinimal l m
  minimal [] = ([], record { from = λ f i. absurd i; covers = λ e i. absurd i; apart = tt })
  minimal (e ∷ l) = let r = minimal l in go r.0 r.1 (some_divides r.0 e.1)
    where
      go : (m : List Row) → IsMinimal l m → Dec ((f : Row) × In f m × KeyDivides f.1 e.1) → (m : List Row) × IsMinimal (e ∷ l) m
      go m h (yes d) = (m, record { from = λ f i. inr (h.from f i); covers = covers; apart = h.apart })
        where
          covers : (x : Row) → In x (e ∷ l) → (f : Row) × In f m × KeyDivides f.1 x.1
          covers x (inl p) = (d.0, d.1, subst (λ y. KeyDivides d.0.1 y.1) p d.2)
          covers x (inr i) = h.covers x i
      go m h (no n) = (e ∷ kept e.1 m, record { from = from; covers = covers; apart = (apart, no_division_kept e.1 m h.apart) })
        where
          from : (f : Row) → In f (e ∷ kept e.1 m) → In f (e ∷ l)
          from f (inl p) = inl p
          from f (inr i) = inr (h.from f (from_kept e.1 m f i).0)

          covers : (x : Row) → In x (e ∷ l) → (f : Row) × In f (e ∷ kept e.1 m) × KeyDivides f.1 x.1
          covers x (inl p) = (e, inl refl, subst (λ y. KeyDivides e.1 y.1) p (itself e.1))
          covers x (inr i) = let c = h.covers x i in at c.0 c.1 c.2 (key_divides_dec e.1 c.0.1)
            where
              at : (f : Row) → In f m → KeyDivides f.1 x.1 → Dec (KeyDivides e.1 f.1) → (f : Row) × In f (e ∷ kept e.1 m) × KeyDivides f.1 x.1
              at f j d (yes q) = (e, inl refl, trans e.1 f.1 x.1 q d)
              at f j d (no q) = (f, inr (in_kept e.1 m f j q), d)

          apart : (s : Key) → In s (leads (kept e.1 m)) → (¬ KeyDivides s e.1) × (¬ KeyDivides e.1 s)
          apart s i = let x = from_map (λ g. g.1) s (kept e.1 m) i in let r = from_kept e.1 m x.0 x.1 in
              subst (λ u. (¬ KeyDivides u e.1) × (¬ KeyDivides e.1 u)) x.2 ((λ d. n (x.0, r.0, d)), r.1)

  -- a row at its place among those with falling leads
  abbrev pub Fall : List Row → Type 0
  Fall [] = Unit {0}
  Fall (e ∷ l) = ((f : Row) → In f l → o.compare f.1 e.1 ≡ Less) × Fall l

  inserted_by : (e f : Row) → Trichotomy o e.1 f.1 → List Row → List Row → List Row
  inserted_by e f (inl (inl h)) l r = f ∷ r
  inserted_by e f (inl (inr h)) l r = e ∷ f ∷ l
  inserted_by e f (inr h) l r = e ∷ f ∷ l

  inserted : Row → List Row → List Row
  inserted e [] = e ∷ []
  inserted e (f ∷ l) = inserted_by e f (trichotomy o e.1 f.1) l (inserted e l)

  from_inserted : (e : Row) (l : List Row) (g : Row) → In g (inserted e l) → (e ≡ g) ⊎ In g l
  unfolding inserted inserted_by
  from_inserted e [] g (inl p) = inl p
  from_inserted e [] g (inr i) = absurd i
  from_inserted e (f ∷ l) g i = go (trichotomy o e.1 f.1) i (from_inserted e l g)
    where
      later : (e ≡ g) ⊎ In g l → (e ≡ g) ⊎ In g (f ∷ l)
      later (inl p) = inl p
      later (inr j) = inr (inr j)

      go : (d : Trichotomy o e.1 f.1) → In g (inserted_by e f d l (inserted e l)) → (In g (inserted e l) → (e ≡ g) ⊎ In g l) → (e ≡ g) ⊎ In g (f ∷ l)
      go (inl (inl h)) (inl p) ih = inr (inl p)
      go (inl (inl h)) (inr j) ih = later (ih j)
      go (inl (inr h)) (inl p) ih = inl p
      go (inl (inr h)) (inr j) ih = inr j
      go (inr h) (inl p) ih = inl p
      go (inr h) (inr j) ih = inr j

  in_inserted : (e : Row) (l : List Row) (g : Row) → (e ≡ g) ⊎ In g l → In g (inserted e l)
  unfolding inserted inserted_by
  in_inserted e [] g (inl p) = inl p
  in_inserted e [] g (inr i) = absurd i
  in_inserted e (f ∷ l) g i = go (trichotomy o e.1 f.1) i (in_inserted e l g)
    where
      go : (d : Trichotomy o e.1 f.1) → (e ≡ g) ⊎ In g (f ∷ l) → ((e ≡ g) ⊎ In g l → In g (inserted e l)) → In g (inserted_by e f d l (inserted e l))
      go (inl (inl h)) (inl p) ih = inr (ih (inl p))
      go (inl (inl h)) (inr (inl p)) ih = inl p
      go (inl (inl h)) (inr (inr j)) ih = inr (ih (inr j))
      go (inl (inr h)) (inl p) ih = inl p
      go (inl (inr h)) (inr j) ih = inr j
      go (inr h) (inl p) ih = inl p
      go (inr h) (inr j) ih = inr j

  fall_inserted : (e : Row) (l : List Row) → ((f : Row) → In f l → ¬ (e.1 ≡ f.1)) → Fall l → Fall (inserted e l)
  unfolding inserted inserted_by
  fall_inserted e [] n h = ((λ f i. absurd i), tt)
  fall_inserted e (f ∷ l) n h = go (trichotomy o e.1 f.1) (fall_inserted e l (λ g i. n g (inr i)) h.1)
    where
      go : (d : Trichotomy o e.1 f.1) → Fall (inserted e l) → Fall (inserted_by e f d l (inserted e l))
      go (inl (inl p)) ih = (λ g i. at g (from_inserted e l g i), ih)
        where
          at : (g : Row) → (e ≡ g) ⊎ In g l → o.compare g.1 f.1 ≡ Less
          at g (inl q) = subst (λ y. o.compare y.1 f.1 ≡ Less) q p
          at g (inr i) = h.0 g i
      go (inl (inr p)) ih = absurd (n f (inl refl) p)
      go (inr p) ih = (below, h)
        where
          below : (g : Row) → In g (f ∷ l) → o.compare g.1 e.1 ≡ Less
          below g (inl q) = subst (λ y. o.compare y.1 e.1 ≡ Less) q p
          below g (inr i) = less_transitive o g.1 f.1 e.1 (h.0 g i) p

  pub sorted : List Row → List Row
  sorted [] = []
  sorted (e ∷ l) = inserted e (sorted l)

  pub from_sorted : (l : List Row) (g : Row) → In g (sorted l) → In g l
  unfolding sorted
  from_sorted [] g i = absurd i
  from_sorted (e ∷ l) g i = go (from_inserted e (sorted l) g i) (from_sorted l g)
    where
      go : (e ≡ g) ⊎ In g (sorted l) → (In g (sorted l) → In g l) → In g (e ∷ l)
      go (inl p) f = inl p
      go (inr j) f = inr (f j)

  pub in_sorted : (l : List Row) (g : Row) → In g l → In g (sorted l)
  unfolding sorted
  in_sorted [] g i = absurd i
  in_sorted (e ∷ l) g (inl p) = in_inserted e (sorted l) g (inl p)
  in_sorted (e ∷ l) g (inr i) = in_inserted e (sorted l) g (inr (in_sorted l g i))

  pub fall_sorted : (l : List Row) → NoDivision (leads l) → Fall (sorted l)
  unfolding sorted
  fall_sorted [] n = tt
  fall_sorted (e ∷ l) n = fall_inserted e (sorted l) (λ f i p. (n.0 f.1 (map_in (λ g. g.1) f l (from_sorted l f i))).1 (subst (KeyDivides e.1) p (itself e.1))) (fall_sorted l n.1)
