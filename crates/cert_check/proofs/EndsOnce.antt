-- A check ends in one way.
use Rattle.std.proofs.Common.{◌≡◌, ◌⊎◌, ℕ, ◌+◌, ◌<◌, List, inl, inr, refl, sym, ap, ap₂, arith}
use Rattle.std.proofs.lemmas.Bool.{cases_order}
use Rattle.alg_core.specs.Fields.{FieldOn}
use Rattle.alg_core.specs.declared.limits.Limits.{Limits}
use Rattle.lin_algebra.specs.declared.matrix.Matrix.{Matrix}
use Rattle.matrix_group.specs.Groups.{cells_of}
use Rattle.matrix_group.proofs.OrderLaws.{over_order}
use Rattle.certificate_io.specs.Certificates.{CertificateOf}
use Rattle.cert_check.specs.Conditions.{Condition, number}
use Rattle.cert_check.specs.Ends.{End, Accepts, Fails, Stops, IsEnd}
use Rattle.cert_check.specs.Parts.{size, primaries}
use Rattle.cert_check.specs.Work as work
use Rattle.cert_check.specs.Work.{Point, IsBefore, Stop, GroupStop, RankStop, TermStop, stop_point, Keeps, Exceeds}
use Rattle.cert_check.proofs.RisingLists.{over_not_few}
use Rattle.cert_check.proofs.WorkSteps.{one_number}

-- of two points one comes before the other, or they are one
order-of : (p q : Point) → IsBefore p q ⊎ ((p ≡ q) ⊎ IsBefore q p)
order-of p q = by-number (cases_order (number p.0) (number q.0))
  where
    by-item : number p.0 ≡ number q.0 → (p.1 ≡ q.1) ⊎ ((p.1 < q.1) ⊎ (q.1 < p.1)) → IsBefore p q ⊎ ((p ≡ q) ⊎ IsBefore q p)
    by-item e (inl same) = inr (inl (ap₂ (λ (a : Condition) (i : ℕ). (a, i)) (one_number p.0 q.0 e) same))
    by-item e (inr (inl less)) = inl (inr (e, less))
    by-item e (inr (inr more)) = inr (inr (inr (sym e, more)))

    by-number : (number p.0 ≡ number q.0) ⊎ ((number p.0 < number q.0) ⊎ (number q.0 < number p.0)) → IsBefore p q ⊎ ((p ≡ q) ⊎ IsBefore q p)
    by-number (inl e) = by-item e (cases_order p.1 q.1)
    by-number (inr (inl less)) = inl (inl less)
    by-number (inr (inr more)) = inr (inr (inl more))

-- a point comes before one item further
before-next : (p : Point) (a : Condition) (i : ℕ) → ◌≡◌ {A = Point} p (a, i) → IsBefore p (a, i + 1)
before-next p a i e = inr (ap (λ (q : Point). number q.0) e, let same : p.1 ≡ i = ap (λ (q : Point). q.1) e in omega arith)

before-further : (p : Point) (a : Condition) (i : ℕ) → IsBefore p (a, i) → IsBefore p (a, i + 1)
before-further p a i (inl less) = inl less
before-further p a i (inr (e, less)) = inr (e, omega (arith, less))

module _ (k : FieldOn ℕ) (gens : List (Matrix ℕ)) (c : CertificateOf ℕ) (l : Limits) where
  -- a limit is kept or exceeded, not both
  apart : (s : Stop) → Keeps k gens c l s → Exceeds k gens c l s → ⊥
  apart GroupStop h g = let over = over_order k (size c) (cells_of gens) h.0 l.max_order h.1 g in let few = h.2 in omega arith
  apart RankStop h g = over_not_few k (size c) (primaries k c) h.0 l.max_rank h.1 g h.2
  apart TermStop h g = h g.1.place g.1.past

  abbrev point : Stop → Point
  point s = stop_point gens c s

  -- limits that are looked at at one item are one
  one-stop : (s t : Stop) → point s ≡ point t → s ≡ t
  one-stop GroupStop GroupStop e = refl
  one-stop GroupStop RankStop e = let n = ap (λ (p : Point). number p.0) e in absurd (omega (arith, n))
  one-stop GroupStop TermStop e = let n = ap (λ (p : Point). number p.0) e in absurd (omega (arith, n))
  one-stop RankStop GroupStop e = let n = ap (λ (p : Point). number p.0) e in absurd (omega (arith, n))
  one-stop RankStop RankStop e = refl
  one-stop RankStop TermStop e = let n = ap (λ (p : Point). number p.0) e in absurd (omega (arith, n))
  one-stop TermStop GroupStop e = let n = ap (λ (p : Point). number p.0) e in absurd (omega (arith, n))
  one-stop TermStop RankStop e = let n = ap (λ (p : Point). number p.0) e in absurd (omega (arith, n))
  one-stop TermStop TermStop e = refl

  fails-one : (a b : Condition) (i j : ℕ) → work.Fails k gens c l a i → work.Fails k gens c l b j → Fails a i ≡ Fails b j
  fails-one a b i j h g = go (order-of (a, i) (b, j))
    where
      go : IsBefore (a, i) (b, j) ⊎ ((◌≡◌ {A = Point} (a, i) (b, j)) ⊎ IsBefore (b, j) (a, i)) → Fails a i ≡ Fails b j
      go (inl before) = absurd (h.fails (g.met a i before))
      go (inr (inl e)) = ap (λ (p : Point). Fails p.0 p.1) e
      go (inr (inr before)) = absurd (g.fails (h.met b j before))

  stops-one : (s t : Stop) → work.Stops k gens c l s → work.Stops k gens c l t → s ≡ t
  stops-one s t h g = go (order-of (point s) (point t))
    where
      go : IsBefore (point s) (point t) ⊎ ((point s ≡ point t) ⊎ IsBefore (point t) (point s)) → s ≡ t
      go (inl before) = absurd (apart s (g.kept s before) h.exceeded)
      go (inr (inl e)) = one-stop s t e
      go (inr (inr before)) = absurd (apart t (h.kept t before) g.exceeded)

  fails-not-stops : (a : Condition) (i : ℕ) (s : Stop) → work.Fails k gens c l a i → work.Stops k gens c l s → ⊥
  fails-not-stops a i s h g = go (order-of (point s) (a, i))
    where
      go : IsBefore (point s) (a, i) ⊎ ((◌≡◌ {A = Point} (point s) (a, i)) ⊎ IsBefore (a, i) (point s)) → ⊥
      go (inl before) = apart s (h.kept s (before-further (point s) a i before)) g.exceeded
      go (inr (inl e)) = apart s (h.kept s (before-next (point s) a i e)) g.exceeded
      go (inr (inr before)) = h.fails (g.met a i before)

  pub ends_once : (e f : End) → IsEnd k gens c l e → IsEnd k gens c l f → e ≡ f
  ends_once Accepts Accepts h g = refl
  ends_once Accepts (Fails b j) h g = absurd (g.fails (h.holds b j))
  ends_once Accepts (Stops t) h g = absurd (apart t (h.kept t) g.exceeded)
  ends_once (Fails a i) Accepts h g = absurd (h.fails (g.holds a i))
  ends_once (Fails a i) (Fails b j) h g = fails-one a b i j h g
  ends_once (Fails a i) (Stops t) h g = absurd (fails-not-stops a i t h g)
  ends_once (Stops s) Accepts h g = absurd (apart s (g.kept s) h.exceeded)
  ends_once (Stops s) (Fails b j) h g = absurd (fails-not-stops b j s g h)
  ends_once (Stops s) (Stops t) h g = ap Stops (stops-one s t h g)
