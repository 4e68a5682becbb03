-- What is said of a module by its generators depends on the module alone; what the loop over a completion keeps.
use Rattle.std.proofs.Common.{◌≡◌, ◌∙◌, ℕ, List, subst}
use Rattle.alg_core.specs.Fields.{FieldOn}
use Rattle.alg_core.specs.Keys.{Key}
use Rattle.alg_core.specs.Vectors.{Vect}
use Rattle.alg_core.specs.Spaces.{SpaceOver}
use Rattle.poly_module.specs.Modules.{InModule}
use Rattle.poly_module.specs.ReducedLists.{IsReducedBasis}
use Rattle.poly_module.specs.Caps.{IsAboveCap}
use Rattle.module_groebner.specs.declared.bound.BasisBound.{BasisBound}
use Rattle.module_groebner.specs.declared.bound.Which.{Which}
use Rattle.module_groebner.specs.declared.bound.Which.TheVariants.{Ideal}
use Rattle.module_groebner.specs.HomogeneousLists.{AreHomogeneousUpTo}
use Rattle.module_groebner.specs.BasisBounds.{NothingAbove, IsBasisBound}
use Rattle.module_groebner.specs.Progress.{Progress}
use Rattle.module_groebner.specs.Completions.{SameModule, StandsOver, generated, Extends, IsOver}

same_after : {E : Type 0} (k : FieldOn E) (f g h : ℕ → Vect k) → SameModule k f g → SameModule k g h → SameModule k f h
same_after k f g h a b v = (λ i. (b v).0 ((a v).0 i), λ i. (a v).1 ((b v).1 i))

module _ {E : Type 0} (S : SpaceOver E) (g h : ℕ → Vect S.field) (same : SameModule S.field g h) where
  above_same : (cap : ℕ) (v : Vect S.field) (t : Key) → IsAboveCap S (InModule S.field g) cap v t → IsAboveCap S (InModule S.field h) cap v t
  above_same cap v t a = record { inside = (same v).0 a.inside; lead = a.lead; homogeneous = a.homogeneous; over = a.over; new = λ w s i. a.new w s ((same w).1 i) }

  above_back : (cap : ℕ) (v : Vect S.field) (t : Key) → IsAboveCap S (InModule S.field h) cap v t → IsAboveCap S (InModule S.field g) cap v t
  above_back cap v t a = record { inside = (same v).1 a.inside; lead = a.lead; homogeneous = a.homogeneous; over = a.over; new = λ w s i. a.new w s ((same w).0 i) }

  pub nothing_back : (cap : ℕ) → NothingAbove S (InModule S.field h) cap → NothingAbove S (InModule S.field g) cap
  nothing_back cap n v t a = n v t (above_same cap v t a)

  pub bound_back : (cap : ℕ) (w : Which) (b : BasisBound E) → IsBasisBound S (InModule S.field h) cap w b → IsBasisBound S (InModule S.field g) cap w b
  bound_back cap w b i = record { fits = i.fits; lead = i.lead; above = above_back cap _ _ i.above; reached = i.reached; least = λ v t a. i.least v t (above_same cap v t a); which = i.which }

  pub reduced_back : (vs : List (Vect S.field)) → IsReducedBasis S h vs → IsReducedBasis S g vs
  reduced_back vs r = record {
    reduced = record {
      inside = λ v i. (same v).1 (r.reduced.inside v i);
      lead = r.reduced.lead;
      monic = r.reduced.monic;
      covers = λ v t u. r.reduced.covers v t ((same v).0 u);
      apart = r.reduced.apart;
      falling = r.reduced.falling;
    };
    generates = λ v i. r.generates v ((same v).0 i);
  }

-- what the loop keeps
pub record Goes {E : Type 0} (S : SpaceOver E) (g : ℕ → Vect S.field) (cap : ℕ) (c : Progress E) : Type 0 where
  pub stands : StandsOver S c
  pub kept : c.cap ≡ cap
  pub same : SameModule S.field g (generated S c)

module _ {E : Type 0} (S : SpaceOver E) (g : ℕ → Vect S.field) (cap : ℕ) (c : Progress E) (goes : Goes S g cap c) where
  pub over_back : (b : BasisBound E) → IsOver S c b → IsBasisBound S (InModule S.field g) cap Ideal b
  over_back b o = subst (λ n. IsBasisBound S (InModule S.field g) n Ideal b) goes.kept (bound_back S g (generated S c) goes.same c.cap Ideal b o.bound)

  pub goes_on : (d : Progress E) → StandsOver S d → Extends S c d → Goes S g cap d
  goes_on d s e = record { stands = s; kept = e.cap ∙ goes.kept; same = same_after S.field g (generated S c) (generated S d) goes.same e.same }

  pub reduced_at_end : (vs : List (Vect S.field)) → IsReducedBasis S (generated S c) vs → IsReducedBasis S g vs
  reduced_at_end = reduced_back S g (generated S c) goes.same

  pub homogeneous_at_end : (vs : List (Vect S.field)) → AreHomogeneousUpTo S c.cap vs → AreHomogeneousUpTo S cap vs
  homogeneous_at_end vs h = subst (λ n. AreHomogeneousUpTo S n vs) goes.kept h

  pub nothing_at_end : NothingAbove S (InModule S.field (generated S c)) c.cap → NothingAbove S (InModule S.field g) cap
  nothing_at_end n = nothing_back S g (generated S c) goes.same cap (subst (NothingAbove S (InModule S.field (generated S c))) goes.kept n)
