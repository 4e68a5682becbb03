-- The ends of a search, put together: any two are alike, and they ask of the matrices for echelon bases alone.
use Rattle.std.proofs.Common.{◌≡◌, ◌∙◌, inl, inr, ℕ, zero, suc, List, sym}
use Rattle.std.specs.Prelude.{◌⊎◌}
use Rattle.alg_core.specs.Fields.{FieldOn}
use Rattle.alg_core.specs.Spaces.{SpaceOver}
use Rattle.alg_core.specs.Vectors.{Vect}
use Rattle.alg_core.specs.declared.limits.Limits.{Limits}
use Rattle.lin_algebra.specs.declared.matrix.Matrix.{Matrix}
use Rattle.invariant_space.specs.InvariantSpaces.{IsEchelonBasis}
use Rattle.module_groebner.specs.declared.bound.BasisBound.{BasisBound}
use Rattle.primary_search.specs.Searches.{PassesDegrees, ComesTo, IsNoPrimary, IsTermBound, IsColonStop, IsIdealStop, IsEnd}
use Rattle.primary_search.proofs.EndLaws.{ends_alone, lacks_alone, terms_alone, colon_alone, one_end, one_lack, one_degree, one_colon, one_ideal}

-- the end of a search over the field k
pub data Ending {E : Type 0} (k : FieldOn E) : Type 0 where
  Found : List (Vect k) → Ending k
  TookUpTo : List (Vect k) → ℕ → Ending k
  TooManyTerms : ℕ → ℕ → Ending k
  AboveCap : BasisBound E → Ending k

abbrev pub EndsAs : {E : Type 0} (S : SpaceOver E) → List (Matrix E) → Limits → Ending S.field → Type 0
EndsAs S gens l (Found θ) = IsEnd S gens l θ
EndsAs S gens l (TookUpTo found d) = IsNoPrimary S gens l found d
EndsAs S gens l (TooManyTerms d count) = IsTermBound S gens l d count
EndsAs S gens l (AboveCap b) = IsColonStop S gens l b ⊎ IsIdealStop S gens l b

abbrev pub AreAlike : {E : Type 0} (k : FieldOn E) → Ending k → Ending k → Type 0
AreAlike k (Found θ) (Found η) = θ ≡ η
AreAlike k (Found θ) (TookUpTo found d) = ⊥
AreAlike k (Found θ) (TooManyTerms d count) = ⊥
AreAlike k (Found θ) (AboveCap b) = ⊥
AreAlike k (TookUpTo found d) (Found θ) = ⊥
AreAlike k (TookUpTo found d) (TookUpTo others e) = (found ≡ others) × (d ≡ e)
AreAlike k (TookUpTo found d) (TooManyTerms e count) = ⊥
AreAlike k (TookUpTo found d) (AboveCap b) = ⊥
AreAlike k (TooManyTerms d count) (Found θ) = ⊥
AreAlike k (TooManyTerms d count) (TookUpTo found e) = ⊥
AreAlike k (TooManyTerms d count) (TooManyTerms e number) = (d ≡ e) × (count ≡ number)
AreAlike k (TooManyTerms d count) (AboveCap b) = ⊥
AreAlike k (AboveCap b) (Found θ) = ⊥
AreAlike k (AboveCap b) (TookUpTo found d) = ⊥
AreAlike k (AboveCap b) (TooManyTerms d count) = ⊥
AreAlike k (AboveCap b) (AboveCap c) = (b.which ≡ c.which) × (b.degree ≡ c.degree)

module _ {E : Type 0} (S : SpaceOver E) (gens : List (Matrix E)) (l : Limits) where
  found-lack : (θ T : List (Vect S.field)) (d : ℕ) → IsEnd S gens l θ → IsNoPrimary S gens l T d → ⊥
  found-lack θ T d a b = ends_alone S gens l (θ, a) (inl (T, d, b))

  found-terms : (θ : List (Vect S.field)) (d m : ℕ) → IsEnd S gens l θ → IsTermBound S gens l d m → ⊥
  found-terms θ d m a b = ends_alone S gens l (θ, a) (inr (inl (d, m, b)))

  found-above : (θ : List (Vect S.field)) (x : BasisBound E) → IsEnd S gens l θ → IsColonStop S gens l x ⊎ IsIdealStop S gens l x → ⊥
  found-above θ x a (inl b) = ends_alone S gens l (θ, a) (inr (inr (inl (x, b))))
  found-above θ x a (inr b) = ends_alone S gens l (θ, a) (inr (inr (inr (x, b))))

  lack-terms : (T : List (Vect S.field)) (d e m : ℕ) → IsNoPrimary S gens l T d → IsTermBound S gens l e m → ⊥
  lack-terms T d e m a b = lacks_alone S gens l (T, d, a) (inl (e, m, b))

  lack-above : (T : List (Vect S.field)) (d : ℕ) (x : BasisBound E) → IsNoPrimary S gens l T d → IsColonStop S gens l x ⊎ IsIdealStop S gens l x → ⊥
  lack-above T d x a (inl b) = lacks_alone S gens l (T, d, a) (inr (inl (x, b)))
  lack-above T d x a (inr b) = lacks_alone S gens l (T, d, a) (inr (inr (x, b)))

  terms-above : (d m : ℕ) (x : BasisBound E) → IsTermBound S gens l d m → IsColonStop S gens l x ⊎ IsIdealStop S gens l x → ⊥
  terms-above d m x a (inl b) = terms_alone S gens l (d, m, a) (inl (x, b))
  terms-above d m x a (inr b) = terms_alone S gens l (d, m, a) (inr (x, b))

  above-one : (x y : BasisBound E) → IsColonStop S gens l x ⊎ IsIdealStop S gens l x → IsColonStop S gens l y ⊎ IsIdealStop S gens l y → (x.which ≡ y.which) × (x.degree ≡ y.degree)
  above-one x y (inl a) (inl b) = (a.bound.2.which ∙ sym b.bound.2.which, one_colon S gens l x y a b)
  above-one x y (inl a) (inr b) = absurd (colon_alone S gens l (x, a) (y, b))
  above-one x y (inr a) (inl b) = absurd (colon_alone S gens l (y, b) (x, a))
  above-one x y (inr a) (inr b) = (a.bound.which ∙ sym b.bound.which, one_ideal S gens l x y a b)

  pub ending-one : (e f : Ending S.field) → EndsAs S gens l e → EndsAs S gens l f → AreAlike S.field e f
  ending-one (Found θ) (Found η) a b = one_end S gens l θ η a b
  ending-one (Found θ) (TookUpTo found d) a b = found-lack θ found d a b
  ending-one (Found θ) (TooManyTerms d count) a b = found-terms θ d count a b
  ending-one (Found θ) (AboveCap x) a b = found-above θ x a b
  ending-one (TookUpTo found d) (Found θ) a b = found-lack θ found d b a
  ending-one (TookUpTo found d) (TookUpTo others e) a b = one_lack S gens l found others d e a b
  ending-one (TookUpTo found d) (TooManyTerms e count) a b = lack-terms found d e count a b
  ending-one (TookUpTo found d) (AboveCap x) a b = lack-above found d x a b
  ending-one (TooManyTerms d count) (Found θ) a b = found-terms θ d count b a
  ending-one (TooManyTerms d count) (TookUpTo found e) a b = lack-terms found e d count b a
  ending-one (TooManyTerms d count) (TooManyTerms e number) a b = one_degree S gens l d e count number a b
  ending-one (TooManyTerms d count) (AboveCap x) a b = terms-above d count x a b
  ending-one (AboveCap x) (Found θ) a b = found-above θ x b a
  ending-one (AboveCap x) (TookUpTo found d) a b = lack-above found d x b a
  ending-one (AboveCap x) (TooManyTerms d count) a b = terms-above d count x b a
  ending-one (AboveCap x) (AboveCap y) a b = above-one x y a b

module _ {E : Type 0} (S : SpaceOver E) (gens others : List (Matrix E)) (l : Limits) (same : (d : ℕ) (bs : List (Vect S.field)) → IsEchelonBasis S gens d bs → IsEchelonBasis S others d bs) where
  walked-by : (d : ℕ) (T : List (Vect S.field)) → PassesDegrees S gens l d T → PassesDegrees S others l d T
  walked-by zero T p = p
  walked-by (suc d) T p = (p.0, p.1, walked-by d p.0 p.2, p.3, same (suc d) p.1 p.4, p.5)

  comes-by : (T : List (Vect S.field)) (c : Vect S.field) → ComesTo S gens l T c → ComesTo S others l T c
  comes-by T c a = record {
    degree = a.degree;
    before = a.before;
    basis = a.basis;
    within = a.within;
    passed = walked-by a.degree a.before a.passed;
    terms = a.terms;
    echelon = same (suc a.degree) a.basis a.echelon;
    reaches = a.reaches;
  }

  pub ends-by : (e : Ending S.field) → EndsAs S gens l e → EndsAs S others l e
  ends-by (Found θ) a = record { taken = a.taken; candidate = a.candidate; comes = comes-by a.taken a.candidate a.comes; takes = a.takes; ideal = a.ideal; whole = a.whole; ended = a.ended }
  ends-by (TookUpTo found d) a = record { passed = walked-by d found a.passed; unfinished = a.unfinished; degree = a.degree }
  ends-by (TooManyTerms d count) a = record {
    found = a.found;
    before = a.before;
    next = a.next;
    within = a.within;
    passed = walked-by a.before a.found a.passed;
    counted = a.counted;
    over = a.over;
  }
  ends-by (AboveCap b) (inl a) = inl (record { taken = a.taken; candidate = a.candidate; comes = comes-by a.taken a.candidate a.comes; bound = a.bound })
  ends-by (AboveCap b) (inr a) = inr (record { taken = a.taken; candidate = a.candidate; comes = comes-by a.taken a.candidate a.comes; takes = a.takes; bound = a.bound })
