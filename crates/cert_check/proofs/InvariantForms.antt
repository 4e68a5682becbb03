-- The conditions on primary and secondary invariants, by a test of each of them.
use Rattle.std.proofs.Common.{◌≡◌, ℕ, zero, suc, List, length, map, replicate, get_or, refl, sym, ap, subst, arith}
use Rattle.std.specs.Prelude.{All, Some, slice_get}
use Rattle.alg_core.specs.BlockOrder.{length_ones}
use Rattle.alg_core.specs.Fields.{FieldOn}
use Rattle.alg_core.specs.PolynomialSpaces.{plain_space}
use Rattle.alg_core.specs.SpaceGrading.{AllPositive, height}
use Rattle.alg_core.specs.Spaces.{SpaceOver}
use Rattle.alg_core.specs.Vectors.{Vect}
use Rattle.alg_core.specs.declared.limits.Limits.{Limits}
use Rattle.alg_core.specs.declared.term.Term.{Term}
use Rattle.poly_module.specs.Forms.{form_homogeneous, homogeneous_form}
use Rattle.poly_module.specs.Parts.{IsPolynomial}
use Rattle.poly_module.specs.SpaceVectors.{IsPoly, vector_of}
use Rattle.poly_module.proofs.SpaceVectorLaws.{is_polynomial}
use Rattle.lin_algebra.specs.declared.matrix.Matrix.{Matrix}
use Rattle.matrix_group.specs.Actions.{ActsOn, IsSquare, Invariant}
use Rattle.irreducible_gens.specs.Irreducibles.{IsOfPositiveDegree}
use Rattle.certificate_io.specs.Certificates.{CertificateOf}
use Rattle.cert_check.specs.Conditions.{Condition, Primaries, Lifts, Secondaries, Evidence, number, Meets, IsNonzeroForm}
use Rattle.cert_check.specs.Endings.{IsGiven, IsFirstFailing, IsTold}
use Rattle.cert_check.specs.FormTests.{IsFormFrom, IsInvariantFrom}
use Rattle.cert_check.specs.Parts.{At, size, ones, polynomial}
use Rattle.cert_check.specs.WellFormed.{plain}
use Rattle.cert_check.specs.Work.{Reached}
use Rattle.cert_check.specs.declared.ending.Ending.TheVariants.{Rejected}
use Rattle.cert_check.proofs.CheckedLast.{rejected}
use Rattle.cert_check.proofs.GivenParts.{given_square, given_well}
use Rattle.cert_check.proofs.Items.{at_back}
use Rattle.cert_check.proofs.MadePlaces.{place_map, place_read, place_within}
use Rattle.cert_check.proofs.WorkSteps.{plain_fails, primaries_passed, secondaries_passed}
use Rattle.cert_check.proofs.WordItems.{Item}

abbrev Terms : Type 0
Terms = List (Term ℕ (List ℕ))

-- what holds of the members, for what they stand for
module _ {A B : Type 0} (f : A → B) (xs : List A) (P Q : A → Type 0) (R : B → Type 0) (known : All P xs) where
  known-at : (j : ℕ) (x : A) → slice_get xs j ≡ Some x → P x
  known-at j x e = subst P (place_read x xs j x e) (known j x (place_within xs j x e))

  pub items_up : ((x : A) → P x → Q x → R (f x)) → (i : ℕ) → Item Q xs i → (y : B) → At (map f xs) i y → R y
  items_up turn i h y at = let r = at_back f xs i y at in let a = r.1 in subst R r.2 (turn r.0 (known-at a.0 r.0 a.2) (h r.0 a))

  pub items_down : ((x : A) → P x → R (f x) → Q x) → (i : ℕ) → ((y : B) → At (map f xs) i y → R y) → Item Q xs i
  items_down turn i h x at = turn x (known-at at.0 x at.2) (h (f x) (at.0, at.1, place_map f xs at.0 x at.2))

-- the first that fails is told
module _ (S : SpaceOver ℕ) (gens : List (Matrix ℕ)) (c : CertificateOf ℕ) (l : Limits) (given : IsGiven S gens c) (a : Condition) where
  pub first_told : ¬ (number a ≡ 1) → ¬ (number a ≡ 6) → ¬ (number a ≡ 9) → (P : ℕ → Type 0) → ((j : ℕ) → P j → Meets S.field gens c a j)
      → ((j : ℕ) → Meets S.field gens c a j → P j) → Reached S.field gens c l (a, 0) → (i : ℕ) → IsFirstFailing P (Some i) → IsTold c l (Rejected (number a) i)
  first_told one six nine P up down r i h =
      rejected S gens c l a i given (plain_fails S.field gens c l a i one six nine r (λ j b. up j (h.0 j b)) (λ m. h.1 (down i m)))

module _ (k : FieldOn ℕ) (n : ℕ) where
  pub ones_positive : (m : ℕ) → AllPositive (replicate m 1)
  ones_positive zero = tt
  ones_positive (suc m) = (omega arith, ones_positive m)

  module _ (v : Vect k) where
    positive-up : IsPolynomial k v → IsFormFrom (plain_space k n) 1 v → IsOfPositiveDegree k (replicate n 1) v
    unfolding height
    positive-up p h = let low = h.from in record { degree = h.degree; positive = omega (arith, low); form = homogeneous_form (plain_space k n) refl h.degree v p h.homogeneous; not_zero = h.not_zero }

    positive-down : IsOfPositiveDegree k (replicate n 1) v → IsFormFrom (plain_space k n) 1 v
    unfolding height
    positive-down h = let low = h.positive in record { not_zero = h.not_zero; degree = h.degree; from = omega (arith, low); homogeneous = form_homogeneous (plain_space k n) refl h.degree v h.form }

    form-up : IsPolynomial k v → IsFormFrom (plain_space k n) 0 v → IsNonzeroForm k (replicate n 1) v
    unfolding height
    form-up p h = record { not_zero = h.not_zero; degree = h.degree; form = homogeneous_form (plain_space k n) refl h.degree v p h.homogeneous }

    form-down : IsNonzeroForm k (replicate n 1) v → IsFormFrom (plain_space k n) 0 v
    unfolding height
    form-down h = record { not_zero = h.not_zero; degree = h.degree; from = omega arith; homogeneous = form_homogeneous (plain_space k n) refl h.degree v h.form }

module _ (S : SpaceOver ℕ) (gens : List (Matrix ℕ)) (c : CertificateOf ℕ) (given : IsGiven S gens c) where
  abbrev k : FieldOn ℕ
  k = S.field

  pub weights_positive : AllPositive S.weights
  weights_positive = subst (λ (T : SpaceOver ℕ). AllPositive T.weights) (sym given.space.is) (ones_positive k (size c) (size c))

  pub acting : All (ActsOn S) gens
  acting i d b = acts (get_or gens i d) (given_square S gens c given i d b)
    where
      acts : (m : Matrix ℕ) → IsSquare S.field (size c) m → ActsOn S m
      acts m h = record {
        square = subst (λ r. IsSquare S.field r m) (sym h.rows) h;
        within = let e = h.rows in let w = ap (λ (T : SpaceOver ℕ). length T.weights) given.space.is in let o = length_ones (size c) in omega (arith, e, w, o);
      }

  -- the test of a member
  abbrev pub Passes : ℕ → Terms → Type 0
  Passes least f = IsInvariantFrom S gens least (vector_of S (λ m. m) f)

  abbrev pub Tested : SpaceOver ℕ → ℕ → Terms → Type 0
  Tested T least f = IsFormFrom T least (vector_of T (λ m. m) f) × Invariant T.field gens (vector_of T (λ m. m) f)

  there : (least : ℕ) (f : Terms) → Tested S least f → Tested (plain k c) least f
  there least f = subst (λ T. Tested T least f) given.space.is

  back : (least : ℕ) (f : Terms) → Tested (plain k c) least f → Tested S least f
  back least f = subst (λ T. Tested T least f) (sym given.space.is)

  polynomial-of : (f : Terms) → IsPoly (plain k c) (λ m. m) f → IsPolynomial k (polynomial k f)
  polynomial-of f p = is_polynomial (plain k c) (λ (m : List ℕ). m) f p

  primaries-up : (j : ℕ) → Item (Passes 1) c.primaries j → Meets k gens c Primaries j
  primaries-up = items_up (polynomial k) c.primaries (IsPoly (plain k c) (λ m. m)) (Passes 1) (λ v. IsOfPositiveDegree k (ones c) v × Invariant k gens v) (given_well S gens c given).primaries
      (λ f p h. let t = there 1 f h in (positive-up k (size c) (polynomial k f) (polynomial-of f p) t.0, t.1))

  primaries-down : (j : ℕ) → Meets k gens c Primaries j → Item (Passes 1) c.primaries j
  primaries-down = items_down (polynomial k) c.primaries (IsPoly (plain k c) (λ m. m)) (Passes 1) (λ v. IsOfPositiveDegree k (ones c) v × Invariant k gens v) (given_well S gens c given).primaries
      (λ f p h. back 1 f (positive-down k (size c) (polynomial k f) h.0, h.1))

  secondaries-up : (j : ℕ) → Item (Passes 0) c.secondaries j → Meets k gens c Secondaries j
  secondaries-up = items_up (polynomial k) c.secondaries (IsPoly (plain k c) (λ m. m)) (Passes 0) (λ v. IsNonzeroForm k (ones c) v × Invariant k gens v) (given_well S gens c given).secondaries
      (λ f p h. let t = there 0 f h in (form-up k (size c) (polynomial k f) (polynomial-of f p) t.0, t.1))

  secondaries-down : (j : ℕ) → Meets k gens c Secondaries j → Item (Passes 0) c.secondaries j
  secondaries-down = items_down (polynomial k) c.secondaries (IsPoly (plain k c) (λ m. m)) (Passes 0) (λ v. IsNonzeroForm k (ones c) v × Invariant k gens v) (given_well S gens c given).secondaries
      (λ f p h. back 0 f (form-down k (size c) (polynomial k f) h.0, h.1))

  module _ (l : Limits) where
    pub primaries_hold : Reached S.field gens c l (Primaries, 0) → ((j : ℕ) → Item (Passes 1) c.primaries j) → Reached S.field gens c l (Lifts, 0)
    primaries_hold r h = primaries_passed k gens c l r (λ j. primaries-up j (h j))

    pub primaries_told : Reached S.field gens c l (Primaries, 0) → (i : ℕ) → IsFirstFailing (Item (Passes 1) c.primaries) (Some i) → IsTold c l (Rejected 2 i)
    primaries_told = first_told S gens c l given Primaries (λ e. omega (arith, e)) (λ e. omega (arith, e)) (λ e. omega (arith, e)) (Item (Passes 1) c.primaries) primaries-up primaries-down

    pub secondaries_hold : Reached S.field gens c l (Secondaries, 0) → ((j : ℕ) → Item (Passes 0) c.secondaries j) → Reached S.field gens c l (Evidence, 0)
    secondaries_hold r h = secondaries_passed k gens c l r (λ j. secondaries-up j (h j))

    pub secondaries_told : Reached S.field gens c l (Secondaries, 0) → (i : ℕ) → IsFirstFailing (Item (Passes 0) c.secondaries) (Some i) → IsTold c l (Rejected 7 i)
    secondaries_told = first_told S gens c l given Secondaries (λ e. omega (arith, e)) (λ e. omega (arith, e)) (λ e. omega (arith, e)) (Item (Passes 0) c.secondaries) secondaries-up secondaries-down
