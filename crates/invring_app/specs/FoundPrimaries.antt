-- Primary invariants that a search found, and the polynomials as a free module over them.
--
--   IsPlain S                   S is the space of the polynomials in variables of degree 1, by the degree reverse lexicographic order
--   IsMarkedBeside S M n ds     M is the space of the polynomials in the n variables of the space S and marks of the degrees ds
--   AreFound S cap θ            θ are the terms of homogeneous polynomials of positive degrees over the plain space S, each a
--                               nonzerodivisor modulo those before it; each variable has a power in their ideal, which has no element
--                               above the cap
--   AreFoundOver S n ds cap θ   they are so in the n variables of the space with marks S, of the degrees ds
--   IsOver S θ B ls ps          over the space S, B are the standard monomials of the ideal of θ, of small degrees; ls are the terms of
--                               the lifts of the relations of θ, and ps are the least powers of the variables with their coordinates
--   IsFreeOver S M n ds θ P     M is the space of the polynomials in the n variables of S and a mark for each of θ, of its degree ds, and
--                               over it P is the free module over θ
use Rattle.std.specs.Prelude.{◌≡◌, ◌≤◌, ◌<◌, ℕ, List, [], ◌∷◌, All, length, replicate}
use Rattle.alg_core.specs.DpOrder.{dp_order}
use Rattle.alg_core.specs.PolynomialSpaces.{plain_space, marked_space}
use Rattle.alg_core.specs.Spaces.{SpaceOver}
use Rattle.alg_core.specs.declared.term.Term.{Term}
use Rattle.poly_module.specs.SpaceVectors.{IsPositive, IsPoly, ArePolys, vectors_of}
use Rattle.finite_certificate.specs.Finiteness.{AreLow, powers_of}
use Rattle.finite_certificate.specs.Ideals.{Regular, Ended}
use Rattle.finite_certificate.specs.MarkSpaces.{IsMarkSpace, ArePositiveForms}
use Rattle.finite_certificate.specs.StandardMonomials.{AreStandardMonomials}
use Rattle.finite_certificate.specs.declared.power.Power.{Power}
use Rattle.groebner_hom.specs.IdealBases.{NoIdealAbove}
use Rattle.groebner_hom.specs.Lifts.{AreLifts, AreLeastPowers}
use Rattle.secondary_gens.specs.Forms.{IsPositiveForm, degrees_of}
use Rattle.primary_module.specs.PrimaryModules.{Primaries, StandsOver}
use Rattle.invring_app.specs.SmallMonomials.{IsSmallMonomial}

pub record IsPlain {E : Type 0} (S : SpaceOver E) : Type 0 where
  pub order : S.order ≡ dp_order S.weights
  pub weights : S.weights ≡ replicate (length S.weights) 1
  pub shifts : S.shifts ≡ 0 ∷ []

pub record IsMarkedBeside {E : Type 0} (S M : SpaceOver E) (n : ℕ) (ds : List ℕ) : Type 0 where
  pub is : M ≡ marked_space S.field (length S.weights) ds
  pub variables : n ≡ length S.weights

pub record AreFound {E : Type 0} (S : SpaceOver E) (cap : ℕ) (θ : List (List (Term E (List ℕ)))) : Type 0 where
  pub plain : IsPlain S
  pub some : 0 < length S.weights
  pub few : length S.weights ≤ 12
  pub low_cap : cap ≤ 1000
  pub forms : All (IsPositiveForm S) θ
  pub regular : Regular S.field (vectors_of S (λ m. m) θ)
  pub ended : Ended S.field (length S.weights) (vectors_of S (λ m. m) θ)
  pub ideal : NoIdealAbove S (vectors_of S (λ m. m) θ) cap

pub record AreFoundOver {E : Type 0} (S : SpaceOver E) (n : ℕ) (ds : List ℕ) (cap : ℕ) (θ : List (List (Term E (List ℕ)))) : Type 0 where
  pub space : IsMarkSpace S n ds
  pub positive : IsPositive S
  pub few : n ≤ 12
  pub low_cap : cap ≤ 1000
  pub low : AreLow S θ
  pub forms : ArePositiveForms S.field n ds (vectors_of S (λ m. m) θ)
  pub regular : Regular S.field (vectors_of S (λ m. m) θ)
  pub ended : Ended S.field n (vectors_of S (λ m. m) θ)
  pub ideal : NoIdealAbove (plain_space S.field n) (vectors_of S (λ m. m) θ) cap

pub record IsOver {E : Type 0} (S : SpaceOver E) (θ : List (List (Term E (List ℕ)))) (B : List (List ℕ)) (ls : List (List (Term E (List ℕ)))) (ps : List (Power E)) : Type 0 where
  pub standard : AreStandardMonomials S.field (length S.weights) (vectors_of S (λ m. m) θ) B
  pub small : All (IsSmallMonomial (length S.weights)) B
  pub lifts : ArePolys (marked_space S.field (length S.weights) (degrees_of θ)) (λ m. m) ls
  pub are_lifts : AreLifts (marked_space S.field (length S.weights) (degrees_of θ)) (length S.weights) (vectors_of S (λ m. m) θ) (vectors_of S (λ m. m) ls)
  pub forms : All (λ p. IsPoly (marked_space S.field (length S.weights) (degrees_of θ)) (λ m. m) p.form) ps
  pub least : AreLeastPowers S.field (length S.weights) (vectors_of S (λ m. m) θ) (powers_of S ps)

pub record IsFreeOver {E : Type 0} (S M : SpaceOver E) (n : ℕ) (ds : List ℕ) (θ : List (List (Term E (List ℕ)))) (P : Primaries E) : Type 0 where
  pub beside : IsMarkedBeside S M n ds
  pub marks : ds ≡ degrees_of θ
  pub stands : StandsOver M n ds P
  pub same : vectors_of S (λ m. m) P.theta ≡ vectors_of S (λ m. m) θ
