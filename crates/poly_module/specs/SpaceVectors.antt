-- Vectors and polynomials over a space: what the calls take and give. A list of terms is read by a function exps from monomials to
-- exponents, so that each word serves every kind of monomial.
--
--   vector_of S exps v                the vector with the terms v
--   vectors_of S exps vs              the vectors with these lists of terms
--   IsVector S exps v                 the terms v fit the space: they are those of a vector over it
--   IsVectorOf S exps u v             they are those of the vector u
--   IsPoly S exps p                   the terms p fit the space and have position 0: they are those of a polynomial over it
--   IsPolyOf S exps u p               they are those of the polynomial u
--   AreVectors, ArePolys S exps vs    each of the lists of terms is so
--   ArePlaced S exps ts               each of the terms has a value of the field, which may be 0, at a place of the space
--   HasVariables k exps n ts          each has a value of the field and n exponents
--   HasPolynomials S                  the space has polynomials: its order is for position 0, which has a shift
--   IsPositive S                      no weight of the order and none of the grading is 0
--   IsUpTo S d v                      no key of the vector v has a degree over d
use Rattle.std.specs.Prelude.{◌≡◌, ◌≤◌, ℕ, true, List, All, map, length, replicate}
use Rattle.alg_core.specs.Fields.{FieldOn, Has}
use Rattle.alg_core.specs.Vectors.{Vect, vec}
use Rattle.alg_core.specs.declared.term.Term.{Term}
use Rattle.alg_core.specs.Spaces.{SpaceOver, entries, IsPlace, Fits}
use Rattle.alg_core.specs.SpaceGrading.{AllPositive, degree}
use Rattle.poly_module.specs.Parts.{Supp, IsPolynomial}

module _ {E M : Type 0} (S : SpaceOver E) (exps : M → List ℕ) where
  -- the vector with these terms
  abbrev pub vector_of : List (Term E M) → Vect S.field
  vector_of v = vec S.field (entries exps v)

  abbrev pub vectors_of : List (List (Term E M)) → List (Vect S.field)
  vectors_of vs = map vector_of vs

  -- terms of the space that fall strictly
  abbrev pub IsVector : List (Term E M) → Type 0
  IsVector v = Fits S (entries exps v)

  -- the terms of a given vector; where that is a polynomial, they have position 0
  pub record IsVectorOf (u : Vect S.field) (v : List (Term E M)) : Type 0 where
    pub fits : IsVector v
    pub is : vector_of v ≡ u
    pub position : IsPolynomial S.field u → All (λ e. e.0.0 ≡ 0) (entries exps v)

  -- terms of the space at position 0
  pub record IsPoly (p : List (Term E M)) : Type 0 where
    pub fits : IsVector p
    pub position : All (λ e. e.0.0 ≡ 0) (entries exps p)

  -- the terms of a given polynomial
  pub record IsPolyOf (u : Vect S.field) (p : List (Term E M)) : Type 0 where
    pub fits : IsVector p
    pub position : All (λ e. e.0.0 ≡ 0) (entries exps p)
    pub is : vector_of p ≡ u

  abbrev pub AreVectors : List (List (Term E M)) → Type 0
  AreVectors vs = All IsVector vs

  abbrev pub ArePolys : List (List (Term E M)) → Type 0
  ArePolys ps = All IsPoly ps

  -- values at places of the space, in any order
  abbrev pub ArePlaced : List (Term E M) → Type 0
  ArePlaced ts = All (λ e. Has S.field e.1 × IsPlace S e.0) (entries exps ts)

module _ {E M : Type 0} (k : FieldOn E) (exps : M → List ℕ) where
  -- values at monomials in n variables
  pub record HasVariables (n : ℕ) (ts : List (Term E M)) : Type 0 where
    pub values : All (λ e. Has k e.1) (entries exps ts)
    pub wide : All (λ e. length e.0.1 ≡ n) (entries exps ts)

module _ {E : Type 0} (S : SpaceOver E) where
  -- constants are places of the space
  pub record HasPolynomials : Type 0 where
    pub constants : IsPlace S (0, replicate (length S.weights) 0)

  -- so that a multiple is never smaller, and each degree has finitely many keys
  pub record IsPositive : Type 0 where
    pub order : S.order.is_positive ≡ true
    pub weights : AllPositive S.weights

  -- no key of a degree over d
  abbrev pub IsUpTo : ℕ → Vect S.field → Type 0
  IsUpTo d v = Supp S.field (λ t. degree S t ≤ d) v
