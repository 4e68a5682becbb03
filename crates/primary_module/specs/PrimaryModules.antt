-- The polynomials in n variables as a free module over the algebra of polynomials θ, by standard monomials.
--
--   rank_limit                the greatest number of standard monomials: 4096
--   Primaries E               polynomials θ, the lifts of their relations, and the standard monomials of their ideal, by the
--                             exponents of the variables
--   IsLowPoly S p             the terms p are those of a polynomial over the space S with no degree over the limit
--   AreForModule S n ds θ ls  what a module is made of: forms θ of the positive degrees ds, and their lifts ls, no lead of which has
--                             a mark and among whose leads is a power of each variable
--   StandsOver S n ds P       P is of this kind over the space S, with at most 4096 standard monomials
--   IsDifference k n θ m f v  v are the coordinates of the image of f under the matrix m less f
--   IsLowMonomial n a         a are n exponents of a degree that is not over the limit
--   IsStandardImage S n θ m a p          the terms p are those of the coordinates of the image under m of the monomial with the
--                                        exponents a, and of its degree
--   IsStandardDifference S n θ m a p     they are those of the coordinates of this image less the monomial, and of its degree
--   AreStandardImages, AreStandardDifferences S n θ m B ps   there is such a list of terms for each of the exponents B, in their order
use Rattle.std.specs.Prelude.{◌≡◌, ◌≤◌, ◌<◌, ℕ, List, [], length, slice_index_or}
use Rattle.alg_core.specs.Fields.{FieldOn}
use Rattle.alg_core.specs.Monomials.{mono}
use Rattle.alg_core.specs.Spaces.{SpaceOver}
use Rattle.alg_core.specs.Vectors.{Vect, plus}
use Rattle.alg_core.specs.declared.term.Term.{Term}
use Rattle.poly_module.specs.Degrees.{IsHomogeneous}
use Rattle.poly_module.specs.GreatestExponents.{total}
use Rattle.poly_module.specs.Polynomials.{single_vector}
use Rattle.poly_module.specs.SpaceVectors.{IsPositive, IsPoly, IsUpTo, vector_of, vectors_of}
use Rattle.lin_algebra.specs.declared.matrix.Matrix.{Matrix}
use Rattle.matrix_group.specs.Actions.{act_by}
use Rattle.finite_certificate.specs.Finiteness.{AreLow}
use Rattle.finite_certificate.specs.MarkSpaces.{IsMarkSpace, ArePositiveForms, degree_limit}
use Rattle.finite_certificate.specs.StandardMonomials.{AreStandardMonomials, IsCoordinates}
use Rattle.groebner_hom.specs.Lifts.{AreUnmarkedLifts, HavePowers}

abbrev pub rank_limit : ℕ
rank_limit = 4096

pub record Primaries (E : Type 0) : Type 0 where
  pub theta : List (List (Term E (List ℕ)))
  pub lifts : List (List (Term E (List ℕ)))
  pub monomials : List (List ℕ)

pub record IsDifference {E : Type 0} (k : FieldOn E) (n : ℕ) (θ : List (Vect k)) (m : Matrix E) (f v : Vect k) : Type 0 where
  pub difference : Vect k
  pub is : plus k difference f ≡ act_by k m f
  pub coordinates : IsCoordinates k n θ difference v

module _ {E : Type 0} (S : SpaceOver E) where
  pub record IsLowPoly (p : List (Term E (List ℕ))) : Type 0 where
    pub poly : IsPoly S (λ m. m) p
    pub low : IsUpTo S degree_limit (vector_of S (λ m. m) p)

  module _ (n : ℕ) (ds : List ℕ) where
    pub record AreForModule (θ ls : List (List (Term E (List ℕ)))) : Type 0 where
      pub positive : IsPositive S
      pub space : IsMarkSpace S n ds
      pub theta : AreLow S θ
      pub forms : ArePositiveForms S.field n ds (vectors_of S (λ m. m) θ)
      pub lifts : AreUnmarkedLifts S n (vectors_of S (λ m. m) θ) ls
      pub powers : HavePowers S n (vectors_of S (λ m. m) ls)

    pub record StandsOver (P : Primaries E) : Type 0 where
      pub is : AreForModule P.theta P.lifts
      pub monomials : AreStandardMonomials S.field n (vectors_of S (λ m. m) P.theta) P.monomials
      pub few : length P.monomials ≤ rank_limit

pub record IsLowMonomial (n : ℕ) (a : List ℕ) : Type 0 where
  pub wide : length a ≡ n
  pub low : total a ≤ degree_limit

module _ {E : Type 0} (S : SpaceOver E) (n : ℕ) (θ : List (Vect S.field)) (m : Matrix E) where
  pub record IsStandardImage (a : List ℕ) (p : List (Term E (List ℕ))) : Type 0 where
    pub low : IsLowPoly S p
    pub coordinates : IsCoordinates S.field n θ (act_by S.field m (single_vector S.field (0, mono a))) (vector_of S (λ m. m) p)
    pub homogeneous : IsHomogeneous S (total a) (vector_of S (λ m. m) p)

  pub record IsStandardDifference (a : List ℕ) (p : List (Term E (List ℕ))) : Type 0 where
    pub low : IsLowPoly S p
    pub difference : IsDifference S.field n θ m (single_vector S.field (0, mono a)) (vector_of S (λ m. m) p)
    pub homogeneous : IsHomogeneous S (total a) (vector_of S (λ m. m) p)

  pub record AreStandardImages (B : List (List ℕ)) (ps : List (List (Term E (List ℕ)))) : Type 0 where
    pub count : length ps ≡ length B
    pub each : (i : ℕ) → i < length B → IsStandardImage (slice_index_or B i []) (slice_index_or ps i [])

  pub record AreStandardDifferences (B : List (List ℕ)) (ps : List (List (Term E (List ℕ)))) : Type 0 where
    pub count : length ps ≡ length B
    pub each : (i : ℕ) → i < length B → IsStandardDifference (slice_index_or B i []) (slice_index_or ps i [])
