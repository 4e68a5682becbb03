-- The lines of the evidence, over the space S of the polynomials in the variables. In combinations θ stand for the marks, and s at the
-- positions; in the polynomials of the members of a kernel vs stand for the variables and marks.
--
--   HasCombinations S θ s   S has polynomials, and θ and s are polynomials over it, of no degree over the greatest
--   AreLowTerms k r v       each of the terms v has a value of the field k, and r exponents, of a sum up to the greatest degree
--   IsLowLine S r x         the monomial of line x of the averages is one of S, of no degree over the greatest, and the terms of its
--                           combination are so, with r exponents
--   IsAveraged S R θ s x    the combination of line x has the average of its monomial by R as value
--   IsLowMember S n r l     the terms of line l of a kernel are so, with n exponents, and those of its combination, with r
--   HasValue S vs θ s u v   the combination v has the value of the polynomial u
--   IsValued S vs θ s l     the combination of line l, where it has one, has the value of its polynomial
use Rattle.std.specs.Prelude.{◌≡◌, ◌≤◌, ℕ, List, All, IfSome, length}
use Rattle.alg_core.specs.Fields.{FieldOn}
use Rattle.alg_core.specs.Monomials.{mono}
use Rattle.alg_core.specs.SpaceGrading.{AllPositive}
use Rattle.alg_core.specs.Spaces.{SpaceOver}
use Rattle.alg_core.specs.declared.term.Term.{Term}
use Rattle.poly_module.specs.Combinations.{combination_value}
use Rattle.poly_module.specs.GreatestExponents.{total}
use Rattle.poly_module.specs.Polynomials.{single_vector}
use Rattle.poly_module.specs.Sizes.{IsLow}
use Rattle.poly_module.specs.SpaceVectors.{HasPolynomials, HasVariables, vector_of, vectors_of}
use Rattle.poly_module.specs.Substitutions.{substitute}
use Rattle.matrix_group.specs.Groups.{size}
use Rattle.reynolds_op.specs.Averages.{Averaging, reynolds}
use Rattle.certificate_io.specs.declared.evidence.Image.{Image}
use Rattle.certificate_io.specs.declared.evidence.Line.{Line}
use Rattle.cert_check.specs.SmallPolynomials.{most_degree, IsSmallPoly}

pub record HasCombinations (S : SpaceOver ℕ) (θ secs : List (List (Term ℕ (List ℕ)))) : Type 0 where
  pub polynomials : HasPolynomials S
  pub positive : AllPositive S.weights
  pub marks : All (IsSmallPoly S) θ
  pub members : All (IsSmallPoly S) secs

pub record AreLowTerms (k : FieldOn ℕ) (r : ℕ) (v : List (Term ℕ (List ℕ))) : Type 0 where
  pub variables : HasVariables k (λ m. m) r v
  pub low : IsLow most_degree (λ m. m) v

pub record IsLowLine (S : SpaceOver ℕ) (r : ℕ) (x : Image ℕ) : Type 0 where
  pub wide : length x.mono ≡ length S.weights
  pub low : total x.mono ≤ most_degree
  pub combination : AreLowTerms S.field r x.comb.vector

module _ (S : SpaceOver ℕ) (R : Averaging ℕ) (θ secs : List (List (Term ℕ (List ℕ)))) where
  abbrev pub IsAveraged : Image ℕ → Type 0
  IsAveraged x = reynolds S.field (size R.elements) R (single_vector S.field (0, mono x.mono))
      ≡ combination_value S.field (vectors_of S (λ m. m) θ) (vectors_of S (λ m. m) secs) (vector_of S (λ m. m) x.comb.vector)

pub record IsLowMember (S : SpaceOver ℕ) (n r : ℕ) (l : Line ℕ) : Type 0 where
  pub polynomial : AreLowTerms S.field n l.u
  pub combination : IfSome l.comb (λ x. AreLowTerms S.field r x.vector)

module _ (S : SpaceOver ℕ) (images θ secs : List (List (Term ℕ (List ℕ)))) where
  abbrev pub HasValue : List (Term ℕ (List ℕ)) → List (Term ℕ (List ℕ)) → Type 0
  HasValue u v = combination_value S.field (vectors_of S (λ m. m) θ) (vectors_of S (λ m. m) secs) (vector_of S (λ m. m) v)
      ≡ substitute S.field (vectors_of S (λ m. m) images) (vector_of S (λ m. m) u)

  abbrev pub IsValued : Line ℕ → Type 0
  IsValued l = IfSome l.comb (λ x. HasValue l.u x.vector)
