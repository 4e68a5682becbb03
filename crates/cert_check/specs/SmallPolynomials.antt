-- Polynomials and combinations of small degrees, as they stand in certificates.
--
--   most_degree         the greatest degree of a polynomial, and the greatest exponent, in a certificate
--   IsSmallPoly S v     the terms v are those of a polynomial over S, of no degree over the greatest
--   IsSmallComb S v     they are those of a vector over S, of no degree over the greatest
--   IsSmallLine c x     line x of the averages has an exponent for each variable, of a sum up to the greatest degree, and a combination
--   IsSmallMember M C l the member l of the kernel is a polynomial over M, and its combination, where it has one, one over C
use Rattle.std.specs.Prelude.{◌≡◌, ◌≤◌, ℕ, List, IfSome, length}
use Rattle.alg_core.specs.Spaces.{SpaceOver}
use Rattle.alg_core.specs.declared.term.Term.{Term}
use Rattle.poly_module.specs.GreatestExponents.{total}
use Rattle.poly_module.specs.SpaceVectors.{IsPoly, IsVector, IsUpTo, vector_of}
use Rattle.certificate_io.specs.declared.evidence.Image.{Image}
use Rattle.certificate_io.specs.declared.evidence.Line.{Line}

abbrev pub most_degree : ℕ
most_degree = 4096

module _ (S : SpaceOver ℕ) where
  pub record IsSmallPoly (v : List (Term ℕ (List ℕ))) : Type 0 where
    pub poly : IsPoly S (λ m. m) v
    pub up_to : IsUpTo S most_degree (vector_of S (λ m. m) v)

  pub record IsSmallComb (v : List (Term ℕ (List ℕ))) : Type 0 where
    pub comb : IsVector S (λ m. m) v
    pub up_to : IsUpTo S most_degree (vector_of S (λ m. m) v)

  pub record IsSmallLine (n : ℕ) (x : Image ℕ) : Type 0 where
    pub wide : length x.mono ≡ n
    pub low : total x.mono ≤ most_degree
    pub combination : IsSmallComb x.comb.vector

pub record IsSmallMember (M C : SpaceOver ℕ) (l : Line ℕ) : Type 0 where
  pub polynomial : IsSmallPoly M l.u
  pub combination : IfSome l.comb (λ x. IsSmallComb C x.vector)
