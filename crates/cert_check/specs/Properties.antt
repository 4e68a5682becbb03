-- What a certificate gives. θ are its primary invariants, S its secondary ones, Q its irreducible generators.
--
--   HasProperties k gens c   the members of θ, S and Q are invariant under each of the matrices gens; by the printed powers each
--                            variable is integral over the algebra of θ, and every polynomial is one in the variables, with exponents
--                            below the printed ones, and in θ; every invariant, homogeneous or not, is a combination over θ and S,
--                            and no member of S one over θ and the others; Q are members of S of positive degree, each member of S
--                            is a polynomial in θ and Q, and no member of Q one in θ and the others
use Rattle.std.specs.Prelude.{ℕ, List, All, map}
use Rattle.alg_core.specs.Fields.{FieldOn}
use Rattle.lin_algebra.specs.declared.matrix.Matrix.{Matrix}
use Rattle.matrix_group.specs.Actions.{Invariant}
use Rattle.finite_certificate.specs.Finiteness.{FiniteBy, Spanned}
use Rattle.secondary_gens.specs.Secondaries.{IsComplete, IsIrredundant}
use Rattle.irreducible_gens.specs.Irreducibles.{IsIrreducible}
use Rattle.certificate_io.specs.Certificates.{CertificateOf}
use Rattle.cert_check.specs.Parts.{size, ones, primaries, powers, secondaries, irreducibles}

pub record HasProperties (k : FieldOn ℕ) (gens : List (Matrix ℕ)) (c : CertificateOf ℕ) : Type 0 where
  pub primaries_invariant : All (Invariant k gens) (primaries k c)
  pub secondaries_invariant : All (Invariant k gens) (secondaries k c)
  pub irreducibles_invariant : All (Invariant k gens) (irreducibles k c)
  pub finite : FiniteBy k (size c) (primaries k c) (powers k c)
  pub spanned : Spanned k (size c) (primaries k c) (map (λ x. x.exponent) c.powers)
  pub complete : IsComplete k (size c) gens (primaries k c) (secondaries k c)
  pub irredundant : IsIrredundant k (primaries k c) (secondaries k c)
  pub irreducible : IsIrreducible k (primaries k c) (ones c) (secondaries k c) (irreducibles k c)
