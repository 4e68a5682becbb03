-- The start and the end of a check: the space that it is given, and the acceptance.
use Rattle.std.proofs.Common.{◌≡◌, ◌∙◌, ℕ, List, length, map, sym, ap, subst}
use Rattle.alg_core.specs.PolynomialSpaces.{plain_space}
use Rattle.alg_core.specs.Fields.{FieldOn}
use Rattle.alg_core.specs.Spaces.{SpaceOver}
use Rattle.alg_core.specs.declared.limits.Limits.{Limits}
use Rattle.prime_field.specs.PrimeFields.{IsPrimeField}
use Rattle.lin_algebra.specs.declared.matrix.Matrix.{Matrix}
use Rattle.certificate_io.specs.Certificates.{CertificateOf, matrix_of}
use Rattle.certificate_io.specs.Conditions.{IsCertificate}
use Rattle.cert_check.specs.Endings.{IsGiven}
use Rattle.cert_check.specs.Work.{Passes, IsAccepted}
use Rattle.cert_check.proofs.GivenParts.{given_well}

-- what is read of the certificate d is that of c
pub given_start : (S : SpaceOver ℕ) (k : FieldOn ℕ) (n p : ℕ) (gens : List (Matrix ℕ)) (c d : CertificateOf ℕ) → d ≡ c → IsCertificate c
    → p ≡ d.characteristic → IsPrimeField p k → n ≡ length d.names → S ≡ plain_space k n → map matrix_of gens ≡ d.matrices → IsGiven S gens c
given_start S k n p gens c d same certificate characteristic field names is matrices = record {
  certificate = certificate;
  space = record {
    field = subst (λ q. IsPrimeField q S.field) (characteristic ∙ ap (λ x. x.characteristic) same) (subst (IsPrimeField p) (sym over) field);
    is = is ∙ ap (λ l. plain_space l n) (sym over) ∙ ap (plain_space S.field) (names ∙ ap (λ x. length x.names) same);
  };
  generators = matrices ∙ ap (λ x. x.matrices) same;
}
  where
    over : S.field ≡ k
    over = ap (λ T. T.field) is

pub accepted : (S : SpaceOver ℕ) (gens : List (Matrix ℕ)) (c : CertificateOf ℕ) (l : Limits) → IsGiven S gens c → Passes S.field gens c l → IsAccepted c l
accepted S gens c l given passes = record { field = S.field; matrices = gens; well_formed = given_well S gens c given; passes = passes }
