use Rattle.std.proofs.Common.{◌≡◌, ◌∙◌, ℕ, sym, ap, ap₂, subst, length, inl, arith}
use Rattle.std.specs.Prelude.{All}
use Rattle.alg_core.specs.PolynomialSpaces.{marked_space}
use Rattle.certificate_io.specs.Certificates.{CertificateOf}
use Rattle.secondary_gens.specs.Forms.{IsSmallForm, degrees_of}
use Rattle.cert_check.specs.Conditions.{Primaries}
use Rattle.cert_check.proofs.CheckSpaces.{plain_of}
use Rattle.cert_check.proofs.CheckedPrimaries.{small_forms}
use Rattle.cert_check.proofs.marked.marked_of.Goals as goal

pub degrees-requires : goal.degrees-requires
degrees-requires c =
    let S = plain_of c.args.space.now in
    let same = c.as_slice.ensures.value ∙ ap (λ (x : CertificateOf ℕ). x.primaries) c.cert.view_is in
    record {
      forms = subst (All (IsSmallForm S)) (sym same)
          (small_forms S c.args.gens.now c.args.cert.now c.requires.given (λ j. c.requires.reached.met Primaries j (inl (omega arith))));
    }

pub returns : goal.returns
returns c =
    let S = plain_of c.args.space.now in
    let made = c.in_ok-marked.ensures in
    let few = c.requires.given.certificate.variables.1 in
    let names = ap (λ (x : CertificateOf ℕ). length x.names) c.cert.view_is in
    let many : c.len-variables.result ≡ length c.args.cert.now.names = omega (arith, names) in
    let same = c.as_slice.ensures.value ∙ ap (λ (x : CertificateOf ℕ). x.primaries) c.cert.view_is in
    let marks = c.as_slice-2.ensures.value ∙ c.in_ok-degrees.ensures.are ∙ ap degrees_of same in
    record {
      beside = record {
        is = made.is ∙ ap₂ (λ i ws. marked_space S.field i ws) many marks;
        variables = made.variables ∙ many;
        degrees = made.marks ∙ marks;
      };
    }
