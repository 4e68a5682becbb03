use Rattle.std.proofs.Common.{◌∙◌, ℕ, sym, ap, subst}
use Rattle.finite_certificate.specs.StandardMonomials.{AreStandardMonomials}
use Rattle.certificate_io.specs.Certificates.{CertificateOf, Averages, Members, evidence_of}
use Rattle.cert_check.proofs.CheckSpaces.{plain_of}
use Rattle.cert_check.specs.Parts.{size, primaries}
use Rattle.cert_check.proofs.EvidenceGiven.{given_degrees}
use Rattle.cert_check.proofs.EvidenceSteps.{by_averages, by_members}
use Rattle.cert_check.proofs.GivenParts.{given_averages, given_members}
use Rattle.cert_check.proofs.evidence.first_failing.Goals as goal

pub first_average-requires-clause-positive : goal.first_average-requires-clause-positive
first_average-requires-clause-positive c = given_degrees (plain_of c.args.space.now) c.args.gens.now c.args.cert.now c.requires.given c.requires.primaries

pub first_average-requires-clause-monomials : goal.first_average-requires-clause-monomials
first_average-requires-clause-monomials c =
    let k = (plain_of c.args.space.now).field in
    subst (AreStandardMonomials k (size c.args.cert.now) (primaries k c.args.cert.now)) (sym c.monomials-monomials.ensures.is) c.requires.module.monomials

pub first_average-requires-clause-lines : goal.first_average-requires-clause-lines
first_average-requires-clause-lines c =
    given_averages (plain_of c.args.space.now) c.args.gens.now c.args.cert.now c.requires.given c.as_slice-lines.result.now
    (sym (ap (λ (d : CertificateOf ℕ). d.evidence) c.cert.view_is) ∙ ap evidence_of c.in-Reynolds.is ∙ ap Averages (sym c.as_slice-lines.ensures.value))

pub first_member-requires-clause-lines : goal.first_member-requires-clause-lines
first_member-requires-clause-lines c =
    given_members (plain_of c.args.space.now) c.args.gens.now c.args.cert.now c.requires.given c.as_slice-lines-in-Kernel.result.now
    (sym (ap (λ (d : CertificateOf ℕ). d.evidence) c.cert.view_is) ∙ ap evidence_of c.in-Kernel.is ∙ ap Members (sym c.as_slice-lines-in-Kernel.ensures.value))

pub returns-in_ok-first-in-Reynolds : goal.returns-in_ok-first-in-Reynolds
returns-in_ok-first-in-Reynolds c = record {
  first = by_averages (plain_of c.args.space.now) c.args.gens.now c.args.cert.now c.as_slice-lines.result.now c.in_ok-first-in-Reynolds.first
      (sym (ap (λ (d : CertificateOf ℕ). d.evidence) c.cert.view_is) ∙ ap evidence_of c.in-Reynolds.is ∙ ap Averages (sym c.as_slice-lines.ensures.value))
      c.in_ok-first-in-Reynolds.ensures.first;
}

pub returns-in_ok-first-in-Kernel : goal.returns-in_ok-first-in-Kernel
returns-in_ok-first-in-Kernel c = record {
  first = by_members (plain_of c.args.space.now) c.args.gens.now c.args.cert.now c.as_slice-lines-in-Kernel.result.now c.in_ok-first-in-Kernel.first
      (sym (ap (λ (d : CertificateOf ℕ). d.evidence) c.cert.view_is) ∙ ap evidence_of c.in-Kernel.is ∙ ap Members (sym c.as_slice-lines-in-Kernel.ensures.value))
      c.in_ok-first-in-Kernel.ensures.first;
}
