use Rattle.std.proofs.Common.{◌∙◌, ℕ, refl, ap}
use Rattle.certificate_io.specs.Certificates.{CertificateOf}
use Rattle.cert_check.proofs.CheckSpaces.{plain_of}
use Rattle.cert_check.proofs.AverageItems.{matrix_group, averages_on, divides_fails, monomials_fail, line_fails}
use Rattle.cert_check.proofs.EvidenceGiven.{given_combinations, low_lines}
use Rattle.cert_check.proofs.EvidenceParts.{combinations_at, lines_at, firsts_at}
use Rattle.cert_check.proofs.averages.first_average.Goals as goal

pub of-requires : goal.of-requires
of-requires c = record { group = matrix_group (plain_of c.args.space.now) c.args.gens.now c.args.cert.now c.requires.given c.args.group.now c.requires.group }

pub returns-in_default : goal.returns-in_default
returns-in_default c = record {
  first = divides_fails (plain_of c.args.space.now) c.args.gens.now c.args.cert.now c.requires.given c.args.group.now c.requires.group c.requires.order c.args.lines.now
      (c.in_default.ensures.none.0 refl);
}

pub returns-then-not-have_monomials : goal.returns-then-not-have_monomials
returns-then-not-have_monomials c = record {
  first = monomials_fail (plain_of c.args.space.now) c.args.gens.now c.args.cert.now c.requires.given c.args.group.now c.requires.group c.requires.order c.args.lines.now
      c.args.monomials.now c.requires.monomials (λ e. let yes = c.if-not-have_monomials.ensures.exact.1 e in absurd {A = ⊥} cc);
}

pub first_other-requires-clause-given : goal.first_other-requires-clause-given
first_other-requires-clause-given c =
    combinations_at (plain_of c.args.space.now) c.args.cert.now.primaries c.args.cert.now.secondaries c.as_slice-theta.result.now c.as_slice-secs.result.now
    (c.as_slice-theta.ensures.value ∙ ap (λ (d : CertificateOf ℕ). d.primaries) c.cert.view_is) (c.as_slice-secs.ensures.value ∙ ap (λ (d : CertificateOf ℕ). d.secondaries) c.cert.view_is)
    (given_combinations (plain_of c.args.space.now) c.args.gens.now c.args.cert.now c.requires.given)

pub first_other-requires-clause-averaging : goal.first_other-requires-clause-averaging
first_other-requires-clause-averaging c =
    averages_on (plain_of c.args.space.now) c.args.gens.now c.args.cert.now c.requires.given c.args.group.now c.requires.group c.in-Some.averaging c.in-Some.ensures.some c.in-Some.ensures.elements

pub first_other-requires-clause-lines : goal.first_other-requires-clause-lines
first_other-requires-clause-lines c =
    lines_at (plain_of c.args.space.now) c.args.cert.now.primaries c.as_slice-theta.result.now (c.as_slice-theta.ensures.value ∙ ap (λ (d : CertificateOf ℕ). d.primaries) c.cert.view_is) c.args.lines.now
    (low_lines (plain_of c.args.space.now) c.args.gens.now c.args.cert.now c.requires.given c.requires.positive c.args.lines.now c.requires.lines)

pub returns : goal.returns
returns c = record {
  first = line_fails (plain_of c.args.space.now) c.args.gens.now c.args.cert.now c.requires.given c.args.group.now c.requires.group c.requires.order c.args.lines.now
      c.args.monomials.now c.requires.monomials (λ d. let none = c.in-Some.ensures.none.1 d in absurd {A = ⊥} cc)
      (c.if-not-have_monomials.ensures.exact.0 refl) c.in-Some.averaging c.in-Some.ensures.some c.in-Some.ensures.elements c.in_ok-first.first
      (firsts_at (plain_of c.args.space.now) c.in-Some.averaging c.args.cert.now.primaries c.args.cert.now.secondaries c.as_slice-theta.result.now c.as_slice-secs.result.now
      (c.as_slice-theta.ensures.value ∙ ap (λ (d : CertificateOf ℕ). d.primaries) c.cert.view_is) (c.as_slice-secs.ensures.value ∙ ap (λ (d : CertificateOf ℕ). d.secondaries) c.cert.view_is) c.args.lines.now c.in_ok-first.first c.in_ok-first.ensures.first);
}
