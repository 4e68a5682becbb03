use Rattle.std.proofs.Common.{◌∙◌, ◌+◌, ℕ, length, ap}
use Rattle.certificate_io.specs.Certificates.{CertificateOf}
use Rattle.cert_check.proofs.CheckSpaces.{marks_of, plain_of}
use Rattle.cert_check.specs.Parts.{size}
use Rattle.cert_check.proofs.CombinationSteps.{small_polys}
use Rattle.cert_check.proofs.EvidenceGiven.{given_combinations, given_degrees, given_polynomials, low_members}
use Rattle.cert_check.proofs.EvidenceParts.{combinations_at, members_at, polys_at, values_at, values_first_at}
use Rattle.cert_check.proofs.GivenParts.{given_primaries}
use Rattle.cert_check.proofs.KernelItems.{images_count, images_small, kernel_square, kernel_fixed, kernel_low, kernel_fails, member_fails}
use Rattle.cert_check.proofs.kernels.first_member.Goals as goal

pub is_kernel-requires-clause-square : goal.is_kernel-requires-clause-square
is_kernel-requires-clause-square c =
    kernel_square (plain_of c.args.space.now) c.args.gens.now c.args.cert.now c.requires.given (marks_of c.args.marked.now) c.args.marked.now.order.vars c.args.marked.now.order.weights.items c.requires.beside
    c.args.free_module.now c.requires.module

pub is_kernel-requires-clause-fixed : goal.is_kernel-requires-clause-fixed
is_kernel-requires-clause-fixed c =
    kernel_fixed (plain_of c.args.space.now) c.args.gens.now c.args.cert.now c.requires.given (marks_of c.args.marked.now) c.args.marked.now.order.vars c.args.marked.now.order.weights.items c.requires.beside
    c.args.free_module.now c.requires.module c.requires.primaries

pub is_kernel-requires-clause-low : goal.is_kernel-requires-clause-low
is_kernel-requires-clause-low c =
    kernel_low (plain_of c.args.space.now) c.args.gens.now c.args.cert.now c.requires.given (marks_of c.args.marked.now) c.args.marked.now.order.vars c.args.marked.now.order.weights.items c.requires.beside
    c.args.free_module.now c.requires.module c.args.lines.now c.requires.lines

pub returns-then-not-branch : goal.returns-then-not-branch
returns-then-not-branch c = record {
  first = kernel_fails (plain_of c.args.space.now) c.args.gens.now c.args.cert.now c.requires.given (marks_of c.args.marked.now) c.args.marked.now.order.vars c.args.marked.now.order.weights.items c.requires.beside
      c.args.free_module.now c.requires.module c.args.lines.now
      (λ h. let yes = c.in_ok-is_kernel.ensures.exact.1 h in let none = c.if-not-branch.true in absurd {A = ⊥} cc);
}

pub images-requires-clause-polynomials : goal.images-requires-clause-polynomials
images-requires-clause-polynomials c = given_polynomials (plain_of c.args.space.now) c.args.gens.now c.args.cert.now c.requires.given

pub images-requires-clause-theta : goal.images-requires-clause-theta
images-requires-clause-theta c =
    let S = plain_of c.args.space.now in
    small_polys S c.as_slice-theta.result.now
    (polys_at S c.args.cert.now.primaries c.as_slice-theta.result.now (c.as_slice-theta.ensures.value ∙ ap (λ (d : CertificateOf ℕ). d.primaries) c.cert.view_is)
    (given_primaries (plain_of c.args.space.now) c.args.gens.now c.args.cert.now c.requires.given))

pub first_other-requires-clause-given : goal.first_other-requires-clause-given
first_other-requires-clause-given c =
    combinations_at (plain_of c.args.space.now) c.args.cert.now.primaries c.args.cert.now.secondaries c.as_slice-theta.result.now c.as_slice-secs.result.now
    (c.as_slice-theta.ensures.value ∙ ap (λ (d : CertificateOf ℕ). d.primaries) c.cert.view_is) (c.as_slice-secs.ensures.value ∙ ap (λ (d : CertificateOf ℕ). d.secondaries) c.cert.view_is)
    (given_combinations (plain_of c.args.space.now) c.args.gens.now c.args.cert.now c.requires.given)

pub first_other-requires-clause-images : goal.first_other-requires-clause-images
first_other-requires-clause-images c =
    polys_at (plain_of c.args.space.now) c.in_ok-images.images.items c.as_slice.result.now c.as_slice.ensures.value
    (images_small (plain_of c.args.space.now) c.args.gens.now c.args.cert.now c.requires.given c.in_ok-images.images.items c.in_ok-images.ensures.polys
    (values_at (plain_of c.args.space.now) c.in_ok-images.images.items c.args.cert.now.primaries c.as_slice-theta.result.now
    (c.as_slice-theta.ensures.value ∙ ap (λ (d : CertificateOf ℕ). d.primaries) c.cert.view_is) c.in_ok-images.ensures.are))

pub first_other-requires-clause-lines : goal.first_other-requires-clause-lines
first_other-requires-clause-lines c =
    members_at (plain_of c.args.space.now) (size c.args.cert.now + length c.args.cert.now.primaries) c.in_ok-images.images.items c.as_slice.result.now c.args.cert.now.primaries
    c.as_slice-theta.result.now c.as_slice.ensures.value
    (images_count (plain_of c.args.space.now) c.args.gens.now c.args.cert.now c.requires.given c.in_ok-images.images.items c.in_ok-images.ensures.polys
    (values_at (plain_of c.args.space.now) c.in_ok-images.images.items c.args.cert.now.primaries c.as_slice-theta.result.now
    (c.as_slice-theta.ensures.value ∙ ap (λ (d : CertificateOf ℕ). d.primaries) c.cert.view_is) c.in_ok-images.ensures.are))
    (c.as_slice-theta.ensures.value ∙ ap (λ (d : CertificateOf ℕ). d.primaries) c.cert.view_is) c.args.lines.now
    (low_members (plain_of c.args.space.now) c.args.gens.now c.args.cert.now c.requires.given
    (given_degrees (plain_of c.args.space.now) c.args.gens.now c.args.cert.now c.requires.given c.requires.primaries) c.args.lines.now c.requires.lines)

pub returns : goal.returns
returns c = record {
  first = member_fails (plain_of c.args.space.now) c.args.gens.now c.args.cert.now c.requires.given (marks_of c.args.marked.now) c.args.marked.now.order.vars c.args.marked.now.order.weights.items c.requires.beside
      c.args.free_module.now c.requires.module c.args.lines.now
      (c.in_ok-is_kernel.ensures.exact.0 c.if-not-branch.false) c.in_ok-images.images.items c.in_ok-images.ensures.polys
      (values_at (plain_of c.args.space.now) c.in_ok-images.images.items c.args.cert.now.primaries c.as_slice-theta.result.now
      (c.as_slice-theta.ensures.value ∙ ap (λ (d : CertificateOf ℕ). d.primaries) c.cert.view_is) c.in_ok-images.ensures.are) c.in_ok-first.first
      (values_first_at (plain_of c.args.space.now) c.in_ok-images.images.items c.args.cert.now.primaries c.args.cert.now.secondaries c.as_slice.result.now c.as_slice-theta.result.now
      c.as_slice-secs.result.now c.as_slice.ensures.value (c.as_slice-theta.ensures.value ∙ ap (λ (d : CertificateOf ℕ). d.primaries) c.cert.view_is)
      (c.as_slice-secs.ensures.value ∙ ap (λ (d : CertificateOf ℕ). d.secondaries) c.cert.view_is) c.args.lines.now c.in_ok-first.first c.in_ok-first.ensures.first);
}
