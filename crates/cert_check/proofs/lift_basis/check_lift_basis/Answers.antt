use Rattle.std.proofs.Common.{◌∙◌, ℕ, sym, ap, inl, subst, arith}
use Rattle.certificate_io.specs.Certificates.{CertificateOf}
use Rattle.finite_certificate.specs.MarkSpaces.{ArePositiveForms}
use Rattle.module_groebner.specs.HomogeneousLists.{AreUpTo, cap_limit}
use Rattle.poly_module.specs.SpaceVectors.{AreVectors, vectors_of}
use Rattle.cert_check.specs.Conditions.{Primaries}
use Rattle.cert_check.proofs.CheckSpaces.{plain_of, marks_of}
use Rattle.cert_check.proofs.CheckedPrimaries.{positive_is, space_is, forms_are}
use Rattle.cert_check.proofs.CheckedLifts.{lift_vectors, lift_degrees, seen_exact, lifts_hold, lifts_fail}
use Rattle.cert_check.proofs.lift_basis.check_lift_basis.Goals as goal

pub marked_primaries-requires-clause-met : goal.marked_primaries-requires-clause-met
marked_primaries-requires-clause-met c = λ j. c.requires.reached.met Primaries j (inl (omega arith))

pub are_unmarked_lifts-requires-clause-positive : goal.are_unmarked_lifts-requires-clause-positive
are_unmarked_lifts-requires-clause-positive c =
    positive_is (plain_of c.args.space.now) c.args.gens.now c.args.cert.now c.requires.given (λ j. c.requires.reached.met Primaries j (inl (omega arith)))
    (marks_of c.args.marked.now) c.args.marked.now.order.vars c.args.marked.now.order.weights.items c.requires.beside

pub are_unmarked_lifts-requires-clause-space : goal.are_unmarked_lifts-requires-clause-space
are_unmarked_lifts-requires-clause-space c =
    space_is (plain_of c.args.space.now) c.args.gens.now c.args.cert.now c.requires.given (λ j. c.requires.reached.met Primaries j (inl (omega arith)))
    (marks_of c.args.marked.now) c.args.marked.now.order.vars c.args.marked.now.order.weights.items c.requires.beside

pub are_unmarked_lifts-requires-clause-forms : goal.are_unmarked_lifts-requires-clause-forms
are_unmarked_lifts-requires-clause-forms c =
    let T = marks_of c.args.marked.now in
    let n = c.args.marked.now.order.vars in
    let ds = c.args.marked.now.order.weights.items in
    subst (λ ps. ArePositiveForms T.field n ds (vectors_of T (λ m. m) ps)) (sym c.as_slice.ensures.value)
    (forms_are (plain_of c.args.space.now) c.args.gens.now c.args.cert.now c.requires.given (λ j. c.requires.reached.met Primaries j (inl (omega arith)))
    T n ds c.requires.beside c.in_ok-theta.theta.items c.in_ok-theta.ensures.polynomials c.in_ok-theta.ensures.same)

pub are_unmarked_lifts-requires-clause-lifts : goal.are_unmarked_lifts-requires-clause-lifts
are_unmarked_lifts-requires-clause-lifts c =
    let T = marks_of c.args.marked.now in
    subst (AreVectors T (λ m. m)) (sym (c.as_slice-2.ensures.value ∙ ap (λ (x : CertificateOf ℕ). x.lifts) c.cert.view_is))
    (lift_vectors (plain_of c.args.space.now) c.args.gens.now c.args.cert.now c.args.limits.now c.requires.given c.requires.reached
    T c.args.marked.now.order.vars c.args.marked.now.order.weights.items c.requires.beside)

pub are_unmarked_lifts-requires-clause-degrees : goal.are_unmarked_lifts-requires-clause-degrees
are_unmarked_lifts-requires-clause-degrees c =
    let T = marks_of c.args.marked.now in
    subst (λ ps. AreUpTo T cap_limit (vectors_of T (λ m. m) ps)) (sym (c.as_slice-2.ensures.value ∙ ap (λ (x : CertificateOf ℕ). x.lifts) c.cert.view_is))
    (lift_degrees (plain_of c.args.space.now) c.args.gens.now c.args.cert.now c.args.limits.now c.requires.given c.requires.reached
    T c.args.marked.now.order.vars c.args.marked.now.order.weights.items c.requires.beside)

pub returns-then-not-branch-clause-told : goal.returns-then-not-branch-clause-told
returns-then-not-branch-clause-told c =
    let T = marks_of c.args.marked.now in
    let n = c.args.marked.now.order.vars in
    lifts_fail (plain_of c.args.space.now) c.args.gens.now c.args.cert.now c.args.limits.now c.requires.given c.requires.reached
    T n c.args.marked.now.order.weights.items c.requires.beside c.in_ok-theta.theta.items c.in_ok-theta.ensures.same c.in_ok-are_unmarked_lifts.field-0
    (seen_exact T n c.as_slice.result.now c.in_ok-theta.theta.items c.as_slice-2.result.now c.args.cert.now.lifts c.as_slice.ensures.value
    (c.as_slice-2.ensures.value ∙ ap (λ (x : CertificateOf ℕ). x.lifts) c.cert.view_is) c.in_ok-are_unmarked_lifts.field-0 c.in_ok-are_unmarked_lifts.ensures.exact)
    (λ h. let f = c.if-not-branch.true in absurd cc)

pub returns-clause-reached : goal.returns-clause-reached
returns-clause-reached c =
    let T = marks_of c.args.marked.now in
    let n = c.args.marked.now.order.vars in
    lifts_hold (plain_of c.args.space.now) c.args.gens.now c.args.cert.now c.args.limits.now c.requires.given c.requires.reached
    T n c.args.marked.now.order.weights.items c.requires.beside c.in_ok-theta.theta.items c.in_ok-theta.ensures.same c.in_ok-are_unmarked_lifts.field-0
    (seen_exact T n c.as_slice.result.now c.in_ok-theta.theta.items c.as_slice-2.result.now c.args.cert.now.lifts c.as_slice.ensures.value
    (c.as_slice-2.ensures.value ∙ ap (λ (x : CertificateOf ℕ). x.lifts) c.cert.view_is) c.in_ok-are_unmarked_lifts.field-0 c.in_ok-are_unmarked_lifts.ensures.exact)
    c.if-not-branch.false
