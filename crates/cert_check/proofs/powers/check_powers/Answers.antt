use Rattle.std.proofs.Common.{◌∙◌, ℕ, sym, ap, inl, refl, subst, arith}
use Rattle.std.specs.Prelude.{All, IfSome, IsNone}
use Rattle.certificate_io.specs.Certificates.{CertificateOf}
use Rattle.finite_certificate.specs.Finiteness.{AreLow, FiniteBy, IsFirstFailure, IsLowPower, powers_of}
use Rattle.poly_module.specs.SpaceVectors.{vectors_of}
use Rattle.cert_check.specs.Conditions.{Primaries}
use Rattle.cert_check.proofs.CheckSpaces.{plain_of, marks_of}
use Rattle.cert_check.proofs.CheckedPrimaries.{positive_is, space_is, low_is}
use Rattle.cert_check.proofs.CheckedPowers.{low_powers, powers_hold, powers_fail}
use Rattle.cert_check.proofs.powers.check_powers.Goals as goal

pub marked_primaries-requires-clause-met : goal.marked_primaries-requires-clause-met
marked_primaries-requires-clause-met c = λ j. c.requires.reached.met Primaries j (inl (omega arith))

pub verify-requires-clause-positive : goal.verify-requires-clause-positive
verify-requires-clause-positive c =
    positive_is (plain_of c.args.space.now) c.args.gens.now c.args.cert.now c.requires.given (λ j. c.requires.reached.met Primaries j (inl (omega arith)))
    (marks_of c.args.marked.now) c.args.marked.now.order.vars c.args.marked.now.order.weights.items c.requires.beside

pub verify-requires-clause-space : goal.verify-requires-clause-space
verify-requires-clause-space c =
    space_is (plain_of c.args.space.now) c.args.gens.now c.args.cert.now c.requires.given (λ j. c.requires.reached.met Primaries j (inl (omega arith)))
    (marks_of c.args.marked.now) c.args.marked.now.order.vars c.args.marked.now.order.weights.items c.requires.beside

pub verify-requires-clause-theta : goal.verify-requires-clause-theta
verify-requires-clause-theta c =
    let T = marks_of c.args.marked.now in
    subst (AreLow T) (sym c.as_slice.ensures.value)
    (low_is (plain_of c.args.space.now) c.args.gens.now c.args.cert.now c.requires.given (λ j. c.requires.reached.met Primaries j (inl (omega arith)))
    T c.args.marked.now.order.vars c.args.marked.now.order.weights.items c.requires.beside c.in_ok-theta.theta.items c.in_ok-theta.ensures.polynomials c.in_ok-theta.ensures.same)

pub verify-requires-clause-powers : goal.verify-requires-clause-powers
verify-requires-clause-powers c =
    let T = marks_of c.args.marked.now in
    subst (All (IsLowPower T)) (sym (c.as_slice-2.ensures.value ∙ ap (λ (x : CertificateOf ℕ). x.powers) c.cert.view_is))
    (low_powers (plain_of c.args.space.now) c.args.gens.now c.args.cert.now c.args.limits.now c.requires.given c.requires.reached
    T c.args.marked.now.order.vars c.args.marked.now.order.weights.items c.requires.beside)

pub returns-in-None-clause-reached : goal.returns-in-None-clause-reached
returns-in-None-clause-reached c =
    let T = marks_of c.args.marked.now in
    let n = c.args.marked.now.order.vars in
    let powers = c.as_slice-2.ensures.value ∙ ap (λ (x : CertificateOf ℕ). x.powers) c.cert.view_is in
    powers_hold (plain_of c.args.space.now) c.args.gens.now c.args.cert.now c.args.limits.now c.requires.given c.requires.reached
    T n c.args.marked.now.order.weights.items c.requires.beside c.in_ok-theta.theta.items c.in_ok-theta.ensures.same
    (subst (λ ps. FiniteBy T.field n (vectors_of T (λ m. m) c.in_ok-theta.theta.items) (powers_of T ps)) powers
    (subst (λ ps. FiniteBy T.field n (vectors_of T (λ m. m) ps) (powers_of T c.as_slice-2.result.now)) c.as_slice.ensures.value (c.in_ok-verify.ensures.none.0 (subst IsNone (sym c.in-None.is) refl))))

pub returns-clause-told : goal.returns-clause-told
returns-clause-told c =
    let T = marks_of c.args.marked.now in
    let n = c.args.marked.now.order.vars in
    let x = vectors_of T (λ m. m) in
    let powers = c.as_slice-2.ensures.value ∙ ap (λ (x : CertificateOf ℕ). x.powers) c.cert.view_is in
    powers_fail (plain_of c.args.space.now) c.args.gens.now c.args.cert.now c.args.limits.now c.requires.given c.requires.reached
    T n c.args.marked.now.order.weights.items c.requires.beside c.in_ok-theta.theta.items c.in_ok-theta.ensures.same c.in-Some.item
    (subst (λ ps. IsFirstFailure T.field n (x c.in_ok-theta.theta.items) (powers_of T ps) c.in-Some.item) powers
    (subst (λ ps. IsFirstFailure T.field n (x ps) (powers_of T c.as_slice-2.result.now) c.in-Some.item) c.as_slice.ensures.value
    (subst (λ o. IfSome o (IsFirstFailure T.field n (x c.as_slice.result.now) (powers_of T c.as_slice-2.result.now))) c.in-Some.is c.in_ok-verify.ensures.first)))
