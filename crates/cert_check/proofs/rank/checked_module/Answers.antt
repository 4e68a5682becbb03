use Rattle.std.proofs.Common.{◌≡◌, ◌∙◌, ℕ, ◌+◌, Err, length, sym, ap, subst, arith}
use Rattle.certificate_io.specs.Certificates.{CertificateOf}
use Rattle.primary_module.specs.PrimaryModules.{AreForModule}
use Rattle.cert_check.specs.Endings.{IsTold}
use Rattle.cert_check.specs.declared.ending.Ending.TheVariants.{Rejected}
use Rattle.cert_check.proofs.CheckSpaces.{plain_of, marks_of}
use Rattle.cert_check.proofs.CheckedRank.{primaries_met, for_module, rank_bound, rank_ending, module_is, rank_holds, rank_told}
use Rattle.cert_check.proofs.rank.checked_module.Goals as goal

pub marked_primaries-requires-clause-met : goal.marked_primaries-requires-clause-met
marked_primaries-requires-clause-met c =
    primaries_met (plain_of c.args.space.now) c.args.gens.now c.args.cert.now c.args.limits.now c.requires.given c.requires.reached

pub new-requires-clause-given : goal.new-requires-clause-given
new-requires-clause-given c =
    let T = marks_of c.args.marked.now in
    let n = c.args.marked.now.order.vars in
    let ds = c.args.marked.now.order.weights.items in
    let lifts = c.in_ok-lifts.ensures.same ∙ c.as_slice.ensures.value ∙ ap (λ (x : CertificateOf ℕ). x.lifts) c.cert.view_is in
    subst (AreForModule T n ds c.in_ok-theta.theta.items) (sym lifts)
    (for_module (plain_of c.args.space.now) c.args.gens.now c.args.cert.now c.args.limits.now c.requires.given c.requires.reached
    T n ds c.requires.beside c.in_ok-theta.theta.items c.in_ok-theta.ensures.polynomials c.in_ok-theta.ensures.same)

pub returns-in_err-free_module-clause-told : goal.returns-in_err-free_module-clause-told
returns-in_err-free_module-clause-told c =
    rank_ending c.args.cert.now c.args.limits.now c.from_residual-in_err-free_module.result c.in_err-free_module.field-0.0 c.from_residual-in_err-free_module.ensures.1
    (λ counted e. rank_bound (plain_of c.args.space.now) c.args.gens.now c.args.cert.now c.args.limits.now c.requires.given c.requires.reached
    (marks_of c.args.marked.now) c.args.marked.now.order.vars c.args.marked.now.order.weights.items c.requires.beside
    c.in_ok-theta.theta.items c.in_ok-theta.ensures.polynomials c.in_ok-theta.ensures.same counted (c.in_err-free_module.ensures.bound counted (ap Err e)))

pub returns-then-monomials-cert-clause-told : goal.returns-then-monomials-cert-clause-told
returns-then-monomials-cert-clause-told c =
    let same = ap (λ (x : CertificateOf ℕ). length x.names) c.cert.view_is in
    let names : c.len.result ≡ length c.args.cert.now.names = omega (arith, same) in
    let rank = ap (λ (x : CertificateOf ℕ). x.rank) c.cert.view_is in
    let count = ap length c.monomials.ensures.is in
    subst (λ (n : ℕ). IsTold c.args.cert.now c.args.limits.now (Rejected 6 (n + 1))) (sym names)
    (rank_told (plain_of c.args.space.now) c.args.gens.now c.args.cert.now c.args.limits.now c.requires.given c.requires.reached
    (marks_of c.args.marked.now) c.args.marked.now.order.vars c.args.marked.now.order.weights.items c.requires.beside
    c.in_ok-theta.theta.items c.in_ok-theta.ensures.polynomials c.in_ok-theta.ensures.same c.in_ok-free_module.free_module
    c.in_ok-free_module.ensures.stands c.in_ok-free_module.ensures.theta c.in_ok-free_module.ensures.within
    (λ e. c.if-monomials-cert.true (count ∙ sym e ∙ sym rank)))

pub returns-clause-reached : goal.returns-clause-reached
returns-clause-reached c =
    let rank = ap (λ (x : CertificateOf ℕ). x.rank) c.cert.view_is in
    let count = ap length c.monomials.ensures.is in
    rank_holds (plain_of c.args.space.now) c.args.gens.now c.args.cert.now c.args.limits.now c.requires.given c.requires.reached
    (marks_of c.args.marked.now) c.args.marked.now.order.vars c.args.marked.now.order.weights.items c.requires.beside
    c.in_ok-theta.theta.items c.in_ok-theta.ensures.polynomials c.in_ok-theta.ensures.same c.in_ok-free_module.free_module
    c.in_ok-free_module.ensures.stands c.in_ok-free_module.ensures.theta c.in_ok-free_module.ensures.within
    (sym rank ∙ sym c.if-monomials-cert.false ∙ count)

pub returns-clause-module : goal.returns-clause-module
returns-clause-module c =
    module_is (plain_of c.args.space.now) c.args.gens.now c.args.cert.now c.args.limits.now c.requires.given c.requires.reached
    (marks_of c.args.marked.now) c.args.marked.now.order.vars c.args.marked.now.order.weights.items c.requires.beside
    c.in_ok-theta.theta.items c.in_ok-theta.ensures.polynomials c.in_ok-theta.ensures.same c.in_ok-free_module.free_module
    c.in_ok-free_module.ensures.stands c.in_ok-free_module.ensures.theta c.in_ok-free_module.ensures.within
