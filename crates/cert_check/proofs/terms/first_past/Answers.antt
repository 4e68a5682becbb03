use Rattle.std.proofs.Common.{◌≡◌, ◌∙◌, ◌<◌, ◌≤◌, ap, sym, subst, length, get_or, arith}
use Rattle.std.specs.Prelude.{All}
use Rattle.alg_core.specs.Binomials.{monomials_of_degree}
use Rattle.secondary_gens.specs.Forms.{IsSmallForm}
use Rattle.cert_check.proofs.CheckSpaces.{plain_of}
use Rattle.cert_check.proofs.CheckedTerms.{one_more_kept, first_past_here, none_past}
use Rattle.cert_check.proofs.terms.first_past.Goals as goal

pub degree-d-requires : goal.degree-d-requires
degree-d-requires c =
    let S = plain_of c.args.space.now in
    let secs = c.as_slice-secs.ensures.value ∙ ap (λ x. x.secondaries) c.cert.view_is in
    record {
      form = subst (IsSmallForm S) (sym c.index-secs-i.is) (subst (All (IsSmallForm S)) (sym secs) c.requires.forms c.loop-i.i c.index-secs-i.result c.loop-i-test.true);
    }

pub returns-then-count-from-clause-first : goal.returns-then-count-from-clause-first
returns-then-count-from-clause-first c =
    let secs = c.as_slice-secs.ensures.value ∙ ap (λ x. x.secondaries) c.cert.view_is in
    let whole = c.cert.inside.names.ok.0 in
    let same = ap (λ x. length x.names) c.cert.view_is in
    let names : c.len.result ≡ length c.args.cert.now.names = omega (arith, whole, same, c.len.ensures) in
    first_past_here c.args.cert.now c.args.max_terms c.loop-i.i c.index-secs-i.result
    (subst (λ ps. c.loop-i.i < length ps) secs c.loop-i-test.true) (c.index-secs-i.is ∙ ap (λ ps. get_or ps c.loop-i.i c.index-secs-i.result) secs)
    c.degree-d.result c.monomial_count-count.result c.degree-d.ensures.is
    (c.monomial_count-count.ensures.is ∙ ap (λ n. monomials_of_degree n c.degree-d.result) names)
    (omega (arith, c.if-count-from.true, c.from.ensures)) c.loop-i.invariant

pub loop-i-preserved : goal.loop-i-preserved
loop-i-preserved c =
    let secs = c.as_slice-secs.ensures.value ∙ ap (λ x. x.secondaries) c.cert.view_is in
    let whole = c.cert.inside.names.ok.0 in
    let same = ap (λ x. length x.names) c.cert.view_is in
    let names : c.len.result ≡ length c.args.cert.now.names = omega (arith, whole, same, c.len.ensures) in
    one_more_kept c.args.cert.now c.args.max_terms c.loop-i.i c.index-secs-i.result
    (subst (λ ps. c.loop-i.i < length ps) secs c.loop-i-test.true) (c.index-secs-i.is ∙ ap (λ ps. get_or ps c.loop-i.i c.index-secs-i.result) secs)
    c.degree-d.result c.monomial_count-count.result c.degree-d.ensures.is
    (c.monomial_count-count.ensures.is ∙ ap (λ n. monomials_of_degree n c.degree-d.result) names)
    (λ h. omega (arith, h, c.if-count-from.false, c.from.ensures)) c.loop-i.invariant

pub returns-clause-none : goal.returns-clause-none
returns-clause-none c =
    let secs = c.as_slice-secs.ensures.value ∙ ap (λ x. x.secondaries) c.cert.view_is in
    none_past c.args.cert.now c.args.max_terms c.loop-i.i (subst (λ ps. length ps ≤ c.loop-i.i) secs c.loop-i-test.false) c.loop-i.invariant
