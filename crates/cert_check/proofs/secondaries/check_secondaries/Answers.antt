use Rattle.std.proofs.Common.{◌∙◌, ℕ, List, sym, ap, subst}
use Rattle.std.specs.Prelude.{All, Some}
use Rattle.alg_core.specs.declared.term.Term.{Term}
use Rattle.certificate_io.specs.Certificates.{CertificateOf}
use Rattle.cert_check.specs.Endings.{IsFirstFailing}
use Rattle.cert_check.specs.SmallPolynomials.{IsSmallPoly}
use Rattle.cert_check.proofs.CheckedForms.{has_polynomials}
use Rattle.cert_check.proofs.CheckSpaces.{plain_of}
use Rattle.cert_check.proofs.WordItems.{Item}
use Rattle.cert_check.proofs.GivenParts.{given_secondaries}
use Rattle.cert_check.proofs.InvariantForms.{Passes, acting, weights_positive, secondaries_hold, secondaries_told}
use Rattle.cert_check.proofs.secondaries.check_secondaries.Goals as goal

pub first_other-requires-clause-polynomials : goal.first_other-requires-clause-polynomials
first_other-requires-clause-polynomials c = has_polynomials (plain_of c.args.space.now) c.args.gens.now c.args.cert.now c.requires.given

pub first_other-requires-clause-positive : goal.first_other-requires-clause-positive
first_other-requires-clause-positive c = weights_positive (plain_of c.args.space.now) c.args.gens.now c.args.cert.now c.requires.given

pub first_other-requires-clause-matrices : goal.first_other-requires-clause-matrices
first_other-requires-clause-matrices c = acting (plain_of c.args.space.now) c.args.gens.now c.args.cert.now c.requires.given

pub first_other-requires-clause-fs : goal.first_other-requires-clause-fs
first_other-requires-clause-fs c =
    let S = plain_of c.args.space.now in
    subst (All (IsSmallPoly S)) (sym (c.as_slice.ensures.value ∙ ap (λ (x : CertificateOf ℕ). x.secondaries) c.cert.view_is)) (given_secondaries S c.args.gens.now c.args.cert.now c.requires.given)

pub returns-in-None-clause-reached : goal.returns-in-None-clause-reached
returns-in-None-clause-reached c =
    let S = plain_of c.args.space.now in
    let P = Passes S c.args.gens.now c.args.cert.now c.requires.given 0 in
    let same = c.as_slice.ensures.value ∙ ap (λ (x : CertificateOf ℕ). x.secondaries) c.cert.view_is in
    secondaries_hold S c.args.gens.now c.args.cert.now c.requires.given c.args.limits.now c.requires.reached
    (subst (λ (fs : List (List (Term ℕ (List ℕ)))). (j : ℕ) → Item P fs j) same (subst (IsFirstFailing (Item P c.as_slice.result.now)) c.in-None.is c.in_ok-item.ensures.first))

pub returns-in-Some-clause-told : goal.returns-in-Some-clause-told
returns-in-Some-clause-told c =
    let S = plain_of c.args.space.now in
    let P = Passes S c.args.gens.now c.args.cert.now c.requires.given 0 in
    let same = c.as_slice.ensures.value ∙ ap (λ (x : CertificateOf ℕ). x.secondaries) c.cert.view_is in
    secondaries_told S c.args.gens.now c.args.cert.now c.requires.given c.args.limits.now c.requires.reached c.in-Some.item
    (subst (λ (fs : List (List (Term ℕ (List ℕ)))). IsFirstFailing (Item P fs) (Some c.in-Some.item)) same (subst (IsFirstFailing (Item P c.as_slice.result.now)) c.in-Some.is c.in_ok-item.ensures.first))
