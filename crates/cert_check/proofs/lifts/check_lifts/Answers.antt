use Rattle.std.proofs.Common.{◌∙◌, ℕ, List, length, sym, ap, subst}
use Rattle.std.specs.Prelude.{All, Some}
use Rattle.alg_core.specs.declared.term.Term.{Term}
use Rattle.certificate_io.specs.Certificates.{CertificateOf}
use Rattle.cert_check.specs.Endings.{IsFirstFailing}
use Rattle.cert_check.specs.EvidenceLines.{AreLowTerms}
use Rattle.cert_check.specs.FormTests.{IsLiftAt}
use Rattle.cert_check.specs.SmallPolynomials.{IsSmallPoly}
use Rattle.cert_check.proofs.CheckedForms.{has_polynomials}
use Rattle.cert_check.proofs.CheckSpaces.{plain_of, marks_of}
use Rattle.cert_check.proofs.CombinationSteps.{small_polys}
use Rattle.cert_check.proofs.EvidenceParts.{polys_at, values_at}
use Rattle.cert_check.proofs.GivenParts.{given_primaries}
use Rattle.cert_check.proofs.InvariantForms.{weights_positive}
use Rattle.cert_check.proofs.KernelItems.{images_small}
use Rattle.cert_check.proofs.LiftTests.{small_lifts, low_lifts, lifts_hold, lifts_told}
use Rattle.cert_check.proofs.WordItems.{Item}
use Rattle.cert_check.proofs.lifts.check_lifts.Goals as goal

pub images-requires-clause-polynomials : goal.images-requires-clause-polynomials
images-requires-clause-polynomials c = has_polynomials (plain_of c.args.space.now) c.args.gens.now c.args.cert.now c.requires.given

pub images-requires-clause-theta : goal.images-requires-clause-theta
images-requires-clause-theta c =
    let S = plain_of c.args.space.now in
    small_polys S c.as_slice-theta.result.now
    (polys_at S c.args.cert.now.primaries c.as_slice-theta.result.now (c.as_slice-theta.ensures.value ∙ ap (λ (d : CertificateOf ℕ). d.primaries) c.cert.view_is)
    (given_primaries S c.args.gens.now c.args.cert.now c.requires.given))

pub first_other-requires-clause-polynomials : goal.first_other-requires-clause-polynomials
first_other-requires-clause-polynomials c = has_polynomials (plain_of c.args.space.now) c.args.gens.now c.args.cert.now c.requires.given

pub first_other-requires-clause-positive : goal.first_other-requires-clause-positive
first_other-requires-clause-positive c = weights_positive (plain_of c.args.space.now) c.args.gens.now c.args.cert.now c.requires.given

pub first_other-requires-clause-images : goal.first_other-requires-clause-images
first_other-requires-clause-images c =
    let S = plain_of c.args.space.now in
    polys_at S c.in_ok-images.images.items c.as_slice.result.now c.as_slice.ensures.value
    (images_small S c.args.gens.now c.args.cert.now c.requires.given c.in_ok-images.images.items c.in_ok-images.ensures.polys
    (values_at S c.in_ok-images.images.items c.args.cert.now.primaries c.as_slice-theta.result.now
    (c.as_slice-theta.ensures.value ∙ ap (λ (d : CertificateOf ℕ). d.primaries) c.cert.view_is) c.in_ok-images.ensures.are))

pub first_other-requires-clause-fs : goal.first_other-requires-clause-fs
first_other-requires-clause-fs c =
    let S = plain_of c.args.space.now in
    let M = marks_of c.args.marked.now in
    subst (All (IsSmallPoly M)) (sym (c.as_slice-lifts.ensures.value ∙ ap (λ (d : CertificateOf ℕ). d.lifts) c.cert.view_is))
    (small_lifts S c.args.gens.now c.args.cert.now c.args.limits.now c.requires.given c.requires.reached M c.args.marked.now.order.vars c.args.marked.now.order.weights.items c.requires.beside)

pub first_other-requires-clause-terms : goal.first_other-requires-clause-terms
first_other-requires-clause-terms c =
    let S = plain_of c.args.space.now in
    let M = marks_of c.args.marked.now in
    let are = values_at S c.in_ok-images.images.items c.args.cert.now.primaries c.as_slice-theta.result.now
    (c.as_slice-theta.ensures.value ∙ ap (λ (d : CertificateOf ℕ). d.primaries) c.cert.view_is) c.in_ok-images.ensures.are in
    subst (λ (fs : List (List (Term ℕ (List ℕ)))). All (AreLowTerms S.field (length c.as_slice.result.now)) fs) (sym (c.as_slice-lifts.ensures.value ∙ ap (λ (d : CertificateOf ℕ). d.lifts) c.cert.view_is))
    (subst (λ (vs : List (List (Term ℕ (List ℕ)))). All (AreLowTerms S.field (length vs)) c.args.cert.now.lifts) (sym c.as_slice.ensures.value)
    (low_lifts S c.args.gens.now c.args.cert.now c.args.limits.now c.requires.given c.requires.reached M c.args.marked.now.order.vars c.args.marked.now.order.weights.items c.requires.beside
    c.in_ok-images.images.items c.in_ok-images.ensures.polys are))

pub returns-clause-reached : goal.returns-clause-reached
returns-clause-reached c =
    let S = plain_of c.args.space.now in
    let M = marks_of c.args.marked.now in
    let are = values_at S c.in_ok-images.images.items c.args.cert.now.primaries c.as_slice-theta.result.now
    (c.as_slice-theta.ensures.value ∙ ap (λ (d : CertificateOf ℕ). d.primaries) c.cert.view_is) c.in_ok-images.ensures.are in
    lifts_hold S c.args.gens.now c.args.cert.now c.args.limits.now c.requires.given c.requires.reached M c.args.marked.now.order.vars c.args.marked.now.order.weights.items c.requires.beside
    c.in_ok-images.images.items c.in_ok-images.ensures.polys are
    (subst (λ (fs : List (List (Term ℕ (List ℕ)))). (j : ℕ) → Item (IsLiftAt S M c.in_ok-images.images.items) fs j) (c.as_slice-lifts.ensures.value ∙ ap (λ (d : CertificateOf ℕ). d.lifts) c.cert.view_is)
    (subst (λ (vs : List (List (Term ℕ (List ℕ)))). (j : ℕ) → Item (IsLiftAt S M vs) c.as_slice-lifts.result.now j) c.as_slice.ensures.value
    (subst (IsFirstFailing (Item (IsLiftAt S M c.as_slice.result.now) c.as_slice-lifts.result.now)) c.in-None.is c.in_ok-item.ensures.first)))

pub returns-in-Some-clause-told : goal.returns-in-Some-clause-told
returns-in-Some-clause-told c =
    let S = plain_of c.args.space.now in
    let M = marks_of c.args.marked.now in
    let are = values_at S c.in_ok-images.images.items c.args.cert.now.primaries c.as_slice-theta.result.now
    (c.as_slice-theta.ensures.value ∙ ap (λ (d : CertificateOf ℕ). d.primaries) c.cert.view_is) c.in_ok-images.ensures.are in
    lifts_told S c.args.gens.now c.args.cert.now c.args.limits.now c.requires.given c.requires.reached M c.args.marked.now.order.vars c.args.marked.now.order.weights.items c.requires.beside
    c.in_ok-images.images.items c.in_ok-images.ensures.polys are c.in-Some.item
    (subst (λ (fs : List (List (Term ℕ (List ℕ)))). IsFirstFailing (Item (IsLiftAt S M c.in_ok-images.images.items) fs) (Some c.in-Some.item)) (c.as_slice-lifts.ensures.value ∙ ap (λ (d : CertificateOf ℕ). d.lifts) c.cert.view_is)
    (subst (λ (vs : List (List (Term ℕ (List ℕ)))). IsFirstFailing (Item (IsLiftAt S M vs) c.as_slice-lifts.result.now) (Some c.in-Some.item)) c.as_slice.ensures.value
    (subst (IsFirstFailing (Item (IsLiftAt S M c.as_slice.result.now) c.as_slice-lifts.result.now)) c.in-Some.is c.in_ok-item.ensures.first)))
