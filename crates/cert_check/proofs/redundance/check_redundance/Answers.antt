use Rattle.std.proofs.Common.{◌∙◌, sym, inl, ap, subst, arith}
use Rattle.std.specs.Prelude.{All, IfNone, IfSome}
use Rattle.poly_module.specs.SpaceVectors.{vectors_of}
use Rattle.secondary_gens.specs.Forms.{IsPositiveForm, IsSmallForm}
use Rattle.secondary_gens.specs.Secondaries.{IsIrredundant, IsFirstRedundant}
use Rattle.cert_check.specs.Conditions.{Primaries, Secondaries}
use Rattle.cert_check.proofs.CheckedForms.{has_polynomials, secondary_forms}
use Rattle.cert_check.proofs.CheckedPrimaries.{positive_forms}
use Rattle.cert_check.proofs.CheckedLast.{redundance_holds, redundance_told}
use Rattle.cert_check.proofs.CheckSpaces.{plain_of}
use Rattle.cert_check.proofs.redundance.check_redundance.Goals as goal

pub first_redundant-requires-clause-polynomials : goal.first_redundant-requires-clause-polynomials
first_redundant-requires-clause-polynomials c = has_polynomials (plain_of c.args.space.now) c.args.gens.now c.args.cert.now c.requires.given

pub first_redundant-requires-clause-primaries : goal.first_redundant-requires-clause-primaries
first_redundant-requires-clause-primaries c =
    subst (All (IsPositiveForm (plain_of c.args.space.now))) (sym (c.as_slice-theta.ensures.value ∙ ap (λ x. x.primaries) c.cert.view_is))
    (positive_forms (plain_of c.args.space.now) c.args.gens.now c.args.cert.now c.requires.given (λ j. c.requires.reached.met Primaries j (inl (omega arith))))

pub first_redundant-requires-clause-secondaries : goal.first_redundant-requires-clause-secondaries
first_redundant-requires-clause-secondaries c =
    subst (All (IsSmallForm (plain_of c.args.space.now))) (sym (c.as_slice-secs.ensures.value ∙ ap (λ x. x.secondaries) c.cert.view_is))
    (secondary_forms (plain_of c.args.space.now) c.args.gens.now c.args.cert.now c.requires.given (λ j. c.requires.reached.met Secondaries j (inl (omega arith))))

pub returns-in-None-clause-reached : goal.returns-in-None-clause-reached
returns-in-None-clause-reached c =
    let S = plain_of c.args.space.now in
    let x = vectors_of S (λ m. m) in
    redundance_holds S c.args.gens.now c.args.cert.now c.args.limits.now c.requires.given c.requires.reached
    (subst (IsIrredundant S.field (x c.args.cert.now.primaries)) (ap x (c.as_slice-secs.ensures.value ∙ ap (λ x. x.secondaries) c.cert.view_is))
    (subst (λ t. IsIrredundant S.field t (x c.as_slice-secs.result.now)) (ap x (c.as_slice-theta.ensures.value ∙ ap (λ x. x.primaries) c.cert.view_is))
    (subst (λ o. IfNone o (IsIrredundant S.field (x c.as_slice-theta.result.now) (x c.as_slice-secs.result.now))) c.in-None.is c.in_ok-item.ensures.none)))

pub returns-in-Some-clause-told : goal.returns-in-Some-clause-told
returns-in-Some-clause-told c =
    let S = plain_of c.args.space.now in
    let x = vectors_of S (λ m. m) in
    redundance_told S c.args.gens.now c.args.cert.now c.args.limits.now c.requires.given c.in-Some.item c.requires.reached
    (subst (λ s. IsFirstRedundant S.field (x c.args.cert.now.primaries) s c.in-Some.item) (ap x (c.as_slice-secs.ensures.value ∙ ap (λ x. x.secondaries) c.cert.view_is))
    (subst (λ t. IsFirstRedundant S.field t (x c.as_slice-secs.result.now) c.in-Some.item) (ap x (c.as_slice-theta.ensures.value ∙ ap (λ x. x.primaries) c.cert.view_is))
    (subst (λ o. IfSome o (IsFirstRedundant S.field (x c.as_slice-theta.result.now) (x c.as_slice-secs.result.now))) c.in-Some.is c.in_ok-item.ensures.some)))
