use Rattle.std.proofs.Common.{◌∙◌, sym, inl, ap, subst, arith}
use Rattle.std.specs.Prelude.{All, IfNone, IfSome}
use Rattle.poly_module.specs.SpaceVectors.{vectors_of}
use Rattle.secondary_gens.specs.Forms.{IsPositiveForm}
use Rattle.irreducible_gens.specs.Irreducibles.{AreNeeded, IsFirstReducible}
use Rattle.cert_check.specs.Conditions.{Primaries, Words}
use Rattle.cert_check.proofs.CheckedForms.{has_polynomials, irreducible_forms}
use Rattle.cert_check.proofs.CheckedPrimaries.{positive_forms}
use Rattle.cert_check.proofs.CheckedLast.{reducibility_holds, reducibility_told}
use Rattle.cert_check.proofs.CheckSpaces.{plain_of}
use Rattle.cert_check.proofs.reducibility.check_reducibility.Goals as goal

pub first_reducible-requires-clause-polynomials : goal.first_reducible-requires-clause-polynomials
first_reducible-requires-clause-polynomials c = has_polynomials (plain_of c.args.space.now) c.args.gens.now c.args.cert.now c.requires.given

pub first_reducible-requires-clause-primaries : goal.first_reducible-requires-clause-primaries
first_reducible-requires-clause-primaries c =
    subst (All (IsPositiveForm (plain_of c.args.space.now))) (sym (c.as_slice-theta.ensures.value ∙ ap (λ x. x.primaries) c.cert.view_is))
    (positive_forms (plain_of c.args.space.now) c.args.gens.now c.args.cert.now c.requires.given (λ j. c.requires.reached.met Primaries j (inl (omega arith))))

pub first_reducible-requires-clause-irreducibles : goal.first_reducible-requires-clause-irreducibles
first_reducible-requires-clause-irreducibles c =
    subst (All (IsPositiveForm (plain_of c.args.space.now))) (sym (c.as_slice-irr.ensures.value ∙ ap (λ x. x.irreducibles) c.cert.view_is))
    (irreducible_forms (plain_of c.args.space.now) c.args.gens.now c.args.cert.now c.requires.given (λ j. c.requires.reached.met Words j (inl (omega arith))))

pub returns-in-None-clause-passes : goal.returns-in-None-clause-passes
returns-in-None-clause-passes c =
    let S = plain_of c.args.space.now in
    let x = vectors_of S (λ m. m) in
    reducibility_holds S c.args.gens.now c.args.cert.now c.args.limits.now c.requires.given c.requires.reached
    (subst (AreNeeded S.field (x c.args.cert.now.primaries)) (ap x (c.as_slice-irr.ensures.value ∙ ap (λ x. x.irreducibles) c.cert.view_is))
    (subst (λ t. AreNeeded S.field t (x c.as_slice-irr.result.now)) (ap x (c.as_slice-theta.ensures.value ∙ ap (λ x. x.primaries) c.cert.view_is))
    (subst (λ o. IfNone o (AreNeeded S.field (x c.as_slice-theta.result.now) (x c.as_slice-irr.result.now))) c.in-None.is c.in_ok-item.ensures.none)))

pub returns-in-Some-clause-told : goal.returns-in-Some-clause-told
returns-in-Some-clause-told c =
    let S = plain_of c.args.space.now in
    let x = vectors_of S (λ m. m) in
    reducibility_told S c.args.gens.now c.args.cert.now c.args.limits.now c.requires.given c.in-Some.item c.requires.reached
    (subst (λ s. IsFirstReducible S.field (x c.args.cert.now.primaries) s c.in-Some.item) (ap x (c.as_slice-irr.ensures.value ∙ ap (λ x. x.irreducibles) c.cert.view_is))
    (subst (λ t. IsFirstReducible S.field t (x c.as_slice-irr.result.now) c.in-Some.item) (ap x (c.as_slice-theta.ensures.value ∙ ap (λ x. x.primaries) c.cert.view_is))
    (subst (λ o. IfSome o (IsFirstReducible S.field (x c.as_slice-theta.result.now) (x c.as_slice-irr.result.now))) c.in-Some.is c.in_ok-item.ensures.some)))
