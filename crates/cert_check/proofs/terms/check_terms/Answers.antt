use Rattle.std.proofs.Common.{inl, subst, arith}
use Rattle.std.specs.Prelude.{IfNone, IfSome, ℕ, ◌≡◌}
use Rattle.alg_core.specs.Binomials.{monomials_of_degree}
use Rattle.cert_check.specs.Conditions.{Secondaries}
use Rattle.cert_check.specs.Parts.{size}
use Rattle.cert_check.specs.Work.{IsPast, IsFirstPast}
use Rattle.cert_check.proofs.CheckSpaces.{plain_of}
use Rattle.cert_check.proofs.CheckedForms.{secondary_forms}
use Rattle.cert_check.proofs.CheckedTerms.{terms_hold, terms_told}
use Rattle.cert_check.proofs.terms.check_terms.Goals as goal

pub first_past-requires-clause-forms : goal.first_past-requires-clause-forms
first_past-requires-clause-forms c =
    secondary_forms (plain_of c.args.space.now) c.args.gens.now c.args.cert.now c.requires.given (λ j. c.requires.reached.met Secondaries j (inl (omega arith)))

pub returns-in-Some-clause-told : goal.returns-in-Some-clause-told
returns-in-Some-clause-told c =
    terms_told (plain_of c.args.space.now) c.args.gens.now c.args.cert.now c.args.limits.now c.requires.given c.requires.reached c.in-Some.degree c.in-Some.count
    (subst (λ o. IfSome o (λ r. IsFirstPast c.args.cert.now c.args.limits.now.max_terms r.0)) c.in-Some.is c.first_past.ensures.first)
    (subst (λ o. IfSome o (λ r. r.1 ≡ monomials_of_degree (size c.args.cert.now) r.0)) c.in-Some.is c.first_past.ensures.count)

pub returns-in-None-clause-reached : goal.returns-in-None-clause-reached
returns-in-None-clause-reached c =
    terms_hold (plain_of c.args.space.now) c.args.gens.now c.args.cert.now c.args.limits.now c.requires.given c.requires.reached
    (subst (λ o. IfNone o ((j : ℕ) → ¬ IsPast c.args.cert.now c.args.limits.now.max_terms j)) c.in-None.is c.first_past.ensures.none)
