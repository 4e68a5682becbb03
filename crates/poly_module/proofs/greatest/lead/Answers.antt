use Rattle.std.proofs.Common.{◌≡◌, ◌↔◌, arith}
use Rattle.std.specs.Prelude.{IsNone, IfSome, slice_get, option_copied}
use Rattle.std.specs.declared.option.Option.TheVariants.{None, Some}
use Rattle.alg_core.specs.Fields.{scalar, scalars, is_field}
use Rattle.alg_core.specs.Keys.{key, key_same}
use Rattle.alg_core.specs.CanonicalLists.{IsLead}
use Rattle.alg_core.specs.Spaces.{over, place, entry, entries, IsTerm}
use Rattle.alg_core.specs.SpaceOrder.{key_order}
use Rattle.alg_core.specs.Vectors.{coef_at, vec, zero_vector}
use Rattle.poly_module.proofs.Leads.{lead_none, lead_some, lead_value, lead_is_term}
use Rattle.poly_module.proofs.greatest.lead.Goals as goal

pub returns-clause-none : goal.returns-clause-none
returns-clause-none g c =
    let S = over g.F.Field.field g.O.TermOrder.order c.args.space.now in
    let exps = g.M.Monomial.exps in
    let first : option_copied c.first.result ≡ slice_get c.args.a.now 0 = grind arith in
    elim c.first.result as (λ r. option_copied r ≡ slice_get c.args.a.now 0 → IsNone r ↔ (vec S.field (entries exps c.args.a.now) ≡ zero_vector S.field)) [
      | None ↦ λ h. lead_none S exps c.args.a.now None h c.requires.vector
      | Some t ↦ λ h. lead_none S exps c.args.a.now (Some t.now) h c.requires.vector
    ] first

pub returns-clause-lead : goal.returns-clause-lead
returns-clause-lead g c =
    let S = over g.F.Field.field g.O.TermOrder.order c.args.space.now in
    let exps = g.M.Monomial.exps in
    let first : option_copied c.first.result ≡ slice_get c.args.a.now 0 = grind arith in
    elim c.first.result as (λ r. option_copied r ≡ slice_get c.args.a.now 0 → IfSome r (λ t. IsLead (scalars S.field) (is_field S.field) key_same (key_order S) (vec S.field (entries exps c.args.a.now)) (key (place exps t.now.at)))) [
      | None ↦ λ h. lead_some S exps c.args.a.now None h c.requires.vector
      | Some t ↦ λ h. lead_some S exps c.args.a.now (Some t.now) h c.requires.vector
    ] first

pub returns-clause-coefficient : goal.returns-clause-coefficient
returns-clause-coefficient g c =
    let S = over g.F.Field.field g.O.TermOrder.order c.args.space.now in
    let exps = g.M.Monomial.exps in
    let first : option_copied c.first.result ≡ slice_get c.args.a.now 0 = grind arith in
    elim c.first.result as (λ r. option_copied r ≡ slice_get c.args.a.now 0 → IfSome r (λ t. coef_at S.field (vec S.field (entries exps c.args.a.now)) (key (place exps t.now.at)) ≡ scalar S.field t.now.coef)) [
      | None ↦ λ h. tt
      | Some t ↦ λ h. lead_value S exps c.args.a.now t.now h c.requires.vector
    ] first

pub returns-clause-term : goal.returns-clause-term
returns-clause-term g c =
    let S = over g.F.Field.field g.O.TermOrder.order c.args.space.now in
    let exps = g.M.Monomial.exps in
    let first : option_copied c.first.result ≡ slice_get c.args.a.now 0 = grind arith in
    elim c.first.result as (λ r. option_copied r ≡ slice_get c.args.a.now 0 → IfSome r (λ t. IsTerm S (entry exps t.now))) [
      | None ↦ λ h. tt
      | Some t ↦ λ h. lead_is_term S exps c.args.a.now t.now h c.requires.vector
    ] first
