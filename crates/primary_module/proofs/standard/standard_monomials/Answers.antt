use Rattle.std.proofs.Common.{Err, ap}
use Rattle.finite_certificate.specs.MarkSpaces.{mark_space}
use Rattle.primary_module.specs.declared.fault.RankFault.TheVariants.{RankBound}
use Rattle.primary_module.proofs.MonomialSteps.{error_same}
use Rattle.primary_module.proofs.StandardLeads.{leads_wide, one_undivided, are_standard, are_over}
use Rattle.primary_module.proofs.standard.standard_monomials.Goals as goal

pub undivided_monomials-requires-clause-wide : goal.undivided_monomials-requires-clause-wide
undivided_monomials-requires-clause-wide g c =
    let order = c.args.space.now.order in
    leads_wide (mark_space g.F.Field.field c.args.space.now) order.vars order.weights.items c.args.theta.now c.args.lifts.now c.requires.given c.as_slice.result.now c.in_ok-leads.leads.items c.as_slice.ensures.value c.in_ok-leads.ensures.are

pub undivided_monomials-requires-clause-one : goal.undivided_monomials-requires-clause-one
undivided_monomials-requires-clause-one g c =
    let order = c.args.space.now.order in
    one_undivided (mark_space g.F.Field.field c.args.space.now) order.vars order.weights.items c.args.theta.now c.args.lifts.now c.requires.given c.as_slice.result.now c.in_ok-leads.leads.items c.as_slice.ensures.value c.in_ok-leads.ensures.are

pub returns-in_err-monomials-clause-bound : goal.returns-in_err-monomials-clause-bound
returns-in_err-monomials-clause-bound g c = λ counted e.
    let order = c.args.space.now.order in
    let same = error_same c.from_residual-in_err-monomials.result c.in_err-monomials.field-0.0 (RankBound counted) c.from_residual-in_err-monomials.ensures.1 e in
    let told = c.in_err-monomials.ensures.bound counted (ap (λ x. Err x) same) in (
      told.0,
      are_over (mark_space g.F.Field.field c.args.space.now) order.vars order.weights.items c.args.theta.now c.args.lifts.now c.requires.given c.as_slice.result.now c.in_ok-leads.leads.items c.as_slice.ensures.value c.in_ok-leads.ensures.are counted c.args.max_rank told.0 told.1,
    )

pub returns-clause-monomials : goal.returns-clause-monomials
returns-clause-monomials g c =
    let order = c.args.space.now.order in
    are_standard (mark_space g.F.Field.field c.args.space.now) order.vars order.weights.items c.args.theta.now c.args.lifts.now c.requires.given c.as_slice.result.now c.in_ok-leads.leads.items c.as_slice.ensures.value c.in_ok-leads.ensures.are c.in_ok-monomials.monomials.items
    c.in_ok-monomials.ensures.are
