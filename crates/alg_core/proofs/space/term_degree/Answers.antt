use Rattle.std.proofs.Common.{◌+◌, ap, ap₂, ◌∙◌, sym}
use Rattle.std.proofs.lemmas.List.{get_or_read}
use Rattle.alg_core.specs.DpOrder.{weighted_degree}
use Rattle.alg_core.specs.Spaces.{over, place}
use Rattle.alg_core.proofs.PlaceDegrees.{degree_key}
use Rattle.alg_core.proofs.space.term_degree.Goals as goal

pub returns : goal.returns
returns g c =
    let S = over g.F.Field.field g.O.TermOrder.order c.args.space.now in
    let exps = g.M.Monomial.exps in
    let p = c.requires.place in
    let monomial = c.weighted_degree-monomial.ensures.is ∙ ap (λ w. weighted_degree w (exps c.args.at.now.mono)) c.as_slice.ensures.value in
    let shift = get_or_read S.shifts c.args.at.now.pos c.index.result.now p.low c.index.ensures 0 in
    record { is = ap₂ (λ x y. x + y) monomial shift ∙ sym (degree_key S (place exps c.args.at.now) p.wide p.low) }
