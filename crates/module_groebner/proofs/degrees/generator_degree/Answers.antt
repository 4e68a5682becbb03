use Rattle.std.proofs.Common.{rules, ◌<◌, length, ap, ◌∙◌}
use Rattle.std.proofs.lemmas.Grind.{common_steps}
use Rattle.std.proofs.Common.{arith}
use Rattle.alg_core.specs.Spaces.{over, entries}
use Rattle.module_groebner.specs.Items.{first_degree}
use Rattle.module_groebner.proofs.DegreeSteps.{degree_of_first}
use Rattle.module_groebner.proofs.degrees.generator_degree.Goals as goal

pub returns : goal.returns
returns g c =
    let S = over g.F.Field.field g.O.TermOrder.order c.args.space.now in
    let some : 0 < length c.terms-terms.result.now = first_of (search rules, grind (arith, common_steps)) in
    record { is = degree_of_first (λ m. m) S c.terms-terms.result.now c.index-terms-0.result _ some c.index-terms-0.is c.term_degree.ensures.is ∙ ap (λ l. first_degree S.weights S.shifts (entries (λ m. m) l)) c.terms-terms.ensures.is }
