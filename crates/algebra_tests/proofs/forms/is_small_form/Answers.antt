use Rattle.std.proofs.Common.{arith, subst}
use Rattle.std.specs.Prelude.{◌≤◌, IfSome}
use Rattle.alg_core.specs.Spaces.{over}
use Rattle.algebra_tests.proofs.TestedForms.{tested_form}
use Rattle.algebra_tests.proofs.forms.is_small_form.Goals as goal

pub returns-in-Some : goal.returns-in-Some
returns-in-Some g c =
    let S = over g.F.Field.field g.O.TermOrder.order c.args.space.now in
    let small = subst (λ o. IfSome o (λ d. d ≤ 1000)) c.in-Some.is c.first_total.ensures.small in
    record { is = λ yes. tested_form S c.in-Some.d c.args.p.now (omega arith) c.requires.vector (c.are_of_degree.ensures.all yes) }
