use Rattle.std.proofs.Common.{arith, sym, subst}
use Rattle.alg_core.specs.Spaces.{over}
use Rattle.poly_module.specs.SpaceVectors.{IsVector}
use Rattle.secondary_gens.specs.Forms.{IsPositiveForm}
use Rattle.algebra_tests.proofs.TestedForms.{more_tested, all_tested}
use Rattle.algebra_tests.proofs.forms.are_positive_forms.Goals as goal

pub is_positive_form-requires : goal.is_positive_form-requires
is_positive_form-requires g c =
    let S = over g.F.Field.field g.O.TermOrder.order c.args.space.now in
    record { vector = subst (IsVector S (λ m. m)) (sym c.index-ps-i.is) (c.requires.vectors c.loop-i.i c.index-ps-i.result c.loop-i-test.true) }

pub loop-i-preserved : goal.loop-i-preserved
loop-i-preserved g c =
    let S = over g.F.Field.field g.O.TermOrder.order c.args.space.now in
    more_tested (IsPositiveForm S) c.args.ps.now c.loop-i.i c.index-ps-i.result c.loop-i-test.true c.index-ps-i.is c.loop-i.invariant (c.is_positive_form.ensures.is c.if-not-is_positive_form.false)

pub returns : goal.returns
returns g c = record { are = λ _. all_tested (IsPositiveForm (over g.F.Field.field g.O.TermOrder.order c.args.space.now)) c.args.ps.now c.loop-i.i (omega arith) c.loop-i.invariant }
