use Rattle.std.proofs.Common.{ap, ◌∙◌, arith}
use Rattle.std.proofs.lemmas.List.{take_all}
use Rattle.poly_module.specs.GreatestExponents.{total}
use Rattle.secondary_gens.proofs.FormDegrees.{total_more}
use Rattle.algebra_tests.proofs.forms.small_total.Goals as goal

pub loop-i-preserved : goal.loop-i-preserved
loop-i-preserved c =
    let a = total_more c.args.m.now c.loop-i.i (omega (arith, c.loop-i-test.true, c.len-i-end.ensures.is, c.loop-i.auto.i-end)) in
    record {
      is = omega (arith, c.loop-i.invariant.is, c.exp-e.ensures.is);
      small = omega (arith, c.loop-i.invariant.small);
    }

pub returns-clause-is : goal.returns-clause-is
returns-clause-is c = c.loop-i.invariant.is ∙ ap total (take_all c.loop-i.i c.args.m.now (omega (arith, c.loop-i-test.false, c.len-i-end.ensures.is, c.loop-i.auto.i-end)))
