use Rattle.primary_module.proofs.MonomialSteps.{below_step}
use Rattle.primary_module.proofs.standard.next_degree.Goals as goal

pub loop-i-preserved : goal.loop-i-preserved
loop-i-preserved c =
    below_step c.args.leads.now c.args.n c.args.monomials.now c.loop-i.i c.loop-i.list.items c.add_multiples.new.list.items _ c.loop-i-test.true c.in_ok-add_multiples.ensures.added c.loop-i.invariant
