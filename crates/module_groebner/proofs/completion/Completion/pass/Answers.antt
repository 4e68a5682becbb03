use Rattle.alg_core.specs.Spaces.{over}
use Rattle.module_groebner.proofs.LinkSteps.{passed}
use Rattle.module_groebner.proofs.completion.Completion.pass.Goals as goal

pub returns : goal.returns
returns g c =
    let S = over g.F.Field.field g.O.TermOrder.order c.args._space.now in
    let all = passed S c.args.self.now c.requires.stands c.take.new.self c.args.pair c.take.ensures.taken c.requires.current c.requires.treated in
    record { stands = all.stands; extends = all.extends; treats = all.treats; falls = all.falls }
