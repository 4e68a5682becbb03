use Rattle.std.proofs.Common.{◌∙◌, ◌≡◌, take, ap, arith}
use Rattle.primary_module.proofs.MonomialSteps.{taken_more}
use Rattle.primary_module.proofs.standard.first_variables.Goals as goal

pub loop-i-preserved : goal.loop-i-preserved
loop-i-preserved c =
    taken_more c.args.mono.now c.loop-i.i c.exp.result c.loop-i.exponents.items c.push.new.self.items (omega arith) c.in_ok-push.ensures.items c.loop-i.invariant c.exp.ensures.is

pub returns : goal.returns
returns c =
    let all : c.loop-i.i ≡ c.args.n = omega arith in
    record { is = c.in_ok-part.ensures.is ∙ c.as_slice.ensures.value ∙ c.loop-i.invariant ∙ ap (λ i. take i c.args.mono.now) all }
