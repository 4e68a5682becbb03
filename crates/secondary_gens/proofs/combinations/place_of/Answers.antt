use Rattle.std.proofs.Common.{◌∙◌, sym}
use Rattle.secondary_gens.proofs.ProductSteps.{read_map}
use Rattle.secondary_gens.proofs.combinations.place_of.Goals as goal

pub returns-then-one-d-clause-degree : goal.returns-then-one-d-clause-degree
returns-then-one-d-clause-degree g c =
    sym (read_map (λ s. s.degree) c.args.solved.now c.loop-i.i c.index-solved-i.result 0 c.loop-i-test.true c.index-solved-i.is) ∙ c.if-one-d.true
