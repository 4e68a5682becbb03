use Rattle.std.proofs.Common.{arith}
use Rattle.algebra_tests.proofs.SmallVectors.{all_positive}
use Rattle.algebra_tests.proofs.conditions.are_positive.Goals as goal

pub returns : goal.returns
returns c = record { is = λ _. all_positive c.args.weights.now (λ k b. c.loop-i.invariant k (omega arith)) }
