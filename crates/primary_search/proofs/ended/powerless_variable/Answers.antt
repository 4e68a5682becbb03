use Rattle.std.proofs.Common.{arith}
use Rattle.primary_search.proofs.ended.powerless_variable.Goals as goal

pub loop-i-init : goal.loop-i-init
loop-i-init g c = λ q h. absurd (omega arith)
