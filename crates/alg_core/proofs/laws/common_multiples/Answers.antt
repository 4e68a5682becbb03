use Rattle.alg_core.specs.CommonMultiples.{lcm_left, lcm_right, lcm_least}
use Rattle.alg_core.proofs.laws.common_multiples.Goals as goal

pub returns-clause-left : goal.returns-clause-left
returns-clause-left c = lcm_left

pub returns-clause-right : goal.returns-clause-right
returns-clause-right c = lcm_right

pub returns-clause-least : goal.returns-clause-least
returns-clause-least c = lcm_least
