use Rattle.alg_core.proofs.KeyMultiples.{key_lcm_left, key_lcm_right, key_lcm_least}
use Rattle.alg_core.proofs.laws.common_key_multiples.Goals as goal

pub returns-clause-left : goal.returns-clause-left
returns-clause-left c = key_lcm_left

pub returns-clause-right : goal.returns-clause-right
returns-clause-right c = key_lcm_right

pub returns-clause-least : goal.returns-clause-least
returns-clause-least c = key_lcm_least
