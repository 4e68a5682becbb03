use Rattle.alg_core.proofs.BlockKeys.{second_block, inside_first, inside_second}
use Rattle.alg_core.proofs.laws.elimination_orders.Goals as goal

pub returns-clause-second : goal.returns-clause-second
returns-clause-second c = second_block

pub returns-clause-inside_first : goal.returns-clause-inside_first
returns-clause-inside_first c = inside_first

pub returns-clause-inside_second : goal.returns-clause-inside_second
returns-clause-inside_second c = inside_second
