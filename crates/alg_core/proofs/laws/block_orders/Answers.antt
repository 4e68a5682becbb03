use Rattle.alg_core.proofs.BlockKeys.{smaller_degree, in_variables_alone}
use Rattle.alg_core.proofs.laws.block_orders.Goals as goal

pub returns-clause-smaller : goal.returns-clause-smaller
returns-clause-smaller c = smaller_degree

pub returns-clause-variables : goal.returns-clause-variables
returns-clause-variables c = in_variables_alone
