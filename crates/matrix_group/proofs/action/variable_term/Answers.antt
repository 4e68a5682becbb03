use Rattle.matrix_group.proofs.Common.{◌∙◌}
use Rattle.matrix_group.proofs.ActionSteps.{key_variable}
use Rattle.matrix_group.proofs.action.variable_term.Goals as goal

pub returns-clause-variable : goal.returns-clause-variable
returns-clause-variable g c = key_variable c.in_ok-mono.mono c.in_ok-exponents.exponents.items c.args.i (c.in_ok-mono.ensures.is ∙ c.as_slice.ensures.value) c.in_ok-exponents.ensures.variable
