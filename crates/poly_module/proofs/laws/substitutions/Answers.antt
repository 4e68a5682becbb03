use Rattle.poly_module.specs.Substitutions.{substitute_homomorphism, substitute_variable, substitute_single, substitute_unique, substitute_substitute}
use Rattle.poly_module.specs.Variables.{substitute_variables}
use Rattle.poly_module.proofs.laws.substitutions.Goals as goal

pub returns-clause-homomorphism : goal.returns-clause-homomorphism
returns-clause-homomorphism g c = substitute_homomorphism (g.F.Field.field c.args._field.now)

pub returns-clause-variable : goal.returns-clause-variable
returns-clause-variable g c = substitute_variable (g.F.Field.field c.args._field.now)

pub returns-clause-single : goal.returns-clause-single
returns-clause-single g c = substitute_single (g.F.Field.field c.args._field.now)

pub returns-clause-unique : goal.returns-clause-unique
returns-clause-unique g c = substitute_unique (g.F.Field.field c.args._field.now)

pub returns-clause-after : goal.returns-clause-after
returns-clause-after g c = substitute_substitute (g.F.Field.field c.args._field.now)

pub returns-clause-same : goal.returns-clause-same
returns-clause-same g c = substitute_variables (g.F.Field.field c.args._field.now)
