use Rattle.poly_module.specs.Parts.{passing, select_inside, select_outside, select_all}
use Rattle.poly_module.proofs.laws.selections.Goals as goal

pub returns-clause-inside : goal.returns-clause-inside
returns-clause-inside g c = λ f. select_inside (g.F.Field.field c.args._field.now) (passing f)

pub returns-clause-outside : goal.returns-clause-outside
returns-clause-outside g c = λ f. select_outside (g.F.Field.field c.args._field.now) (passing f)

pub returns-clause-all : goal.returns-clause-all
returns-clause-all g c = λ f. select_all (g.F.Field.field c.args._field.now) (passing f)
