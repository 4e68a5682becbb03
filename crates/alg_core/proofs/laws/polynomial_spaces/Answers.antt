use Rattle.alg_core.proofs.PolynomialSpaces.{plain_constants, plain_positive, marked_constants, marked_positive}
use Rattle.alg_core.proofs.laws.polynomial_spaces.Goals as goal

pub returns-clause-plain : goal.returns-clause-plain
returns-clause-plain g c = λ n. let k = g.F.Field.field c.args._field.now in let h = plain_positive k n in (plain_constants k n, h.0, h.1)

pub returns-clause-marked : goal.returns-clause-marked
returns-clause-marked g c = λ n ds d. let k = g.F.Field.field c.args._field.now in let h = marked_positive k n ds d in (marked_constants k n ds, h.0, h.1)
