use Rattle.syzygy_kernel.proofs.GraphBases.{reduced_bases, above_caps}
use Rattle.syzygy_kernel.proofs.laws.graph_bases.Goals as goal

pub returns-clause-reduced : goal.returns-clause-reduced
returns-clause-reduced g c n ds θ gens B vs primaries fixed square standard unique generators =
    reduced_bases (g.F.Field.field c.args._field.now) n ds θ primaries gens fixed square B standard unique vs generators

pub returns-clause-above : goal.returns-clause-above
returns-clause-above g c n ds θ gens B vs primaries fixed square standard unique generators =
    above_caps (g.F.Field.field c.args._field.now) n ds θ primaries gens fixed square B standard unique vs generators
