use Rattle.syzygy_kernel.proofs.GraphBlocks.{graph_determined}
use Rattle.syzygy_kernel.proofs.GraphGenerators.{graph_generated}
use Rattle.syzygy_kernel.proofs.laws.graph_elements.Goals as goal

pub returns-clause-determined : goal.returns-clause-determined
returns-clause-determined g c n θ gens B standard unique = graph_determined (g.F.Field.field c.args._field.now) n θ gens B standard unique

pub returns-clause-generated : goal.returns-clause-generated
returns-clause-generated g c n ds θ gens B vs primaries fixed square standard unique generators =
    graph_generated (g.F.Field.field c.args._field.now) n ds θ primaries gens fixed square B standard vs generators unique
