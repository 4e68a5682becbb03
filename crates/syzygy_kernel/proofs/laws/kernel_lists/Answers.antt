use Rattle.syzygy_kernel.proofs.OneKernel.{one_kernel}
use Rattle.syzygy_kernel.proofs.laws.kernel_lists.Goals as goal

pub returns-clause-polynomials : goal.returns-clause-polynomials
returns-clause-polynomials g c n ds θ gens B ms ls primaries fixed square standard a b =
    (one_kernel (g.F.Field.field c.args._field.now) n gens B ds θ primaries fixed square standard ms ls a b).0

pub returns-clause-names : goal.returns-clause-names
returns-clause-names g c n ds θ gens B ms ls primaries fixed square standard a b =
    (one_kernel (g.F.Field.field c.args._field.now) n gens B ds θ primaries fixed square standard ms ls a b).1
