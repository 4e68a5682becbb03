use Rattle.syzygy_kernel.proofs.FixedMembers.{values_complete, values_invariant}
use Rattle.syzygy_kernel.proofs.laws.fixed_members.Goals as goal

pub returns-clause-complete : goal.returns-clause-complete
returns-clause-complete g c n ds θ gens B ms primaries fixed square standard kernel =
    values_complete (g.F.Field.field c.args._field.now) θ gens B n ds primaries fixed square standard ms kernel

pub returns-clause-invariant : goal.returns-clause-invariant
returns-clause-invariant g c n ds θ gens B ms primaries fixed square standard kernel =
    values_invariant (g.F.Field.field c.args._field.now) θ gens B n ds primaries fixed square standard ms kernel
