use Rattle.finite_certificate.specs.MarkSpaces.{mark_space}
use Rattle.primary_module.proofs.LiftLaws.{unique, exist, independent}
use Rattle.primary_module.proofs.laws.free_modules.Goals as goal

pub returns-clause-unique : goal.returns-clause-unique
returns-clause-unique g c = unique (mark_space g.F.Field.field c.args._space.now)

pub returns-clause-exist : goal.returns-clause-exist
returns-clause-exist g c = exist (mark_space g.F.Field.field c.args._space.now)

pub returns-clause-independent : goal.returns-clause-independent
returns-clause-independent g c = independent (mark_space g.F.Field.field c.args._space.now)
