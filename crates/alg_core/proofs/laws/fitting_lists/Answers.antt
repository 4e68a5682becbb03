use Rattle.alg_core.specs.Spaces.{over}
use Rattle.alg_core.proofs.FittingLists.{fits_unique, terms_vec}
use Rattle.alg_core.proofs.laws.fitting_lists.Goals as goal

pub returns-clause-unique : goal.returns-clause-unique
returns-clause-unique g c = fits_unique (over g.F.Field.field g.O.TermOrder.order c.args._space.now)

pub returns-clause-terms : goal.returns-clause-terms
returns-clause-terms g c = terms_vec (over g.F.Field.field g.O.TermOrder.order c.args._space.now)
