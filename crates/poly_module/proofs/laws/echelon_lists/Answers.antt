use Rattle.alg_core.specs.Spaces.{over}
use Rattle.alg_core.specs.SpaceOrder.{key_order}
use Rattle.poly_module.specs.Echelons.{Spans}
use Rattle.poly_module.proofs.EchelonLists.{spans_subspace}
use Rattle.poly_module.proofs.Elimination.{span_decidable}
use Rattle.poly_module.proofs.Echelon.{echelon_exists, echelon_unique, span_split}
use Rattle.poly_module.proofs.laws.echelon_lists.Goals as goal

pub returns-clause-exists : goal.returns-clause-exists
returns-clause-exists g c = echelon_exists (g.F.Field.field c.args._space.now.field)

pub returns-clause-unique : goal.returns-clause-unique
returns-clause-unique g c = let k = g.F.Field.field c.args._space.now.field in λ o us. echelon_unique k o (Spans k us) (spans_subspace k us)

pub returns-clause-decided : goal.returns-clause-decided
returns-clause-decided g c = let S = over g.F.Field.field g.O.TermOrder.order c.args._space.now in span_decidable S.field (key_order S)

pub returns-clause-split : goal.returns-clause-split
returns-clause-split g c = span_split (g.F.Field.field c.args._space.now.field)
