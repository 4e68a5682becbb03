use Rattle.alg_core.specs.Spaces.{over}
use Rattle.alg_core.specs.SpaceOrder.{key_order}
use Rattle.poly_module.proofs.ModuleElements.{module_subspace, module_member, module_product, module_summands, module_part}
use Rattle.poly_module.proofs.HomogeneousSummands.{homogeneous_summands}
use Rattle.poly_module.proofs.laws.module_elements.Goals as goal

pub returns-clause-subspace : goal.returns-clause-subspace
returns-clause-subspace g c = module_subspace (g.F.Field.field c.args._space.now.field)

pub returns-clause-member : goal.returns-clause-member
returns-clause-member g c = module_member (g.F.Field.field c.args._space.now.field)

pub returns-clause-product : goal.returns-clause-product
returns-clause-product g c = module_product (g.F.Field.field c.args._space.now.field)

pub returns-clause-summands : goal.returns-clause-summands
returns-clause-summands g c = let S = over g.F.Field.field g.O.TermOrder.order c.args._space.now in module_summands S.field (key_order S)

pub returns-clause-part : goal.returns-clause-part
returns-clause-part g c = module_part (over g.F.Field.field g.O.TermOrder.order c.args._space.now)

pub returns-clause-homogeneous : goal.returns-clause-homogeneous
returns-clause-homogeneous g c = homogeneous_summands (over g.F.Field.field g.O.TermOrder.order c.args._space.now)
