use Rattle.std.proofs.Common.{◌<◌, ◌≤◌, ◌+◌, arith}
use Rattle.alg_core.specs.Spaces.{over}
use Rattle.alg_core.specs.SpaceGrading.{degree}
use Rattle.poly_module.specs.Parts.{supp_weaken}
use Rattle.poly_module.specs.Degrees.{has_degree, degree_unique, graded_part_graded, parts_sum}
use Rattle.poly_module.specs.Forms.{part_product}
use Rattle.poly_module.proofs.laws.vector_degrees.Goals as goal

pub returns-clause-exists : goal.returns-clause-exists
returns-clause-exists g c = has_degree (over g.F.Field.field g.O.TermOrder.order c.args._space.now)

pub returns-clause-unique : goal.returns-clause-unique
returns-clause-unique g c = degree_unique (over g.F.Field.field g.O.TermOrder.order c.args._space.now)

pub returns-clause-part : goal.returns-clause-part
returns-clause-part g c = let S = over g.F.Field.field g.O.TermOrder.order c.args._space.now in graded_part_graded S.field (degree S)

pub returns-clause-sum : goal.returns-clause-sum
returns-clause-sum g c = let S = over g.F.Field.field g.O.TermOrder.order c.args._space.now in λ v d h. parts_sum S.field (degree S) (d + 1) v (supp_weaken S.field (λ t. degree S t ≤ d) (λ t. degree S t < d + 1) (λ t l. omega arith) v h.most)

pub returns-clause-product : goal.returns-clause-product
returns-clause-product g c = part_product (over g.F.Field.field g.O.TermOrder.order c.args._space.now)
