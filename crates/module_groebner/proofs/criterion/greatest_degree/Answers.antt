use Rattle.std.proofs.Common.{arith}
use Rattle.alg_core.specs.Spaces.{over}
use Rattle.poly_module.specs.SpaceVectors.{IsUpTo, vector_of}
use Rattle.module_groebner.specs.HomogeneousLists.{cap_limit}
use Rattle.module_groebner.proofs.BasisSteps.{all_before, before_next, up_to_more}
use Rattle.module_groebner.proofs.DivisionSteps.{member_has}
use Rattle.module_groebner.proofs.criterion.greatest_degree.Goals as goal
use Rattle.module_groebner.proofs.criterion.greatest_degree.Goals.{then-most-d, else-most-d}

pub degree_or_zero-d-requires-clause-degree : goal.degree_or_zero-d-requires-clause-degree
degree_or_zero-d-requires-clause-degree g c =
    let S = over g.F.Field.field g.O.TermOrder.order c.args.space.now in
    member_has S (λ m. m) (IsUpTo S cap_limit) c.args.list.now c.loop-i.i c.index-list-i.result c.loop-i-test.true c.index-list-i.is c.requires.degrees

pub loop-i-preserved : goal.loop-i-preserved
loop-i-preserved g c =
    let S = over g.F.Field.field g.O.TermOrder.order c.args.space.now in
    record {
      low = elim c.if-most-d.branch [ then-most-d w ↦ omega (arith, c.degree_or_zero-d.ensures.small) | else-most-d w ↦ omega (arith, c.loop-i.invariant.low) ];
      bound = before_next S (λ m. m) c.args.list.now c.loop-i.i c.loop-i.most c.if-most-d.most c.index-list-i.result c.index-list-i.is
          (elim c.if-most-d.branch [ then-most-d w ↦ omega arith | else-most-d w ↦ omega arith ])
          (up_to_more S (λ m. m) c.degree_or_zero-d.result c.if-most-d.most (elim c.if-most-d.branch [ then-most-d w ↦ omega arith | else-most-d w ↦ omega arith ]) (vector_of S (λ m. m) c.index-list-i.result) c.degree_or_zero-d.ensures.bound)
          c.loop-i.invariant.bound;
    }

pub returns-clause-bound : goal.returns-clause-bound
returns-clause-bound g c =
    let S = over g.F.Field.field g.O.TermOrder.order c.args.space.now in
    all_before S (λ m. m) c.args.list.now c.loop-i.i c.loop-i.most c.loop-i-test.false c.loop-i.invariant.bound
