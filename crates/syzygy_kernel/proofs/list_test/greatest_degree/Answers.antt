use Rattle.std.proofs.Common.{sym, subst, arith}
use Rattle.finite_certificate.specs.MarkSpaces.{mark_space}
use Rattle.primary_module.specs.PrimaryModules.{IsLowPoly}
use Rattle.syzygy_kernel.proofs.GreatestDegrees.{degrees_next, degrees_all}
use Rattle.syzygy_kernel.proofs.list_test.greatest_degree.Goals as goal
use Rattle.syzygy_kernel.proofs.list_test.greatest_degree.Goals.{then-most-d, else-most-d}

pub degree_or_zero-d-requires : goal.degree_or_zero-d-requires
degree_or_zero-d-requires g c =
    record {
      low = subst (λ m. IsLowPoly (mark_space g.F.Field.field c.args.space.now) m.u) (sym c.index-list-i.is) (c.requires.list c.loop-i.i c.index-list-i.result c.loop-i-test.true);
    }

pub loop-i-preserved : goal.loop-i-preserved
loop-i-preserved g c =
    record {
      low = elim c.if-most-d.branch [ then-most-d w ↦ omega (arith, c.degree_or_zero-d.ensures.small) | else-most-d w ↦ omega (arith, c.loop-i.invariant.low) ];
      bound = degrees_next (mark_space g.F.Field.field c.args.space.now) c.args.list.now c.loop-i.i c.loop-i.most c.degree_or_zero-d.result c.if-most-d.most c.index-list-i.result
          c.loop-i-test.true c.index-list-i.is (elim c.if-most-d.branch [ then-most-d w ↦ omega arith | else-most-d w ↦ omega arith ])
          (elim c.if-most-d.branch [ then-most-d w ↦ omega arith | else-most-d w ↦ omega arith ]) c.degree_or_zero-d.ensures.bound c.loop-i.invariant.bound;
    }

pub returns-clause-bound : goal.returns-clause-bound
returns-clause-bound g c = degrees_all (mark_space g.F.Field.field c.args.space.now) c.args.list.now c.loop-i.i c.loop-i.most c.loop-i-test.false c.loop-i.invariant.bound
