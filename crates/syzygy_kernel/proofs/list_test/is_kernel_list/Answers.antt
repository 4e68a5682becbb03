use Rattle.std.proofs.Common.{Err, ap}
use Rattle.module_groebner.specs.declared.bound.Which.TheVariants.{Graph}
use Rattle.finite_certificate.specs.MarkSpaces.{mark_space}
use Rattle.syzygy_kernel.proofs.ListTests.{same_exact, above_exact}
use Rattle.syzygy_kernel.proofs.list_test.is_kernel_list.Goals as goal

pub returns-in-Ok : goal.returns-in-Ok
returns-in-Ok g c =
    let S = mark_space g.F.Field.field c.args.space.now in
    record {
      exact = same_exact S c.args.space.now.order.vars c.args.space.now.order.weights.items c.args.primaries.now c.requires.stands c.args.gens.now c.requires.square c.requires.fixed c.args.list.now
          c.in-Ok.members.items c.as_slice.result.now c.are_same.result c.as_slice.ensures.value c.in-Ok.ensures.kernel c.are_same.ensures.exact;
    }

pub returns-in-Err-Above : goal.returns-in-Err-Above
returns-in-Err-Above g c =
    let S = mark_space g.F.Field.field c.args.space.now in
    let found = c.in-Err-Above.field-0-0 in
    record {
      exact = above_exact S c.args.space.now.order.vars c.args.space.now.order.weights.items c.args.primaries.now c.requires.stands c.args.gens.now c.requires.square c.requires.fixed c.args.list.now
          c.greatest_degree-cap.result Graph found c.greatest_degree-cap.ensures.bound (c.in-Err-Above.ensures.above found (ap Err c.in-Err-Above.field-0-is));
    }
