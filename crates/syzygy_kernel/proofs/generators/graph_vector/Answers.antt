use Rattle.std.proofs.Common.{◌≡◌, ◌+◌, ◌<◌, [], get_or, length, ap, sym, subst, zero-mul, arith}
use Rattle.poly_module.specs.SpaceVectors.{IsVectorOf, vector_of}
use Rattle.primary_module.specs.Positions.{at_positions}
use Rattle.syzygy_kernel.specs.GraphVectors.{block_space, raised}
use Rattle.syzygy_kernel.proofs.GraphSums.{no_parts, one_part, all_parts, part_room, next_start, read_polynomial}
use Rattle.syzygy_kernel.proofs.generators.graph_vector.Goals as goal

pub loop-i-init : goal.loop-i-init
loop-i-init g c =
    let T = block_space g.F.Field.field c.args.graph.now in
    let z = zero-mul (length c.args.monomials.now) in
    record { start = omega arith; sum = no_parts T c.args.n c.args.monomials.now _ c.in_ok-sum.sum c.in_ok-sum.ensures.is }

pub overflow_add-start : goal.overflow_add-start
overflow_add-start g c =
    let room = part_room (length c.args.monomials.now) (length c.args.differences.now) c.loop-i.i c.loop-i.start (length c.args.graph.now.grading.shifts.items) c.loop-i-test.true
    c.loop-i.invariant.start c.requires.shifts in
    let low = c.requires.low in
    omega arith

pub loop-i-preserved : goal.loop-i-preserved
loop-i-preserved g c =
    let T = block_space g.F.Field.field c.args.graph.now in
    let x = c.index-differences-i.result in
    let p = c.index-as_slice-place.result in
    let many : length x.items ≡ length c.args.monomials.now =
    subst (λ y. length y.items ≡ length c.args.monomials.now) (sym c.index-differences-i.is) (c.requires.differences c.loop-i.i x c.loop-i-test.true).0 in
    let within : c.args.place < length x.items = omega (arith, c.requires.within) in
    let read : p ≡ get_or x.items c.args.place [] = read_polynomial x.items c.as_slice.result.now c.args.place p c.as_slice.ensures.value within c.index-as_slice-place.is in
    record {
      start = next_start (length c.args.monomials.now) c.loop-i.i c.loop-i.start c.loop-i.invariant.start;
      sum = one_part T c.args.n c.args.monomials.now _ _ c.args.differences.now c.loop-i.i c.loop-i.start x c.loop-i.sum c.in_ok-part.part c.in_ok-sum-2.sum c.loop-i-test.true c.index-differences-i.is
          c.loop-i.invariant.start c.loop-i.invariant.sum
          (subst (λ y. IsVectorOf T (λ m. m) (raised T.field c.loop-i.start (at_positions T.field c.args.n c.args.monomials.now (vector_of T (λ m. m) y))) c.in_ok-part.part) read c.in_ok-part.ensures.is)
          c.in_ok-sum-2.ensures.sum;
    }

pub returns : goal.returns
returns g c =
    let T = block_space g.F.Field.field c.args.graph.now in
    record {
      is = all_parts T c.args.n c.args.monomials.now _ _ c.args.differences.now c.loop-i.i c.args.place c.loop-i.sum c.loop-i-test.false
          (ap (λ l. l + c.args.place) c.requires.first) c.loop-i.invariant.sum;
    }
