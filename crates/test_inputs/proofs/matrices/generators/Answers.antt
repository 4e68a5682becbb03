use Rattle.std.proofs.Common.{◌<◌, length, arith}
use Rattle.matrix_group.specs.Actions.{IsSquare}
use Rattle.matrix_group.specs.Groups.{IsNonsingular}
use Rattle.test_inputs.proofs.SmallEntries.{all_added}
use Rattle.test_inputs.proofs.SquareMatrices.{first, size_is}
use Rattle.test_inputs.proofs.matrices.generators.Goals as goal

pub loop-numbers-preserved : goal.loop-numbers-preserved
loop-numbers-preserved g c =
    let k = g.F.Field.field c.args.field.now in
    let m = c.in_ok-invertible.field-0 in
    record {
      square = all_added (IsSquare k c.args.n) c.loop-numbers.made.items _ m c.in_ok-push.ensures.items c.loop-numbers.invariant.square c.in_ok-invertible.ensures.square;
      inverse = all_added (IsNonsingular k) c.loop-numbers.made.items _ m c.in_ok-push.ensures.items c.loop-numbers.invariant.inverse c.in_ok-invertible.ensures.inverse;
    }

pub returns : goal.returns
returns g c =
    let k = g.F.Field.field c.args.field.now in
    let ms = c.loop-numbers.made.items in
    let some : 0 < length ms = let none = c.if-len-eq0.false in let len = c.len.ensures in omega (arith, none, len) in
    record {
      some = some;
      square = c.loop-numbers.invariant.square;
      first = first k c.args.n ms some c.loop-numbers.invariant.square;
      size = size_is k c.args.n ms some c.loop-numbers.invariant.square;
      inverse = c.loop-numbers.invariant.inverse;
    }
