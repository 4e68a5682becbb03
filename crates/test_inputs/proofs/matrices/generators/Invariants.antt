use Rattle.std.proofs.Common.{All}
use Rattle.matrix_group.specs.Actions.{IsSquare}
use Rattle.matrix_group.specs.Groups.{IsNonsingular}
use Rattle.test_inputs.proofs.matrices.generators.Given as goal

abbrev pub invariant-loop-numbers : goal.invariant-loop-numbers
invariant-loop-numbers g l =
    let k = g.F.Field.field l.fn.field in
    record {
      square : All (IsSquare k l.fn.n) l.made.items;
      inverse : All (IsNonsingular k) l.made.items;
    }
