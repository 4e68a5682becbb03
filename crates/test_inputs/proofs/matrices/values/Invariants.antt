use Rattle.std.proofs.Common.{All}
use Rattle.alg_core.specs.Fields.{Has}
use Rattle.test_inputs.proofs.matrices.values.Given as goal

abbrev pub invariant-loop-number : goal.invariant-loop-number
invariant-loop-number g l = All (Has (g.F.Field.field l.field)) l.values.items
