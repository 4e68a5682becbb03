use Rattle.std.proofs.Common.{◌≡◌, ◌+◌, drop}
use Rattle.poly_module.specs.GreatestExponents.{total}
use Rattle.syzygy_kernel.proofs.graph_space.total_degree.Given as goal

abbrev pub invariant-loop-i : goal.invariant-loop-i
invariant-loop-i l = l.degree + total (drop l.i l.mono) ≡ total l.mono
