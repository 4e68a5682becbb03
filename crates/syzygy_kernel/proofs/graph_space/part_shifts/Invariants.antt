use Rattle.std.proofs.Common.{◌≡◌, map}
use Rattle.poly_module.specs.GreatestExponents.{total}
use Rattle.syzygy_kernel.specs.Graphs.{copies}
use Rattle.syzygy_kernel.proofs.graph_space.part_shifts.Given as goal

abbrev pub invariant-loop-part : goal.invariant-loop-part
invariant-loop-part l = l.shifts.items ≡ copies l._part (map total l.monomials)
