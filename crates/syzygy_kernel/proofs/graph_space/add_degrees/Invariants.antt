use Rattle.std.proofs.Common.{◌≡◌, ◌++◌, drop, map}
use Rattle.poly_module.specs.GreatestExponents.{total}
use Rattle.syzygy_kernel.proofs.graph_space.add_degrees.Given as goal

abbrev pub invariant-loop-i : goal.invariant-loop-i
invariant-loop-i l = l.shifts.items ++ map total (drop l.i l.monomials) ≡ l.fn.shifts.items ++ map total l.monomials
