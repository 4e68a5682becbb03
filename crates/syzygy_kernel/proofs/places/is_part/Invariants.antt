use Rattle.std.proofs.Common.{◌≡◌, drop}
use Rattle.syzygy_kernel.specs.Fronts.{is_front}
use Rattle.syzygy_kernel.proofs.places.is_part.Given as goal

abbrev pub invariant-loop-i : goal.invariant-loop-i
invariant-loop-i l = is_front (drop l.i l.a) (drop l.i l.b) ≡ is_front l.a l.b
