use Rattle.std.proofs.Common.{◌≡◌, take}
use Rattle.cert_check.specs.Parts.{members}
use Rattle.cert_check.proofs.kernels.members.Given as goal

abbrev pub invariant-loop-i : goal.invariant-loop-i
invariant-loop-i l = l.members.items ≡ members (take l.i l.lines)
