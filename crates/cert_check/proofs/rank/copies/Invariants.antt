use Rattle.std.proofs.Common.{◌≡◌, take}
use Rattle.cert_check.proofs.rank.copies.Given as goal

abbrev pub invariant-loop-i : goal.invariant-loop-i
invariant-loop-i g l = l.made.items ≡ take l.i l.fs
