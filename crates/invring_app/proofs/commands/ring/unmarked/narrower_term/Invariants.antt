use Rattle.std.proofs.Common.{◌≡◌, take}
use Rattle.invring_app.proofs.commands.ring.unmarked.narrower_term.Given as goal

abbrev pub invariant-loop-i : goal.invariant-loop-i
invariant-loop-i g l = l.exponents.items ≡ take l.i l.mono
