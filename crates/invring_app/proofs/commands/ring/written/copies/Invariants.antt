use Rattle.std.proofs.Common.{◌≡◌, take, map}
use Rattle.alg_core.specs.Spaces.{entries}
use Rattle.invring_app.proofs.commands.ring.written.copies.Given as goal

abbrev pub invariant-loop-i : goal.invariant-loop-i
invariant-loop-i g l = map (entries (λ m. m)) l.made.items ≡ map (entries (λ m. m)) (take l.i l.fs)
