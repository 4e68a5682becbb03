use Rattle.std.proofs.Common.{◌≡◌, ◌-◌, [], take, get_or, map}
use Rattle.alg_core.specs.Spaces.{entries}
use Rattle.invring_app.proofs.commands.ring.written.at_places.Given as goal

abbrev pub invariant-loop-i : goal.invariant-loop-i
invariant-loop-i g l = map (entries (λ m. m)) l.chosen.items ≡ map (λ p. entries (λ m. m) (get_or l.fs (p - 1) [])) (take l.i l.places)
