use Rattle.std.proofs.Common.{◌≡◌, Some, map}
use Rattle.invring_app.proofs.commands.ring.present.present.Given as goal

abbrev pub invariant-loop-answer : goal.invariant-loop-answer
invariant-loop-answer g l = map (λ t. Some t) l.values.items ≡ l.yielded
