use Rattle.invariant_space.proofs.Common.{◌≡◌, ◌<◌, ◌≤◌, ℕ, get_or, Key, key, keys_of}
use Rattle.invariant_space.proofs.quotients.place_between.Given as goal

abbrev pub invariant-loop-i : goal.invariant-loop-i
invariant-loop-i g l =
    (i : ℕ) → l.from ≤ i → i < l.i → (v : Key) → get_or (keys_of l.terms) i v ≡ v → ¬ (v ≡ key (l.at.pos, l.at.mono))
