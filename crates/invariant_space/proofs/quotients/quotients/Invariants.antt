use Rattle.invariant_space.proofs.Common.{◌≡◌, ◌≤◌, ℕ, length, get_or, Key, key, variable, IsQuotient, EachAt, keys_of}
use Rattle.invariant_space.proofs.quotients.quotients.Given as goal

abbrev pub invariant-loop-term : goal.invariant-loop-term
invariant-loop-term g l =
    record {
      from : l.from ≤ length l.below;
      count : length l.places.items ≡ l.term-index;
      each : (j : ℕ) → key (l.x.pos, l.x.mono) ≡ (0, variable j) → EachAt (λ s o. (t : Key) → get_or (keys_of l.above) s t ≡ t → IsQuotient (keys_of l.below) j t o) l.places.items;
    }
