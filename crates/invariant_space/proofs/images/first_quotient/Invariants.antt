use Rattle.invariant_space.proofs.Common.{◌≡◌, ◌<◌, ℕ, List, get_or, Key, times_key, In, variable, IsTable}
use Rattle.invariant_space.proofs.images.first_quotient.Given as goal

abbrev pub invariant-loop-j : goal.invariant-loop-j
invariant-loop-j l =
    (ts below : List Key) (t : Key) → IsTable ts below l.table → get_or ts l.l t ≡ t → (j : ℕ) (v : Key) → j < l.j → In v below → ¬ (times_key (variable j) v ≡ t)
