use Rattle.std.proofs.Common.{◌≡◌, ℕ, ◌<◌, get_or}
use Rattle.module_groebner.proofs.chain.has_pair.Given as goal

abbrev pub invariant-loop-i : goal.invariant-loop-i
invariant-loop-i l = (j : ℕ) (d : ℕ × ℕ) → j < l.i → ¬ (get_or l.pairs j d ≡ (l.a, l.b))
