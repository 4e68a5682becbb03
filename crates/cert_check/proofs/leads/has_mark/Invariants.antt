use Rattle.std.proofs.Common.{◌≡◌, ◌<◌, ◌≤◌, ℕ}
use Rattle.alg_core.specs.Monomials.{exponent}
use Rattle.cert_check.proofs.leads.has_mark.Given as goal

abbrev pub invariant-loop-i : goal.invariant-loop-i
invariant-loop-i l = (j : ℕ) → l.n ≤ j → j < l.i → exponent l.mono j ≡ 0
