use Rattle.std.proofs.Common.{◌≡◌, map, take}
use Rattle.lin_algebra.proofs.forms.pivots_of.Given as goal

abbrev pub invariant-loop-row : goal.invariant-loop-row
invariant-loop-row g l = l.pivots.items ≡ map (λ e. e.pivot) (take l.row-index l.basis)
