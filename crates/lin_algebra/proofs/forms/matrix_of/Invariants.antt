use Rattle.std.proofs.Common.{◌≡◌, take, drop}
use Rattle.std.specs.List.{flat_map}
use Rattle.lin_algebra.proofs.forms.matrix_of.Given as goal

abbrev pub invariant-loop-row : goal.invariant-loop-row
invariant-loop-row g l = l.cells.items ≡ flat_map (λ e. drop l.from e.entries.items) (take l.row-index l.basis)
