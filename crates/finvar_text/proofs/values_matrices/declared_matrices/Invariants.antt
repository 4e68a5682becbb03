use Rattle.std.proofs.Common.{◌≡◌, take}
use Rattle.std.specs.List.{flat_map}
use Rattle.finvar_text.specs.Conditions.{matrices_of}
use Rattle.finvar_text.specs.Trees.{matrices_at, items_of}
use Rattle.finvar_text.proofs.values_matrices.declared_matrices.Given as goal

abbrev pub invariant-loop-item : goal.invariant-loop-item
invariant-loop-item l = matrices_at l.matrices.items ≡ flat_map matrices_of (items_of (take l.item-index l.script.items.items))
