use Rattle.std.proofs.Common.{◌≡◌, drop}
use Rattle.std.specs.List.{flat_map}
use Rattle.finvar_text.specs.Conditions.{first_misfit, matrices_of}
use Rattle.finvar_text.specs.Trees.{items_of}
use Rattle.finvar_text.proofs.values_matrices.first_misfit.Given as goal

abbrev pub invariant-loop-item : goal.invariant-loop-item
invariant-loop-item l = first_misfit l.n (flat_map matrices_of (items_of (drop l.item-index l.script.items.items))) ≡ first_misfit l.n (flat_map matrices_of (items_of l.script.items.items))
