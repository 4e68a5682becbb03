use Rattle.std.proofs.Common.{◌≡◌, drop}
use Rattle.finvar_text.specs.Conditions.{the_call}
use Rattle.finvar_text.specs.Trees.{items_of}
use Rattle.finvar_text.proofs.values_matrices.the_call.Given as goal

abbrev pub invariant-loop-item : goal.invariant-loop-item
invariant-loop-item l = the_call (items_of (drop l.item-index l.script.items.items)) ≡ the_call (items_of l.script.items.items)
