use Rattle.std.proofs.Common.{◌≡◌, take}
use Rattle.finvar_text.specs.Trees.{bytes_of}
use Rattle.finvar_text.proofs.script.variable_names.Given as goal

abbrev pub invariant-loop-variable : goal.invariant-loop-variable
invariant-loop-variable l = l.names.items ≡ bytes_of (take l.variable-index l.variable-items)
