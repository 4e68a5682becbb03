use Rattle.std.proofs.Common.{◌≡◌, List, take}
use Rattle.finvar_text.specs.Conditions.{select}
use Rattle.finvar_text.specs.Declarations.{MapsNames}
use Rattle.finvar_text.specs.Syntax.{Matrix}
use Rattle.finvar_text.specs.Trees.{bytes_of, matrices_at}
use Rattle.finvar_text.proofs.values_matrices.select.Given as goal

abbrev pub invariant-loop-name : goal.invariant-loop-name
invariant-loop-name l = (ms : List Matrix) → MapsNames l.by_name.entries ms → matrices_at l.selected.items ≡ select ms (bytes_of (take l.name-index l.names))
