use Rattle.std.proofs.Common.{◌≡◌, ℕ, List, drop}
use Rattle.finvar_text.specs.Conditions.{first_other}
use Rattle.finvar_text.specs.Declarations.{AreDeclared, names_in}
use Rattle.finvar_text.specs.Syntax.{Matrix}
use Rattle.finvar_text.specs.Trees.{bytes_of}
use Rattle.finvar_text.proofs.values_names.Declarations.first_other.Given as goal

abbrev pub invariant-loop-name : goal.invariant-loop-name
invariant-loop-name l = (ws : List (List ℕ)) (ms : List Matrix) → AreDeclared l.self ws ms → first_other (names_in ms) (bytes_of (drop l.name-index l.names)) ≡ first_other (names_in ms) (bytes_of l.names)
