use Rattle.std.proofs.Common.{[], ◌∷◌, take}
use Rattle.finvar_text.specs.Declarations.{AreDeclared}
use Rattle.finvar_text.specs.Trees.{bytes_of}
use Rattle.finvar_text.proofs.values_names.Declarations.of_ring.Given as goal

abbrev pub invariant-loop-variable : goal.invariant-loop-variable
invariant-loop-variable l = AreDeclared l.declarations (l.script.ring.now ∷ bytes_of (take l.variable-index l.variable-items)) []
