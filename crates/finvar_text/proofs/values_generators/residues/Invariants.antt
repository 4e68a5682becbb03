use Rattle.std.proofs.Common.{◌≡◌, map, take}
use Rattle.finvar_text.specs.Conditions.{residue}
use Rattle.finvar_text.specs.Trees.{entries_of}
use Rattle.finvar_text.proofs.values_generators.residues.Given as goal

abbrev pub invariant-loop-entry : goal.invariant-loop-entry
invariant-loop-entry l = l.residues.items ≡ map (residue l.p) (entries_of (take l.entry-index l.entries))
