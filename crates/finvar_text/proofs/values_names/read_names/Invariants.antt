use Rattle.std.proofs.Common.{◌≡◌, [], ◌∷◌, ◌++◌, take}
use Rattle.std.specs.List.{flat_map}
use Rattle.finvar_text.specs.Conditions.{names_of, matrices_of, first_unknown}
use Rattle.finvar_text.specs.Declarations.{AreDeclared}
use Rattle.finvar_text.specs.Trees.{bytes_of, word_of, items_of}
use Rattle.finvar_text.proofs.values_names.read_names.Given as goal

abbrev pub invariant-loop-item : goal.invariant-loop-item
invariant-loop-item l =
    let first = l.script.ring.now ∷ bytes_of l.script.variables.items in
    let before = items_of (take l.item-index l.script.items.items) in
    record {
      declared : AreDeclared l.declarations (first ++ flat_map names_of before) (flat_map matrices_of before);
      unknown : word_of l.unknown ≡ first_unknown [] first before;
    }
