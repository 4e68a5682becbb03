use Rattle.std.proofs.Common.{◌∙◌, ◌<◌, ◌++◌, ◌∷◌, length, take, get_or, ap, subst}
use Rattle.std.specs.List.{flat_map}
use Rattle.finvar_text.specs.Conditions.{names_of, matrices_of, unknown_in}
use Rattle.finvar_text.specs.Declarations.{AreDeclared, names_in}
use Rattle.finvar_text.specs.Trees.{bytes_of, item_of, items_of}
use Rattle.finvar_text.proofs.DeclarationSteps.{declared_step, unknown_step}
use Rattle.finvar_text.proofs.values_names.read_names.Goals as goal

pub loop-item-preserved : goal.loop-item-preserved
loop-item-preserved c =
    let xs = c.args.script.now.items.items in
    let i = c.loop-item.item-index in
    let x = c.item-item.result in
    let first = c.args.script.now.ring.now ∷ bytes_of c.args.script.now.variables.items in
    let ms = flat_map matrices_of (items_of (take i xs)) in
    let ws = first ++ flat_map names_of (items_of (take i xs)) in
    let value = c.as_slice-item-items.ensures.value in
    let is = c.item-item.is ∙ ap (λ l. get_or l i x) value in
    let below = subst (λ l. i < length l) value c.loop-item-test.true in
    record {
      declared = declared_step c.add.new.self first xs i x below
          (subst (λ y. AreDeclared c.add.new.self (ws ++ names_of (item_of y)) (ms ++ matrices_of (item_of y))) is (c.in_ok-add.ensures.is ws ms c.loop-item.invariant.declared));
      unknown = unknown_step first xs i x c.loop-item.unknown _ c.unknown_in.result below
          (c.unknown_in.ensures.is ws ms c.loop-item.invariant.declared ∙ ap (λ y. unknown_in (names_in ms) ws (item_of y)) is)
          c.or-unknown.ensures c.loop-item.invariant.unknown;
    }
