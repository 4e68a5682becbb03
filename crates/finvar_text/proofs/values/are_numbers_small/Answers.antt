use Rattle.std.proofs.Common.{◌≡◌, ◌∙◌, ◌&&◌, true, sym, ap, rules, tests}
use Rattle.std.specs.List.{list_all}
use Rattle.std.proofs.lemmas.Iterator.{YieldsList-from_slice}
use Rattle.std.proofs.lemmas.Iterator.Search.{all_from_yields_List}
use Rattle.std.proofs.lemmas.List.Folds.{list_all-map}
use Rattle.finvar_text.specs.declared.syntax.ItemText.{ItemText}
use Rattle.finvar_text.specs.Conditions.{is_small, is_small_item}
use Rattle.finvar_text.specs.Trees.{item_of, items_of}
use Rattle.finvar_text.proofs.values.are_numbers_small.Goals as goal

pub returns-then-is_small : goal.returns-then-is_small
returns-then-is_small c =
    let items = c.args.script.now.items.items in
    let first : is_small c.args.script.now.characteristic.digits.now ≡ true = search rules in
    record {
      is = all_from_yields_List (λ (x : ItemText). is_small_item (item_of x)) _ _ c.all.result c.all.ensures.ran (YieldsList-from_slice items cc) (λ x b q k. search (rules, tests))
          ∙ sym (list_all-map is_small_item item_of items)
          ∙ sym (ap (λ b. b && list_all is_small_item (items_of items)) first);
    }
