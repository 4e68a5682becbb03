use Rattle.std.proofs.Common.{◌∙◌, sym, rules, tests}
use Rattle.std.proofs.lemmas.Iterator.{YieldsList-from_slice}
use Rattle.std.proofs.lemmas.Iterator.Search.{all_from_yields_List}
use Rattle.std.proofs.lemmas.List.Folds.{list_all-map}
use Rattle.finvar_text.specs.declared.syntax.EntryText.{EntryText}
use Rattle.finvar_text.specs.Conditions.{is_small}
use Rattle.finvar_text.specs.Syntax.{Entry}
use Rattle.finvar_text.specs.Trees.{entry_of}
use Rattle.finvar_text.proofs.values.are_small.Goals as goal

pub returns : goal.returns
returns c = record {
  is = all_from_yields_List (λ (x : EntryText). is_small (entry_of x).digits) _ _ c.all.result c.all.ensures.ran (YieldsList-from_slice c.args.entries.now cc) (λ x b q k. search (rules, tests))
      ∙ sym (list_all-map (λ (e : Entry). is_small e.digits) entry_of c.args.entries.now);
}
