use Rattle.std.proofs.Common.{◌∙◌, sym, rules, tests}
use Rattle.std.proofs.lemmas.Iterator.{YieldsList-from_slice}
use Rattle.std.proofs.lemmas.Iterator.Search.{all_from_yields_List}
use Rattle.std.proofs.lemmas.List.Folds.{list_all-map}
use Rattle.poly_text.specs.declared.syntax.FactorText.{FactorText}
use Rattle.poly_text.specs.Syntax.{Factor}
use Rattle.poly_text.specs.Trees.{factor_of}
use Rattle.poly_text.specs.Values.{is_known}
use Rattle.poly_text.proofs.factors.are_known.Goals as goal

pub returns : goal.returns
returns c = record {
  is = all_from_yields_List (λ (x : FactorText). is_known c.args.secondaries c.args.names.now (factor_of x).variable) _ _ c.all.result c.all.ensures.ran (YieldsList-from_slice c.args.factors.now cc) (λ x b q k. search (rules, tests))
      ∙ sym (list_all-map (λ (f : Factor). is_known c.args.secondaries c.args.names.now f.variable) factor_of c.args.factors.now);
}
