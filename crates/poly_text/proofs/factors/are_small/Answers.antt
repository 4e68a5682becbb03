use Rattle.std.proofs.Common.{◌∙◌, sym, rules, tests}
use Rattle.std.proofs.lemmas.Iterator.{YieldsList-from_slice}
use Rattle.std.proofs.lemmas.Iterator.Search.{all_from_yields_List}
use Rattle.std.proofs.lemmas.List.Folds.{list_all-map}
use Rattle.poly_text.specs.declared.syntax.FactorText.{FactorText}
use Rattle.poly_text.specs.Syntax.{Factor}
use Rattle.poly_text.specs.Trees.{factor_of}
use Rattle.std.specs.Prelude.{nat_le}
use Rattle.poly_text.proofs.factors.are_small.Goals as goal

pub returns : goal.returns
returns c = record {
  is = all_from_yields_List (λ (x : FactorText). nat_le (factor_of x).exponent 4096) _ _ c.all.result c.all.ensures.ran (YieldsList-from_slice c.args.factors.now cc) (λ x b q k. search (rules, tests))
      ∙ sym (list_all-map (λ (f : Factor). nat_le f.exponent 4096) factor_of c.args.factors.now);
}
