use Rattle.std.proofs.Common.{◌∙◌, ◌-◌, sym, length, arith}
use Rattle.poly_text.proofs.FactorSteps.{index_last}
use Rattle.poly_text.proofs.factors.last_index.Goals as goal

pub returns : goal.returns
returns c = let xs = c.args.factors.now in record { is = c.index.ensures.is ∙ sym (index_last xs (length xs - 1) _ (omega arith)) }
