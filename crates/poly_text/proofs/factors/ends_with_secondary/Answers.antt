use Rattle.std.proofs.Common.{◌∙◌, ◌-◌, sym, length, arith}
use Rattle.poly_text.proofs.FactorSteps.{ending_of}
use Rattle.poly_text.proofs.factors.ends_with_secondary.Goals as goal

pub returns-then-is_secondary : goal.returns-then-is_secondary
returns-then-is_secondary c =
    let xs = c.args.factors.now in
    record { is = sym (ending_of xs (length xs - 1) _ _ (omega arith) (sym c.if-is_secondary.true ∙ c.is_secondary.ensures.is)) }

pub returns-else-is_secondary : goal.returns-else-is_secondary
returns-else-is_secondary c =
    let xs = c.args.factors.now in
    record { is = c.if-is_secondary.false ∙ sym (ending_of xs (length xs - 1) _ _ (omega arith) (sym c.if-is_secondary.false ∙ c.is_secondary.ensures.is)) }
