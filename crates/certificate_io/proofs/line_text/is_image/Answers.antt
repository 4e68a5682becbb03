use Rattle.std.proofs.Common.{ap}
use Rattle.poly_text.specs.Syntax.{HasPolynomialText, HasMonomialText}
use Rattle.certificate_io.specs.Lines.{bytes_at}
use Rattle.certificate_io.proofs.PairSteps.{pair_none, pair_other, pair_second, not_told, monomial_free}
use Rattle.certificate_io.proofs.line_text.is_image.Goals as goal

pub returns-in_default : goal.returns-in_default
returns-in_default c = record { is = pair_none (HasMonomialText) HasPolynomialText monomial_free _ _ _ c.split.ensures.is (ap bytes_at c.in_default.is) }

pub returns-then-not-branch : goal.returns-then-not-branch
returns-then-not-branch c = record { is = pair_other (HasMonomialText) HasPolynomialText monomial_free _ _ _ c.split.ensures.is (not_told _ c.in_ok-is_monomial_text.ensures.is c.if-not-branch.true) }

pub returns : goal.returns
returns c =
    let first = (c.in_ok-is_monomial_text.ensures.is).0 c.if-not-branch.false in
    record { is = pair_second (HasMonomialText) HasPolynomialText monomial_free _ _ _ c.split.ensures.is _ (ap bytes_at c.in-Some.is) first _ c.in_ok-is_polynomial_text.ensures.is }
