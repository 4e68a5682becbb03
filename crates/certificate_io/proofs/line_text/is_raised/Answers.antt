use Rattle.std.proofs.Common.{ap, ℕ}
use Rattle.poly_text.specs.Syntax.{HasPolynomialText}
use Rattle.certificate_io.specs.Lines.{bytes_at, IsNumber}
use Rattle.certificate_io.proofs.PairSteps.{pair_none, pair_other, pair_second, not_told, exponent_free}
use Rattle.certificate_io.proofs.line_text.is_raised.Goals as goal

pub returns-in_default : goal.returns-in_default
returns-in_default c = record { is = pair_none (λ w. (n : ℕ) × IsNumber 9999 n w) HasPolynomialText exponent_free _ _ _ c.split.ensures.is (ap bytes_at c.in_default.is) }

pub returns-then-not-is_number : goal.returns-then-not-is_number
returns-then-not-is_number c = record { is = pair_other (λ w. (n : ℕ) × IsNumber 9999 n w) HasPolynomialText exponent_free _ _ _ c.split.ensures.is (not_told _ c.is_number.ensures.is c.if-not-is_number.true) }

pub returns : goal.returns
returns c =
    let first = (c.is_number.ensures.is).0 c.if-not-is_number.false in
    record { is = pair_second (λ w. (n : ℕ) × IsNumber 9999 n w) HasPolynomialText exponent_free _ _ _ c.split.ensures.is _ (ap bytes_at c.in-Some.is) first _ c.in_ok-is_polynomial_text.ensures.is }
