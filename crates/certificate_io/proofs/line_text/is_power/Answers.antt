use Rattle.std.proofs.Common.{ap, IsTrue}
use Rattle.alg_core.specs.Names.{is_name}
use Rattle.certificate_io.specs.Lines.{bytes_at, IsRaisedText}
use Rattle.certificate_io.proofs.PairSteps.{pair_none, pair_other, pair_second, not_told, true_told}
use Rattle.certificate_io.proofs.WordSteps.{name_free}
use Rattle.certificate_io.proofs.line_text.is_power.Goals as goal

pub returns-in_default : goal.returns-in_default
returns-in_default c = record { is = pair_none (λ w. IsTrue (is_name w)) IsRaisedText name_free _ _ _ c.split.ensures.is (ap bytes_at c.in_default.is) }

pub returns-then-not-is_name : goal.returns-then-not-is_name
returns-then-not-is_name c = record { is = pair_other (λ w. IsTrue (is_name w)) IsRaisedText name_free _ _ _ c.split.ensures.is (not_told _ (true_told _ _ c.is_name.ensures.is) c.if-not-is_name.true) }

pub returns : goal.returns
returns c =
    let first = ((true_told _ _ c.is_name.ensures.is)).0 c.if-not-is_name.false in
    record { is = pair_second (λ w. IsTrue (is_name w)) IsRaisedText name_free _ _ _ c.split.ensures.is _ (ap bytes_at c.in-Some.is) first _ c.in_ok-is_raised.ensures.is }
