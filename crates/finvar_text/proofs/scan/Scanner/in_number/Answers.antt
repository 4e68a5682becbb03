use Rattle.std.proofs.Common.{sym, ◌∙◌, arith}
use Rattle.finvar_text.proofs.ScanSteps.{number_step}
use Rattle.finvar_text.proofs.scan.Scanner.in_number.Goals as goal

pub returns-then-is_ascii_digit-clause-is : goal.returns-then-is_ascii_digit-clause-is
returns-then-is_ascii_digit-clause-is c =
    number_step c.args.text.now c.args.start c.args.place c.args.self.now (omega (arith, c.requires.begins)) c.requires.within c.requires.mode (sym c.is_ascii_digit.ensures.value ∙ c.if-is_ascii_digit.true)
