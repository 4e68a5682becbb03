use Rattle.std.proofs.Common.{sym, ◌∙◌}
use Rattle.poly_text.proofs.ScanSteps.{name_step}
use Rattle.poly_text.proofs.scan.Scanner.in_name.Goals as goal

pub returns-then-is_name_byte-clause-is : goal.returns-then-is_name_byte-clause-is
returns-then-is_name_byte-clause-is c =
    name_step c.args.text.now c.args.start c.args.place c.args.self.now c.requires.begins c.requires.within c.requires.stage (sym c.is_name_byte.ensures.is ∙ c.if-is_name_byte.true)
