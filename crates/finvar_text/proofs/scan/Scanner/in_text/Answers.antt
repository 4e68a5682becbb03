use Rattle.std.proofs.lemmas.Bool.{ne_eqb}
use Rattle.finvar_text.proofs.ScanSteps.{text_step}
use Rattle.finvar_text.proofs.scan.Scanner.in_text.Goals as goal

pub returns-clause-is : goal.returns-clause-is
returns-clause-is c =
    text_step c.args.text.now c.args.start c.args.place c.args.self.now c.requires.begins c.requires.within c.requires.mode (ne_eqb _ 34 c.if-byte-eq34.false) (ne_eqb _ 10 c.if-byte-eq10.false)
