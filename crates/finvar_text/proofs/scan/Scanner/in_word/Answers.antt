use Rattle.std.proofs.Common.{sym, ◌∙◌, arith}
use Rattle.finvar_text.proofs.ScanSteps.{word_step, word_stop}
use Rattle.finvar_text.proofs.scan.Scanner.in_word.Goals as goal

pub returns-then-not-word_front-clause-is : goal.returns-then-not-word_front-clause-is
returns-then-not-word_front-clause-is c =
    word_stop c.args.text.now c.args.start c.args.place c.args.self.now (omega (arith, c.requires.begins)) c.requires.within (sym c.is_name_byte.ensures.is ∙ c.if-is_name_byte.true) (sym c.word_front.ensures.is ∙ c.if-not-word_front.true)

pub returns-then-is_name_byte-clause-is : goal.returns-then-is_name_byte-clause-is
returns-then-is_name_byte-clause-is c =
    word_step c.args.text.now c.args.start c.args.place c.args.self.now (omega (arith, c.requires.begins)) c.requires.within c.requires.mode (sym c.is_name_byte.ensures.is ∙ c.if-is_name_byte.true) (sym c.word_front.ensures.is ∙ c.if-not-word_front.false)
