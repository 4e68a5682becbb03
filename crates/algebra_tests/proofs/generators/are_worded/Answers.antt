use Rattle.std.proofs.Common.{refl, sym, subst, arith}
use Rattle.secondary_gens.specs.Forms.{IsSmallForm}
use Rattle.algebra_tests.proofs.generators.are_worded.Goals as goal

pub words-requires-clause-primaries : goal.words-requires-clause-primaries
words-requires-clause-primaries c = c.if-not-are_positive_forms.ensures.are refl

pub words-requires-clause-irreducibles : goal.words-requires-clause-irreducibles
words-requires-clause-irreducibles c = c.if-not-are_positive_forms-2.ensures.are refl

pub words-requires-clause-forms : goal.words-requires-clause-forms
words-requires-clause-forms c = c.if-not-are_small_forms.ensures.are refl

pub word-requires-clause-form : goal.word-requires-clause-form
word-requires-clause-form c = subst (IsSmallForm _) (sym c.index-fs-i.is) (c.if-not-are_small_forms.ensures.are refl c.loop-i.i c.index-fs-i.result (omega arith))
