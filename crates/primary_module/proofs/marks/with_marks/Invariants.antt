use Rattle.std.proofs.Common.{take}
use Rattle.finite_certificate.specs.MarkSpaces.{mark_space}
use Rattle.primary_module.proofs.WiderLaws.{AreWider}
use Rattle.primary_module.proofs.marks.with_marks.Given as goal

abbrev pub invariant-loop-i : goal.invariant-loop-i
invariant-loop-i g l = AreWider (mark_space g.F.Field.field l.space) (take l.i l.terms) l.wider.items
