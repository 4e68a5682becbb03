use Rattle.std.proofs.Common.{take}
use Rattle.alg_core.specs.Spaces.{over}
use Rattle.primary_module.proofs.WiderLaws.{AreWider}
use Rattle.invring_app.proofs.commands.ring.unmarked.without_marks.Given as goal

abbrev pub invariant-loop-i : goal.invariant-loop-i
invariant-loop-i g l = AreWider (over g.F.Field.field g.O.TermOrder.order l.space) (take l.i l.terms) l.narrower.items
