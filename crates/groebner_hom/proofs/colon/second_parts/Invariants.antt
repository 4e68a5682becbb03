use Rattle.std.proofs.Common.{take}
use Rattle.alg_core.specs.Spaces.{over}
use Rattle.groebner_hom.proofs.SecondParts.{AreParts}
use Rattle.groebner_hom.proofs.colon.second_parts.Given as goal

abbrev pub invariant-loop-i : goal.invariant-loop-i
invariant-loop-i g l = AreParts (over g.F.Field.field g.O.TermOrder.order l.space) (take l.i l.basis) l.parts.items
