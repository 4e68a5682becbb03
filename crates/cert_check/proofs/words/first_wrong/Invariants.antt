use Rattle.alg_core.specs.Spaces.{over}
use Rattle.cert_check.proofs.Items.{HoldsTo}
use Rattle.cert_check.proofs.WordItems.{HasValue}
use Rattle.cert_check.proofs.words.first_wrong.Given as goal

abbrev pub invariant-loop-j : goal.invariant-loop-j
invariant-loop-j g l = HoldsTo (HasValue (over g.F.Field.field g.O.TermOrder.order l.space) l.words l.images l.forms) l.j
