use Rattle.cert_check.specs.FormTests.{IsLiftAt}
use Rattle.cert_check.proofs.CheckSpaces.{plain_of, marks_of}
use Rattle.cert_check.proofs.Items.{HoldsTo}
use Rattle.cert_check.proofs.WordItems.{Item}
use Rattle.cert_check.proofs.lifts.first_other.Given as goal

abbrev pub invariant-loop-i : goal.invariant-loop-i
invariant-loop-i l = HoldsTo (Item (IsLiftAt (plain_of l.space) (marks_of l.marked) l.images) l.fs) l.i
