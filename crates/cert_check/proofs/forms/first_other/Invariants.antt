use Rattle.poly_module.specs.SpaceVectors.{vector_of}
use Rattle.cert_check.specs.FormTests.{IsInvariantFrom}
use Rattle.cert_check.proofs.CheckSpaces.{plain_of}
use Rattle.cert_check.proofs.Items.{HoldsTo}
use Rattle.cert_check.proofs.WordItems.{Item}
use Rattle.cert_check.proofs.forms.first_other.Given as goal

abbrev pub invariant-loop-i : goal.invariant-loop-i
invariant-loop-i l = let S = plain_of l.space in HoldsTo (Item (λ f. IsInvariantFrom S l.gens l.least (vector_of S (λ m. m) f)) l.fs) l.i
