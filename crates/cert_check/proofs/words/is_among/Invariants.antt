use Rattle.std.proofs.Common.{◌≡◌}
use Rattle.cert_check.proofs.Items.{HoldsTo}
use Rattle.cert_check.proofs.WordItems.{Item}
use Rattle.cert_check.proofs.words.is_among.Given as goal

abbrev pub invariant-loop-j : goal.invariant-loop-j
invariant-loop-j g l = HoldsTo (Item (λ m. ¬ (l.f ≡ m)) l.list) l.j
