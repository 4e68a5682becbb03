use Rattle.std.proofs.Common.{◌<◌}
use Rattle.alg_core.specs.Lists.{In}
use Rattle.secondary_gens.specs.Forms.{degree_of}
use Rattle.cert_check.proofs.Items.{HoldsTo}
use Rattle.cert_check.proofs.WordItems.{Item}
use Rattle.cert_check.proofs.words.first_stranger.Given as goal

abbrev pub invariant-loop-l : goal.invariant-loop-l
invariant-loop-l g l = HoldsTo (Item (λ q. In q l.forms × (0 < degree_of q)) l.irr) l.l
