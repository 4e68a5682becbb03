use Rattle.std.proofs.Common.{◌≡◌, take}
use Rattle.std.specs.Prelude.{All, IsTrue}
use Rattle.alg_core.specs.Names.{is_name}
use Rattle.certificate_io.proofs.values.copied.Given as goal

abbrev pub invariant-loop-i : goal.invariant-loop-i
invariant-loop-i l = (l.copies.items ≡ take l.i l.names) × All (λ w. IsTrue (is_name w)) l.copies.items
