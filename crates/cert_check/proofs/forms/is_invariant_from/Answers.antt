use Rattle.std.proofs.Common.{ℕ, List, arith}
use Rattle.poly_module.proofs.Room.{low}
use Rattle.cert_check.proofs.CheckSpaces.{plain_of}
use Rattle.cert_check.proofs.forms.is_invariant_from.Goals as goal

pub is_invariant-requires-clause-low : goal.is_invariant-requires-clause-low
is_invariant-requires-clause-low c =
    low (plain_of c.args.space.now) c.requires.positive (λ (m : List ℕ). m) 4294967295 4096 c.args.f.now (omega arith) c.requires.f.poly.fits c.requires.f.up_to
