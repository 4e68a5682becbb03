use Rattle.std.proofs.Common.{◌≡◌, ◌+◌, drop}
use Rattle.alg_core.specs.MonomialParts.{variable_part}
use Rattle.alg_core.specs.Monomials.{mono}
use Rattle.primary_module.specs.Positions.{place_of}
use Rattle.syzygy_kernel.proofs.places.place_in.Given as goal

abbrev pub invariant-loop-i : goal.invariant-loop-i
invariant-loop-i l = l.i + place_of (drop l.i l.monomials) (variable_part l.n (mono l.mono)) ≡ place_of l.monomials (variable_part l.n (mono l.mono))
