use Rattle.std.proofs.Common.{◌≡◌, take}
use Rattle.secondary_gens.specs.Forms.{degrees_of}
use Rattle.invring_app.proofs.commands.summary.degrees.Given as goal

abbrev pub invariant-loop-i : goal.invariant-loop-i
invariant-loop-i l = l.degrees.items ≡ degrees_of (take l.i l.polynomials)
