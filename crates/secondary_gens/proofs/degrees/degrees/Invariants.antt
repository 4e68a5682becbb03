use Rattle.std.proofs.Common.{◌≡◌, take}
use Rattle.secondary_gens.specs.Forms.{degrees_of}
use Rattle.secondary_gens.proofs.degrees.degrees.Given as goal

abbrev pub invariant-loop-p : goal.invariant-loop-p
invariant-loop-p g l = l.degrees.items ≡ degrees_of (take l.p-index l.ps)
