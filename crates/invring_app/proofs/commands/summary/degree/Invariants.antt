use Rattle.std.proofs.Common.{◌≡◌, take}
use Rattle.secondary_gens.specs.Forms.{degree_of}
use Rattle.invring_app.proofs.commands.summary.degree.Given as goal

abbrev pub invariant-loop-i : goal.invariant-loop-i
invariant-loop-i l = l.degree ≡ degree_of (take l.i l.terms)
