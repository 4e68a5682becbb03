use Rattle.std.proofs.Common.{◌≡◌, take}
use Rattle.cert_check.specs.Parts.{monomials}
use Rattle.cert_check.proofs.averages.have_monomials.Given as goal

abbrev pub invariant-loop-i : goal.invariant-loop-i
invariant-loop-i l = take l.i (monomials l.lines) ≡ take l.i l.monomials
