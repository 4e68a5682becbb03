use Rattle.std.proofs.Common.{◌≡◌, ◌++◌, drop}
use Rattle.primary_module.specs.UndividedMonomials.{lead_exponents}
use Rattle.primary_module.proofs.standard.lead_monomials.Given as goal

abbrev pub invariant-loop-i : goal.invariant-loop-i
invariant-loop-i g l = l.leads.items ++ lead_exponents l.space.order.vars (drop l.i l.lifts) ≡ lead_exponents l.space.order.vars l.lifts
