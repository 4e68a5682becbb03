use Rattle.std.proofs.Common.{◌≡◌, ◌++◌, drop}
use Rattle.primary_module.specs.UndividedMonomials.{multiples_of}
use Rattle.primary_module.proofs.standard.add_multiples.Given as goal

abbrev pub invariant-loop-i : goal.invariant-loop-i
invariant-loop-i l = l.list.items ++ multiples_of l.leads l.n l.j (drop l.i l.monomials) ≡ l.fn.list.items ++ multiples_of l.leads l.n l.j l.monomials
