use Rattle.std.proofs.Common.{take, All, IsTrue}
use Rattle.alg_core.specs.Names.{is_name}
use Rattle.poly_text.proofs.names.Names.tell.Given as goal

abbrev pub invariant-loop-i : goal.invariant-loop-i
invariant-loop-i l = All (λ w. IsTrue (is_name w)) (take l.i l.self.vars)
