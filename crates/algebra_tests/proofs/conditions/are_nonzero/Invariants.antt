use Rattle.std.proofs.Common.{take}
use Rattle.alg_core.specs.Spaces.{over}
use Rattle.poly_module.specs.SpaceVectors.{vectors_of}
use Rattle.module_groebner.specs.HomogeneousLists.{AreNonzero}
use Rattle.algebra_tests.proofs.conditions.are_nonzero.Given as goal

abbrev pub invariant-loop-i : goal.invariant-loop-i
invariant-loop-i g l =
    let S = over g.F.Field.field g.O.TermOrder.order l.space in
    AreNonzero S.field (vectors_of S (λ m. m) (take l.i l.vs))
