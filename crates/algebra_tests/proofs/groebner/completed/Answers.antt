use Rattle.std.proofs.Common.{refl}
use Rattle.algebra_tests.proofs.groebner.completed.Goals as goal

pub new-requires-2-clause-homogeneous : goal.new-requires-2-clause-homogeneous
new-requires-2-clause-homogeneous g c = c.if-not-are_homogeneous.ensures.divided refl
