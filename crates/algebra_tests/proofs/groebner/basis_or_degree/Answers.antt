use Rattle.std.proofs.Common.{refl}
use Rattle.algebra_tests.proofs.groebner.basis_or_degree.Goals as goal

pub reduced_basis-requires-clause-homogeneous : goal.reduced_basis-requires-clause-homogeneous
reduced_basis-requires-clause-homogeneous g c = c.if-not-are_homogeneous.ensures.divided refl
