-- Members of kernel evidence whose values are of small degrees.
--
--   IsSmallMember S m    the member m of the kernel has the terms of a homogeneous polynomial over the space S, of degree at most 1000
use Rattle.module_groebner.specs.HomogeneousLists.{IsHomogeneousUpTo}
use Rattle.poly_module.specs.SpaceVectors.{IsPoly, vector_of}
use Rattle.alg_core.specs.Spaces.{SpaceOver}
use Rattle.syzygy_kernel.specs.declared.member.Member.{Member}

pub record IsSmallMember {E : Type 0} (S : SpaceOver E) (m : Member E) : Type 0 where
  pub polynomial : IsPoly S (λ a. a) m.u
  pub homogeneous : IsHomogeneousUpTo S 1000 (vector_of S (λ a. a) m.u)
