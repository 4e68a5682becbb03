-- What becomes of a fault of a layer below.
--
--   fault_of_space e    the bound on the monomials of a degree, or want of memory
--   fault_of_basis e    the element above the cap, or want of memory
use Rattle.invariant_space.specs.declared.fault.SpaceFault.{SpaceFault}
use Rattle.invariant_space.specs.declared.fault.SpaceFault.TheVariants as spaces
use Rattle.module_groebner.specs.declared.bound.BasisFault.{BasisFault}
use Rattle.module_groebner.specs.declared.bound.BasisFault.TheVariants as bases
use Rattle.primary_search.specs.declared.fault.SearchFault.{SearchFault}
use Rattle.primary_search.specs.declared.fault.SearchFault.TheVariants.{TermBound, Basis, Memory}

abbrev pub fault_of_space : {E : Type 0} → SpaceFault → SearchFault E
fault_of_space (spaces.TermBound degree count) = TermBound degree count
fault_of_space spaces.Memory = Memory

abbrev pub fault_of_basis : {E : Type 0} → BasisFault E → SearchFault E
fault_of_basis (bases.Above bound) = Basis bound
fault_of_basis bases.Memory = Memory
