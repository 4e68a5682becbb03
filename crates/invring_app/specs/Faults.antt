-- What becomes of a fault of a layer below.
--
--   fault_of_script e   a syntax fault at its byte, a faulty input, or want of memory
--   fault_of_space e    the bound on the monomials of a degree, or want of memory
--   fault_of_group e    the bound on the elements of the group, or want of memory
--   fault_of_search e   the bound that the search for primary invariants met, or want of memory
--   fault_of_rank e     the bound on the number of standard monomials, or want of memory
--   fault_of_certificate e   a syntax fault at its line, a faulty value on a line, or want of memory
--   fault_of_check e    the bound that a check met, or want of memory
--   fault_of_basis e    the element above the cap, or want of memory
use Rattle.std.specs.Prelude.{ℕ}
use Rattle.alg_core.specs.declared.place.Place.TheVariants.{Byte, Line}
use Rattle.alg_core.specs.declared.input_fault.InputFault.TheVariants as values
use Rattle.certificate_io.specs.declared.fault.CertFault.{CertFault}
use Rattle.certificate_io.specs.declared.fault.CertFault.TheVariants as certificates
use Rattle.cert_check.specs.declared.verdict.CheckRefusal.{CheckRefusal}
use Rattle.cert_check.specs.declared.verdict.CheckRefusal.TheVariants as refusals
use Rattle.finvar_text.specs.declared.fault.ScriptFault.{ScriptFault}
use Rattle.finvar_text.specs.declared.fault.ScriptFault.TheVariants as scripts
use Rattle.invariant_space.specs.declared.fault.SpaceFault.{SpaceFault}
use Rattle.invariant_space.specs.declared.fault.SpaceFault.TheVariants as spaces
use Rattle.matrix_group.specs.declared.fault.GroupFault.{GroupFault}
use Rattle.matrix_group.specs.declared.fault.GroupFault.TheVariants as groups
use Rattle.module_groebner.specs.declared.bound.BasisFault.{BasisFault}
use Rattle.module_groebner.specs.declared.bound.BasisFault.TheVariants as bases
use Rattle.primary_search.specs.declared.fault.SearchFault.{SearchFault}
use Rattle.primary_search.specs.declared.fault.SearchFault.TheVariants as searches
use Rattle.primary_module.specs.declared.fault.RankFault.{RankFault}
use Rattle.primary_module.specs.declared.fault.RankFault.TheVariants as ranks
use Rattle.invring_app.specs.declared.fault.Fault.{Fault}
use Rattle.invring_app.specs.declared.fault.Fault.TheVariants.{Syntax, Input, Bound, Memory}
use Rattle.invring_app.specs.declared.status.BoundFault.TheVariants.{TermBound, GroupBound, NoPrimary, BasisBound, RankBound}

abbrev pub fault_of_script : ScriptFault → Fault
fault_of_script (scripts.Syntax n) = Syntax (Byte n)
fault_of_script (scripts.Input fault) = Input fault
fault_of_script scripts.Memory = Memory

abbrev pub fault_of_space : SpaceFault → Fault
fault_of_space (spaces.TermBound degree count) = Bound (TermBound degree count)
fault_of_space spaces.Memory = Memory

abbrev pub fault_of_group : GroupFault → Fault
fault_of_group (groups.GroupBound counted) = Bound (GroupBound counted)
fault_of_group groups.Memory = Memory

abbrev pub fault_of_search : SearchFault ℕ → Fault
fault_of_search (searches.NoPrimary found degree) = Bound (NoPrimary found degree)
fault_of_search (searches.TermBound degree count) = Bound (TermBound degree count)
fault_of_search (searches.Basis b) = Bound (BasisBound b.which b.vector b.degree)
fault_of_search searches.Memory = Memory

abbrev pub fault_of_rank : RankFault → Fault
fault_of_rank (ranks.RankBound counted) = Bound (RankBound counted)
fault_of_rank ranks.Memory = Memory

-- a syntax fault at its line, a faulty value on a line, or want of memory
abbrev pub fault_of_certificate : CertFault → Fault
fault_of_certificate (certificates.Syntax line) = Syntax (Line line)
fault_of_certificate (certificates.Value line kind) = Input (values.Line line kind)
fault_of_certificate certificates.Memory = Memory

-- the bound that a check met, or want of memory
abbrev pub fault_of_check : CheckRefusal → Fault
fault_of_check (refusals.GroupBound counted) = Bound (GroupBound counted)
fault_of_check (refusals.RankBound counted) = Bound (RankBound counted)
fault_of_check (refusals.TermBound degree count) = Bound (TermBound degree count)
fault_of_check refusals.Memory = Memory

abbrev pub fault_of_basis : BasisFault ℕ → Fault
fault_of_basis (bases.Above b) = Bound (BasisBound b.which b.vector b.degree)
fault_of_basis bases.Memory = Memory
