-- A fault that is handed on.
use Rattle.std.proofs.Common.{◌≡◌, ℕ, sym, ap, subst, inl, inr}
use Rattle.std.specs.Prelude.{List, Result, Ok, Err, IfErr, IsErrAnd}
use Rattle.alg_core.specs.declared.limits.Limits.{Limits}
use Rattle.finvar_text.specs.Problems.{Problem, IsProblemText}
use Rattle.invariant_space.specs.declared.fault.SpaceFault.{SpaceFault}
use Rattle.invariant_space.specs.declared.fault.SpaceFault.TheVariants as spaces
use Rattle.matrix_group.specs.declared.fault.GroupFault.{GroupFault}
use Rattle.matrix_group.specs.declared.fault.GroupFault.TheVariants as groups
use Rattle.invring_app.specs.declared.commands.Command.TheVariants.{Basis, Order, Primary}
use Rattle.invring_app.specs.declared.status.BoundFault.TheVariants.{TermBound, GroupBound}
use Rattle.invring_app.specs.Commands.Bases.{count_of, IsBoundTold}
use Rattle.invring_app.specs.Commands.Orders.{IsGroupTold}
use Rattle.primary_search.specs.declared.fault.SearchFault.{SearchFault}
use Rattle.primary_search.specs.declared.fault.SearchFault.TheVariants as searches
use Rattle.invring_app.specs.Commands.Primaries.{KeepsOrder, IsSearchTold}
use Rattle.invring_app.specs.Answers.{IsFault}
use Rattle.invring_app.specs.Faults.{fault_of_space, fault_of_group, fault_of_search}
use Rattle.invring_app.specs.Inputs.{OfScript}

-- what holds of the error that it becomes
pub handed-on : {X E : Type 0} (P : E → Type 0) (result : Result X E) (e : E) → IsErrAnd result (λ x. x ≡ e) → P e → IfErr result P
handed-on P (Ok x) e told h = absurd told
handed-on P (Err x) e told h = subst P (sym told) h

pub basis-fault : (d : ℕ) (l : Limits) (bytes : List ℕ) (q : Problem) (e : SpaceFault) → IsProblemText bytes q → IsBoundTold d l.max_terms q e → IsFault (Basis d) l bytes (fault_of_space e)
basis-fault d l bytes q (spaces.TermBound degree count) text told =
    let same : TermBound degree count ≡ TermBound d (count_of d q) = cc in
    (OfScript q, text, (same, told.2))
basis-fault d l bytes q spaces.Memory text told = tt

pub order-fault : (l : Limits) (bytes : List ℕ) (q : Problem) (e : GroupFault) → IsProblemText bytes q → IsGroupTold l.max_order q e → IsFault Order l bytes (fault_of_group e)
order-fault l bytes q (groups.GroupBound counted) text told = (OfScript q, text, (ap (λ (n : ℕ). GroupBound n) told.0, told.1))
order-fault l bytes q groups.Memory text told = tt

-- the group comes before the search
pub group-fault : (l : Limits) (bytes : List ℕ) (q : Problem) (e : GroupFault) → IsProblemText bytes q → IsGroupTold l.max_order q e → IsFault Primary l bytes (fault_of_group e)
group-fault l bytes q (groups.GroupBound counted) text told = (OfScript q, text, inl (ap (λ (n : ℕ). GroupBound n) told.0, told.1))
group-fault l bytes q groups.Memory text told = tt

pub search-fault : (l : Limits) (bytes : List ℕ) (q : Problem) (e : SearchFault ℕ) → IsProblemText bytes q → KeepsOrder l q → IsSearchTold l q e → IsFault Primary l bytes (fault_of_search e)
search-fault l bytes q (searches.NoPrimary found d) text kept told = (OfScript q, text, inr (kept, told))
search-fault l bytes q (searches.TermBound d count) text kept told = (OfScript q, text, inr (kept, told))
search-fault l bytes q (searches.Basis b) text kept told = (OfScript q, text, inr (kept, told))
search-fault l bytes q searches.Memory text kept told = tt
