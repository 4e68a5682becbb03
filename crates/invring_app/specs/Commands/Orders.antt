-- How `order` ends at a problem.
--
--   IsOrderOf q N         the generators of the problem q generate a group of N elements over its field
--   IsOverOrderOf q m     they generate a group of more than m elements
--   IsOrderBound l q f    the group has more elements than the limit allows, and f names one more than the limit
--   IsGroupTold m q e     e names one more than m, and the group has more than m elements; or it is want of memory
--   IsOrderAnswer l q text   it has not, and the text is the number of its elements in decimal, and a newline
use Rattle.std.specs.Prelude.{◌≡◌, ℕ, ◌+◌, ◌≤◌, List, [], ◌∷◌, ◌++◌, decimal}
use Rattle.alg_core.specs.Fields.{FieldOn}
use Rattle.alg_core.specs.declared.limits.Limits.{Limits}
use Rattle.prime_field.specs.PrimeFields.{IsPrimeField}
use Rattle.matrix_group.specs.Groups.{IsOrder, IsOverOrder}
use Rattle.finvar_text.specs.Problems.{Problem, variable_count}
use Rattle.matrix_group.specs.declared.fault.GroupFault.{GroupFault}
use Rattle.matrix_group.specs.declared.fault.GroupFault.TheVariants as groups
use Rattle.invring_app.specs.declared.status.BoundFault.{BoundFault}
use Rattle.invring_app.specs.declared.status.BoundFault.TheVariants.{GroupBound}

abbrev pub IsOrderOf : Problem → ℕ → Type 0
IsOrderOf q N = (k : FieldOn ℕ) × IsPrimeField q.characteristic k × IsOrder k (variable_count q) q.generators N

abbrev pub IsOverOrderOf : Problem → ℕ → Type 0
IsOverOrderOf q m = (k : FieldOn ℕ) × IsPrimeField q.characteristic k × IsOverOrder k (variable_count q) q.generators m

abbrev pub IsOrderBound : Limits → Problem → BoundFault → Type 0
IsOrderBound l q f = (f ≡ GroupBound (l.max_order + 1)) × IsOverOrderOf q l.max_order

abbrev pub IsOrderAnswer : Limits → Problem → List ℕ → Type 0
IsOrderAnswer l q text = (N : ℕ) × IsOrderOf q N × (N ≤ l.max_order) × (text ≡ decimal N ++ 10 ∷ [])

abbrev pub IsGroupTold : ℕ → Problem → GroupFault → Type 0
IsGroupTold m q (groups.GroupBound counted) = (counted ≡ m + 1) × IsOverOrderOf q m
IsGroupTold m q groups.Memory = Unit {0}
