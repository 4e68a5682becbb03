-- What a fault of `ring` tells.
--
--   IsRingTold q l e    the fault e of the problem q: a bound stops `ring`, or memory was refused
--   IsTooLong n m e     the fault e says that a text of n bytes is longer than the limit m, and names its length; or memory was refused
use Rattle.std.specs.Prelude.{◌≡◌, ◌<◌, ℕ, min}
use Rattle.alg_core.specs.declared.limits.Limits.{Limits}
use Rattle.poly_text.specs.Outputs.{length_limit}
use Rattle.finvar_text.specs.Problems.{Problem}
use Rattle.invring_app.specs.declared.fault.Fault.{Fault}
use Rattle.invring_app.specs.declared.fault.Fault.TheVariants as faults
use Rattle.invring_app.specs.declared.status.BoundFault.TheVariants.{TextBound}
use Rattle.invring_app.specs.Commands.Rings.{IsRingBound}

abbrev pub IsRingTold : Problem → Limits → Fault → Type 0
IsRingTold q l (faults.Syntax p) = ⊥
IsRingTold q l (faults.Input f) = ⊥
IsRingTold q l (faults.Bound f) = IsRingBound l q f
IsRingTold q l faults.Memory = Unit {0}

abbrev pub IsTooLong : ℕ → ℕ → Fault → Type 0
IsTooLong n m (faults.Syntax p) = ⊥
IsTooLong n m (faults.Input f) = ⊥
IsTooLong n m (faults.Bound f) = (f ≡ TextBound (min n length_limit)) × (m < n)
IsTooLong n m faults.Memory = Unit {0}
