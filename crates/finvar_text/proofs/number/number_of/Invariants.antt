use Rattle.std.proofs.Common.{◌≡◌, ◌≤◌, take}
use Rattle.finvar_text.specs.Conditions.{most, value}
use Rattle.finvar_text.proofs.number.number_of.Given as goal

abbrev pub invariant-loop-digit : goal.invariant-loop-digit
invariant-loop-digit l = record { is : l.number ≡ value (take l.digit-index l.digits); within : l.number ≤ most }
