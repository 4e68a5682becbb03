use Rattle.std.proofs.Common.{◌≡◌, ◌+◌, map}
use Rattle.std.specs.List.{range_with_len}
use Rattle.finvar_text.specs.Demos.{cell}
use Rattle.finvar_text.proofs.demo.digits.Given as goal

abbrev pub invariant-loop-place : goal.invariant-loop-place
invariant-loop-place l = l.digits.items ≡ map (λ place. 48 + cell l.n place) (range_with_len 0 l.place)
