use Rattle.std.proofs.Common.{◌≡◌, ◌++◌, take}
use Rattle.finvar_text.proofs.DemoSteps.{after_commas}
use Rattle.finvar_text.proofs.demo.separated.Given as goal

abbrev pub invariant-loop-byte : goal.invariant-loop-byte
invariant-loop-byte l = l.text.items ≡ l.initial.text.items ++ after_commas (take l.byte-index l.rest)
