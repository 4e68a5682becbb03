use Rattle.std.proofs.Common.{◌≡◌, take}
use Rattle.invring_app.specs.Lines.{power_lines}
use Rattle.invring_app.proofs.commands.lines.power_lines.Given as goal

abbrev pub invariant-loop-i : goal.invariant-loop-i
invariant-loop-i l = l.text.items ≡ power_lines (take l.i l.variables) (take l.i l.exponents)
