use Rattle.std.proofs.Common.{◌≡◌, ◌≤◌, ◌*◌, take}
use Rattle.poly_module.specs.GreatestExponents.{total}
use Rattle.invring_app.proofs.commands.summary.total.Given as goal

abbrev pub invariant-loop-i : goal.invariant-loop-i
invariant-loop-i l = (l.sum ≡ total (take l.i l.mono)) × (l.sum ≤ 4294967295 * l.i)
