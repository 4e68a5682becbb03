use Rattle.std.proofs.Common.{◌≤◌, ◌-◌, ◌^◌, take}
use Rattle.std.specs.Prelude.{All}
use Rattle.alg_core.specs.Keys.{key}
use Rattle.alg_core.specs.Spaces.{over, entries}
use Rattle.alg_core.specs.SpaceGrading.{degree}
use Rattle.test_inputs.proofs.vectors.has_small_degrees.Given as goal

abbrev pub invariant-loop-i : goal.invariant-loop-i
invariant-loop-i g l =
    let S = over g.F.Field.field g.O.TermOrder.order l.space in
    All (λ e. degree S (key e.0) ≤ 2 ^ 31 - 1) (entries (λ m. m) (take l.i l.terms))
