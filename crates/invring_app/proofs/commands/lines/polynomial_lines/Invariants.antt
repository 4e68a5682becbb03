use Rattle.std.proofs.Common.{◌≡◌, ℕ, List, map, take}
use Rattle.alg_core.specs.DpOrder.{dp_order}
use Rattle.alg_core.specs.Spaces.{over, entries}
use Rattle.alg_core.specs.declared.dp.Dp.{Dp}
use Rattle.prime_field.specs.PrimeFields.{gfp}
use Rattle.prime_field.specs.declared.gfp.PrimeField.{PrimeField}
use Rattle.invring_app.specs.Lines.{polynomial_lines}
use Rattle.invring_app.proofs.commands.lines.polynomial_lines.Given as goal

abbrev pub invariant-loop-i : goal.invariant-loop-i
invariant-loop-i l = l.text.items ≡ polynomial_lines l.title (over (λ (f : PrimeField). gfp f.p f.listed) (λ (o : Dp). dp_order o.weights.items) l.space) l.names (map (entries (λ (m : List ℕ). m)) (take l.i l.polynomials))
