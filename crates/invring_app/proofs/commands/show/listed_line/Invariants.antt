use Rattle.std.proofs.Common.{◌≡◌, ◌++◌, ℕ, List, map, take}
use Rattle.alg_core.specs.DpOrder.{dp_order}
use Rattle.alg_core.specs.Spaces.{over, entries}
use Rattle.alg_core.specs.declared.dp.Dp.{Dp}
use Rattle.prime_field.specs.PrimeFields.{gfp}
use Rattle.prime_field.specs.declared.gfp.PrimeField.{PrimeField}
use Rattle.poly_text.specs.Texts.{polynomial_text}
use Rattle.invring_app.specs.Lines.{with_commas}
use Rattle.invring_app.proofs.commands.show.listed_line.Given as goal

abbrev pub invariant-loop-i : goal.invariant-loop-i
invariant-loop-i l = let S = over (λ (f : PrimeField). gfp f.p f.listed) (λ (o : Dp). dp_order o.weights.items) l.space in
    l.line.items ≡ l.title ++ with_commas (map (λ p. polynomial_text S l.names (entries (λ (m : List ℕ). m) p)) (take l.i l.polynomials))
