use Rattle.alg_core.specs.DpOrder.{dp_order}
use Rattle.alg_core.specs.Spaces.{over}
use Rattle.alg_core.specs.declared.dp.Dp.{Dp}
use Rattle.poly_module.specs.SpaceVectors.{vectors_of}
use Rattle.prime_field.specs.PrimeFields.{gfp}
use Rattle.prime_field.specs.declared.gfp.PrimeField.{PrimeField}
use Rattle.invring_app.proofs.FixedSteps.{Valued}
use Rattle.invring_app.proofs.commands.ring.kernels.values_of_fixed.Given as goal

abbrev pub invariant-loop-i : goal.invariant-loop-i
invariant-loop-i l =
    let S = over (λ (f : PrimeField). gfp f.p f.listed) (λ (o : Dp). dp_order o.weights.items) l.space in
    Valued S (vectors_of S (λ m. m) l.free_module.theta) l.members l.i l.values.items
