-- The spaces of the program at a step of a check.
use Rattle.std.proofs.Common.{ℕ}
use Rattle.alg_core.specs.DpOrder.{dp_order}
use Rattle.alg_core.specs.Spaces.{SpaceOver, over}
use Rattle.alg_core.specs.declared.block_order.BlockOrder.{BlockOrder}
use Rattle.alg_core.specs.declared.dp.Dp.{Dp}
use Rattle.alg_core.specs.declared.space.Space.{Space}
use Rattle.finite_certificate.specs.MarkSpaces.{mark_space}
use Rattle.prime_field.specs.PrimeFields.{gfp}
use Rattle.prime_field.specs.declared.gfp.PrimeField.{PrimeField}

-- without marks
abbrev pub plain_of : Space PrimeField Dp → SpaceOver ℕ
plain_of s = over (λ (f : PrimeField). gfp f.p f.listed) (λ (o : Dp). dp_order o.weights.items) s

-- with marks
abbrev pub marks_of : Space PrimeField BlockOrder → SpaceOver ℕ
marks_of s = mark_space (λ (f : PrimeField). gfp f.p f.listed) s
