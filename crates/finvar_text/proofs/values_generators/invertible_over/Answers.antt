use Rattle.std.proofs.Common.{ℕ, subst}
use Rattle.std.specs.Prelude.{IfSome, IfNone}
use Rattle.alg_core.specs.Fields.{Scalar, scalars}
use Rattle.lin_algebra.specs.Matrices.{IsInverse, entries}
use Rattle.prime_field.specs.PrimeFields.{gfp}
use Rattle.finvar_text.specs.Trees.{matrix_of}
use Rattle.finvar_text.proofs.GeneratorSteps.{invertible_is, no_inverse}
use Rattle.finvar_text.proofs.values_generators.invertible_over.Goals as goal

pub returns-in-Some-clause-invertible : goal.returns-in-Some-clause-invertible
returns-in-Some-clause-invertible c =
    let p = c.args.field.now.p in
    let k = gfp p c.args.field.now.listed in
    let g = c.in_ok-over.over in
    invertible_is p c.args.n c.args.field.now.listed g (matrix_of c.args.matrix.now) c.in_ok-over.ensures.is c.in_ok-over.ensures.matrix (entries k c.in-Some.field-0)
    (subst (λ o. IfSome o (λ b. IsInverse (scalars k) g.rows (entries k g) (entries k b))) c.in-Some.is c.in_ok-found.ensures.inverse)

pub returns-in-None-clause-none : goal.returns-in-None-clause-none
returns-in-None-clause-none c =
    let p = c.args.field.now.p in
    let k = gfp p c.args.field.now.listed in
    let g = c.in_ok-over.over in
    no_inverse p c.args.n c.args.field.now.listed g (matrix_of c.args.matrix.now) c.in_ok-over.ensures.is
    (subst (λ o. IfNone o ((b : ℕ → ℕ → Scalar k) → ¬ IsInverse (scalars k) g.rows (entries k g) b)) c.in-None.is c.in_ok-found.ensures.singular)
