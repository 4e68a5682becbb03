use Rattle.std.proofs.Common.{ℕ, subst}
use Rattle.std.specs.Prelude.{IfSome}
use Rattle.alg_core.specs.Fields.{scalars}
use Rattle.lin_algebra.specs.declared.matrix.Matrix.{Matrix}
use Rattle.lin_algebra.specs.Matrices.{entries, IsInverse}
use Rattle.test_inputs.proofs.matrices.invertible.Goals as goal

pub returns-in-Some-clause-inverse : goal.returns-in-Some-clause-inverse
returns-in-Some-clause-inverse g c =
    let k = g.F.Field.field c.args.field.now in
    let m = c.in_ok-m.m in
    (entries k c.in-Some.field-0, subst (λ o. IfSome o (λ (b : Matrix ℕ). IsInverse (scalars k) m.rows (entries k m) (entries k b))) c.in-Some.is c.in_ok-inverse.ensures.inverse)
