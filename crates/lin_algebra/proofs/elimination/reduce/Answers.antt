use Rattle.std.proofs.Common.{◌≡◌, ◌≢◌, ◌<◌, ℕ, length, subst, sym}
use Rattle.alg_core.specs.Fields.{scalars}
use Rattle.lin_algebra.specs.Vectors.{vector}
use Rattle.lin_algebra.proofs.BasisLaws.{zero_before_rest}
use Rattle.lin_algebra.proofs.elimination.reduce.Goals as goal

pub clear_at-requires-clause-before : goal.clear_at-requires-clause-before
clear_at-requires-clause-before g c =
    let k = g.F.Field.field c.args.field.now in
    subst (λ r. (j : ℕ) → j < c.greater-from.result → j ≢ c.old-item.result.pivot → vector k r j ≡ (scalars k).zero) (sym c.deref.ensures.value)
    (zero_before_rest k (length c.args.row.now) c.args.basis.now c.front-front.result c.greater-from.result c.loop-old.old-index c.old-item.result c.requires.basis c.front-front.ensures.within c.front-front.ensures.pivots c.greater-from.ensures.is c.loop-old-test.true c.old-item.is)
