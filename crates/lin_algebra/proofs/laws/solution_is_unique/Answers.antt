use Rattle.alg_core.specs.Fields.{scalars, is_field}
use Rattle.lin_algebra.specs.Matrices.{entries}
use Rattle.lin_algebra.proofs.UniqueLaws.{solutions_agree}
use Rattle.lin_algebra.proofs.laws.solution_is_unique.Goals as goal

pub returns : goal.returns
returns g c =
    let k = g.F.Field.field c.args.field.now in
    let a = c.args.a.now in
    record { unique = λ b x y solves solves' first. solutions_agree (scalars k) (is_field k) a.cols a.rows (entries k a) b x y solves solves' first }
