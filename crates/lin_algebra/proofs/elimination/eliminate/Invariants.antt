use Rattle.std.proofs.Common.{All, map, ◌++◌, vec_len}
use Rattle.alg_core.specs.Fields.{scalars}
use Rattle.lin_algebra.specs.Vectors.{vectors, vector, IsRow}
use Rattle.alg_core.specs.Spans.{SameSpan}
use Rattle.lin_algebra.specs.Bases.{rows_of_basis, IsBasis}
use Rattle.lin_algebra.proofs.elimination.eliminate.Given as goal

abbrev pub invariant-loop-row : goal.invariant-loop-row
invariant-loop-row g l =
    let k = g.F.Field.field l.field in
    record {
      rows : All (λ r. IsRow k l.n r.items) l.rows.items;
      basis : IsBasis k l.n l.basis.items;
      span : SameSpan (vectors (scalars k)) (rows_of_basis k l.basis.items ++ map (λ r. vector k r.items) l.rows.items) (map (λ r. vector k r.items) l.fn.rows.items);
    }

abbrev pub decreases-loop-row : goal.decreases-loop-row
decreases-loop-row g l = vec_len l.rows
