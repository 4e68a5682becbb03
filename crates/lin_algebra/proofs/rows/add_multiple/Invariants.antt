use Rattle.std.proofs.Common.{All, slice_index_or}
use Rattle.alg_core.specs.Fields.{Has}
use Rattle.lin_algebra.proofs.RowLaws.{Written}
use Rattle.lin_algebra.proofs.rows.add_multiple.Given as goal

abbrev pub invariant-loop-j : goal.invariant-loop-j
invariant-loop-j g l =
    let k = g.F.Field.field l.field in
    record {
      written : Written k.zero (λ j a. k.add a (k.mul l.factor (slice_index_or l.by j k.zero))) l.fn.row l.row l.j;
      has : All (Has k) l.row;
    }
