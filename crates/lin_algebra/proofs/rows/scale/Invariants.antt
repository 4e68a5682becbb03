use Rattle.std.proofs.Common.{All}
use Rattle.alg_core.specs.Fields.{Has}
use Rattle.lin_algebra.proofs.RowLaws.{Written}
use Rattle.lin_algebra.proofs.rows.scale.Given as goal

abbrev pub invariant-loop-j : goal.invariant-loop-j
invariant-loop-j g l =
    let k = g.F.Field.field l.field in
    record {
      written : Written k.zero (λ j a. k.mul l.factor a) l.initial.row l.row l.j;
      has : All (Has k) l.row;
    }
