use Rattle.std.proofs.Common.{arith}
use Rattle.std.proofs.lemmas.Grind.{common_steps}
use Rattle.lin_algebra.proofs.RowLaws.{written_more, vector_multiple}
use Rattle.lin_algebra.proofs.rows.scale.Goals as goal

pub loop-j-preserved : goal.loop-j-preserved
loop-j-preserved g c =
    let k = g.F.Field.field c.args.field.now in
    record {
      written = written_more k.zero (λ j a. k.mul c.args.factor a) c.args.row.now c.loop-j.row c.loop-j.j c.index-row-j.result c.mul.result (omega arith) c.loop-j.invariant.written c.index-row-j.is c.mul.ensures.is;
      has = grind (arith, common_steps, c.loop-j.invariant.has, c.mul.ensures.has);
    }

pub returns-clause-multiple : goal.returns-clause-multiple
returns-clause-multiple g c =
    vector_multiple (g.F.Field.field c.args.field.now) c.args.row.now c.loop-j.row c.args.factor (omega arith) c.requires.factor c.requires.has (λ j h. c.loop-j.invariant.written.done j (omega arith))
