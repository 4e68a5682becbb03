use Rattle.std.proofs.Common.{◌∙◌, ap, arith, slice_index_or}
use Rattle.std.proofs.lemmas.Grind.{common_steps}
use Rattle.std.proofs.lemmas.List.{get_or_read}
use Rattle.lin_algebra.proofs.RowLaws.{written_more, vector_sum}
use Rattle.lin_algebra.proofs.rows.add_multiple.Goals as goal

pub loop-j-init : goal.loop-j-init
loop-j-init g c =
    let k = g.F.Field.field c.args.field.now in
    record {
      written = record { done = c.add_before.ensures.done; rest = c.add_before.ensures.rest };
      has = c.add_before.ensures.has;
    }

pub loop-j-preserved : goal.loop-j-preserved
loop-j-preserved g c =
    let k = g.F.Field.field c.args.field.now in
    record {
      written = written_more k.zero (λ j a. k.add a (k.mul c.args.factor (slice_index_or c.args.by.now j k.zero))) c.args.row.now c.loop-j.row c.loop-j.j c.index-row-j.result c.add.result (omega arith) c.loop-j.invariant.written c.index-row-j.is
          (c.add.ensures.is ∙ ap (k.add c.index-row-j.result) (c.mul.ensures.is ∙ ap (k.mul c.args.factor) (get_or_read c.args.by.now c.loop-j.j c.index-by-j.result (omega arith) c.index-by-j.is k.zero)));
      has = grind (arith, common_steps, c.loop-j.invariant.has, c.add.ensures.has);
    }

pub returns-clause-sum : goal.returns-clause-sum
returns-clause-sum g c =
    let k = g.F.Field.field c.args.field.now in
    vector_sum k c.args.row.now c.loop-j.row c.args.by.now c.args.factor (omega arith) c.requires.same c.requires.factor c.requires.row_has c.requires.by_has (λ j h. c.loop-j.invariant.written.done j (omega arith))
