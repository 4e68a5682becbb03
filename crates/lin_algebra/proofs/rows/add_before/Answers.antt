use Rattle.std.proofs.Common.{◌≢◌, ◌<◌, ◌∙◌, ap, ap₂, arith, sym, length}
use Rattle.std.proofs.lemmas.List.{get_or_read}
use Rattle.lin_algebra.proofs.RowLaws.{added_at, nothing_added}
use Rattle.lin_algebra.proofs.rows.add_before.Goals as goal

pub returns-then-column-from-clause-done : goal.returns-then-column-from-clause-done
returns-then-column-from-clause-done g c =
    let k = g.F.Field.field c.args.field.now in
    let inside : c.args.column < length c.args.row.now = c.requires.column c.if-column-from.true in
    added_at k c.args.row.now c.args.by.now c.args.factor c.add.result c.args.column c.args.from inside c.requires.factor c.requires.row_has c.requires.by_has c.requires.before
    (c.add.ensures.is ∙ ap₂ k.add (get_or_read c.args.row.now c.args.column c.index-row-column.result inside c.index-row-column.is k.zero)
    (c.mul.ensures.is ∙ ap (k.mul c.args.factor) (get_or_read c.args.by.now c.args.column c.index-by-column.result (omega (arith, c.requires.same)) c.index-by-column.is k.zero)))

pub returns-else-column-from-clause-done : goal.returns-else-column-from-clause-done
returns-else-column-from-clause-done g c = λ j low.
    let other : j ≢ c.args.column = omega (arith, c.if-column-from.false) in
    sym (nothing_added (g.F.Field.field c.args.field.now) c.args.row.now c.args.by.now c.args.factor j c.requires.factor c.requires.row_has c.requires.by_has (c.requires.before j low other))
