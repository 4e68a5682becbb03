use Rattle.std.proofs.Common.{◌∙◌, ap, arith, drop, List}
use Rattle.std.specs.List.{flat_map}
use Rattle.std.proofs.lemmas.List.{take_all, length-drop}
use Rattle.lin_algebra.specs.declared.elimination.BasisRow.{BasisRow}
use Rattle.lin_algebra.proofs.FormLaws.{rows_of_flat, whole_of_flat}
use Rattle.lin_algebra.proofs.forms.matrix_of.Goals as goal

pub returns-clause-whole : goal.returns-clause-whole
returns-clause-whole g c =
    let f : BasisRow g.row.E.Denot → List g.row.E.Denot = λ e. drop c.args.from e.entries.items in
    whole_of_flat f c.args.cols c.args.basis.now c.loop-row.cells.items (λ i d h. length-drop c.args.from _ ∙ (let wide = c.requires.rows i d h in omega (arith, wide))) (c.loop-row.invariant ∙ ap (flat_map f) (take_all c.loop-row.row-index c.args.basis.now (omega arith)))

pub returns-clause-rows : goal.returns-clause-rows
returns-clause-rows g c =
    let f : BasisRow g.row.E.Denot → List g.row.E.Denot = λ e. drop c.args.from e.entries.items in
    rows_of_flat f c.args.cols c.args.basis.now c.loop-row.cells.items (λ i d h. length-drop c.args.from _ ∙ (let wide = c.requires.rows i d h in omega (arith, wide))) (c.loop-row.invariant ∙ ap (flat_map f) (take_all c.loop-row.row-index c.args.basis.now (omega arith)))
