use Rattle.std.proofs.Common.{◌∙◌, refl, ap, map}
use Rattle.finvar_text.specs.Conditions.{residue}
use Rattle.finvar_text.specs.Trees.{entries_of}
use Rattle.finvar_text.proofs.GeneratorSteps.{matrix_is}
use Rattle.finvar_text.proofs.SingularSteps.{size_entries}
use Rattle.finvar_text.proofs.values_generators.matrix_over.Goals as goal

pub returns-clause-matrix : goal.returns-clause-matrix
returns-clause-matrix c =
    let p = c.args.field.now.p in
    let cells = c.in_ok-cells.ensures.is ∙ ap (λ q. map (residue q) (entries_of c.as_slice.result.now)) c.characteristic.ensures.is ∙ ap (λ l. map (residue p) (entries_of l)) c.as_slice.ensures.value in
    matrix_is p c.args.n c.args.field.now.listed _ c.args.matrix.now.entries.items (size_entries c.args.n c.args.matrix.now c.requires.fitting) refl refl cells
