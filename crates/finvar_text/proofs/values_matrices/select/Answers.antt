use Rattle.std.proofs.Common.{◌∙◌, ℕ, List, [], get_or, sym, ap}
use Rattle.std.specs.Borrow.{Bor}
use Rattle.std.specs.Option.{option_map}
use Rattle.finvar_text.specs.declared.syntax.MatrixText.{MatrixText}
use Rattle.finvar_text.specs.Trees.{matrix_of, matrices_at}
use Rattle.finvar_text.proofs.MatrixSteps.{selected_found, selected_none}
use Rattle.finvar_text.proofs.values_matrices.select.Goals as goal
use Rattle.finvar_text.proofs.values_matrices.select.Goals.{in-Some+in_ok-push, in_default}

pub loop-name-preserved : goal.loop-name-preserved
loop-name-preserved c = λ ms all.
    let names = c.args.names.now in
    let i = c.loop-name.name-index in
    let d : Bor (List ℕ) = record { ref_ptr = (0, 0); now = [] } in
    let maps = all (get_or names i d) in
    elim c.match-get.branch [
      | in-Some+in_ok-push w ↦
          let found = sym maps ∙ ap (option_map (λ (x : Bor MatrixText). matrix_of x.now)) (sym w.in-Some.ensures.value) in
          ap (λ v. matrices_at v.items) w.selected-is ∙ selected_found ms c.loop-name.selected.items w.push.new.self.items names i d w.in-Some.matrix.now c.loop-name-test.true w.in_ok-push.ensures.items found (c.loop-name.invariant ms all)
      | in_default w ↦
          let found = sym maps ∙ ap (option_map (λ (x : Bor MatrixText). matrix_of x.now)) (sym w.in_default.ensures.value) in
          ap (λ v. matrices_at v.items) w.selected-is ∙ selected_none ms c.loop-name.selected.items names i d c.loop-name-test.true found (c.loop-name.invariant ms all)
    ]
