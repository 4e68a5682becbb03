use Rattle.std.proofs.Common.{◌∙◌, ℕ, List, [], get_or, sym, ap}
use Rattle.std.specs.Borrow.{Bor}
use Rattle.std.proofs.lemmas.List.{drop_all}
use Rattle.finvar_text.specs.Conditions.{first_other}
use Rattle.finvar_text.specs.Declarations.{names_in}
use Rattle.finvar_text.specs.Trees.{bytes_of}
use Rattle.finvar_text.proofs.DeclarationSteps.{other_known, other_found}
use Rattle.finvar_text.proofs.MatrixSteps.{maps_among}
use Rattle.finvar_text.proofs.values_names.Declarations.first_other.Goals as goal

pub returns-then-not-contains_key : goal.returns-then-not-contains_key
returns-then-not-contains_key c =
    let names = c.args.names.now in
    let i = c.loop-name.name-index in
    let d : Bor (List ℕ) = record { ref_ptr = (0, 0); now = [] } in
    record {
      is = λ ws ms h.
          other_found (names_in ms) names i d c.loop-name-test.true (sym (maps_among c.args.self.now.matrices.entries ms (get_or names i d) h.matrices) ∙ sym c.contains_key.ensures ∙ c.if-not-contains_key.true)
          ∙ c.loop-name.invariant ws ms h;
    }

pub loop-name-preserved : goal.loop-name-preserved
loop-name-preserved c =
    let names = c.args.names.now in
    let i = c.loop-name.name-index in
    let d : Bor (List ℕ) = record { ref_ptr = (0, 0); now = [] } in
    λ ws ms h.
    other_known (names_in ms) names i d c.loop-name-test.true (sym (maps_among c.args.self.now.matrices.entries ms (get_or names i d) h.matrices) ∙ sym c.contains_key.ensures ∙ c.if-not-contains_key.false)
    ∙ c.loop-name.invariant ws ms h

pub returns : goal.returns
returns c = record {
  is = λ ws ms h. sym (ap (λ l. first_other (names_in ms) (bytes_of l)) (drop_all c.loop-name.name-index c.args.names.now c.loop-name-test.false)) ∙ c.loop-name.invariant ws ms h;
}
