use Rattle.std.proofs.Common.{◌∙◌, sym, ap}
use Rattle.finvar_text.specs.Conditions.{generators, generators_by, matrices, select}
use Rattle.finvar_text.specs.Trees.{bytes_of, call_at, script_of}
use Rattle.finvar_text.proofs.values_matrices.generators.Goals as goal

pub returns-in_ok-selected-in-Some : goal.returns-in_ok-selected-in-Some
unfolding generators
returns-in_ok-selected-in-Some c =
    let ms = matrices (script_of c.args.script.now) in
    let call = sym c.the_call.ensures.is ∙ ap call_at c.in-Some.is in
    record { is = c.in_ok-selected-in-Some.ensures.is ms c.requires.names ∙ ap (λ l. select ms (bytes_of l)) c.as_slice.ensures.value ∙ sym (ap (λ o. generators_by o ms) call) }

pub returns-in_ok-matrices-in-None : goal.returns-in_ok-matrices-in-None
unfolding generators
returns-in_ok-matrices-in-None c =
    let ms = matrices (script_of c.args.script.now) in
    let call = sym c.the_call.ensures.is ∙ ap call_at c.in-None.is in
    record { is = c.in_ok-matrices-in-None.ensures.is ∙ sym (ap (λ o. generators_by o ms) call) }
