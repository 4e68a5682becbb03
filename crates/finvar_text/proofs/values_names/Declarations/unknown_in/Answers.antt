use Rattle.std.proofs.Common.{◌∙◌, Some, None, cond, sym, ap}
use Rattle.finvar_text.specs.Conditions.{first_other, unknown_in}
use Rattle.finvar_text.specs.Declarations.{names_in}
use Rattle.finvar_text.specs.Trees.{bytes_of, item_of}
use Rattle.finvar_text.proofs.values_names.Declarations.unknown_in.Goals as goal

pub returns-then-contains : goal.returns-then-contains
returns-then-contains c =
    let name = c.in-Printed.name in
    record {
      is = λ ws ms h. sym (ap (λ i. unknown_in (names_in ms) ws (item_of i)) c.in-Printed.is ∙ ap (λ b. cond b None (Some name.now)) (sym (h.names name) ∙ sym c.contains.ensures ∙ c.if-contains.true));
    }

pub returns-else-contains : goal.returns-else-contains
returns-else-contains c =
    let name = c.in-Printed.name in
    record {
      is = λ ws ms h. sym (ap (λ i. unknown_in (names_in ms) ws (item_of i)) c.in-Printed.is ∙ ap (λ b. cond b None (Some name.now)) (sym (h.names name) ∙ sym c.contains.ensures ∙ c.if-contains.false));
    }

pub returns-in-Called : goal.returns-in-Called
returns-in-Called c = record {
  is = λ ws ms h. c.first_other.ensures.is ws ms h ∙ ap (λ l. first_other (names_in ms) (bytes_of l)) c.as_slice.ensures.value ∙ sym (ap (λ i. unknown_in (names_in ms) ws (item_of i)) c.in-Called.is);
}
