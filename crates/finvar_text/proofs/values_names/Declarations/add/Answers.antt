use Rattle.std.proofs.Common.{[], ◌++◌, sym, subst}
use Rattle.std.proofs.lemmas.List.{append-nil}
use Rattle.finvar_text.specs.Conditions.{names_of, matrices_of}
use Rattle.finvar_text.specs.Declarations.{AreDeclared}
use Rattle.finvar_text.specs.declared.values_names.Declarations.{Declarations}
use Rattle.finvar_text.specs.Trees.{item_of}
use Rattle.finvar_text.proofs.DeclarationSteps.{three_more}
use Rattle.finvar_text.proofs.MatrixSteps.{maps_more}
use Rattle.finvar_text.proofs.values_names.Declarations.add.Goals as goal

pub returns-in_ok-insert-in-Declared : goal.returns-in_ok-insert-in-Declared
returns-in_ok-insert-in-Declared c = record {
  is = λ ws ms h.
      let d : Declarations = record { names = c.declare.new.self.names; matrices = c.insert.new.self; twice = c.declare.new.self.twice } in
      let named = c.in_ok-declare-in-Declared.ensures.is ws ms h in
      subst (λ i. AreDeclared d (ws ++ names_of (item_of i)) (ms ++ matrices_of (item_of i))) (sym c.in-Declared.is) (record {
        names = named.names;
        matrices = maps_more c.declare.new.self.matrices.entries c.insert.new.self.entries ms _ c.in_ok-insert-in-Declared.ensures.updates.0 named.matrices;
        twice = named.twice;
      });
}

pub returns-in_ok-declare-in-Called-3 : goal.returns-in_ok-declare-in-Called-3
returns-in_ok-declare-in-Called-3 c = record {
  is = λ ws ms h.
      let first = c.in_ok-declare-in-Called.ensures.is ws ms h in
      let second = c.in_ok-declare-in-Called-2.ensures.is _ ms first in
      let third = c.in_ok-declare-in-Called-3.ensures.is _ ms second in
      subst (λ i. AreDeclared c.declare-in-Called-3.new.self (ws ++ names_of (item_of i)) (ms ++ matrices_of (item_of i))) (sym c.in-Called.is)
      (subst (λ l. AreDeclared c.declare-in-Called-3.new.self l (ms ++ [])) (three_more ws _ _ _)
      (subst (AreDeclared c.declare-in-Called-3.new.self _) (sym (append-nil ms)) third));
}
