use Rattle.std.proofs.Common.{ℕ, List, [], ◌∷◌, ap, refl, sym, subst}
use Rattle.std.specs.Borrow.{Bor}
use Rattle.finvar_text.specs.Declarations.{AreDeclared}
use Rattle.finvar_text.proofs.DeclarationSteps.{holds_none, words_more}
use Rattle.finvar_text.proofs.MatrixSteps.{maps_none}
use Rattle.finvar_text.proofs.values_names.Declarations.of_ring.Goals as goal

pub loop-variable-init : goal.loop-variable-init
loop-variable-init c = c.in_ok-declare.ensures.is [] [] (record {
  names = holds_none c.new.result.keys c.new.ensures.empty;
  matrices = maps_none c.new-2.result.entries c.new-2.ensures.empty;
  twice = refl;
})

pub loop-variable-preserved : goal.loop-variable-preserved
loop-variable-preserved c =
    let xs = c.as_slice-variable-items.result.now in
    let i = c.loop-variable.variable-index in
    let d : Bor (List ℕ) = record { ref_ptr = (0, 0); now = [] } in
    subst (λ ws. AreDeclared c.declare-in-loop-variable.new.self ws []) (ap (λ l. c.args.script.now.ring.now ∷ l) (sym (words_more xs i d c.loop-variable-test.true)))
    (c.in_ok-declare-2.ensures.is _ [] c.loop-variable.invariant)
