use Rattle.std.proofs.Common.{◌≡◌, ◌∙◌, ◌∷◌, ◌++◌, ◌<◌, ℕ, [], Some, take, length, map, get_or, sym, ap, subst}
use Rattle.std.specs.Borrow.{Bor}
use Rattle.std.specs.Prelude.{All, IfSome, IfNone}
use Rattle.std.proofs.lemmas.List.{map-append}
use Rattle.std.proofs.lemmas.List.Elements.{All-push}
use Rattle.alg_core.specs.declared.input_fault.InputFault.TheVariants as faults
use Rattle.lin_algebra.specs.declared.matrix.Matrix as lin
use Rattle.finvar_text.specs.declared.syntax.MatrixText.{MatrixText}
use Rattle.finvar_text.specs.Conditions.{cells, IsNonsingularModulo}
use Rattle.finvar_text.specs.Scripts.{generator, sized_cells, IsFitting, IsInvertible}
use Rattle.finvar_text.specs.Trees.{matrix_of, matrices_at}
use Rattle.finvar_text.proofs.GeneratorSteps.{invertible_has}
use Rattle.finvar_text.proofs.SingularSteps.{fitting_at, singular_step, singular_found, generators_more}
use Rattle.finvar_text.proofs.values_generators.gens_over.Goals as goal

pub invertible_over-requires : goal.invertible_over-requires
invertible_over-requires c =
    let n = c.args.n in
    let xs = c.args.matrices.items in
    let i = c.loop-i.i in
    let x = c.index-matrix.result.now in
    let below : i < length xs = subst (λ k. i < k) (c.len-i-end.ensures ∙ c.args.matrices.ok.0) c.loop-i-test.true in
    record { fitting = subst (λ (y : Bor MatrixText). IsFitting n (matrix_of y.now)) (sym c.index-matrix.ensures) (fitting_at n xs i x c.requires.fitting below) }

pub new-requires : goal.new-requires
new-requires c =
    let n = c.args.n in
    let xs = c.args.matrices.items in
    let i = c.loop-i.i in
    let x = c.index-matrix.result.now in
    let below : i < length xs = subst (λ k. i < k) (c.len-i-end.ensures ∙ c.args.matrices.ok.0) c.loop-i-test.true in
    record { name = (subst (λ (y : Bor MatrixText). IsFitting n (matrix_of y.now)) (sym c.index-matrix.ensures) (fitting_at n xs i x c.requires.fitting below)).name }

pub returns-in-None-clause-fault : goal.returns-in-None-clause-fault
returns-in-None-clause-fault c =
    let p = c.args.field.now.p in
    let n = c.args.n in
    let xs = c.args.matrices.items in
    let i = c.loop-i.i in
    let x = c.index-matrix.result.now in
    let below : i < length xs = subst (λ k. i < k) (c.len-i-end.ensures ∙ c.args.matrices.ok.0) c.loop-i-test.true in
    let none = subst (λ o. IfNone o (¬ IsNonsingularModulo p n (cells p (matrix_of x.now)))) c.in-None.is c.in_ok-over.ensures.none in
    let here = subst (λ (y : Bor MatrixText). ¬ IsNonsingularModulo p n (cells p (matrix_of y.now))) c.index-matrix.ensures none in
    let name = c.in_ok-name-in-None.ensures.is ∙ ap (λ (y : Bor MatrixText). y.now.name.now) c.index-matrix.ensures in
    c.loop-i.invariant.left (Some (faults.Singular c.in_ok-name-in-None.name)) (singular_found p n xs i x c.in_ok-name-in-None.name below here name)

pub loop-i-preserved : goal.loop-i-preserved
loop-i-preserved c =
    let p = c.args.field.now.p in
    let n = c.args.n in
    let xs = c.args.matrices.items in
    let i = c.loop-i.i in
    let x = c.index-matrix.result.now in
    let g = c.in-Some.over in
    let below : i < length xs = subst (λ k. i < k) (c.len-i-end.ensures ∙ c.args.matrices.ok.0) c.loop-i-test.true in
    let is = subst (λ o. IfSome o (λ (h : lin.Matrix ℕ). sized_cells h ≡ generator p n (matrix_of x.now))) c.in-Some.is c.in_ok-over.ensures.is in
    let over = subst (λ o. IfSome o (IsInvertible p)) c.in-Some.is c.in_ok-over.ensures.invertible in
    let here = is ∙ ap (λ (y : Bor MatrixText). generator p n (matrix_of y.now)) c.index-matrix.ensures in
    record {
      gens = ap (map sized_cells) c.in_ok-push-in-Some.ensures.items ∙ map-append sized_cells c.loop-i.gens.items (g ∷ [])
          ∙ ap (λ l. l ++ sized_cells g ∷ []) c.loop-i.invariant.gens
          ∙ ap (λ t. map (generator p n) (matrices_at (take i xs)) ++ t ∷ []) here
          ∙ sym (generators_more p n xs i x below);
      invertible = subst (All (IsInvertible p)) (sym c.in_ok-push-in-Some.ensures.items) (All-push (IsInvertible p) c.loop-i.gens.items g c.loop-i.invariant.invertible over);
      left = λ fault h. c.loop-i.invariant.left fault (singular_step p n xs i x fault below (invertible_has p n g (matrix_of (get_or xs i x).now) here over) h);
    }
