-- The group of a script, its order, and the averages over it, where there are any.
use Rattle.std.proofs.Common.{◌≡◌, ◌∙◌, ◌≤◌, ℕ, List, Option, Some, None, length, refl, sym, ap, subst}
use Rattle.std.specs.Prelude.{◌↔◌, IsNone, IfSome}
use Rattle.std.specs.Int.{◌∣◌}
use Rattle.alg_core.specs.Fields.{FieldOn}
use Rattle.alg_core.specs.declared.limits.Limits.{Limits}
use Rattle.prime_field.specs.PrimeFields.{IsPrimeField}
use Rattle.lin_algebra.specs.declared.matrix.Matrix.{Matrix}
use Rattle.matrix_group.specs.Groups.{cells_of, size, AreElements}
use Rattle.reynolds_op.specs.Averages.{Averaging, IsAveraging}
use Rattle.finvar_text.specs.Problems.{problem_in, IsSound}
use Rattle.finvar_text.specs.declared.script.Script.{Script}
use Rattle.invring_app.specs.AveragedGroups.{IsAveragingOf}
use Rattle.invring_app.specs.Commands.Rings.{IsGrouped}
use Rattle.invring_app.proofs.OrderLaws.{order_is}

module _ (script : Script) (sound : IsSound script) (k : FieldOn ℕ) (field : IsPrimeField script.characteristic k) (seen : List (Matrix ℕ)) (same : seen ≡ script.gens.items) (gs : List (Matrix ℕ))
    (elements : AreElements k (size seen) (cells_of seen) (cells_of gs)) (N : ℕ) (order : N ≡ length gs) where
  pub grouped : (l : Limits) → length gs ≤ l.max_order → IsGrouped (problem_in script) l N
  grouped l within = subst (IsGrouped (problem_in script) l) (sym order) (record { order = order_is script k seen sound field same gs elements; within = within })

  pub averaging_of : (r : Option (Averaging ℕ)) → k.characteristic ≡ script.characteristic → size gs ≡ size seen → (IsNone r ↔ (k.characteristic ∣ length gs)) → IfSome r (λ R. IsAveraging k (size gs) R) → IfSome r (λ R. R.elements ≡ gs)
      → IsAveragingOf (problem_in script) script.gens.items N r
  averaging_of None is sizes none some elements_are =
      subst (λ (p : ℕ). p ∣ N) is (subst (λ (n : ℕ). k.characteristic ∣ n) (sym order) (none.0 refl))
  averaging_of (Some R) is sizes none some elements_are = record {
    field = k;
    is_field = field;
    sizes = ap size elements_are ∙ sizes ∙ ap size same;
    generated = subst (λ ms. AreElements k (size script.gens.items) (cells_of script.gens.items) (cells_of ms)) (sym elements_are)
        (subst (λ ms. AreElements k (size ms) (cells_of ms) (cells_of gs)) same elements);
    undivided = λ d. absurd (nothing (none.1 (subst (λ (p : ℕ). p ∣ length gs) (sym is) (subst (λ n. script.characteristic ∣ n) order d))));
    averaging = subst (λ ms. IsAveraging k (size ms) R) (sym elements_are) some;
  }
    where
      nothing : IsNone (Some R) → ⊥
      nothing e = absurd cc
