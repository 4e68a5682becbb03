-- The group of the generators of a sound script.
use Rattle.std.proofs.Common.{◌≡◌, ℕ, ◌+◌, List, length, refl, ap, subst, ◌∙◌}
use Rattle.std.proofs.lemmas.List.{length-map}
use Rattle.alg_core.specs.Fields.{FieldOn}
use Rattle.lin_algebra.specs.declared.matrix.Matrix.{Matrix}
use Rattle.prime_field.specs.PrimeFields.{IsPrimeField}
use Rattle.matrix_group.specs.Groups.{size, cells_of, AreElements, IsOverOrder}
use Rattle.matrix_group.specs.declared.fault.GroupFault.{GroupFault}
use Rattle.matrix_group.specs.declared.fault.GroupFault.TheVariants as groups
use Rattle.finvar_text.specs.Problems.{problem_in, IsSound}
use Rattle.finvar_text.specs.declared.script.Script.{Script}
use Rattle.invring_app.specs.Commands.Orders.{IsOrderOf, IsGroupTold}
use Rattle.invring_app.proofs.GeneratorLaws.{size-is}

module _ (s : Script) (k : FieldOn ℕ) (gens : List (Matrix ℕ)) (sound : IsSound s) (field : IsPrimeField s.characteristic k) (same : gens ≡ s.gens.items) where
  size_in : size gens ≡ length s.names.items
  size_in = ap size same ∙ size-is s sound

  -- the number of elements is the order
  pub order_is : (gs : List (Matrix ℕ)) → AreElements k (size gens) (cells_of gens) (cells_of gs) → IsOrderOf (problem_in s) (length gs)
  order_is gs elements =
      let at = subst (λ (n : ℕ). AreElements k n (cells_of gens) (cells_of gs)) size_in elements in
      (k, field, (cells_of gs, subst (λ (ms : List (Matrix ℕ)). AreElements k (length s.names.items) (cells_of ms) (cells_of gs)) same at, length-map gs (λ (m : Matrix ℕ). m.cells.items)))

  -- the fault is that of the script
  pub over_is : (m : ℕ) (e : GroupFault) → ((counted : ℕ) → e ≡ groups.GroupBound counted → (counted ≡ m + 1) × IsOverOrder k (size gens) (cells_of gens) m) → IsGroupTold m (problem_in s) e
  over_is m (groups.GroupBound counted) told =
      let met = told counted refl in
      let at = subst (λ (n : ℕ). IsOverOrder k n (cells_of gens) m) size_in met.1 in
      (met.0, (k, field, subst (λ (ms : List (Matrix ℕ)). IsOverOrder k (length s.names.items) (cells_of ms) m) same at))
  over_is m groups.Memory told = tt
