-- Averages over the group of a problem.
--
--   AveragesOver q gens N R     the elements of R are those of the group that the generators gens of the problem q generate, N in number;
--                               the characteristic does not divide N, and R averages over them
--   IsAveragingOf q gens N o    o averages over this group, or where it is none the characteristic divides N
use Rattle.std.specs.Prelude.{◌≡◌, ℕ, List, Option, None, Some}
use Rattle.std.specs.Int.{◌∣◌}
use Rattle.alg_core.specs.Fields.{FieldOn}
use Rattle.prime_field.specs.PrimeFields.{IsPrimeField}
use Rattle.lin_algebra.specs.declared.matrix.Matrix.{Matrix}
use Rattle.matrix_group.specs.Groups.{cells_of, size, AreElements}
use Rattle.reynolds_op.specs.Averages.{Averaging, IsAveraging}
use Rattle.finvar_text.specs.Problems.{Problem}

pub record AveragesOver (q : Problem) (gens : List (Matrix ℕ)) (N : ℕ) (R : Averaging ℕ) : Type 0 where
  pub field : FieldOn ℕ
  pub is_field : IsPrimeField q.characteristic field
  pub sizes : size R.elements ≡ size gens
  pub generated : AreElements field (size gens) (cells_of gens) (cells_of R.elements)
  pub undivided : ¬ (q.characteristic ∣ N)
  pub averaging : IsAveraging field (size R.elements) R

abbrev pub IsAveragingOf : Problem → List (Matrix ℕ) → ℕ → Option (Averaging ℕ) → Type 0
IsAveragingOf q gens N None = q.characteristic ∣ N
IsAveragingOf q gens N (Some R) = AveragesOver q gens N R
