-- Combinations that are found by the elimination of their degree, and those of a list of polynomials.
--
--   IsEliminated S theta secs d rows cs   the rows are an elimination of the terms of degree d of combinations over theta and secs,
--                                         and cs have the combinations whose values they are
--   IsCombined S theta secs f o           o is the combination that is printed for f, and None exactly where f is no combination
use Rattle.std.specs.Prelude.{◌≡◌, ℕ, List, Option, All, IfNone, IfSome, length, map}
use Rattle.alg_core.specs.Spaces.{SpaceOver}
use Rattle.alg_core.specs.Vectors.{Vect}
use Rattle.alg_core.specs.declared.term.Term.{Term}
use Rattle.poly_module.specs.Combinations.{Over, term_value, combination_value}
use Rattle.poly_module.specs.SpaceVectors.{vector_of, vectors_of, IsVector, AreVectors}
use Rattle.poly_module.specs.declared.vector.Comb.{Comb}
use Rattle.secondary_gens.specs.Columns.{IsColumns, keys_of}
use Rattle.secondary_gens.specs.Eliminations.{IsEchelonOf, IsTracked, IsRowOver, lines_of}
use Rattle.secondary_gens.specs.Forms.{degrees_of}
use Rattle.secondary_gens.specs.PrintedCombinations.{combination_space, IsPrintedCombination}
use Rattle.secondary_gens.specs.declared.columns.Column.{Column}
use Rattle.secondary_gens.specs.declared.elimination.Row.{Row}

module _ {E : Type 0} (S : SpaceOver E) (theta secs : List (List (Term E (List ℕ)))) where
  abbrev primaries : List (Vect S.field)
  primaries = vectors_of S (λ m. m) theta

  abbrev secondaries : List (Vect S.field)
  secondaries = vectors_of S (λ m. m) secs

  -- the elimination of one degree
  pub record IsEliminated (d : ℕ) (rows : List (Row E)) (combinations : List (List (Term E (List ℕ)))) : Type 0 where
    pub columns : List (Column E)
    pub are : IsColumns S primaries (degrees_of theta) secondaries (degrees_of secs) d columns
    pub over : All (IsRowOver S) rows
    pub echelon : IsEchelonOf S.field (map (λ c. vector_of S (λ m. m) c.value) columns) (lines_of S rows)
    pub each : length combinations ≡ length rows
    pub fits : AreVectors (combination_space S.field (degrees_of theta) (degrees_of secs)) (λ m. m) combinations
    pub tracked : IsTracked S.field (term_value S.field primaries secondaries) (keys_of columns) (combination_value S.field primaries secondaries)
        (lines_of S rows) (vectors_of S (λ m. m) combinations)

  -- the printed combination, or that there is none
  pub record IsCombined (f : List (Term E (List ℕ))) (o : Option (Comb E)) : Type 0 where
    pub none : IfNone o (¬ Over S.field primaries secondaries (vector_of S (λ m. m) f))
    pub fits : IfSome o (λ c. IsVector (combination_space S.field (degrees_of theta) (degrees_of secs)) (λ m. m) c.vector)
    pub printed : IfSome o (λ c. IsPrintedCombination S.field (degrees_of theta) (degrees_of secs) primaries secondaries
        (vector_of S (λ m. m) f) (vector_of S (λ m. m) c.vector))
