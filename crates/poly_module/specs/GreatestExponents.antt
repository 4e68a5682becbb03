-- How far exponents go.
--
--   total a         the sum of the exponents: the degree where each variable has degree 1
--   greatest l      the greatest of some numbers, and 0 where there is none
--   peak es         the greatest exponent in a list of entries
--   highest vs      the greatest exponent in some lists of entries
use Rattle.std.specs.Prelude.{ℕ, ◌+◌, max, List, [], ◌∷◌, map}
use Rattle.alg_core.specs.Vectors.{Entry}

-- the sum of the exponents
abbrev pub total : List ℕ → ℕ
total [] = 0
total (x ∷ a) = x + total a

-- the greatest of some numbers
abbrev pub greatest : List ℕ → ℕ
greatest [] = 0
greatest (x ∷ l) = max x (greatest l)

-- the greatest exponent in a list of entries
abbrev pub peak : {E : Type 0} → List (Entry E) → ℕ
peak es = greatest (map (λ e. greatest e.0.1) es)

-- the greatest exponent in some lists of entries
abbrev pub highest : {E : Type 0} → List (List (Entry E)) → ℕ
highest vs = greatest (map peak vs)
