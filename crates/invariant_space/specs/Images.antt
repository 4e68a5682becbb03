-- The images of the monomials of a degree, as rows of coordinates.
--
--   IsQuotient below j t o     o is the place in the list below of the quotient of t by variable j; None where t is no
--                              multiple of a member by it
--   AreQuotients ts below j r  r has such a place for each key of ts
--   IsTable ts below table     table has such a list for each variable
--   IsStep S d ts below table  these lists are the monomials of degree d + 1 and d, and table is theirs for all variables
--   IsCoordinates k ts v r     r are the coefficients of the vector v at the keys ts
--   AreImages k m ts rows      rows are the coordinates of the images of the keys ts under the matrix m
--   AllImages k gens ts l      l has such rows for each of the matrices
--   IsLevel S gens d level     the sums of the monomials of degree d, and the images of these under each matrix
use Rattle.std.specs.Prelude.{◌≡◌, ◌<◌, ℕ, suc, List, length, slice_index_or, Option, None, Some}
use Rattle.std.specs.Global.{Vec}
use Rattle.alg_core.specs.Fields.{FieldOn}
use Rattle.alg_core.specs.Keys.{Key, times_key}
use Rattle.alg_core.specs.Lists.{In}
use Rattle.alg_core.specs.Vectors.{Vect}
use Rattle.alg_core.specs.Spaces.{SpaceOver}
use Rattle.alg_core.specs.SpaceOrder.{key_order}
use Rattle.alg_core.specs.declared.term.Term.{Term}
use Rattle.poly_module.specs.MonomialVariables.{variable}
use Rattle.poly_module.specs.Polynomials.{single_vector}
use Rattle.lin_algebra.specs.declared.matrix.Matrix.{Matrix}
use Rattle.lin_algebra.specs.Vectors.{vector, IsRow}
use Rattle.matrix_group.specs.Actions.{act_by}
use Rattle.invariant_space.specs.declared.images.Level.{Level}
use Rattle.invariant_space.specs.Equations.{IsMonomialList, coordinates}
use Rattle.invariant_space.specs.Monomials.{EachAt, keys_of, AreSums}

-- the place of a quotient by a variable
abbrev pub IsQuotient : List Key → ℕ → Key → Option ℕ → Type 0
IsQuotient below j t None = (v : Key) → In v below → ¬ (times_key (variable j) v ≡ t)
IsQuotient below j t (Some u) = (v : Key) × (u < length below) × (slice_index_or below u v ≡ v) × (times_key (variable j) v ≡ t)

-- for each key
pub record AreQuotients (ts below : List Key) (j : ℕ) (r : List (Option ℕ)) : Type 0 where
  pub count : length r ≡ length ts
  pub each : EachAt (λ s o. (t : Key) → slice_index_or ts s t ≡ t → IsQuotient below j t o) r

-- by each variable
abbrev pub IsTable : List Key → List Key → List (Vec (Option ℕ)) → Type 0
IsTable ts below table = EachAt (λ j r. AreQuotients ts below j r.items) table

module _ {E : Type 0} (S : SpaceOver E) where
  -- from one degree to the next
  pub record IsStep (d : ℕ) (ts below : List Key) (table : List (Vec (Option ℕ))) : Type 0 where
    pub upper : IsMonomialList (key_order S) (length S.weights) (suc d) ts
    pub lower : IsMonomialList (key_order S) (length S.weights) d below
    pub count : length table ≡ length S.weights
    pub quotients : IsTable ts below table

module _ {E : Type 0} (k : FieldOn E) where
  -- coefficients at the keys, as a row
  pub record IsCoordinates (ts : List Key) (v : Vect k) (r : List E) : Type 0 where
    pub row : IsRow k (length ts) r
    pub is : vector k r ≡ coordinates k ts v

  -- of the image of each key
  pub record AreImages (m : Matrix E) (ts : List Key) (rows : List (Vec E)) : Type 0 where
    pub count : length rows ≡ length ts
    pub each : EachAt (λ l r. (t : Key) → slice_index_or ts l t ≡ t → IsCoordinates ts (act_by k m (single_vector k t)) r.items) rows

  -- under each matrix
  pub record AllImages (gens : List (Matrix E)) (ts : List Key) (l : List (Vec (Vec E))) : Type 0 where
    pub count : length l ≡ length gens
    pub each : EachAt (λ i rows. (m : Matrix E) → m ≡ slice_index_or gens i m → AreImages m ts rows.items) l

module _ {E : Type 0} (S : SpaceOver E) where
  pub record IsLevel (gens : List (Matrix E)) (d : ℕ) (level : Level E) : Type 0 where
    pub sums : AreSums S d level.sums.items
    pub images : (p : List (Term E (List ℕ))) → p ≡ slice_index_or level.sums.items (length S.weights) p → AllImages S.field gens (keys_of p) level.images.items
