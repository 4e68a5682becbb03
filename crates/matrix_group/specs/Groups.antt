-- The group that matrices generate. A matrix of n rows and n columns is here the list of its cells, row after row.
--
--   cells_of ms              the cells of each matrix
--   entry k n g              the scalar at a row and a column, 0 outside the matrix
--   is_yes d                 whether the answer d is yes
--   made k n a               the cells with the scalar a i j at row i and column j
--   identity k n             the identity
--   times k n g h            the product
--   IsCells k n g            g is n · n values of the field
--   is_same k g h            g and h have the same cells
--   is_found k gs g          g is one of gs
--   with_new k gs g          gs, and g last where it is none of them
--   product_of k n gs        the product of gs from the left to the right, the identity where there are none
--   IsProduct k n gens g     g is a finite product of the generators
--   AreApart xs              no member stands twice
--   AreElements k n gens gs  gs are the finite products of the generators, each once
--   IsOrder k n gens N       there are N finite products
--   IsOverOrder k n gens m   there are more than m of them: some m + 1
--   with_products k n gens gs g   gs with what is new of the products of g and each generator, in turn
--   walk k n gens c          what is found when the elements at the first c places were multiplied, each in turn, by
--                            each generator from the right, and each new product went last; first is the identity
--   IsWalk k n gens gs       gs is what is found when each of its members was multiplied
--   IsNonsingular k m        the matrix m has an inverse
--   IsGroup k n gs           gs are n by n matrices over the field, each once, with the identity, the product of each two
--                            and the inverse of each
--   size ms                  how many rows the first matrix has
use Rattle.std.specs.Prelude.{◌≡◌, ◌≢◌, ℕ, zero, suc, ◌+◌, ◌*◌, Bool, true, false, List, [], ◌∷◌, ◌++◌, if◌then◌else◌, length, map, All, AllPairs, Contains, slice_index_or}
use Rattle.std.specs.List.{flat_map, fold, list_any}
use lib.Pointwise.{pointwise}
use Rattle.alg_core.specs.Fields.{FieldOn, Has, Scalar, scalars}
use Rattle.lin_algebra.specs.Vectors.{vector, unit}
use Rattle.lin_algebra.specs.Matrices.{cut, entries, product, HasInverse}
use Rattle.lin_algebra.specs.declared.matrix.Matrix.{Matrix}
use Rattle.lin_algebra.proofs.CutLaws.{listing}

-- no member stands twice
abbrev pub AreApart : {A : Type 0} → List A → Type 0
AreApart xs = AllPairs (λ x y. x ≢ y) xs

abbrev pub is_yes : {A : Type 0} → Dec A → Bool
is_yes (yes p) = true
is_yes (no n) = false

abbrev pub cells_of : {E : Type 0} → List (Matrix E) → List (List E)
cells_of ms = map (λ m. m.cells.items) ms

abbrev pub size : {E : Type 0} → List (Matrix E) → ℕ
size [] = 0
size (m ∷ ms) = m.rows

module _ {E : Type 0} (k : FieldOn E) where
  abbrev pub is_same : List E → List E → Bool
  is_same = pointwise (λ a b. is_yes (k.same a b))

  abbrev pub is_found : List (List E) → List E → Bool
  is_found gs g = list_any (is_same g) gs

  abbrev pub with_new : List (List E) → List E → List (List E)
  with_new gs g = if is_found gs g then gs else gs ++ g ∷ []

  abbrev pub IsNonsingular : Matrix E → Type 0
  IsNonsingular m = HasInverse (scalars k) m.rows (entries k m)

  module _ (n : ℕ) where
    abbrev pub entry : List E → ℕ → ℕ → Scalar k
    entry g i = vector k (slice_index_or (cut n n g) i [])

    abbrev pub made : (ℕ → ℕ → Scalar k) → List E
    made a = flat_map (λ r. r) (listing (λ i. listing (λ j. (a i j).0) n) n)

    unfoldable pub identity : List E
    identity = made (unit (scalars k))

    unfoldable pub times : List E → List E → List E
    times g h = made (product (scalars k) n (entry g) (entry h))

    pub record IsCells (g : List E) : Type 0 where
      pub count : length g ≡ n * n
      pub has : All (Has k) g

    abbrev pub product_of : List (List E) → List E
    product_of gs = fold times identity gs

    module _ (gens : List (List E)) where
      abbrev pub IsProduct : List E → Type 0
      IsProduct g = (gs : List (List E)) × All (Contains gens) gs × (g ≡ product_of gs)

      pub record AreElements (gs : List (List E)) : Type 0 where
        pub apart : AreApart gs
        pub products : (g : List E) → Contains gs g → IsProduct g
        pub all : (g : List E) → IsProduct g → Contains gs g

      abbrev pub IsOrder : ℕ → Type 0
      IsOrder N = (gs : List (List E)) × AreElements gs × (length gs ≡ N)

      abbrev pub IsOverOrder : ℕ → Type 0
      IsOverOrder m = (gs : List (List E)) × AreApart gs × ((g : List E) → Contains gs g → IsProduct g) × (length gs ≡ m + 1)

      abbrev pub with_products : List (List E) → List E → List (List E)
      with_products gs g = fold (λ found m. with_new found (times g m)) gs gens

      abbrev pub walk : ℕ → List (List E)
      walk zero = identity ∷ []
      walk (suc c) = with_products (walk c) (slice_index_or (walk c) c identity)

      abbrev pub IsWalk : List (List E) → Type 0
      IsWalk gs = gs ≡ walk (length gs)

    pub record IsGroup (gs : List (List E)) : Type 0 where
      pub cells : All IsCells gs
      pub apart : AreApart gs
      pub one : Contains gs identity
      pub products : (g h : List E) → Contains gs g → Contains gs h → Contains gs (times g h)
      pub inverses : (g : List E) → Contains gs g → (h : List E) × Contains gs h × (times g h ≡ identity) × (times h g ≡ identity)
