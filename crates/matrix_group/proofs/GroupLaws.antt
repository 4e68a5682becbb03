-- The finite products of invertible matrices are a group, and multiplication by one of its elements.
use Rattle.matrix_group.proofs.Common.{◌≡◌, ℕ, List, get_or, All, Contains, sym, ap, ◌∙◌, refl, subst, All-contains, All-map, Contains-get_or, FieldOn, scalars, Matrix, unit, HasInverse, IsInverse, dot_same, IsSquare, cells_of, entry, made, identity, times, IsCells, IsNonsingular, IsProduct, AreElements, IsGroup}
use Rattle.lin_algebra.specs.Matrices.{entries, product}
use Rattle.matrix_group.proofs.Cells.{cells_made, entry_made, made_same, cells_of_matrix, entries_of_matrix, identity_cells, times_cells, times_assoc, identity_times, times_identity}
use Rattle.matrix_group.proofs.Found.{cells_or_not, AreApart_reached}
use Rattle.matrix_group.proofs.Products.{IsProduct_identity, IsProduct_times, IsProduct_generator, IsProduct_cells, products_induction}

module _ {E : Type 0} (k : FieldOn E) (n : ℕ) where
  abbrev Cells : Type 0
  Cells = List E

  -- a matrix that is inverse on both sides
  abbrev pub IsInvertible : Cells → Type 0
  IsInvertible g = HasInverse (scalars k) n (entry k n g)

  -- and its cells
  abbrev pub InverseCells : Cells → Type 0
  InverseCells g = (h : Cells) × IsCells k n h × (times k n g h ≡ identity k n) × (times k n h g ≡ identity k n)

  pub inverse_cells : (g : Cells) → IsInvertible g → InverseCells g
  unfolding times identity
  inverse_cells g (b, i) = (
    made k n b,
    cells_made k n b,
    made_same k n (product (scalars k) n (entry k n g) (entry k n (made k n b))) (unit (scalars k)) (λ r c p q.
        dot_same (scalars k) n (entry k n g r) (entry k n g r) (λ l. entry k n (made k n b) l c) (λ l. b l c) (λ _ _. refl) (λ l h. entry_made k n b l c h q) ∙ i.right r c p q),
    made_same k n (product (scalars k) n (entry k n (made k n b)) (entry k n g)) (unit (scalars k)) (λ r c p q.
        dot_same (scalars k) n (entry k n (made k n b) r) (b r) (λ l. entry k n g l c) (λ l. entry k n g l c) (λ l h. entry_made k n b r l p h) (λ _ _. refl) ∙ i.left r c p q),
  )

  inverse_identity : InverseCells (identity k n)
  inverse_identity = let one = identity_times k n (identity k n) (identity_cells k n) in (identity k n, identity_cells k n, one, one)

  -- what is between two inverse matrices
  cancel : (a g h b : Cells) → IsCells k n b → times k n g h ≡ identity k n → times k n (times k n a g) (times k n h b) ≡ times k n a b
  cancel a g h b c e = times_assoc k n a g (times k n h b) ∙ ap (times k n a) (sym (times_assoc k n g h b) ∙ ap (λ u. times k n u b) e ∙ identity_times k n b c)

  inverse_times : (g h : Cells) → InverseCells g → InverseCells h → InverseCells (times k n g h)
  inverse_times g h (x, p, right, left) (y, q, right', left') = (
    times k n y x,
    times_cells k n y x,
    cancel g h y x p right' ∙ right,
    times_assoc k n y x (times k n g h) ∙ ap (times k n y) (sym (times_assoc k n x g h) ∙ ap (λ u. times k n u h) left) ∙ sym (times_assoc k n y (identity k n) h) ∙ ap (λ u. times k n u h) (times_identity k n y q) ∙ left',
  )

  -- multiplication by an invertible matrix from the right is one to one
  pub inverse_cancel : (h : Cells) → InverseCells h → (x y : Cells) → IsCells k n x → IsCells k n y → times k n x h ≡ times k n y h → x ≡ y
  inverse_cancel h (z, c, right, left) x y p q e =
      sym (times_identity k n x p) ∙ ap (times k n x) (sym right) ∙ sym (times_assoc k n x h z) ∙ ap (λ u. times k n u z) e ∙ times_assoc k n y h z ∙ ap (times k n y) right ∙ times_identity k n y q

  -- of two inverses on different sides the one is the other
  inverse_same : (g : Cells) (i : InverseCells g) (h : Cells) → IsCells k n h → times k n h g ≡ identity k n → h ≡ i.0
  inverse_same g (z, c, right, left) h p e = inverse_cancel g (z, c, right, left) h z p c (e ∙ sym left)

  module _ (gens : List Cells) where
    -- a generator is an element
    pub elements_generators : (gs : List Cells) → All (IsCells k n) gens → AreElements k n gens gs → (m : Cells) → Contains gens m → Contains gs m
    elements_generators gs cells a m h = a.all m (IsProduct_generator k n gens m (All-contains (IsCells k n) gens m cells h) h)

    pub elements_cells : (gs : List Cells) → AreElements k n gens gs → (g : Cells) → Contains gs g → IsCells k n g
    elements_cells gs a g h = IsProduct_cells k n gens g (a.products g h)

    -- a product of invertible matrices is invertible
    pub product_inverse : All IsInvertible gens → (g : Cells) → IsProduct k n gens g → InverseCells g
    product_inverse inv = products_induction k n gens InverseCells inverse_identity (λ g m i h. inverse_times g m i (inverse_cells m (All-contains IsInvertible gens m inv h)))

    module _ (gs : List Cells) (inv : All IsInvertible gens) (a : AreElements k n gens gs) where
      closed : (g h : Cells) → Contains gs g → Contains gs h → Contains gs (times k n g h)
      closed g h p q = a.all (times k n g h) (IsProduct_times k n gens g h (a.products g p) (a.products h q))

      one : Contains gs (identity k n)
      one = a.all (identity k n) (IsProduct_identity k n gens)

      inverses : (g : Cells) → Contains gs g → (h : Cells) × Contains gs h × (times k n g h ≡ identity k n) × (times k n h g ≡ identity k n)
      inverses g p =
          let i = product_inverse inv g (a.products g p) in
          let r = AreApart_reached (cells_or_not k) (λ x. times k n x g) gs a.apart (λ x q. closed x g q p)
          (λ x y q s. inverse_cancel g i x y (elements_cells gs a x q) (elements_cells gs a y s)) (identity k n) one in
          (r.0, r.1, ap (times k n g) (inverse_same g i r.0 (elements_cells gs a r.0 r.1) r.2) ∙ i.2, r.2)

      -- the finite products of invertible generators are a group
      pub elements_group : IsGroup k n gs
      elements_group = record {
        cells = λ i d h. elements_cells gs a (get_or gs i d) (Contains-get_or gs i d h);
        apart = a.apart;
        one = one;
        products = closed;
        inverses = inverses;
      }

  module _ (gs : List Cells) (G : IsGroup k n gs) (h : Cells) (there : Contains gs h) where
    group_inverse : InverseCells h
    group_inverse = let i = G.inverses h there in (i.0, All-contains (IsCells k n) gs i.0 G.cells i.1, i.2, i.3)

    -- each element is a product with h from the right
    pub right_translation : (g : Cells) → Contains gs g → (x : Cells) × Contains gs x × (times k n x h ≡ g)
    right_translation g p =
        let i = G.inverses h there in
        (times k n g i.0, G.products g i.0 p i.1, times_assoc k n g i.0 h ∙ ap (times k n g) i.3 ∙ times_identity k n g (All-contains (IsCells k n) gs g G.cells p))

    pub right_cancel : (x y : Cells) → IsCells k n x → IsCells k n y → times k n x h ≡ times k n y h → x ≡ y
    right_cancel = inverse_cancel h group_inverse

  -- the same of the matrices of the program
  pub matrices_cells : (ms : List (Matrix E)) → All (IsSquare k n) ms → All (IsCells k n) (cells_of ms)
  matrices_cells ms h = All-map (IsCells k n) (λ m. m.cells.items) ms (λ i d b. cells_of_matrix k n (get_or ms i d) (h i d b))

  pub matrix_invertible : (m : Matrix E) → IsSquare k n m → IsNonsingular k m → IsInvertible m.cells.items
  matrix_invertible m h (b, i) = (b, subst (λ a. IsInverse (scalars k) n a b) (entries_of_matrix k n m h) (subst (λ r. IsInverse (scalars k) r (entries k m) b) h.rows i))

  pub matrices_invertible : (ms : List (Matrix E)) → All (IsSquare k n) ms → All (IsNonsingular k) ms → All IsInvertible (cells_of ms)
  matrices_invertible ms h g = All-map IsInvertible (λ m. m.cells.items) ms (λ i d b. matrix_invertible (get_or ms i d) (h i d b) (g i d b))
