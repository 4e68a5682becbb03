-- The action of a group of matrices: products, the identity, and multiplication of the elements by one of them.
use Rattle.matrix_group.proofs.Common.{◌≡◌, ℕ, ◌<◌, ◌≤◌, ◌⊎◌, inl, inr, List, map, get_or, sym, ap, ap₂, ◌∙◌, subst, Contains, All, cases_lt, All-contains, Contains-get_or, FieldOn, Scalar, Vect, IsPolynomial, Matrix, act, act_by, image, IsSquare, Invariant, family_value, cells_of, entry, identity, times, IsCells, IsGroup, IsProduct, AreApart}
use Rattle.matrix_group.proofs.LinearForms.{linear_form_agree, image_inside, image_outside}
use Rattle.matrix_group.proofs.ActionLaws.{act_act, act_identity}
use Rattle.matrix_group.proofs.Cells.{entry_times, entry_identity, entries_of_matrix}
use Rattle.matrix_group.proofs.Found.{Contains_map, Contains_of_map, AreApart_map}
use Rattle.matrix_group.proofs.Products.{products_induction}
use Rattle.matrix_group.proofs.GroupLaws.{right_translation, right_cancel}

module _ {E : Type 0} (k : FieldOn E) (n : ℕ) where
  -- the action depends on the first n entries of the first n rows
  pub act_agree : (a b : ℕ → ℕ → Scalar k) → ((i j : ℕ) → i < n → j < n → a i j ≡ b i j) → (u : Vect k) → act k n a u ≡ act k n b u
  unfolding act
  act_agree a b e u = ap (λ f. family_value k f u) (λ t i. at i (cases_lt i n) t)
    where
      at : (i : ℕ) → (i < n) ⊎ (n ≤ i) → image k n a i ≡ image k n b i
      at i (inl h) = image_inside k n a i h ∙ linear_form_agree k n (a i) (b i) (λ j l. e i j h l) ∙ sym (image_inside k n b i h)
      at i (inr h) = image_outside k n a i h ∙ sym (image_outside k n b i h)

  -- one element after another acts as their product
  pub act_times : (g h : List E) (u : Vect k) → act k n (entry k n h) (act k n (entry k n g) u) ≡ act k n (entry k n (times k n g h)) u
  act_times g h u = act_act k n (entry k n g) (entry k n h) u ∙ act_agree _ _ (λ i j p q. sym (entry_times k n g h i j p q)) u

  -- the identity leaves polynomials alone
  pub act_one : (u : Vect k) → IsPolynomial k u → act k n (entry k n (identity k n)) u ≡ u
  act_one = act_identity k n (entry k n (identity k n)) (entry_identity k n)

  -- the action of a matrix of the program goes by its cells
  pub act_cells : (m : Matrix E) → IsSquare k n m → (u : Vect k) → act_by k m u ≡ act k n (entry k n m.cells.items) u
  act_cells m h u = ap₂ (λ r a. act k r a u) h.rows (entries_of_matrix k n m h)

  -- fixed by each of the matrices, and by each list of cells
  pub fixed_by_cells : (ms : List (Matrix E)) → All (IsSquare k n) ms → (u : Vect k) → Invariant k ms u → (g : List E) → Contains (cells_of ms) g → act k n (entry k n g) u ≡ u
  fixed_by_cells ms square u fixed g c =
      let r = Contains_of_map (λ m. m.cells.items) ms g c in
      ap (λ h. act k n (entry k n h) u) (sym r.2) ∙ sym (act_cells r.0 (All-contains (IsSquare k n) ms r.0 square r.1) u) ∙ All-contains (λ m. act_by k m u ≡ u) ms r.0 fixed r.1

  pub fixed_by_matrices : (ms : List (Matrix E)) → All (IsSquare k n) ms → (u : Vect k) → ((g : List E) → Contains (cells_of ms) g → act k n (entry k n g) u ≡ u) → Invariant k ms u
  fixed_by_matrices ms square u fixed i m l =
      let here = get_or ms i m in
      act_cells here (square i m l) u ∙ fixed here.cells.items (Contains_map (λ m. m.cells.items) ms here (Contains-get_or ms i m l))

  -- what the generators fix, their products fix
  pub fixed_by_product : (gens : List (List E)) (u : Vect k) → IsPolynomial k u → ((g : List E) → Contains gens g → act k n (entry k n g) u ≡ u) → (g : List E) → IsProduct k n gens g → act k n (entry k n g) u ≡ u
  fixed_by_product gens u p fixed = products_induction k n gens (λ g. act k n (entry k n g) u ≡ u) (act_one u p) (λ g m e c. sym (act_times g m u) ∙ ap (act k n (entry k n m)) e ∙ fixed m c)

  module _ (gs : List (List E)) (is : IsGroup k n gs) (h : List E) (member : Contains gs h) where
    abbrev turned : List (List E)
    turned = map (λ g. times k n g h) gs

    -- multiplication by an element permutes the elements
    pub turned_apart : AreApart turned
    turned_apart = AreApart_map (λ g. times k n g h) gs (λ x y c d. right_cancel k n gs is h member x y (All-contains (IsCells k n) gs x is.cells c) (All-contains (IsCells k n) gs y is.cells d)) is.apart

    pub turned_in : (g : List E) → Contains turned g → Contains gs g
    turned_in g c = let r = Contains_of_map (λ g. times k n g h) gs g c in subst (Contains gs) r.2 (is.products r.0 h r.1 member)

    pub in_turned : (g : List E) → Contains gs g → Contains turned g
    in_turned g c = let r = right_translation k n gs is h member g c in subst (Contains turned) r.2 (Contains_map (λ g. times k n g h) gs r.0 r.1)
