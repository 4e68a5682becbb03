-- The laws of the average over a group of matrices.
use Rattle.reynolds_op.proofs.Common.{◌≡◌, ◌↔◌, ◌≤◌, ℕ, List, [], ◌∷◌, length, map, replicate, All, sym, ap, ◌∙◌, subst, Contains, length-map, FieldOn, Has, scalars, scalar, scalar_one, scalar_mul, Vect, vectors, plus, zero_vector, scale, scale_plus, scale_zero_vector, product, IsPolynomial, InVariables, supp_zero, supp_plus, IsForm, Matrix, act, IsSquare, Invariant, size, cells_of, entry, times, IsGroup, AreElements, AreApart, ones, sum_of, sum_over, average, reynolds, Averaging, IsAveraging, IsAverage, has_ones, act_times, fixed_by_cells, fixed_by_matrices, fixed_by_product, turned_apart, turned_in, in_turned}
use Rattle.poly_module.specs.Products.{product_plus, product_zero, product_scale}
use Rattle.poly_module.specs.Parts.{supp_scale}
use Rattle.matrix_group.proofs.ActionLaws.{act_plus, act_zero, act_scale, act_product, act_polynomial, act_in_variables, act_form}
use Rattle.matrix_group.proofs.GroupLaws.{elements_generators, matrices_cells}
use Rattle.reynolds_op.proofs.Sums.{sum_same, sum_plus, sum_through, sum_constant, sum_members, sum_map}

module _ {E : Type 0} (k : FieldOn E) where
  scale_commutes : (c d : E) (u : Vect k) → scale k c (scale k d u) ≡ scale k d (scale k c u)
  unfolding scale
  scale_commutes c d u = sym ((vectors k).mul_act _ _ u) ∙ ap (λ e. (vectors k).◌·◌ e u) ((scalars k).mul_comm _ _) ∙ (vectors k).mul_act _ _ u

  -- one over c times c times a vector
  scale_inverse : (c d : E) → Has k c → Has k d → k.mul c d ≡ k.one → (u : Vect k) → scale k c (scale k d u) ≡ u
  unfolding scale
  scale_inverse c d h g e u =
      sym ((vectors k).mul_act _ _ u) ∙ ap (λ a. (vectors k).◌·◌ a u) (sym (scalar_mul k c d h g) ∙ ap (scalar k) e ∙ scalar_one k) ∙ (vectors k).one_act u

  module _ (n : ℕ) where
    abbrev image : Vect k → List E → Vect k
    image u g = act k n (entry k n g) u

    module _ (c : E) (gs : List (List E)) where
      -- the average keeps sums and multiples
      pub average_plus : (u v : Vect k) → average k n c gs (plus k u v) ≡ plus k (average k n c gs u) (average k n c gs v)
      average_plus u v =
          ap (scale k c) (sum_same k (image (plus k u v)) (λ g. plus k (image u g) (image v g)) gs (λ g m. act_plus k n (entry k n g) u v) ∙ sum_plus k (image u) (image v) gs)
          ∙ scale_plus k c _ _

      pub average_scale : (d : E) (u : Vect k) → average k n c gs (scale k d u) ≡ scale k d (average k n c gs u)
      average_scale d u =
          ap (scale k c) (sum_same k (image (scale k d u)) (λ g. scale k d (image u g)) gs (λ g m. act_scale k n (entry k n g) d u) ∙ sym (sum_through k (scale k d) (scale_zero_vector k d) (scale_plus k d) (image u) gs))
          ∙ scale_commutes c d _

      -- a factor that each element fixes goes out
      pub average_over : (a u : Vect k) → ((g : List E) → Contains gs g → image a g ≡ a) → average k n c gs (product k a u) ≡ product k a (average k n c gs u)
      average_over a u fixed =
          ap (scale k c) (sum_same k (image (product k a u)) (λ g. product k a (image u g)) gs (λ g m. act_product k n (entry k n g) a u ∙ ap (λ b. product k b (image u g)) (fixed g m))
          ∙ sym (sum_through k (product k a) (product_zero k a) (product_plus k a) (image u) gs))
          ∙ sym (product_scale k c a _)

      -- what each element fixes is its own average
      pub average_fixed : Has k c → k.mul c (ones k (length gs)) ≡ k.one → (u : Vect k) → ((g : List E) → Contains gs g → image u g ≡ u) → average k n c gs u ≡ u
      average_fixed h e u fixed = ap (scale k c) (sum_same k (image u) (λ g. u) gs fixed ∙ sum_constant k u gs) ∙ scale_inverse c (ones k (length gs)) h (has_ones k (length gs)) e u

      -- the average is fixed by each element of a group
      pub average_invariant : IsGroup k n gs → (h : List E) → Contains gs h → (u : Vect k) → image (average k n c gs u) h ≡ average k n c gs u
      average_invariant is h member u =
          act_scale k n (entry k n h) c _ ∙ ap (scale k c) (
          sum_through k (λ v. image v h) (act_zero k n (entry k n h)) (act_plus k n (entry k n h)) (image u) gs
          ∙ sum_same k (λ g. image (image u g) h) (λ g. image u (times k n g h)) gs (λ g m. act_times k n g h u)
          ∙ sym (sum_map k (image u) (λ g. times k n g h) gs)
          ∙ sum_members k (image u) (map (λ g. times k n g h) gs) gs (turned_apart k n gs is h member) is.apart (turned_in k n gs is h member) (in_turned k n gs is h member))

      -- what holds of the images holds of the average
      average_has : (P : Vect k → Type 0) → P (zero_vector k) → ((u v : Vect k) → P u → P v → P (plus k u v)) → ((d : E) (u : Vect k) → P u → P (scale k d u)) → (u : Vect k) → ((g : List E) → P (image u g)) → P (average k n c gs u)
      average_has P none add multiple u each = multiple c _ (go gs)
        where
          go : (gs : List (List E)) → P (sum_over k n gs u)
          go [] = none
          go (g ∷ gs) = add _ _ (each g) (go gs)

      pub average_polynomial : (u : Vect k) → IsPolynomial k (average k n c gs u)
      average_polynomial u = average_has (IsPolynomial k) (supp_zero k _) (supp_plus k _) (supp_scale k _) u (λ g. act_polynomial k n (entry k n g) u)

      pub average_in_variables : (w : ℕ) → n ≤ w → (u : Vect k) → InVariables k w u → InVariables k w (average k n c gs u)
      average_in_variables w le u h = average_has (InVariables k w) (supp_zero k _) (supp_plus k _) (supp_scale k _) u (λ g. act_in_variables k n (entry k n g) w le u h)

      pub average_form : (w : ℕ) → n ≤ w → (d : ℕ) (u : Vect k) → InVariables k w u → IsForm k (replicate w 1) d u → IsForm k (replicate w 1) d (average k n c gs u)
      average_form w le d u h form = average_has (IsForm k (replicate w 1) d) (supp_zero k _) (supp_plus k _) (supp_scale k _) u (λ g. act_form k n (entry k n g) w le d u h form)

    -- the order of the elements counts for nothing
    pub average_order : (c : E) (gs hs : List (List E)) → AreApart gs → AreApart hs → ((g : List E) → Contains gs g → Contains hs g) → ((g : List E) → Contains hs g → Contains gs g) → (u : Vect k) → average k n c gs u ≡ average k n c hs u
    average_order c gs hs p q to from u = ap (scale k c) (sum_members k (image u) gs hs p q to from)

    module _ (R : Averaging E) (is : IsAveraging k n R) where
      abbrev elements : List (List E)
      elements = cells_of R.elements

      inverse : k.mul R.factor (ones k (length elements)) ≡ k.one
      inverse = ap (λ m. k.mul R.factor (ones k m)) (length-map R.elements (λ m. m.cells.items)) ∙ is.inverse

      pub reynolds_invariant : (u : Vect k) → Invariant k R.elements (reynolds k n R u)
      reynolds_invariant u = fixed_by_matrices k n R.elements is.elements.square (reynolds k n R u) (λ g c. average_invariant R.factor elements is.elements.group g c u)

      reynolds_keeps : (u : Vect k) → Invariant k R.elements u → reynolds k n R u ≡ u
      reynolds_keeps u h = average_fixed R.factor elements is.has inverse u (fixed_by_cells k n R.elements is.elements.square u h)

      -- the invariants are what is its own average
      pub reynolds_fixed : (u : Vect k) → Invariant k R.elements u ↔ (reynolds k n R u ≡ u)
      reynolds_fixed u = (reynolds_keeps u, λ e. subst (Invariant k R.elements) e (reynolds_invariant u))

      pub reynolds_over : (a u : Vect k) → Invariant k R.elements a → reynolds k n R (product k a u) ≡ product k a (reynolds k n R u)
      reynolds_over a u h = average_over R.factor elements a u (fixed_by_cells k n R.elements is.elements.square a h)

      -- a sum of as many equal vectors as there are elements, divided by their number
      pub divided : (u : Vect k) → scale k R.factor (sum_of k (λ g. u) elements) ≡ u
      divided u = ap (scale k R.factor) (sum_constant k u elements) ∙ scale_inverse R.factor (ones k (length elements)) is.has (has_ones k (length elements)) inverse u

      module _ (gens : List (Matrix E)) (square : All (IsSquare k n) gens) (generated : AreElements k n (cells_of gens) elements) where
        -- what the generators fix, the elements fix
        by_generators : (u : Vect k) → IsPolynomial k u → Invariant k gens u → Invariant k R.elements u
        by_generators u p h = fixed_by_matrices k n R.elements is.elements.square u (λ g c. fixed_by_product k n (cells_of gens) u p (fixed_by_cells k n gens square u h) g (generated.products g c))

        by_elements : (u : Vect k) → Invariant k R.elements u → Invariant k gens u
        by_elements u h = fixed_by_matrices k n gens square u (λ g c. fixed_by_cells k n R.elements is.elements.square u h g (elements_generators k n (cells_of gens) elements (matrices_cells k n gens square) generated g c))

        pub generated_invariant : (u : Vect k) → Invariant k gens (reynolds k n R u)
        generated_invariant u = by_elements (reynolds k n R u) (reynolds_invariant u)

        pub generated_fixed : (u : Vect k) → IsPolynomial k u → Invariant k gens u ↔ (reynolds k n R u ≡ u)
        generated_fixed u p = (λ h. reynolds_keeps u (by_generators u p h), λ e. subst (Invariant k gens) e (generated_invariant u))

        pub generated_over : (a u : Vect k) → IsPolynomial k a → Invariant k gens a → reynolds k n R (product k a u) ≡ product k a (reynolds k n R u)
        generated_over a u p h = reynolds_over a u (by_generators a p h)

    -- the same elements in another order
    pub reynolds_order : (R S : Averaging E) → IsAveraging k n R → IsAveraging k n S → ((g : List E) → Contains (cells_of R.elements) g ↔ Contains (cells_of S.elements) g) → (u : Vect k) → reynolds k n R u ≡ reynolds k n S u
    reynolds_order R S r s same u =
        ap (scale k R.factor) (sum_members k (image u) (cells_of R.elements) (cells_of S.elements) r.elements.group.apart s.elements.group.apart (λ g. (same g).0) (λ g. (same g).1))
        ∙ factors (sum_over k n (cells_of S.elements) u)
      where
        factors : (w : Vect k) → scale k R.factor w ≡ scale k S.factor w
        factors w =
            ap (scale k R.factor) (sym (divided S s w)) ∙ scale_commutes R.factor S.factor _
            ∙ ap (scale k S.factor) (ap (scale k R.factor) (sym (sum_members k (λ g. w) (cells_of R.elements) (cells_of S.elements) r.elements.group.apart s.elements.group.apart (λ g. (same g).0) (λ g. (same g).1))) ∙ divided R r w)

  -- a polynomial has one average over the group of given generators
  pub average_unique : (gens : List (Matrix E)) (f h h' : Vect k) → IsAverage k gens f h → IsAverage k gens f h' → h ≡ h'
  average_unique gens f h h' a b =
      sym a.is ∙ reynolds_order (size gens) a.averaging b.averaging a.group b.group
      (λ g. (λ c. b.generated.all g (a.generated.products g c), λ c. a.generated.all g (b.generated.products g c))) f ∙ b.is
