-- The vectors that are made of the differences of the monomials are elements of the graph, generate it, and keep degrees.
use Rattle.std.proofs.Common.{◌≡◌, ◌∙◌, ◌+◌, ◌-◌, ◌*◌, ◌<◌, ◌≤◌, ℕ, zero, suc, List, [], ◌∷◌, length, refl, sym, ap, ap₂, subst, inr, arith, suc-mul}
use Rattle.std.specs.Prelude.{Some, slice_get}
use Rattle.alg_core.specs.Fields.{FieldOn}
use Rattle.alg_core.specs.Monomials.{monomials}
use Rattle.alg_core.specs.Vectors.{Vect, plus}
use Rattle.alg_core.proofs.MonomialLists.{length_one}
use Rattle.alg_core.proofs.VectorLaws.{plus_zero, zero_plus}
use Rattle.poly_module.specs.Combinations.{IsCombination, mark_value}
use Rattle.poly_module.specs.Marks.{IsMixed}
use Rattle.poly_module.specs.Modules.{listed}
use Rattle.poly_module.specs.Parts.{supp_single, supp_plus}
use Rattle.poly_module.specs.Polynomials.{single_vector}
use Rattle.poly_module.proofs.CombinationLaws.{combination_value_plus, combination_value_member}
use Rattle.lin_algebra.specs.declared.matrix.Matrix.{Matrix}
use Rattle.matrix_group.specs.Actions.{act_by}
use Rattle.finite_certificate.specs.StandardMonomials.{AreStandardMonomials}
use Rattle.primary_module.specs.Positions.{part_at, HasParts}
use Rattle.primary_module.specs.PrimaryModules.{IsDifference}
use Rattle.primary_module.proofs.Places.{standard_parts}
use Rattle.syzygy_kernel.specs.Graphs.{InGraph, AreGenerators, last_value, part_value, part_values}
use Rattle.syzygy_kernel.specs.GraphVectors.{graph_vector}
use Rattle.syzygy_kernel.proofs.PartValues.{part_late, part_own}
use Rattle.syzygy_kernel.proofs.StackedVectors.{times_le, stacked_keys, stacked_outside, stacked_value}

place_within : {A : Type 0} (xs : List A) (i : ℕ) (x : A) → slice_get xs i ≡ Some x → i < length xs
place_within [] i x e = absurd (grind arith)
place_within (y ∷ xs) zero x e = omega arith
place_within (y ∷ xs) (suc i) x e = let r = place_within xs i x e in omega arith

there : {A : Type 0} (xs : List A) (i : ℕ) → i < length xs → (x : A) × (slice_get xs i ≡ Some x)
there [] i h = absurd (omega arith)
there (y ∷ xs) zero h = (y, refl)
there (y ∷ xs) (suc i) h = there xs i (omega arith)

module _ {E : Type 0} (k : FieldOn E) (n : ℕ) (θ : List (Vect k)) (gens : List (Matrix E)) (B : List (List ℕ)) where
  -- the coordinates of the differences of a polynomial, one for each generator
  pub record AreDifferences (f : Vect k) (us : List (Vect k)) : Type 0 where
    pub count : length us ≡ length gens
    pub each : (i : ℕ) (m : Matrix E) → slice_get gens i ≡ Some m → IsDifference k n θ m f (listed k us i)

  module _ (standard : AreStandardMonomials k n θ B) (j : ℕ) (within : j < length B) (us : List (Vect k))
      (given : AreDifferences (single_vector k (0, part_at B j)) us) where
    stands : (q : ℕ) → q < length us → IsMixed k n (length θ) (listed k us q) × HasParts k n B (listed k us q)
    stands q h =
        let r = there gens q (let e = given.count in omega arith) in
        let c = (given.each q r.0 r.1).coordinates in
        (c.mixed, (standard_parts n k θ B standard _).0 c.standard)

    abbrev unit : Vect k
    unit = single_vector k (length us * length B + j, monomials.one)

    abbrev c : ℕ
    c = suc (length gens)

    counted : length us * length B ≡ length gens * length B
    counted = ap (λ (l : ℕ). l * length B) given.count

    last : last_value k θ gens B (graph_vector k n B us j) ≡ single_vector k (0, part_at B j)
    last =
        let e = counted in
        let place : (length us * length B + j) - length gens * length B ≡ j = omega arith in
        combination_value_plus k θ _ _ _
        ∙ ap₂ (plus k)
        (stacked_outside k n θ B standard (suc (length gens)) (length gens) 0 us (omega arith) (inr (let l = given.count in omega arith)) stands)
        (combination_value_member k θ (part_values k B (suc (length gens)) (length gens)) (length us * length B + j)
        ∙ part_own k B (suc (length gens)) (length gens) (length us * length B + j) (omega arith) (omega arith) (let s = suc-mul (length gens) (length B) in omega arith)
        ∙ ap (λ (q : ℕ). single_vector k (0, part_at B q)) place)
        ∙ zero_plus k _

    early : (i : ℕ) → i < length gens → part_value k θ gens B i (graph_vector k n B us j) ≡ mark_value k n θ (listed k us i)
    early i l =
        let e = counted in
        combination_value_plus k θ _ _ _
        ∙ ap₂ (plus k)
        (stacked_value k n θ B standard (suc (length gens)) i 0 us (omega arith) (omega arith) (let a = given.count in omega arith) stands)
        (combination_value_member k θ (part_values k B (suc (length gens)) i) (length us * length B + j)
        ∙ part_late k B (suc (length gens)) i (length us * length B + j) (let m = times_le (length B) (suc i) (length gens) l in omega arith))
        ∙ plus_zero k _ ∙ ap (λ (q : ℕ). mark_value k n θ (listed k us q)) (omega arith)

    positions : IsCombination k (length θ) (suc (length gens) * length B) (graph_vector k n B us j)
    positions = supp_plus k (λ t. (length t.1.0 ≤ length θ) × (t.0 < suc (length gens) * length B)) _ _
        (stacked_keys k n θ B (suc (length gens)) 0 us (let l = given.count in omega arith) stands)
        (supp_single k (λ t. (length t.1.0 ≤ length θ) × (t.0 < suc (length gens) * length B)) (length us * length B + j, monomials.one)
        (length_one (length θ), (let e = counted in let s = suc-mul (length gens) (length B) in omega arith)))

    -- the element of the graph over the monomial
    pub graph_vector_inside : InGraph k θ gens B (graph_vector k n B us j) × (last_value k θ gens B (graph_vector k n B us j) ≡ single_vector k (0, part_at B j))
    graph_vector_inside = (record { positions = positions; differences = difference }, last)
      where
        difference : (i : ℕ) (m : Matrix E) → slice_get gens i ≡ Some m
            → plus k (part_value k θ gens B i (graph_vector k n B us j)) (last_value k θ gens B (graph_vector k n B us j)) ≡ act_by k m (last_value k θ gens B (graph_vector k n B us j))
        difference i m e =
            let d = given.each i m e in
            ap₂ (plus k) (early i (place_within gens i m e) ∙ d.coordinates.value) last ∙ d.is ∙ ap (act_by k m) (sym last)

  -- the vectors over the monomials generate the graph
  pub graph_vectors : AreStandardMonomials k n θ B → (vs : List (Vect k)) → length vs ≡ length B
      → ((j : ℕ) → j < length B → (us : List (Vect k)) × AreDifferences (single_vector k (0, part_at B j)) us × (listed k vs j ≡ graph_vector k n B us j))
      → AreGenerators k θ gens B vs
  graph_vectors standard vs count each = record {
    count = count;
    inside = λ j h. let r = each j h in subst (InGraph k θ gens B) (sym r.2) (graph_vector_inside standard j h r.0 r.1).0;
    values = λ j h. let r = each j h in ap (last_value k θ gens B) r.2 ∙ (graph_vector_inside standard j h r.0 r.1).1;
  }
