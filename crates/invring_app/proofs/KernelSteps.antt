-- What the kernel evidence in a space with marks says in the space of the variables.
use Rattle.std.proofs.Common.{◌≡◌, ◌∙◌, ℕ, ◌≤◌, List, [], ◌∷◌, length, sym, ap, subst, arith}
use Rattle.std.specs.Prelude.{All}
use Rattle.std.proofs.lemmas.List.Elements.{All-nil, All-cons, All-head, All-tail}
use Rattle.alg_core.specs.PolynomialSpaces.{marked_space}
use Rattle.alg_core.specs.Spaces.{SpaceOver}
use Rattle.alg_core.specs.Vectors.{Vect}
use Rattle.alg_core.specs.declared.term.Term.{Term}
use Rattle.poly_module.specs.SpaceVectors.{IsPoly, vector_of, vectors_of}
use Rattle.lin_algebra.specs.declared.matrix.Matrix.{Matrix}
use Rattle.matrix_group.specs.Actions.{IsSquare, Invariant}
use Rattle.module_groebner.specs.BasisBounds.{NothingAbove, IsBasisBound}
use Rattle.module_groebner.specs.HomogeneousLists.{IsHomogeneousUpTo}
use Rattle.module_groebner.specs.declared.bound.BasisBound.{BasisBound}
use Rattle.module_groebner.specs.declared.bound.Which.TheVariants.{Graph}
use Rattle.primary_module.specs.PrimaryModules.{Primaries, StandsOver}
use Rattle.secondary_gens.specs.Forms.{degrees_of}
use Rattle.secondary_gens.specs.Secondaries.{IsComplete}
use Rattle.syzygy_kernel.specs.Graphs.{InGraph, graph_space}
use Rattle.syzygy_kernel.specs.Kernels.{AreKernel, fixed_values}
use Rattle.syzygy_kernel.specs.declared.member.Member.{Member}
use Rattle.syzygy_kernel.proofs.FixedMembers.{values_invariant, values_complete}
use Rattle.invring_app.specs.FoundPrimaries.{IsFreeOver}
use Rattle.invring_app.specs.GeneratingParts.{AreFixedBy}
use Rattle.invring_app.specs.KernelValues.{IsSmallMember}

abbrev Terms : Type 0
Terms = List (Term ℕ (List ℕ))

-- members of small degrees
pub small_members : (M : SpaceOver ℕ) (cap : ℕ) → cap ≤ 1000 → (ms : List (Member ℕ)) → All (λ m. IsPoly M (λ a. a) m.u) ms → All (λ m. IsHomogeneousUpTo M cap (vector_of M (λ a. a) m.u)) ms → All (IsSmallMember M) ms
small_members M cap low [] p h = All-nil (IsSmallMember M)
small_members M cap low (m ∷ ms) p h =
    let at = All-head (λ m. IsHomogeneousUpTo M cap (vector_of M (λ a. a) m.u)) m ms h in
    let below = at.1 in
    All-cons (IsSmallMember M) m ms
    (record { polynomial = All-head (λ m. IsPoly M (λ a. a) m.u) m ms p; homogeneous = (at.0, omega arith, at.2) })
    (small_members M cap low ms (All-tail (λ m. IsPoly M (λ a. a) m.u) m ms p) (All-tail (λ m. IsHomogeneousUpTo M cap (vector_of M (λ a. a) m.u)) m ms h))

module _ (S M : SpaceOver ℕ) (n : ℕ) (ds : List ℕ) (θ : List Terms) (P : Primaries ℕ) (free : IsFreeOver S M n ds θ P) where
  pub to : (Q : (U : SpaceOver ℕ) → ℕ → List ℕ → List (Vect U.field) → Type 0) → Q M n ds (vectors_of M (λ m. m) P.theta)
      → Q (marked_space S.field (length S.weights) (degrees_of θ)) (length S.weights) (degrees_of θ) (vectors_of S (λ m. m) θ)
  to Q h = subst (λ es. Q (marked_space S.field (length S.weights) es) (length S.weights) es (vectors_of S (λ m. m) θ)) free.marks
      (subst (Q (marked_space S.field (length S.weights) ds) (length S.weights) ds) free.same
      (subst (λ i. Q (marked_space S.field (length S.weights) ds) i ds (vectors_of S (λ m. m) P.theta)) free.beside.variables
      (subst (λ U. Q U n ds (vectors_of U (λ m. m) P.theta)) free.beside.is h)))

  pub from : (Q : (U : SpaceOver ℕ) → ℕ → List ℕ → List (Vect U.field) → Type 0)
      → Q (marked_space S.field (length S.weights) (degrees_of θ)) (length S.weights) (degrees_of θ) (vectors_of S (λ m. m) θ) → Q M n ds (vectors_of M (λ m. m) P.theta)
  from Q h = subst (λ U. Q U n ds (vectors_of U (λ m. m) P.theta)) (sym free.beside.is)
      (subst (λ i. Q (marked_space S.field (length S.weights) ds) i ds (vectors_of S (λ m. m) P.theta)) (sym free.beside.variables)
      (subst (Q (marked_space S.field (length S.weights) ds) (length S.weights) ds) (sym free.same)
      (subst (λ es. Q (marked_space S.field (length S.weights) es) (length S.weights) es (vectors_of S (λ m. m) θ)) (sym free.marks) h)))

  module _ (gens : List (Matrix ℕ)) where
    pub square_from : All (IsSquare S.field (length S.weights)) gens → All (IsSquare M.field n) gens
    square_from h = from (λ U i es x. All (IsSquare U.field i) gens) h

    pub fixed_from : All (Invariant S.field gens) (vectors_of S (λ m. m) θ) → All (Invariant M.field gens) (vectors_of M (λ m. m) P.theta)
    fixed_from h = from (λ U i es x. All (Invariant U.field gens) x) h

    pub above_to : (cap : ℕ) (b : BasisBound ℕ) → IsBasisBound (graph_space M.field ds (length gens) P.monomials) (InGraph M.field (vectors_of M (λ m. m) P.theta) gens P.monomials) cap Graph b
        → IsBasisBound (graph_space S.field (degrees_of θ) (length gens) P.monomials) (InGraph S.field (vectors_of S (λ m. m) θ) gens P.monomials) cap Graph b
    above_to cap b h = to (λ U i es x. IsBasisBound (graph_space U.field es (length gens) P.monomials) (InGraph U.field x gens P.monomials) cap Graph b) h

    module _ (cap : ℕ) (ms : List (Member ℕ)) (fs : List Terms) (polynomials : All (λ m. IsPoly M (λ a. a) m.u) ms) (kernel : AreKernel M.field n ds (vectors_of M (λ m. m) P.theta) gens P.monomials ms)
        (within : NothingAbove (graph_space M.field ds (length gens) P.monomials) (InGraph M.field (vectors_of M (λ m. m) P.theta) gens P.monomials) cap)
        (values : vectors_of S (λ m. m) fs ≡ fixed_values S.field (length S.weights) (vectors_of S (λ m. m) P.theta) ms) where
      pub fixed_by : AreFixedBy S cap gens θ P.monomials fs ms
      fixed_by = record {
        polynomials = to (λ U i es x. All (λ m. IsPoly U (λ a. a) m.u) ms) polynomials;
        kernel = to (λ U i es x. AreKernel U.field i es x gens P.monomials ms) kernel;
        within = to (λ U i es x. NothingAbove (graph_space U.field es (length gens) P.monomials) (InGraph U.field x gens P.monomials) cap) within;
        values = values ∙ ap (λ x. fixed_values S.field (length S.weights) x ms) free.same;
      }

      module _ (square : All (IsSquare S.field (length S.weights)) gens) (fixed : All (Invariant S.field gens) (vectors_of S (λ m. m) θ)) where
        stands : StandsOver (marked_space S.field (length S.weights) ds) (length S.weights) ds P
        stands = subst (λ i. StandsOver (marked_space S.field (length S.weights) ds) i ds P) free.beside.variables (subst (λ U. StandsOver U n ds P) free.beside.is free.stands)

        pub complete_by : IsComplete S.field (length S.weights) gens (vectors_of S (λ m. m) θ) (vectors_of S (λ m. m) fs)
        complete_by =
            let s = stands in
            let x = vectors_of S (λ m. m) P.theta in
            subst (λ y. IsComplete S.field (length S.weights) gens y (vectors_of S (λ m. m) fs)) free.same
            (subst (IsComplete S.field (length S.weights) gens x) (sym values)
            (values_complete S.field x gens P.monomials (length S.weights) ds s.is.forms (subst (All (Invariant S.field gens)) (sym free.same) fixed) square s.monomials ms
            (down (λ U i. AreKernel U.field i ds (vectors_of U (λ m. m) P.theta) gens P.monomials ms) kernel)))
          where
            down : (Q : SpaceOver ℕ → ℕ → Type 0) → Q M n → Q (marked_space S.field (length S.weights) ds) (length S.weights)
            down Q h = subst (λ i. Q (marked_space S.field (length S.weights) ds) i) free.beside.variables (subst (λ U. Q U n) free.beside.is h)

        pub invariant_by : All (λ f. Invariant S.field gens (vector_of S (λ m. m) f)) fs
        invariant_by =
            let s = stands in
            let x = vectors_of S (λ m. m) P.theta in
            each fs (subst (All (Invariant S.field gens)) (sym values)
            (values_invariant S.field x gens P.monomials (length S.weights) ds s.is.forms (subst (All (Invariant S.field gens)) (sym free.same) fixed) square s.monomials ms
            (down (λ U i. AreKernel U.field i ds (vectors_of U (λ m. m) P.theta) gens P.monomials ms) kernel)))
          where
            down : (Q : SpaceOver ℕ → ℕ → Type 0) → Q M n → Q (marked_space S.field (length S.weights) ds) (length S.weights)
            down Q h = subst (λ i. Q (marked_space S.field (length S.weights) ds) i) free.beside.variables (subst (λ U. Q U n) free.beside.is h)

            each : (ts : List Terms) → All (Invariant S.field gens) (vectors_of S (λ m. m) ts) → All (λ f. Invariant S.field gens (vector_of S (λ m. m) f)) ts
            each [] h = All-nil (λ f. Invariant S.field gens (vector_of S (λ m. m) f))
            each (t ∷ ts) h = All-cons (λ f. Invariant S.field gens (vector_of S (λ m. m) f)) t ts
                (All-head (Invariant S.field gens) (vector_of S (λ m. m) t) (vectors_of S (λ m. m) ts) h) (each ts (All-tail (Invariant S.field gens) (vector_of S (λ m. m) t) (vectors_of S (λ m. m) ts) h))
