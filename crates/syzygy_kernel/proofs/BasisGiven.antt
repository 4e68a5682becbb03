-- The reduced basis of the graph, from that of the module of what generates it.
use Rattle.std.proofs.Common.{◌≡◌, ◌∙◌, ℕ, List, length, refl, sym, subst}
use Rattle.std.specs.Prelude.{All}
use Rattle.alg_core.specs.Fields.{FieldOn}
use Rattle.alg_core.specs.Keys.{Key}
use Rattle.alg_core.specs.Spaces.{SpaceOver, entries}
use Rattle.alg_core.specs.Vectors.{Vect}
use Rattle.alg_core.specs.declared.term.Term.{Term}
use Rattle.alg_core.proofs.PolynomialSpaces.{marked_positive}
use Rattle.poly_module.specs.Caps.{IsAboveCap}
use Rattle.poly_module.specs.Modules.{InModule, listed}
use Rattle.poly_module.specs.Parts.{InVariables}
use Rattle.poly_module.specs.ReducedLists.{IsReducedBasis, IsReducedBasisOf}
use Rattle.poly_module.specs.SpaceVectors.{IsPositive, vector_of, vectors_of}
use Rattle.poly_module.proofs.FittingKeys.{vec_in_variables}
use Rattle.lin_algebra.specs.declared.matrix.Matrix.{Matrix}
use Rattle.matrix_group.specs.Actions.{IsSquare, Invariant}
use Rattle.module_groebner.specs.BasisBounds.{NothingAbove, IsBasisBound}
use Rattle.module_groebner.specs.declared.bound.BasisBound.{BasisBound}
use Rattle.module_groebner.specs.declared.bound.Which.TheVariants.{Ideal, Graph}
use Rattle.module_groebner.proofs.Families.{length_map}
use Rattle.primary_module.specs.PrimaryModules.{Primaries, StandsOver}
use Rattle.primary_module.proofs.LiftLaws.{unique}
use Rattle.primary_module.proofs.ValueSteps.{marks_count}
use Rattle.syzygy_kernel.specs.Graphs.{InGraph, AreGenerators, graph_space}
use Rattle.syzygy_kernel.proofs.GraphBases.{reduced_bases, above_caps}

module _ {E : Type 0} (S : SpaceOver E) (n : ℕ) (ds : List ℕ) (P : Primaries E) (stands : StandsOver S n ds P) (gens : List (Matrix E))
    (square : All (IsSquare S.field n) gens) (fixed : All (Invariant S.field gens) (vectors_of S (λ m. m) P.theta))
    (T : SpaceOver E) (is : T ≡ graph_space S.field ds (length gens) P.monomials) where
  abbrev k : FieldOn E
  k = S.field

  abbrev θ : List (Vect S.field)
  θ = vectors_of S (λ m. m) P.theta

  abbrev B : List (List ℕ)
  B = P.monomials

  abbrev G : SpaceOver E
  G = graph_space S.field ds (length gens) P.monomials

  abbrev U : Vect S.field → Type 0
  U = InGraph S.field (vectors_of S (λ m. m) P.theta) gens P.monomials

  pub basis_positive : IsPositive T
  basis_positive = subst (λ (X : SpaceOver E). IsPositive X) (sym is)
      (record { order = (marked_positive k n ds stands.is.forms.positive).0; weights = stands.is.forms.positive })

  module _ (gs : List (List (Term E (List ℕ)))) (generators : AreGenerators S.field (vectors_of S (λ m. m) P.theta) gens P.monomials (vectors_of S (λ m. m) gs))
      (seen : List (List (Term E (List ℕ)))) (same : seen ≡ gs) where
    -- what the generators generate, in a space over the field
    abbrev M : (X : SpaceOver E) → List (List (Term E (List ℕ))) → Vect X.field → Type 0
    M X l = InModule X.field (listed X.field (vectors_of X (λ m. m) l))

    pub basis_reduced : (vs : List (List (Term E (List ℕ)))) → IsReducedBasis T (listed T.field (vectors_of T (λ m. m) seen)) (vectors_of T (λ m. m) vs)
        → IsReducedBasisOf (graph_space S.field ds (length gens) P.monomials) (InGraph S.field (vectors_of S (λ m. m) P.theta) gens P.monomials) (vectors_of S (λ m. m) vs)
    basis_reduced vs h =
        (reduced_bases k n ds θ stands.is.forms gens fixed square B stands.monomials (unique S n ds P.theta P.lifts stands.is) (vectors_of S (λ m. m) gs) generators (vectors_of S (λ m. m) vs)).0
        (subst (λ (X : SpaceOver E). IsReducedBasis X (listed X.field (vectors_of X (λ m. m) gs)) (vectors_of X (λ m. m) vs)) is
        (subst (λ l. IsReducedBasis T (listed T.field (vectors_of T (λ m. m) l)) (vectors_of T (λ m. m) vs)) same h))

    module _ (cap : ℕ) where
      above : (v : Vect S.field) (t : Key) → IsAboveCap (graph_space S.field ds (length gens) P.monomials) (InGraph S.field (vectors_of S (λ m. m) P.theta) gens P.monomials) cap v t
          → IsAboveCap (graph_space S.field ds (length gens) P.monomials) (InModule S.field (listed S.field (vectors_of S (λ m. m) gs))) cap v t
      above v t a =
          ((above_caps k n ds θ stands.is.forms gens fixed square B stands.monomials (unique S n ds P.theta P.lifts stands.is) (vectors_of S (λ m. m) gs) generators cap v t).0 a).0

      pub basis_within : NothingAbove T (InModule T.field (listed T.field (vectors_of T (λ m. m) seen))) cap
          → NothingAbove (graph_space S.field ds (length gens) P.monomials) (InGraph S.field (vectors_of S (λ m. m) P.theta) gens P.monomials) cap
      basis_within h v t a =
          subst (λ (X : SpaceOver E). NothingAbove X (InModule X.field (listed X.field (vectors_of X (λ m. m) gs))) cap) is
          (subst (λ l. NothingAbove T (InModule T.field (listed T.field (vectors_of T (λ m. m) l))) cap) same h) v t (above v t a)

      bound_moved : (b : BasisBound E) → IsBasisBound T (InModule T.field (listed T.field (vectors_of T (λ m. m) seen))) cap Ideal b
          → IsBasisBound (graph_space S.field ds (length gens) P.monomials) (InModule S.field (listed S.field (vectors_of S (λ m. m) gs))) cap Ideal b
      bound_moved b h = subst (λ (X : SpaceOver E). IsBasisBound X (InModule X.field (listed X.field (vectors_of X (λ m. m) gs))) cap Ideal b) is
          (subst (λ l. IsBasisBound T (InModule T.field (listed T.field (vectors_of T (λ m. m) l))) cap Ideal b) same h)

      pub basis_above : (b : BasisBound E) → IsBasisBound T (InModule T.field (listed T.field (vectors_of T (λ m. m) seen))) cap Ideal b
          → IsBasisBound (graph_space S.field ds (length gens) P.monomials) (InGraph S.field (vectors_of S (λ m. m) P.theta) gens P.monomials) cap Graph
          (record { vector = b.vector; degree = b.degree; which = Graph })
      basis_above b given =
          let h = bound_moved b given in
          let many : length ds ≡ length θ = marks_count S n ds P.theta P.lifts stands.is ∙ sym (length_map (vector_of S (λ m. m)) P.theta) in
          record {
            fits = h.fits;
            lead = h.lead;
            above = (above_caps k n ds θ stands.is.forms gens fixed square B stands.monomials (unique S n ds P.theta P.lifts stands.is) (vectors_of S (λ m. m) gs) generators cap _ h.lead).1
                (h.above, subst (λ (r : ℕ). InVariables k r (vector_of S (λ m. m) b.vector)) many (vec_in_variables G (entries (λ m. m) b.vector) h.fits));
            reached = h.reached;
            least = λ v t a. h.least v t (above v t a);
            which = refl;
          }
