-- The vectors over the standard monomials, one by one, and what they are together.
use Rattle.std.proofs.Common.{◌≡◌, ◌∙◌, ◌+◌, ◌*◌, ◌<◌, ◌≤◌, ℕ, zero, suc, true, List, [], ◌∷◌, ◌++◌, length, map, get_or, refl, sym, ap, subst, arith}
use Rattle.std.specs.Prelude.{All, ◌==◌}
use Rattle.std.proofs.lemmas.List.{length-append}
use native.Mathlib.Decide.{dec_le}
use Rattle.alg_core.specs.EliminationOrder.{elimination_order}
use Rattle.alg_core.specs.Fields.{FieldOn}
use Rattle.alg_core.specs.PlaceOrders.{PlaceOrder}
use Rattle.alg_core.specs.SpaceGrading.{degree, height}
use Rattle.alg_core.specs.Spaces.{SpaceOver}
use Rattle.alg_core.specs.Vectors.{Vect}
use Rattle.alg_core.specs.declared.term.Term.{Term}
use Rattle.poly_module.specs.Degrees.{IsHomogeneous}
use Rattle.poly_module.specs.GreatestExponents.{total}
use Rattle.poly_module.specs.Modules.{listed}
use Rattle.poly_module.specs.SpaceVectors.{AreVectors, IsVector, IsVectorOf, vector_of, vectors_of}
use Rattle.lin_algebra.specs.declared.matrix.Matrix.{Matrix}
use Rattle.module_groebner.specs.HomogeneousLists.{degree_limit, IsHomogeneousUpTo, AreHomogeneousUpTo}
use Rattle.module_groebner.proofs.Families.{length_map, get_front, get_last, in_get}
use Rattle.primary_module.specs.PrimaryModules.{Primaries, StandsOver}
use Rattle.primary_module.proofs.StandardDegrees.{total_below}
use Rattle.syzygy_kernel.specs.Graphs.{AreGenerators, copies, graph_space}
use Rattle.syzygy_kernel.specs.GraphVectors.{AreAllDifferences, graph_vector}
use Rattle.syzygy_kernel.proofs.GivenDifferences.{all_counted, all_given, all_forms}
use Rattle.syzygy_kernel.proofs.GraphVectors.{graph_vectors}
use Rattle.syzygy_kernel.proofs.StackedDegrees.{graph_vector_degree}

map_again : {A B C : Type 0} (f : B → C) (g : A → B) (xs : List A) → map f (map g xs) ≡ map (λ x. f (g x)) xs
map_again f g [] = refl
map_again f g (x ∷ xs) = ap (λ l. f (g x) ∷ l) (map_again f g xs)

from_places : {A B : Type 0} (P : B → Type 0) (f : A → B) (o : A) (xs : List A) → ((j : ℕ) → j < length xs → P (f (get_or xs j o))) → All P (map f xs)
from_places P f o [] h i d w = absurd (omega arith)
from_places P f o (x ∷ xs) h zero d w = h 0 (omega arith)
from_places P f o (x ∷ xs) h (suc i) d w = from_places P f o xs (λ j l. h (suc j) (omega arith)) i d (omega arith)

all_places : {A : Type 0} (P : A → Type 0) (o : A) (xs : List A) → ((j : ℕ) → j < length xs → P (get_or xs j o)) → All P xs
all_places P o [] h i d w = absurd (omega arith)
all_places P o (x ∷ xs) h zero d w = h 0 (omega arith)
all_places P o (x ∷ xs) h (suc i) d w = all_places P o xs (λ j l. h (suc j) (omega arith)) i d (omega arith)

listed_place : {E A : Type 0} (k : FieldOn E) (f : A → Vect k) (o : A) (xs : List A) (j : ℕ) → j < length xs → listed k (map f xs) j ≡ f (get_or xs j o)
listed_place k f o [] j h = absurd (omega arith)
listed_place k f o (x ∷ xs) zero h = refl
listed_place k f o (x ∷ xs) (suc j) h = listed_place k f o xs j (omega arith)

height_read : (B : List (List ℕ)) (j : ℕ) → j < length B → height (map total B) j ≡ total (get_or B j [])
unfolding height
height_read [] j h = absurd (omega arith)
height_read (b ∷ B) zero h = refl
height_read (b ∷ B) (suc j) h = height_read B j (omega arith)

module _ {E A : Type 0} (X : SpaceOver E) (n : ℕ) (B : List (List ℕ)) (differences : List A) (items : A → List (List (Term E (List ℕ)))) where
  -- the vector over the monomial at the place
  abbrev pub over_place : ℕ → Vect X.field
  over_place j = graph_vector X.field n B (map (λ x. vector_of X (λ m. m) (get_or (items x) j [])) differences) j

  -- the vectors over the first monomials
  pub record AreOver (place : ℕ) (vs : List (List (Term E (List ℕ)))) : Type 0 where
    pub count : length vs ≡ place
    pub each : (j : ℕ) → j < place → IsVectorOf X (λ (m : List ℕ). m) (over_place j) (get_or vs j [])

  pub over_none : (vs : List (List (Term E (List ℕ)))) → vs ≡ [] → AreOver 0 vs
  over_none vs e = record { count = ap length e; each = λ j l. absurd (omega arith) }

  pub over_more : (place : ℕ) (vs new : List (List (Term E (List ℕ)))) (v : List (Term E (List ℕ))) → new ≡ vs ++ v ∷ [] → IsVectorOf X (λ (m : List ℕ). m) (over_place place) v
      → AreOver place vs → AreOver (place + 1) new
  over_more place vs new v push is h = record {
    count = ap length push ∙ length-append vs (v ∷ []) ∙ ap (λ (l : ℕ). l + 1) h.count;
    each = λ j l. subst (λ x. IsVectorOf X (λ (m : List ℕ). m) (over_place j) (get_or x j [])) (sym push) (go j l (dec_le (suc j) place));
  }
    where
      go : (j : ℕ) → j < place + 1 → Dec (suc j ≤ place) → IsVectorOf X (λ (m : List ℕ). m) (over_place j) (get_or (vs ++ v ∷ []) j [])
      go j l (yes p) = subst (λ x. IsVectorOf X (λ (m : List ℕ). m) (over_place j) x) (sym (get_front [] vs (v ∷ []) j (let c = h.count in omega arith))) (h.each j p)
      go j l (no p) =
          let here : place ≡ j = omega arith in
          let last : length vs ≡ j = h.count ∙ here in
          subst (λ x. IsVectorOf X (λ (m : List ℕ). m) (over_place j) x) (sym (ap (λ (i : ℕ). get_or (vs ++ v ∷ []) i []) (sym last) ∙ get_last [] vs v))
          (subst (λ (i : ℕ). IsVectorOf X (λ (m : List ℕ). m) (over_place i) v) here is)

  pub over_fit : (place : ℕ) (vs : List (List (Term E (List ℕ)))) → AreOver place vs → AreVectors X (λ m. m) vs
  over_fit place vs h = all_places (IsVector X (λ (m : List ℕ). m)) [] vs (λ j l. (h.each j (let c = h.count in omega arith)).fits)

module _ {E A : Type 0} (S : SpaceOver E) (n : ℕ) (ds : List ℕ) (P : Primaries E) (stands : StandsOver S n ds P) (gens : List (Matrix E)) (differences : List A) (items : A → List (List (Term E (List ℕ))))
    (given : AreAllDifferences S n (vectors_of S (λ m. m) P.theta) P.monomials gens (map items differences)) where
  abbrev θ : List (Vect S.field)
  θ = vectors_of S (λ m. m) P.theta

  abbrev B : List (List ℕ)
  B = P.monomials

  abbrev G : SpaceOver E
  G = graph_space S.field ds (length gens) P.monomials

  module _ (vs : List (List (Term E (List ℕ)))) (over : AreOver (graph_space S.field ds (length gens) P.monomials) n P.monomials differences items (length P.monomials) vs) where
    pub over_generators : AreGenerators S.field (vectors_of S (λ m. m) P.theta) gens P.monomials (vectors_of S (λ m. m) vs)
    over_generators = graph_vectors S.field n θ gens B stands.monomials (vectors_of S (λ m. m) vs) (length_map (vector_of S (λ m. m)) vs ∙ over.count)
        (λ j l. (
          map (λ ps. vector_of S (λ m. m) (get_or ps j [])) (map items differences),
          record { count = length_map _ (map items differences) ∙ all_counted S n ds P stands gens (map items differences) given; each = all_given S n ds P stands j l gens (map items differences) given },
          listed_place S.field (vector_of S (λ m. m)) [] vs j (let c = over.count in omega arith) ∙ (over.each j l).is
              ∙ ap (λ us. graph_vector S.field n B us j) (sym (map_again (λ ps. vector_of S (λ m. m) (get_or ps j [])) items differences)),
        ))

    over_degree : (j : ℕ) → j < length P.monomials → IsHomogeneous (graph_space S.field ds (length gens) P.monomials) (total (get_or P.monomials j [])) (vector_of S (λ m. m) (get_or vs j []))
    unfolding degree
    over_degree j l = subst (λ u. IsHomogeneous G (total (get_or B j [])) u)
        (sym ((over.each j l).is ∙ ap (λ us. graph_vector S.field n B us j) (sym (map_again (λ ps. vector_of S (λ m. m) (get_or ps j [])) items differences))))
        (graph_vector_degree S.field n ds B stands.monomials.wide (suc (length gens)) (total (get_or B j [])) (map (λ ps. vector_of S (λ m. m) (get_or ps j [])) (map items differences)) j
        (let a = length_map (λ ps. vector_of S (λ m. m) (get_or ps j [])) (map items differences) in let b = all_counted S n ds P stands gens (map items differences) given in omega arith) l (height_read B j l)
        (λ q h. all_forms S n ds P stands j l gens (map items differences) given q (let a = length_map (λ ps. vector_of S (λ m. m) (get_or ps j [])) (map items differences) in omega arith)))

    pub over_homogeneous : AreHomogeneousUpTo (graph_space S.field ds (length gens) P.monomials) degree_limit (vectors_of S (λ m. m) vs)
    over_homogeneous = from_places (IsHomogeneousUpTo G degree_limit) (vector_of S (λ m. m)) [] vs (λ j l.
        let inside : j < length B = let c = over.count in omega arith in
        let low = total_below S.field n θ B stands.monomials (get_or B j []) (in_get [] B j inside) in
        let few = stands.few in
        (total (get_or B j []), omega arith, over_degree j inside))

-- what the space of the graph has
length_copies : {A : Type 0} (c : ℕ) (xs : List A) → length (copies c xs) ≡ c * length xs
length_copies zero xs = omega arith
length_copies (suc c) xs = length-append xs (copies c xs) ∙ (let r = length_copies c xs in omega arith)

module _ {E : Type 0} (k : FieldOn E) (ds : List ℕ) (c : ℕ) (B : List (List ℕ)) (T : SpaceOver E) (is : T ≡ graph_space k ds c B) where
  pub graph_shifts : length T.shifts ≡ suc c * length B
  graph_shifts = ap (λ (X : SpaceOver E). length X.shifts) is ∙ length_copies (suc c) (map total B) ∙ ap (λ (l : ℕ). suc c * l) (length_map total B)

  pub graph_weights : T.weights ≡ ds
  graph_weights = ap (λ (X : SpaceOver E). X.weights) is

  pub graph_exponents : (first : ℕ) (ws : List ℕ) → T.order ≡ elimination_order first ws → length ws ≡ length T.weights
  graph_exponents first ws order =
      let same : elimination_order first ws ≡ elimination_order (c * length B) ds = sym order ∙ ap (λ (X : SpaceOver E). X.order) is in
      let test : (length ws == length ds) ≡ true = sym (ap (λ (o : PlaceOrder). o.fits 0 (length ws)) same) ∙ (let e : (length ws == length ws) ≡ true = grind arith in e) in
      let equal : length ws ≡ length ds = grind arith in
      equal ∙ sym (ap length graph_weights)
