-- The level of products below, for the primary invariants of a call.
use Rattle.std.proofs.Common.{◌≡◌, ℕ, zero, suc, ◌∷◌, ◌-◌, ◌<◌, ◌≤◌, List, [], length, get_or, refl, sym, subst, arith}
use Rattle.std.specs.Prelude.{All}
use Rattle.std.proofs.lemmas.List.{length-map}
use Rattle.alg_core.specs.Spaces.{SpaceOver}
use Rattle.alg_core.specs.declared.term.Term.{Term}
use Rattle.poly_module.specs.SpaceVectors.{vectors_of}
use Rattle.secondary_gens.specs.Columns.{AreLevels, IsLevel}
use Rattle.secondary_gens.specs.Forms.{degree_of, degrees_of, IsPositiveForm}
use Rattle.secondary_gens.specs.declared.columns.Column.{Column}
use Rattle.secondary_gens.proofs.FormDegrees.{degree_at, same_lengths, weight_read}
use Rattle.secondary_gens.proofs.ProductSteps.{Lower}

twice : {A : Type 0} (l : List (List A)) (i : ℕ) → get_or l i (get_or l i []) ≡ get_or l i []
twice [] i = refl
twice (x ∷ l) zero = refl
twice (x ∷ l) (suc i) = twice l i

module _ {E : Type 0} (S : SpaceOver E) (theta : List (List (Term E (List ℕ)))) (ws : List ℕ) (h : All (IsPositiveForm S) theta) (weights : ws ≡ degrees_of theta) (i r : ℕ) (inside : i < length theta) (read : r ≡ get_or ws i r) where
  weight : r ≡ get_or (degrees_of theta) i 0
  weight = weight_read ws (degrees_of theta) i r weights (let n = length-map theta degree_of in omega arith) read

  pub weight_positive : 1 ≤ r
  weight_positive = positive (subst (λ d. 0 < d) (degree_at S theta i (get_or theta i []) inside (sym (twice theta i))) (h i [] inside).positive)
    where
      positive : 0 < get_or (degrees_of theta) i 0 → 1 ≤ r
      positive p = let w = weight in omega arith

  pub lower_of : (levels : List (List (Column E))) (e : ℕ) (lower : List (Column E)) → e ≤ 12288 → e ≤ length levels → AreLevels S (vectors_of S (λ m. m) theta) (degrees_of theta) levels → r ≤ e
      → lower ≡ get_or levels (e - r) [] → Lower S (vectors_of S (λ m. m) theta) (degrees_of theta) e i r (e - r) lower
  lower_of levels e lower small count are low is = record {
    inside = let n = length-map theta degree_of in omega arith;
    same = sym (same_lengths S theta);
    degree = weight;
    positive = weight_positive;
    sum = omega arith;
    small = omega arith;
    level = subst (IsLevel S (vectors_of S (λ m. m) theta) (degrees_of theta) (e - r)) (sym is) (are (e - r) (let p = weight_positive in omega arith));
  }
