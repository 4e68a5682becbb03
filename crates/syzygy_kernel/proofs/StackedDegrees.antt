-- The degrees of the vectors that are made of the differences of the monomials.
use Rattle.std.proofs.Common.{◌≡◌, ◌∙◌, ◌+◌, ◌-◌, ◌*◌, ◌<◌, ◌≤◌, ℕ, zero, suc, List, [], ◌∷◌, ◌++◌, length, map, replicate, refl, sym, ap, subst, arith, suc-mul, zero-mul}
use Rattle.std.specs.Prelude.{All}
use native.Mathlib.Decide.{ℕ_discrete}
use Rattle.alg_core.specs.Fields.{FieldOn}
use Rattle.alg_core.specs.Monomials.{monomials}
use Rattle.alg_core.specs.SpaceGrading.{height, weight}
use Rattle.alg_core.specs.Vectors.{Vect}
use Rattle.poly_module.specs.Combinations.{combination_degree}
use Rattle.poly_module.specs.Degrees.{IsGraded}
use Rattle.poly_module.specs.Forms.{IsForm}
use Rattle.poly_module.specs.GreatestExponents.{total}
use Rattle.poly_module.specs.Marks.{IsMixed}
use Rattle.poly_module.specs.Modules.{listed}
use Rattle.poly_module.specs.Parts.{Supp, supp_single, supp_plus, supp_zero, linear_supp}
use Rattle.module_groebner.proofs.Families.{length_map}
use Rattle.secondary_gens.proofs.Lists.{height_front}
use Rattle.primary_module.specs.Positions.{at_positions, HasParts}
use Rattle.primary_module.proofs.Translations.{at_degree, at_keys}
use Rattle.syzygy_kernel.specs.Graphs.{copies}
use Rattle.syzygy_kernel.specs.GraphVectors.{raised, stacked, graph_vector}
use Rattle.syzygy_kernel.proofs.GraphBlocks.{raise_linear, raise_single}

height_after : (es fs : List ℕ) (q : ℕ) → length es ≤ q → height (es ++ fs) q ≡ height fs (q - length es)
unfolding height
height_after [] fs q h = ap (height fs) (omega arith)
height_after (e ∷ es) fs zero h = absurd (omega arith)
height_after (e ∷ es) fs (suc q) h = height_after es fs q (omega arith) ∙ ap (height fs) (omega arith)

-- each copy has the same degrees
pub height_copies : (es : List ℕ) (c q j : ℕ) → q < c → j < length es → height (copies c es) (q * length es + j) ≡ height es j
height_copies es zero q j l h = absurd (omega arith)
height_copies es (suc c) zero j l h = let z = zero-mul (length es) in let place : 0 * length es + j ≡ j = omega arith in
    ap (height (es ++ copies c es)) place ∙ height_front es (copies c es) j h
height_copies es (suc c) (suc q) j l h = let s = suc-mul q (length es) in let place : (suc q * length es + j) - length es ≡ q * length es + j = omega arith in
    height_after es (copies c es) (suc q * length es + j) (omega arith) ∙ ap (height (copies c es)) place ∙ height_copies es c q j (omega arith) h

one_weight : (ds : List ℕ) → weight ds 0 monomials.one.0 ≡ 0
unfolding weight monomials
one_weight ds = refl

module _ {E : Type 0} (k : FieldOn E) (n : ℕ) (ds : List ℕ) (B : List (List ℕ)) (wide : All (λ b. length b ≡ n) B) (c d : ℕ) where
  totals : length (map total B) ≡ length B
  totals = length_map total B

  pub place_height : (q j : ℕ) → q < c → j < length B → height (copies c (map total B)) (q * length B + j) ≡ height (map total B) j
  place_height q j l h =
      let e = totals in
      ap (λ (b : ℕ). height (copies c (map total B)) (q * b + j)) (sym e) ∙ height_copies (map total B) c q j l (omega arith)

  raised_degree : (q : ℕ) → q < c → (u : Vect k) → IsMixed k n (length ds) u → HasParts k n B u → IsForm k (replicate n 1 ++ ds) d u
      → IsGraded k (combination_degree ds (copies c (map total B))) d (raised k (q * length B) (at_positions k n B u))
  raised_degree q l u mixed parts form = linear_supp k (raised k (q * length B)) (raise_linear k (q * length B))
      (λ t. (t.0 < length B) × (combination_degree ds (map total B) t ≡ d)) (λ t. combination_degree ds (copies c (map total B)) t ≡ d)
      (λ t. ℕ_discrete (combination_degree ds (copies c (map total B)) t) d)
      (λ t h. subst (Supp k (λ t. combination_degree ds (copies c (map total B)) t ≡ d)) (sym (raise_single k (q * length B) t))
      (supp_single k (λ t. combination_degree ds (copies c (map total B)) t ≡ d) (t.0 + q * length B, t.1) (
      let place : t.0 + q * length B ≡ q * length B + t.0 = omega arith in
      ap (λ (x : ℕ). weight ds 0 t.1.0 + x) (ap (height (copies c (map total B))) place ∙ place_height q t.0 l h.0) ∙ h.1)))
      (at_positions k n B u) (λ t e. ((at_keys k n B (length ds) u mixed parts t e).1, at_degree k n B wide ds d u mixed parts form t e))

  pub stacked_degree : (i : ℕ) (us : List (Vect k)) → i + length us ≤ c
      → ((q : ℕ) → q < length us → IsMixed k n (length ds) (listed k us q) × HasParts k n B (listed k us q) × IsForm k (replicate n 1 ++ ds) d (listed k us q))
      → IsGraded k (combination_degree ds (copies c (map total B))) d (stacked k n B i us)
  stacked_degree i [] l h = supp_zero k (λ t. combination_degree ds (copies c (map total B)) t ≡ d)
  stacked_degree i (u ∷ us) l h =
      let x = h 0 (omega arith) in
      supp_plus k (λ t. combination_degree ds (copies c (map total B)) t ≡ d) _ _
      (raised_degree i (omega arith) u x.0 x.1 x.2) (stacked_degree (suc i) us (omega arith) (λ q a. h (suc q) (omega arith)))

  pub graph_vector_degree : (us : List (Vect k)) (j : ℕ) → length us < c → j < length B → height (map total B) j ≡ d
      → ((q : ℕ) → q < length us → IsMixed k n (length ds) (listed k us q) × HasParts k n B (listed k us q) × IsForm k (replicate n 1 ++ ds) d (listed k us q))
      → IsGraded k (combination_degree ds (copies c (map total B))) d (graph_vector k n B us j)
  graph_vector_degree us j l h e each = supp_plus k (λ t. combination_degree ds (copies c (map total B)) t ≡ d) _ _
      (stacked_degree 0 us (omega arith) each)
      (supp_single k (λ t. combination_degree ds (copies c (map total B)) t ≡ d) (length us * length B + j, monomials.one)
      (let z = one_weight ds in let p = place_height (length us) j l h in omega arith))
