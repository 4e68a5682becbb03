-- The sum of the vectors of the parts, one by one.
use Rattle.std.proofs.Common.{◌≡◌, ◌∙◌, ◌+◌, ◌*◌, ◌<◌, ◌≤◌, ℕ, zero, suc, List, [], ◌∷◌, ◌++◌, length, map, take, get_or, replicate, true, refl, sym, ap, ap₂, subst, arith, suc-mul}
use Rattle.std.specs.Prelude.{◌==◌}
use Rattle.std.proofs.lemmas.List.{take_all, take_more, map-append, length-take-le}
use Rattle.alg_core.specs.EliminationOrder.{elimination_order}
use Rattle.alg_core.specs.Fields.{FieldOn}
use Rattle.alg_core.specs.Monomials.{monomials}
use Rattle.alg_core.specs.Spaces.{SpaceOver, IsPlace}
use Rattle.alg_core.specs.Vectors.{Vect, plus, zero_vector}
use Rattle.alg_core.specs.declared.term.Term.{Term}
use Rattle.alg_core.proofs.VectorLaws.{plus_assoc, plus_comm, plus_zero, zero_plus}
use Rattle.poly_module.specs.Polynomials.{single_vector}
use Rattle.poly_module.proofs.ConstantSteps.{length_zeros}
use Rattle.poly_module.specs.SpaceVectors.{IsVectorOf, vector_of}
use Rattle.primary_module.specs.Positions.{at_positions}
use Rattle.module_groebner.proofs.Families.{length_map}
use Rattle.syzygy_kernel.specs.GraphVectors.{raised, stacked, graph_vector}
use Rattle.syzygy_kernel.proofs.StackedVectors.{times_le}

module _ {E : Type 0} (k : FieldOn E) (n : ℕ) (B : List (List ℕ)) where
  stacked_more : (i : ℕ) (us : List (Vect k)) (u : Vect k) → stacked k n B i (us ++ u ∷ []) ≡ plus k (stacked k n B i us) (raised k ((i + length us) * length B) (at_positions k n B u))
  stacked_more i [] u = plus_zero k _ ∙ sym (zero_plus k _) ∙ ap (λ (q : ℕ). plus k (zero_vector k) (raised k (q * length B) (at_positions k n B u))) (omega arith)
  stacked_more i (v ∷ us) u = ap (plus k _) (stacked_more (suc i) us u) ∙ sym (plus_assoc k _ _ _)
      ∙ ap (λ (q : ℕ). plus k (stacked k n B i (v ∷ us)) (raised k (q * length B) (at_positions k n B u))) (omega arith)

  -- the parts so far, and 1 at a position
  abbrev pub partial : ℕ → List (Vect k) → Vect k
  partial q us = plus k (stacked k n B 0 us) (single_vector k (q, monomials.one))

  partial_more : (q : ℕ) (us : List (Vect k)) (u : Vect k) → partial q (us ++ u ∷ []) ≡ plus k (partial q us) (raised k (length us * length B) (at_positions k n B u))
  partial_more q us u = ap (λ x. plus k x (single_vector k (q, monomials.one)))
      (stacked_more 0 us u ∙ ap (λ (j : ℕ). plus k (stacked k n B 0 us) (raised k (j * length B) (at_positions k n B u))) (omega arith))
      ∙ plus_assoc k _ _ _ ∙ ap (plus k (stacked k n B 0 us)) (plus_comm k _ _) ∙ sym (plus_assoc k _ _ _)

module _ {E : Type 0} (T : SpaceOver E) (n : ℕ) (B : List (List ℕ)) (q : ℕ) where
  pub no_parts : (v : List (Term E (List ℕ))) → IsVectorOf T (λ (m : List ℕ). m) (single_vector T.field (q, monomials.one)) v
      → IsVectorOf T (λ (m : List ℕ). m) (partial T.field n B q []) v
  no_parts v h = subst (λ u. IsVectorOf T (λ (m : List ℕ). m) u v) (sym (zero_plus T.field (single_vector T.field (q, monomials.one)))) h

module _ {E : Type 0} (T : SpaceOver E) (n : ℕ) (B : List (List ℕ)) {A : Type 0} (f : A → Vect T.field) (q : ℕ) where
  pub one_part : (xs : List A) (i start : ℕ) (x : A) (sum part new : List (Term E (List ℕ))) → i < length xs → x ≡ get_or xs i x → start ≡ i * length B
      → IsVectorOf T (λ (m : List ℕ). m) (partial T.field n B q (map f (take i xs))) sum
      → IsVectorOf T (λ (m : List ℕ). m) (raised T.field start (at_positions T.field n B (f x))) part
      → IsVectorOf T (λ (m : List ℕ). m) (plus T.field (vector_of T (λ m. m) sum) (vector_of T (λ m. m) part)) new
      → IsVectorOf T (λ (m : List ℕ). m) (partial T.field n B q (map f (take (i + 1) xs))) new
  one_part xs i start x sum part new l read begins before one h =
      let next : map f (take (i + 1) xs) ≡ map f (take i xs) ++ f x ∷ [] = ap (map f) (take_more xs i x l ∙ ap (λ y. take i xs ++ y ∷ []) (sym read)) ∙ map-append f (take i xs) (x ∷ []) in
      let many : length (map f (take i xs)) ≡ i = length_map f (take i xs) ∙ length-take-le i xs (omega arith) in
      let place : start ≡ length (map f (take i xs)) * length B = begins ∙ ap (λ (j : ℕ). j * length B) (sym many) in
      subst (λ u. IsVectorOf T (λ (m : List ℕ). m) u new)
      (ap₂ (plus T.field) before.is (one.is ∙ ap (λ (j : ℕ). raised T.field j (at_positions T.field n B (f x))) place)
      ∙ sym (partial_more T.field n B q (map f (take i xs)) (f x)) ∙ ap (partial T.field n B q) (sym next)) h

  pub all_parts : (xs : List A) (i j : ℕ) (v : List (Term E (List ℕ))) → length xs ≤ i → q ≡ length xs * length B + j
      → IsVectorOf T (λ (m : List ℕ). m) (partial T.field n B q (map f (take i xs))) v
      → IsVectorOf T (λ (m : List ℕ). m) (graph_vector T.field n B (map f xs) j) v
  all_parts xs i j v past e h = subst (λ u. IsVectorOf T (λ (m : List ℕ). m) u v)
      (ap (λ l. partial T.field n B q (map f l)) (take_all i xs past)
      ∙ ap (λ (p : ℕ). partial T.field n B p (map f xs)) (e ∙ ap (λ (c : ℕ). c * length B + j) (sym (length_map f xs)))) h

-- the polynomial that is read
pub read_polynomial : {P : Type 0} (ps qs : List (List P)) (place : ℕ) (p : List P) → qs ≡ ps → place < length ps → p ≡ get_or qs place p → p ≡ get_or ps place []
read_polynomial ps qs place p same l e = e ∙ ap (λ l. get_or l place p) same ∙ go ps place p l
  where
    go : {P : Type 0} (ps : List (List P)) (place : ℕ) (p : List P) → place < length ps → get_or ps place p ≡ get_or ps place []
    go [] place p l = absurd (omega arith)
    go (q ∷ ps) zero p l = refl
    go (q ∷ ps) (suc i) p l = go ps i p (omega arith)

-- the positions
pub part_room : (b c i start all : ℕ) → i < c → start ≡ i * b → all ≡ suc c * b → start + b ≤ all
part_room b c i start all l e s =
    let m = times_le b (suc i) (suc c) (omega arith) in
    let t = suc-mul i b in
    omega arith

pub next_start : (b i start : ℕ) → start ≡ i * b → start + b ≡ (i + 1) * b
next_start b i start e = let t = suc-mul i b in let s : suc i ≡ i + 1 = omega arith in let r = ap (λ (j : ℕ). j * b) s in omega (arith, t, r, e)

module _ {E : Type 0} (T : SpaceOver E) (first : ℕ) (ws : List ℕ) (order : T.order ≡ elimination_order first ws) (weights : length ws ≡ length T.weights) where
  pub unit_place : (q : ℕ) → q < length T.shifts → IsPlace T (q, replicate (length T.weights) 0)
  unit_place q low =
      let long = length_zeros (length T.weights) in
      record {
        fits = ap (λ o. o.fits q (length {A = ℕ} (replicate (length T.weights) 0))) order ∙ (let e : (length {A = ℕ} (replicate (length T.weights) 0) == length ws) ≡ true = grind arith in e);
        wide = long;
        low = low;
      }
