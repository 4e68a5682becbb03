-- The terms of a polynomial at the positions of a part, and the vector of these.
use Rattle.std.proofs.Common.{◌≡◌, ◌∙◌, ◌+◌, ◌<◌, ◌≤◌, ℕ, zero, suc, List, [], ◌∷◌, length, map, drop, get_or, sym, ap, ap₂, subst, arith}
use Rattle.std.specs.Prelude.{All, true, ◌==◌}
use Rattle.alg_core.specs.EliminationOrder.{elimination_order}
use Rattle.alg_core.specs.Fields.{FieldOn, Has, scalar}
use Rattle.alg_core.specs.Keys.{TermPlace, key}
use Rattle.alg_core.specs.ModuleLaws as modules
use Rattle.alg_core.specs.MonomialParts.{variable_part}
use Rattle.alg_core.specs.Monomials.{mono}
use Rattle.alg_core.specs.Rings.{Linear}
use Rattle.alg_core.specs.Spaces.{SpaceOver, IsPlace, entries}
use Rattle.alg_core.specs.Vectors.{Entry, Vect, vectors, vec, plus, scale, zero_vector}
use Rattle.alg_core.specs.declared.term.Term.{Term}
use Rattle.alg_core.proofs.VectorLaws.{vec_nothing, vec_cons}
use Rattle.poly_module.specs.Polynomials.{single_vector}
use Rattle.poly_module.specs.SpaceVectors.{ArePlaced, IsVectorOf, vector_of}
use Rattle.poly_module.proofs.EntryLists.{given_at}
use Rattle.poly_module.proofs.ExponentBounds.{vec_scaled}
use Rattle.primary_module.specs.Positions.{IsPart, place_of, at_positions}
use Rattle.primary_module.proofs.Places.{place_in}
use Rattle.primary_module.proofs.Translations.{at_linear, at_single}
use Rattle.syzygy_kernel.specs.GraphVectors.{HasPlaces, raised}
use Rattle.syzygy_kernel.proofs.GraphBlocks.{raise_linear, raise_single}
use Rattle.syzygy_kernel.proofs.ListedParts.{listed_marks}

module _ {E : Type 0} (k : FieldOn E) (L : Vect k → Vect k) (linear : Linear (vectors k) (vectors k) L) (g : TermPlace → TermPlace) where
  linear_entry : (e : Entry E) → L (single_vector k (key e.0)) ≡ single_vector k (key (g e.0)) → L (vec k (e ∷ [])) ≡ vec k ((g e.0, e.1) ∷ [])
  unfolding scale
  linear_entry e h = ap L (vec_scaled k e) ∙ linear.act (scalar k e.1) _ ∙ ap (scale k e.1) h ∙ sym (vec_scaled k (g e.0, e.1))

  -- a linear map that takes single keys to single keys
  pub linear_entries : (es : List (Entry E)) → All (λ e. L (single_vector k (key e.0)) ≡ single_vector k (key (g e.0))) es
      → L (vec k es) ≡ vec k (map (λ (e : Entry E). (g e.0, e.1)) es)
  unfolding plus zero_vector
  linear_entries [] h = ap L (vec_nothing k) ∙ modules.linear_zero (vectors k) (vectors k) L linear ∙ sym (vec_nothing k)
  linear_entries (e ∷ es) h = ap L (vec_cons k e es) ∙ linear.add _ _
      ∙ ap₂ (plus k) (linear_entry e (h 0 e (omega arith))) (linear_entries es (λ i d w. h (suc i) d (omega arith))) ∙ sym (vec_cons k (g e.0, e.1) _)

-- the place in a part that begins at a position
abbrev pub placed : ℕ → List (List ℕ) → ℕ → TermPlace → TermPlace
placed n B start p = (start + place_of B (variable_part n (mono p.1)), drop n p.1)

abbrev pub placed_entry : {E : Type 0} → ℕ → List (List ℕ) → ℕ → Entry E → Entry E
placed_entry n B start e = (placed n B start e.0, e.1)

length_dropped : (n r : ℕ) (a : List ℕ) → length a ≡ n + r → length (drop n a) ≡ r
length_dropped zero r a h = omega arith
length_dropped (suc n) r [] h = absurd (omega arith)
length_dropped (suc n) r (x ∷ a) h = length_dropped n r a (omega arith)

module _ {E : Type 0} (k : FieldOn E) (n : ℕ) (B : List (List ℕ)) (start : ℕ) where
  placed_single : (p : TermPlace) → p.0 ≡ 0 → raised k start (at_positions k n B (single_vector k (key p))) ≡ single_vector k (key (placed n B start p))
  unfolding key
  placed_single p h = ap (raised k start) (at_single k n B (key p)) ∙ raise_single k start _
      ∙ ap₂ (λ (q : ℕ) m. single_vector k (q, m)) (omega arith) (listed_marks n p.1)

  module _ (r : ℕ) (p : List (Term E (List ℕ))) (given : HasPlaces k n r B p) where
    pub placed_vector : raised k start (at_positions k n B (vec k (entries (λ m. m) p))) ≡ vec k (map (placed_entry n B start) (entries (λ m. m) p))
    placed_vector = linear_entries k (λ x. raised k start (at_positions k n B x))
        (modules.linear_after (vectors k) (vectors k) (vectors k) (at_positions k n B) (raised k start) (at_linear k n B) (raise_linear k start))
        (placed n B start) (entries (λ m. m) p) (λ i d w. placed_single _ (given.position i d w))

    -- of one term
    pub term_wide : (i : ℕ) (t : Term E (List ℕ)) (S : SpaceOver E) → i < length p → t ≡ get_or p i t → n ≤ length t.at.mono
    term_wide i t S l e = let w = given_at S (λ (m : List ℕ). m) (λ x. length x.0.1 ≡ n + r) p i t l e given.wide in omega arith

    pub term_place : (i : ℕ) (t : Term E (List ℕ)) (S : SpaceOver E) → i < length p → t ≡ get_or p i t → place_of B (variable_part n (mono t.at.mono)) < length B
    term_place i t S l e = place_in B _ (given_at S (λ (m : List ℕ). m) (λ x. IsPart B (variable_part n (mono x.0.1))) p i t l e given.parts)

module _ {E : Type 0} (T : SpaceOver E) (first : ℕ) (ws : List ℕ) (order : T.order ≡ elimination_order first ws) (weights : length ws ≡ length T.weights)
    (n : ℕ) (B : List (List ℕ)) (start : ℕ) (within : start + length B ≤ length T.shifts) (p made : List (Term E (List ℕ)))
    (given : HasPlaces T.field n (length T.weights) B p) (is : entries (λ m. m) made ≡ map (placed_entry n B start) (entries (λ m. m) p)) where
  placed_place : (q : TermPlace) → length q.1 ≡ n + length T.weights → IsPart B (variable_part n (mono q.1)) → IsPlace T (placed n B start q)
  placed_place q wide part =
      let l = place_in B _ part in
      let long = length_dropped n (length T.weights) q.1 wide in
      record {
        fits = ap (λ o. o.fits (start + place_of B (variable_part n (mono q.1))) (length (drop n q.1))) order ∙ (let e : (length (drop n q.1) == length ws) ≡ true = grind arith in e);
        wide = long;
        low = omega arith;
      }

  pub placed_terms : ArePlaced T (λ (m : List ℕ). m) made
  placed_terms = subst (All (λ e. Has T.field e.1 × IsPlace T e.0)) (sym is)
      (go (entries (λ m. m) p) given.values given.wide given.parts)
    where
      go : (es : List (Entry E)) → All (λ e. Has T.field e.1) es → All (λ e. length e.0.1 ≡ n + length T.weights) es → All (λ e. IsPart B (variable_part n (mono e.0.1))) es
          → All (λ e. Has T.field e.1 × IsPlace T e.0) (map (placed_entry n B start) es)
      go [] v w a i d l = absurd (omega arith)
      go (e ∷ es) v w a zero d l = (v 0 e (omega arith), placed_place e.0 (w 0 e (omega arith)) (a 0 e (omega arith)))
      go (e ∷ es) v w a (suc i) d l = go es (λ j x h. v (suc j) x (omega arith)) (λ j x h. w (suc j) x (omega arith)) (λ j x h. a (suc j) x (omega arith)) i d (omega arith)

  pub placed_given : (v : List (Term E (List ℕ))) → IsVectorOf T (λ (m : List ℕ). m) (vector_of T (λ m. m) made) v
      → IsVectorOf T (λ (m : List ℕ). m) (raised T.field start (at_positions T.field n B (vector_of T (λ m. m) p))) v
  placed_given v h = subst (λ u. IsVectorOf T (λ (m : List ℕ). m) u v)
      (ap (vec T.field) is ∙ sym (placed_vector T.field n B start (length T.weights) p given)) h
