-- Copies of polynomials, and of those at given places: what holds of the terms holds of theirs.
use Rattle.std.proofs.Common.{◌≡◌, ◌∙◌, ℕ, zero, suc, ◌<◌, ◌≤◌, ◌-◌, List, [], ◌∷◌, map, length, get_or, inl, inr, refl, sym, ap, ap₂, subst, arith}
use Rattle.std.specs.Prelude.{All}
use Rattle.std.proofs.lemmas.List.Elements.{All-nil, All-cons, All-head, All-tail}
use Rattle.alg_core.specs.Lists.{In}
use Rattle.alg_core.specs.Spaces.{SpaceOver, Fits, entries}
use Rattle.alg_core.specs.Vectors.{Entry, Vect, vec, zero_vector}
use Rattle.alg_core.specs.declared.term.Term.{Term}
use Rattle.alg_core.proofs.VectorLaws.{vec_nothing}
use Rattle.poly_module.specs.Forms.{IsForm}
use Rattle.poly_module.specs.GreatestExponents.{total, greatest}
use Rattle.poly_module.specs.SpaceVectors.{IsPoly, ArePolys, vector_of, vectors_of}
use Rattle.secondary_gens.specs.Forms.{degree_of, unit_weights, IsSmallForm, IsPositiveForm}
use Rattle.secondary_gens.proofs.FormDegrees.{vector_at}
use Rattle.secondary_gens.proofs.KeepSteps.{form_degree}
use Rattle.irreducible_gens.specs.Irreducibles.{IsOfPositiveDegree, members}

module _ {E : Type 0} (S : SpaceOver E) where
  abbrev Terms : Type 0
  Terms = List (Term E (List ℕ))

  abbrev es : Terms → List (Entry E)
  es v = entries (λ m. m) v

  abbrev x : List Terms → List (Vect S.field)
  x vs = vectors_of S (λ m. m) vs

  -- with the same entries
  same_poly : (q p : Terms) → entries (λ m. m) q ≡ entries (λ m. m) p → IsPoly S (λ m. m) p → IsPoly S (λ m. m) q
  same_poly q p e h = record { fits = subst (Fits S) (sym e) h.fits; position = subst (All (λ e. e.0.0 ≡ 0)) (sym e) h.position }

  same_small : (q p : Terms) → entries (λ m. m) q ≡ entries (λ m. m) p → IsSmallForm S p → IsSmallForm S q
  same_small q p e h = record {
    polynomial = same_poly q p e h.polynomial;
    small = subst (λ (l : List (Entry E)). greatest (map (λ e. total e.0.1) l) ≤ 12288) (sym e) h.small;
    form = subst (λ (l : List (Entry E)). IsForm S.field (unit_weights S) (greatest (map (λ e. total e.0.1) l)) (vec S.field l)) (sym e) h.form;
  }

  pub copied_polys : (qs ps : List Terms) → map (entries (λ m. m)) qs ≡ map (entries (λ m. m)) ps → ArePolys S (λ m. m) ps → ArePolys S (λ m. m) qs
  copied_polys [] ps e h = All-nil (IsPoly S (λ m. m))
  copied_polys (q ∷ qs) [] e h = absurd cc
  copied_polys (q ∷ qs) (p ∷ ps) e h =
      let first : entries (λ m. m) q ≡ entries (λ m. m) p = cc in
      let rest : map (entries (λ m. m)) qs ≡ map (entries (λ m. m)) ps = cc in
      All-cons (IsPoly S (λ m. m)) q qs (same_poly q p first (All-head (IsPoly S (λ m. m)) p ps h)) (copied_polys qs ps rest (All-tail (IsPoly S (λ m. m)) p ps h))

  pub copied_vectors : (qs ps : List Terms) → map (entries (λ m. m)) qs ≡ map (entries (λ m. m)) ps → vectors_of S (λ m. m) qs ≡ vectors_of S (λ m. m) ps
  copied_vectors [] [] e = refl
  copied_vectors [] (p ∷ ps) e = absurd cc
  copied_vectors (q ∷ qs) [] e = absurd cc
  copied_vectors (q ∷ qs) (p ∷ ps) e =
      let first : entries (λ m. m) q ≡ entries (λ m. m) p = cc in
      let rest : map (entries (λ m. m)) qs ≡ map (entries (λ m. m)) ps = cc in
      ap₂ ◌∷◌ (ap (vec S.field) first) (copied_vectors qs ps rest)

  -- those at places
  module _ (T : List Terms) (small : All (IsSmallForm S) T) where
    at : ℕ → Terms
    at p = get_or T (p - 1) []

    get_all : (Q : Terms → Type 0) (ts : List Terms) → All Q ts → (i : ℕ) → i < length ts → Q (get_or ts i [])
    get_all Q [] h i l = absurd (omega arith)
    get_all Q (t ∷ ts) h zero l = All-head Q t ts h
    get_all Q (t ∷ ts) h (suc i) l = get_all Q ts (All-tail Q t ts h) i (omega arith)

    pub at_vectors : (qs : List Terms) (ps : List ℕ) → map (entries (λ m. m)) qs ≡ map (λ p. entries (λ m. m) (get_or T (p - 1) [])) ps → All (λ p. (0 < p) × (p ≤ length T)) ps
        → vectors_of S (λ m. m) qs ≡ members S.field (vectors_of S (λ m. m) T) ps
    at_vectors [] [] e h = refl
    at_vectors [] (p ∷ ps) e h = absurd cc
    at_vectors (q ∷ qs) [] e h = absurd cc
    at_vectors (q ∷ qs) (p ∷ ps) e h =
        let first : entries (λ m. m) q ≡ entries (λ m. m) (get_or T (p - 1) []) = cc in
        let rest : map (entries (λ m. m)) qs ≡ map (λ p. entries (λ m. m) (get_or T (p - 1) [])) ps = cc in
        let w = All-head (λ p. (0 < p) × (p ≤ length T)) p ps h in
        let low = w.0 in
        let high = w.1 in
        ap₂ ◌∷◌ (ap (vec S.field) first ∙ sym (vector_at S T (p - 1) (get_or T (p - 1) []) (omega arith) (read T (p - 1) (omega arith)))) (at_vectors qs ps rest (All-tail (λ p. (0 < p) × (p ≤ length T)) p ps h))
      where
        read : (ts : List Terms) (i : ℕ) → i < length ts → get_or ts i [] ≡ get_or ts i (get_or ts i [])
        read [] i l = absurd (omega arith)
        read (t ∷ ts) zero l = refl
        read (t ∷ ts) (suc i) l = read ts i (omega arith)

    pub at_small : (qs : List Terms) (ps : List ℕ) → map (entries (λ m. m)) qs ≡ map (λ p. entries (λ m. m) (get_or T (p - 1) [])) ps → All (λ p. (0 < p) × (p ≤ length T)) ps → All (IsSmallForm S) qs
    at_small [] ps e h = All-nil (IsSmallForm S)
    at_small (q ∷ qs) [] e h = absurd cc
    at_small (q ∷ qs) (p ∷ ps) e h =
        let first : entries (λ m. m) q ≡ entries (λ m. m) (get_or T (p - 1) []) = cc in
        let rest : map (entries (λ m. m)) qs ≡ map (λ p. entries (λ m. m) (get_or T (p - 1) [])) ps = cc in
        let w = All-head (λ p. (0 < p) × (p ≤ length T)) p ps h in
        let low = w.0 in
        let high = w.1 in
        All-cons (IsSmallForm S) q qs (same_small q (get_or T (p - 1) []) first (get_all (IsSmallForm S) T small (p - 1) (omega arith))) (at_small qs ps rest (All-tail (λ p. (0 < p) × (p ≤ length T)) p ps h))

  present : (v : Terms) → ¬ (vector_of S (λ m. m) v ≡ zero_vector S.field) → ¬ (v ≡ [])
  present v n e = n (ap (vector_of S (λ m. m)) e ∙ vec_nothing S.field)

  -- of positive degree
  pub positive_forms : (qs : List Terms) → All (IsSmallForm S) qs → ((v : Vect S.field) → In v (vectors_of S (λ m. m) qs) → IsOfPositiveDegree S.field (unit_weights S) v) → All (IsPositiveForm S) qs
  positive_forms [] h each = All-nil (IsPositiveForm S)
  positive_forms (q ∷ qs) h each =
      let f = each _ (inl refl) in
      let small = All-head (IsSmallForm S) q qs h in
      let is : degree_of q ≡ f.degree = form_degree S f.degree q small.polynomial f.form (present q f.not_zero) in
      All-cons (IsPositiveForm S) q qs (record { form = small; positive = subst (λ d. 0 < d) (sym is) f.positive }) (positive_forms qs (All-tail (IsSmallForm S) q qs h) (λ v i. each v (inr i)))
