-- The pairs of a list that have no first part, and their second parts.
use Rattle.std.proofs.Common.{◌≡◌, ◌∙◌, ◌+◌, ◌<◌, ◌≤◌, ℕ, suc, Bool, false, List, [], ◌∷◌, ◌++◌, map, length, take, get_or, inl, inr, sym, ap, ap₂, subst, refl, arith}
use Rattle.std.specs.Prelude.{All, IsTrue, ◌⊎◌}
use Rattle.std.proofs.lemmas.Bool.Decides.{nat_tests}
use Rattle.std.proofs.lemmas.List.{map-append, take_all}
use Rattle.std.proofs.lemmas.List.Elements.{All-push, All-nil}
use Rattle.alg_core.specs.Fields.{FieldOn, Has}
use Rattle.alg_core.specs.Keys.{key}
use Rattle.alg_core.specs.Lists.{In, in_left, in_right, map_in}
use Rattle.alg_core.specs.Monomials.{mono}
use Rattle.alg_core.specs.declared.term.Term.{Term}
use Rattle.alg_core.specs.Spaces.{SpaceOver, entry, entries, IsPlace, IsTerm}
use Rattle.alg_core.specs.Vectors.{Entry, Vect, vec, plus, scale}
use Rattle.alg_core.proofs.Members.{in_cases}
use Rattle.alg_core.proofs.VectorLaws.{vec_nothing, vec_cons}
use Rattle.poly_module.specs.Parts.{IsPolynomial}
use Rattle.poly_module.specs.Polynomials.{single_vector}
use Rattle.poly_module.specs.Products.{plus_product, zero_product, scale_product}
use Rattle.poly_module.specs.SpaceVectors.{vector_of, vectors_of, IsVector, IsVectorOf, IsPoly, ArePolys, ArePlaced, HasPolynomials}
use Rattle.poly_module.specs.Substitutions.{position_vector}
use Rattle.poly_module.proofs.ConstantSteps.{polynomial_place}
use Rattle.poly_module.proofs.EntryCoefficients.{term_at_index}
use Rattle.poly_module.proofs.ExponentBounds.{vec_supp, vec_scaled, fits_keys}
use Rattle.poly_module.proofs.GreatestValues.{take_map}
use Rattle.module_groebner.specs.Eliminations.{IsEliminated}
use Rattle.module_groebner.proofs.Families.{all_in, in_all}
use Rattle.groebner_hom.specs.Colons.{lifted, AreSecondParts, colon_space}
use Rattle.groebner_hom.proofs.ColonModules.{lift_single}
use Rattle.groebner_hom.proofs.PolynomialLists.{all_map}

pub not_true : (b : Bool) → b ≡ false → IsTrue b → ⊥
not_true b e h = grind (arith, nat_tests)

-- an entry at position 0
abbrev pub lowered : {E : Type 0} → Entry E → Entry E
lowered e = ((0, e.0.1), e.1)

-- all terms
pub lower_all : {E : Type 0} (ts made : List (Term E (List ℕ))) (i : ℕ) → length ts ≤ i → entries (λ m. m) made ≡ map lowered (entries (λ m. m) (take i ts)) → entries (λ m. m) made ≡ map lowered (entries (λ m. m) ts)
lower_all ts made i past h = h ∙ ap (λ l. map lowered (entries (λ m. m) l)) (take_all i ts past)

module _ {E : Type 0} (k : FieldOn E) where
  lift_entry : (e : Entry E) → e.0.0 ≡ 1 → lifted k (vec k (lowered e ∷ [])) ≡ vec k (e ∷ [])
  unfolding key
  lift_entry e one = ap (lifted k) (vec_scaled k (lowered e)) ∙ scale_product k e.1 (single_vector k (0, mono e.0.1)) (position_vector k)
      ∙ ap (scale k e.1) (lift_single k (0, mono e.0.1) ∙ ap (λ q. single_vector k (q, mono e.0.1)) (sym one)) ∙ sym (vec_scaled k e)

  -- entries at position 1, lowered and lifted
  pub lift_entries : (es : List (Entry E)) → All (λ e. e.0.0 ≡ 1) es → lifted k (vec k (map lowered es)) ≡ vec k es
  lift_entries [] h = ap (lifted k) (vec_nothing k) ∙ zero_product k (position_vector k) ∙ sym (vec_nothing k)
  lift_entries (e ∷ es) h = ap (lifted k) (vec_cons k (lowered e) (map lowered es)) ∙ plus_product k _ _ (position_vector k)
      ∙ ap₂ (plus k) (lift_entry e (h 0 e (omega arith))) (lift_entries es (λ i d w. h (suc i) d (omega arith))) ∙ sym (vec_cons k e es)

  pub second_yes : (vs hs : List (Vect k)) (v h : Vect k) → lifted k h ≡ v → IsEliminated k 1 v → AreSecondParts k vs hs → AreSecondParts k (vs ++ v ∷ []) (hs ++ h ∷ [])
  second_yes vs hs v h is second a w = (forth, back)
    where
      both : map (lifted k) (hs ++ h ∷ []) ≡ map (lifted k) hs ++ lifted k h ∷ []
      both = map-append (lifted k) hs (h ∷ [])

      forth : In w (map (lifted k) (hs ++ h ∷ [])) → In w (vs ++ v ∷ []) × IsEliminated k 1 w
      forth i = go (in_cases w (map (lifted k) hs) (lifted k h ∷ []) (subst (In w) both i))
        where
          go : In w (map (lifted k) hs) ⊎ In w (lifted k h ∷ []) → In w (vs ++ v ∷ []) × IsEliminated k 1 w
          go (inl j) = let b = (a w).0 j in (in_left w vs (v ∷ []) b.0, b.1)
          go (inr (inl e)) = let q = sym is ∙ e in (in_right w vs (v ∷ []) (inl q), subst (IsEliminated k 1) q second)
          go (inr (inr n)) = absurd n

      back : In w (vs ++ v ∷ []) × IsEliminated k 1 w → In w (map (lifted k) (hs ++ h ∷ []))
      back b = subst (In w) (sym both) (go (in_cases w vs (v ∷ []) b.0))
        where
          go : In w vs ⊎ In w (v ∷ []) → In w (map (lifted k) hs ++ lifted k h ∷ [])
          go (inl j) = in_left w (map (lifted k) hs) (lifted k h ∷ []) ((a w).1 (j, b.1))
          go (inr (inl e)) = in_right w (map (lifted k) hs) (lifted k h ∷ []) (inl (is ∙ e))
          go (inr (inr n)) = absurd n

  pub second_no : (vs hs : List (Vect k)) (v : Vect k) → ¬ IsEliminated k 1 v → AreSecondParts k vs hs → AreSecondParts k (vs ++ v ∷ []) hs
  second_no vs hs v first a w = (λ i. let b = (a w).0 i in (in_left w vs (v ∷ []) b.0, b.1), λ b. go b.1 (in_cases w vs (v ∷ []) b.0))
    where
      go : IsEliminated k 1 w → In w vs ⊎ In w (v ∷ []) → In w (map (lifted k) hs)
      go s (inl j) = (a w).1 (j, s)
      go s (inr (inl e)) = absurd (first (subst (IsEliminated k 1) (sym e) s))
      go s (inr (inr n)) = absurd n

module _ {E : Type 0} (S : SpaceOver E) where
  abbrev Terms : Type 0
  Terms = List (Term E (List ℕ))

  at_one : (v : Terms) → All (λ t. t.at.pos ≡ 1) v → All (λ e. e.0.0 ≡ 1) (entries (λ m. m) v)
  at_one = all_map (λ (t : Term E (List ℕ)). t.at.pos ≡ 1) (λ (e : Entry E). e.0.0 ≡ 1) (entry (λ m. m)) (λ t h. h)

  module _ (polynomials : HasPolynomials S) (d : ℕ) (v made : Terms) (fits : IsVector (colon_space S d) (λ m. m) v) (lower : entries (λ m. m) made ≡ map lowered (entries (λ m. m) v)) where
    pub lowered_placed : ArePlaced S (λ m. m) made
    lowered_placed = subst (All (λ e. Has S.field e.1 × IsPlace S e.0)) (sym lower)
        (all_map (IsTerm (colon_space S d)) (λ e. Has S.field e.1 × IsPlace S e.0) lowered (λ e t. (t.has, polynomial_place S polynomials e.0.1 t.place.wide)) (entries (λ m. m) v)
        (λ i e w. term_at_index (colon_space S d) (entries (λ m. m) v) i e w fits))

    lowered_polynomial : IsPolynomial S.field (vector_of S (λ m. m) made)
    unfolding key
    lowered_polynomial = vec_supp S.field (λ t. t.0 ≡ 0) (entries (λ m. m) made) (subst (All (λ e. e.0.0 ≡ 0)) (sym lower)
        (all_map (IsTerm (colon_space S d)) (λ e. e.0.0 ≡ 0) lowered (λ e t. refl) (entries (λ m. m) v) (λ i e w. term_at_index (colon_space S d) (entries (λ m. m) v) i e w fits)))

    pub second_polynomial : (h : Terms) → IsVectorOf S (λ m. m) (vector_of S (λ m. m) made) h → IsPoly S (λ m. m) h
    second_polynomial h is = record { fits = is.fits; position = is.position lowered_polynomial }

    pub second_lifted : (h : Terms) → All (λ t. t.at.pos ≡ 1) v → IsVectorOf S (λ m. m) (vector_of S (λ m. m) made) h → lifted S.field (vector_of S (λ m. m) h) ≡ vector_of S (λ m. m) v
    second_lifted h second is = ap (lifted S.field) (is.is ∙ ap (vec S.field) lower) ∙ lift_entries S.field (entries (λ m. m) v) (at_one v second)

  -- a pair has no first part where its terms are at position 1
  pub eliminated_at_one : (v : Terms) → All (λ t. t.at.pos ≡ 1) v → IsEliminated S.field 1 (vector_of S (λ m. m) v)
  unfolding key
  eliminated_at_one v h = vec_supp S.field (λ t. 1 ≤ t.0) (entries (λ m. m) v) (λ i e w. let q = at_one v h i e w in omega arith)

  pub at_one_eliminated : (d : ℕ) (v : Terms) → IsVector (colon_space S d) (λ m. m) v → IsEliminated S.field 1 (vector_of S (λ m. m) v) → All (λ t. t.at.pos ≡ 1) v
  unfolding key
  at_one_eliminated d v fits h = in_all (λ (t : Term E (List ℕ)). t.at.pos ≡ 1) v (λ t i.
      all_in (λ (e : Entry E). e.0.0 ≡ 1) (entries (λ m. m) v) (λ j e w.
      let high = fits_keys (colon_space S d) (λ s. 1 ≤ s.0) (entries (λ m. m) v) fits h j e w in
      let low = (term_at_index (colon_space S d) (entries (λ m. m) v) j e w fits).place.low in
      omega arith) (entry (λ m. m) t) (map_in (entry (λ m. m)) t v i))

  -- what the loop keeps
  pub record AreParts (vs hs : List Terms) : Type 0 where
    pub polys : ArePolys S (λ m. m) hs
    pub second : AreSecondParts S.field (vectors_of S (λ m. m) vs) (vectors_of S (λ m. m) hs)

  pub no_parts : (vs hs : List Terms) → hs ≡ [] → AreParts (take 0 vs) hs
  no_parts vs hs e = record {
    polys = subst (ArePolys S (λ m. m)) (sym e) (All-nil (IsPoly S (λ m. m)));
    second = subst (λ l. AreSecondParts S.field [] (vectors_of S (λ m. m) l)) (sym e) (λ w. (λ i. absurd i, λ b. absurd b.0));
  }

  module _ (vs hs : List Terms) (v : Terms) (i : ℕ) (below : i < length vs) (read : v ≡ get_or vs i v) (before : AreParts (take i vs) hs) where
    pub part_yes : (new : List Terms) (h : Terms) → new ≡ hs ++ h ∷ [] → All (λ t. t.at.pos ≡ 1) v → IsPoly S (λ m. m) h → lifted S.field (vector_of S (λ m. m) h) ≡ vector_of S (λ m. m) v → AreParts (take (i + 1) vs) new
    part_yes new h push one poly is = record {
      polys = subst (ArePolys S (λ m. m)) (sym push) (All-push (IsPoly S (λ m. m)) hs h before.polys poly);
      second = subst (λ l. AreSecondParts S.field l (vectors_of S (λ m. m) new)) (sym (take_map (vector_of S (λ m. m)) vs i v below read))
          (subst (λ l. AreSecondParts S.field (vectors_of S (λ m. m) (take i vs) ++ vector_of S (λ m. m) v ∷ []) l) (sym (ap (vectors_of S (λ m. m)) push ∙ map-append (vector_of S (λ m. m)) hs (h ∷ [])))
          (second_yes S.field _ _ _ _ is (eliminated_at_one v one) before.second));
    }

    pub part_no : (d : ℕ) → IsVector (colon_space S d) (λ m. m) v → ¬ All (λ t. t.at.pos ≡ 1) v → AreParts (take (i + 1) vs) hs
    part_no d fits first = record {
      polys = before.polys;
      second = subst (λ l. AreSecondParts S.field l (vectors_of S (λ m. m) hs)) (sym (take_map (vector_of S (λ m. m)) vs i v below read))
          (second_no S.field _ _ _ (λ e. first (at_one_eliminated d v fits e)) before.second);
    }

  pub all_parts : (vs hs : List Terms) (i : ℕ) → length vs ≤ i → AreParts (take i vs) hs → AreParts vs hs
  all_parts vs hs i past h = subst (λ l. AreParts l hs) (take_all i vs past) h
