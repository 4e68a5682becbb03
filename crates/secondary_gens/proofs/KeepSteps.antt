-- The candidates of one degree, one after another: which are kept.
use Rattle.std.proofs.Common.{◌≡◌, ◌≢◌, ℕ, ◌+◌, ◌<◌, ◌≤◌, List, [], ◌∷◌, ◌++◌, length, map, get_or, take, refl, sym, ap, subst, ◌∙◌, arith, append_assoc}
use Rattle.std.specs.Prelude.{All}
use Rattle.std.proofs.lemmas.List.{take_more, take_all, map-append, append-nil}
use Rattle.std.proofs.lemmas.List.Elements.{All-nil, All-push, All-head, All-tail}
use Rattle.alg_core.specs.Keys.{key}
use Rattle.alg_core.specs.SpaceOrder.{key_order}
use Rattle.alg_core.specs.Spaces.{SpaceOver, Fits, IsTerm, entries}
use Rattle.alg_core.specs.Vectors.{Vect, Entry, vec}
use Rattle.alg_core.specs.declared.term.Term.{Term}
use Rattle.alg_core.proofs.VectorLaws.{vec_nothing}
use Rattle.secondary_gens.proofs.MonomialDegrees.{of_exponents}
use Rattle.poly_module.specs.Combinations.{Over}
use Rattle.poly_module.specs.Echelons.{Spans}
use Rattle.poly_module.specs.Forms.{IsForm, OfDegree}
use Rattle.poly_module.specs.GreatestExponents.{total, greatest}
use Rattle.poly_module.specs.SpaceVectors.{vector_of, vectors_of, IsPoly}
use Rattle.poly_module.specs.Walks.{Keeps}
use Rattle.poly_module.proofs.CombinationLaws.{over_zero}
use Rattle.poly_module.proofs.ExponentBounds.{fits_keys}
use Rattle.secondary_gens.specs.Choices.{IsLongerBy}
use Rattle.secondary_gens.specs.Columns.{IsColumns}
use Rattle.secondary_gens.specs.Eliminations.{IsEchelonOf, IsRowOver, lines_of}
use Rattle.secondary_gens.specs.Forms.{degree_of, degrees_of, unit_weights, IsSmallForm, IsPositiveForm}
use Rattle.secondary_gens.specs.declared.columns.Column.{Column}
use Rattle.secondary_gens.specs.declared.elimination.Row.{Row}
use Rattle.secondary_gens.proofs.FormDegrees.{are_forms, positive_small, all_positive, same_lengths}
use Rattle.secondary_gens.proofs.OverInDegree.{InDegree, spanned_over, over_spanned, one_more}
use Rattle.secondary_gens.proofs.RowSteps.{copied_poly}
use Rattle.secondary_gens.proofs.TrackedSteps.{in_degree}
use Rattle.secondary_gens.proofs.WalkSteps.{keeps_skip, keeps_keep}

module _ {E : Type 0} (S : SpaceOver E) where
  abbrev Terms : Type 0
  Terms = List (Term E (List ℕ))

  abbrev x : Terms → Vect S.field
  x v = vector_of S (λ m. m) v

  abbrev xs : List Terms → List (Vect S.field)
  xs vs = vectors_of S (λ m. m) vs

  -- each term of a form has its degree
  entry_degree : (d : ℕ) (e : Entry E) → IsTerm S e → OfDegree S.field (unit_weights S) d (key e.0) → total e.0.1 ≡ d
  unfolding key
  entry_degree d e t o = sym (of_exponents (length S.weights) e.0.1 t.place.wide).degree ∙ o.1

  entries_degree : (d : ℕ) (es : List (Entry E)) → Fits S es → All (λ e. OfDegree S.field (unit_weights S) d (key e.0)) es → greatest (map (λ e. total e.0.1) es) ≤ d
  entries_degree d [] f h = omega arith
  entries_degree d (e ∷ es) f h =
      let a = entry_degree d e f.0 (All-head (λ e. OfDegree S.field (unit_weights S) d (key e.0)) e es h) in
      let b = entries_degree d es f.2 (All-tail (λ e. OfDegree S.field (unit_weights S) d (key e.0)) e es h) in
      omega arith

  -- a form that is not 0 has its degree
  pub form_degree : (d : ℕ) (q : Terms) → IsPoly S (λ m. m) q → IsForm S.field (unit_weights S) d (x q) → q ≢ [] → degree_of q ≡ d
  form_degree d [] p h n = absurd (n refl)
  form_degree d (t ∷ q) p h n =
      let keys = fits_keys S (OfDegree S.field (unit_weights S) d) (entries (λ m. m) (t ∷ q)) p.fits h in
      let a = entry_degree d _ p.fits.0 (All-head (λ e. OfDegree S.field (unit_weights S) d (key e.0)) _ _ keys) in
      let b = entries_degree d (entries (λ m. m) q) p.fits.2 (All-tail (λ e. OfDegree S.field (unit_weights S) d (key e.0)) _ _ keys) in
      omega arith

  pub form_small : (d : ℕ) (q : Terms) → d ≤ 12288 → IsPoly S (λ m. m) q → IsForm S.field (unit_weights S) d (x q) → q ≢ [] → IsSmallForm S q
  form_small d q small p h n = let same = form_degree d q p h n in record { polynomial = p; small = omega arith; form = subst (λ e. IsForm S.field (unit_weights S) e (x q)) (sym same) h }

  -- after the first candidates
  pub record Keeping (theta start candidates : List Terms) (d i : ℕ) (rows : List (Row E)) (kept : List Terms) : Type 0 where
    pub small : All (IsSmallForm S) kept
    pub over : All (IsRowOver S) rows
    pub in_degree : InDegree S.field (key_order S) (xs theta) (degrees_of theta) d (xs kept) (degrees_of kept) (lines_of S rows)
    pub keeps : Keeps (Over S.field (xs theta)) (xs start) (map x (take i candidates)) (xs kept)
    pub longer : IsLongerBy d start kept

  pub keeping_none : (theta start candidates : List Terms) (d : ℕ) (columns : List (Column E)) (rows : List (Row E)) → All (IsSmallForm S) start → All (IsRowOver S) rows
      → IsColumns S (xs theta) (degrees_of theta) (xs start) (degrees_of start) d columns → IsEchelonOf S.field (map (λ c. x c.value) columns) (lines_of S rows) → Keeping theta start candidates d 0 rows start
  keeping_none theta start candidates d columns rows small over are e = record {
    small = small;
    over = over;
    in_degree = in_degree S columns (xs theta) (xs start) (degrees_of theta) (degrees_of start) d (same_lengths S theta) are (lines_of S rows) e;
    keeps = refl;
    longer = record { more = []; is = sym (append-nil start); each = All-nil (λ p. (p ≢ []) × (degree_of p ≡ d)) };
  }

  module _ (theta start candidates : List Terms) (d i : ℕ) (rows : List (Row E)) (kept : List Terms) (positive : All (IsPositiveForm S) theta) (was : Keeping theta start candidates d i rows kept)
      (p : Terms) (inside : i < length candidates) (read : p ≡ get_or candidates i p) where
    more : map x (take (i + 1) candidates) ≡ map x (take i candidates) ++ x p ∷ []
    more = ap (map x) (take_more candidates i p inside ∙ ap (λ y. take i candidates ++ y ∷ []) (sym read)) ∙ map-append x (take i candidates) (p ∷ [])

    -- a candidate in the span is skipped
    pub keeping_same : (new : List (Row E)) → new ≡ rows → ((vs : List (Vect S.field)) → IsEchelonOf S.field vs (lines_of S rows) → Spans S.field vs (x p)) → Keeping theta start candidates d (i + 1) new kept
    keeping_same new same spanned = subst (λ rs. Keeping theta start candidates d (i + 1) rs kept) (sym same) (record {
      small = was.small;
      over = was.over;
      in_degree = was.in_degree;
      keeps = subst (λ l. Keeps (Over S.field (xs theta)) (xs start) l (xs kept)) (sym more) (keeps_skip (Over S.field (xs theta)) (xs start) (map x (take i candidates)) (xs kept) (x p) was.keeps
          (spanned_over S.field (key_order S) (xs theta) (degrees_of theta) (unit_weights S) (are_forms S theta (positive_small S theta positive)) d (xs kept) (degrees_of kept) (are_forms S kept was.small) (lines_of S rows) was.in_degree (x p)
          (spanned _ was.in_degree.echelon)));
      longer = was.longer;
    })

    -- any other is kept
    module _ (small : d ≤ 12288) (poly : IsPoly S (λ m. m) p) (form : IsForm S.field (unit_weights S) d (x p)) (new : List (Row E)) (over : All (IsRowOver S) new)
        (fresh : (vs : List (Vect S.field)) → IsEchelonOf S.field vs (lines_of S rows) → ¬ Spans S.field vs (x p))
        (echelon : (vs : List (Vect S.field)) → IsEchelonOf S.field vs (lines_of S rows) → IsEchelonOf S.field (vs ++ x p ∷ []) (lines_of S new))
        (q : Terms) (copied : entries (λ m. m) q ≡ entries (λ m. m) p) (news : List Terms) (push : news ≡ kept ++ q ∷ []) where
      not_over : ¬ Over S.field (xs theta) (xs kept) (x p)
      not_over a = fresh _ was.in_degree.echelon (over_spanned S.field (key_order S) (xs theta) (degrees_of theta) (unit_weights S) (are_forms S theta (positive_small S theta positive)) d (xs kept) (degrees_of kept)
          (are_forms S kept was.small) (lines_of S rows) was.in_degree (x p) form a)

      same : x q ≡ x p
      same = ap (vec S.field) copied

      not_zero : q ≢ []
      not_zero z = not_over (subst (Over S.field (xs theta) (xs kept)) (sym (ap (λ v. vec S.field (entries (λ m. m) v)) z ∙ vec_nothing S.field) ∙ same) (over_zero S.field (xs theta) (xs kept)))

      own : IsPoly S (λ m. m) q
      own = copied_poly S p q copied poly

      own_form : IsForm S.field (unit_weights S) d (x q)
      own_form = subst (IsForm S.field (unit_weights S) d) (sym same) form

      degree : degree_of q ≡ d
      degree = form_degree d q own own_form not_zero

      vectors : xs news ≡ xs kept ++ x p ∷ []
      vectors = ap xs push ∙ map-append x kept (q ∷ []) ∙ ap (λ v. xs kept ++ v ∷ []) same

      degrees : degrees_of news ≡ degrees_of kept ++ d ∷ []
      degrees = ap degrees_of push ∙ map-append degree_of kept (q ∷ []) ∙ ap (λ e. degrees_of kept ++ e ∷ []) degree

      pub keeping_more : Keeping theta start candidates d (i + 1) new news
      keeping_more = record {
        small = subst (All (IsSmallForm S)) (sym push) (All-push (IsSmallForm S) kept q was.small (form_small d q small own own_form not_zero));
        over = over;
        in_degree = subst (λ T. InDegree S.field (key_order S) (xs theta) (degrees_of theta) d T (degrees_of news) (lines_of S new)) (sym vectors)
            (subst (λ es. InDegree S.field (key_order S) (xs theta) (degrees_of theta) d (xs kept ++ x p ∷ []) es (lines_of S new)) (sym degrees)
            (one_more S.field (key_order S) (xs theta) (degrees_of theta) (unit_weights S) (are_forms S theta (positive_small S theta positive)) d (xs kept) (degrees_of kept) (are_forms S kept was.small) (lines_of S rows) was.in_degree (x p)
            (lines_of S new) (all_positive S theta positive) (echelon _ was.in_degree.echelon)));
        keeps = subst (Keeps (Over S.field (xs theta)) (xs start) (map x (take (i + 1) candidates))) (sym vectors) (subst (λ l. Keeps (Over S.field (xs theta)) (xs start) l (xs kept ++ x p ∷ [])) (sym more)
            (keeps_keep (Over S.field (xs theta)) (xs start) (map x (take i candidates)) (xs kept) (x p) was.keeps not_over));
        longer = record {
          more = was.longer.more ++ q ∷ [];
          is = push ∙ ap (λ l. l ++ q ∷ []) was.longer.is ∙ append_assoc start was.longer.more (q ∷ []);
          each = All-push (λ p. (p ≢ []) × (degree_of p ≡ d)) was.longer.more q was.longer.each (not_zero, degree);
        };
      }

  pub keeping_all : (theta start candidates : List Terms) (d i : ℕ) (rows : List (Row E)) (kept : List Terms) → length candidates ≤ i → Keeping theta start candidates d i rows kept
      → Keeps (Over S.field (xs theta)) (xs start) (xs candidates) (xs kept)
  keeping_all theta start candidates d i rows kept past h = subst (λ l. Keeps (Over S.field (xs theta)) (xs start) (map x l) (xs kept)) (take_all i candidates past) h.keeps
