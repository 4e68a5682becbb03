-- The walk along the secondary invariants, member by member: which places are kept.
use Rattle.std.proofs.Common.{◌≡◌, ◌⊎◌, inl, inr, ℕ, suc, ◌+◌, ◌-◌, ◌<◌, ◌≤◌, List, [], ◌∷◌, ◌++◌, length, map, get_or, sym, ap, ap₂, ◌∙◌, subst, arith, append_assoc}
use Rattle.std.specs.Prelude.{All}
use Rattle.std.proofs.lemmas.Bool.{cases_lt}
use Rattle.std.proofs.lemmas.List.{map-append, length-map, append-nil}
use Rattle.std.proofs.lemmas.List.Elements.{All-push}
use Rattle.alg_core.specs.SpaceGrading.{AllPositive, height}
use Rattle.alg_core.specs.SpaceOrder.{key_order}
use Rattle.alg_core.specs.Spaces.{SpaceOver, entries}
use Rattle.alg_core.specs.Vectors.{Vect, vec}
use Rattle.alg_core.proofs.MonomialCounts.{positive_ones}
use Rattle.poly_module.specs.Echelons.{Spans}
use Rattle.poly_module.specs.Forms.{IsForm, AreForms}
use Rattle.poly_module.specs.GreatestExponents.{total, greatest}
use Rattle.poly_module.specs.Modules.{listed}
use Rattle.poly_module.specs.Walks.{Keeps}
use Rattle.secondary_gens.specs.Columns.{AreLevels}
use Rattle.secondary_gens.specs.Eliminations.{IsEchelonOf, IsRowOver, lines_of}
use Rattle.secondary_gens.specs.Forms.{degree_of, degrees_of, unit_weights, IsSmallForm, IsPositiveForm}
use Rattle.secondary_gens.specs.declared.columns.Column.{Column}
use Rattle.secondary_gens.specs.declared.elimination.Row.{Row}
use Rattle.secondary_gens.proofs.CombinationSteps.{in_at}
use Rattle.secondary_gens.proofs.FormDegrees.{are_forms, positive_small, all_positive, vector_at}
use Rattle.secondary_gens.proofs.OverSteps.{copied_form, copied_vectors}
use Rattle.secondary_gens.proofs.WalkSteps.{keeps_skip, keeps_keep}
use Rattle.irreducible_gens.specs.Algebras.{IsPolynomialIn, IsAlgebraEchelon}
use Rattle.irreducible_gens.specs.Irreducibles.{numbers, member, members, AreIrreducibles, IsIrreducible}
use Rattle.irreducible_gens.proofs.Generators.{over_polynomial}
use Rattle.irreducible_gens.proofs.Chosen.{Skips, place_within, irreducible}
use Rattle.irreducible_gens.proofs.Kept.{numbers_push}
use Rattle.irreducible_gens.proofs.Minimal.{constant_over, longer_inside, longer_whole}
use Rattle.irreducible_gens.proofs.UnitSteps.{Terms, x, xs, all_entries, copied_positives}

module _ {E : Type 0} (S : SpaceOver E) (theta secs : List (Terms S)) where
  -- after the first members
  pub record Choosing (i d : ℕ) (generators : List (Terms S)) (rows : List (Row E)) (places : List ℕ) : Type 0 where
    pub positive : All (IsPositiveForm S) generators
    pub over : All (IsRowOver S) rows
    pub are : xs S generators ≡ xs S theta ++ members S.field (xs S secs) places
    pub echelon : IsAlgebraEchelon S (xs S generators) d (lines_of S rows)
    pub keeps : Keeps (Skips S.field (xs S theta) (xs S secs)) [] (numbers 1 i) places
    pub bounded : i ≤ length secs

  pub choosing_positive : (generators : List (Terms S)) → all_entries S generators ≡ all_entries S theta → All (IsPositiveForm S) theta → All (IsPositiveForm S) generators
  choosing_positive generators copies h = copied_positives S theta generators copies h

  pub choosing_none : (generators : List (Terms S)) (rows : List (Row E)) (places : List ℕ) → all_entries S generators ≡ all_entries S theta → All (IsPositiveForm S) theta → All (IsRowOver S) rows
      → IsAlgebraEchelon S (xs S generators) 0 (lines_of S rows) → places ≡ [] → Choosing 0 0 generators rows places
  choosing_none generators rows places copies h over e none = record {
    positive = choosing_positive generators copies h;
    over = over;
    are = copied_vectors S theta generators copies ∙ sym (append-nil (xs S theta)) ∙ ap (λ l. xs S theta ++ members S.field (xs S secs) l) (sym none);
    echelon = e;
    keeps = none;
    bounded = omega arith;
  }

  module _ (i d : ℕ) (generators : List (Terms S)) (rows : List (Row E)) (places : List ℕ) (was : Choosing i d generators rows places)
      (p : Terms S) (inside : i < length secs) (read : p ≡ get_or secs i p) (e : ℕ) (at : List (Row E)) (echelon : IsAlgebraEchelon S (xs S generators) e (lines_of S at)) where
    place : member S.field (xs S secs) (1 + i) ≡ x S p
    place = (let q : (1 + i) - 1 ≡ i = omega arith in ap (listed S.field (xs S secs)) q) ∙ vector_at S secs i p inside read

    numbers_more : numbers 1 (i + 1) ≡ numbers 1 i ++ (1 + i) ∷ []
    numbers_more = (let q : i + 1 ≡ suc i = omega arith in ap (numbers 1) q) ∙ numbers_push 1 i

    -- a member in the span is skipped
    pub choosing_skip : (new : List (Row E)) → new ≡ at → All (IsRowOver S) new → ((vs : List (Vect S.field)) → IsEchelonOf S.field vs (lines_of S at) → Spans S.field vs (x S p)) → Choosing (i + 1) e generators new places
    choosing_skip new same over spanned = record {
      positive = was.positive;
      over = over;
      are = was.are;
      echelon = subst (λ rs. IsAlgebraEchelon S (xs S generators) e (lines_of S rs)) (sym same) echelon;
      keeps = subst (λ l. Keeps (Skips S.field (xs S theta) (xs S secs)) [] l places) (sym numbers_more) (keeps_skip (Skips S.field (xs S theta) (xs S secs)) [] (numbers 1 i) places (1 + i) was.keeps
          (subst (λ l. IsPolynomialIn S.field l (member S.field (xs S secs) (1 + i))) was.are (subst (IsPolynomialIn S.field (xs S generators)) (sym place) (echelon.inside (x S p) (spanned echelon.values echelon.echelon)))));
      bounded = omega arith;
    }

    -- any other is kept
    module _ (same : e ≡ degree_of p) (small : All (IsSmallForm S) secs) (new : List (Row E)) (over : All (IsRowOver S) new)
        (fresh : (vs : List (Vect S.field)) → IsEchelonOf S.field vs (lines_of S at) → ¬ Spans S.field vs (x S p))
        (more : (vs : List (Vect S.field)) → IsEchelonOf S.field vs (lines_of S at) → IsEchelonOf S.field (vs ++ x S p ∷ []) (lines_of S new))
        (q : Terms S) (copied : entries (λ m. m) q ≡ entries (λ m. m) p) (longer : List (Terms S)) (push : longer ≡ generators ++ q ∷ []) (places' : List ℕ) (push' : places' ≡ places ++ (i + 1) ∷ []) where
      own : IsSmallForm S p
      own = subst (IsSmallForm S) (sym read) (small i p inside)

      form : IsForm S.field (unit_weights S) e (x S p)
      form = subst (λ n. IsForm S.field (unit_weights S) n (x S p)) (sym same) own.form

      not_in : ¬ IsPolynomialIn S.field (xs S generators) (x S p)
      not_in a = fresh echelon.values echelon.echelon (echelon.whole (x S p) form a)

      above : 0 < e
      above = go (cases_lt 0 e)
        where
          go : (0 < e) ⊎ (e ≤ 0) → 0 < e
          go (inl b) = b
          go (inr b) = absurd (not_in (over_polynomial S.field (xs S generators) (x S p) (constant_over S.field (unit_weights S) (positive_ones (length S.weights)) (xs S generators) (x S p)
              (let z : e ≡ 0 = omega arith in subst (λ n. IsForm S.field (unit_weights S) n (x S p)) z form))))

      equal_degree : degree_of q ≡ degree_of p
      equal_degree = ap (λ es. greatest (map (λ a. total a.0.1) es)) copied

      vectors : xs S longer ≡ xs S generators ++ x S p ∷ []
      vectors = ap (xs S) push ∙ map-append (x S) generators (q ∷ []) ∙ ap (λ v. xs S generators ++ v ∷ []) (ap (vec S.field) copied)

      forms : AreForms S.field (unit_weights S) (degrees_of generators) (xs S generators)
      forms = are_forms S generators (positive_small S generators was.positive)

      positives : AllPositive (degrees_of generators)
      positives = all_positive S generators was.positive

      next : (1 + i) ≡ i + 1
      next = omega arith

      pub choosing_keep : Choosing (i + 1) e longer new places'
      choosing_keep = record {
        positive = subst (All (IsPositiveForm S)) (sym push) (All-push (IsPositiveForm S) generators q was.positive (record { form = copied_form S p q copied own; positive = let a = equal_degree in let b = above in omega arith }));
        over = over;
        are = vectors ∙ ap₂ (λ l v. l ++ v ∷ []) was.are (sym place) ∙ append_assoc (xs S theta) (members S.field (xs S secs) places) _
            ∙ ap (λ l. xs S theta ++ l) (sym (map-append (member S.field (xs S secs)) places ((1 + i) ∷ [])) ∙ ap (λ n. members S.field (xs S secs) (places ++ n ∷ [])) next ∙ ap (members S.field (xs S secs)) (sym push'));
        echelon = subst (λ G. IsAlgebraEchelon S G e (lines_of S new)) (sym vectors) (record {
          values = echelon.values ++ x S p ∷ [];
          echelon = more echelon.values echelon.echelon;
          inside = longer_inside S.field (key_order S) (unit_weights S) (degrees_of generators) (xs S generators) forms positives e above (x S p) form echelon.values echelon.inside;
          whole = longer_whole S.field (key_order S) (unit_weights S) (degrees_of generators) (xs S generators) forms positives e above (x S p) form echelon.values echelon.whole;
        });
        keeps = subst (Keeps (Skips S.field (xs S theta) (xs S secs)) [] (numbers 1 (i + 1))) (ap (λ n. places ++ n ∷ []) next ∙ sym push') (subst (λ l. Keeps (Skips S.field (xs S theta) (xs S secs)) [] l (places ++ (1 + i) ∷ [])) (sym numbers_more)
            (keeps_keep (Skips S.field (xs S theta) (xs S secs)) [] (numbers 1 i) places (1 + i) was.keeps
            (λ a. not_in (subst (IsPolynomialIn S.field (xs S generators)) place (subst (λ l. IsPolynomialIn S.field l (member S.field (xs S secs) (1 + i))) (sym was.are) a)))));
        bounded = omega arith;
      }

  module _ (i d : ℕ) (generators : List (Terms S)) (rows : List (Row E)) (places : List ℕ) (past : length secs ≤ i) (h : Choosing i d generators rows places) where
    pub choosing_all : AreIrreducibles S.field (xs S theta) (xs S secs) places
    choosing_all = (let b = h.bounded in let n = length-map secs (x S) in let e : i ≡ length (xs S secs) = omega arith in subst (λ n. Keeps (Skips S.field (xs S theta) (xs S secs)) [] (numbers 1 n) places) e h.keeps)

    pub choosing_within : All (λ p. (0 < p) × (p ≤ length secs)) places
    choosing_within k d l = let w = place_within S.field (xs S theta) (xs S secs) places choosing_all (get_or places k d) (in_at places k d l) in let b = w.0 in let c = w.1 in let n = length-map secs (x S) in (omega arith, omega arith)

    pub choosing_irreducible : All (IsPositiveForm S) theta → All (IsSmallForm S) secs → ((i j : ℕ) → i ≤ j → j < length (degrees_of secs) → height (degrees_of secs) i ≤ height (degrees_of secs) j)
        → IsIrreducible S.field (xs S theta) (unit_weights S) (xs S secs) (members S.field (xs S secs) places)
    choosing_irreducible g small rise = irreducible S.field (xs S theta) (xs S secs) places choosing_all (key_order S) (unit_weights S) (degrees_of theta) (degrees_of secs) (positive_ones (length S.weights))
        (are_forms S theta (positive_small S theta g)) (all_positive S theta g) (are_forms S secs small) rise

-- no level of products
pub no_levels : {E A : Type 0} (S : SpaceOver E) (θ : List (Vect S.field)) (ds : List ℕ) (f : A → List (Column E)) (vs : List A) → vs ≡ [] → AreLevels S θ ds (map f vs)
no_levels S θ ds f [] e = λ n l. absurd (omega arith)
no_levels S θ ds f (v ∷ vs) e = absurd (let c : ⊥ = cc in c)

-- copies after nothing
pub copies_alone : {E : Type 0} (S : SpaceOver E) (new old theta : List (Terms S)) → all_entries S new ≡ all_entries S old ++ all_entries S theta → old ≡ [] → all_entries S new ≡ all_entries S theta
copies_alone S new old theta copies none = copies ∙ ap (λ l. all_entries S l ++ all_entries S theta) none
