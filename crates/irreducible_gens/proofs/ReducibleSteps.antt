-- Whether a generator is a polynomial in the others, by the elimination of its degree.
use Rattle.std.proofs.Common.{◌≡◌, ◌⊎◌, inl, inr, ℕ, suc, ◌+◌, ◌<◌, ◌≤◌, List, ◌++◌, length, get_or, take, drop, sym, ap, ◌∙◌, subst, arith}
use Rattle.std.specs.Prelude.{All, remove}
use Rattle.std.proofs.lemmas.Bool.{cases_lt}
use Rattle.std.proofs.lemmas.List.{length-map, map-append}
use Rattle.std.proofs.lemmas.List.Elements.{All-append, All-take, All-drop}
use Rattle.alg_core.specs.Spaces.{SpaceOver, entries}
use Rattle.alg_core.specs.Vectors.{Vect}
use Rattle.poly_module.specs.Echelons.{Spans}
use Rattle.poly_module.specs.Forms.{IsForm}
use Rattle.secondary_gens.specs.Eliminations.{Line, IsEchelonOf}
use Rattle.secondary_gens.specs.Forms.{degree_of, unit_weights, IsPositiveForm}
use Rattle.secondary_gens.proofs.FormDegrees.{vector_at}
use Rattle.secondary_gens.proofs.OverSteps.{removed_vectors}
use Rattle.irreducible_gens.specs.Algebras.{IsPolynomialIn, IsAlgebraEchelon}
use Rattle.irreducible_gens.specs.Irreducibles.{IsReducible, AreNeeded, IsFirstReducible}
use Rattle.irreducible_gens.proofs.UnitSteps.{Terms, x, xs, all_entries, joined_positive, joined_vectors}

module _ {E : Type 0} (S : SpaceOver E) (theta irr : List (Terms S)) where
  -- none of the first places
  pub record NoneBefore (l : ℕ) : Type 0 where
    pub none : (m : ℕ) → m < l → ¬ IsReducible S.field (xs S theta) (xs S irr) m

  pub none_first : NoneBefore 0
  none_first = record { none = λ m q. absurd (omega arith) }

  pub none_more : (l : ℕ) → NoneBefore l → ¬ IsReducible S.field (xs S theta) (xs S irr) l → NoneBefore (l + 1)
  none_more l h n = record { none = λ m q. go m (cases_lt m l) q }
    where
      go : (m : ℕ) → (m < l) ⊎ (l ≤ m) → m < l + 1 → ¬ IsReducible S.field (xs S theta) (xs S irr) m
      go m (inl q) b = h.none m q
      go m (inr q) b = let same : l ≡ m = omega arith in subst (λ i. ¬ IsReducible S.field (xs S theta) (xs S irr) i) same n

  pub none_all : (l : ℕ) → length irr ≤ l → NoneBefore l → AreNeeded S.field (xs S theta) (xs S irr)
  none_all l past h m q = h.none m (let n = length-map irr (x S) in omega arith)

  pub first_found : (l i : ℕ) → i ≡ l + 1 → l < length irr → NoneBefore l → IsReducible S.field (xs S theta) (xs S irr) l → IsFirstReducible S.field (xs S theta) (xs S irr) i
  first_found l i counted inside h r = record {
    place = l;
    counted = counted;
    within = let n = length-map irr (x S) in omega arith;
    reducible = r;
    first = h.none;
  }

  -- copies of the other generators
  pub turn_copies : (l : ℕ) (others generators : List (Terms S)) → all_entries S others ≡ all_entries S (remove irr l) → all_entries S generators ≡ all_entries S (theta ++ others)
      → all_entries S generators ≡ all_entries S (theta ++ remove irr l)
  turn_copies l others generators first copies =
      copies ∙ map-append (entries (λ m. m)) theta others ∙ ap (λ v. all_entries S theta ++ v) first ∙ sym (map-append (entries (λ m. m)) theta (remove irr l))

  -- the generators of a turn
  module _ (l : ℕ) (generators : List (Terms S)) (copies : all_entries S generators ≡ all_entries S (theta ++ remove irr l)) where
    pub turn_positive : All (IsPositiveForm S) theta → All (IsPositiveForm S) irr → All (IsPositiveForm S) generators
    turn_positive h g = joined_positive S theta (remove irr l) generators copies h
        (All-append (IsPositiveForm S) (take l irr) (drop (suc l) irr) (All-take (IsPositiveForm S) l irr g) (All-drop (IsPositiveForm S) (suc l) irr g))

    turn_vectors : xs S generators ≡ xs S theta ++ remove (xs S irr) l
    turn_vectors = joined_vectors S theta (remove irr l) generators copies ∙ ap (λ v. xs S theta ++ v) (removed_vectors S irr l)

    module _ (p : Terms S) (inside : l < length irr) (read : p ≡ get_or irr l p) (d : ℕ) (ls : List (Line S.field)) (e : IsAlgebraEchelon S (xs S generators) d ls) where
      pub turn_reducible : ((vs : List (Vect S.field)) → IsEchelonOf S.field vs ls → Spans S.field vs (x S p)) → IsReducible S.field (xs S theta) (xs S irr) l
      turn_reducible spanned = subst (IsPolynomialIn S.field (xs S theta ++ remove (xs S irr) l)) (sym (vector_at S irr l p inside read))
          (subst (λ g. IsPolynomialIn S.field g (x S p)) turn_vectors (e.inside (x S p) (spanned e.values e.echelon)))

      pub turn_needed : All (IsPositiveForm S) irr → d ≡ degree_of p → ((vs : List (Vect S.field)) → IsEchelonOf S.field vs ls → ¬ Spans S.field vs (x S p)) → ¬ IsReducible S.field (xs S theta) (xs S irr) l
      turn_needed g same fresh a = fresh e.values e.echelon (e.whole (x S p) (subst (λ n. IsForm S.field (unit_weights S) n (x S p)) (sym same) own)
          (subst (λ g. IsPolynomialIn S.field g (x S p)) (sym turn_vectors) (subst (IsPolynomialIn S.field (xs S theta ++ remove (xs S irr) l)) (vector_at S irr l p inside read) a)))
        where
          own : IsForm S.field (unit_weights S) (degree_of p) (x S p)
          own = (subst (IsPositiveForm S) (sym read) (g l p inside)).form.form
