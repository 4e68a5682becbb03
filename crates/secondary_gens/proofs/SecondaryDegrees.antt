-- Secondary invariants are invariant forms other than 0, and their degrees do not fall.
use Rattle.std.proofs.Common.{◌≡◌, ◌⊎◌, inl, inr, ℕ, zero, suc, ◌<◌, ◌≤◌, List, [], ◌∷◌, ◌++◌, map, refl, sym, subst, ◌∙◌, arith, append_assoc, append-nil}
use Rattle.std.specs.Prelude.{All}
use Rattle.std.proofs.lemmas.List.Elements.{All-nil, All-cons, All-append}
use Rattle.alg_core.specs.Fields.{FieldOn}
use Rattle.alg_core.specs.Lists.{In}
use Rattle.alg_core.specs.Spaces.{SpaceOver}
use Rattle.alg_core.specs.SpaceOrder.{key_order}
use Rattle.alg_core.specs.SpaceGrading.{AllPositive}
use Rattle.alg_core.specs.Vectors.{Vect, zero_vector}
use Rattle.alg_core.proofs.Members.{in_cases}
use Rattle.poly_module.specs.Combinations.{Over}
use Rattle.poly_module.specs.Forms.{IsForm, AreForms}
use Rattle.poly_module.specs.Walks.{Keeps}
use Rattle.poly_module.proofs.CombinationLaws.{over_zero}
use Rattle.lin_algebra.specs.declared.matrix.Matrix.{Matrix}
use Rattle.matrix_group.specs.Actions.{Invariant}
use Rattle.invariant_space.specs.InvariantSpaces.{IsEchelonBasis}
use Rattle.secondary_gens.specs.Forms.{unit_weights}
use Rattle.secondary_gens.specs.Secondaries.{IsIrredundant, AreBases, AreSecondaries}
use Rattle.secondary_gens.proofs.ChoiceSteps.{Rises, rises_more, all_weaken}
use Rattle.secondary_gens.proofs.FixedSteps.{keeps_in, bases_fixed}
use Rattle.secondary_gens.proofs.Irredundant.{irredundant, keeps_fresh, fresh_none}
use Rattle.secondary_gens.proofs.SecondaryLaws.{keeps_split}

-- what a walk adds is among the members along which it goes
keeps_added : {A : Type 0} (Skips : List A → A → Type 0) (kept xs all : List A) → Keeps Skips kept xs all → (more : List A) × (all ≡ kept ++ more) × ((x : A) → In x more → In x xs)
keeps_added Skips kept [] all h = ([], h ∙ sym (append-nil kept), λ x i. i)
keeps_added Skips kept (y ∷ xs) all (inl h) = let r = keeps_added Skips kept xs all h.1 in (r.0, r.1, λ x i. inr (r.2 x i))
keeps_added Skips kept (y ∷ xs) all (inr h) =
    let r = keeps_added Skips (kept ++ y ∷ []) xs all h.1 in
    (y ∷ r.0, r.1 ∙ append_assoc kept (y ∷ []) r.0, λ x i. elim i [ inl e ↦ inl e | inr j ↦ inr (r.2 x j) ])

module _ {E : Type 0} (k : FieldOn E) where
  forms_append : (ws es fs : List ℕ) (T U : List (Vect k)) → AreForms k ws es T → AreForms k ws fs U → AreForms k ws (es ++ fs) (T ++ U)
  forms_append ws [] fs [] U h g = g
  forms_append ws [] fs (t ∷ T) U h g = absurd h
  forms_append ws (e ∷ es) fs [] U h g = absurd h
  forms_append ws (e ∷ es) fs (t ∷ T) U h g = (h.0, forms_append ws es fs T U h.1 g)

  forms_same : (ws : List ℕ) (d : ℕ) (U : List (Vect k)) → ((v : Vect k) → In v U → IsForm k ws d v) → AreForms k ws (map (λ (v : Vect k). d) U) U
  forms_same ws d [] h = tt
  forms_same ws d (u ∷ U) h = (h u (inl refl), forms_same ws d U (λ v i. h v (inr i)))

  all_same : (d : ℕ) (U : List (Vect k)) → All (λ e. e ≡ d) (map (λ (v : Vect k). d) U)
  all_same d [] = All-nil (λ e. e ≡ d)
  all_same d (u ∷ U) = All-cons (λ e. e ≡ d) d (map (λ (v : Vect k). d) U) refl (all_same d U)

  -- what is kept is not 0
  kept_not_zero : (θ kept xs all : List (Vect k)) → Keeps (Over k θ) kept xs all → ((v : Vect k) → In v kept → ¬ (v ≡ zero_vector k)) → (v : Vect k) → In v all → ¬ (v ≡ zero_vector k)
  kept_not_zero θ kept [] all h n v i = n v (subst (In v) h i)
  kept_not_zero θ kept (x ∷ xs) all (inl h) n v i = kept_not_zero θ kept xs all h.1 n v i
  kept_not_zero θ kept (x ∷ xs) all (inr h) n v i = kept_not_zero θ (kept ++ x ∷ []) xs all h.1 (λ u j. one u (in_cases u kept (x ∷ []) j)) v i
    where
      one : (v : Vect k) → In v kept ⊎ In v (x ∷ []) → ¬ (v ≡ zero_vector k)
      one v (inl i) = n v i
      one v (inr (inl e)) = λ z. h.0 (subst (Over k θ kept) (sym (e ∙ z)) (over_zero k θ kept))
      one v (inr (inr i)) = absurd i

module _ {E : Type 0} (S : SpaceOver E) (gens : List (Matrix E)) (θ : List (Vect S.field)) where
  -- forms of degrees below d that do not fall
  pub record Risen (d : ℕ) (T : List (Vect S.field)) : Type 0 where
    pub degrees : List ℕ
    pub forms : AreForms S.field (unit_weights S) degrees T
    pub rise : Rises degrees
    pub low : All (λ e. e < d) degrees

  risen_none : (T : List (Vect S.field)) → T ≡ [] → Risen 0 T
  risen_none T e = subst (Risen 0) (sym e) (record { degrees = []; forms = tt; rise = λ i j a l. absurd (omega arith); low = All-nil (λ e. e < 0) })

  -- along the basis of degree d
  risen_more : (d : ℕ) (mid basis T : List (Vect S.field)) → IsEchelonBasis S gens d basis → Keeps (Over S.field θ) mid basis T → Risen d mid → Risen (suc d) T
  risen_more d mid basis T b h was =
      let m = keeps_added (Over S.field θ) mid basis T h in
      let own : AreForms S.field (unit_weights S) (map (λ (v : Vect S.field). d) m.0) m.0 = forms_same S.field (unit_weights S) d m.0 (λ v i. (b.reduced.inside v (m.2 v i)).form) in
      subst (Risen (suc d)) (sym m.1) (record {
        degrees = was.degrees ++ map (λ (v : Vect S.field). d) m.0;
        forms = forms_append S.field (unit_weights S) was.degrees (map (λ (v : Vect S.field). d) m.0) mid m.0 was.forms own;
        rise = rises_more d was.degrees (map (λ (v : Vect S.field). d) m.0) was.rise (all_weaken (λ e. e < d) (λ e. e ≤ d) was.degrees (λ e l. omega arith) was.low) (all_same S.field d m.0);
        low = All-append (λ e. e < suc d) was.degrees (map (λ (v : Vect S.field). d) m.0) (all_weaken (λ e. e < d) (λ e. e < suc d) was.degrees (λ e l. omega arith) was.low)
            (all_weaken (λ e. e ≡ d) (λ e. e < suc d) (map (λ (v : Vect S.field). d) m.0) (λ e q. omega arith) (all_same S.field d m.0));
      })

  risen : (d : ℕ) (fs T : List (Vect S.field)) → AreBases S gens d fs → Keeps (Over S.field θ) [] fs T → Risen d T
  risen zero fs T b h = risen_none T (subst (λ l. Keeps (Over S.field θ) [] l T) b h)
  risen (suc d) fs T b h =
      let s = keeps_split (Over S.field θ) [] b.0 b.1 T (subst (λ l. Keeps (Over S.field θ) [] l T) b.4 h) in
      risen_more d s.0 b.1 T b.3 s.2 (risen d b.0 s.0 b.2 s.1)

  module _ (T : List (Vect S.field)) (h : AreSecondaries S gens θ T) where
    pub secondaries_rise : Risen h.bound T
    secondaries_rise = risen h.bound h.forms T h.bases h.kept

    pub secondaries_fixed_not_zero : (v : Vect S.field) → In v T → Invariant S.field gens v × ¬ (v ≡ zero_vector S.field)
    secondaries_fixed_not_zero v i = (fixed (keeps_in (Over S.field θ) [] h.forms T h.kept v i), kept_not_zero S.field θ [] h.forms T h.kept (λ u j. absurd j) v i)
      where
        fixed : In v [] ⊎ In v h.forms → Invariant S.field gens v
        fixed (inl j) = absurd j
        fixed (inr j) = bases_fixed S gens h.bound h.forms h.bases v j

    pub secondaries_irredundant : (ds : List ℕ) → AreForms S.field (unit_weights S) ds θ → AllPositive ds → IsIrredundant S.field θ T
    secondaries_irredundant ds primaries positive =
        irredundant S.field θ (key_order S) (unit_weights S) ds primaries positive secondaries_rise.degrees T secondaries_rise.forms secondaries_rise.rise (keeps_fresh S.field θ [] h.forms T h.kept (fresh_none S.field θ))
