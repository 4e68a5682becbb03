-- The images of the variables and marks, one more.
use Rattle.std.proofs.Common.{◌≡◌, ◌∙◌, ◌+◌, ◌<◌, ◌≤◌, ℕ, zero, suc, List, [], ◌∷◌, ◌++◌, length, take, get_or, sym, ap, ap₂, subst, append_assoc, arith}
use Rattle.std.specs.Prelude.{All}
use Rattle.std.proofs.lemmas.List.{map-append, append-nil, take_all}
use Rattle.std.proofs.lemmas.List.Elements.{All-push, All-nil}
use Rattle.alg_core.specs.Fields.{FieldOn}
use Rattle.alg_core.specs.Vectors.{Vect, vec}
use Rattle.alg_core.specs.declared.term.Term.{Term}
use Rattle.alg_core.specs.Spaces.{SpaceOver, entries, Fits}
use Rattle.poly_module.specs.Substitutions.{variable_vector}
use Rattle.poly_module.specs.Variables.{variables, variables_from}
use Rattle.poly_module.specs.SpaceVectors.{IsPoly, IsPolyOf, ArePolys, vector_of, vectors_of}
use Rattle.poly_module.proofs.GreatestValues.{take_map}

variables_from_more : {E : Type 0} (k : FieldOn E) (i n : ℕ) → variables_from k i (suc n) ≡ variables_from k i n ++ variable_vector k (i + n) ∷ []
unfolding variables_from
variables_from_more k i zero = ap (λ j. variable_vector k j ∷ []) (omega arith)
variables_from_more k i (suc n) = ap (λ l. variable_vector k i ∷ l) (variables_from_more k (suc i) n ∙ ap (λ j. variables_from k (suc i) n ++ variable_vector k j ∷ []) (omega arith))

variables_more : {E : Type 0} (k : FieldOn E) (n : ℕ) → variables k (n + 1) ≡ variables k n ++ variable_vector k n ∷ []
unfolding variables
variables_more k n = ap (variables_from k 0) (omega arith) ∙ variables_from_more k 0 n ∙ ap (λ j. variables_from k 0 n ++ variable_vector k j ∷ []) (omega arith)

module _ {E : Type 0} (S : SpaceOver E) where
  abbrev Terms : Type 0
  Terms = List (Term E (List ℕ))

  -- polynomials of these vectors
  pub record AreImages (ps : List Terms) (us : List (Vect S.field)) : Type 0 where
    pub polys : ArePolys S (λ m. m) ps
    pub are : vectors_of S (λ m. m) ps ≡ us

  push : (ps more : List Terms) (p : Terms) (us : List (Vect S.field)) (u : Vect S.field) → more ≡ ps ++ p ∷ [] → IsPoly S (λ m. m) p → vector_of S (λ m. m) p ≡ u
      → AreImages ps us → AreImages more (us ++ u ∷ [])
  push ps more p us u e poly is h = record {
    polys = subst (ArePolys S (λ m. m)) (sym e) (All-push (IsPoly S (λ m. m)) ps p h.polys poly);
    are = ap (vectors_of S (λ m. m)) e ∙ map-append (vector_of S (λ m. m)) ps (p ∷ []) ∙ ap₂ (λ a b. a ++ b ∷ []) h.are is;
  }

  pub image_variable : (ps more : List Terms) (p : Terms) (i : ℕ) → more ≡ ps ++ p ∷ [] → IsPolyOf S (λ m. m) (variable_vector S.field i) p → AreImages ps (variables S.field i) → AreImages more (variables S.field (i + 1))
  image_variable ps more p i e h before = subst (AreImages more) (sym (variables_more S.field i)) (push ps more p _ _ e (record { fits = h.fits; position = h.position }) h.is before)

  pub image_copy : (ps more : List Terms) (p x : Terms) (us : List (Vect S.field)) (θ : List Terms) (i : ℕ) → more ≡ ps ++ p ∷ [] → entries (λ m. m) p ≡ entries (λ m. m) x → i < length θ → x ≡ get_or θ i x → ArePolys S (λ m. m) θ
      → AreImages ps (us ++ vectors_of S (λ m. m) (take i θ)) → AreImages more (us ++ vectors_of S (λ m. m) (take (i + 1) θ))
  image_copy ps more p x us θ i e same below read all before =
      let h = subst (IsPoly S (λ m. m)) (sym read) (all i x below) in
      subst (AreImages more) (append_assoc us (vectors_of S (λ m. m) (take i θ)) _ ∙ ap (λ l. us ++ l) (sym (take_map (vector_of S (λ m. m)) θ i x below read)))
      (push ps more p _ _ e (record { fits = subst (Fits S) (sym same) h.fits; position = subst (All (λ t. t.0.0 ≡ 0)) (sym same) h.position }) (ap (vec S.field) same) before)

  pub no_images : (ps : List Terms) → ps ≡ [] → AreImages ps (variables S.field 0)
  unfolding variables variables_from
  no_images ps e = record { polys = subst (ArePolys S (λ m. m)) (sym e) (All-nil (IsPoly S (λ m. m))); are = ap (vectors_of S (λ m. m)) e }

  -- of the members of a list, none and all
  pub first_copies : (ps : List Terms) (n m : ℕ) (θ : List Terms) → m ≡ n → AreImages ps (variables S.field m) → AreImages ps (variables S.field n ++ vectors_of S (λ m. m) (take 0 θ))
  first_copies ps n m θ e h = subst (AreImages ps) (ap (variables S.field) e ∙ sym (append-nil (variables S.field n))) h

  pub all_copies : (ps : List Terms) (us : List (Vect S.field)) (θ : List Terms) (i : ℕ) → length θ ≤ i → AreImages ps (us ++ vectors_of S (λ m. m) (take i θ)) → AreImages ps (us ++ vectors_of S (λ m. m) θ)
  all_copies ps us θ i past h = subst (λ l. AreImages ps (us ++ vectors_of S (λ m. m) l)) (take_all i θ past) h
