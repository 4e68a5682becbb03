-- Products with the sum of some terms at position 0.
use Rattle.std.proofs.Common.{◌≡◌, ℕ, zero, suc, List, [], ◌∷◌, ◌++◌, length, get_or, take, drop, sym, ap, ap₂, subst, ◌∙◌, arith, take-append-drop}
use Rattle.std.specs.Prelude.{All}
use Rattle.std.proofs.lemmas.List.{map-append}
use Rattle.alg_core.specs.declared.term.Term.{Term}
use Rattle.alg_core.specs.Fields.{scalars, scalar}
use Rattle.alg_core.specs.FreeModules.{single}
use Rattle.alg_core.specs.Monomials.{mono}
use Rattle.alg_core.specs.Keys.{key, key_same}
use Rattle.alg_core.specs.Vectors.{Entry, vectors, vec, plus, scale, shift}
use Rattle.alg_core.specs.Spaces.{SpaceOver, entry, entries, IsTerm, Fits}
use Rattle.alg_core.proofs.VectorLaws.{vec_append, vec_nothing, vec_single}
use Rattle.poly_module.specs.Polynomials.{product, single_vector}
use Rattle.poly_module.specs.Products.{plus_product, zero_product, scale_product, shift_product}

-- what holds of all entries holds of those of a front and of a back
module _ {E M : Type 0} (exps : M → List ℕ) (P : Entry E → Type 0) where
  all_tail : (t : Term E M) (ts : List (Term E M)) → All P (entries exps (t ∷ ts)) → All P (entries exps ts)
  all_tail t ts h k d w = h (suc k) d (omega arith)

  all_cons : (t : Term E M) (ts : List (Term E M)) → P (entry exps t) → All P (entries exps ts) → All P (entries exps (t ∷ ts))
  all_cons t ts p h zero d w = p
  all_cons t ts p h (suc k) d w = h k d (omega arith)

  all_none : All P (entries {E = E} exps [])
  all_none k d w = absurd (omega arith)

  all_take : (n : ℕ) (ts : List (Term E M)) → All P (entries exps ts) → All P (entries exps (take n ts))
  all_take zero ts h = all_none
  all_take (suc n) [] h = all_none
  all_take (suc n) (t ∷ ts) h = all_cons t (take n ts) (h 0 (entry exps t) (omega arith)) (all_take n ts (all_tail t ts h))

  all_drop : (n : ℕ) (ts : List (Term E M)) → All P (entries exps ts) → All P (entries exps (drop n ts))
  all_drop zero ts h = h
  all_drop (suc n) [] h = h
  all_drop (suc n) (t ∷ ts) h = all_drop n ts (all_tail t ts h)

  pub all_front : (n : ℕ) (ts front : List (Term E M)) → front ≡ take n ts → All P (entries exps ts) → All P (entries exps front)
  all_front n ts front e h = subst (λ l. All P (entries exps l)) (sym e) (all_take n ts h)

  pub all_back : (n : ℕ) (ts back : List (Term E M)) → back ≡ drop n ts → All P (entries exps ts) → All P (entries exps back)
  all_back n ts back e h = subst (λ l. All P (entries exps l)) (sym e) (all_drop n ts h)

module _ {E M : Type 0} (S : SpaceOver E) (exps : M → List ℕ) where
  pub fits_terms : (ts : List (Term E M)) → Fits S (entries exps ts) → All (IsTerm S) (entries exps ts)
  fits_terms [] h = all_none exps (IsTerm S)
  fits_terms (t ∷ ts) h = all_cons exps (IsTerm S) t ts h.0 (fits_terms ts h.2)

  -- no term
  pub no_factor : (a v fs : List (Term E M)) → v ≡ [] → length fs ≡ 0 → vec S.field (entries exps v) ≡ product S.field (vec S.field (entries exps fs)) (vec S.field (entries exps a))
  no_factor a v [] none z = ap (λ l. vec S.field (entries exps l)) none ∙ vec_nothing S.field ∙ sym (ap (λ u. product S.field u (vec S.field (entries exps a))) (vec_nothing S.field) ∙ zero_product S.field _)
  no_factor a v (f ∷ fs) none z = absurd (omega arith)

  -- the vector of one term at position 0
  vec_factor : (f : Term E M) → (entry exps f).0.0 ≡ 0 → vec S.field (entries exps (f ∷ [])) ≡ scale S.field f.coef (single_vector S.field (0, mono (exps f.at.mono)))
  unfolding scale single_vector key
  vec_factor f z = vec_single S.field (entry exps f) ∙ ap (λ i. (vectors S.field).◌·◌ (scalar S.field f.coef) (single (scalars S.field) key_same (i, mono (exps f.at.mono)))) z

  -- one term
  pub one_factor : (a v fs : List (Term E M)) (f : Term E M) → length fs ≡ 1 → f ≡ get_or fs 0 f → (entry exps f).0.0 ≡ 0
      → vec S.field (entries exps v) ≡ scale S.field f.coef (shift S.field (mono (exps f.at.mono)) (vec S.field (entries exps a)))
      → vec S.field (entries exps v) ≡ product S.field (vec S.field (entries exps fs)) (vec S.field (entries exps a))
  one_factor a v [] f one read z e = absurd (omega arith)
  one_factor a v (g ∷ []) f one read z e =
      e ∙ ap (scale S.field f.coef) (shift_product S.field (mono (exps f.at.mono)) _) ∙ sym (scale_product S.field f.coef _ _) ∙ ap (λ u. product S.field u (vec S.field (entries exps a))) (sym (vec_factor f z))
      ∙ ap (λ h. product S.field (vec S.field (entries exps (h ∷ []))) (vec S.field (entries exps a))) read
  one_factor a v (g ∷ h ∷ fs) f one read z e = absurd (omega arith)

  -- halves
  pub factor_halves : (n : ℕ) (a fs front back sum left right : List (Term E M)) → front ≡ take n fs → back ≡ drop n fs
      → vec S.field (entries exps left) ≡ product S.field (vec S.field (entries exps front)) (vec S.field (entries exps a))
      → vec S.field (entries exps right) ≡ product S.field (vec S.field (entries exps back)) (vec S.field (entries exps a))
      → vec S.field (entries exps sum) ≡ plus S.field (vec S.field (entries exps left)) (vec S.field (entries exps right))
      → vec S.field (entries exps sum) ≡ product S.field (vec S.field (entries exps fs)) (vec S.field (entries exps a))
  factor_halves n a fs front back sum left right p q l r s =
      s ∙ ap₂ (plus S.field) l r ∙ sym (plus_product S.field _ _ _)
      ∙ ap (λ u. product S.field u (vec S.field (entries exps a))) (sym (vec_append S.field (entries exps front) (entries exps back)) ∙ ap (vec S.field) (sym (map-append (entry exps) front back) ∙ ap (entries exps) (ap₂ ◌++◌ p q ∙ take-append-drop n fs)))
