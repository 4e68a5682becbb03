-- The first term of a list that fits.
use Rattle.std.proofs.Common.{◌≡◌, ℕ, Some, List, [], ◌∷◌, refl, sym, subst, arith}
use Rattle.std.specs.Prelude.{IsNone, IfSome, ◌↔◌, slice_get, Option}
use Rattle.alg_core.specs.declared.term.Term.{Term}
use Rattle.alg_core.specs.Fields.{scalar, scalars, is_field}
use Rattle.alg_core.specs.Keys.{key, key_same}
use Rattle.alg_core.specs.CanonicalLists.{IsLead}
use Rattle.alg_core.specs.Vectors.{coef_at, vec, zero_vector}
use Rattle.alg_core.specs.Spaces.{SpaceOver, entry, entries, IsTerm, Fits}
use Rattle.alg_core.specs.SpaceOrder.{key_order}
use Rattle.alg_core.proofs.VectorLaws.{vec_nothing}
use Rattle.poly_module.proofs.EntryCoefficients.{entry_value}
use Rattle.alg_core.proofs.FittingLists.{lead_first, vec_not_zero}

module _ {E M : Type 0} (S : SpaceOver E) (exps : M → List ℕ) where
  pub lead_none : (a : List (Term E M)) (r : Option (Term E M)) → r ≡ slice_get a 0 → Fits S (entries exps a) → IsNone r ↔ (vec S.field (entries exps a) ≡ zero_vector S.field)
  lead_none [] r e h = (λ _. vec_nothing S.field, λ _. subst IsNone (sym e) refl)
  lead_none (x ∷ a) r e h = (λ n. let some : IsNone (slice_get {X = Term E M} (x ∷ a) 0) = subst IsNone e n in absurd cc, λ z. absurd (vec_not_zero S (entry exps x) (entries exps a) h z))

  pub lead_some : (a : List (Term E M)) (r : Option (Term E M)) → r ≡ slice_get a 0 → Fits S (entries exps a) → IfSome r (λ t. IsLead (scalars S.field) (is_field S.field) key_same (key_order S) (vec S.field (entries exps a)) (key (entry exps t).0))
  lead_some [] r e h = subst (λ q. IfSome q (λ t. IsLead (scalars S.field) (is_field S.field) key_same (key_order S) (vec S.field []) (key (entry exps t).0))) (sym e) tt
  lead_some (x ∷ a) r e h = subst (λ q. IfSome q (λ t. IsLead (scalars S.field) (is_field S.field) key_same (key_order S) (vec S.field (entries exps (x ∷ a))) (key (entry exps t).0))) (sym e) (lead_first S (entry exps x) (entries exps a) h)

  some_injective : (x t : Term E M) → Some t ≡ Some x → x ≡ t
  some_injective x t e = cc

  pub lead_value : (a : List (Term E M)) (t : Term E M) → Some t ≡ slice_get a 0 → Fits S (entries exps a) → coef_at S.field (vec S.field (entries exps a)) (key (entry exps t).0) ≡ scalar S.field t.coef
  lead_value [] t e h = absurd cc
  lead_value (x ∷ a) t e h = subst (λ (y : Term E M). coef_at S.field (vec S.field (entries exps (x ∷ a))) (key (entry exps y).0) ≡ scalar S.field y.coef) (some_injective x t e) (entry_value S (entries exps (x ∷ a)) 0 (entry exps x) (omega arith) h)

  pub lead_is_term : (a : List (Term E M)) (t : Term E M) → Some t ≡ slice_get a 0 → Fits S (entries exps a) → IsTerm S (entry exps t)
  lead_is_term [] t e h = absurd cc
  lead_is_term (x ∷ a) t e h = subst (λ (y : Term E M). IsTerm S (entry exps y)) (some_injective x t e) h.0

  -- a list that fits is empty exactly where its vector is 0
  pub vec_is_zero : (a : List (Term E M)) → Fits S (entries exps a) → (entries exps a ≡ [] → vec S.field (entries exps a) ≡ zero_vector S.field) × (vec S.field (entries exps a) ≡ zero_vector S.field → entries exps a ≡ [])
  vec_is_zero [] h = (λ e. vec_nothing S.field, λ z. refl)
  vec_is_zero (x ∷ a) h = (λ e. absurd cc, λ z. absurd (vec_not_zero S (entry exps x) (entries exps a) h z))
