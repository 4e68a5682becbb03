-- The keys of a vector whose entries fit a space: its positions, its variables, and that its order is for them.
use Rattle.std.proofs.Common.{◌≡◌, ◌<◌, ◌≤◌, List, [], ◌∷◌, length, sym, ap, ◌∙◌, subst, arith}
use Rattle.alg_core.specs.Fields.{scalar}
use Rattle.alg_core.specs.Monomials.{mono, exponent_mono}
use Rattle.alg_core.specs.Keys.{Key, key}
use Rattle.alg_core.specs.Spaces.{SpaceOver, IsTerm, Fits}
use Rattle.alg_core.specs.Vectors.{Entry, vec, plus}
use Rattle.alg_core.proofs.VectorLaws.{vec_nothing, vec_cons, vec_single}
use Rattle.poly_module.specs.Polynomials.{single_vector}
use Rattle.poly_module.specs.Parts.{Supp, IsPolynomial, InVariables, supp_zero, supp_plus, supp_act, supp_single}
use Rattle.poly_module.specs.Variables.{exponent_past, length_mon}
use Rattle.poly_module.specs.ReducedLists.{FitsOrder}

module _ {E : Type 0} (S : SpaceOver E) where
  -- what holds of the keys of terms of the space holds of the keys of the vector
  pub vec_supp : (Q : Key → Type 0) → ((e : Entry E) → IsTerm S e → Q (key e.0)) → (es : List (Entry E)) → Fits S es → Supp S.field Q (vec S.field es)
  unfolding single_vector
  vec_supp Q each [] h = subst (Supp S.field Q) (sym (vec_nothing S.field)) (supp_zero S.field Q)
  vec_supp Q each (e ∷ es) h = subst (Supp S.field Q) (sym (vec_cons S.field e es ∙ ap (λ v. plus S.field v (vec S.field es)) (vec_single S.field e)))
      (supp_plus S.field Q _ _ (supp_act S.field Q (scalar S.field e.1) _ (supp_single S.field Q (key e.0) (each e h.0))) (vec_supp Q each es h.2))

  pub vec_in_variables : (es : List (Entry E)) → Fits S es → InVariables S.field (length S.weights) (vec S.field es)
  unfolding key
  vec_in_variables = vec_supp (λ t. length t.1.0 ≤ length S.weights) (λ e h. length_mon (length S.weights) (mono e.0.1) (λ i l. let wide = h.place.wide in exponent_mono e.0.1 i ∙ exponent_past e.0.1 i (omega arith)))

  pub vec_positions : (es : List (Entry E)) → Fits S es → Supp S.field (λ t. t.0 < length S.shifts) (vec S.field es)
  unfolding key
  vec_positions = vec_supp (λ t. t.0 < length S.shifts) (λ e h. h.place.low)

  -- in a space with one position alone it is a polynomial
  pub vec_polynomial : length S.shifts ≡ 1 → (es : List (Entry E)) → Fits S es → IsPolynomial S.field (vec S.field es)
  unfolding key
  vec_polynomial one = vec_supp (λ t. t.0 ≡ 0) (λ e h. let low = h.place.low in omega arith)

  pub vec_fits_order : (es : List (Entry E)) → Fits S es → Supp S.field (FitsOrder S) (vec S.field es)
  unfolding key
  vec_fits_order = vec_supp (FitsOrder S) (λ e h. ap (S.order.fits e.0.0) (sym h.place.wide) ∙ h.place.fits)
