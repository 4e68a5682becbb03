-- The coefficients of the vector of a list of entries: at each entry of a list that fits its value, at other places 0.
use Rattle.std.proofs.Common.{◌≡◌, ◌<◌, ℕ, zero, suc, List, [], ◌∷◌, length, get_or, refl, sym, ap, ap₂, subst, ◌∙◌, arith}
use Rattle.std.specs.declared.cmp.Ordering.TheVariants.{Equal, Greater}
use Rattle.std.proofs.lemmas.Cmp.{tied_itself}
use Rattle.alg_core.specs.RingLaws as rings
use Rattle.alg_core.specs.FormalSums.{indicator}
use Rattle.alg_core.specs.CanonicalLists.{indicator_no, indicator_yes}
use Rattle.alg_core.specs.Fields.{Scalar, scalar, scalars, scalar_not_zero}
use Rattle.alg_core.specs.Keys.{TermPlace, Key, key, key_same, key_injective}
use Rattle.alg_core.specs.Vectors.{Entry, coef_at, vec}
use Rattle.alg_core.specs.Spaces.{SpaceOver, IsPlace, IsAbove, IsTerm, Fits}
use Rattle.alg_core.proofs.VectorLaws.{coef_at_plus, coef_at_scale, coef_at_zero, vec_cons, vec_nothing}
use Rattle.poly_module.specs.Parts.{coef_at_single}
use Rattle.poly_module.proofs.ExponentBounds.{vec_scaled}

module _ {E : Type 0} (S : SpaceOver E) where
  abbrev zero_scalar : Scalar S.field
  zero_scalar = (scalars S.field).zero

  one_entry : (e : Entry E) (t : Key) → coef_at S.field (vec S.field (e ∷ [])) t ≡ (scalars S.field).◌*◌ (scalar S.field e.1) (indicator (scalars S.field) (key_same (key e.0) t))
  one_entry e t = ap (λ v. coef_at S.field v t) (vec_scaled S.field e) ∙ coef_at_scale S.field e.1 _ t ∙ ap ((scalars S.field).◌*◌ (scalar S.field e.1)) (coef_at_single S.field (key e.0) t)

  at_itself : (e : Entry E) → coef_at S.field (vec S.field (e ∷ [])) (key e.0) ≡ scalar S.field e.1
  at_itself e = one_entry e (key e.0) ∙ ap ((scalars S.field).◌*◌ (scalar S.field e.1)) (indicator_yes (scalars S.field) (key_same (key e.0) (key e.0)) refl) ∙ (scalars S.field).mul_one _

  at_other : (e : Entry E) (t : Key) → ¬ (key e.0 ≡ t) → coef_at S.field (vec S.field (e ∷ [])) t ≡ zero_scalar
  at_other e t n = one_entry e t ∙ ap ((scalars S.field).◌*◌ (scalar S.field e.1)) (indicator_no (scalars S.field) (key_same (key e.0) t) n) ∙ rings.mul_zero (scalars S.field) _

  by_first : (e : Entry E) (l : List (Entry E)) (t : Key) → coef_at S.field (vec S.field (e ∷ l)) t ≡ (scalars S.field).◌+◌ (coef_at S.field (vec S.field (e ∷ [])) t) (coef_at S.field (vec S.field l) t)
  by_first e l t = ap (λ v. coef_at S.field v t) (vec_cons S.field e l) ∙ coef_at_plus S.field _ _ t

  -- no entry is at the place
  abbrev pub NotAt : TermPlace → List (Entry E) → Type 0
  NotAt p [] = Unit {0}
  NotAt p (e ∷ es) = ¬ (e.0 ≡ p) × NotAt p es

  other_key : (e : Entry E) (p : TermPlace) → IsPlace S p → IsTerm S e → ¬ (e.0 ≡ p) → ¬ (key e.0 ≡ key p)
  other_key e p h t n = λ same. n (key_injective e.0 p (t.place.wide ∙ sym h.wide) same)

  -- at another place than those of the entries
  pub no_entry : (es : List (Entry E)) (p : TermPlace) → IsPlace S p → Fits S es → NotAt p es → coef_at S.field (vec S.field es) (key p) ≡ zero_scalar
  no_entry [] p h f n = ap (λ v. coef_at S.field v (key p)) (vec_nothing S.field) ∙ coef_at_zero S.field (key p)
  no_entry (e ∷ es) p h f n = by_first e es (key p) ∙ ap₂ (scalars S.field).◌+◌ (at_other e (key p) (other_key e p h f.0 n.0)) (no_entry es p h f.2 n.1) ∙ (scalars S.field).add_zero zero_scalar

  greater_is_other : (p q : TermPlace) → S.order.compare p q ≡ Greater → ¬ (q ≡ p)
  greater_is_other p q g e = let same : S.order.compare p q ≡ Equal = subst (λ r. S.order.compare p r ≡ Equal) (sym e) (tied_itself S.order.total p) in let clash : Greater ≡ Equal = sym g ∙ same in absurd cc

  above_not_at : (p : TermPlace) (es : List (Entry E)) → IsAbove S p es → NotAt p es
  above_not_at p [] a = tt
  above_not_at p (e ∷ es) a = (greater_is_other p e.0 a.0, above_not_at p es a.1)

  above_at : (p : TermPlace) (es : List (Entry E)) (i : ℕ) (d : Entry E) → i < length es → IsAbove S p es → S.order.compare p (get_or es i d).0 ≡ Greater
  above_at p [] i d w a = absurd (omega arith)
  above_at p (e ∷ es) zero d w a = a.0
  above_at p (e ∷ es) (suc i) d w a = above_at p es i d (omega arith) a.1

  pub term_at_index : (es : List (Entry E)) (i : ℕ) (d : Entry E) → i < length es → Fits S es → IsTerm S (get_or es i d)
  term_at_index [] i d w f = absurd (omega arith)
  term_at_index (e ∷ es) zero d w f = f.0
  term_at_index (e ∷ es) (suc i) d w f = term_at_index es i d (omega arith) f.2

  -- at the place of an entry
  pub entry_value : (es : List (Entry E)) (i : ℕ) (d : Entry E) → i < length es → Fits S es → coef_at S.field (vec S.field es) (key (get_or es i d).0) ≡ scalar S.field (get_or es i d).1
  entry_value [] i d w f = absurd (omega arith)
  entry_value (e ∷ es) zero d w f = by_first e es (key e.0) ∙ ap₂ (scalars S.field).◌+◌ (at_itself e) (no_entry es e.0 f.0.place f.2 (above_not_at e.0 es f.1)) ∙ (scalars S.field).add_zero _
  entry_value (e ∷ es) (suc i) d w f =
      let t = get_or es i d in
      let term : IsTerm S t = term_at_index es i d (omega arith) f.2 in
      let other : ¬ (e.0 ≡ t.0) = λ same. greater_is_other e.0 t.0 (above_at e.0 es i d (omega arith) f.1) (sym same) in
      by_first e es (key t.0) ∙ ap₂ (scalars S.field).◌+◌ (at_other e (key t.0) (other_key e t.0 term.place f.0 other)) (entry_value es i d (omega arith) f.2) ∙ rings.zero_add (scalars S.field) _

  pub entry_coefficient : (es : List (Entry E)) (i : ℕ) (d : Entry E) → i < length es → Fits S es → ¬ (coef_at S.field (vec S.field es) (key (get_or es i d).0) ≡ zero_scalar)
  entry_coefficient es i d w f = λ z. let t = term_at_index es i d w f in scalar_not_zero S.field (get_or es i d).1 t.has t.not_zero (sym (entry_value es i d w f) ∙ z)
