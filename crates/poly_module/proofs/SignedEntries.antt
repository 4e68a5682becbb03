-- Lists of entries with a sign: they fit, and what their vectors are.
use Rattle.std.proofs.Common.{◌≡◌, ◌≢◌, List, [], ◌∷◌, sym, ap, ap₂, ◌∙◌}
use Rattle.std.proofs.lemmas.List.{map-id}
use Rattle.alg_core.specs.Fields.{FieldOn, Has}
use Rattle.alg_core.specs.Keys.{TermPlace}
use Rattle.alg_core.specs.Spaces.{SpaceOver, IsAbove, Fits}
use Rattle.alg_core.specs.Vectors.{Entry, Vect, vec, plus, zero_vector}
use Rattle.alg_core.proofs.VectorLaws.{plus_assoc, plus_swap, plus_zero, vec_nothing, vec_cons, vec_twice, vec_zero}
use Rattle.poly_module.specs.declared.signs.Sign.{Sign}
use Rattle.poly_module.specs.declared.signs.Sign.TheVariants.{Plus, Minus}
use Rattle.poly_module.specs.Signs.{with_sign, signed_entry, signed_entries}

module _ {E : Type 0} (k : FieldOn E) where
  pub has_signed : (s : Sign) (c : E) → Has k c → Has k (with_sign k s c)
  has_signed Plus c h = h
  has_signed Minus c h = k.has_neg c h

  neg_not_zero : (c : E) → Has k c → c ≢ k.zero → k.neg c ≢ k.zero
  neg_not_zero c h n e = n (sym (k.add_zero c h) ∙ ap (k.add c) (sym e) ∙ k.add_neg c h)

  pub signed_not_zero : (s : Sign) (c : E) → Has k c → c ≢ k.zero → with_sign k s c ≢ k.zero
  signed_not_zero Plus c h n = n
  signed_not_zero Minus c h n = neg_not_zero c h n

  pub signed_plus : (es : List (Entry E)) → signed_entries k Plus es ≡ es
  signed_plus es = map-id es

module _ {E : Type 0} (S : SpaceOver E) where
  signed_above : (s : Sign) (p : TermPlace) (es : List (Entry E)) → IsAbove S p es → IsAbove S p (signed_entries S.field s es)
  signed_above s p [] a = tt
  signed_above s p (e ∷ es) a = (a.0, signed_above s p es a.1)

  pub signed_fits : (s : Sign) (es : List (Entry E)) → Fits S es → Fits S (signed_entries S.field s es)
  signed_fits s [] h = tt
  signed_fits s (e ∷ es) h = (
    record { has = has_signed S.field s e.1 h.0.has; not_zero = signed_not_zero S.field s e.1 h.0.has h.0.not_zero; place = h.0.place },
    signed_above s e.0 es h.1,
    signed_fits s es h.2,
  )

  -- the opposite entries and the entries add up to zero
  pub vec_opposite : (es : List (Entry E)) → Fits S es → plus S.field (vec S.field (signed_entries S.field Minus es)) (vec S.field es) ≡ zero_vector S.field
  vec_opposite [] h = ap₂ (plus S.field) (vec_nothing S.field) (vec_nothing S.field) ∙ plus_zero S.field _
  vec_opposite (e ∷ es) h =
      let k = S.field in
      let c = e.1 in
      let has = h.0.has in
      ap₂ (plus k) (vec_cons k (signed_entry k Minus e) (signed_entries k Minus es)) (vec_cons k e es) ∙ plus_swap k _ _ _ _
      ∙ ap₂ (plus k) (vec_twice k e.0 (k.neg c) c (k.has_neg c has) has ∙ ap (λ d. vec k ((e.0, d) ∷ [])) (k.add_comm (k.neg c) c (k.has_neg c has) has ∙ k.add_neg c has) ∙ vec_zero k e.0) (vec_opposite es h.2)
      ∙ plus_zero k _

  -- a sum with the opposite of b, and b
  pub minus_plus : (v x : Vect S.field) (es : List (Entry E)) → Fits S es → v ≡ plus S.field x (vec S.field (signed_entries S.field Minus es)) → plus S.field v (vec S.field es) ≡ x
  minus_plus v x es h e = ap (λ u. plus S.field u (vec S.field es)) e ∙ plus_assoc S.field x _ _ ∙ ap (plus S.field x) (vec_opposite es h) ∙ plus_zero S.field x
