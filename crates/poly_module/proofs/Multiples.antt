-- The entries of a multiple.
use Rattle.std.proofs.Common.{◌≡◌, ◌≢◌, ℕ, List, [], ◌∷◌, map, length, refl, sym, ap, ap₂, ◌∙◌, arith}
use Rattle.alg_core.specs.Fields.{Has, product_not_zero}
use Rattle.alg_core.specs.Monomials.{mono}
use Rattle.alg_core.specs.ExponentLists.{product}
use Rattle.alg_core.specs.Keys.{TermPlace}
use Rattle.alg_core.specs.PlaceOrders.{times_place}
use Rattle.alg_core.specs.Spaces.{SpaceOver, IsPlace, IsAbove, Fits}
use Rattle.alg_core.specs.Vectors.{Entry, vec, plus, scale, shift}
use Rattle.alg_core.proofs.VectorLaws.{vec_nothing, vec_cons, shift_plus, shift_zero_vector, shift_entry, scale_plus, scale_zero_vector, scale_entry, scale_zero}

module _ {E : Type 0} (S : SpaceOver E) (c : E) (m : List ℕ) where
  abbrev pub multiple : Entry E → Entry E
  multiple e = (times_place m e.0, S.field.mul c e.1)

  abbrev pub multiples : List (Entry E) → List (Entry E)
  multiples es = map multiple es

  module _ (hc : Has S.field c) (wide : length m ≡ length S.weights) where
    pub vec_multiples : (es : List (Entry E)) → Fits S es → vec S.field (multiples es) ≡ scale S.field c (shift S.field (mono m) (vec S.field es))
    vec_multiples [] h = vec_nothing S.field ∙ sym (ap (scale S.field c) (ap (shift S.field (mono m)) (vec_nothing S.field) ∙ shift_zero_vector S.field (mono m)) ∙ scale_zero_vector S.field c)
    vec_multiples (e ∷ es) h =
        let one = scale_entry S.field c (times_place m e.0) e.1 hc h.0.has in
        let moved = shift_entry S.field m e.0 e.1 (wide ∙ sym h.0.place.wide) in
        vec_cons S.field (multiple e) (multiples es) ∙ ap₂ (plus S.field) (sym (ap (scale S.field c) moved ∙ one)) (vec_multiples es h.2) ∙ sym (scale_plus S.field c _ _)
        ∙ ap (scale S.field c) (sym (shift_plus S.field (mono m) _ _) ∙ ap (shift S.field (mono m)) (sym (vec_cons S.field e es)))

    fits_place : (p : TermPlace) → IsPlace S p → IsPlace S (times_place m p)
    fits_place p h =
        let same : length (product m p.1) ≡ length p.1 = length_product m p.1 (wide ∙ sym h.wide) in
        record { fits = ap (S.order.fits p.0) same ∙ h.fits; wide = same ∙ h.wide; low = h.low }
      where
        length_product : (a b : List ℕ) → length a ≡ length b → length (product a b) ≡ length b
        length_product [] [] e = refl
        length_product [] (y ∷ b) e = absurd (omega arith)
        length_product (x ∷ a) [] e = absurd (omega arith)
        length_product (x ∷ a) (y ∷ b) e = let ih = length_product a b (omega arith) in omega arith

    above_multiples : (p : TermPlace) (es : List (Entry E)) → length m ≡ length p.1 → Fits S es → IsAbove S p es → IsAbove S (times_place m p) (multiples es)
    above_multiples p [] w h a = tt
    above_multiples p (f ∷ fs) w h a = (S.order.kept m p f.0 w (wide ∙ sym h.0.place.wide) ∙ a.0, above_multiples p fs w h.2 a.1)

    pub fits_multiples : c ≢ S.field.zero → (es : List (Entry E)) → Fits S es → Fits S (multiples es)
    fits_multiples nz [] h = tt
    fits_multiples nz (e ∷ es) h = (
      record { has = S.field.has_mul c e.1 hc h.0.has; not_zero = product_not_zero S.field c e.1 hc h.0.has nz h.0.not_zero; place = fits_place e.0 h.0.place },
      above_multiples e.0 es (wide ∙ sym h.0.place.wide) h.2 h.1,
      fits_multiples nz es h.2,
    )

  -- a multiple by 0
  pub zero_multiple : (es : List (Entry E)) → c ≡ S.field.zero → vec S.field [] ≡ scale S.field c (shift S.field (mono m) (vec S.field es))
  zero_multiple es z = vec_nothing S.field ∙ sym (scale_zero S.field _) ∙ ap (λ d. scale S.field d (shift S.field (mono m) (vec S.field es))) (sym z)

-- multiples by a value alone
module _ {E : Type 0} (S : SpaceOver E) (c : E) where
  abbrev pub scaled_entry : Entry E → Entry E
  scaled_entry e = (e.0, S.field.mul c e.1)

  abbrev pub scaled_entries : List (Entry E) → List (Entry E)
  scaled_entries es = map scaled_entry es

  pub vec_scaled : Has S.field c → (es : List (Entry E)) → Fits S es → vec S.field (scaled_entries es) ≡ scale S.field c (vec S.field es)
  vec_scaled hc [] h = vec_nothing S.field ∙ sym (ap (scale S.field c) (vec_nothing S.field) ∙ scale_zero_vector S.field c)
  vec_scaled hc (e ∷ es) h =
      vec_cons S.field (scaled_entry e) (scaled_entries es) ∙ ap₂ (plus S.field) (sym (scale_entry S.field c e.0 e.1 hc h.0.has)) (vec_scaled hc es h.2)
      ∙ sym (scale_plus S.field c _ _) ∙ ap (scale S.field c) (sym (vec_cons S.field e es))

  scaled_above : (p : TermPlace) (es : List (Entry E)) → IsAbove S p es → IsAbove S p (scaled_entries es)
  scaled_above p [] a = tt
  scaled_above p (e ∷ es) a = (a.0, scaled_above p es a.1)

  pub fits_scaled : Has S.field c → c ≢ S.field.zero → (es : List (Entry E)) → Fits S es → Fits S (scaled_entries es)
  fits_scaled hc nz [] h = tt
  fits_scaled hc nz (e ∷ es) h = (
    record { has = S.field.has_mul c e.1 hc h.0.has; not_zero = product_not_zero S.field c e.1 hc h.0.has nz h.0.not_zero; place = h.0.place },
    scaled_above e.0 es h.1,
    fits_scaled hc nz es h.2,
  )

  pub zero_scaled : (es : List (Entry E)) → c ≡ S.field.zero → vec S.field [] ≡ scale S.field c (vec S.field es)
  zero_scaled es z = vec_nothing S.field ∙ sym (scale_zero S.field _) ∙ ap (λ d. scale S.field d (vec S.field es)) (sym z)
