-- By a positive order a multiple of a key is never smaller than the key.
use Rattle.std.proofs.Common.{◌≡◌, ℕ, zero, suc, true, List, [], ◌∷◌, length, sym, ap, ap₂, ◌∙◌, refl, subst, arith}
use Rattle.std.specs.declared.cmp.Ordering.{Ordering}
use Rattle.std.specs.declared.cmp.Ordering.TheVariants.{Less, Equal, Greater}
use Rattle.std.specs.Ordering.{nat_cmp, ordering_then}
use Rattle.std.specs.Cmp.Lexicographic.{slice_cmp}
use Rattle.alg_core.specs.ExponentLists.{product}
use Rattle.alg_core.specs.Monomials.{Mon, monomials, trimmed, exponents, beyond, length_exponents}
use Rattle.alg_core.specs.Keys.{Key, times_key, KeyDivides}
use Rattle.alg_core.specs.Spaces.{SpaceOver}
use Rattle.alg_core.specs.SpaceOrder.{key_compare, key_kept, key_order, place_of, beyond_of}
use Rattle.poly_module.specs.ReducedLists.{FitsOrder}

beyond_nothing : (n : ℕ) → trimmed (beyond n []) ≡ []
unfolding beyond trimmed
beyond_nothing zero = refl
beyond_nothing (suc n) = beyond_nothing n

product_zeros : (n : ℕ) (a : List ℕ) → product (exponents n a) (exponents n []) ≡ exponents n a
unfolding exponents
product_zeros zero a = refl
product_zeros (suc n) [] = ap (λ l. 0 ∷ l) (product_zeros n [])
product_zeros (suc n) (x ∷ a) = ap₂ ◌∷◌ (omega arith) (product_zeros n a)

not_less_nothing : (l : List ℕ) → ¬ (slice_cmp nat_cmp l [] ≡ Less)
not_less_nothing [] e = grind arith
not_less_nothing (x ∷ l) e = grind arith

then_not_less : (r s : Ordering) → ¬ (r ≡ Less) → ¬ (s ≡ Less) → ¬ (ordering_then r s ≡ Less)
then_not_less Less s n m e = n refl
then_not_less Equal s n m e = m e
then_not_less Greater s n m e = n e

module _ {E : Type 0} (S : SpaceOver E) (positive : S.order.is_positive ≡ true) where
  abbrev n : ℕ
  n = length S.weights

  one_smallest : (q : ℕ) (m : Mon) → FitsOrder S (q, m) → ¬ (key_compare n S.order (q, m) (q, monomials.one) ≡ Less)
  unfolding key_compare place_of beyond_of monomials
  one_smallest q m h = then_not_less _ _
      (λ e. not_less_nothing (trimmed (beyond n m.0)) (ap (slice_cmp nat_cmp (trimmed (beyond n m.0))) (sym (beyond_nothing n)) ∙ e))
      (λ e. S.order.no_smaller positive (exponents n m.0) (q, exponents n []) (ap (S.order.fits q) (length_exponents n []) ∙ h) (length_exponents n m.0 ∙ sym (length_exponents n []))
      (ap (λ l. S.order.compare (q, l) (q, exponents n [])) (product_zeros n m.0) ∙ e))

  pub key_grows : (m : Mon) (t : Key) → FitsOrder S t → ¬ ((key_order S).compare (times_key m t) t ≡ Less)
  key_grows m t h e = one_smallest t.0 m h (sym (key_kept n S.order t.1 (t.0, m) (t.0, monomials.one)) ∙ ap₂ (key_compare n S.order) (ap (λ a. (t.0, a)) (monomials.comm t.1 m)) (ap (λ a. (t.0, a)) (monomials.mul_one t.1)) ∙ e)

  pub divisor_not_greater : (s t : Key) → FitsOrder S s → KeyDivides s t → ¬ ((key_order S).compare t s ≡ Less)
  divisor_not_greater s t h d e = key_grows d.0 s h (subst (λ u. (key_order S).compare u s ≡ Less) (sym d.1) e)
