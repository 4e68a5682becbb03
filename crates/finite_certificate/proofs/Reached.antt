-- The first variable whose exponent is not below a bound, and the exponents where it is lowered.
use Rattle.std.proofs.Common.{◌≡◌, ◌+◌, ◌<◌, ◌≤◌, ℕ, zero, suc, Option, Some, None, List, [], ◌∷◌, length, get_or, refl, sym, subst, arith}
use native.Mathlib.Decide.{dec_le}
use Rattle.alg_core.specs.Keys.{Key}
use Rattle.alg_core.specs.Monomials.{Mon, mon_ext, monomials, mono, exponent, exponent_mono, exponent_mul}
use Rattle.poly_module.specs.MonomialVariables.{after_zeros}
use Rattle.finite_certificate.specs.Finiteness.{IsBelow}
use Rattle.finite_certificate.specs.Spreading.{here_or, reached_from, first_reached, without}

-- one variable that is reached
pub record IsReached (i : ℕ) (es a : List ℕ) (j : ℕ) : Type 0 where
  pub place : ℕ
  pub from : j ≡ i + place
  pub within : place < length es
  pub reached : get_or es place 0 ≤ exponent a j

pub reached_some : (i : ℕ) (es a : List ℕ) (j : ℕ) → reached_from i es a ≡ Some j → IsReached i es a j
unfolding reached_from here_or
reached_some i [] a j e = absurd cc
reached_some i (x ∷ es) a j e = at (dec_le x (exponent a i)) e (reached_some (i + 1) es a j)
  where
    at : (d : Dec (x ≤ exponent a i)) → here_or d i (reached_from (i + 1) es a) ≡ Some j → (reached_from (i + 1) es a ≡ Some j → IsReached (i + 1) es a j) → IsReached i (x ∷ es) a j
    at (yes p) e ih = let same : i ≡ j = cc in record { place = 0; from = omega arith; within = omega arith; reached = subst (λ (l : ℕ). x ≤ exponent a l) same p }
    at (no p) e ih = let h = ih e in record { place = suc h.place; from = omega (arith, h.from); within = omega (arith, h.within); reached = h.reached }

pub reached_none : (i : ℕ) (es a : List ℕ) → reached_from i es a ≡ None → (d : ℕ) → d < length es → exponent a (i + d) < get_or es d 0
unfolding reached_from here_or
reached_none i [] a e d h = absurd (omega arith)
reached_none i (x ∷ es) a e d h = at (dec_le x (exponent a i)) e d h (reached_none (i + 1) es a)
  where
    at : (c : Dec (x ≤ exponent a i)) → here_or c i (reached_from (i + 1) es a) ≡ None → (d : ℕ) → d < suc (length es)
        → (reached_from (i + 1) es a ≡ None → (d : ℕ) → d < length es → exponent a (i + 1 + d) < get_or es d 0) → exponent a (i + d) < get_or (x ∷ es) d 0
    at (yes p) e d h ih = absurd cc
    at (no p) e zero h ih = let same : i + 0 ≡ i = omega arith in subst (λ (l : ℕ). exponent a l < x) (sym same) (omega arith)
    at (no p) e (suc d) h ih = let same : i + 1 + d ≡ i + suc d = omega arith in subst (λ (l : ℕ). exponent a l < get_or es d 0) same (ih e d (omega arith))

-- by the exponents alone
pub reached_ext : (i : ℕ) (es a b : List ℕ) → ((j : ℕ) → exponent a j ≡ exponent b j) → reached_from i es a ≡ reached_from i es b
unfolding reached_from here_or
reached_ext i [] a b e = refl
reached_ext i (x ∷ es) a b e = at (dec_le x (exponent a i)) (dec_le x (exponent b i)) (reached_ext (i + 1) es a b e)
  where
    at : (c : Dec (x ≤ exponent a i)) (d : Dec (x ≤ exponent b i)) → reached_from (i + 1) es a ≡ reached_from (i + 1) es b → here_or c i (reached_from (i + 1) es a) ≡ here_or d i (reached_from (i + 1) es b)
    at (yes p) (yes q) ih = refl
    at (yes p) (no q) ih = let same = e i in absurd (q (omega arith))
    at (no p) (yes q) ih = let same = e i in absurd (p (omega arith))
    at (no p) (no q) ih = ih

pub reached_yes : (i : ℕ) (x : ℕ) (es a : List ℕ) → x ≤ exponent a i → reached_from i (x ∷ es) a ≡ Some i
unfolding reached_from here_or
reached_yes i x es a h = at (dec_le x (exponent a i))
  where
    at : (c : Dec (x ≤ exponent a i)) → here_or c i (reached_from (i + 1) es a) ≡ Some i
    at (yes p) = refl
    at (no p) = absurd (p h)

pub reached_no : (i : ℕ) (x : ℕ) (es a : List ℕ) → exponent a i < x → reached_from i (x ∷ es) a ≡ reached_from (i + 1) es a
unfolding reached_from here_or
reached_no i x es a h = at (dec_le x (exponent a i))
  where
    at : (c : Dec (x ≤ exponent a i)) → here_or c i (reached_from (i + 1) es a) ≡ reached_from (i + 1) es a
    at (yes p) = absurd (omega arith)
    at (no p) = refl

pub reached_nothing : (i : ℕ) (a : List ℕ) → reached_from i [] a ≡ None
unfolding reached_from
reached_nothing i a = refl

-- no variable is reached exactly where each exponent is below its bound
pub none_below : (es : List ℕ) (t : Key) → first_reached es t.1.0 ≡ None → IsBelow es t
none_below es t e i h = let b = reached_none 0 es t.1.0 e i h in let same : 0 + i ≡ i = omega arith in subst (λ (l : ℕ). exponent t.1.0 l < get_or es i 0) same b

pub below_none : (es : List ℕ) (t : Key) → IsBelow es t → first_reached es t.1.0 ≡ None
below_none es t h = at (first_reached es t.1.0) refl
  where
    at : (o : Option ℕ) → first_reached es t.1.0 ≡ o → o ≡ None
    at None e = refl
    at (Some j) e =
        let r = reached_some 0 es t.1.0 j e in
        let same : r.place ≡ j = omega (arith, r.from) in
        let low : exponent t.1.0 j < get_or es j 0 = h j (omega (arith, r.within)) in
        let high : get_or es j 0 ≤ exponent t.1.0 j = subst (λ (l : ℕ). get_or es l 0 ≤ exponent t.1.0 j) same r.reached in
        absurd (omega arith)

-- a lowered exponent, and the power that was taken out
without_at : (i e : ℕ) (a : List ℕ) (j : ℕ) → e ≤ exponent a i → exponent (without i e a) j + exponent (after_zeros i (e ∷ [])) j ≡ exponent a j
unfolding without after_zeros
without_at zero e [] zero h = omega arith
without_at zero e [] (suc j) h = omega arith
without_at (suc i) e [] zero h = omega arith
without_at (suc i) e [] (suc j) h = without_at i e [] j h
without_at zero e (x ∷ a) zero h = omega arith
without_at zero e (x ∷ a) (suc j) h = omega arith
without_at (suc i) e (x ∷ a) zero h = omega arith
without_at (suc i) e (x ∷ a) (suc j) h = without_at i e a j h

pub lowered_times : (i e : ℕ) (m : Mon) → e ≤ exponent m.0 i → monomials.◌·◌ (mono (without i e m.0)) (mono (after_zeros i (e ∷ []))) ≡ m
lowered_times i e m h = mon_ext _ m (λ j.
    let p = exponent_mul (mono (without i e m.0)) (mono (after_zeros i (e ∷ []))) j in
    let q = exponent_mono (without i e m.0) j in
    let r = exponent_mono (after_zeros i (e ∷ [])) j in
    let s = without_at i e m.0 j h in
    omega arith)
