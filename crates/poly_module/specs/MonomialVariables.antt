-- Each monomial is a product of powers of variables.
--
--   after_zeros n a         n zeros and then the exponents a
--   variable i              the monomial that is the i-th variable, from 0
--   multiplicative_unique   functions that keep products of monomials agree where they agree on the variables
use Rattle.std.specs.Prelude.{◌≡◌, ℕ, zero, suc, ◌+◌, List, [], ◌∷◌}
use mathlib.Core.Path.{sym, ap, ap₂, ◌∙◌, refl}
use native.Mathlib.Omega.{arith}
use Rattle.alg_core.specs.Rings.{Ring, Algebra, Multiplicative}
use Rattle.alg_core.specs.Monomials.{Mon, monomials, mono, exponent, exponent_mul, exponent_mono, exponent_one, mon_ext, mono_mon}

-- n zeros in front of a list of exponents
unfoldable pub after_zeros : ℕ → List ℕ → List ℕ
after_zeros zero a = a
after_zeros (suc n) a = 0 ∷ after_zeros n a

-- the i-th variable
unfoldable pub variable : ℕ → Mon
variable i = mono (after_zeros i (1 ∷ []))

exponent_after_zeros : (n : ℕ) (a b l : List ℕ) → ((i : ℕ) → exponent l i ≡ exponent a i + exponent b i) → (i : ℕ) → exponent (after_zeros n l) i ≡ exponent (after_zeros n a) i + exponent (after_zeros n b) i
unfolding after_zeros
exponent_after_zeros zero a b l e i = e i
exponent_after_zeros (suc n) a b l e zero = refl
exponent_after_zeros (suc n) a b l e (suc i) = exponent_after_zeros n a b l e i

zeros_nothing : (n i : ℕ) → exponent (after_zeros n []) i ≡ 0
unfolding after_zeros
zeros_nothing zero i = refl
zeros_nothing (suc n) zero = refl
zeros_nothing (suc n) (suc i) = zeros_nothing n i

-- one variable's power and the rest
pub mono_after_zeros : (n x : ℕ) (a : List ℕ) → mono (after_zeros n (x ∷ a)) ≡ monomials.◌·◌ (mono (after_zeros n (x ∷ []))) (mono (after_zeros (suc n) a))
unfolding after_zeros
mono_after_zeros n x a = mon_ext _ _ (λ i.
    let p = exponent_mono (after_zeros n (x ∷ a)) i in
    let q = exponent_mul (mono (after_zeros n (x ∷ []))) (mono (0 ∷ after_zeros n a)) i in
    let r = exponent_mono (after_zeros n (x ∷ [])) i in
    let s = exponent_mono (0 ∷ after_zeros n a) i in
    let t = exponent_after_zeros n (x ∷ []) (0 ∷ a) (x ∷ a) split i in
    let w = zero_inside n a i in
    omega arith)
  where
    split : (i : ℕ) → exponent (x ∷ a) i ≡ exponent (x ∷ []) i + exponent (0 ∷ a) i
    split zero = omega arith
    split (suc i) = omega arith

    zero_inside : (n : ℕ) (a : List ℕ) (i : ℕ) → exponent (after_zeros n (0 ∷ a)) i ≡ exponent (0 ∷ after_zeros n a) i
    zero_inside zero a i = refl
    zero_inside (suc n) a zero = refl
    zero_inside (suc n) a (suc i) = zero_inside n a i

-- one factor more of a variable
pub mono_variable_power : (n x : ℕ) → mono (after_zeros n (suc x ∷ [])) ≡ monomials.◌·◌ (variable n) (mono (after_zeros n (x ∷ [])))
unfolding variable
mono_variable_power n x = mon_ext _ _ (λ i.
    let p = exponent_mono (after_zeros n (suc x ∷ [])) i in
    let q = exponent_mul (mono (after_zeros n (1 ∷ []))) (mono (after_zeros n (x ∷ []))) i in
    let r = exponent_mono (after_zeros n (1 ∷ [])) i in
    let s = exponent_mono (after_zeros n (x ∷ [])) i in
    let t = exponent_after_zeros n (1 ∷ []) (x ∷ []) (suc x ∷ []) split i in
    omega arith)
  where
    split : (i : ℕ) → exponent (suc x ∷ []) i ≡ exponent (1 ∷ []) i + exponent (x ∷ []) i
    split zero = omega arith
    split (suc i) = omega arith

pub mono_zeros : (n : ℕ) → mono (after_zeros n (0 ∷ [])) ≡ monomials.one
mono_zeros n = mon_ext _ _ (λ i.
    let p = exponent_mono (after_zeros n (0 ∷ [])) i in
    let q = exponent_one i in
    let r = exponent_after_zeros n [] [] (0 ∷ []) none i in
    let s = zeros_nothing n i in
    omega arith)
  where
    none : (i : ℕ) → exponent (0 ∷ []) i ≡ exponent [] i + exponent [] i
    none zero = refl
    none (suc i) = refl

pub mono_zeros_nothing : (n : ℕ) → mono (after_zeros n []) ≡ monomials.one
mono_zeros_nothing n = mon_ext _ _ (λ i.
    let p = exponent_mono (after_zeros n []) i in
    let q = exponent_one i in
    let s = zeros_nothing n i in
    omega arith)

module _ {K S : Type 0} {R : Ring K} (Y : Algebra R S) where
  module _ (f g : Mon → S) (hf : Multiplicative monomials Y f) (hg : Multiplicative monomials Y g) (e : (i : ℕ) → f (variable i) ≡ g (variable i)) where
    agree_power : (n x : ℕ) → f (mono (after_zeros n (x ∷ []))) ≡ g (mono (after_zeros n (x ∷ [])))
    agree_power n zero = ap f (mono_zeros n) ∙ hf.one ∙ sym (ap g (mono_zeros n) ∙ hg.one)
    agree_power n (suc x) = ap f (mono_variable_power n x) ∙ hf.mul _ _ ∙ ap₂ Y.ring.◌*◌ (e n) (agree_power n x) ∙ sym (ap g (mono_variable_power n x) ∙ hg.mul _ _)

    agree_exponents : (n : ℕ) (a : List ℕ) → f (mono (after_zeros n a)) ≡ g (mono (after_zeros n a))
    agree_exponents n [] = ap f (mono_zeros_nothing n) ∙ hf.one ∙ sym (ap g (mono_zeros_nothing n) ∙ hg.one)
    agree_exponents n (x ∷ a) = ap f (mono_after_zeros n x a) ∙ hf.mul _ _ ∙ ap₂ Y.ring.◌*◌ (agree_power n x) (agree_exponents (suc n) a) ∙ sym (ap g (mono_after_zeros n x a) ∙ hg.mul _ _)

    -- functions that keep products of monomials agree where they agree on the variables
    pub multiplicative_unique : (m : Mon) → f m ≡ g m
    unfolding after_zeros
    multiplicative_unique m = ap f (sym (mono_mon m)) ∙ agree_exponents 0 m.0 ∙ ap g (mono_mon m)
