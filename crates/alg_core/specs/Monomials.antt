-- Monomials without a number of variables: exponents with no zero at the end, so that a polynomial in n variables
-- is one in more variables as well.
--
--   exponent a i         the exponent of the variable i, from 0, in a list of exponents: 0 past its end
--   trimmed a            the list without the zeros at its end
--   added a b            the sums of the exponents
--   Mon                  the monomials
--   mono a               the monomial with these exponents
--   monomials            the monomials as a monoid
--   Divides a b          some monomial times a is b
--   exponents n a        the first n exponents of a, as a list of length n
--   beyond n a           the exponents after the first n
use Rattle.std.specs.Prelude.{◌≡◌, ℕ, zero, suc, ◌+◌, ◌-◌, ◌≤◌, List, [], ◌∷◌, length, refl}
use mathlib.Core.Path.{sym, ap, ap₂, ◌∙◌}
use mathlib.Core.HLevel.{Σ_prop_path, hedberg}
use mathlib.Core.List.{List-discrete}
use native.Mathlib.Decide.{ℕ_discrete, dec_le}
use native.Mathlib.Omega.{arith}
use Rattle.alg_core.specs.Rings.{Monoid}

-- the exponent of a variable: 0 past the end
abbrev pub exponent : List ℕ → ℕ → ℕ
exponent [] i = 0
exponent (x ∷ a) zero = x
exponent (x ∷ a) (suc i) = exponent a i

-- one exponent in front of a list without zeros at its end
unfoldable pub trimmed_cons : ℕ → List ℕ → List ℕ
trimmed_cons zero [] = []
trimmed_cons zero (y ∷ l) = zero ∷ y ∷ l
trimmed_cons (suc x) l = suc x ∷ l

-- without the zeros at the end
unfoldable pub trimmed : List ℕ → List ℕ
trimmed [] = []
trimmed (x ∷ a) = trimmed_cons x (trimmed a)

-- the sums of the exponents
unfoldable pub added : List ℕ → List ℕ → List ℕ
added [] b = b
added (x ∷ a) [] = x ∷ a
added (x ∷ a) (y ∷ b) = (x + y) ∷ added a b

pub exponent_trimmed_cons : (x : ℕ) (l : List ℕ) (i : ℕ) → exponent (trimmed_cons x l) i ≡ exponent (x ∷ l) i
unfolding trimmed_cons
exponent_trimmed_cons zero [] zero = refl
exponent_trimmed_cons zero [] (suc i) = refl
exponent_trimmed_cons zero (y ∷ l) i = refl
exponent_trimmed_cons (suc x) l i = refl

pub exponent_trimmed : (a : List ℕ) (i : ℕ) → exponent (trimmed a) i ≡ exponent a i
unfolding trimmed
exponent_trimmed [] i = refl
exponent_trimmed (x ∷ a) zero = exponent_trimmed_cons x (trimmed a) zero
exponent_trimmed (x ∷ a) (suc i) = exponent_trimmed_cons x (trimmed a) (suc i) ∙ exponent_trimmed a i

pub exponent_added : (a b : List ℕ) (i : ℕ) → exponent (added a b) i ≡ exponent a i + exponent b i
unfolding added
exponent_added [] b i = omega arith
exponent_added (x ∷ a) [] i = omega arith
exponent_added (x ∷ a) (y ∷ b) zero = refl
exponent_added (x ∷ a) (y ∷ b) (suc i) = exponent_added a b i

pub trimmed_nothing : trimmed [] ≡ []
unfolding trimmed
trimmed_nothing = refl

-- the same exponents, the same list
pub trimmed_ext : (a b : List ℕ) → ((i : ℕ) → exponent a i ≡ exponent b i) → trimmed a ≡ trimmed b
unfolding trimmed trimmed_cons
trimmed_ext [] [] e = refl
trimmed_ext [] (y ∷ b) e = ap₂ trimmed_cons (e 0) (trimmed_ext [] b (λ i. e (suc i)))
trimmed_ext (x ∷ a) [] e = ap₂ trimmed_cons (e 0) (trimmed_ext a [] (λ i. e (suc i)))
trimmed_ext (x ∷ a) (y ∷ b) e = ap₂ trimmed_cons (e 0) (trimmed_ext a b (λ i. e (suc i)))

pub trimmed_trimmed : (a : List ℕ) → trimmed (trimmed a) ≡ trimmed a
trimmed_trimmed a = trimmed_ext (trimmed a) a (exponent_trimmed a)

-- a monomial: exponents with no zero at the end
abbrev pub Mon : Type 0
Mon = (a : List ℕ) × (trimmed a ≡ a)

exponents_set : IsSet (List ℕ)
exponents_set = hedberg (List-discrete ℕ_discrete)

pub mon_is : (a b : Mon) → a.0 ≡ b.0 → a ≡ b
mon_is a b e = Σ_prop_path (λ l. exponents_set _ _) e

-- monomials with the same exponents are equal
pub mon_ext : (a b : Mon) → ((i : ℕ) → exponent a.0 i ≡ exponent b.0 i) → a ≡ b
mon_ext a b e = mon_is a b (sym a.1 ∙ trimmed_ext a.0 b.0 e ∙ b.1)

pub mon_same : (a b : Mon) → Dec (a ≡ b)
mon_same a b = go (List-discrete ℕ_discrete a.0 b.0)
  where
    go : Dec (a.0 ≡ b.0) → Dec (a ≡ b)
    go (yes p) = yes (mon_is a b p)
    go (no p) = no (λ q. p (ap (λ u. u.0) q))

-- the monomial with these exponents
unfoldable pub mono : List ℕ → Mon
mono a = (trimmed a, trimmed_trimmed a)

pub exponent_mono : (a : List ℕ) (i : ℕ) → exponent (mono a).0 i ≡ exponent a i
unfolding mono
exponent_mono a i = exponent_trimmed a i

pub mono_ext : (a b : List ℕ) → ((i : ℕ) → exponent a i ≡ exponent b i) → mono a ≡ mono b
mono_ext a b e = mon_ext (mono a) (mono b) (λ i. exponent_mono a i ∙ e i ∙ sym (exponent_mono b i))

pub mono_mon : (m : Mon) → mono m.0 ≡ m
mono_mon m = mon_ext (mono m.0) m (exponent_mono m.0)

-- the product: exponents add
pub times : Mon → Mon → Mon
times a b = mono (added a.0 b.0)

pub exponent_times : (a b : Mon) (i : ℕ) → exponent (times a b).0 i ≡ exponent a.0 i + exponent b.0 i
unfolding times
exponent_times a b i = exponent_mono (added a.0 b.0) i ∙ exponent_added a.0 b.0 i

-- the monomials as a monoid
unfoldable pub monomials : Monoid Mon
monomials = record {
  one = ([], trimmed_nothing);
  ◌·◌ = times;
  assoc = λ a b c. mon_ext _ _ (λ i. let p = exponent_times (times a b) c i in let q = exponent_times a b i in let r = exponent_times a (times b c) i in let s = exponent_times b c i in omega arith);
  comm = λ a b. mon_ext _ _ (λ i. let p = exponent_times a b i in let q = exponent_times b a i in omega arith);
  mul_one = λ a. mon_ext _ _ (λ i. let p = exponent_times a ([], trimmed_nothing) i in omega arith);
}

pub exponent_mul : (a b : Mon) (i : ℕ) → exponent (monomials.◌·◌ a b).0 i ≡ exponent a.0 i + exponent b.0 i
unfolding monomials
exponent_mul = exponent_times

pub exponent_one : (i : ℕ) → exponent monomials.one.0 i ≡ 0
unfolding monomials
exponent_one i = refl

-- monomials cancel
pub mon_cancel : (m a b : Mon) → monomials.◌·◌ m a ≡ monomials.◌·◌ m b → a ≡ b
mon_cancel m a b e = mon_ext a b (λ i. let p = exponent_mul m a i in let q = exponent_mul m b i in let r : exponent (monomials.◌·◌ m a).0 i ≡ exponent (monomials.◌·◌ m b).0 i = ap (λ u. exponent u.0 i) e in omega arith)

-- some monomial times a is b
abbrev pub Divides : Mon → Mon → Type 0
Divides a b = (c : Mon) × (monomials.◌·◌ a c ≡ b)

-- the entries of b less those of a, where they are not smaller
Quotient : List ℕ → List ℕ → Type 0
Quotient a b = (c : List ℕ) × ((i : ℕ) → exponent a i + exponent c i ≡ exponent b i)

after_first : List ℕ → List ℕ
after_first [] = []
after_first (x ∷ l) = l

exponent_after_first : (c : List ℕ) (i : ℕ) → exponent (after_first c) i ≡ exponent c (suc i)
unfolding after_first
exponent_after_first [] i = refl
exponent_after_first (x ∷ c) i = refl

quotient_cons : (x y : ℕ) (a b : List ℕ) → Dec (x ≤ y) → Dec (Quotient a b) → Dec (Quotient (x ∷ a) (y ∷ b))
unfolding Quotient
quotient_cons x y a b (yes h) (yes r) = yes ((y - x) ∷ r.0, go)
  where
    go : (i : ℕ) → exponent (x ∷ a) i + exponent ((y - x) ∷ r.0) i ≡ exponent (y ∷ b) i
    go zero = omega arith
    go (suc i) = r.1 i
quotient_cons x y a b (yes h) (no r) = no (λ s. r (after_first s.0, λ i. let e = s.1 (suc i) in let f = exponent_after_first s.0 i in omega arith))
quotient_cons x y a b (no h) r = no (λ s. h (let e = s.1 0 in omega arith))

quotient_ext : (a b b' : List ℕ) → ((i : ℕ) → exponent b i ≡ exponent b' i) → Dec (Quotient a b) → Dec (Quotient a b')
unfolding Quotient
quotient_ext a b b' e (yes r) = yes (r.0, λ i. r.1 i ∙ e i)
quotient_ext a b b' e (no r) = no (λ s. r (s.0, λ i. s.1 i ∙ sym (e i)))

quotient : (a b : List ℕ) → Dec (Quotient a b)
unfolding Quotient
quotient [] b = yes (b, λ i. omega arith)
quotient (x ∷ a) [] = quotient_ext (x ∷ a) (0 ∷ []) [] zeros (quotient_cons x 0 a [] (dec_le x 0) (quotient a []))
  where
    zeros : (i : ℕ) → exponent (0 ∷ []) i ≡ exponent [] i
    zeros zero = refl
    zeros (suc i) = refl
quotient (x ∷ a) (y ∷ b) = quotient_cons x y a b (dec_le x y) (quotient a b)

-- whether a monomial divides another
pub divides_dec : (a b : Mon) → Dec (Divides a b)
unfolding Quotient
divides_dec a b = go (quotient a.0 b.0)
  where
    go : Dec (Quotient a.0 b.0) → Dec (Divides a b)
    go (yes r) = yes (mono r.0, mon_ext _ _ (λ i. let p = exponent_mul a (mono r.0) i in let q = exponent_mono r.0 i in let e = r.1 i in omega arith))
    go (no r) = no (λ s. r (s.0.0, λ i. let p = exponent_mul a s.0 i in let e : exponent (monomials.◌·◌ a s.0).0 i ≡ exponent b.0 i = ap (λ u. exponent u.0 i) s.1 in omega arith))

-- the first n exponents
unfoldable pub exponents : ℕ → List ℕ → List ℕ
exponents zero a = []
exponents (suc n) [] = 0 ∷ exponents n []
exponents (suc n) (x ∷ a) = x ∷ exponents n a

-- the exponents after the first n
unfoldable pub beyond : ℕ → List ℕ → List ℕ
beyond zero a = a
beyond (suc n) [] = beyond n []
beyond (suc n) (x ∷ a) = beyond n a

pub length_exponents : (n : ℕ) (a : List ℕ) → length (exponents n a) ≡ n
unfolding exponents
length_exponents zero a = refl
length_exponents (suc n) [] = ap suc (length_exponents n [])
length_exponents (suc n) (x ∷ a) = ap suc (length_exponents n a)

pub exponents_ext : (n : ℕ) (a b : List ℕ) → ((i : ℕ) → exponent a i ≡ exponent b i) → exponents n a ≡ exponents n b
unfolding exponents
exponents_ext zero a b e = refl
exponents_ext (suc n) [] [] e = refl
exponents_ext (suc n) [] (y ∷ b) e = ap₂ ◌∷◌ (e 0) (exponents_ext n [] b (λ i. e (suc i)))
exponents_ext (suc n) (x ∷ a) [] e = ap₂ ◌∷◌ (e 0) (exponents_ext n a [] (λ i. e (suc i)))
exponents_ext (suc n) (x ∷ a) (y ∷ b) e = ap₂ ◌∷◌ (e 0) (exponents_ext n a b (λ i. e (suc i)))

pub exponents_all : (n : ℕ) (a : List ℕ) → length a ≡ n → exponents n a ≡ a
unfolding exponents
exponents_all zero [] e = refl
exponents_all zero (x ∷ a) e = absurd (omega arith)
exponents_all (suc n) [] e = absurd (omega arith)
exponents_all (suc n) (x ∷ a) e = ap (λ l. x ∷ l) (exponents_all n a (omega arith))

exponent_exponents : (n : ℕ) (a : List ℕ) → length a ≤ n → (i : ℕ) → exponent (exponents n a) i ≡ exponent a i
unfolding exponents
exponent_exponents zero [] h i = refl
exponent_exponents zero (x ∷ a) h i = absurd (omega arith)
exponent_exponents (suc n) [] h zero = refl
exponent_exponents (suc n) [] h (suc i) = exponent_exponents n [] (omega arith) i
exponent_exponents (suc n) (x ∷ a) h zero = refl
exponent_exponents (suc n) (x ∷ a) h (suc i) = exponent_exponents n a (omega arith) i

-- the way back to a list of a given length
pub exponents_mono : (n : ℕ) (a : List ℕ) → length a ≡ n → exponents n (mono a).0 ≡ a
exponents_mono n a e = exponents_ext n _ a (exponent_mono a) ∙ exponents_all n a e

-- and forth, for a monomial in the first n variables
pub mono_exponents : (n : ℕ) (m : Mon) → length m.0 ≤ n → mono (exponents n m.0) ≡ m
mono_exponents n m h = mon_ext _ m (λ i. exponent_mono (exponents n m.0) i ∙ exponent_exponents n m.0 h i)

-- lists of one length with one monomial are one list
pub mono_injective : (a b : List ℕ) → length a ≡ length b → mono a ≡ mono b → a ≡ b
mono_injective a b l e = sym (exponents_mono (length b) a l) ∙ ap (λ u. exponents (length b) u.0) e ∙ exponents_mono (length b) b refl
