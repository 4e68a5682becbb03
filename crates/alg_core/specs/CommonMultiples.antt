-- Least common multiples of monomials.
--
--   differences b a    the exponents of b less those of a, 0 where those are greater
--   greatest a b       the greater of the exponents
--   mon_lcm a b        the least common multiple
--   common_multiple s t   the least common multiple of two keys of one position
use Rattle.std.specs.Prelude.{◌≡◌, ℕ, zero, suc, ◌-◌, ◌≤◌, max, List, [], ◌∷◌, refl}
use mathlib.Core.Path.{ap, ◌∙◌}
use native.Mathlib.Omega.{arith}
use Rattle.alg_core.specs.Keys.{Key}
use Rattle.alg_core.specs.Monomials.{exponent, Mon, mon_ext, mono, exponent_mono, monomials, exponent_mul, Divides}

-- the exponents of b less those of a
unfoldable pub differences : List ℕ → List ℕ → List ℕ
differences [] a = []
differences (y ∷ b) [] = y ∷ b
differences (y ∷ b) (x ∷ a) = (y - x) ∷ differences b a

-- the greater of the exponents
unfoldable pub greatest : List ℕ → List ℕ → List ℕ
greatest [] b = b
greatest (x ∷ a) [] = x ∷ a
greatest (x ∷ a) (y ∷ b) = max x y ∷ greatest a b

pub exponent_differences : (b a : List ℕ) (i : ℕ) → exponent (differences b a) i ≡ exponent b i - exponent a i
unfolding differences
exponent_differences [] a i = omega arith
exponent_differences (y ∷ b) [] i = omega arith
exponent_differences (y ∷ b) (x ∷ a) zero = refl
exponent_differences (y ∷ b) (x ∷ a) (suc i) = exponent_differences b a i

pub exponent_greatest : (a b : List ℕ) (i : ℕ) → exponent (greatest a b) i ≡ max (exponent a i) (exponent b i)
unfolding greatest
exponent_greatest [] b i = omega arith
exponent_greatest (x ∷ a) [] i = omega arith
exponent_greatest (x ∷ a) (y ∷ b) zero = refl
exponent_greatest (x ∷ a) (y ∷ b) (suc i) = exponent_greatest a b i

-- a monomial divides another exactly where no exponent is greater
pub divides_exponents : (a b : Mon) → Divides a b → (i : ℕ) → exponent a.0 i ≤ exponent b.0 i
divides_exponents a b d i =
    let p = exponent_mul a d.0 i in
    let e : exponent (monomials.◌·◌ a d.0).0 i ≡ exponent b.0 i = ap (λ m. exponent m.0 i) d.1 in
    omega arith

pub exponents_divide : (a b : Mon) → ((i : ℕ) → exponent a.0 i ≤ exponent b.0 i) → Divides a b
exponents_divide a b h = (
  mono (differences b.0 a.0),
  mon_ext _ _ (λ i.
      let p = exponent_mul a (mono (differences b.0 a.0)) i in
      let q = exponent_mono (differences b.0 a.0) i in
      let r = exponent_differences b.0 a.0 i in
      let s = h i in
      omega arith),
)

-- the least common multiple
pub mon_lcm : Mon → Mon → Mon
mon_lcm a b = mono (greatest a.0 b.0)

-- at the position of both
abbrev pub common_multiple : Key → Key → Key
common_multiple s t = (s.0, mon_lcm s.1 t.1)

pub exponent_lcm : (a b : Mon) (i : ℕ) → exponent (mon_lcm a b).0 i ≡ max (exponent a.0 i) (exponent b.0 i)
unfolding mon_lcm
exponent_lcm a b i = exponent_mono (greatest a.0 b.0) i ∙ exponent_greatest a.0 b.0 i

pub lcm_left : (a b : Mon) → Divides a (mon_lcm a b)
lcm_left a b = exponents_divide a (mon_lcm a b) (λ i. let p = exponent_lcm a b i in omega arith)

pub lcm_right : (a b : Mon) → Divides b (mon_lcm a b)
lcm_right a b = exponents_divide b (mon_lcm a b) (λ i. let p = exponent_lcm a b i in omega arith)

-- it divides each common multiple
pub lcm_least : (a b c : Mon) → Divides a c → Divides b c → Divides (mon_lcm a b) c
lcm_least a b c p q = exponents_divide (mon_lcm a b) c (λ i. let r = exponent_lcm a b i in let s = divides_exponents a c p i in let t = divides_exponents b c q i in omega arith)
