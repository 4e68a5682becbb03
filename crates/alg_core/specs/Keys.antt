-- Where a coefficient of a vector stands: a position and a monomial. One type of keys serves all spaces.
--
--   TermPlace         a position and a list of exponents, as a term of a space has them
--   Key               a module monomial, here called a key: a position and a monomial
--   key p             the key of a place
--   keys              the keys as a monoid: positions add, so that position 0 is that of polynomials
--   times_key m t     the monomial m times the key t
--   KeyDivides s t    some monomial times s is t: the positions are equal and the monomials divide
use Rattle.std.specs.Prelude.{◌≡◌, ℕ, ◌+◌, List, length}
use mathlib.Core.Path.{ap, ap₂, ◌∙◌}
use mathlib.Core.HLevel.{×_discrete}
use native.Mathlib.Decide.{ℕ_discrete}
use native.Mathlib.Omega.{arith}
use Rattle.alg_core.specs.Rings.{Monoid}
use Rattle.alg_core.specs.Monomials.{Mon, monomials, mono, mon_same, mon_cancel, Divides, divides_dec, mono_injective}

-- a position and exponents
abbrev pub TermPlace : Type 0
TermPlace = ℕ × List ℕ

-- a position and a monomial
abbrev pub Key : Type 0
Key = ℕ × Mon

pub key_same : (s t : Key) → Dec (s ≡ t)
key_same s t = ×_discrete ℕ_discrete mon_same s t

-- the key of a place
unfoldable pub key : TermPlace → Key
key p = (p.0, mono p.1)

-- places with exponents for equally many variables and with one key are one place
pub key_injective : (p q : TermPlace) → length p.1 ≡ length q.1 → key p ≡ key q → p ≡ q
unfolding key
key_injective p q l e = ap₂ (λ i a. (i, a)) (ap (λ u. u.0) e) (mono_injective p.1 q.1 l (ap (λ u. u.1) e))

-- the keys as a monoid: positions add
unfoldable pub keys : Monoid Key
keys = record {
  one = (0, monomials.one);
  ◌·◌ = λ s t. (s.0 + t.0, monomials.◌·◌ s.1 t.1);
  assoc = λ s t u. ap₂ (λ i m. (i, m)) (omega arith) (monomials.assoc s.1 t.1 u.1);
  comm = λ s t. ap₂ (λ i m. (i, m)) (omega arith) (monomials.comm s.1 t.1);
  mul_one = λ s. ap₂ (λ i m. (i, m)) (omega arith) (monomials.mul_one s.1);
}

pub keys_cancel : (s t u : Key) → keys.◌·◌ s t ≡ keys.◌·◌ s u → t ≡ u
unfolding keys
keys_cancel s t u e = let i : s.0 + t.0 ≡ s.0 + u.0 = ap (λ x. x.0) e in ap₂ (λ i m. (i, m)) (omega arith) (mon_cancel s.1 t.1 u.1 (ap (λ x. x.1) e))

-- a monomial times a key: the position stays
abbrev pub times_key : Mon → Key → Key
times_key m t = (t.0, monomials.◌·◌ m t.1)

pub times_key_mul : (m n : Mon) (t : Key) → times_key (monomials.◌·◌ m n) t ≡ times_key m (times_key n t)
times_key_mul m n t = ap (λ a. (t.0, a)) (monomials.assoc m n t.1)

pub times_key_one : (t : Key) → times_key monomials.one t ≡ t
times_key_one t = ap (λ a. (t.0, a)) (monomials.comm monomials.one t.1 ∙ monomials.mul_one t.1)

pub times_key_cancel : (m : Mon) (s t : Key) → times_key m s ≡ times_key m t → s ≡ t
times_key_cancel m s t e = ap₂ (λ i a. (i, a)) (ap (λ u. u.0) e) (mon_cancel m s.1 t.1 (ap (λ u. u.1) e))

-- a multiple is a product of keys
pub times_key_product : (m : Mon) (t : Key) → times_key m t ≡ keys.◌·◌ (0, m) t
unfolding keys
times_key_product m t = ap (λ i. (i, monomials.◌·◌ m t.1)) (omega arith)

-- some monomial times the first is the second
abbrev pub KeyDivides : Key → Key → Type 0
KeyDivides s t = (m : Mon) × (times_key m s ≡ t)

pub key_divides_dec : (s t : Key) → Dec (KeyDivides s t)
key_divides_dec s t = go (ℕ_discrete s.0 t.0) (divides_dec s.1 t.1)
  where
    go : Dec (s.0 ≡ t.0) → Dec (Divides s.1 t.1) → Dec (KeyDivides s t)
    go (yes p) (yes d) = yes (d.0, ap₂ (λ i a. (i, a)) p (monomials.comm d.0 s.1 ∙ d.1))
    go (yes p) (no d) = no (λ q. d (q.0, monomials.comm s.1 q.0 ∙ ap (λ u. u.1) q.1))
    go (no p) d = no (λ q. p (ap (λ u. u.0) q.1))
