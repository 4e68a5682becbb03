-- Divisibility, quotients and least common multiples of keys, and of terms of the program against their keys.
use Rattle.std.proofs.Common.{◌≡◌, ◌≢◌, ◌↔◌, ℕ, ◌==◌, Bool, true, IsTrue, length, sym, ap, ap₂, ◌∙◌, refl, arith}
use Rattle.std.proofs.lemmas.Bool.Decides.{nat_tests}
use Rattle.alg_core.specs.ExponentLists.{quotient, lcm, divides}
use Rattle.alg_core.specs.Monomials.{monomials, mono, Divides}
use Rattle.alg_core.specs.Keys.{TermPlace, Key, key, times_key, KeyDivides}
use Rattle.alg_core.specs.CommonMultiples.{common_multiple, lcm_left, lcm_right, lcm_least}
use Rattle.alg_core.proofs.MonomialLists.{mono_lcm, mono_divides, divides_mono, mono_quotient}

key_divides : (s t : Key) → s.0 ≡ t.0 → Divides s.1 t.1 → KeyDivides s t
key_divides s t p d = (d.0, ap₂ (λ i a. (i, a)) p (monomials.comm d.0 s.1 ∙ d.1))

divides_key : (s t : Key) → KeyDivides s t → Divides s.1 t.1
divides_key s t d = (d.0, monomials.comm s.1 d.0 ∙ ap (λ u. u.1) d.1)

pub key_lcm_left : (s t : Key) → KeyDivides s (common_multiple s t)
key_lcm_left s t = key_divides s (common_multiple s t) refl (lcm_left s.1 t.1)

pub key_lcm_right : (s t : Key) → s.0 ≡ t.0 → KeyDivides t (common_multiple s t)
key_lcm_right s t p = key_divides t (common_multiple s t) (sym p) (lcm_right s.1 t.1)

pub key_lcm_least : (s t u : Key) → KeyDivides s u → KeyDivides t u → KeyDivides (common_multiple s t) u
key_lcm_least s t u p q = key_divides (common_multiple s t) u (ap (λ r. r.0) p.1) (lcm_least s.1 t.1 u.1 (divides_key s u p) (divides_key t u q))

module _ (p q : TermPlace) (same : length p.1 ≡ length q.1) where
  -- at one position the test of the monomials is divisibility of keys
  pub place_divides : p.0 ≡ q.0 → (r : Bool) → r ≡ divides p.1 q.1 → IsTrue r ↔ KeyDivides (key p) (key q)
  unfolding key
  place_divides e r is = (
    λ h. key_divides (key p) (key q) e (mono_divides p.1 q.1 same (sym is ∙ to_true r h)),
    λ d. from_true r (is ∙ divides_mono p.1 q.1 same (divides_key (key p) (key q) d)),
  )
    where
      to_true : (r : Bool) → IsTrue r → r ≡ true
      to_true r h = grind arith

      from_true : (r : Bool) → r ≡ true → IsTrue r
      from_true r h = grind arith

  -- terms of two positions do not divide each other
  pub place_apart : p.0 ≢ q.0 → IsTrue (p.0 == q.0) ↔ KeyDivides (key p) (key q)
  unfolding key
  place_apart n = (λ h. absurd (n (equal p.0 q.0 h)), λ d. absurd (n (ap (λ u. u.0) d.1)))
    where
      equal : (x y : ℕ) → IsTrue (x == y) → x ≡ y
      equal x y h = grind (arith, nat_tests)

  exponents_divide : KeyDivides (key p) (key q) → divides p.1 q.1 ≡ true
  unfolding key
  exponents_divide d = divides_mono p.1 q.1 same (divides_key (key p) (key q) d)

  pub place_divides_test : KeyDivides (key p) (key q) → IsTrue (divides p.1 q.1)
  place_divides_test d = test (divides p.1 q.1) (exponents_divide d)
    where
      test : (b : Bool) → b ≡ true → IsTrue b
      test b h = grind arith

  -- the quotient times the divisor
  pub place_quotient : KeyDivides (key p) (key q) → times_key (mono (quotient q.1 p.1)) (key p) ≡ key q
  unfolding key
  place_quotient d = ap₂ (λ i a. (i, a)) (ap (λ u. u.0) d.1) (monomials.comm (mono (quotient q.1 p.1)) (mono p.1) ∙ mono_quotient q.1 p.1 (sym same) (exponents_divide d))

  pub place_lcm : key (p.0, lcm p.1 q.1) ≡ common_multiple (key p) (key q)
  unfolding key
  place_lcm = ap (λ m. (p.0, m)) (mono_lcm p.1 q.1 same)
