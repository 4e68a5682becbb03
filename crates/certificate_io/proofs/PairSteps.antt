-- Two parts with a space between them.
use Rattle.std.proofs.Common.{◌≡◌, ◌∙◌, ℕ, Bool, true, false, List, ◌++◌, Option, Some, None, sym, ap, subst, arith}
use Rattle.std.specs.Prelude.{◌↔◌, IsTrue}
use Rattle.poly_text.specs.Syntax.{HasPolynomialText, HasMonomialText}
use Rattle.certificate_io.specs.Lines.{after, IsSplit, IsNumber, IsPairText}
use Rattle.certificate_io.proofs.LineWords.{polynomial_plain, monomial_plain, decimal_plain}
use Rattle.certificate_io.proofs.Splits.{Free, same_split}

pub not_told : {P : Type 0} (b : Bool) → (b ≡ true) ↔ P → b ≡ false → ¬ P
not_told b told e = λ p. let bad : false ≡ true = sym e ∙ told.1 p in absurd cc

pub true_told : (b c : Bool) → b ≡ c → (b ≡ true) ↔ IsTrue c
true_told b c e = (λ yes. sym e ∙ yes, λ h. e ∙ h)

pub polynomial_free : (w : List ℕ) → HasPolynomialText w → Free 32 w
polynomial_free w h = (polynomial_plain w h).unspaced

pub monomial_free : (w : List ℕ) → HasMonomialText w → Free 32 w
monomial_free w h = (monomial_plain w h).unspaced

pub exponent_free : (w : List ℕ) → ((n : ℕ) × IsNumber 9999 n w) → Free 32 w
exponent_free w h = subst (Free 32) h.1.1 (decimal_plain h.0 (omega (arith, h.1.0.1))).unspaced

module _ (P Q : List ℕ → Type 0) (free : (w : List ℕ) → P w → Free 32 w) (text w : List ℕ) (o : Option (List ℕ)) (split : IsSplit 32 text w o) where
  parts : (p : IsPairText P Q text) → (w ≡ p.first) × (o ≡ Some p.second)
  parts p = same_split 32 text w p.first o (Some p.second) split (free p.first p.is_first) (sym p.joins)

  pub pair_none : o ≡ None → (false ≡ true) ↔ IsPairText P Q text
  pair_none none = (λ bad. absurd cc, λ p. let bad : None ≡ Some p.second = sym none ∙ (parts p).1 in absurd cc)

  pub pair_other : ¬ P w → (false ≡ true) ↔ IsPairText P Q text
  pair_other not = (λ bad. absurd cc, λ p. absurd (not (subst P (sym (parts p).0) p.is_first)))

  pub pair_second : (rest : List ℕ) → o ≡ Some rest → P w → (b : Bool) → (b ≡ true) ↔ Q rest → (b ≡ true) ↔ IsPairText P Q text
  pair_second rest is first b told = (
    λ yes. record { first = w; second = rest; is_first = first; is_second = told.0 yes; joins = sym (split.whole ∙ ap (λ p. w ++ after 32 p) is) },
    λ p. let same : rest ≡ p.second = some_same rest p.second (sym is ∙ (parts p).1) in told.1 (subst Q (sym same) p.is_second),
  )
    where
      some_same : (x y : List ℕ) → Some x ≡ Some y → x ≡ y
      some_same x y e = cc
