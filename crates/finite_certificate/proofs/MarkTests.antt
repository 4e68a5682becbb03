-- Whether a monomial has a mark, by its exponents.
use Rattle.std.proofs.Common.{◌≡◌, ◌<◌, ◌≤◌, ◌+◌, ℕ, zero, suc, List, [], ◌∷◌, length, get_or, refl, sym, subst, ◌∙◌, arith}
use native.Mathlib.Decide.{dec_le}
use Rattle.alg_core.specs.Keys.{key}
use Rattle.alg_core.specs.Spaces.{entry}
use Rattle.alg_core.specs.declared.term.Term.{Term}
use Rattle.finite_certificate.specs.MarkSpaces.{HasMark}
use Rattle.alg_core.specs.Monomials.{exponent, mono, exponent_mono}
use Rattle.alg_core.proofs.MonomialLists.{exponent_past, length_mon}

-- an exponent after the first n that is not 0
pub marked : (n i : ℕ) (a : List ℕ) → n ≤ i → 0 < exponent a i → n < length (mono a).0
marked n i a low some = at (dec_le (length (mono a).0) i)
  where
    at : Dec (length (mono a).0 ≤ i) → n < length (mono a).0
    at (yes past) =
        let none = exponent_past (mono a).0 i past in
        let same = exponent_mono a i in
        absurd (omega arith)
    at (no within) = omega arith

-- all exponents after the first n are 0
pub unmarked : (n : ℕ) (a : List ℕ) → ((i : ℕ) → n ≤ i → exponent a i ≡ 0) → ¬ (n < length (mono a).0)
unmarked n a none h = let short = length_mon n (mono a) (λ i low. exponent_mono a i ∙ none i low) in omega arith

-- the exponent at a place of the list
pub exponent_at : (a : List ℕ) (i : ℕ) → get_or a i 0 ≡ exponent a i
exponent_at [] i = refl
exponent_at (x ∷ a) zero = refl
exponent_at (x ∷ a) (suc i) = exponent_at a i

pub one_more : (n i : ℕ) (a : List ℕ) → get_or a i 0 ≤ 0 → ((j : ℕ) → n ≤ j → j < i → exponent a j ≡ 0) → (j : ℕ) → n ≤ j → j < i + 1 → exponent a j ≡ 0
one_more n i a here before j low high = at (dec_le i j)
  where
    at : Dec (i ≤ j) → exponent a j ≡ 0
    at (yes e) =
        let same : j ≡ i = omega arith in
        let read : get_or a j 0 ≤ 0 = subst (λ k. get_or a k 0 ≤ 0) (sym same) here in
        let is = exponent_at a j in
        omega arith
    at (no e) = before j low (omega arith)

pub all_zero : (n i : ℕ) (a : List ℕ) → length a ≤ i → ((j : ℕ) → n ≤ j → j < i → exponent a j ≡ 0) → (j : ℕ) → n ≤ j → exponent a j ≡ 0
all_zero n i a past before j low = at (dec_le i j)
  where
    at : Dec (i ≤ j) → exponent a j ≡ 0
    at (yes e) = exponent_past a j (omega arith)
    at (no e) = before j low (omega arith)

-- at the entries of a list of terms
module _ {E : Type 0} (n : ℕ) where
  pub term_marked : (x : Term E (List ℕ)) → n < length (mono x.at.mono).0 → HasMark n (key (entry (λ m. m) x).0)
  unfolding key
  term_marked x h = h

  pub marked_term : (x : Term E (List ℕ)) → HasMark n (key (entry (λ m. m) x).0) → n < length (mono x.at.mono).0
  unfolding key
  marked_term x h = h
