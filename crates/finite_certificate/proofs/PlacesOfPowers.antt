-- One power of a variable more, and the first that fails.
use Rattle.std.proofs.Common.{◌≡◌, ◌∙◌, ◌+◌, ◌≤◌, ◌<◌, ℕ, List, length, get_or, sym, ap, subst, arith}
use Rattle.std.specs.Prelude.{slice_index_or}
use Rattle.std.proofs.lemmas.List.{length-map, get_or-map}
use native.Mathlib.Decide.{dec_le}
use Rattle.alg_core.specs.Vectors.{Vect, zero_vector}
use Rattle.alg_core.specs.Spaces.{SpaceOver}
use Rattle.poly_module.specs.SpaceVectors.{vector_of}
use Rattle.finite_certificate.specs.Finiteness.{IsPower, IsPowerAt, powers_of, FiniteBy, IsFirstFailure}
use Rattle.finite_certificate.specs.declared.power.Power.{Power}

module _ {E : Type 0} (S : SpaceOver E) (n : ℕ) (θ : List (Vect S.field)) (ps : List (Power E)) where
  abbrev At : ℕ → Type 0
  At i = IsPowerAt S.field n θ (powers_of S ps) i

  read : (i : ℕ) (p : Power E) → i < length ps → p ≡ get_or ps i p → (p.exponent, vector_of S (λ m. m) p.form) ≡ slice_index_or (powers_of S ps) i (0, zero_vector S.field)
  read i p below is = ap (λ (q : Power E). (q.exponent, vector_of S (λ m. m) q.form)) is ∙ sym (get_or-map (λ (q : Power E). (q.exponent, vector_of S (λ m. m) q.form)) ps i p (0, zero_vector S.field) below)

  pub power_at : (i : ℕ) (p : Power E) → i < length ps → p ≡ get_or ps i p → IsPower S.field n θ i (p.exponent, vector_of S (λ m. m) p.form) → At i
  power_at i p below is h = subst (IsPower S.field n θ i) (read i p below is) h

  pub at_power : (i : ℕ) (p : Power E) → i < length ps → p ≡ get_or ps i p → At i → IsPower S.field n θ i (p.exponent, vector_of S (λ m. m) p.form)
  at_power i p below is h = subst (IsPower S.field n θ i) (sym (read i p below is)) h

  pub one_more : (i : ℕ) → At i → ((j : ℕ) → j < i → At j) → (j : ℕ) → j < i + 1 → At j
  one_more i here before j below = at (dec_le i j)
    where
      at : Dec (i ≤ j) → At j
      at (yes e) = let same : i ≡ j = omega arith in subst At same here
      at (no e) = before j (omega arith)

  pub all_powers : (i : ℕ) → length ps ≡ n → n ≤ i → ((j : ℕ) → j < i → At j) → FiniteBy S.field n θ (powers_of S ps)
  all_powers i count past all = record { count = length-map ps _ ∙ count; powers = λ j below. all j (omega arith) }

  pub first_failure : (i : ℕ) → i < n → ¬ At i → ((j : ℕ) → j < i → At j) → IsFirstFailure S.field n θ (powers_of S ps) (i + 1)
  first_failure i below fails before = record { place = i; from_one = omega arith; within = omega arith; fails = fails; before = before }

  pub not_finite : (i : ℕ) → i < n → ¬ At i → ¬ FiniteBy S.field n θ (powers_of S ps)
  not_finite i below fails h = fails (h.powers i below)
