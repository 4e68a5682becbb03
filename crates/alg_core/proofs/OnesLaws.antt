-- Sums of ones: how many of them are 0.
use Rattle.std.proofs.Common.{◌≡◌, ◌↔◌, ℕ, zero, suc, ◌+◌, ◌*◌, ◌/◌, ◌%◌, ◌<◌, sym, ap, ap₂, ◌∙◌, refl, arith}
use Rattle.std.specs.Int.{◌∣◌}
use Rattle.std.proofs.lemmas.Nat.{div-add-mod'}
use Rattle.std.proofs.lemmas.Nat.Gcd.{dvd_of_mod-eq-zero, mod-eq-zero_of_dvd}
use Rattle.alg_core.specs.Fields.{FieldOn, Has, ones}

module _ {E : Type 0} (k : FieldOn E) where
  pub has_ones : (n : ℕ) → Has k (ones k n)
  has_ones zero = k.has_zero
  has_ones (suc n) = k.has_add _ _ k.has_one (has_ones n)

  ones_add : (m n : ℕ) → ones k (m + n) ≡ k.add (ones k m) (ones k n)
  ones_add zero n = ap (ones k) none ∙ sym (k.add_zero _ (has_ones n)) ∙ k.add_comm _ _ (has_ones n) k.has_zero
    where
      none : zero + n ≡ n
      none = omega arith
  ones_add (suc m) n = ap (ones k) more ∙ ap (k.add k.one) (ones_add m n) ∙ sym (k.add_assoc _ _ _ k.has_one (has_ones m) (has_ones n))
    where
      more : suc m + n ≡ suc (m + n)
      more = omega arith

  ones_multiple : (q : ℕ) → ones k (q * k.characteristic) ≡ k.zero
  ones_multiple zero = ap (ones k) none
    where
      none : zero * k.characteristic ≡ zero
      none = omega arith
  ones_multiple (suc q) = ap (ones k) more ∙ ones_add k.characteristic (q * k.characteristic) ∙ ap₂ k.add k.characteristic_zero (ones_multiple q) ∙ k.add_zero _ k.has_zero
    where
      more : suc q * k.characteristic ≡ k.characteristic + q * k.characteristic
      more = omega arith

  -- only the remainder counts
  ones_remainder : (n : ℕ) → ones k n ≡ ones k (n % k.characteristic)
  ones_remainder n =
      ap (ones k) (sym (div-add-mod' n k.characteristic)) ∙ ones_add (n / k.characteristic * k.characteristic) (n % k.characteristic)
      ∙ ap (λ a. k.add a (ones k (n % k.characteristic))) (ones_multiple (n / k.characteristic))
      ∙ k.add_comm _ _ k.has_zero (has_ones (n % k.characteristic)) ∙ k.add_zero _ (has_ones (n % k.characteristic))

  -- n ones are 0 exactly where the characteristic divides n
  pub ones_zero : (n : ℕ) → (ones k n ≡ k.zero) ↔ (k.characteristic ∣ n)
  ones_zero n = (
    λ e. dvd_of_mod-eq-zero k.characteristic (go (n % k.characteristic) below (sym (ones_remainder n) ∙ e)),
    λ d. ones_remainder n ∙ ap (ones k) (mod-eq-zero_of_dvd k.characteristic d),
  )
    where
      below : n % k.characteristic < k.characteristic
      below = let positive = k.characteristic_positive in omega arith

      go : (r : ℕ) → r < k.characteristic → ones k r ≡ k.zero → r ≡ 0
      go zero l e = refl
      go (suc r) l e = absurd (k.characteristic_least (suc r) (omega arith) l e)

  -- what holds exactly where a sum of ones is 0
  pub exactly_divided : {P : Type 0} (sum : E) (count n : ℕ) → sum ≡ ones k count → count ≡ n → (P ↔ (sum ≡ k.zero)) → P ↔ (k.characteristic ∣ n)
  exactly_divided sum count n is same h =
      let many : sum ≡ ones k n = is ∙ ap (ones k) same in
      (λ p. (ones_zero n).0 (sym many ∙ h.0 p), λ d. h.1 (many ∙ (ones_zero n).1 d))
