-- The numbers of new combinations above a given one: the next of them, and where there is none.
use Rattle.std.proofs.Common.{◌≡◌, ◌∙◌, ℕ, zero, suc, ◌+◌, ◌-◌, ◌*◌, ◌^◌, ◌<◌, ◌≤◌, Bool, true, false, cond, [], ◌∷◌, filter, replicate, sym, ap, ap₂, refl, arith}
use Rattle.std.specs.Prelude.{nat_le}
use Rattle.std.specs.List.{range_with_len}
use Rattle.std.proofs.Math.Nat.{pow-zero, pow-succ', pow-le-pow_right}
use Rattle.std.proofs.lemmas.Bool.Decides.{nat_tests}
use Rattle.primary_search.specs.Candidates.{digits, number_of, is_new, new_numbers}
use Rattle.primary_search.specs.CandidateLists.{numbers_above, one_then_zeros}
use Rattle.primary_search.proofs.DigitLaws.{new_between, number_none, others_zeros}

module _ (p : ℕ → Bool) where
  -- the first number passes
  filter_first : (a n : ℕ) → p a ≡ true → filter p (range_with_len a (suc n)) ≡ a ∷ filter p (range_with_len (a + 1) n)
  filter_first a n e = ap (λ b. cond b (a ∷ filter p (range_with_len (a + 1) n)) (filter p (range_with_len (a + 1) n))) e

  -- or does not
  filter_later : (a n : ℕ) → p a ≡ false → filter p (range_with_len a (suc n)) ≡ filter p (range_with_len (a + 1) n)
  filter_later a n e = ap (λ b. cond b (a ∷ filter p (range_with_len (a + 1) n)) (filter p (range_with_len (a + 1) n))) e

  -- the first ones do not pass
  filter_skip : (j a n c b : ℕ) → c ≡ j + n → b ≡ a + j → ((x : ℕ) → a ≤ x → x < a + j → p x ≡ false) → filter p (range_with_len a c) ≡ filter p (range_with_len b n)
  filter_skip zero a n c b e f none = let g : c ≡ n = omega arith in let h : a ≡ b = omega arith in ap₂ (λ x y. filter p (range_with_len x y)) h g
  filter_skip (suc j) a n c b e f none =
      let g : c ≡ suc (j + n) = omega arith in
      ap (λ x. filter p (range_with_len a x)) g ∙ filter_later a (j + n) (none a (omega arith) (omega arith))
      ∙ filter_skip j (a + 1) n (j + n) b refl (omega arith) (λ x l h. none x (omega arith) (omega arith))

  -- none passes
  filter_none : (n a : ℕ) → ((x : ℕ) → a ≤ x → x < a + n → p x ≡ false) → filter p (range_with_len a n) ≡ []
  filter_none zero a none = refl
  filter_none (suc n) a none = filter_later a n (none a (omega arith) (omega arith)) ∙ filter_none n (a + 1) (λ x l h. none x (omega arith) (omega arith))

not_yes : (b : Bool) → ¬ (b ≡ true) → b ≡ false
not_yes true n = absurd (n refl)
not_yes false n = refl

module _ (q : ℕ) (big : 2 ≤ q) (m : ℕ) where
  abbrev New : ℕ → Bool
  New N = is_new (digits m q N)

  power_le : (a b : ℕ) → a ≤ b → q ^ a ≤ q ^ b
  power_le a b h = pow-le-pow_right (omega arith) h

  -- no number of a new combination lies from twice a power up to the next power
  pub none_between : (l x : ℕ) → 2 * q ^ l ≤ x → x ≤ q ^ suc l → x < q ^ m → New x ≡ false
  none_between l x from to low = not_yes (New x) (λ new. go (new_between q big m x low new))
    where
      go : (j : ℕ) × (j < m) × (q ^ j < x) × (x < 2 * q ^ j) → ⊥
      go b = side (nat_le b.0 l) refl
        where
          side : (t : Bool) → nat_le b.0 l ≡ t → ⊥
          side true e = let h : b.0 ≤ l = grind (arith, nat_tests) in let r = power_le b.0 l h in let y = b.3 in omega arith
          side false e = let h : suc l ≤ b.0 = grind (arith, nat_tests) in let r = power_le (suc l) b.0 h in let y = b.2 in omega arith

  -- a number up to 1 is none
  none_small : (x : ℕ) → x ≤ 1 → x < q ^ m → New x ≡ false
  none_small x small low = not_yes (New x) (λ new. let b = new_between q big m x low new in let r = power_le 0 b.0 (omega arith) in let z = pow-zero q in let y = b.2 in omega arith)

  -- the next number
  pub above_next : (N M : ℕ) → N < M → M < q ^ m → New M ≡ true → ((x : ℕ) → N < x → x < M → New x ≡ false) → numbers_above q m N ≡ M ∷ numbers_above q m M
  unfolding numbers_above
  above_next N M less low new none =
      let j = M - suc N in
      let n = q ^ m - suc M in
      let count : q ^ m - suc N ≡ j + suc n = omega arith in
      let after : M + 1 ≡ suc M = omega arith in
      filter_skip New j (suc N) (suc n) (q ^ m - suc N) M count (omega arith) (λ x l h. none x (omega arith) (omega arith))
      ∙ filter_first New M n new ∙ ap (λ a. M ∷ filter New (range_with_len a n)) after

  -- there is no other
  pub above_none : (N : ℕ) → ((x : ℕ) → N < x → x < q ^ m → New x ≡ false) → numbers_above q m N ≡ []
  unfolding numbers_above
  above_none N none = filter_none New (q ^ m - suc N) (suc N) (λ x l h. none x (omega arith) (omega arith))

-- from the number 1 on there are all of them
pub above_one : (q : ℕ) → 2 ≤ q → (m : ℕ) → numbers_above q m (number_of q (one_then_zeros m)) ≡ new_numbers q m
unfolding numbers_above new_numbers
above_one q big zero =
    let e = pow-zero q in
    let none : q ^ 0 - 1 ≡ 0 = omega arith in
    ap (λ c. filter (New q big 0) (range_with_len 1 c)) none ∙ sym (ap (λ c. filter (New q big 0) (range_with_len 0 c)) e)
above_one q big (suc m) =
    let e = number_none q big (replicate m 0) (others_zeros m) in
    let t : q * number_of q (replicate m 0) ≡ q * 0 = ap (λ x. q * x) e in
    let one : number_of q (one_then_zeros (suc m)) ≡ 1 = omega arith in
    let r = power_le q big (suc m) 1 (suc m) (omega arith) in
    let s = pow-succ' q 0 in
    let z = pow-zero q in
    let large : 2 ≤ q ^ suc m = large_power (q ^ 1) (q ^ 0) (q ^ suc m) r s z in
    let count : q ^ suc m ≡ 2 + (q ^ suc m - 2) = omega arith in
    ap (λ N. filter (New q big (suc m)) (range_with_len (suc N) (q ^ suc m - suc N))) one
    ∙ sym (filter_skip (New q big (suc m)) 2 0 (q ^ suc m - 2) (q ^ suc m) 2 count (omega arith) (λ x l h. none_small q big (suc m) x (omega arith) (omega arith)))
  where
    large_power : (a b c : ℕ) → a ≤ c → a ≡ q * b → b ≡ 1 → 2 ≤ c
    large_power a b c l e f = let t : q * b ≡ q * 1 = ap (λ x. q * x) f in omega arith
