-- Numbers by their digits, and between which powers those of new combinations lie.
use Rattle.std.proofs.Common.{◌≡◌, ◌∙◌, ℕ, zero, suc, ◌+◌, ◌*◌, ◌^◌, ◌/◌, ◌%◌, ◌<◌, ◌≤◌, ◌==◌, Bool, true, false, cond, List, [], ◌∷◌, length, replicate, sym, ap, ap₂, refl, arith}
use Rattle.std.specs.Prelude.{All, if◌then◌else◌, ◌&&◌, nat_le, not}
use Rattle.std.proofs.Math.Nat.{pow-zero, pow-succ', mod-add-div, mod-lt}
use Rattle.std.proofs.lemmas.Bool.Decides.{nat_tests}
use Rattle.std.proofs.lemmas.List.Elements.{All-cons, All-head, All-tail}
use Rattle.std.proofs.lemmas.List.Sums.{sum_by-cons}
use Rattle.std.proofs.lemmas.Nat.{div-mul-add, mod-mul-add}
use Rattle.primary_search.specs.Candidates.{digits, number_of, others, ends_in_one, is_new}

-- what both tests say
pub both_true : (a b : Bool) → (a && b) ≡ true → (a ≡ true) × (b ≡ true)
both_true true b e = (refl, e)
both_true false b e = absurd (grind (arith, nat_tests))

is_one : (d : ℕ) → (d == 1) ≡ true → d ≡ 1
is_one zero e = absurd (grind (arith, nat_tests))
is_one (suc zero) e = refl
is_one (suc (suc d)) e = absurd (grind (arith, nat_tests))

pub at_least_two : (n : ℕ) → nat_le 2 n ≡ true → 2 ≤ n
at_least_two n e = grind (arith, nat_tests)

abbrev counted : ℕ → ℕ
counted d = cond (not (d == 0)) 1 0

counted_more : (d : ℕ) → counted (suc d) ≡ 1
counted_more d = grind (arith, nat_tests)

-- how many digits are not 0
pub others_zero : (ds : List ℕ) → others (0 ∷ ds) ≡ others ds
others_zero ds = let e = sum_by-cons counted 0 ds in omega arith

pub others_more : (d : ℕ) (ds : List ℕ) → others (suc d ∷ ds) ≡ 1 + others ds
others_more d ds = let e = sum_by-cons counted (suc d) ds in let c = counted_more d in omega arith

pub others_zeros : (n : ℕ) → others (replicate n 0) ≡ 0
others_zeros zero = refl
others_zeros (suc n) = others_zero (replicate n 0) ∙ others_zeros n

-- how the last digit that is not 0 is found
pub ends_here : (d : ℕ) (ds : List ℕ) → others ds ≡ 0 → ends_in_one (d ∷ ds) ≡ (d == 1)
ends_here d ds e = ap (λ n. if n == 0 then d == 1 else ends_in_one ds) e

pub ends_later : (d : ℕ) (ds : List ℕ) (n : ℕ) → others ds ≡ suc n → ends_in_one (d ∷ ds) ≡ ends_in_one ds
ends_later d ds n e = let t : (others ds == 0) ≡ false = grind (arith, nat_tests) in ap (λ b. if b then d == 1 else ends_in_one ds) t

module _ (q : ℕ) (big : 2 ≤ q) where
  pub times_le : (a b : ℕ) → a ≤ b → q * a ≤ q * b
  times_le a b h = grind arith

  -- no digit but 0
  pub number_none : (ds : List ℕ) → others ds ≡ 0 → number_of q ds ≡ 0
  number_none [] e = refl
  number_none (zero ∷ ds) e = let c = others_zero ds in let r = number_none ds (omega arith) in let t : q * number_of q ds ≡ q * 0 = ap (λ x. q * x) r in omega arith
  number_none (suc d ∷ ds) e = absurd (let c = others_more d ds in omega arith)

  pub some_others : (ds : List ℕ) → 0 < number_of q ds → 0 < others ds
  some_others ds h = go (others ds) refl
    where
      go : (n : ℕ) → others ds ≡ n → 0 < others ds
      go zero e = absurd (let r = number_none ds e in omega arith)
      go (suc n) e = omega arith

  -- a number is below the power of its digits
  pub number_below : (ds : List ℕ) → All (λ d. d < q) ds → number_of q ds < q ^ length ds
  number_below [] h = let e = pow-zero q in omega arith
  number_below (d ∷ ds) h =
      let low = All-head (λ x. x < q) d ds h in
      let r = number_below ds (All-tail (λ x. x < q) d ds h) in
      let e = pow-succ' q (length ds) in
      let t : q * (number_of q ds + 1) ≤ q * q ^ length ds = times_le (number_of q ds + 1) (q ^ length ds) (omega arith) in
      below d (number_of q ds) (q * q ^ length ds) (q ^ suc (length ds)) low t e
    where
      below : (d x p r : ℕ) → d < q → q * (x + 1) ≤ p → r ≡ p → d + q * x < r
      below d x p r low t e = omega arith

  -- the digits of a number, and the number of digits
  pub digits_number : (ds : List ℕ) → All (λ d. d < q) ds → digits (length ds) q (number_of q ds) ≡ ds
  digits_number [] h = refl
  digits_number (d ∷ ds) h =
      let low = All-head (λ x. x < q) d ds h in
      let e : d + q * number_of q ds ≡ number_of q ds * q + d = omega arith in
      ap₂ ◌∷◌ (ap (λ x. x % q) e ∙ mod-mul-add (number_of q ds) q d low)
      (ap (digits (length ds) q) (ap (λ x. x / q) e ∙ div-mul-add (number_of q ds) q d low) ∙ digits_number ds (All-tail (λ x. x < q) d ds h))

  pub number_digits : (m N : ℕ) → N < q ^ m → number_of q (digits m q N) ≡ N
  number_digits zero N h = let e = pow-zero q in omega arith
  number_digits (suc m) N h =
      let e = pow-succ' q m in
      let s = mod-add-div N q in
      let r = number_digits m (N / q) (smaller (N / q) (q ^ m) (N % q) N (q ^ suc m) s h e) in
      let t : q * number_of q (digits m q (N / q)) ≡ q * (N / q) = ap (λ x. q * x) r in
      omega arith
    where
      smaller : (d p r n w : ℕ) → r + q * d ≡ n → n < w → w ≡ q * p → d < p
      smaller d p r n w s h e = go (nat_le p d) refl
        where
          go : (b : Bool) → nat_le p d ≡ b → d < p
          go true le = absurd (let l : p ≤ d = grind (arith, nat_tests) in let t = times_le p d l in omega arith)
          go false le = grind (arith, nat_tests)

  pub digits_length : (m N : ℕ) → length (digits m q N) ≡ m
  digits_length zero N = refl
  digits_length (suc m) N = ap suc (digits_length m (N / q))

  pub digits_low : (m N : ℕ) → All (λ d. d < q) (digits m q N)
  digits_low zero N = λ k d l. absurd (omega arith)
  digits_low (suc m) N = All-cons (λ d. d < q) (N % q) (digits m q (N / q)) (mod-lt N (omega arith)) (digits_low m (N / q))

  -- where the last digit that is not 0 is a 1, the number lies between its power and twice that
  pub record Between (ds : List ℕ) : Type 0 where
    pub place : ℕ
    pub within : place < length ds
    pub from : q ^ place ≤ number_of q ds
    pub to : number_of q ds < 2 * q ^ place
    pub past : 2 ≤ others ds → q ^ place < number_of q ds
    pub at : others ds ≡ 1 → number_of q ds ≡ q ^ place

  between : (ds : List ℕ) → All (λ d. d < q) ds → ends_in_one ds ≡ true → Between ds
  between [] h e = absurd (grind (arith, nat_tests))
  between (d ∷ ds) h e = go (others ds) refl (between ds (All-tail (λ x. x < q) d ds h))
    where
      here : others ds ≡ 0 → d ≡ 1 → Between (d ∷ ds)
      here none one =
          let p = pow-zero q in
          let n = number_none ds none in
          let t : q * number_of q ds ≡ q * 0 = ap (λ x. q * x) n in
          let c : others (d ∷ ds) ≡ 1 = ap (λ x. others (x ∷ ds)) one ∙ others_more 0 ds ∙ ap (λ x. 1 + x) none in
          record { place = 0; within = omega arith; from = omega arith; to = omega arith; past = λ two. absurd (omega arith); at = λ _. omega arith }

      later : (n : ℕ) → others ds ≡ suc n → Between ds → Between (d ∷ ds)
      later n more b =
          let p = pow-succ' q b.place in
          let low = All-head (λ x. x < q) d ds h in
          let f = times_le (q ^ b.place) (number_of q ds) b.from in
          let t = times_le (number_of q ds + 1) (2 * q ^ b.place) (let r = b.to in omega arith) in
          record {
            place = suc b.place;
            within = let w = b.within in omega arith;
            from = first d (number_of q ds) (q ^ b.place) (q ^ suc b.place) f p;
            to = second d (number_of q ds) (q ^ b.place) (q ^ suc b.place) low t p;
            past = λ two. third n d more two;
            at = λ one. fourth n d more one;
          }
        where
          first : (d x a p : ℕ) → q * a ≤ q * x → p ≡ q * a → p ≤ d + q * x
          first d x a p f e = omega arith

          second : (d x a p : ℕ) → d < q → q * (x + 1) ≤ q * (2 * a) → p ≡ q * a → d + q * x < 2 * p
          second d x a p low t e = let u : q * (2 * a) ≡ 2 * (q * a) = grind arith in omega arith

          third : (n d : ℕ) → others ds ≡ suc n → 2 ≤ others (d ∷ ds) → q ^ suc b.place < d + q * number_of q ds
          third zero zero e two = absurd (let c = others_zero ds in omega arith)
          third zero (suc d) e two = let r = b.at e in let s : q * number_of q ds ≡ q * q ^ b.place = ap (λ x. q * x) r in let p = pow-succ' q b.place in omega arith
          third (suc n) d e two = let r = b.past (omega arith) in let s = times_le (q ^ b.place + 1) (number_of q ds) (omega arith) in let p = pow-succ' q b.place in omega arith

          fourth : (n d : ℕ) → others ds ≡ suc n → others (d ∷ ds) ≡ 1 → d + q * number_of q ds ≡ q ^ suc b.place
          fourth zero zero e one = let r = b.at e in let s : q * number_of q ds ≡ q * q ^ b.place = ap (λ x. q * x) r in let p = pow-succ' q b.place in omega arith
          fourth zero (suc d) e one = absurd (let c = others_more d ds in omega arith)
          fourth (suc n) zero e one = absurd (let c = others_zero ds in omega arith)
          fourth (suc n) (suc d) e one = absurd (let c = others_more d ds in omega arith)

      go : (n : ℕ) → others ds ≡ n → (ends_in_one ds ≡ true → Between ds) → Between (d ∷ ds)
      go zero none rest = here none (is_one d (sym (ends_here d ds none) ∙ e))
      go (suc n) more rest = later n more (rest (sym (ends_later d ds n more) ∙ e))

  -- between which powers the number of a new combination lies
  pub new_between : (m N : ℕ) → N < q ^ m → is_new (digits m q N) ≡ true → (l : ℕ) × (l < m) × (q ^ l < N) × (N < 2 * q ^ l)
  new_between m N low new =
      let ds = digits m q N in
      let tests = both_true (ends_in_one ds) (nat_le 2 (others ds)) new in
      let b = between ds (digits_low m N) tests.0 in
      let n = number_digits m N low in
      let c = digits_length m N in
      let two = b.past (at_least_two (others ds) tests.1) in
      let within = b.within in
      let to = b.to in
      (b.place, omega arith, omega arith, omega arith)
