-- From the digits of one combination to those of the next.
use Rattle.std.proofs.Common.{◌≡◌, ◌∙◌, ℕ, zero, suc, ◌+◌, ◌-◌, ◌*◌, ◌^◌, ◌<◌, ◌≤◌, true, List, [], ◌∷◌, ◌++◌, length, take, drop, replicate, slice_set, get_or, sym, ap, ap₂, subst, refl, arith}
use Rattle.std.specs.Prelude.{All, ◌&&◌, nat_le}
use Rattle.std.proofs.Math.Nat.{pow-zero, pow-succ'}
use Rattle.std.proofs.lemmas.Bool.Decides.{nat_tests}
use Rattle.std.proofs.lemmas.List.Elements.{All-cons}
use Rattle.primary_search.specs.Candidates.{digits, number_of, others, ends_in_one, is_new}
use Rattle.primary_search.specs.CandidateLists.{AreDigits, numbers_above, one_then_zeros}
use Rattle.primary_search.proofs.DigitLaws.{ends_here, ends_later, others_zero, others_more, others_zeros, number_none, some_others, number_below, digits_number}
use Rattle.primary_search.proofs.NumbersAbove.{above_next, above_none, none_between}

-- one of the digits is not 0 where a later one is 1
others_last : (l : ℕ) (ds : List ℕ) (n : ℕ) → drop l ds ≡ one_then_zeros (suc n) → others ds ≡ others (take l ds) + 1
others_last zero ds n e = let a : others ds ≡ others (1 ∷ replicate n 0) = ap others e in let b = others_more 0 (replicate n 0) in let c = others_zeros n in omega arith
others_last (suc l) [] n e = absurd (let r : 0 ≡ suc (length (replicate n 0)) = ap length e in omega arith)
others_last (suc l) (zero ∷ ds) n e = let r = others_last l ds n e in let a = others_zero ds in let b = others_zero (take l ds) in omega arith
others_last (suc l) (suc d ∷ ds) n e = let r = others_last l ds n e in let a = others_more d ds in let b = others_more d (take l ds) in omega arith

ends_last : (l : ℕ) (ds : List ℕ) (n : ℕ) → drop l ds ≡ one_then_zeros (suc n) → ends_in_one ds ≡ true
ends_last zero ds n e = ap ends_in_one e ∙ ends_here 1 (replicate n 0) (others_zeros n)
ends_last (suc l) [] n e = absurd (let r : 0 ≡ suc (length (replicate n 0)) = ap length e in omega arith)
ends_last (suc l) (d ∷ ds) n e = ends_later d ds (others (take l ds)) (let r = others_last l ds n e in omega arith) ∙ ends_last l ds n e

-- and a new combination where there is another before it
pub last_new : (l : ℕ) (ds : List ℕ) (n : ℕ) → drop l ds ≡ one_then_zeros (suc n) → 0 < others (take l ds) → is_new ds ≡ true
last_new l ds n e some =
    let two : 2 ≤ others ds = let r = others_last l ds n e in omega arith in
    let t : nat_le 2 (others ds) ≡ true = grind (arith, nat_tests) in
    ap₂ ◌&&◌ (ends_last l ds n e) t

-- the last 1 becomes 0, and the digit after it 1
shifted : (l c : ℕ) (ds : List ℕ) → take l ds ≡ replicate l 0 → drop l ds ≡ one_then_zeros (suc (suc c))
    → slice_set (slice_set ds l 0) (suc l) 1 ≡ replicate (suc l) 0 ++ one_then_zeros (suc c)
shifted zero c [] zeros last = absurd (let r : 0 ≡ suc (suc (length (replicate c 0))) = ap length last in omega arith)
shifted zero c (d ∷ []) zeros last = absurd (let r : 1 ≡ suc (suc (length (replicate c 0))) = ap length last in omega arith)
shifted zero c (d ∷ e ∷ ds) zeros last = ap (λ x. 0 ∷ 1 ∷ x) (ap (drop (suc (suc zero))) last)
shifted (suc l) c [] zeros last = absurd (let r : 0 ≡ suc (suc (length (replicate c 0))) = ap length last in omega arith)
shifted (suc l) c (d ∷ ds) zeros last = ap₂ ◌∷◌ (ap (λ x. get_or x 0 0) zeros) (shifted l c ds (ap (drop (suc zero)) zeros) last)

-- the digits 1, then zeros, then a 1 at place l + 1, then zeros
pub moved : (l c : ℕ) (ds : List ℕ) → take l ds ≡ replicate l 0 → drop l ds ≡ one_then_zeros (suc (suc c))
    → slice_set (slice_set (slice_set ds l 0) (suc l) 1) 0 1 ≡ 1 ∷ (replicate l 0 ++ one_then_zeros (suc c))
moved l c ds zeros last = ap (λ x. slice_set x 0 1) (shifted l c ds zeros last)

after_zeros_take : (l : ℕ) (rest : List ℕ) → take l (replicate l 0 ++ rest) ≡ replicate l 0
after_zeros_take zero rest = refl
after_zeros_take (suc l) rest = ap (λ x. 0 ∷ x) (after_zeros_take l rest)

after_zeros_drop : (l : ℕ) (rest : List ℕ) → drop l (replicate l 0 ++ rest) ≡ rest
after_zeros_drop zero rest = refl
after_zeros_drop (suc l) rest = after_zeros_drop l rest

after_zeros_length : (l : ℕ) (rest : List ℕ) → length (replicate l 0 ++ rest) ≡ l + length rest
after_zeros_length zero rest = omega arith
after_zeros_length (suc l) rest = let r = after_zeros_length l rest in omega arith

zeros_length : (n : ℕ) → length {A = ℕ} (replicate n 0) ≡ n
zeros_length zero = refl
zeros_length (suc n) = ap suc (zeros_length n)

pub one_length : (n : ℕ) → length (one_then_zeros n) ≡ n
one_length zero = refl
one_length (suc n) = ap suc (zeros_length n)

module _ (q : ℕ) (big : 2 ≤ q) where
  zeros_low : (n : ℕ) → All (λ d. d < q) (replicate n 0)
  zeros_low zero = λ k d l. absurd (omega arith)
  zeros_low (suc n) = All-cons (λ d. d < q) 0 (replicate n 0) (omega arith) (zeros_low n)

  one_low : (n : ℕ) → All (λ d. d < q) (one_then_zeros n)
  one_low zero = λ k d l. absurd (omega arith)
  one_low (suc n) = All-cons (λ d. d < q) 1 (replicate n 0) (omega arith) (zeros_low n)

  after_zeros_low : (l : ℕ) (rest : List ℕ) → All (λ d. d < q) rest → All (λ d. d < q) (replicate l 0 ++ rest)
  after_zeros_low zero rest h = h
  after_zeros_low (suc l) rest h = All-cons (λ d. d < q) 0 (replicate l 0 ++ rest) (omega arith) (after_zeros_low l rest h)

  -- the digits that a list of candidates starts with
  pub start_digits : (m : ℕ) → AreDigits q (one_then_zeros m) 0
  start_digits m = let e = one_length m in let f : m ≡ length (one_then_zeros m) - 0 = omega arith in record { digits = one_low m; within = omega arith; last = ap one_then_zeros f }

  -- a number by its lower and its higher digits
  number_split : (l : ℕ) (ds : List ℕ) → l ≤ length ds → number_of q ds ≡ number_of q (take l ds) + q ^ l * number_of q (drop l ds)
  number_split zero ds h = let e = pow-zero q in let t : q ^ 0 * number_of q ds ≡ 1 * number_of q ds = ap (λ x. x * number_of q ds) e in omega arith
  number_split (suc l) [] h = absurd (omega arith)
  number_split (suc l) (d ∷ ds) h =
      let r = number_split l ds (omega arith) in
      let e = pow-succ' q l in
      let a = number_of q (take l ds) in
      let b = number_of q (drop l ds) in
      let t : q * number_of q ds ≡ q * (a + q ^ l * b) = ap (λ x. q * x) r in
      let u : q ^ suc l * b ≡ q * q ^ l * b = ap (λ x. x * b) e in
      regroup d (number_of q ds) a b (q ^ l) (q ^ suc l) t u
    where
      regroup : (d n a b p s : ℕ) → q * n ≡ q * (a + p * b) → s * b ≡ q * p * b → d + q * n ≡ (d + q * a) + s * b
      regroup d n a b p s t u = let v : q * (a + p * b) ≡ q * a + q * p * b = grind arith in omega arith

  one_number : (n : ℕ) → number_of q (one_then_zeros (suc n)) ≡ 1
  one_number n = let e = number_none q big (replicate n 0) (others_zeros n) in let t : q * number_of q (replicate n 0) ≡ q * 0 = ap (λ x. q * x) e in omega arith

  -- the number of digits the last of which is a 1
  last_number : (l : ℕ) (ds : List ℕ) → l < length ds → drop l ds ≡ one_then_zeros (length ds - l) → number_of q ds ≡ number_of q (take l ds) + q ^ l
  last_number l ds h last =
      let s = number_split l ds (omega arith) in
      let n : length ds - l ≡ suc (length ds - l - 1) = omega arith in
      let one : number_of q (drop l ds) ≡ 1 = ap (number_of q) (last ∙ ap one_then_zeros n) ∙ one_number (length ds - l - 1) in
      let t : q ^ l * number_of q (drop l ds) ≡ q ^ l * 1 = ap (λ x. q ^ l * x) one in
      omega arith

  -- digits of a new combination are those of its number
  digits_new : (l : ℕ) (ds : List ℕ) → AreDigits q ds l → l < length ds → 0 < others (take l ds) → is_new (digits (length ds) q (number_of q ds)) ≡ true
  digits_new l ds a h some =
      let n : length ds - l ≡ suc (length ds - l - 1) = omega arith in
      ap is_new (digits_number q big ds a.digits) ∙ last_new l ds (length ds - l - 1) (a.last ∙ ap one_then_zeros n) some

  pub record Advanced (ds new : List ℕ) (l : ℕ) : Type 0 where
    pub digits : AreDigits q new l
    pub next : numbers_above q (length ds) (number_of q ds) ≡ number_of q new ∷ numbers_above q (length ds) (number_of q new)

  module _ (l : ℕ) (ds new : List ℕ) (was : AreDigits q ds l) (same : length new ≡ length ds) (low : All (λ d. d < q) new) (rest : drop l new ≡ drop l ds) where
    last_new_digits : drop l new ≡ one_then_zeros (length new - l)
    last_new_digits = let e : length ds - l ≡ length new - l = omega arith in rest ∙ was.last ∙ ap one_then_zeros e

    some_digits : number_of q (take l new) ≡ number_of q (take l ds) + 1 → l < length ds
    some_digits more = go ds new same (was.within) more
      where
        go : (ds new : List ℕ) → length new ≡ length ds → l ≤ length ds - 1 → number_of q (take l new) ≡ number_of q (take l ds) + 1 → l < length ds
        go (d ∷ ds) new same within more = omega arith
        go [] new same within more = absurd (nothing l new (omega arith) more)
          where
            nothing : (l : ℕ) (new : List ℕ) → l ≡ 0 → number_of q (take l new) ≡ number_of q (take l []) + 1 → ⊥
            nothing zero new z more = omega arith
            nothing (suc l) new z more = omega arith

    -- where the lower digits could count on
    pub advanced_more : number_of q (take l new) ≡ number_of q (take l ds) + 1 → Advanced ds new l
    advanced_more more =
        let inside = some_digits more in
        let are : AreDigits q new l = record { digits = low; within = let w = was.within in omega arith; last = last_new_digits } in
        let a = last_number l ds inside was.last in
        let b = last_number l new (omega arith) last_new_digits in
        let step : number_of q new ≡ number_of q ds + 1 = omega arith in
        let top = number_below q big new low in
        let below : number_of q new < q ^ length ds = subst (λ n. number_of q new < q ^ n) same top in
        record {
          digits = are;
          next = above_next q big (length ds) (number_of q ds) (number_of q new) (omega arith) below
              (subst (λ n. is_new (digits n q (number_of q new)) ≡ true) same (digits_new l new are (omega arith) (some_others q big (take l new) (omega arith))))
              (λ x h g. absurd (omega arith));
        }

  module _ (l : ℕ) (ds new : List ℕ) (was : AreDigits q ds l) (same : length new ≡ length ds) (rest : drop l new ≡ drop l ds)
      (zeros : take l new ≡ replicate l 0) (over : number_of q (take l ds) + 1 ≡ q ^ l) where
    -- where they could not, and there is no place left
    pub advanced_over : length ds ≤ l + 1 → numbers_above q (length ds) (number_of q ds) ≡ []
    advanced_over past = go (length ds) refl
      where
        go : (m : ℕ) → length ds ≡ m → numbers_above q (length ds) (number_of q ds) ≡ []
        go zero e = above_none q big (length ds) (number_of q ds) (λ x h g. absurd (let z = pow-zero q in let p : q ^ length ds ≡ q ^ 0 = ap (λ n. q ^ n) e in omega arith))
        go (suc m) e =
            let w = was.within in
            let inside : l < length ds = omega arith in
            let a = last_number l ds inside was.last in
            let top : q ^ length ds ≡ q ^ suc l = ap (λ n. q ^ n) (let r : length ds ≡ suc l = omega arith in r) in
            above_none q big (length ds) (number_of q ds) (λ x h g. none_between q big (length ds) l x (omega arith) (omega arith) g)

    up : suc l < length ds → Advanced ds (slice_set (slice_set (slice_set new l 0) (suc l) 1) 0 1) (suc l)
    up inside = subst (λ x. Advanced ds x (suc l)) (sym (moved l after new zeros last_two)) (record { digits = are; next = next })
      where
        after : ℕ
        after = length new - suc (suc l)

        last_two : drop l new ≡ one_then_zeros (suc (suc after))
        last_two = let e : length ds - l ≡ suc (suc after) = omega arith in rest ∙ was.last ∙ ap one_then_zeros e

        tail : List ℕ
        tail = one_then_zeros (suc after)

        ms : List ℕ
        ms = 1 ∷ (replicate l 0 ++ tail)

        count : length ms ≡ length ds
        count = let a = after_zeros_length l tail in let b = one_length (suc after) in omega arith

        are : AreDigits q ms (suc l)
        are = record {
          digits = All-cons (λ d. d < q) 1 (replicate l 0 ++ tail) (omega arith) (after_zeros_low l tail (one_low (suc after)));
          within = let c = count in omega arith;
          last = let e : suc after ≡ length ms - suc l = let c = count in omega arith in after_zeros_drop l tail ∙ ap one_then_zeros e;
        }

        front : take (suc l) ms ≡ 1 ∷ replicate l 0
        front = ap (λ x. 1 ∷ x) (after_zeros_take l tail)

        number : number_of q ms ≡ 1 + q ^ suc l
        number =
            let a = last_number (suc l) ms (let c = count in omega arith) are.last in
            let b : number_of q (take (suc l) ms) ≡ 1 = ap (number_of q) front ∙ one_number l in
            omega arith

        grows_by : (a : ℕ) → 2 * a ≤ q * a
        grows_by a = grind arith

        next : numbers_above q (length ds) (number_of q ds) ≡ number_of q ms ∷ numbers_above q (length ds) (number_of q ms)
        next =
            let a = last_number l ds (omega arith) was.last in
            let n = number in
            let p = pow-succ' q l in
            let t = grows_by (q ^ l) in
            let top = number_below q big ms are.digits in
            let below : number_of q ms < q ^ length ds = subst (λ k. number_of q ms < q ^ k) count top in
            let some : 0 < others (take (suc l) ms) = let o : others (take (suc l) ms) ≡ others (1 ∷ replicate l 0) = ap others front in let r = others_more 0 (replicate l 0) in omega arith in
            above_next q big (length ds) (number_of q ds) (number_of q ms) (omega arith) below
            (subst (λ k. is_new (digits k q (number_of q ms)) ≡ true) count (digits_new (suc l) ms are (let c = count in omega arith) some))
            (λ x h g. none_between q big (length ds) l x (omega arith) (omega arith) (omega arith))

    -- where the last 1 moves up by one place
    pub advanced_up : (n : ℕ) → n ≡ suc l → n < length ds → Advanced ds (slice_set (slice_set (slice_set new l 0) n 1) 0 1) n
    advanced_up n e h = subst (λ i. Advanced ds (slice_set (slice_set (slice_set new l 0) i 1) 0 1) i) (sym e) (up (let a = e in let b = h in omega arith))
