-- The digits of a number, written from the last one on to the end of 39 bytes.
use Rattle.std.proofs.Common.{◌≡◌, ℕ, ◌+◌, ◌-◌, ◌/◌, ◌%◌, ◌<◌, ◌≤◌, ◌^◌, List, [], ◌∷◌, ◌++◌, length, drop, set, sym, ap, ◌∙◌, append_assoc, append-nil, length-append, length-set, ⊎_elim, arith}
use Rattle.std.specs.Prelude.{decimal}
use Rattle.std.proofs.Math.ListN.{drop_of_length-le}
use Rattle.std.proofs.lemmas.Bool.{cases_lt}
use Rattle.std.proofs.lemmas.Fmt.{decimal_digit, decimal_step_wide, length-decimal-le_wide}
use Rattle.std.proofs.lemmas.List.{drop-set}

-- the digits of `rest` are still to be written, before the place `start`
pub record Placed (number rest start : ℕ) (bytes : List ℕ) : Type 0 where
  pub size : length bytes ≡ 39
  pub room : length (decimal rest) ≤ start
  pub within : start ≤ 39
  pub text : decimal rest ++ drop start bytes ≡ decimal number

pub Placed-none : (number : ℕ) (bytes : List ℕ) → number < 2 ^ 128 → length bytes ≡ 39 → Placed number number 39 bytes
Placed-none number bytes small size =
    let nothing : drop 39 bytes ≡ [] = drop_of_length-le bytes {i = 39} (omega arith) in
    record {
      size = size;
      room = length-decimal-le_wide 39 number (omega arith) (omega arith) (omega arith);
      within = omega arith;
      text = ap (λ (t : List ℕ). decimal number ++ t) nothing ∙ append-nil (decimal number);
    }

-- one byte before the place
put : (bytes : List ℕ) (start b : ℕ) → 1 ≤ start → start ≤ 39 → length bytes ≡ 39 → drop (start - 1) (set bytes (start - 1) b) ≡ b ∷ drop start bytes
put bytes start b some within size =
    let same : start - 1 + 1 ≡ start = omega arith in
    drop-set bytes (start - 1) b (omega arith) ∙ ap (λ (n : ℕ). b ∷ drop n bytes) same

pub Placed-some : (number rest start : ℕ) (bytes : List ℕ) → rest < 2 ^ 128 → Placed number rest start bytes → 1 ≤ start
Placed-some number rest start bytes small placed = ⊎_elim one more (cases_lt rest 10)
  where
    one : rest < 10 → 1 ≤ start
    one lt = omega (arith, placed.room, ap length (decimal_digit rest lt))

    more : 10 ≤ rest → 1 ≤ start
    more le = omega (arith, placed.room, ap length (decimal_step_wide rest le (omega arith)), length-append (decimal (rest / 10)) ((48 + rest % 10) ∷ []))

pub Placed-more : (number rest start : ℕ) (bytes : List ℕ) → rest < 2 ^ 128 → 10 ≤ rest → Placed number rest start bytes → Placed number (rest / 10) (start - 1) (set bytes (start - 1) (48 + rest % 10))
Placed-more number rest start bytes small more placed =
    let digit = 48 + rest % 10 in
    let step : decimal rest ≡ decimal (rest / 10) ++ (digit ∷ []) = decimal_step_wide rest more (omega arith) in
    let long : length (decimal rest) ≡ length (decimal (rest / 10)) + 1 = ap length step ∙ length-append (decimal (rest / 10)) (digit ∷ []) in
    let some : 1 ≤ start = omega (arith, placed.room) in
    record {
      size = length-set bytes (start - 1) digit ∙ placed.size;
      room = omega (arith, placed.room);
      within = omega (arith, placed.within);
      text =
          ap (λ (t : List ℕ). decimal (rest / 10) ++ t) (put bytes start digit some placed.within placed.size)
          ∙ sym (append_assoc (decimal (rest / 10)) (digit ∷ []) (drop start bytes))
          ∙ ap (λ (t : List ℕ). t ++ drop start bytes) (sym step)
          ∙ placed.text;
    }

pub Placed-all : (number rest start : ℕ) (bytes : List ℕ) → rest < 10 → Placed number rest start bytes → drop (start - 1) (set bytes (start - 1) (48 + rest)) ≡ decimal number
Placed-all number rest start bytes one placed =
    let last : decimal rest ≡ (48 + rest) ∷ [] = decimal_digit rest one in
    let some : 1 ≤ start = omega (arith, placed.room, ap length last) in
    put bytes start (48 + rest) some placed.within placed.size
    ∙ ap (λ (t : List ℕ). t ++ drop start bytes) (sym last)
    ∙ placed.text
