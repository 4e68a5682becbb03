-- A number is read digit by digit.
use Rattle.std.proofs.Common.{◌≡◌, ◌≢◌, ◌∙◌, ℕ, zero, suc, ◌+◌, ◌-◌, ◌*◌, ◌<◌, ◌≤◌, ◌^◌, List, [], ◌∷◌, length, take, drop, take-append-drop, get_or, refl, sym, ap, subst, arith}
use Rattle.std.specs.Prelude.{All, decimal}
use Rattle.std.specs.Int.{IsInRange}
use Rattle.std.specs.List.{fold}
use Rattle.std.proofs.Math.Seq.{take-length}
use Rattle.std.proofs.lemmas.Fmt.{decimal_digit, decimal_nonempty, first_decimal, digits_decimal, digits_value-decimal, decimal-digits_value}
use Rattle.std.proofs.lemmas.List.Elements.{All-nil, All-more, All-get_or}
use Rattle.std.proofs.lemmas.List.Sums.{fold_more, fold-append}
use Rattle.std.proofs.lemmas.Str.Parse.{IsNumeralModel, numerals_by_fold, tells_by_index}
use Rattle.certificate_io.specs.Lines.{IsNumber}

abbrev onward : ℕ → List ℕ → ℕ
onward = fold (λ (n b : ℕ). n * 10 + (b - 48))

abbrev AreDigits : List ℕ → Type 0
AreDigits ds = (i : ℕ) → i < length ds → IsInRange 48 57 (get_or ds i 0)

own : IsNumeralModel AreDigits (onward 0)
own = numerals_by_fold AreDigits tells_by_index onward (record { empty = λ n. refl; more = λ n c cs h. refl })

-- the digits so far are those of n, which is at most the limit
pub record IsReadTo (limit : ℕ) (ds : List ℕ) (n : ℕ) : Type 0 where
  pub digits : All (IsInRange 48 57) ds
  pub value : n ≡ onward 0 ds
  pub within : n ≤ limit

pub read_none : (limit : ℕ) (text : List ℕ) → IsReadTo limit (take 0 text) 0
read_none limit text = record { digits = All-nil (IsInRange 48 57); value = refl; within = omega arith }

onward_more : (text : List ℕ) (i : ℕ) → i < length text → onward 0 (take (i + 1) text) ≡ onward 0 (take i text) * 10 + (get_or text i 0 - 48)
onward_more text i inside = fold_more (λ (n b : ℕ). n * 10 + (b - 48)) 0 text i 0 inside

pub read_more : (limit : ℕ) (text : List ℕ) (i n b m : ℕ) → i < length text → IsReadTo limit (take i text) n → b ≡ get_or text i 0 → IsInRange 48 57 b → m ≡ 10 * n + (b - 48) → m ≤ limit → IsReadTo limit (take (i + 1) text) m
read_more limit text i n b m inside h at range is within = record {
  digits = All-more (IsInRange 48 57) text i 0 inside h.digits (subst (IsInRange 48 57) at range);
  value =
      let step = onward_more text i inside in
      let before : n * 10 ≡ onward 0 (take i text) * 10 = ap (λ k. k * 10) h.value in
      let here : b - 48 ≡ get_or text i 0 - 48 = ap (λ k. k - 48) at in
      omega (arith, step, before, here, is);
  within = within;
}

onward_le : (a : ℕ) (xs : List ℕ) → a ≤ onward a xs
onward_le a [] = omega arith
onward_le a (x ∷ xs) = let h = onward_le (a * 10 + (x - 48)) xs in omega (arith, h)

onward_take : (ds : List ℕ) (i : ℕ) → onward 0 (take i ds) ≤ onward 0 ds
onward_take ds i =
    let whole : onward 0 ds ≡ onward (onward 0 (take i ds)) (drop i ds) =
    ap (onward 0) (sym (take-append-drop i ds)) ∙ fold-append (λ (n b : ℕ). n * 10 + (b - 48)) 0 (take i ds) (drop i ds) in
    subst (λ (n : ℕ). onward 0 (take i ds) ≤ n) (sym whole) (onward_le (onward 0 (take i ds)) (drop i ds))

-- what the text of a number tells
module _ (limit : ℕ) (low : limit ≤ 999999999999999999) (text : List ℕ) (n : ℕ) (is : IsNumber limit n text) where
  small : n < 2 ^ 64
  small = omega (arith, is.0.1)

  number_some : 0 < length text
  number_some = subst (λ ds. 0 < length ds) is.1 (decimal_nonempty n small)

  number_first : 48 < get_or text 0 0
  number_first = subst (λ ds. 48 < get_or ds 0 0) is.1 (first_decimal n (omega (arith, is.0.0)) small)

  number_digits : AreDigits text
  number_digits = subst AreDigits is.1 (digits_decimal own n small)

  number_value : onward 0 text ≡ n
  number_value = ap (onward 0) (sym is.1) ∙ digits_value-decimal own n small

-- where there is no number
module _ (limit : ℕ) (low : limit ≤ 999999999999999999) (text : List ℕ) where
  pub no_empty : length text ≡ 0 → (n : ℕ) → ¬ IsNumber limit n text
  no_empty empty n is = omega (arith, empty, number_some limit low text n is)

  pub no_zero : get_or text 0 0 ≡ 48 → (n : ℕ) → ¬ IsNumber limit n text
  no_zero first n is = omega (arith, first, number_first limit low text n is)

  pub no_other : (i : ℕ) → i < length text → ¬ IsInRange 48 57 (get_or text i 0) → (n : ℕ) → ¬ IsNumber limit n text
  no_other i inside other n is = other (number_digits limit low text n is i inside)

  pub no_more : (i m b : ℕ) → i < length text → IsReadTo limit (take i text) m → b ≡ get_or text i 0 → limit < 10 * m + (b - 48) → (n : ℕ) → ¬ IsNumber limit n text
  no_more i m b inside h at over n is =
      let step = onward_more text i inside in
      let before : m * 10 ≡ onward 0 (take i text) * 10 = ap (λ k. k * 10) h.value in
      let here : b - 48 ≡ get_or text i 0 - 48 = ap (λ k. k - 48) at in
      omega (arith, step, before, here, over, onward_take text (i + 1), number_value limit low text n is, is.0.1)

  -- and where there is one
  pub number_read : (i n : ℕ) → length text ≤ i → i ≤ length text → IsReadTo limit (take i text) n → 0 < length text → get_or text 0 0 ≢ 48 → IsNumber limit n text
  number_read i n high within h some first =
      let all : take i text ≡ text = ap (λ k. take k text) (omega arith) ∙ take-length text in
      let digits : AreDigits text = λ k inside. All-get_or (IsInRange 48 57) text k 0 inside (subst (All (IsInRange 48 57)) all h.digits) in
      let value : n ≡ onward 0 text = h.value ∙ ap (onward 0) all in
      let spelled : decimal n ≡ text = ap decimal value ∙ decimal-digits_value own text digits some (λ (zero : get_or text 0 0 ≡ 48). absurd (first zero)) (omega (arith, value, h.within)) in
      let positive : 1 ≤ n = not_zero n spelled in
      ((positive, h.within), spelled)
    where
      not_zero : (m : ℕ) → decimal m ≡ text → 1 ≤ m
      not_zero zero e = absurd (first (sym (ap (λ ds. get_or ds 0 0) e) ∙ ap (λ ds. get_or ds 0 0) (decimal_digit 0 (omega arith))))
      not_zero (suc m) e = omega arith

-- the number that a text writes
abbrev pub number_in : List ℕ → ℕ
number_in text = onward 0 text

pub number_back : (n : ℕ) → n < 2 ^ 64 → number_in (decimal n) ≡ n
number_back n low = digits_value-decimal own n low

pub first_digit : (n : ℕ) → n < 2 ^ 64 → 48 ≤ get_or (decimal n) 0 0
first_digit n low = (digits_decimal own n low 0 (decimal_nonempty n low)).0
