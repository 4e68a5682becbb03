-- The number that is read so far is at most that of all the digits.
use Rattle.std.proofs.Common.{◌≡◌, ◌∙◌, ℕ, ◌+◌, ◌-◌, ◌*◌, ◌<◌, ◌≤◌, List, [], ◌∷◌, length, take, drop, take-append-drop, get_or, Some, None, cond, sym, ap, subst, refl, arith}
use Rattle.std.specs.List.{fold}
use Rattle.std.proofs.lemmas.List.Sums.{fold_more, fold-append}
use Rattle.std.proofs.Math.Seq.{take-length}
use Rattle.std.proofs.lemmas.Bool.{le-leb, lt-leb}
use Rattle.finvar_text.specs.Conditions.{most, value, number}

fold_le : (a : ℕ) (xs : List ℕ) → a ≤ fold (λ (n : ℕ) (b : ℕ). n * 10 + (b - 48)) a xs
fold_le a [] = omega arith
fold_le a (x ∷ xs) = let h = fold_le (a * 10 + (x - 48)) xs in omega (arith, h)

pub value_nil : 0 ≡ value []
unfolding value
value_nil = refl

pub value_more : (ds : List ℕ) (i : ℕ) → i < length ds → value (take (i + 1) ds) ≡ value (take i ds) * 10 + (get_or ds i 0 - 48)
unfolding value
value_more ds i below = fold_more (λ (n : ℕ) (b : ℕ). n * 10 + (b - 48)) 0 ds i 0 below

pub value_take : (ds : List ℕ) (i : ℕ) → value (take i ds) ≤ value ds
unfolding value
value_take ds i =
    let f : ℕ → ℕ → ℕ = λ n b. n * 10 + (b - 48) in
    let whole : fold f 0 ds ≡ fold f (fold f 0 (take i ds)) (drop i ds) = ap (fold f 0) (sym (take-append-drop i ds)) ∙ fold-append f 0 (take i ds) (drop i ds) in
    subst (λ (n : ℕ). fold f 0 (take i ds) ≤ n) (sym whole) (fold_le (fold f 0 (take i ds)) (drop i ds))

pub value_all : (ds : List ℕ) (i n : ℕ) → length ds ≤ i → i ≤ length ds → n ≡ value (take i ds) → n ≡ value ds
value_all ds i n low high is = is ∙ ap (λ (k : ℕ). value (take k ds)) (omega arith) ∙ ap value (take-length ds)

pub number_over : (ds : List ℕ) → most < value ds → None ≡ number ds
number_over ds over = sym (ap (λ b. cond b (Some (value ds)) None) (lt-leb (value ds) most over))

pub number_within : (ds : List ℕ) (n : ℕ) → n ≡ value ds → n ≤ most → Some n ≡ number ds
number_within ds n is within = ap Some is ∙ sym (ap (λ b. cond b (Some (value ds)) None) (le-leb (value ds) most (subst (λ (k : ℕ). k ≤ most) is within)))

-- where a step exceeds the greatest number, all the digits do
pub step_over : (ds : List ℕ) (i n : ℕ) → i < length ds → n ≡ value (take i ds) → most < n * 10 + (get_or ds i 0 - 48) → None ≡ number ds
step_over ds i n below is over =
    let more = value_more ds i below in
    let low = value_take ds (i + 1) in
    let same : n * 10 ≡ value (take i ds) * 10 = ap (λ (k : ℕ). k * 10) is in
    number_over ds (omega (arith, more, low, same, over))
