-- Steps of the loops over exponents, leads and monomials.
use Rattle.std.proofs.Common.{◌≡◌, ◌∙◌, ◌+◌, ◌-◌, ◌<◌, ◌≤◌, ◌==◌, ℕ, zero, suc, Bool, true, false, not, cond, ◌&&◌, Result, Ok, Err, List, [], ◌∷◌, ◌++◌, length, get_or, take, drop, append_assoc, append-nil, length-append, refl, sym, ap, ap₂, subst, arith}
use Rattle.std.specs.Prelude.{All, IsErrAnd}
use Rattle.std.proofs.lemmas.Bool.Decides.{nat_tests}
use Rattle.std.proofs.lemmas.List.{take_more}
use Rattle.alg_core.specs.ExponentLists.{product, divides, Within}
use Rattle.poly_module.specs.GreatestExponents.{total}
use Rattle.primary_module.specs.PrimaryModules.{rank_limit}
use Rattle.primary_module.specs.UndividedMonomials.{is_undivided, is_zero_from, variable_exponents, multiple_of, multiples_of, multiples_below}
use Rattle.primary_module.proofs.DegreeLayers.{total_product, length_product}

-- the exponent at one place
pub zero_step : (a : List ℕ) (i : ℕ) → i < length a → get_or a i 0 ≤ 0 → is_zero_from (i + 1) a ≡ is_zero_from i a
zero_step [] i h z = absurd (omega arith)
zero_step (x ∷ a) zero h z = first x (omega arith)
  where
    first : (x : ℕ) → x ≡ 0 → is_zero_from 0 a ≡ ((x == 0) && is_zero_from 0 a)
    first zero e = refl
    first (suc x) e = absurd (omega arith)
zero_step (x ∷ a) (suc i) h z = let e : suc i + 1 ≡ suc (i + 1) = omega arith in ap (λ k. is_zero_from k (x ∷ a)) e ∙ zero_step a i (omega arith) z

first_fails : (x : ℕ) (r : Bool) → 0 < x → ((x == 0) && r) ≡ false
first_fails x r h = grind (arith, nat_tests)

pub zero_fails : (a : List ℕ) (i : ℕ) → i < length a → 0 < get_or a i 0 → is_zero_from i a ≡ false
zero_fails [] i h z = absurd (omega arith)
zero_fails (x ∷ a) zero h z = first_fails x (is_zero_from 0 a) z
zero_fails (x ∷ a) (suc i) h z = zero_fails a i (omega arith) z

pub zero_past : (a : List ℕ) (i : ℕ) → length a ≤ i → is_zero_from i a ≡ true
zero_past [] i h = refl
zero_past (x ∷ a) zero h = absurd (omega arith)
zero_past (x ∷ a) (suc i) h = zero_past a i (omega arith)

-- one lead
pub undivided_step : (ls : List (List ℕ)) (i : ℕ) (l a : List ℕ) → i < length ls → l ≡ get_or ls i l → divides l a ≡ false → is_undivided (drop (i + 1) ls) a ≡ is_undivided (drop i ls) a
undivided_step [] i l a h e d = absurd (omega arith)
undivided_step (x ∷ ls) zero l a h e d = ap (λ b. not b && is_undivided ls a) (sym (ap (λ y. divides y a) (sym e) ∙ d))
undivided_step (x ∷ ls) (suc i) l a h e d = let f : suc i + 1 ≡ suc (i + 1) = omega arith in ap (λ k. is_undivided (drop k (x ∷ ls)) a) f ∙ undivided_step ls i l a (omega arith) e d

pub undivided_fails : (ls : List (List ℕ)) (i : ℕ) (l a : List ℕ) → i < length ls → l ≡ get_or ls i l → divides l a ≡ true → is_undivided (drop i ls) a ≡ false
undivided_fails [] i l a h e d = absurd (omega arith)
undivided_fails (x ∷ ls) zero l a h e d = ap (λ b. not b && is_undivided ls a) (ap (λ y. divides y a) (sym e) ∙ d)
undivided_fails (x ∷ ls) (suc i) l a h e d = undivided_fails ls i l a (omega arith) e d

pub undivided_past : (ls : List (List ℕ)) (i : ℕ) (a : List ℕ) → length ls ≤ i → is_undivided (drop i ls) a ≡ true
undivided_past [] zero a h = refl
undivided_past [] (suc i) a h = refl
undivided_past (x ∷ ls) zero a h = absurd (omega arith)
undivided_past (x ∷ ls) (suc i) a h = undivided_past ls i a (omega arith)

-- one exponent more
pub taken_more : (a : List ℕ) (i e : ℕ) (old new : List ℕ) → i < length a → new ≡ old ++ e ∷ [] → old ≡ take i a → e ≡ get_or a i 0 → new ≡ take (i + 1) a
taken_more a i e old new h pushed was is = pushed ∙ ap (λ l. l ++ e ∷ []) was ∙ ap (λ x. take i a ++ x ∷ []) is ∙ sym (take_more a i 0 h)

exponent_low : (a : List ℕ) (k d : ℕ) → k < length a → get_or a k d ≤ total a
exponent_low [] k d h = absurd (omega arith)
exponent_low (x ∷ a) zero d h = omega arith
exponent_low (x ∷ a) (suc k) d h = let r = exponent_low a k d (omega arith) in omega arith

-- the exponents of a multiple are numbers of the program
pub product_fits : (u a : List ℕ) (j : ℕ) → u ≡ variable_exponents (length a) j → j < length a → total a ≤ rank_limit → Within 4294967295 (product u a)
product_fits u a j e h low = λ k d inside.
    let t = ap (λ v. total (product v a)) e ∙ total_product (length a) j a refl h in
    let x = exponent_low (product u a) k d inside in
    omega arith

pub product_long : (ls : List (List ℕ)) (u a m : List ℕ) (j : ℕ) → u ≡ variable_exponents (length a) j → m ≡ product u a → All (λ l. length l ≡ length a) ls → All (λ l. length l ≡ length m) ls
product_long ls u a m j e is wide = subst (λ n. All (λ l. length l ≡ n) ls) (sym (ap length is ∙ ap (λ v. length (product v a)) e ∙ length_product (length a) j a refl)) wide

-- no multiple where a later variable stands in the monomial
pub added_none : (ls : List (List ℕ)) (n j : ℕ) (a : List ℕ) (list : List (List ℕ)) → is_zero_from (j + 1) a ≡ false → list ≡ list ++ multiple_of ls n j a
added_none ls n j a list h =
    let e : suc j ≡ j + 1 = omega arith in
    let none : multiple_of ls n j a ≡ [] = ap (λ b. cond (b && is_undivided ls (product (variable_exponents n j) a)) (product (variable_exponents n j) a ∷ []) []) (ap (λ i. is_zero_from i a) e ∙ h) in
    sym (append-nil list) ∙ ap (λ l. list ++ l) (sym none)

-- the multiples by one variable more
pub below_step : (ls : List (List ℕ)) (n : ℕ) (bs : List (List ℕ)) (i : ℕ) (old new all : List (List ℕ)) → i < n → new ≡ old ++ multiples_of ls n (n - 1 - i) bs
    → old ++ multiples_below ls n (n - i) bs ≡ all → new ++ multiples_below ls n (n - (i + 1)) bs ≡ all
below_step ls n bs i old new all h added before =
    let e : n - i ≡ suc (n - 1 - i) = omega arith in
    let f : n - (i + 1) ≡ n - 1 - i = omega arith in
    ap₂ (λ l k. l ++ multiples_below ls n k bs) added f ∙ append_assoc old (multiples_of ls n (n - 1 - i) bs) (multiples_below ls n (n - 1 - i) bs)
    ∙ ap (λ k. old ++ multiples_below ls n k bs) (sym e) ∙ before

-- the test whether a list is empty
pub empty_length : (b : Bool) (n : ℕ) → b ≡ (n == 0) → b ≡ true → n ≡ 0
empty_length b n e h = grind (arith, nat_tests)

pub some_length : (b : Bool) (n : ℕ) → b ≡ (n == 0) → b ≡ false → 0 < n
some_length b n e h = grind (arith, nat_tests)

-- the room that is left
pub joined_within : (xs ys new : List (List ℕ)) (m : ℕ) → new ≡ xs ++ ys → length xs ≤ m → length ys ≤ m - length xs → length new ≤ m
joined_within xs ys new m e h g = let l = ap length e in let k = length-append xs ys in omega arith

-- an error that is handed on
pub error_same : {T F : Type 0} (r : Result T F) (e x : F) → IsErrAnd r (λ y. y ≡ e) → r ≡ Err x → e ≡ x
error_same (Ok t) e x h is = absurd cc
error_same (Err y) e x h is = let same : y ≡ x = cc in sym h ∙ same
