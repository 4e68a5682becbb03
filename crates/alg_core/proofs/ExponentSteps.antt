-- Lists of exponents, entry by entry, as loops over them go.
use Rattle.std.proofs.Common.{◌≡◌, ℕ, zero, suc, ◌+◌, ◌<◌, ◌≤◌, true, false, List, [], ◌∷◌, ◌++◌, length, get_or, take, drop, refl, sym, ap, subst, ◌∙◌, arith}
use Rattle.std.proofs.lemmas.Bool.Decides.{nat_tests}
use Rattle.std.proofs.lemmas.List.{take_more, take_all}
use Rattle.std.specs.Prelude.{All}
use Rattle.alg_core.specs.ExponentLists.{merged, divides, Within, product}

pub length_merged : (f : ℕ → ℕ → ℕ) (xs ys : List ℕ) → length xs ≡ length ys → length (merged f xs ys) ≡ length xs
length_merged f [] ys h = refl
length_merged f (x ∷ xs) [] h = absurd (omega arith)
length_merged f (x ∷ xs) (y ∷ ys) h = ap suc (length_merged f xs ys (omega arith))

pub merged_at : (f : ℕ → ℕ → ℕ) (xs ys : List ℕ) (i : ℕ) → length xs ≡ length ys → i < length xs → get_or (merged f xs ys) i 0 ≡ f (get_or xs i 0) (get_or ys i 0)
merged_at f [] ys i h within = absurd (omega arith)
merged_at f (x ∷ xs) [] i h within = absurd (omega arith)
merged_at f (x ∷ xs) (y ∷ ys) zero h within = refl
merged_at f (x ∷ xs) (y ∷ ys) (suc i) h within = merged_at f xs ys i (omega arith) (omega arith)

-- one entry more
pub merged_more : (f : ℕ → ℕ → ℕ) (xs ys : List ℕ) (i : ℕ) → length xs ≡ length ys → i < length xs → take i (merged f xs ys) ++ (f (get_or xs i 0) (get_or ys i 0) ∷ []) ≡ take (i + 1) (merged f xs ys)
merged_more f xs ys i h within =
    let inside : i < length (merged f xs ys) = omega (arith, length_merged f xs ys h) in
    ap (λ e. take i (merged f xs ys) ++ (e ∷ [])) (sym (merged_at f xs ys i h within)) ∙ sym (take_more (merged f xs ys) i 0 inside)

pub all_at : (P : ℕ → Type 0) (xs : List ℕ) (i : ℕ) → All P xs → i < length xs → P (get_or xs i 0)
all_at P xs i h within = h i 0 within

pub sum_fits : (cap : ℕ) (xs ys : List ℕ) (i : ℕ) → Within cap (product xs ys) → length xs ≡ length ys → i < length xs → get_or xs i 0 + get_or ys i 0 ≤ cap
sum_fits cap xs ys i h same within = subst (λ e. e ≤ cap) (merged_at (λ a b. a + b) xs ys i same within) (h i 0 (omega (arith, length_merged (λ a b. a + b) xs ys same)))

-- all entries
pub merged_all : (f : ℕ → ℕ → ℕ) (xs ys : List ℕ) (n : ℕ) → length xs ≡ length ys → length xs ≤ n → take n (merged f xs ys) ≡ merged f xs ys
merged_all f xs ys n same all = take_all n (merged f xs ys) (omega (arith, length_merged f xs ys same))

pub divides_at : (xs ys : List ℕ) (i : ℕ) → divides xs ys ≡ true → length xs ≡ length ys → i < length xs → get_or xs i 0 ≤ get_or ys i 0
divides_at [] ys i d h within = absurd (omega arith)
divides_at (x ∷ xs) [] i d h within = absurd (omega arith)
divides_at (x ∷ xs) (y ∷ ys) zero d h within = grind (arith, nat_tests)
divides_at (x ∷ xs) (y ∷ ys) (suc i) d h within = divides_at xs ys i (grind (arith, nat_tests)) (omega arith) (omega arith)

-- a test of the entry at i leads on
pub divides_from : (xs ys : List ℕ) (i : ℕ) → length xs ≡ length ys → i < length xs → get_or xs i 0 ≤ get_or ys i 0 → divides (drop i xs) (drop i ys) ≡ divides (drop (suc i) xs) (drop (suc i) ys)
divides_from [] ys i h within le = absurd (omega arith)
divides_from (x ∷ xs) [] i h within le = absurd (omega arith)
divides_from (x ∷ xs) (y ∷ ys) zero h within le = grind (arith, nat_tests)
divides_from (x ∷ xs) (y ∷ ys) (suc i) h within le = divides_from xs ys i (omega arith) (omega arith) le

pub divides_fails : (xs ys : List ℕ) (i : ℕ) → length xs ≡ length ys → i < length xs → get_or ys i 0 < get_or xs i 0 → divides (drop i xs) (drop i ys) ≡ false
divides_fails [] ys i h within lt = absurd (omega arith)
divides_fails (x ∷ xs) [] i h within lt = absurd (omega arith)
divides_fails (x ∷ xs) (y ∷ ys) zero h within lt = grind (arith, nat_tests)
divides_fails (x ∷ xs) (y ∷ ys) (suc i) h within lt = divides_fails xs ys i (omega arith) (omega arith) lt

pub divides_none : (xs ys : List ℕ) (i : ℕ) → length xs ≤ i → divides (drop i xs) ys ≡ true
divides_none [] ys zero h = refl
divides_none [] ys (suc i) h = refl
divides_none (x ∷ xs) ys zero h = absurd (omega arith)
divides_none (x ∷ xs) ys (suc i) h = divides_none xs ys i (omega arith)

-- one entry pushed
pub pushed_more : (f : ℕ → ℕ → ℕ) (xs ys : List ℕ) (i e : ℕ) (old new : List ℕ) → new ≡ old ++ (e ∷ []) → old ≡ take i (merged f xs ys) → e ≡ f (get_or xs i 0) (get_or ys i 0) → length xs ≡ length ys → i < length xs → new ≡ take (i + 1) (merged f xs ys)
pushed_more f xs ys i e old new pushed was is same within =
    pushed ∙ ap (λ t. t ++ (e ∷ [])) was ∙ ap (λ x. take i (merged f xs ys) ++ (x ∷ [])) is ∙ merged_more f xs ys i same within
