-- Degrees of monomials in variables and marks: what a mark adds, and powers of one variable.
use Rattle.std.proofs.Common.{◌≡◌, ◌∙◌, ◌+◌, ◌-◌, ◌*◌, ◌<◌, ◌≤◌, ℕ, zero, suc, List, [], ◌∷◌, ◌++◌, length, replicate, refl, sym, ap, subst, arith}
use native.Mathlib.Decide.{dec_le}
use Rattle.alg_core.specs.BlockOrder.{length_ones}
use Rattle.alg_core.specs.Keys.{Key}
use Rattle.alg_core.specs.Monomials.{Mon, monomials, mono, exponent, exponent_mono}
use Rattle.alg_core.specs.MonomialParts.{variable_part, mark_part}
use Rattle.alg_core.specs.SpaceGrading.{AllPositive, weight, weight_ext, weight_mul}
use Rattle.alg_core.proofs.MonomialLists.{length_mon, exponent_past}
use Rattle.alg_core.proofs.MonomialParts.{exponent_variable_part, variable_part_past, exponent_mark_part, variable_part_mul, weight_parts}
use Rattle.poly_module.specs.MonomialVariables.{after_zeros}
use Rattle.poly_module.specs.Forms.{key_weight}
use Rattle.finite_certificate.specs.MarkSpaces.{HasMark}
use Rattle.finite_certificate.specs.Spreading.{without}

mul_up : (w x : ℕ) → 0 < w → x ≤ w * x
mul_up zero x h = absurd (omega arith)
mul_up (suc w) x h = omega arith

-- an exponent is at most the degree
exponent_weight : (ws : List ℕ) (j : ℕ) (a : List ℕ) (i : ℕ) → AllPositive ws → exponent a i ≤ weight ws j a
unfolding weight
exponent_weight ws j [] i h = omega arith
exponent_weight [] j (x ∷ a) zero h = let m = mul_up (suc j) x (omega arith) in omega arith
exponent_weight [] j (x ∷ a) (suc i) h = let m = exponent_weight [] (suc j) a i tt in omega arith
exponent_weight (w ∷ ws) j (x ∷ a) zero h = let m = mul_up w x h.0 in omega arith
exponent_weight (w ∷ ws) j (x ∷ a) (suc i) h = let m = exponent_weight ws (suc j) a i h.1 in omega arith

-- a mark has a positive degree
pub mark_weight : (n : ℕ) (ds : List ℕ) (t : Key) → AllPositive ds → HasMark n t → 0 < weight ds 0 (mark_part n t.1).0
mark_weight n ds t positive mark = at (dec_le (weight ds 0 (mark_part n t.1).0) 0)
  where
    at : Dec (weight ds 0 (mark_part n t.1).0 ≤ 0) → 0 < weight ds 0 (mark_part n t.1).0
    at (no some) = omega arith
    at (yes none) =
        let short : length t.1.0 ≤ n = length_mon n t.1 (λ i low. past i low) in
        absurd (omega arith)
      where
        past : (i : ℕ) → n ≤ i → exponent t.1.0 i ≡ 0
        past i low =
            let j = gap i low in
            let h = exponent_weight ds 0 (mark_part n t.1).0 j.0 positive in
            let e = exponent_mark_part n t.1 j.0 in
            let z : exponent t.1.0 (n + j.0) ≡ 0 = omega arith in
            subst (λ (l : ℕ). exponent t.1.0 l ≡ 0) j.1 z
          where
            gap : (i : ℕ) → n ≤ i → (j : ℕ) × (n + j ≡ i)
            gap i low = (i - n, omega arith)

-- the degree in the variables
abbrev pub variable_degree : ℕ → Key → ℕ
variable_degree n t = weight (replicate n 1) 0 (variable_part n t.1).0

-- is smaller than the degree where there is a mark
pub marked_degree : (n : ℕ) (ds : List ℕ) (t : Key) → AllPositive ds → length t.1.0 ≤ n + length ds → HasMark n t → variable_degree n t < key_weight (replicate n 1 ++ ds) t
marked_degree n ds t positive short mark =
    let m = mark_weight n ds t positive mark in
    let e : length {A = ℕ} (replicate n 1) ≡ n = length_ones n in
    let split = weight_parts (replicate n 1) ds t.1 (omega arith) in
    let parts : key_weight (replicate n 1 ++ ds) t ≡ variable_degree n t + weight ds 0 (mark_part n t.1).0 =
    subst (λ (l : ℕ). key_weight (replicate n 1 ++ ds) t ≡ weight (replicate n 1) 0 (variable_part l t.1).0 + weight ds 0 (mark_part l t.1).0) e split in
    omega arith

-- the degree of a power of one variable
power_weight : (n i e : ℕ) (ds : List ℕ) (j : ℕ) → i < n → weight (replicate n 1 ++ ds) j (after_zeros i (e ∷ [])) ≡ e
unfolding weight after_zeros
power_weight zero i e ds j h = absurd (omega arith)
power_weight (suc n) zero e ds j h = omega arith
power_weight (suc n) (suc i) e ds j h = let r = power_weight n i e ds (suc j) (omega arith) in omega arith

pub power_degree : (n i e : ℕ) (ds : List ℕ) → i < n → weight (replicate n 1 ++ ds) 0 (mono (after_zeros i (e ∷ []))).0 ≡ e
power_degree n i e ds h = weight_ext (replicate n 1 ++ ds) 0 _ (after_zeros i (e ∷ [])) (exponent_mono (after_zeros i (e ∷ []))) ∙ power_weight n i e ds 0 h

ones_power : (n i e j : ℕ) → i < n → weight (replicate n 1) j (after_zeros i (e ∷ [])) ≡ e
unfolding weight after_zeros
ones_power zero i e j h = absurd (omega arith)
ones_power (suc n) zero e j h = omega arith
ones_power (suc n) (suc i) e j h = let r = ones_power n i e (suc j) (omega arith) in omega arith

after_past : (i e : ℕ) (j : ℕ) → i < j → exponent (after_zeros i (e ∷ [])) j ≡ 0
unfolding after_zeros
after_past i e zero h = absurd (omega arith)
after_past zero e (suc j) h = nothing j
  where
    nothing : (j : ℕ) → exponent [] j ≡ 0
    nothing j = refl
after_past (suc i) e (suc j) h = after_past i e j (omega arith)

pub power_variable_degree : (n i e : ℕ) → i < n → weight (replicate n 1) 0 (variable_part n (mono (after_zeros i (e ∷ [])))).0 ≡ e
power_variable_degree n i e h = weight_ext (replicate n 1) 0 _ (after_zeros i (e ∷ [])) same ∙ ones_power n i e 0 h
  where
    same : (j : ℕ) → exponent (variable_part n (mono (after_zeros i (e ∷ [])))).0 j ≡ exponent (after_zeros i (e ∷ [])) j
    same j = at (dec_le n j)
      where
        at : Dec (n ≤ j) → exponent (variable_part n (mono (after_zeros i (e ∷ [])))).0 j ≡ exponent (after_zeros i (e ∷ [])) j
        at (yes past) = variable_part_past n _ j past ∙ sym (after_past i e j (omega arith))
        at (no low) = exponent_variable_part n _ j (omega arith) ∙ exponent_mono (after_zeros i (e ∷ [])) j

-- degrees of products add
pub variable_degree_mul : (n : ℕ) (a b : Mon) → weight (replicate n 1) 0 (variable_part n (monomials.◌·◌ a b)).0 ≡ weight (replicate n 1) 0 (variable_part n a).0 + weight (replicate n 1) 0 (variable_part n b).0
variable_degree_mul n a b = ap (λ m. weight (replicate n 1) 0 m.0) (variable_part_mul n a b) ∙ weight_mul (replicate n 1) (variable_part n a) (variable_part n b)

-- the variables of a power of one variable
pub power_length : (n i e : ℕ) → i < n → length (mono (after_zeros i (e ∷ []))).0 ≤ n
power_length n i e h = length_mon n (mono (after_zeros i (e ∷ []))) (λ j past. exponent_mono (after_zeros i (e ∷ [])) j ∙ after_past i e j (omega arith))

-- and of what is left without it
without_past : (i e : ℕ) (a : List ℕ) (j : ℕ) → exponent a j ≡ 0 → exponent (without i e a) j ≡ 0
unfolding without
without_past zero e [] j h = h
without_past (suc i) e [] j h = h
without_past zero e (x ∷ a) zero h = omega arith
without_past zero e (x ∷ a) (suc j) h = h
without_past (suc i) e (x ∷ a) zero h = h
without_past (suc i) e (x ∷ a) (suc j) h = without_past i e a j h

pub without_length : (i e m : ℕ) (a : List ℕ) → length a ≤ m → length (mono (without i e a)).0 ≤ m
without_length i e m a h = length_mon m (mono (without i e a)) (λ j past. exponent_mono (without i e a) j ∙ without_past i e a j (exponent_past a j (omega arith)))
