-- The parts of monomials in variables and marks: exponents, products, weights.
use Rattle.std.proofs.Common.{◌≡◌, ℕ, zero, suc, ◌+◌, ◌-◌, ◌*◌, ◌<◌, ◌≤◌, List, [], ◌∷◌, ◌++◌, length, replicate, sym, ap, ap₂, ◌∙◌, refl, subst, arith}
use native.Mathlib.Decide.{dec_le}
use Rattle.alg_core.specs.Monomials.{exponent, Mon, mon_ext, mono, exponent_mono, monomials, exponent_mul, exponent_one, exponents, length_exponents, beyond}
use Rattle.alg_core.specs.SpaceGrading.{weight, weight_ext, weight_mul}
use Rattle.alg_core.specs.MonomialParts.{variable_part, mark_part, as_marks}
use Rattle.alg_core.proofs.MonomialLists.{exponent_past, length_mono}

-- exponents of the parts of a list
inside_exponents : (n : ℕ) (a : List ℕ) (i : ℕ) → i < n → exponent (exponents n a) i ≡ exponent a i
unfolding exponents
inside_exponents zero a i h = absurd (omega arith)
inside_exponents (suc n) [] zero h = refl
inside_exponents (suc n) [] (suc i) h = inside_exponents n [] i (omega arith)
inside_exponents (suc n) (x ∷ a) zero h = refl
inside_exponents (suc n) (x ∷ a) (suc i) h = inside_exponents n a i (omega arith)

past_exponents : (n : ℕ) (a : List ℕ) (i : ℕ) → n ≤ i → exponent (exponents n a) i ≡ 0
unfolding exponents
past_exponents zero a i h = refl
past_exponents (suc n) a zero h = absurd (omega arith)
past_exponents (suc n) [] (suc i) h = past_exponents n [] i (omega arith)
past_exponents (suc n) (x ∷ a) (suc i) h = past_exponents n a i (omega arith)

exponent_beyond : (n : ℕ) (a : List ℕ) (i : ℕ) → exponent (beyond n a) i ≡ exponent a (n + i)
unfolding beyond
exponent_beyond zero a i = ap (exponent a) (omega arith)
exponent_beyond (suc n) [] i = exponent_beyond n [] i
exponent_beyond (suc n) (x ∷ a) i = exponent_beyond n a i ∙ ap (exponent (x ∷ a)) (suc_first n i)
  where
    suc_first : (n i : ℕ) → suc (n + i) ≡ suc n + i
    suc_first n i = omega arith

before_zeros : (n : ℕ) (a : List ℕ) (i : ℕ) → i < n → exponent (replicate n 0 ++ a) i ≡ 0
before_zeros zero a i h = absurd (omega arith)
before_zeros (suc n) a zero h = refl
before_zeros (suc n) a (suc i) h = before_zeros n a i (omega arith)

after_zeros : (n : ℕ) (a : List ℕ) (i : ℕ) → exponent (replicate n 0 ++ a) (n + i) ≡ exponent a i
after_zeros zero a i = ap (exponent a) (omega arith)
after_zeros (suc n) a i = ap (exponent (0 ∷ (replicate n 0 ++ a))) (suc_first n i) ∙ after_zeros n a i
  where
    suc_first : (n i : ℕ) → suc n + i ≡ suc (n + i)
    suc_first n i = omega arith

pub exponent_variable_part : (n : ℕ) (m : Mon) (i : ℕ) → i < n → exponent (variable_part n m).0 i ≡ exponent m.0 i
unfolding variable_part
exponent_variable_part n m i h = exponent_mono (exponents n m.0) i ∙ inside_exponents n m.0 i h

pub variable_part_past : (n : ℕ) (m : Mon) (i : ℕ) → n ≤ i → exponent (variable_part n m).0 i ≡ 0
unfolding variable_part
variable_part_past n m i h = exponent_mono (exponents n m.0) i ∙ past_exponents n m.0 i h

pub exponent_mark_part : (n : ℕ) (m : Mon) (i : ℕ) → exponent (mark_part n m).0 i ≡ exponent m.0 (n + i)
unfolding mark_part
exponent_mark_part n m i = exponent_mono (beyond n m.0) i ∙ exponent_beyond n m.0 i

pub as_marks_before : (n : ℕ) (m : Mon) (i : ℕ) → i < n → exponent (as_marks n m).0 i ≡ 0
unfolding as_marks
as_marks_before n m i h = exponent_mono (replicate n 0 ++ m.0) i ∙ before_zeros n m.0 i h

pub exponent_as_marks : (n : ℕ) (m : Mon) (i : ℕ) → exponent (as_marks n m).0 (n + i) ≡ exponent m.0 i
unfolding as_marks
exponent_as_marks n m i = exponent_mono (replicate n 0 ++ m.0) (n + i) ∙ after_zeros n m.0 i

-- equal exponents before n and from n on
parts_ext : (n : ℕ) (a b : Mon) → ((i : ℕ) → i < n → exponent a.0 i ≡ exponent b.0 i) → ((i : ℕ) → exponent a.0 (n + i) ≡ exponent b.0 (n + i)) → a ≡ b
parts_ext n a b front back = mon_ext a b (λ i. at i (dec_le n i))
  where
    at : (i : ℕ) → Dec (n ≤ i) → exponent a.0 i ≡ exponent b.0 i
    at i (no h) = front i (omega arith)
    at i (yes h) = let e : n + (i - n) ≡ i = omega arith in subst (λ j. exponent a.0 j ≡ exponent b.0 j) e (back (i - n))

-- each monomial is its part in the variables times its part in the marks
pub parts : (n : ℕ) (m : Mon) → monomials.◌·◌ (variable_part n m) (as_marks n (mark_part n m)) ≡ m
parts n m = parts_ext n _ m
    (λ i h. let p = exponent_mul (variable_part n m) (as_marks n (mark_part n m)) i in let q = exponent_variable_part n m i h in let r = as_marks_before n (mark_part n m) i h in omega arith)
    (λ i. let p = exponent_mul (variable_part n m) (as_marks n (mark_part n m)) (n + i) in let q = variable_part_past n m (n + i) (omega arith) in let r = exponent_as_marks n (mark_part n m) i in let s = exponent_mark_part n m i in omega arith)

pub as_marks_mul : (n : ℕ) (a b : Mon) → as_marks n (monomials.◌·◌ a b) ≡ monomials.◌·◌ (as_marks n a) (as_marks n b)
as_marks_mul n a b = parts_ext n _ _
    (λ i h. let p = exponent_mul (as_marks n a) (as_marks n b) i in let q = as_marks_before n a i h in let r = as_marks_before n b i h in let s = as_marks_before n (monomials.◌·◌ a b) i h in omega arith)
    (λ i. let p = exponent_mul (as_marks n a) (as_marks n b) (n + i) in let q = exponent_as_marks n a i in let r = exponent_as_marks n b i in let s = exponent_as_marks n (monomials.◌·◌ a b) i in let t = exponent_mul a b i in omega arith)

pub as_marks_one : (n : ℕ) → as_marks n monomials.one ≡ monomials.one
as_marks_one n = parts_ext n _ _
    (λ i h. as_marks_before n monomials.one i h ∙ sym (exponent_one i))
    (λ i. exponent_as_marks n monomials.one i ∙ exponent_one i ∙ sym (exponent_one (n + i)))

pub mark_part_as_marks : (n : ℕ) (m : Mon) → mark_part n (as_marks n m) ≡ m
mark_part_as_marks n m = mon_ext _ m (λ i. exponent_mark_part n (as_marks n m) i ∙ exponent_as_marks n m i)

pub mark_part_mul : (n : ℕ) (a b : Mon) → mark_part n (monomials.◌·◌ a b) ≡ monomials.◌·◌ (mark_part n a) (mark_part n b)
mark_part_mul n a b = mon_ext _ _ (λ i. let p = exponent_mark_part n (monomials.◌·◌ a b) i in let q = exponent_mul (mark_part n a) (mark_part n b) i in let r = exponent_mark_part n a i in let s = exponent_mark_part n b i in let t = exponent_mul a b (n + i) in omega arith)

pub variable_part_mul : (n : ℕ) (a b : Mon) → variable_part n (monomials.◌·◌ a b) ≡ monomials.◌·◌ (variable_part n a) (variable_part n b)
variable_part_mul n a b = parts_ext n _ _
    (λ i h. let p = exponent_mul (variable_part n a) (variable_part n b) i in let q = exponent_variable_part n a i h in let r = exponent_variable_part n b i h in let s = exponent_variable_part n (monomials.◌·◌ a b) i h in let t = exponent_mul a b i in omega arith)
    (λ i. let p = exponent_mul (variable_part n a) (variable_part n b) (n + i) in let q = variable_part_past n a (n + i) (omega arith) in let r = variable_part_past n b (n + i) (omega arith) in let s = variable_part_past n (monomials.◌·◌ a b) (n + i) (omega arith) in omega arith)

pub variable_part_as_marks : (n : ℕ) (m : Mon) → variable_part n (as_marks n m) ≡ monomials.one
variable_part_as_marks n m = parts_ext n _ _
    (λ i h. exponent_variable_part n (as_marks n m) i h ∙ as_marks_before n m i h ∙ sym (exponent_one i))
    (λ i. variable_part_past n (as_marks n m) (n + i) (omega arith) ∙ sym (exponent_one (n + i)))

-- a monomial in the variables is its part there, and has no marks
pub variable_part_same : (n : ℕ) (m : Mon) → length m.0 ≤ n → variable_part n m ≡ m
variable_part_same n m h = parts_ext n _ m (exponent_variable_part n m) (λ i. variable_part_past n m (n + i) (omega arith) ∙ sym (exponent_past m.0 (n + i) (omega arith)))

pub mark_part_none : (n : ℕ) (m : Mon) → length m.0 ≤ n → mark_part n m ≡ monomials.one
mark_part_none n m h = mon_ext _ _ (λ i. exponent_mark_part n m i ∙ exponent_past m.0 (n + i) (omega arith) ∙ sym (exponent_one i))

pub length_variable_part : (n : ℕ) (m : Mon) → length (variable_part n m).0 ≤ n
unfolding variable_part
length_variable_part n m = let p = length_mono (exponents n m.0) in let q = length_exponents n m.0 in omega arith

length_after : (n : ℕ) (a : List ℕ) → length (replicate n 0 ++ a) ≡ n + length a
length_after zero a = omega arith
length_after (suc n) a = let h = length_after n a in omega arith

pub length_as_marks : (n : ℕ) (m : Mon) → length (as_marks n m).0 ≤ n + length m.0
unfolding as_marks
length_as_marks n m = let p = length_mono (replicate n 0 ++ m.0) in let q = length_after n m.0 in omega arith

length_beyond : (n r : ℕ) (a : List ℕ) → length a ≤ n + r → length (beyond n a) ≤ r
unfolding beyond
length_beyond zero r a h = omega arith
length_beyond (suc n) r [] h = length_beyond n r [] (omega arith)
length_beyond (suc n) r (x ∷ a) h = length_beyond n r a (omega arith)

pub length_mark_part : (n r : ℕ) (m : Mon) → length m.0 ≤ n + r → length (mark_part n m).0 ≤ r
unfolding mark_part
length_mark_part n r m h = let p = length_mono (beyond n m.0) in let q = length_beyond n r m.0 h in omega arith

-- degrees: the weights of the variables, then those of the marks
weight_replicate : (ws ds : List ℕ) (i j : ℕ) (a : List ℕ) → length a ≤ length ds → weight (ws ++ ds) i (replicate (length ws) 0 ++ a) ≡ weight ds j a
unfolding weight
weight_replicate [] ds i j a h = from ds i j a h
  where
    from : (ds : List ℕ) (i j : ℕ) (a : List ℕ) → length a ≤ length ds → weight ds i a ≡ weight ds j a
    from ds i j [] h = refl
    from [] i j (x ∷ a) h = absurd (omega arith)
    from (d ∷ ds) i j (x ∷ a) h = ap (λ e. d * x + e) (from ds (suc i) (suc j) a (omega arith))
weight_replicate (w ∷ ws) ds i j a h = let p = weight_replicate ws ds (suc i) j a h in omega arith

pub weight_as_marks : (ws ds : List ℕ) (m : Mon) → length m.0 ≤ length ds → weight (ws ++ ds) 0 (as_marks (length ws) m).0 ≡ weight ds 0 m.0
unfolding as_marks
weight_as_marks ws ds m h = weight_ext (ws ++ ds) 0 (mono (replicate (length ws) 0 ++ m.0)).0 (replicate (length ws) 0 ++ m.0) (exponent_mono (replicate (length ws) 0 ++ m.0)) ∙ weight_replicate ws ds 0 0 m.0 h

weight_front : (ws ds : List ℕ) (i : ℕ) (a : List ℕ) → length a ≤ length ws → weight (ws ++ ds) i a ≡ weight ws i a
unfolding weight
weight_front ws ds i [] h = refl
weight_front [] ds i (x ∷ a) h = absurd (omega arith)
weight_front (w ∷ ws) ds i (x ∷ a) h = ap (λ e. w * x + e) (weight_front ws ds (suc i) a (omega arith))

-- the degree is that of the two parts together
pub weight_parts : (ws ds : List ℕ) (m : Mon) → length m.0 ≤ length ws + length ds → weight (ws ++ ds) 0 m.0 ≡ weight ws 0 (variable_part (length ws) m).0 + weight ds 0 (mark_part (length ws) m).0
weight_parts ws ds m h =
    let n = length ws in
    ap (λ u. weight (ws ++ ds) 0 u.0) (sym (parts n m)) ∙ weight_mul (ws ++ ds) (variable_part n m) (as_marks n (mark_part n m))
    ∙ ap₂ ◌+◌ (weight_front ws ds 0 (variable_part n m).0 (length_variable_part n m)) (weight_as_marks ws ds (mark_part n m) (length_mark_part n (length ds) m h))
