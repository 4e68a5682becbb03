-- Lists of exponents of one length as monomials: products, quotients, least common multiples, divisibility.
use Rattle.std.proofs.Common.{◌≡◌, ℕ, zero, suc, ◌+◌, ◌-◌, ◌≤◌, max, true, List, [], ◌∷◌, length, replicate, refl, sym, ap, ◌∙◌, subst, arith}
use Rattle.std.proofs.lemmas.Bool.Decides.{nat_tests}
use Rattle.alg_core.specs.ExponentLists.{merged, product, quotient, lcm, divides}
use Rattle.alg_core.specs.Monomials.{exponent, trimmed, trimmed_cons, trimmed_ext, Mon, mon_ext, mono, exponent_mono, monomials, exponent_mul, exponent_one, Divides}
use Rattle.alg_core.specs.CommonMultiples.{mon_lcm, exponent_lcm, divides_exponents, exponents_divide}

-- a function with f 0 0 = 0, entry by entry
pub exponent_merged : (f : ℕ → ℕ → ℕ) → f 0 0 ≡ 0 → (a b : List ℕ) (i : ℕ) → length a ≡ length b → exponent (merged f a b) i ≡ f (exponent a i) (exponent b i)
exponent_merged f z [] [] i l = sym z
exponent_merged f z [] (y ∷ b) i l = absurd (omega arith)
exponent_merged f z (x ∷ a) [] i l = absurd (omega arith)
exponent_merged f z (x ∷ a) (y ∷ b) zero l = refl
exponent_merged f z (x ∷ a) (y ∷ b) (suc i) l = exponent_merged f z a b i (omega arith)

pub mono_product : (a b : List ℕ) → length a ≡ length b → mono (product a b) ≡ monomials.◌·◌ (mono a) (mono b)
mono_product a b l = mon_ext _ _ (λ i.
    let p = exponent_mono (product a b) i in
    let q = exponent_mul (mono a) (mono b) i in
    let r = exponent_mono a i in
    let s = exponent_mono b i in
    let t = exponent_merged (λ x y. x + y) refl a b i l in
    omega arith)

pub mono_lcm : (a b : List ℕ) → length a ≡ length b → mono (lcm a b) ≡ mon_lcm (mono a) (mono b)
mono_lcm a b l = mon_ext _ _ (λ i.
    let p = exponent_mono (lcm a b) i in
    let q = exponent_lcm (mono a) (mono b) i in
    let r = exponent_mono a i in
    let s = exponent_mono b i in
    let t = exponent_merged (λ x y. max x y) refl a b i l in
    omega arith)

exponents_from_divides : (a b : List ℕ) → length a ≡ length b → divides a b ≡ true → (i : ℕ) → exponent a i ≤ exponent b i
exponents_from_divides [] [] l d i = omega arith
exponents_from_divides [] (y ∷ b) l d i = absurd (omega arith)
exponents_from_divides (x ∷ a) [] l d i = absurd (omega arith)
exponents_from_divides (x ∷ a) (y ∷ b) l d zero = grind (arith, nat_tests)
exponents_from_divides (x ∷ a) (y ∷ b) l d (suc i) = exponents_from_divides a b (omega arith) (grind (arith, nat_tests)) i

divides_from_exponents : (a b : List ℕ) → length a ≡ length b → ((i : ℕ) → exponent a i ≤ exponent b i) → divides a b ≡ true
divides_from_exponents [] [] l h = refl
divides_from_exponents [] (y ∷ b) l h = absurd (omega arith)
divides_from_exponents (x ∷ a) [] l h = absurd (omega arith)
divides_from_exponents (x ∷ a) (y ∷ b) l h =
    let rest = divides_from_exponents a b (omega arith) (λ i. h (suc i)) in
    let first = h 0 in
    grind (arith, nat_tests)

-- the test on lists of exponents is divisibility
pub mono_divides : (a b : List ℕ) → length a ≡ length b → divides a b ≡ true → Divides (mono a) (mono b)
mono_divides a b l d = exponents_divide (mono a) (mono b) (λ i. let p = exponent_mono a i in let q = exponent_mono b i in let r = exponents_from_divides a b l d i in omega arith)

pub divides_mono : (a b : List ℕ) → length a ≡ length b → Divides (mono a) (mono b) → divides a b ≡ true
divides_mono a b l d = divides_from_exponents a b l (λ i. let p = exponent_mono a i in let q = exponent_mono b i in let r = divides_exponents (mono a) (mono b) d i in omega arith)

-- a quotient times the divisor
pub mono_quotient : (a b : List ℕ) → length a ≡ length b → divides b a ≡ true → monomials.◌·◌ (mono b) (mono (quotient a b)) ≡ mono a
mono_quotient a b l d = mon_ext _ _ (λ i.
    let p = exponent_mono (quotient a b) i in
    let q = exponent_mul (mono b) (mono (quotient a b)) i in
    let r = exponent_mono a i in
    let s = exponent_mono b i in
    let t = exponent_merged (λ x y. x - y) refl a b i l in
    let u = exponents_from_divides b a (sym l) d i in
    omega arith)

-- past its end a list has the exponent 0
pub exponent_past : (a : List ℕ) (i : ℕ) → length a ≤ i → exponent a i ≡ 0
exponent_past [] i h = refl
exponent_past (x ∷ a) zero h = absurd (omega arith)
exponent_past (x ∷ a) (suc i) h = exponent_past a i (omega arith)

pub exponent_zeros : (n i : ℕ) → exponent (replicate n 0) i ≡ 0
exponent_zeros zero i = refl
exponent_zeros (suc n) zero = refl
exponent_zeros (suc n) (suc i) = exponent_zeros n i

length_trimmed_cons : (x : ℕ) (l : List ℕ) → length (trimmed_cons x l) ≤ suc (length l)
unfolding trimmed_cons
length_trimmed_cons zero [] = omega arith
length_trimmed_cons zero (y ∷ l) = omega arith
length_trimmed_cons (suc x) l = omega arith

length_trimmed : (n : ℕ) (a : List ℕ) → ((i : ℕ) → n ≤ i → exponent a i ≡ 0) → length (trimmed a) ≤ n
unfolding trimmed
length_trimmed n [] e = omega arith
length_trimmed zero (x ∷ a) e = let none : length (trimmed (x ∷ a)) ≡ 0 = ap length (trimmed_ext (x ∷ a) [] (λ i. e i (omega arith))) in omega arith
length_trimmed (suc n) (x ∷ a) e =
    let rest = length_trimmed n a (λ i h. e (suc i) (omega arith)) in
    let first = length_trimmed_cons x (trimmed a) in
    omega arith

-- a monomial has the first n variables alone exactly where its other exponents are 0
pub length_mon : (n : ℕ) (m : Mon) → ((i : ℕ) → n ≤ i → exponent m.0 i ≡ 0) → length m.0 ≤ n
length_mon n m e = subst (λ l. length l ≤ n) m.1 (length_trimmed n m.0 e)

-- no variable past the end of a list is in its monomial
pub length_mono : (a : List ℕ) → length (mono a).0 ≤ length a
length_mono a = length_mon (length a) (mono a) (λ i h. exponent_mono a i ∙ exponent_past a i h)

pub length_mul : (n : ℕ) (a b : Mon) → length a.0 ≤ n → length b.0 ≤ n → length (monomials.◌·◌ a b).0 ≤ n
length_mul n a b h g = length_mon n (monomials.◌·◌ a b) (λ i l.
    let p = exponent_mul a b i in
    let q = exponent_past a.0 i (omega arith) in
    let r = exponent_past b.0 i (omega arith) in
    omega arith)

pub length_one : (n : ℕ) → length monomials.one.0 ≤ n
length_one n = length_mon n monomials.one (λ i l. exponent_one i)
