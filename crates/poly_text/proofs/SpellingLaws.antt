-- Spellings of lists that grow at their ends.
use Rattle.std.proofs.Common.{◌≡◌, ◌≢◌, ℕ, suc, ◌+◌, ◌-◌, ◌<◌, ◌≤◌, nat_lt, Bool, true, false, ◌==◌, ◌||◌, ◌&&◌, not, List, [], ◌∷◌, ◌++◌, length, get_or, take, map, refl, sym, ap, ap₂, ◌∙◌, arith, append_assoc}
use mathlib.Core.List.{map-map}
use Rattle.std.specs.Prelude.{decimal, if◌then◌else◌}
use Rattle.std.proofs.lemmas.List.{append-nil, take_all, take_more, length-take-le, length-map, map_more}
use Rattle.std.proofs.lemmas.Bool.Decides.{nat_tests}
use Rattle.std.proofs.lemmas.Fmt.{decimal_digit}
use Rattle.poly_text.specs.Syntax.{Variable, Marked, Factor, Term, variable_text, factor_text, starred, product_text, signed, spelling}
use Rattle.alg_core.specs.Vectors.{Entry}
use Rattle.poly_text.specs.declared.syntax.Mark.TheVariants.{Primary, Secondary}
use Rattle.poly_text.specs.Texts.{variable_in, factors_from, is_negative, absolute, combination_term}
use Rattle.poly_text.specs.Printing.{star, joined, coefficient_text, is_none, sign_text, term_text, led}

suc_test : (n : ℕ) → (suc n == 0) ≡ false
suc_test n = grind (arith, nat_tests)

or_true : (b : Bool) → (b || true) ≡ true
or_true true = refl
or_true false = refl

pub starred_append : (fs gs : List Factor) → starred (fs ++ gs) ≡ starred fs ++ starred gs
starred_append [] gs = refl
starred_append (f ∷ fs) gs =
    ap (λ l. 42 ∷ (factor_text f ++ l)) (starred_append fs gs) ∙ ap (λ l. 42 ∷ l) (sym (append_assoc (factor_text f) (starred fs) (starred gs)))

pub signed_append : (ts us : List Term) → signed (ts ++ us) ≡ signed ts ++ signed us
signed_append [] us = refl
signed_append (t ∷ ts) us =
    let s : ℕ = if t.is_negative then 45 else 43 in
    let p = product_text t.coefficient t.factors in
    ap (λ l. s ∷ (p ++ l)) (signed_append ts us) ∙ ap (λ l. s ∷ l) (sym (append_assoc p (signed ts) (signed us)))

-- one term more
pub signed_more : (ts : List Term) (t : Term) → signed (ts ++ t ∷ []) ≡ signed ts ++ term_text false t
signed_more ts t = signed_append ts (t ∷ []) ∙ ap (λ l. signed ts ++ l) (one t.is_negative (product_text t.coefficient t.factors))
  where
    one : (n : Bool) (p : List ℕ) → (if n then 45 else 43) ∷ (p ++ []) ≡ sign_text false n ++ p
    one true p = ap (λ l. 45 ∷ l) (append-nil p)
    one false p = ap (λ l. 43 ∷ l) (append-nil p)

-- a spelling is its first term and the others after their signs
pub spelling_first : (t : Term) (ts : List Term) → spelling (t ∷ ts) ≡ term_text true t ++ signed ts
spelling_first t ts = one t.is_negative (product_text t.coefficient t.factors)
  where
    one : (n : Bool) (p : List ℕ) → (if n then 45 ∷ [] else []) ++ (p ++ signed ts) ≡ (sign_text true n ++ p) ++ signed ts
    one true p = refl
    one false p = refl

-- terms after others
pub led_append : (b : Bool) (ts us : List Term) → led b (ts ++ us) ≡ led b ts ++ led (b && (length ts == 0)) us
led_append true [] us = refl
led_append false [] us = refl
led_append b (t ∷ ts) us =
    ap (λ l. term_text b t ++ l) (signed_append ts us ∙ ap (λ l. signed ts ++ l) (sym (led_false us))) ∙ sym (append_assoc (term_text b t) (signed ts) (led false us))
    ∙ ap (λ c. (term_text b t ++ signed ts) ++ led c us) (sym (and_false b (length ts)))
  where
    led_false : (us : List Term) → led false us ≡ signed us
    led_false [] = refl
    led_false (u ∷ us) = one u.is_negative (product_text u.coefficient u.factors) (signed us)
      where
        one : (n : Bool) (p l : List ℕ) → (sign_text false n ++ p) ++ l ≡ (if n then 45 else 43) ∷ (p ++ l)
        one true p l = refl
        one false p l = refl

    and_false : (b : Bool) (n : ℕ) → (b && (suc n == 0)) ≡ false
    and_false true n = suc_test n
    and_false false n = refl

-- one term more; c says that it is the first
pub led_more : (b c : Bool) (ts : List Term) (t : Term) → c ≡ (b && (length ts == 0)) → led b (ts ++ t ∷ []) ≡ led b ts ++ term_text c t
led_more b c ts t first = led_append b ts (t ∷ []) ∙ ap (λ l. led b ts ++ l) (append-nil (term_text (b && (length ts == 0)) t)) ∙ ap (λ d. led b ts ++ term_text d t) (sym first)

-- the spelling of all terms; b says that there is none
pub spelling_led : (ts : List Term) (b : Bool) → b ≡ (length ts == 0) → led true ts ++ (if b then 48 ∷ [] else []) ≡ spelling ts
spelling_led [] b e = ap (λ (b : Bool). if b then 48 ∷ [] else []) e
spelling_led (t ∷ ts) b e = ap (λ (b : Bool). led true (t ∷ ts) ++ (if b then 48 ∷ [] else [])) (e ∙ suc_test (length ts)) ∙ append-nil (led true (t ∷ ts)) ∙ sym (spelling_first t ts)

pub joined_append : (b : Bool) (fs gs : List Factor) → joined b (fs ++ gs) ≡ joined b fs ++ joined (b || not (is_none fs)) gs
joined_append true [] gs = refl
joined_append false [] gs = refl
joined_append b (f ∷ fs) gs =
    ap (λ l. star b ++ (factor_text f ++ l)) (starred_append fs gs ∙ ap (λ l. starred fs ++ l) (sym (joined_true gs) ∙ ap (λ b. joined b gs) (sym (or_true b))))
    ∙ regroup (star b) (factor_text f) (starred fs) (joined (b || true) gs)
  where
    joined_true : (gs : List Factor) → joined true gs ≡ starred gs
    joined_true [] = refl
    joined_true (g ∷ gs) = refl

    regroup : (x y z w : List ℕ) → x ++ (y ++ (z ++ w)) ≡ (x ++ (y ++ z)) ++ w
    regroup x y z w = simp append_assoc

-- a coefficient and factors, one after another; a 1 where nothing was written
pub product_joined : (c : ℕ) (fs : List Factor) → product_text c fs ≡ coefficient_text c ++ (joined (not (c == 1)) fs ++ (if not (c == 1) || not (is_none fs) then [] else 49 ∷ []))
product_joined c [] = alone (c == 1) (λ h. grind (arith, nat_tests))
  where
    alone : (t : Bool) → (t ≡ true → c ≡ 1) → decimal c ≡ (if t then [] else decimal c) ++ (if not t || false then [] else 49 ∷ [])
    alone true h = ap decimal (h refl) ∙ decimal_digit 1 (omega arith)
    alone false h = sym (append-nil (decimal c))
product_joined c (f ∷ fs) = led (c == 1) (decimal c) (factor_text f) (starred fs)
  where
    led : (t : Bool) (d x y : List ℕ) → (if t then x else d ++ 42 ∷ x) ++ y ≡ (if t then [] else d) ++ ((star (not t) ++ (x ++ y)) ++ (if not t || true then [] else 49 ∷ []))
    led true d x y = sym (append-nil (x ++ y))
    led false d x y = append_assoc d (42 ∷ x) y ∙ ap (λ l. d ++ l) (sym (append-nil (42 ∷ (x ++ y))))

pub factors_append : (v : ℕ → Variable) (i : ℕ) (a b : List ℕ) → factors_from v i (a ++ b) ≡ factors_from v i a ++ factors_from v (i + length a) b
factors_append v i [] b = ap (λ n. factors_from v n b) (omega arith)
factors_append v i (e ∷ a) b =
    step (e == 0) _ _ _ _ (factors_append v (suc i) a b ∙ ap (λ n. factors_from v (suc i) a ++ factors_from v n b) (omega arith))
  where
    step : (t : Bool) (f : Factor) (x y z : List Factor) → x ≡ y ++ z → (if t then x else f ∷ x) ≡ (if t then y else f ∷ y) ++ z
    step true f x y z h = h
    step false f x y z h = ap (λ l. f ∷ l) h

-- one exponent more
pub factors_more : (v : ℕ → Variable) (a : List ℕ) (i : ℕ) (e : ℕ) → i < length a → e ≡ get_or a i 0 → factors_from v 0 (take (i + 1) a) ≡ factors_from v 0 (take i a) ++ (if e == 0 then [] else record { variable = v i; exponent = e } ∷ [])
factors_more v a i e h read =
    ap (factors_from v 0) (take_more a i 0 h) ∙ factors_append v 0 (take i a) (get_or a i 0 ∷ [])
    ∙ ap₂ (λ n e. factors_from v 0 (take i a) ++ factors_from v n (e ∷ [])) (omega (arith, length-take-le i a (omega arith))) (sym read)

-- variables that agree where the exponents stand
pub factors_same : (v w : ℕ → Variable) (i : ℕ) (a : List ℕ) → ((j : ℕ) → i ≤ j → j < i + length a → v j ≡ w j) → factors_from v i a ≡ factors_from w i a
factors_same v w i [] h = refl
factors_same v w i (e ∷ a) h =
    ap₂ (λ x (l : List Factor). if e == 0 then l else record { variable = x; exponent = e } ∷ l) (h i (omega arith) (omega arith))
    (factors_same v w (suc i) a (λ j low high. h j (omega arith) (omega arith)))

pub factors_more_some : (v : ℕ → Variable) (a : List ℕ) (i : ℕ) (e : ℕ) → i < length a → e ≡ get_or a i 0 → e ≢ 0 → factors_from v 0 (take (i + 1) a) ≡ factors_from v 0 (take i a) ++ record { variable = v i; exponent = e } ∷ []
factors_more_some v a i e h read some =
    let no : (e == 0) ≡ false = grind (arith, nat_tests) in
    factors_more v a i e h read ∙ ap (λ (t : Bool). factors_from v 0 (take i a) ++ (if t then [] else record { variable = v i; exponent = e } ∷ [])) no

pub factors_more_none : (v : ℕ → Variable) (a : List ℕ) (i : ℕ) (e : ℕ) → i < length a → e ≡ get_or a i 0 → e ≡ 0 → factors_from v 0 (take (i + 1) a) ≡ factors_from v 0 (take i a)
factors_more_none v a i e h read none =
    let yes : (e == 0) ≡ true = grind (arith, nat_tests) in
    factors_more v a i e h read ∙ ap (λ (t : Bool). factors_from v 0 (take i a) ++ (if t then [] else record { variable = v i; exponent = e } ∷ [])) yes ∙ append-nil _

-- a factor put after the others
pub joined_more : (b begun : Bool) (fs gs : List Factor) (f : Factor) (old was new : List ℕ) → was ≡ old ++ joined b fs → begun ≡ (b || not (is_none fs)) → new ≡ was ++ (star begun ++ factor_text f) → gs ≡ fs ++ f ∷ []
    → new ≡ old ++ joined b gs
joined_more b begun fs gs f old was new before is_begun pushed all =
    pushed ∙ ap₂ (λ l s. l ++ (star s ++ factor_text f)) before is_begun ∙ append_assoc old (joined b fs) (star (b || not (is_none fs)) ++ factor_text f)
    ∙ ap (λ l. old ++ (joined b fs ++ (star (b || not (is_none fs)) ++ l))) (sym (append-nil (factor_text f))) ∙ ap (λ l. old ++ l) (sym (joined_append b fs (f ∷ [])))
    ∙ ap (λ l. old ++ joined b l) (sym all)

-- there is a factor then
pub begun_more : (b : Bool) (fs gs : List Factor) (f : Factor) → gs ≡ fs ++ f ∷ [] → true ≡ (b || not (is_none gs))
begun_more b fs gs f all = sym (or_true b) ∙ ap (λ t. b || not t) (sym (some fs)) ∙ ap (λ l. b || not (is_none l)) (sym all)
  where
    some : (fs : List Factor) → is_none (fs ++ f ∷ []) ≡ false
    some [] = refl
    some (g ∷ fs) = refl

-- the parts of a term, one after another
pub term_joined : (b negative begun : Bool) (size : ℕ) (t : Term) (old signs counted powered new : List ℕ) → negative ≡ t.is_negative → size ≡ t.coefficient
    → signs ≡ old ++ sign_text b negative → counted ≡ signs ++ coefficient_text size → powered ≡ counted ++ joined (not (size == 1)) t.factors
    → begun ≡ (not (size == 1) || not (is_none t.factors)) → new ≡ powered ++ (if begun then [] else 49 ∷ []) → new ≡ old ++ term_text b t
term_joined b negative begun size t old signs counted powered new is_negative is_size e₁ e₂ e₃ is_begun e₄ =
    e₄ ∙ ap₂ (λ l s. l ++ (if s then [] else 49 ∷ [])) (e₃ ∙ ap (λ l. l ++ joined (not (size == 1)) t.factors) (e₂ ∙ ap (λ l. l ++ coefficient_text size) e₁)) is_begun
    ∙ regroup old (sign_text b negative) (coefficient_text size) (joined (not (size == 1)) t.factors) _
    ∙ ap (λ l. old ++ (sign_text b negative ++ l)) (sym (product_joined size t.factors))
    ∙ ap₂ (λ n c. old ++ (sign_text b n ++ product_text c t.factors)) is_negative is_size
  where
    regroup : (a x y z w : List ℕ) → (((a ++ x) ++ y) ++ z) ++ w ≡ a ++ (x ++ (y ++ (z ++ w)))
    regroup a x y z w = simp append_assoc

-- a loop that puts a term after those before
pub led_step : {X : Type 0} (T : X → Term) (xs : List X) (i : ℕ) (x : X) (w : List ℕ) → i < length xs → x ≡ get_or xs i x
    → (w ++ led true (map T (take i xs))) ++ term_text (i == 0) (T x) ≡ w ++ led true (map T (take (i + 1) xs))
led_step T xs i x w h read =
    append_assoc w (led true (map T (take i xs))) (term_text (i == 0) (T x))
    ∙ ap (λ l. w ++ l) (sym (led_more true (i == 0) (map T (take i xs)) (T x) (ap (λ n. n == 0) (omega (arith, length-map (take i xs) T, length-take-le i xs (omega arith))))))
    ∙ ap (λ l. w ++ led true l) (ap (λ y. map T (take i xs) ++ T y ∷ []) read ∙ sym (map_more T xs i x h))

-- its end: T makes the terms of what f gives of the elements, which are ys
pub led_all : {X Y : Type 0} (T : Y → Term) (f : X → Y) (xs : List X) (ys : List Y) (i : ℕ) (b : Bool) (w : List ℕ) → length xs ≤ i → b ≡ (length xs == 0) → map f xs ≡ ys
    → (w ++ led true (map (λ x. T (f x)) (take i xs))) ++ (if b then 48 ∷ [] else []) ≡ w ++ spelling (map T ys)
led_all T f xs ys i b w h none all =
    append_assoc w (led true (map (λ x. T (f x)) (take i xs))) (if b then 48 ∷ [] else [])
    ∙ ap (λ l. w ++ (led true (map (λ x. T (f x)) l) ++ (if b then 48 ∷ [] else []))) (take_all i xs h)
    ∙ ap (λ l. w ++ l) (spelling_led (map (λ x. T (f x)) xs) b (none ∙ ap (λ n. n == 0) (sym (length-map xs (λ x. T (f x))))))
    ∙ ap (λ l. w ++ spelling l) (sym (map-map T f xs) ∙ ap (map T) all)

-- the parts of a power, one after another
pub factor_put : (w : List ℕ) (b : Bool) (f : Factor) → ((w ++ star b) ++ variable_text f.variable) ++ (if f.exponent == 1 then [] else 94 ∷ decimal f.exponent) ≡ w ++ (star b ++ factor_text f)
factor_put w b f = regroup w (star b) (variable_text f.variable) (if f.exponent == 1 then [] else 94 ∷ decimal f.exponent)
  where
    regroup : (a x y z : List ℕ) → ((a ++ x) ++ y) ++ z ≡ a ++ (x ++ (y ++ z))
    regroup a x y z = simp append_assoc

-- the primary invariants alone
pub primary_factors : (a : List ℕ) → factors_from (variable_in [] (length a)) 0 a ≡ factors_from (λ i. Marked Primary (i + 1)) 0 a
primary_factors a = factors_same (variable_in [] (length a)) (λ i. Marked Primary (i + 1)) 0 a (λ j low high. primary 0 (length a) j _ _ refl (omega arith))
  where
    primary : (n r j : ℕ) (x z : Variable) → n ≡ 0 → j < r → (if nat_lt j n then x else if nat_lt j (n + r) then Marked Primary (j - n + 1) else z) ≡ Marked Primary (j + 1)
    primary n r j x z e h =
        let before : nat_lt j n ≡ false = grind (arith, nat_tests) in
        let within : nat_lt j (n + r) ≡ true = grind (arith, nat_tests) in
        ap (λ b. if b then x else if nat_lt j (n + r) then Marked Primary (j - n + 1) else z) before
        ∙ ap (λ b. if b then Marked Primary (j - n + 1) else z) within ∙ ap (λ m. Marked Primary m) (omega arith)

-- the parts of a term of a combination, one after another
pub combination_joined : (w : List ℕ) (b : Bool) (p : ℕ) (e : Entry ℕ) (negative begun : Bool) (size n : ℕ) → negative ≡ is_negative p e.1 → size ≡ absolute p e.1 → n ≡ length e.0.1
    → begun ≡ (not (size == 1) || not (is_none (factors_from (variable_in [] n) 0 e.0.1)))
    → ((((w ++ sign_text b negative) ++ coefficient_text size) ++ joined (not (size == 1)) (factors_from (variable_in [] n) 0 e.0.1)) ++ star begun) ++ variable_text (Marked Secondary (e.0.0 + 1))
    ≡ w ++ term_text b (combination_term p e)
combination_joined w b p e negative begun size n is_negative is_size count is_begun =
    append_assoc powered (star begun) (variable_text v) ∙ ap (λ l. powered ++ (star begun ++ l)) (sym (append-nil (variable_text v)))
    ∙ sym (append-nil (powered ++ (star begun ++ factor_text f)))
    ∙ term_joined b negative true size t w (w ++ sign_text b negative) ((w ++ sign_text b negative) ++ coefficient_text size) (powered ++ (star begun ++ factor_text f)) _ is_negative is_size refl refl
    (joined_more (not (size == 1)) begun fs t.factors f ((w ++ sign_text b negative) ++ coefficient_text size) powered _ refl is_begun refl all) (begun_more (not (size == 1)) fs t.factors f all) refl
  where
    v : Variable
    v = Marked Secondary (e.0.0 + 1)

    f : Factor
    f = record { variable = Marked Secondary (e.0.0 + 1); exponent = 1 }

    t : Term
    t = combination_term p e

    fs : List Factor
    fs = factors_from (variable_in [] n) 0 e.0.1

    powered : List ℕ
    powered = ((w ++ sign_text b negative) ++ coefficient_text size) ++ joined (not (size == 1)) (factors_from (variable_in [] n) 0 e.0.1)

    all : factors_from (λ i. Marked Primary (i + 1)) 0 e.0.1 ++ f ∷ [] ≡ factors_from (variable_in [] n) 0 e.0.1 ++ f ∷ []
    all = ap (λ l. l ++ f ∷ []) (sym (ap (λ m. factors_from (variable_in [] m) 0 e.0.1) count ∙ primary_factors e.0.1))
