-- What a scanner has read, by its state; each byte that it takes is added to it.
use Rattle.std.proofs.Common.{◌≡◌, ℕ, ◌+◌, ◌*◌, ◌/◌, ◌%◌, ◌≤◌, Bool, true, false, List, [], ◌∷◌, ◌++◌, if◌then◌else◌, sym, ap, ap₂, ◌∙◌, refl, arith}
use Rattle.std.specs.Prelude.{decimal, ◌==◌}
use Rattle.std.proofs.lemmas.Fmt.{decimal_step}
use mathlib.Core.List.{append_assoc, append-nil}
use Rattle.poly_text.specs.Syntax.{Factor, Term, factor_text, starred, product_text, signed, spelling}

-- one digit more
pub decimal_grown : (n d : ℕ) → 1 ≤ n → n ≤ 9999 → d ≤ 9 → decimal (10 * n + d) ≡ decimal n ++ (48 + d) ∷ []
decimal_grown n d h l e =
    let q : (10 * n + d) / 10 ≡ n = omega arith in
    let r : (10 * n + d) % 10 ≡ d = omega arith in
    decimal_step (10 * n + d) (omega arith) (omega arith) ∙ ap₂ (λ (x y : ℕ). decimal x ++ (48 + y) ∷ []) q r

-- what stands before the next factor, and before the next term
abbrev pub before_factor : ℕ → List Factor → List ℕ
before_factor c [] = if c == 1 then [] else decimal c ++ 42 ∷ []
before_factor c (f ∷ fs) = product_text c (f ∷ fs) ++ 42 ∷ []

abbrev pub sign_byte : Bool → ℕ
sign_byte sign = if sign then 45 else 43

abbrev pub before_term : List Term → Bool → List ℕ
before_term [] sign = if sign then 45 ∷ [] else []
before_term (t ∷ ts) sign = spelling (t ∷ ts) ++ sign_byte sign ∷ []

starred_more : (fs : List Factor) (f : Factor) → starred (fs ++ f ∷ []) ≡ starred fs ++ 42 ∷ factor_text f
starred_more [] f = ap (λ (l : List ℕ). 42 ∷ l) (append-nil (factor_text f))
starred_more (g ∷ fs) f = ap (λ (l : List ℕ). 42 ∷ l) (ap (λ (l : List ℕ). factor_text g ++ l) (starred_more fs f) ∙ sym (append_assoc (factor_text g) (starred fs) (42 ∷ factor_text f)))

pub product_more : (c : ℕ) (fs : List Factor) (f : Factor) → product_text c (fs ++ f ∷ []) ≡ before_factor c fs ++ factor_text f
product_more c [] f = append-nil _ ∙ go (c == 1)
  where
    go : (t : Bool) → (if t then factor_text f else decimal c ++ (42 ∷ factor_text f)) ≡ (if t then [] else decimal c ++ 42 ∷ []) ++ factor_text f
    go true = refl
    go false = sym (append_assoc (decimal c) (42 ∷ []) (factor_text f))
product_more c (g ∷ fs) f =
    let head : List ℕ = if c == 1 then factor_text g else decimal c ++ (42 ∷ factor_text g) in
    ap (λ (l : List ℕ). head ++ l) (starred_more fs f)
    ∙ sym (append_assoc head (starred fs) (42 ∷ factor_text f))
    ∙ sym (append_assoc (head ++ starred fs) (42 ∷ []) (factor_text f))

signed_more : (ts : List Term) (t : Term) → signed (ts ++ t ∷ []) ≡ signed ts ++ sign_byte t.is_negative ∷ product_text t.coefficient t.factors
signed_more [] t = ap (λ (l : List ℕ). sign_byte t.is_negative ∷ l) (append-nil _)
signed_more (u ∷ ts) t = ap (λ (l : List ℕ). sign_byte u.is_negative ∷ l)
    (ap (λ (l : List ℕ). product_text u.coefficient u.factors ++ l) (signed_more ts t) ∙ sym (append_assoc (product_text u.coefficient u.factors) (signed ts) _))

pub spelling_more : (ts : List Term) (t : Term) → spelling (ts ++ t ∷ []) ≡ before_term ts t.is_negative ++ product_text t.coefficient t.factors
spelling_more [] t = ap (λ (l : List ℕ). before_term [] t.is_negative ++ l) (append-nil _)
spelling_more (u ∷ ts) t =
    let head : List ℕ = if u.is_negative then 45 ∷ [] else [] in
    let text : List ℕ = product_text u.coefficient u.factors in
    let last : List ℕ = product_text t.coefficient t.factors in
    ap (λ (l : List ℕ). head ++ (text ++ l)) (signed_more ts t)
    ∙ ap (λ (l : List ℕ). head ++ l) (sym (append_assoc text (signed ts) (sign_byte t.is_negative ∷ last)))
    ∙ sym (append_assoc head (text ++ signed ts) (sign_byte t.is_negative ∷ last))
    ∙ sym (append_assoc (head ++ (text ++ signed ts)) (sign_byte t.is_negative ∷ []) last)

pub before_term_more : (ts : List Term) (t : Term) (sign : Bool) → before_term (ts ++ t ∷ []) sign ≡ spelling (ts ++ t ∷ []) ++ sign_byte sign ∷ []
before_term_more [] t sign = refl
before_term_more (u ∷ ts) t sign = refl
