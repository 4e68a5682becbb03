-- The text of an entry of a matrix.
use Rattle.std.proofs.Common.{◌≡◌, ◌≢◌, ◌∙◌, ℕ, zero, suc, ◌<◌, ◌≤◌, ◌^◌, Bool, true, false, List, [], ◌∷◌, ◌++◌, length, drop, get_or, Option, Some, None, refl, sym, ap, subst, arith}
use Rattle.std.specs.Prelude.{All, decimal, if◌then◌else◌}
use Rattle.std.proofs.lemmas.Fmt.{decimal_digit, decimal_nonempty}
use Rattle.std.proofs.lemmas.List.{length-append}
use Rattle.std.proofs.lemmas.List.Elements.{All-head}
use Rattle.certificate_io.specs.Lines.{IsFound, IsNumber, IsCellText}
use Rattle.certificate_io.specs.declared.words.Cell.{Cell}
use Rattle.certificate_io.proofs.LineWords.{decimal_free}

pub no_cell : (text : List ℕ) → length text ≡ 0 → (c : Cell) → ¬ IsCellText c text
no_cell text empty c is =
    let long = length-append (if c.is_negative then 45 ∷ [] else []) (decimal c.size) in
    let some = decimal_nonempty c.size (omega (arith, is.0.size)) in
    omega (arith, empty, ap length is.1, long, some)

pub zero_cell : (text : List ℕ) → text ≡ 48 ∷ [] → IsCellText (record { is_negative = false; size = 0 }) text
zero_cell text e = (record { size = omega arith; sign = λ (bad : false ≡ true). absurd cc }, decimal_digit 0 (omega arith) ∙ sym e)

-- the text of an entry without a sign, and with one
spelled : (b : Bool) (n : ℕ) → List ℕ
spelled b n = (if b then 45 ∷ [] else []) ++ decimal n

signed_text : (rest : List ℕ) (b : Bool) (n : ℕ) → b ≡ true → decimal n ≡ rest → (if b then 45 ∷ [] else []) ++ decimal n ≡ 45 ∷ rest
signed_text rest b n e d = ap (λ (t : Bool). (if t then 45 ∷ [] else []) ++ decimal n) e ∙ ap (λ l. 45 ∷ l) d

plain_text : (rest : List ℕ) (b : Bool) (n : ℕ) → b ≡ false → decimal n ≡ rest → (if b then 45 ∷ [] else []) ++ decimal n ≡ rest
plain_text rest b n e d = ap (λ (t : Bool). (if t then 45 ∷ [] else []) ++ decimal n) e ∙ d

starts : (n : ℕ) (rest : List ℕ) → n < 2 ^ 64 → decimal n ≡ 45 ∷ rest → ⊥
starts n rest small e = All-head (λ b. b ≢ 45) 45 rest (subst (All (λ b. b ≢ 45)) e (decimal_free 45 (omega arith) n small)) refl

-- no entry where there is no number after the sign
no_signed : (rest : List ℕ) → ((c : Cell) → ¬ ((c.is_negative ≡ true) × IsNumber 99999 c.size rest)) → (b : Bool) (n : ℕ) → n ≤ 99999 → (b ≡ true → 1 ≤ n) → (if b then 45 ∷ [] else []) ++ decimal n ≡ 45 ∷ rest → ⊥
no_signed rest none true n low some e =
    let tail : decimal n ≡ rest = cc in
    none (record { is_negative = true; size = n }) (refl, ((some refl, low), tail))
no_signed rest none false n low some e = starts n rest (omega (arith, low)) e

pub signed_found : (text rest : List ℕ) → text ≡ 45 ∷ rest → (r : Option Cell) → IsFound (λ c. (c.is_negative ≡ true) × IsNumber 99999 c.size rest) r → IsFound (λ c. IsCellText c text) r
signed_found text rest e (Some c) h = (record { size = h.1.0.1; sign = λ _. h.1.0.0 }, signed_text rest c.is_negative c.size h.0 h.1.1 ∙ sym e)
signed_found text rest e None h = λ c is. no_signed rest h c.is_negative c.size is.0.size is.0.sign (is.1 ∙ e)

no_plain : (text : List ℕ) → text ≢ 48 ∷ [] → get_or text 0 0 ≢ 45 → ((c : Cell) → ¬ ((c.is_negative ≡ false) × IsNumber 99999 c.size text)) → (b : Bool) (n : ℕ) → n ≤ 99999 → (if b then 45 ∷ [] else []) ++ decimal n ≡ text → ⊥
no_plain text other first none true n low e = first (sym (ap (λ l. get_or l 0 0) e))
no_plain text other first none false zero low e = other (sym e ∙ decimal_digit 0 (omega arith))
no_plain text other first none false (suc n) low e = none (record { is_negative = false; size = suc n }) (refl, ((omega arith, low), e))

pub plain_found : (text : List ℕ) → text ≢ 48 ∷ [] → get_or text 0 0 ≢ 45 → (r : Option Cell) → IsFound (λ c. (c.is_negative ≡ false) × IsNumber 99999 c.size text) r → IsFound (λ c. IsCellText c text) r
plain_found text other first (Some c) h = (
  record { size = h.1.0.1; sign = λ (yes : c.is_negative ≡ true). let bad : true ≡ false = sym yes ∙ h.0 in absurd cc },
  plain_text text c.is_negative c.size h.0 h.1.1,
)
plain_found text other first None h = λ c is. no_plain text other first h c.is_negative c.size is.0.size is.1

pub after_first : (text : List ℕ) (b : ℕ) → length text ≢ 0 → get_or text 0 0 ≡ b → text ≡ b ∷ drop 1 text
after_first [] b some e = absurd (some refl)
after_first (x ∷ l) b some e = ap (λ y. y ∷ l) e
