-- One copy more of a list.
use Rattle.std.proofs.Common.{◌≡◌, ◌∙◌, ◌+◌, ℕ, zero, suc, List, [], ◌∷◌, ◌++◌, refl, sym, ap, arith}
use Rattle.syzygy_kernel.specs.Graphs.{copies}

append_none : {A : Type 0} (xs : List A) → xs ++ [] ≡ xs
append_none [] = refl
append_none (x ∷ xs) = ap (λ ys. x ∷ ys) (append_none xs)

append_again : {A : Type 0} (xs ys zs : List A) → (xs ++ ys) ++ zs ≡ xs ++ (ys ++ zs)
append_again [] ys zs = refl
append_again (x ∷ xs) ys zs = ap (λ l. x ∷ l) (append_again xs ys zs)

copies_last : {A : Type 0} (c : ℕ) (xs : List A) → copies c xs ++ xs ≡ copies (suc c) xs
copies_last zero xs = sym (append_none xs)
copies_last (suc c) xs = append_again xs (copies c xs) xs ∙ ap (λ l. xs ++ l) (copies_last c xs)

pub copies_more : {A : Type 0} (c : ℕ) (xs old new : List A) → old ≡ copies c xs → new ≡ old ++ xs → new ≡ copies (c + 1) xs
copies_more c xs old new a b =
    let e : suc c ≡ c + 1 = omega arith in
    b ∙ ap (λ l. l ++ xs) a ∙ copies_last c xs ∙ ap (λ (m : ℕ). copies m xs) e
