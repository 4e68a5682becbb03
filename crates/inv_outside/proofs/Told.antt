-- What is told over several calls.
use Rattle.std.proofs.Common.{◌≡◌, ℕ, ◌≤◌, ◌+◌, ◌-◌, List, [], ◌++◌, length, take, drop, Some, None, refl, sym, ap, subst, ◌∙◌, append_assoc, take-append-drop, length-drop, length-append, take-add, arith}
use Rattle.std.proofs.lemmas.List.{length-take-le, take_at, drop-drop, take_rest}
use Rattle.std.specs.Prelude.{Option, Result, Ok, Err, OnErr}
use Rattle.inv_outside.specs.Outside.{Gave, Took}

pub Gave-nil : (a : Option (List ℕ)) → Gave a [] a
Gave-nil None = tt
Gave-nil (Some a) = refl

pub Gave-append : (a b c : Option (List ℕ)) (xs ys : List ℕ) → Gave a xs b → Gave b ys c → Gave a (xs ++ ys) c
Gave-append None b c xs ys first second = tt
Gave-append (Some a) None c xs ys first second = absurd first
Gave-append (Some a) (Some b) None xs ys first second = absurd second
Gave-append (Some a) (Some b) (Some c) xs ys first second = first ∙ ap (λ l. xs ++ l) second ∙ sym (append_assoc xs ys c)

-- what was given before an error: some bytes, and then others that did not fit in memory
pub Gave-lost : {T E : Type 0} (r : Result T E) (a b c : Option (List ℕ)) (xs ys : List ℕ) (n : ℕ) → length xs + length ys ≤ n → Gave a xs b → Gave b ys c → OnErr r ((bytes : List ℕ) × (length bytes ≤ n) × Gave a bytes c)
Gave-lost (Ok _) a b c xs ys n within first second = tt
Gave-lost (Err _) a b c xs ys n within first second = (xs ++ ys, omega (arith, length-append xs ys), Gave-append a b c xs ys first second)

pub Took-append : (a b c : Option (List ℕ)) (xs ys : List ℕ) → Took a xs b → Took b ys c → Took a (xs ++ ys) c
Took-append a b None xs ys first second = tt
Took-append a None (Some c) xs ys first second = absurd second
Took-append None (Some b) (Some c) xs ys first second = absurd first
Took-append (Some a) (Some b) (Some c) xs ys first second = second ∙ ap (λ l. l ++ ys) first ∙ append_assoc a xs ys

-- the front of the bytes, and then the front of what is left of them
pub Took-take : (a b c : Option (List ℕ)) (bytes : List ℕ) (at n : ℕ) → Took a (take at bytes) b → Took b (take n (take (length bytes - at) (drop at bytes))) c → Took a (take (at + n) bytes) c
Took-take a b c bytes at n first second =
    let piece = subst (λ l. Took b (take n l) c) (take_rest bytes at) second in
    subst (λ l. Took a l c) (sym (take-add at n bytes)) (Took-append a b c (take at bytes) (take n (drop at bytes)) first piece)

-- n bytes from a place on are copied to the front of a buffer whose other bytes stay
pub drop-copied : (bytes copy rest : List ℕ) (at n : ℕ) → at + n ≤ length bytes → copy ≡ take (at + n - at) (drop at bytes) → drop at bytes ≡ take n (copy ++ rest) ++ drop (at + n) bytes
drop-copied bytes copy rest at n within is =
    let same : at + n - at ≡ n = omega arith in
    let front : copy ≡ take n (drop at bytes) = is ∙ ap (λ m. take m (drop at bytes)) same in
    let long : length copy ≡ n = ap length front ∙ length-take-le n (drop at bytes) (omega (arith, length-drop at bytes)) in
    sym (ap (λ l. l ++ drop (at + n) bytes) (take_at copy rest n long ∙ front) ∙ ap (λ l. take n (drop at bytes) ++ l) (sym (drop-drop n at bytes)) ∙ take-append-drop n (drop at bytes))
