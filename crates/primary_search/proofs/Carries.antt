-- Adding 1 to a number by its digits: while the digits are the greatest, they become 0 and 1 is carried.
use Rattle.std.proofs.Common.{◌≡◌, ◌∙◌, ◌+◌, ◌*◌, ◌^◌, ◌<◌, ◌≤◌, ℕ, zero, suc, List, [], ◌∷◌, length, get_or, take, drop, replicate, slice_set, sym, ap, ap₂, subst, refl, arith}
use Rattle.std.specs.Prelude.{All}
use Rattle.std.proofs.Math.Nat.{pow-zero, pow-succ'}
use Rattle.std.proofs.lemmas.List.Elements.{All-cons}
use Rattle.primary_search.specs.Candidates.{number_of}

module _ (q : ℕ) where
  -- the first i digits were the greatest and are 0; the others are as they were
  abbrev pub Carried : ℕ → List ℕ → List ℕ → Type 0
  Carried zero old new = old ≡ new
  Carried (suc i) [] new = ⊥
  Carried (suc i) (o ∷ os) [] = ⊥
  Carried (suc i) (o ∷ os) (n ∷ ns) = (o + 1 ≡ q) × (n ≡ 0) × Carried i os ns

  pub carried_length : (i : ℕ) (old new : List ℕ) → Carried i old new → length new ≡ length old
  carried_length zero old new c = sym (ap length c)
  carried_length (suc i) [] new c = absurd c
  carried_length (suc i) (o ∷ os) [] c = absurd c
  carried_length (suc i) (o ∷ os) (n ∷ ns) c = ap suc (carried_length i os ns c.2)

  pub carried_digits : (i : ℕ) (old new : List ℕ) → Carried i old new → All (λ d. d < q) old → All (λ d. d < q) new
  carried_digits zero old new c h = subst (All (λ d. d < q)) c h
  carried_digits (suc i) [] new c h = absurd c
  carried_digits (suc i) (o ∷ os) [] c h = absurd c
  carried_digits (suc i) (o ∷ os) (n ∷ ns) c h = All-cons (λ d. d < q) n ns (let a = c.0 in let b = c.1 in omega arith) (carried_digits i os ns c.2 (λ j e v. h (suc j) e (omega arith)))

  pub set_digits : (xs : List ℕ) (i v : ℕ) → v < q → All (λ d. d < q) xs → All (λ d. d < q) (slice_set xs i v)
  set_digits [] i v low h = h
  set_digits (x ∷ xs) zero v low h = All-cons (λ d. d < q) v xs low (λ j e u. h (suc j) e (omega arith))
  set_digits (x ∷ xs) (suc i) v low h = All-cons (λ d. d < q) x (slice_set xs i v) (h 0 x (omega arith)) (set_digits xs i v low (λ j e u. h (suc j) e (omega arith)))

  -- one digit more
  pub carried_more : (i : ℕ) (old new : List ℕ) → Carried i old new → i < length new → get_or new i 0 + 1 ≡ q → Carried (suc i) old (slice_set new i 0)
  carried_more zero [] [] c h e = absurd (omega arith)
  carried_more zero [] (n ∷ ns) c h e = absurd (let l : 0 ≡ suc (length ns) = ap length c in omega arith)
  carried_more zero (o ∷ os) [] c h e = absurd (omega arith)
  carried_more zero (o ∷ os) (n ∷ ns) c h e =
      let same : o ≡ n = ap (λ l. get_or l 0 0) c in
      (omega arith, refl, ap (drop 1) c)
  carried_more (suc i) [] new c h e = absurd c
  carried_more (suc i) (o ∷ os) [] c h e = absurd c
  carried_more (suc i) (o ∷ os) (n ∷ ns) c h e = (c.0, c.1, carried_more i os ns c.2 (omega arith) e)

  -- the digit after them is not the greatest: 1 is added there
  pub carried_done : (i m : ℕ) (old new : List ℕ) → Carried i old new → i < m → i < length new
      → number_of q (take m (slice_set new i (get_or new i 0 + 1))) ≡ number_of q (take m old) + 1
  carried_done i zero old new c h l = absurd (omega arith)
  carried_done zero (suc m) old [] c h l = absurd (omega arith)
  carried_done zero (suc m) old (n ∷ ns) c h l = subst (λ x. number_of q (take (suc m) (slice_set (n ∷ ns) 0 (n + 1))) ≡ number_of q (take (suc m) x) + 1) (sym c) (omega arith)
  carried_done (suc i) (suc m) [] new c h l = absurd c
  carried_done (suc i) (suc m) (o ∷ os) [] c h l = absurd c
  carried_done (suc i) (suc m) (o ∷ os) (n ∷ ns) c h l =
      let ih = carried_done i m os ns c.2 (omega arith) (omega arith) in
      let times : q * number_of q (take m (slice_set ns i (get_or ns i 0 + 1))) ≡ q * (number_of q (take m os) + 1) = ap (λ x. q * x) ih in
      let a = c.0 in
      let b = c.1 in
      add_one o n (number_of q (take m os)) _ a b times
    where
      add_one : (o n x y : ℕ) → o + 1 ≡ q → n ≡ 0 → q * y ≡ q * (x + 1) → n + q * y ≡ (o + q * x) + 1
      add_one o n x y a b t = omega arith

  pub set_rest : (i m v : ℕ) (xs : List ℕ) → i < m → drop m (slice_set xs i v) ≡ drop m xs
  set_rest i zero v xs h = absurd (omega arith)
  set_rest i (suc m) v [] h = refl
  set_rest zero (suc m) v (x ∷ xs) h = refl
  set_rest (suc i) (suc m) v (x ∷ xs) h = set_rest i m v xs (omega arith)

  pub carried_rest : (i m : ℕ) (old new : List ℕ) → Carried i old new → i ≤ m → drop m new ≡ drop m old
  carried_rest zero m old new c h = sym (ap (drop m) c)
  carried_rest (suc i) zero old new c h = absurd (omega arith)
  carried_rest (suc i) (suc m) [] new c h = absurd c
  carried_rest (suc i) (suc m) (o ∷ os) [] c h = absurd c
  carried_rest (suc i) (suc m) (o ∷ os) (n ∷ ns) c h = carried_rest i m os ns c.2 (omega arith)

  -- all digits were the greatest
  pub carried_zeros : (i : ℕ) (old new : List ℕ) → Carried i old new → take i new ≡ replicate i 0
  carried_zeros zero old new c = refl
  carried_zeros (suc i) [] new c = absurd c
  carried_zeros (suc i) (o ∷ os) [] c = absurd c
  carried_zeros (suc i) (o ∷ os) (n ∷ ns) c = ap₂ ◌∷◌ c.1 (carried_zeros i os ns c.2)

  pub carried_all : (i : ℕ) (old new : List ℕ) → Carried i old new → number_of q (take i old) + 1 ≡ q ^ i
  carried_all zero old new c = sym (pow-zero q)
  carried_all (suc i) [] new c = absurd c
  carried_all (suc i) (o ∷ os) [] c = absurd c
  carried_all (suc i) (o ∷ os) (n ∷ ns) c =
      let ih = carried_all i os ns c.2 in
      let times : q * (number_of q (take i os) + 1) ≡ q * q ^ i = ap (λ x. q * x) ih in
      let a = c.0 in
      last_one o (number_of q (take i os)) (q * q ^ i) a times ∙ sym (pow-succ' q i)
    where
      last_one : (o x p : ℕ) → o + 1 ≡ q → q * (x + 1) ≡ p → (o + q * x) + 1 ≡ p
      last_one o x p a t = omega arith
