-- The parts of a monomial that is given by its exponents, and the place of the part in the variables.
use Rattle.std.proofs.Common.{◌≡◌, ◌∙◌, ◌+◌, ◌<◌, ◌≤◌, ℕ, zero, suc, Bool, true, false, List, [], ◌∷◌, length, take, drop, refl, sym, ap, ap₂, arith}
use Rattle.std.specs.Prelude.{All, ◌==◌, ◌&&◌, get_or}
use native.Mathlib.Decide.{dec_le}
use Rattle.alg_core.specs.MonomialParts.{variable_part, mark_part}
use Rattle.alg_core.specs.Monomials.{Mon, mono, mon_ext, mon_same, mono_injective, exponent, exponent_mono}
use Rattle.alg_core.proofs.MonomialParts.{exponent_variable_part, exponent_mark_part, variable_part_past}
use Rattle.primary_module.specs.Positions.{AreDifferent, part_at, place_of, zero_or}
use Rattle.primary_module.proofs.Places.{place_part}
use Rattle.syzygy_kernel.specs.Fronts.{is_front}

exponent_taken : (n : ℕ) (b : List ℕ) (i : ℕ) → i < n → exponent (take n b) i ≡ exponent b i
exponent_taken zero b i h = absurd (omega arith)
exponent_taken (suc n) [] i h = refl
exponent_taken (suc n) (x ∷ b) zero h = refl
exponent_taken (suc n) (x ∷ b) (suc i) h = exponent_taken n b i (omega arith)

exponent_past_taken : (n : ℕ) (b : List ℕ) (i : ℕ) → n ≤ i → exponent (take n b) i ≡ 0
exponent_past_taken zero b i h = refl
exponent_past_taken (suc n) [] i h = refl
exponent_past_taken (suc n) (x ∷ b) zero h = absurd (omega arith)
exponent_past_taken (suc n) (x ∷ b) (suc i) h = exponent_past_taken n b i (omega arith)

exponent_dropped : (n : ℕ) (b : List ℕ) (i : ℕ) → exponent (drop n b) i ≡ exponent b (n + i)
exponent_dropped zero b i = let e : i ≡ 0 + i = omega arith in ap (exponent b) e
exponent_dropped (suc n) [] i = refl
exponent_dropped (suc n) (x ∷ b) i = exponent_dropped n b i ∙ (let e : suc (n + i) ≡ suc n + i = omega arith in ap (exponent (x ∷ b)) e)

pub listed_variables : (n : ℕ) (b : List ℕ) → variable_part n (mono b) ≡ mono (take n b)
listed_variables n b = mon_ext _ _ (λ i. at i (dec_le n i))
  where
    at : (i : ℕ) → Dec (n ≤ i) → exponent (variable_part n (mono b)).0 i ≡ exponent (mono (take n b)).0 i
    at i (yes p) = variable_part_past n (mono b) i p ∙ sym (exponent_mono (take n b) i ∙ exponent_past_taken n b i p)
    at i (no p) = exponent_variable_part n (mono b) i (omega arith) ∙ exponent_mono b i ∙ sym (exponent_mono (take n b) i ∙ exponent_taken n b i (omega arith))

pub listed_marks : (n : ℕ) (b : List ℕ) → mark_part n (mono b) ≡ mono (drop n b)
listed_marks n b = mon_ext _ _ (λ i. exponent_mark_part n (mono b) i ∙ exponent_mono b (n + i) ∙ sym (exponent_mono (drop n b) i ∙ exponent_dropped n b i))

and_parts : (p q : Bool) → p && q ≡ true → (p ≡ true) × (q ≡ true)
and_parts true q e = (refl, e)
and_parts false q e = absurd (grind arith)

-- what stands at the front is what is taken there
front_taken : (a b : List ℕ) → is_front a b ≡ true → a ≡ take (length a) b
front_taken [] b h = refl
front_taken (x ∷ a) [] h = absurd (grind arith)
front_taken (x ∷ a) (y ∷ b) h =
    let p = and_parts (x == y) (is_front a b) h in
    let same : x ≡ y = grind arith in
    ap₂ (λ (z : ℕ) (l : List ℕ). z ∷ l) same (front_taken a b p.1)

taken_front : (n : ℕ) (b : List ℕ) → n ≤ length b → is_front (take n b) b ≡ true
taken_front zero b h = refl
taken_front (suc n) [] h = absurd (omega arith)
taken_front (suc n) (x ∷ b) h = let r = taken_front n b (omega arith) in let s : (x == x) ≡ true = grind arith in ap₂ (λ (p q : Bool). p && q) s r

length_taken : (n : ℕ) (b : List ℕ) → n ≤ length b → length (take n b) ≡ n
length_taken zero b h = refl
length_taken (suc n) [] h = absurd (omega arith)
length_taken (suc n) (x ∷ b) h = ap suc (length_taken n b (omega arith))

module _ (n : ℕ) (b : List ℕ) (long : n ≤ length b) where
  front_part : (a : List ℕ) → length a ≡ n → is_front a b ≡ true → mono a ≡ variable_part n (mono b)
  front_part a e h = ap mono (front_taken a b h ∙ ap (λ (l : ℕ). take l b) e) ∙ sym (listed_variables n b)

  part_front : (a : List ℕ) → length a ≡ n → mono a ≡ variable_part n (mono b) → is_front a b ≡ true
  part_front a e h =
      let same : a ≡ take n b = mono_injective a (take n b) (e ∙ sym (length_taken n b long)) (h ∙ listed_variables n b) in
      ap (λ (l : List ℕ). is_front l b) same ∙ taken_front n b long

  first_place : (a : List ℕ) (B : List (List ℕ)) → length a ≡ n → is_front a b ≡ true → place_of (a ∷ B) (variable_part n (mono b)) ≡ 0
  unfolding place_of zero_or
  first_place a B e h = go (mon_same (mono a) (variable_part n (mono b)))
    where
      go : (d : Dec (mono a ≡ variable_part n (mono b))) → zero_or d (suc (place_of B (variable_part n (mono b)))) ≡ 0
      go (yes p) = refl
      go (no p) = absurd (p (front_part a e h))

  later_place : (a : List ℕ) (B : List (List ℕ)) → length a ≡ n → is_front a b ≡ false → place_of (a ∷ B) (variable_part n (mono b)) ≡ suc (place_of B (variable_part n (mono b)))
  unfolding place_of zero_or
  later_place a B e h = go (mon_same (mono a) (variable_part n (mono b)))
    where
      go : (d : Dec (mono a ≡ variable_part n (mono b))) → zero_or d (suc (place_of B (variable_part n (mono b)))) ≡ suc (place_of B (variable_part n (mono b)))
      go (yes p) = absurd (let t = part_front a e p in grind arith)
      go (no p) = refl

  no_place : (m : Mon) → place_of [] m ≡ 0
  unfolding place_of
  no_place m = refl

  -- the search for the place, from a member on
  pub place_here : (B : List (List ℕ)) (i : ℕ) (a : List ℕ) → i < length B → a ≡ get_or B i a → All (λ a. length a ≡ n) B → is_front a b ≡ true
      → place_of (drop i B) (variable_part n (mono b)) ≡ 0
  place_here [] i a l e wide h = absurd (omega arith)
  place_here (c ∷ B) zero a l e wide h = first_place c B (wide 0 [] (omega arith)) (ap (λ (x : List ℕ). is_front x b) (sym e) ∙ h)
  place_here (c ∷ B) (suc i) a l e wide h = place_here B i a (omega arith) e (λ j d q. wide (suc j) d (omega arith)) h

  pub place_later : (B : List (List ℕ)) (i : ℕ) (a : List ℕ) → i < length B → a ≡ get_or B i a → All (λ a. length a ≡ n) B → is_front a b ≡ false
      → place_of (drop i B) (variable_part n (mono b)) ≡ suc (place_of (drop (suc i) B) (variable_part n (mono b)))
  place_later [] i a l e wide h = absurd (omega arith)
  place_later (c ∷ B) zero a l e wide h = later_place c B (wide 0 [] (omega arith)) (ap (λ (x : List ℕ). is_front x b) (sym e) ∙ h)
  place_later (c ∷ B) (suc i) a l e wide h = place_later B i a (omega arith) e (λ j d q. wide (suc j) d (omega arith)) h

  pub place_past : (B : List (List ℕ)) (i : ℕ) → length B ≤ i → place_of (drop i B) (variable_part n (mono b)) ≡ 0
  place_past [] zero l = no_place _
  place_past [] (suc i) l = no_place _
  place_past (c ∷ B) zero l = absurd (omega arith)
  place_past (c ∷ B) (suc i) l = place_past B i (omega arith)

  part_listed : (B : List (List ℕ)) (i : ℕ) (a : List ℕ) → i < length B → a ≡ get_or B i a → part_at B i ≡ mono a
  unfolding part_at
  part_listed [] i a l e = absurd (omega arith)
  part_listed (c ∷ B) zero a l e = ap mono (sym e)
  part_listed (c ∷ B) (suc i) a l e = part_listed B i a (omega arith) e

  -- a member that is the part stands at its place
  pub place_found : (B : List (List ℕ)) → AreDifferent B → All (λ a. length a ≡ n) B → (i : ℕ) (a : List ℕ) → i < length B → a ≡ get_or B i a → is_front a b ≡ true
      → place_of B (variable_part n (mono b)) ≡ i
  place_found B different wide i a l e h =
      let long : length a ≡ n = ap length e ∙ wide i a l in
      ap (place_of B) (sym (part_listed B i a l e ∙ front_part a long h)) ∙ place_part B different i l
