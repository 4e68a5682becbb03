-- Entries of a list by their positions.
use Rattle.std.proofs.Common.{◌≡◌, ◌≢◌, ℕ, zero, suc, ◌+◌, ◌<◌, ◌≤◌, Bool, true, false, cond, ◌==◌, ◌&&◌, map, append_assoc, List, [], ◌∷◌, ◌++◌, length, length-append, get_or, refl, sym, ap, subst, ◌∙◌, ◌⊎◌, inl, inr, append-nil, arith}
use native.Mathlib.Decide.{ℕ_discrete, dec_le}
use Rattle.std.specs.Prelude.{All, Option, Some, None, if◌then◌else◌}
use Rattle.std.proofs.lemmas.List.Elements.{All-head, All-tail, All-push, filter-append}
use Rattle.std.proofs.lemmas.List.{map-append, length-map}
use Rattle.std.proofs.lemmas.Bool.Decides.{nat_tests}
use Rattle.alg_core.specs.Vectors.{Entry}
use Rattle.poly_text.specs.Texts.{at_position, by_position}
use Rattle.poly_text.specs.Printing.{IsNext, IsNearer, IsFirstPosition, led, term_text}
use Rattle.poly_text.specs.Syntax.{Term, spelling}
use Rattle.poly_text.proofs.SpellingLaws.{led_append, led_more, spelling_led}

-- none has the position
pub at_position_none : (j : ℕ) (es : List (Entry ℕ)) → All (λ e. e.0.0 ≢ j) es → at_position j es ≡ []
at_position_none j [] h = refl
at_position_none j (e ∷ es) h =
    ap (λ b. cond b (e ∷ at_position j es) (at_position j es)) (other e.0.0 (All-head (λ e. e.0.0 ≢ j) e es h)) ∙ at_position_none j es (All-tail (λ e. e.0.0 ≢ j) e es h)
  where
    other : (i : ℕ) → i ≢ j → (i == j) ≡ false
    other i n = grind (arith, nat_tests)

pub at_position_here : (j : ℕ) (es : List (Entry ℕ)) (e : Entry ℕ) → e.0.0 ≡ j → at_position j (es ++ e ∷ []) ≡ at_position j es ++ e ∷ []
at_position_here j es e is = filter-append (λ e. e.0.0 == j) es (e ∷ []) ∙ ap (λ b. at_position j es ++ cond b (e ∷ []) []) (same e.0.0 is)
  where
    same : (i : ℕ) → i ≡ j → (i == j) ≡ true
    same i h = grind (arith, nat_tests)

pub at_position_other : (j : ℕ) (es : List (Entry ℕ)) (e : Entry ℕ) → e.0.0 ≢ j → at_position j (es ++ e ∷ []) ≡ at_position j es
at_position_other j es e is = filter-append (λ e. e.0.0 == j) es (e ∷ []) ∙ ap (λ b. at_position j es ++ cond b (e ∷ []) []) (apart e.0.0 is) ∙ append-nil (at_position j es)
  where
    apart : (i : ℕ) → i ≢ j → (i == j) ≡ false
    apart i n = grind (arith, nat_tests)

position_first : (P : ℕ → Type 0) (j : ℕ) (e : Entry ℕ) (es : List (Entry ℕ)) → All (λ e. P e.0.0) (e ∷ es) → 0 < length (at_position j (e ∷ es)) → (0 < length (at_position j es) → P j)
    → Dec (e.0.0 ≡ j) → P j
position_first P j e es h some later (yes is) = subst P is (All-head (λ e. P e.0.0) e es h)
position_first P j e es h some later (no n) =
    later (subst (λ l. 0 < length l) (ap (λ b. cond b (e ∷ at_position j es) (at_position j es)) (apart e.0.0 n)) some)
  where
    apart : (i : ℕ) → i ≢ j → (i == j) ≡ false
    apart i n = grind (arith, nat_tests)

-- what holds of all positions holds of one that occurs
pub position_given : (P : ℕ → Type 0) (j : ℕ) (es : List (Entry ℕ)) → 0 < length (at_position j es) → All (λ e. P e.0.0) es → P j
position_given P j [] some h = absurd (omega arith)
position_given P j (e ∷ es) some h = position_first P j e es h some (λ more. position_given P j es more (All-tail (λ e. P e.0.0) e es h)) (ℕ_discrete e.0.0 j)

-- no entry from a position on up to another
by_position_more : (d from : ℕ) (es : List (Entry ℕ)) → ((i : ℕ) → from ≤ i → i < d + from → at_position i es ≡ []) → by_position (d + from) es ≡ by_position from es
by_position_more zero from es none = let same : 0 + from ≡ from = omega arith in ap (λ m. by_position m es) same
by_position_more (suc d) from es none =
    ap (λ m. by_position m es) next ∙ ap (λ l. by_position (d + from) es ++ l) (none (d + from) (omega arith) (omega arith)) ∙ append-nil (by_position (d + from) es)
    ∙ by_position_more d from es (λ i low high. none i low (omega arith))
  where
    next : suc d + from ≡ suc (d + from)
    next = omega arith

by_position_up : (n from : ℕ) (es : List (Entry ℕ)) → from ≤ n → ((i : ℕ) → from ≤ i → i < n → at_position i es ≡ []) → by_position n es ≡ by_position from es
by_position_up n from es low none =
    let d = difference n from low in
    ap (λ m. by_position m es) d.1 ∙ by_position_more d.0 from es (λ i l h. none i l (omega (arith, d.1)))
  where
    difference : (n from : ℕ) → from ≤ n → (d : ℕ) × (n ≡ d + from)
    difference n zero h = (n, omega arith)
    difference zero (suc m) h = absurd (omega arith)
    difference (suc n) (suc m) h = let p = difference n m (omega arith) in (p.0, omega (arith, p.1))

pub by_position_next : (es : List (Entry ℕ)) (from j : ℕ) → IsNext es from j → by_position j es ≡ by_position from es
by_position_next es from j next = by_position_up j from es next.low (λ i low high. at_position_none i es (λ k d w. other i (get_or es k d).0.0 low high (next.apart k d w)))
  where
    other : (i m : ℕ) → from ≤ i → i < j → (m < from) ⊎ (j ≤ m) → m ≢ i
    other i m low high (inl a) e = absurd (omega arith)
    other i m low high (inr b) e = absurd (omega arith)

-- past all of them
pub by_position_all : (es : List (Entry ℕ)) (n from : ℕ) → All (λ e. e.0.0 < n) es → All (λ e. e.0.0 < from) es → by_position n es ≡ by_position from es
by_position_all es n from a b = go (dec_le from n)
  where
    past : (m : ℕ) → All (λ e. e.0.0 < m) es → (i : ℕ) → m ≤ i → at_position i es ≡ []
    past m h i low = at_position_none i es (λ k d w e. let p = h k d w in absurd (omega arith))

    go : Dec (from ≤ n) → by_position n es ≡ by_position from es
    go (yes low) = by_position_up n from es low (λ i l h. past from b i l)
    go (no more) = sym (by_position_up from n es (omega arith) (λ i l h. past n a i l))

-- one entry more
pub first_more : (es : List (Entry ℕ)) (from : ℕ) (e : Entry ℕ) (o q : Option ℕ) → IsFirstPosition es from o → IsNearer o from e.0.0 q → IsFirstPosition (es ++ e ∷ []) from q
first_more es from e None q was (inl p) = subst (IsFirstPosition (es ++ e ∷ []) from) (sym p.1) (All-push (λ e. e.0.0 < from) es e was p.0)
first_more es from e None q was (inr p) = subst (IsFirstPosition (es ++ e ∷ []) from) (sym p.1) record {
  low = p.0;
  some = subst (λ l. 0 < length l) (sym (at_position_here e.0.0 es e refl)) (omega (arith, length-append (at_position e.0.0 es) (e ∷ [])));
  apart = All-push (λ x. (x.0.0 < from) ⊎ (e.0.0 ≤ x.0.0)) es e (λ k d w. inl (was k d w)) (inr (omega arith));
}
first_more es from e (Some j) q was (inl p) = subst (IsFirstPosition (es ++ e ∷ []) from) (sym p.1) record {
  low = was.low;
  some = longer (ℕ_discrete e.0.0 j);
  apart = All-push (λ x. (x.0.0 < from) ⊎ (j ≤ x.0.0)) es e was.apart (swapped p.0);
}
  where
    longer : Dec (e.0.0 ≡ j) → 0 < length (at_position j (es ++ e ∷ []))
    longer (yes is) = subst (λ l. 0 < length l) (sym (at_position_here j es e is)) (omega (arith, length-append (at_position j es) (e ∷ [])))
    longer (no n) = subst (λ l. 0 < length l) (sym (at_position_other j es e n)) was.some

    swapped : (j ≤ e.0.0) ⊎ (e.0.0 < from) → (e.0.0 < from) ⊎ (j ≤ e.0.0)
    swapped (inl a) = inr a
    swapped (inr b) = inl b
first_more es from e (Some j) q was (inr p) = subst (IsFirstPosition (es ++ e ∷ []) from) (sym p.2) record {
  low = p.0;
  some = subst (λ l. 0 < length l) (sym (at_position_here e.0.0 es e refl)) (omega (arith, length-append (at_position e.0.0 es) (e ∷ [])));
  apart = All-push (λ x. (x.0.0 < from) ⊎ (e.0.0 ≤ x.0.0)) es e (λ k d w. lower (get_or es k d).0.0 (was.apart k d w)) (inr (omega arith));
}
  where
    lower : (m : ℕ) → (m < from) ⊎ (j ≤ m) → (m < from) ⊎ (e.0.0 ≤ m)
    lower m (inl a) = inl a
    lower m (inr b) = let h = p.1 in inr (omega arith)

-- the entries at one position more
pub by_position_step : (es : List (Entry ℕ)) (from j : ℕ) → IsNext es from j → by_position (j + 1) es ≡ by_position from es ++ at_position j es
by_position_step es from j next =
    let more : j + 1 ≡ suc j = omega arith in
    ap (λ m. by_position m es) more ∙ ap (λ l. l ++ at_position j es) (by_position_next es from j next)

-- the terms at a position, one term more
module _ (T : Entry ℕ → Term) (w : List ℕ) (b c : Bool) (j : ℕ) (es : List (Entry ℕ)) (first : c ≡ (b && (length (at_position j es) == 0))) where
  pub led_here : (e : Entry ℕ) → e.0.0 ≡ j → (w ++ led b (map T (at_position j es))) ++ term_text c (T e) ≡ w ++ led b (map T (at_position j (es ++ e ∷ [])))
  led_here e is =
      append_assoc w (led b (map T (at_position j es))) (term_text c (T e))
      ∙ ap (λ l. w ++ l) (sym (led_more b c (map T (at_position j es)) (T e) (first ∙ ap (λ n. b && (n == 0)) (sym (length-map (at_position j es) T)))))
      ∙ ap (λ l. w ++ led b l) (sym (map-append T (at_position j es) (e ∷ [])) ∙ ap (map T) (sym (at_position_here j es e is)))

  pub first_here : (e : Entry ℕ) → e.0.0 ≡ j → false ≡ (b && (length (at_position j (es ++ e ∷ [])) == 0))
  first_here e is = some b (length (at_position j (es ++ e ∷ []))) (subst (λ l. 0 < length l) (sym (at_position_here j es e is)) (omega (arith, length-append (at_position j es) (e ∷ []))))
    where
      some : (b : Bool) (n : ℕ) → 0 < n → false ≡ (b && (n == 0))
      some b n h = grind (arith, nat_tests)

  pub led_other : (e : Entry ℕ) → e.0.0 ≢ j → w ++ led b (map T (at_position j es)) ≡ w ++ led b (map T (at_position j (es ++ e ∷ [])))
  led_other e n = ap (λ l. w ++ led b (map T l)) (sym (at_position_other j es e n))

  pub first_other : (e : Entry ℕ) → e.0.0 ≢ j → c ≡ (b && (length (at_position j (es ++ e ∷ [])) == 0))
  first_other e n = first ∙ ap (λ l. b && (length l == 0)) (sym (at_position_other j es e n))

-- the terms at the next position after those before
pub led_next : (T : Entry ℕ → Term) (w : List ℕ) (c : Bool) (es : List (Entry ℕ)) (from j : ℕ) → IsNext es from j → c ≡ (length (by_position from es) == 0)
    → (w ++ led true (map T (by_position from es))) ++ led c (map T (at_position j es)) ≡ w ++ led true (map T (by_position (j + 1) es))
led_next T w c es from j next first =
    append_assoc w (led true (map T (by_position from es))) (led c (map T (at_position j es)))
    ∙ ap (λ l. w ++ l) (ap (λ d. led true (map T (by_position from es)) ++ led d (map T (at_position j es))) (first ∙ ap (λ n. n == 0) (sym (length-map (by_position from es) T)))
    ∙ sym (led_append true (map T (by_position from es)) (map T (at_position j es))))
    ∙ ap (λ l. w ++ led true l) (sym (map-append T (by_position from es) (at_position j es)) ∙ ap (map T) (sym (by_position_step es from j next)))

pub first_next : (es : List (Entry ℕ)) (from j : ℕ) → IsNext es from j → false ≡ (length (by_position (j + 1) es) == 0)
first_next es from j next = none (length (by_position (j + 1) es)) (subst (λ l. 0 < length l) (sym (by_position_step es from j next)) (let some = next.some in omega (arith, length-append (by_position from es) (at_position j es))))
  where
    none : (n : ℕ) → 0 < n → false ≡ (n == 0)
    none n h = grind (arith, nat_tests)

-- the end, where no position is left
pub led_end : (T : Entry ℕ → Term) (w : List ℕ) (c : Bool) (es : List (Entry ℕ)) (n from : ℕ) → All (λ e. e.0.0 < n) es → All (λ e. e.0.0 < from) es → c ≡ (length (by_position from es) == 0)
    → (w ++ led true (map T (by_position from es))) ++ (if c then 48 ∷ [] else []) ≡ w ++ spelling (map T (by_position n es))
led_end T w c es n from all past first =
    append_assoc w (led true (map T (by_position from es))) (if c then 48 ∷ [] else [])
    ∙ ap (λ l. w ++ l) (spelling_led (map T (by_position from es)) c (first ∙ ap (λ n. n == 0) (sym (length-map (by_position from es) T))))
    ∙ ap (λ l. w ++ spelling (map T l)) (sym (by_position_all es n from all past))

-- where no position is left
pub past_all : (es : List (Entry ℕ)) (from : ℕ) (o : Option ℕ) → ((j : ℕ) → o ≢ Some j) → IsFirstPosition es from o → All (λ e. e.0.0 < from) es
past_all es from None none first = first
past_all es from (Some j) none first = absurd (none j refl)
