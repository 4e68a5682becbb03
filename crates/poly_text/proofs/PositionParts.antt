-- The entries of a vector at each position, and lists that stand by rising position and fall at each.
use Rattle.std.proofs.Common.{◌≡◌, ◌≢◌, ◌∙◌, ℕ, zero, suc, ◌<◌, ◌≤◌, ◌⊎◌, inl, inr, cond, ◌==◌, List, [], ◌∷◌, ◌++◌, get_or, append-nil, refl, sym, ap, ap₂, subst, arith}
use native.Mathlib.Decide.{ℕ_discrete, dec_lt}
use Rattle.std.specs.Prelude.{All}
use Rattle.std.specs.declared.cmp.Ordering.TheVariants.{Greater}
use Rattle.std.proofs.lemmas.Bool.{eq-eqb, ne_eqb}
use Rattle.std.proofs.lemmas.List.Elements.{All-nil, All-cons, All-head, All-tail, All-append, filter-append}
use Rattle.alg_core.specs.Keys.{TermPlace, key}
use Rattle.alg_core.specs.Spaces.{SpaceOver, IsTerm, IsAbove, Fits}
use Rattle.alg_core.specs.Vectors.{Entry, Vect, vec, plus, zero_vector, coef_at}
use Rattle.alg_core.proofs.FittingLists.{fits_unique}
use Rattle.alg_core.proofs.VectorLaws.{coef_at_ext, vec_nothing, vec_cons, zero_plus}
use Rattle.poly_module.specs.Parts.{select, select_plus, select_zero, select_all, select_none, select_inside}
use Rattle.poly_module.proofs.ExponentBounds.{vec_supp}
use Rattle.poly_text.specs.Texts.{at_position, by_position}
use Rattle.poly_text.proofs.PositionLaws.{at_position_none}

here : (j : ℕ) (e : Entry ℕ) (es : List (Entry ℕ)) → e.0.0 ≡ j → at_position j (e ∷ es) ≡ e ∷ at_position j es
here j e es is = ap (λ b. cond b (e ∷ at_position j es) (at_position j es)) (eq-eqb e.0.0 j is)

there : (j : ℕ) (e : Entry ℕ) (es : List (Entry ℕ)) → e.0.0 ≢ j → at_position j (e ∷ es) ≡ at_position j es
there j e es other = ap (λ b. cond b (e ∷ at_position j es) (at_position j es)) (ne_eqb e.0.0 j other)

-- no entry at the positions below n
by_low : (n : ℕ) (es : List (Entry ℕ)) → All (λ f. n ≤ f.0.0) es → by_position n es ≡ []
by_low zero es low = refl
by_low (suc j) es low =
    ap₂ ◌++◌ (by_low j es (λ i d w. let h = low i d w in omega arith)) (at_position_none j es (λ i d w e. let h = low i d w in absurd (omega arith)))

-- an entry at the least position stands first
by_front : (n : ℕ) (e : Entry ℕ) (es : List (Entry ℕ)) → All (λ f. e.0.0 ≤ f.0.0) es → e.0.0 < n → by_position n (e ∷ es) ≡ e ∷ by_position n es
by_front zero e es least low = absurd (omega arith)
by_front (suc j) e es least low = go (ℕ_discrete e.0.0 j) (by_front j e es least)
  where
    all_from : e.0.0 ≡ j → All (λ f. j ≤ f.0.0) (e ∷ es)
    all_from is = subst (λ i. All (λ f. i ≤ f.0.0) (e ∷ es)) is (All-cons (λ f. e.0.0 ≤ f.0.0) e es (omega arith) least)

    go : Dec (e.0.0 ≡ j) → (e.0.0 < j → by_position j (e ∷ es) ≡ e ∷ by_position j es) → by_position (suc j) (e ∷ es) ≡ e ∷ by_position (suc j) es
    go (yes is) rest =
        ap₂ ◌++◌ (by_low j (e ∷ es) (all_from is)) (here j e es is)
        ∙ ap (λ l. e ∷ (l ++ at_position j es)) (sym (by_low j es (All-tail (λ f. j ≤ f.0.0) e es (all_from is))))
    go (no other) rest = ap₂ ◌++◌ (rest (omega arith)) (there j e es other)

module _ (S : SpaceOver ℕ) where
  -- f may stand after e
  abbrev pub IsAfter : Entry ℕ → Entry ℕ → Type 0
  IsAfter e f = (e.0.0 < f.0.0) ⊎ ((e.0.0 ≡ f.0.0) × (S.order.compare e.0 f.0 ≡ Greater))

  -- each may stand after each before it
  abbrev pub Rises : List (Entry ℕ) → Type 0
  Rises [] = Unit {0}
  Rises (e ∷ es) = All (IsAfter e) es × Rises es

  after_low : (e f : Entry ℕ) → IsAfter e f → e.0.0 ≤ f.0.0
  after_low e f (inl less) = omega arith
  after_low e f (inr same) = let is = same.0 in omega arith

  -- such a list stands by its positions
  pub by_rising : (n : ℕ) (es : List (Entry ℕ)) → Rises es → All (λ e. e.0.0 < n) es → by_position n es ≡ es
  by_rising n [] rises low = by_low n [] (All-nil (λ f. n ≤ f.0.0))
  by_rising n (e ∷ es) rises low =
      by_front n e es (λ i d w. after_low e (get_or es i d) (rises.0 i d w)) (All-head (λ e. e.0.0 < n) e es low)
      ∙ ap (λ l. e ∷ l) (by_rising n es rises.1 (All-tail (λ e. e.0.0 < n) e es low))

  -- what a position has of a list that falls
  above_at : (j : ℕ) (p : TermPlace) (es : List (Entry ℕ)) → IsAbove S p es → IsAbove S p (at_position j es)
  above_at j p [] above = tt
  above_at j p (e ∷ es) above = go (ℕ_discrete e.0.0 j) (above_at j p es above.1)
    where
      go : Dec (e.0.0 ≡ j) → IsAbove S p (at_position j es) → IsAbove S p (at_position j (e ∷ es))
      go (yes is) rest = subst (IsAbove S p) (sym (here j e es is)) (above.0, rest)
      go (no other) rest = subst (IsAbove S p) (sym (there j e es other)) rest

  pub fits_at : (j : ℕ) (es : List (Entry ℕ)) → Fits S es → Fits S (at_position j es)
  fits_at j [] fits = tt
  fits_at j (e ∷ es) fits = go (ℕ_discrete e.0.0 j) (fits_at j es fits.2)
    where
      go : Dec (e.0.0 ≡ j) → Fits S (at_position j es) → Fits S (at_position j (e ∷ es))
      go (yes is) rest = subst (Fits S) (sym (here j e es is)) (fits.0, above_at j e.0 es fits.1, rest)
      go (no other) rest = subst (Fits S) (sym (there j e es other)) rest

  -- and of one that stands by rising position
  after_above : (j : ℕ) (e : Entry ℕ) (es : List (Entry ℕ)) → e.0.0 ≡ j → All (IsAfter e) es → IsAbove S e.0 (at_position j es)
  after_above j e [] at after = tt
  after_above j e (f ∷ es) at after = go (ℕ_discrete f.0.0 j) (All-head (IsAfter e) f es after) (after_above j e es at (All-tail (IsAfter e) f es after))
    where
      greater : f.0.0 ≡ j → IsAfter e f → S.order.compare e.0 f.0 ≡ Greater
      greater is (inl less) = absurd (omega arith)
      greater is (inr same) = same.1

      go : Dec (f.0.0 ≡ j) → IsAfter e f → IsAbove S e.0 (at_position j es) → IsAbove S e.0 (at_position j (f ∷ es))
      go (yes is) one rest = subst (IsAbove S e.0) (sym (here j f es is)) (greater is one, rest)
      go (no other) one rest = subst (IsAbove S e.0) (sym (there j f es other)) rest

  pub rising_at : (j : ℕ) (es : List (Entry ℕ)) → All (IsTerm S) es → Rises es → Fits S (at_position j es)
  rising_at j [] terms rises = tt
  rising_at j (e ∷ es) terms rises = go (ℕ_discrete e.0.0 j) (rising_at j es (All-tail (IsTerm S) e es terms) rises.1)
    where
      go : Dec (e.0.0 ≡ j) → Fits S (at_position j es) → Fits S (at_position j (e ∷ es))
      go (yes is) rest = subst (Fits S) (sym (here j e es is)) (All-head (IsTerm S) e es terms, after_above j e es is rises.0, rest)
      go (no other) rest = subst (Fits S) (sym (there j e es other)) rest

  -- the part of a vector at a position
  abbrev part : ℕ → Vect S.field → Vect S.field
  part j = select S.field (λ t. ℕ_discrete t.0 j)

  part_here : (j : ℕ) (e : Entry ℕ) → e.0.0 ≡ j → part j (vec S.field (e ∷ [])) ≡ vec S.field (e ∷ [])
  unfolding key
  part_here j e is = select_all S.field (λ t. ℕ_discrete t.0 j) _ (vec_supp S.field (λ t. t.0 ≡ j) (e ∷ []) (All-cons (λ e. (key e.0).0 ≡ j) e [] is (All-nil (λ e. (key e.0).0 ≡ j))))

  part_there : (j : ℕ) (e : Entry ℕ) → e.0.0 ≢ j → part j (vec S.field (e ∷ [])) ≡ zero_vector S.field
  unfolding key
  part_there j e other =
      select_none S.field (λ t. ℕ_discrete t.0 j) (λ t. t.0 ≢ j) (λ t n. n) _ (vec_supp S.field (λ t. t.0 ≢ j) (e ∷ []) (All-cons (λ e. (key e.0).0 ≢ j) e [] other (All-nil (λ e. (key e.0).0 ≢ j))))

  pub part_vec : (j : ℕ) (es : List (Entry ℕ)) → part j (vec S.field es) ≡ vec S.field (at_position j es)
  part_vec j [] = ap (part j) (vec_nothing S.field) ∙ select_zero S.field (λ t. ℕ_discrete t.0 j) ∙ sym (vec_nothing S.field)
  part_vec j (e ∷ es) = ap (part j) (vec_cons S.field e es) ∙ select_plus S.field (λ t. ℕ_discrete t.0 j) _ _ ∙ go (ℕ_discrete e.0.0 j) (part_vec j es)
    where
      go : Dec (e.0.0 ≡ j) → part j (vec S.field es) ≡ vec S.field (at_position j es) → plus S.field (part j (vec S.field (e ∷ []))) (part j (vec S.field es)) ≡ vec S.field (at_position j (e ∷ es))
      go (yes is) rest = ap₂ (plus S.field) (part_here j e is) rest ∙ sym (vec_cons S.field e (at_position j es)) ∙ ap (vec S.field) (sym (here j e es is))
      go (no other) rest = ap₂ (plus S.field) (part_there j e other) rest ∙ zero_plus S.field _ ∙ ap (vec S.field) (sym (there j e es other))

  -- lists of one vector, one of which falls, the other stands by rising position, have the same entries at each
  pub same_at : (j : ℕ) (es fs : List (Entry ℕ)) → Fits S es → All (IsTerm S) fs → Rises fs → vec S.field es ≡ vec S.field fs → at_position j es ≡ at_position j fs
  same_at j es fs fits terms rises same =
      fits_unique S _ _ (fits_at j es fits) (rising_at j fs terms rises) (sym (part_vec j es) ∙ ap (part j) same ∙ part_vec j fs)

  same_by : (n : ℕ) (es fs : List (Entry ℕ)) → Fits S es → All (IsTerm S) fs → Rises fs → vec S.field es ≡ vec S.field fs → by_position n es ≡ by_position n fs
  same_by zero es fs fits terms rises same = refl
  same_by (suc j) es fs fits terms rises same = ap₂ ◌++◌ (same_by j es fs fits terms rises same) (same_at j es fs fits terms rises same)

  -- the list that falls gives the other back
  pub rising_back : (n : ℕ) (es fs : List (Entry ℕ)) → Fits S es → All (IsTerm S) fs → Rises fs → All (λ e. e.0.0 < n) fs → vec S.field es ≡ vec S.field fs → by_position n es ≡ fs
  rising_back n es fs fits terms rises low same = same_by n es fs fits terms rises same ∙ by_rising n fs rises low

  -- what a position has
  pub at_all : (P : Entry ℕ → Type 0) (j : ℕ) (es : List (Entry ℕ)) → All P es → All (λ e. P e × (e.0.0 ≡ j)) (at_position j es)
  at_all P j [] all = All-nil _
  at_all P j (e ∷ es) all = go (ℕ_discrete e.0.0 j) (at_all P j es (All-tail P e es all))
    where
      go : Dec (e.0.0 ≡ j) → All (λ e. P e × (e.0.0 ≡ j)) (at_position j es) → All (λ e. P e × (e.0.0 ≡ j)) (at_position j (e ∷ es))
      go (yes is) rest = subst (All (λ e. P e × (e.0.0 ≡ j))) (sym (here j e es is)) (All-cons (λ e. P e × (e.0.0 ≡ j)) e (at_position j es) (All-head P e es all, is) rest)
      go (no other) rest = subst (All (λ e. P e × (e.0.0 ≡ j))) (sym (there j e es other)) rest

  -- what the positions below n have
  pub by_all : (P : Entry ℕ → Type 0) (n : ℕ) (es : List (Entry ℕ)) → All P es → All (λ e. P e × (e.0.0 < n)) (by_position n es)
  by_all P zero es all = All-nil _
  by_all P (suc j) es all =
      All-append (λ e. P e × (e.0.0 < suc j)) (by_position j es) (at_position j es)
      (λ i d w. let h = by_all P j es all i d w in let low = h.1 in (h.0, omega arith))
      (λ i d w. let h = at_all P j es all i d w in let is = h.1 in (h.0, omega arith))

  at_same : (j : ℕ) (es : List (Entry ℕ)) → All (λ e. e.0.0 ≡ j) es → at_position j es ≡ es
  at_same j [] all = refl
  at_same j (e ∷ es) all = here j e es (All-head (λ e. e.0.0 ≡ j) e es all) ∙ ap (λ l. e ∷ l) (at_same j es (All-tail (λ e. e.0.0 ≡ j) e es all))

  trivial : (es : List (Entry ℕ)) → All (λ e. Unit {0}) es
  trivial es i d w = tt

  -- a position below n has the same entries of the list by positions
  pub at_by : (n j : ℕ) (es : List (Entry ℕ)) → j < n → at_position j (by_position n es) ≡ at_position j es
  at_by zero j es low = absurd (omega arith)
  at_by (suc i) j es low = filter-append (λ e. e.0.0 == j) (by_position i es) (at_position i es) ∙ go (ℕ_discrete i j) (at_by i j es)
    where
      go : Dec (i ≡ j) → (j < i → at_position j (by_position i es) ≡ at_position j es) → at_position j (by_position i es) ++ at_position j (at_position i es) ≡ at_position j es
      go (yes is) rest =
          ap₂ ◌++◌ (at_position_none j (by_position i es) (λ k d w e. let h = (by_all (λ e. Unit {0}) i es (trivial es) k d w).1 in absurd (omega arith)))
          (ap (λ a. at_position j (at_position a es)) is ∙ at_same j (at_position j es) (λ k d w. (at_all (λ e. Unit {0}) j es (trivial es) k d w).1))
      go (no other) rest =
          ap₂ ◌++◌ (rest (omega arith)) (at_position_none j (at_position i es) (λ k d w e. other (sym (at_all (λ e. Unit {0}) i es (trivial es) k d w).1 ∙ e)))
          ∙ append-nil (at_position j es)

  -- a list that falls is told by its entries at each position
  pub by_unique : (n : ℕ) (es fs : List (Entry ℕ)) → Fits S es → Fits S fs → All (λ e. e.0.0 < n) es → All (λ e. e.0.0 < n) fs → by_position n es ≡ by_position n fs → es ≡ fs
  by_unique n es fs fits fits' low low' same =
      fits_unique S es fs fits fits' (coef_at_ext S.field _ _ (λ t. sym (select_inside S.field (λ s. ℕ_discrete s.0 t.0) (vec S.field es) t refl)
      ∙ ap (λ v. coef_at S.field v t) (part_vec t.0 es ∙ ap (vec S.field) (at_each t.0 (dec_lt t.0 n)) ∙ sym (part_vec t.0 fs))
      ∙ select_inside S.field (λ s. ℕ_discrete s.0 t.0) (vec S.field fs) t refl))
    where
      none : (j : ℕ) (gs : List (Entry ℕ)) → All (λ e. e.0.0 < n) gs → ¬ (j < n) → at_position j gs ≡ []
      none j gs low high = at_position_none j gs (λ k d w e. high (subst (λ i. i < n) e (low k d w)))

      at_each : (j : ℕ) → Dec (j < n) → at_position j es ≡ at_position j fs
      at_each j (yes h) = sym (at_by n j es h) ∙ ap (at_position j) same ∙ at_by n j fs h
      at_each j (no h) = none j es low h ∙ sym (none j fs low' h)

  -- what falls at one position rises
  above_after : (e : Entry ℕ) (es : List (Entry ℕ)) → All (λ f. e.0.0 ≡ f.0.0) es → IsAbove S e.0 es → All (IsAfter e) es
  above_after e [] at above = All-nil (IsAfter e)
  above_after e (f ∷ es) at above =
      All-cons (IsAfter e) f es (inr (All-head (λ f. e.0.0 ≡ f.0.0) f es at, above.0)) (above_after e es (All-tail (λ f. e.0.0 ≡ f.0.0) f es at) above.1)

  fits_rises : (j : ℕ) (es : List (Entry ℕ)) → All (λ e. e.0.0 ≡ j) es → Fits S es → Rises es
  fits_rises j [] at fits = tt
  fits_rises j (e ∷ es) at fits =
      let is = All-head (λ e. e.0.0 ≡ j) e es at in
      let others = All-tail (λ e. e.0.0 ≡ j) e es at in
      (above_after e es (λ k d w. is ∙ sym (others k d w)) fits.1, fits_rises j es others fits.2)

  rises_append : (es fs : List (Entry ℕ)) → Rises es → Rises fs → All (λ e. All (IsAfter e) fs) es → Rises (es ++ fs)
  rises_append [] fs rises rises' after = rises'
  rises_append (e ∷ es) fs rises rises' after =
      (All-append (IsAfter e) es fs rises.0 (All-head (λ e. All (IsAfter e) fs) e es after), rises_append es fs rises.1 rises' (All-tail (λ e. All (IsAfter e) fs) e es after))

  -- the entries of a list that falls rise by positions
  pub by_rises : (n : ℕ) (es : List (Entry ℕ)) → Fits S es → Rises (by_position n es)
  by_rises zero es fits = tt
  by_rises (suc j) es fits =
      let at : All (λ e. e.0.0 ≡ j) (at_position j es) = λ k d w. (at_all (λ e. Unit {0}) j es (trivial es) k d w).1 in
      rises_append (by_position j es) (at_position j es) (by_rises j es fits) (fits_rises j (at_position j es) at (fits_at j es fits))
      (λ i d w k d' w'. let low = (by_all (λ e. Unit {0}) j es (trivial es) i d w).1 in let is = (at_all (λ e. Unit {0}) j es (trivial es) k d' w').1 in inl (omega arith))

  -- terms of the space by their positions
  fits_terms : (es : List (Entry ℕ)) → Fits S es → All (IsTerm S) es
  fits_terms [] fits = All-nil (IsTerm S)
  fits_terms (e ∷ es) fits = All-cons (IsTerm S) e es fits.0 (fits_terms es fits.2)

  pub by_terms : (n : ℕ) (es : List (Entry ℕ)) → Fits S es → All (IsTerm S) (by_position n es)
  by_terms n es fits k d w = (by_all (IsTerm S) n es (fits_terms es fits) k d w).0

  at_back : (P : Entry ℕ → Type 0) (n : ℕ) (es : List (Entry ℕ)) → All (λ e. e.0.0 < n) es → ((j : ℕ) → j < n → All P (at_position j es)) → All P es
  at_back P n [] low at = All-nil P
  at_back P n (e ∷ es) low at =
      All-cons P e es (All-head P e (at_position e.0.0 es) (subst (All P) (here e.0.0 e es refl) (at e.0.0 (All-head (λ e. e.0.0 < n) e es low))))
      (at_back P n es (All-tail (λ e. e.0.0 < n) e es low) (λ j h. rest j (ℕ_discrete e.0.0 j) (at j h)))
    where
      rest : (j : ℕ) → Dec (e.0.0 ≡ j) → All P (at_position j (e ∷ es)) → All P (at_position j es)
      rest j (yes is) all = All-tail P e (at_position j es) (subst (All P) (here j e es is) all)
      rest j (no other) all = subst (All P) (there j e es other) all

  -- what all entries by positions have, all have
  pub all_back : (P : Entry ℕ → Type 0) (n : ℕ) (es : List (Entry ℕ)) → All (λ e. e.0.0 < n) es → All P (by_position n es) → All P es
  all_back P n es low all = at_back P n es low (λ j h. subst (All P) (at_by n j es h) (λ k d w. (at_all P j (by_position n es) all k d w).0))
