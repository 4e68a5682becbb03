-- The search for a variable that is reached, the monomial without its power, and the test of all terms.
use Rattle.std.proofs.Common.{◌≡◌, ◌∙◌, ◌+◌, ◌-◌, ◌*◌, ◌<◌, ◌≤◌, ℕ, zero, suc, true, false, Option, Some, None, List, [], ◌∷◌, length, map, get_or, drop, replicate, slice_set, refl, sym, ap, ap₂, subst, arith}
use Rattle.std.specs.Prelude.{All}
use Rattle.std.specs.Option.{is_some}
use Rattle.std.proofs.lemmas.Bool.Decides.{nat_tests}
use Rattle.alg_core.specs.DpOrder.{weighted_degree}
use Rattle.alg_core.specs.ExponentLists.{quotient, divides}
use Rattle.alg_core.specs.Keys.{key}
use Rattle.alg_core.specs.Monomials.{exponent, mono, mono_ext, exponent_mono}
use Rattle.alg_core.specs.Vectors.{Entry}
use Rattle.alg_core.specs.Spaces.{entry, entries}
use Rattle.alg_core.specs.declared.term.Term.{Term}
use Rattle.poly_module.proofs.ExponentBounds.{mul_mono}
use Rattle.finite_certificate.specs.Finiteness.{IsBelow}
use Rattle.finite_certificate.specs.Spreading.{reached_from, first_reached, without}
use Rattle.finite_certificate.specs.declared.power.Power.{Power}
use Rattle.finite_certificate.proofs.MarkTests.{exponent_at}
use Rattle.finite_certificate.proofs.Reached.{reached_ext, reached_yes, reached_no, reached_nothing, none_below, below_none}

module _ {E : Type 0} where
  abbrev pub exponents : List (Power E) → List ℕ
  exponents ps = map (λ p. p.exponent) ps

  rest_of : (ps : List (Power E)) (i : ℕ) (p : Power E) → i < length ps → p ≡ get_or ps i p → drop i (exponents ps) ≡ p.exponent ∷ drop (i + 1) (exponents ps)
  rest_of [] i p h e = absurd (omega arith)
  rest_of (q ∷ ps) zero p h e = ap₂ ◌∷◌ (ap (λ (r : Power E). r.exponent) (sym e)) refl
  rest_of (q ∷ ps) (suc i) p h e = let same : suc (i + 1) ≡ suc i + 1 = omega arith in rest_of ps i p (omega arith) e ∙ ap (λ j. p.exponent ∷ drop j (exponents (q ∷ ps))) same

  all_past : (ps : List (Power E)) (i : ℕ) → length ps ≤ i → drop i (exponents ps) ≡ []
  all_past [] zero h = refl
  all_past [] (suc i) h = refl
  all_past (q ∷ ps) zero h = absurd (omega arith)
  all_past (q ∷ ps) (suc i) h = all_past ps i (omega arith)

  -- none before variable i
  abbrev pub NoneBefore : List (Power E) → List ℕ → ℕ → Type 0
  NoneBefore ps a i = reached_from i (drop i (exponents ps)) a ≡ first_reached (exponents ps) a

  pub none_at_first : (ps : List (Power E)) (a : List ℕ) → NoneBefore ps a 0
  none_at_first ps a = refl

  pub not_reached : (ps : List (Power E)) (a : List ℕ) (i : ℕ) (p : Power E) → i < length ps → p ≡ get_or ps i p → get_or a i 0 < p.exponent → NoneBefore ps a i → NoneBefore ps a (i + 1)
  not_reached ps a i p h e low before =
      let at = exponent_at a i in
      sym (reached_no i p.exponent (drop (i + 1) (exponents ps)) a (omega arith)) ∙ ap (λ l. reached_from i l a) (sym (rest_of ps i p h e)) ∙ before

  pub here_reached : (ps : List (Power E)) (a : List ℕ) (i : ℕ) (p : Power E) → i < length ps → p ≡ get_or ps i p → p.exponent ≤ get_or a i 0 → NoneBefore ps a i → Some i ≡ first_reached (exponents ps) a
  here_reached ps a i p h e high before =
      let at = exponent_at a i in
      sym (reached_yes i p.exponent (drop (i + 1) (exponents ps)) a (omega arith)) ∙ ap (λ l. reached_from i l a) (sym (rest_of ps i p h e)) ∙ before

  pub none_reached : (ps : List (Power E)) (a : List ℕ) (i : ℕ) → length ps ≤ i → NoneBefore ps a i → None ≡ first_reached (exponents ps) a
  none_reached ps a i past before = sym (reached_nothing i a) ∙ ap (λ l. reached_from i l a) (sym (all_past ps i past)) ∙ before

  -- at the key of a term
  pub term_reached : (es : List ℕ) (x : Term E (List ℕ)) → first_reached es (key (entry (λ m. m) x).0).1.0 ≡ first_reached es x.at.mono
  unfolding key
  term_reached es x = reached_ext 0 es _ x.at.mono (exponent_mono x.at.mono)

  pub term_below : (es : List ℕ) (x : Term E (List ℕ)) → first_reached es x.at.mono ≡ None → IsBelow es (key (entry (λ m. m) x).0)
  term_below es x e = none_below es (key (entry (λ (m : List ℕ). m) x).0) (term_reached es x ∙ e)

  pub below_term : (es : List ℕ) (x : Term E (List ℕ)) → IsBelow es (key (entry (λ m. m) x).0) → first_reached es x.at.mono ≡ None
  below_term es x h = sym (term_reached es x) ∙ below_none es (key (entry (λ (m : List ℕ). m) x).0) h

-- division by a power of one variable
quotient_zeros : (a : List ℕ) (n : ℕ) → length a ≡ n → quotient a (replicate n 0) ≡ a
quotient_zeros [] n h = refl
quotient_zeros (x ∷ a) zero h = absurd (omega arith)
quotient_zeros (x ∷ a) (suc n) h = ap₂ ◌∷◌ (omega arith) (quotient_zeros a n (omega arith))

pub quotient_without : (a : List ℕ) (n i e : ℕ) → length a ≡ n → quotient a (slice_set (replicate n 0) i e) ≡ without i e a
unfolding without
quotient_without [] n i e h = refl
quotient_without (x ∷ a) zero i e h = absurd (omega arith)
quotient_without (x ∷ a) (suc n) zero e h = ap (λ l. (x - e) ∷ l) (quotient_zeros a n (omega arith))
quotient_without (x ∷ a) (suc n) (suc i) e h = ap₂ ◌∷◌ (omega arith) (quotient_without a n i e (omega arith))

zeros_divide : (a : List ℕ) (n : ℕ) → divides (replicate n 0) a ≡ true
zeros_divide a zero = refl
zeros_divide [] (suc n) = refl
zeros_divide (x ∷ a) (suc n) = let rest = zeros_divide a n in grind (arith, nat_tests)

pub power_divides : (a : List ℕ) (n i e : ℕ) → length a ≡ n → i < n → e ≤ get_or a i 0 → divides (slice_set (replicate n 0) i e) a ≡ true
power_divides a zero i e h w high = absurd (omega arith)
power_divides [] (suc n) i e h w high = absurd (omega arith)
power_divides (x ∷ a) (suc n) zero e h w high = let rest = zeros_divide a n in grind (arith, nat_tests)
power_divides (x ∷ a) (suc n) (suc i) e h w high = let rest = power_divides a n i e (omega arith) (omega arith) high in grind (arith, nat_tests)

pub length_without : (i e : ℕ) (a : List ℕ) → length (without i e a) ≡ length a
unfolding without
length_without i e [] = refl
length_without zero e (x ∷ a) = refl
length_without (suc i) e (x ∷ a) = ap suc (length_without i e a)

pub weighted_without : (ws : List ℕ) (i e : ℕ) (a : List ℕ) → weighted_degree ws (without i e a) ≤ weighted_degree ws a
unfolding without
weighted_without [] i e a = omega arith
weighted_without (w ∷ ws) i e [] = omega arith
weighted_without (w ∷ ws) zero e (x ∷ a) = let m : (x - e) * w ≤ x * w = mul_mono (x - e) x w (omega arith) in omega arith
weighted_without (w ∷ ws) (suc i) e (x ∷ a) = let m = weighted_without ws i e a in omega arith

-- by the exponents alone
without_ext : (i e : ℕ) (a b : List ℕ) → ((j : ℕ) → exponent a j ≡ exponent b j) → (j : ℕ) → exponent (without i e a) j ≡ exponent (without i e b) j
unfolding without
without_ext i e [] [] h j = refl
without_ext zero e [] (y ∷ b) h zero = let z = h 0 in omega arith
without_ext zero e [] (y ∷ b) h (suc j) = h (suc j)
without_ext (suc i) e [] (y ∷ b) h zero = h 0
without_ext (suc i) e [] (y ∷ b) h (suc j) = without_ext i e [] b (λ l. h (suc l)) j
without_ext zero e (x ∷ a) [] h zero = let z = h 0 in omega arith
without_ext zero e (x ∷ a) [] h (suc j) = h (suc j)
without_ext (suc i) e (x ∷ a) [] h zero = h 0
without_ext (suc i) e (x ∷ a) [] h (suc j) = without_ext i e a [] (λ l. h (suc l)) j
without_ext zero e (x ∷ a) (y ∷ b) h zero = ap (λ z. z - e) (h 0)
without_ext zero e (x ∷ a) (y ∷ b) h (suc j) = h (suc j)
without_ext (suc i) e (x ∷ a) (y ∷ b) h zero = h 0
without_ext (suc i) e (x ∷ a) (y ∷ b) h (suc j) = without_ext i e a b (λ l. h (suc l)) j

pub mono_without : (i e : ℕ) (a : List ℕ) → mono (without i e (mono a).0) ≡ mono (without i e a)
mono_without i e a = mono_ext _ _ (without_ext i e (mono a).0 a (exponent_mono a))

-- a test of an option
pub none_of : (o : Option ℕ) → false ≡ is_some o → o ≡ None
none_of None h = refl
none_of (Some i) h = absurd cc

pub not_none_of : (o : Option ℕ) → true ≡ is_some o → ¬ (o ≡ None)
not_none_of None h e = cc
not_none_of (Some i) h e = cc

-- what holds of all entries holds of this one
pub entry_given : {E : Type 0} (P : Entry E → Type 0) (xs : List (Term E (List ℕ))) (i : ℕ) (x : Term E (List ℕ)) → i < length xs → x ≡ get_or xs i x → All P (entries (λ m. m) xs) → P (entry (λ m. m) x)
entry_given P [] i x h read f = absurd (omega arith)
entry_given P (y ∷ xs) zero x h read f = subst (λ z. P (entry (λ m. m) z)) (sym read) (f 0 (entry (λ m. m) y) (omega arith))
entry_given P (y ∷ xs) (suc i) x h read f = entry_given P xs i x (omega arith) read (λ k d w. f (suc k) d (omega arith))
