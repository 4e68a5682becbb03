-- A term that is replaced, and a round by halves.
use Rattle.std.proofs.Common.{◌≡◌, ◌∙◌, ◌<◌, ◌≤◌, ℕ, Option, Some, None, List, [], ◌∷◌, ◌++◌, length, get_or, take, drop, refl, sym, ap, ap₂, subst, lit≤, take-append-drop, arith}
use Rattle.std.specs.Prelude.{All}
use Rattle.std.proofs.lemmas.List.{length-map, get_or-map, map-append}
use Rattle.alg_core.specs.DpOrder.{weighted_degree}
use Rattle.alg_core.specs.Keys.{key}
use Rattle.alg_core.specs.Monomials.{mono}
use Rattle.alg_core.specs.Vectors.{Vect, vec, plus, zero_vector, scale, shift}
use Rattle.alg_core.specs.declared.term.Term.{Term}
use Rattle.alg_core.specs.Spaces.{SpaceOver, entry, entries}
use Rattle.alg_core.specs.ModuleLaws as modules
use Rattle.alg_core.proofs.PlaceDegrees.{degree_key}
use Rattle.alg_core.proofs.VectorLaws.{vec_append, vec_nothing}
use Rattle.poly_module.specs.Sizes.{HasRoomAt}
use Rattle.poly_module.specs.SpaceVectors.{IsPositive, IsVectorOf, vector_of}
use Rattle.poly_module.proofs.ExponentBounds.{vec_scaled}
use Rattle.poly_module.proofs.Room.{room_at}
use Rattle.finite_certificate.specs.MarkSpaces.{degree_limit}
use Rattle.finite_certificate.specs.Finiteness.{powers_of, IsLowPower, IsLowTerm}
use Rattle.finite_certificate.specs.Spreading.{first_reached, without, exponents_of, replaced_at, replaced, spread_once}
use Rattle.finite_certificate.specs.declared.power.Power.{Power}
use Rattle.finite_certificate.proofs.MarkTests.{exponent_at}
use Rattle.finite_certificate.proofs.Reached.{reached_some}
use Rattle.finite_certificate.proofs.ReachedSteps.{exponents, term_reached, mono_without, length_without, weighted_without}
use Rattle.finite_certificate.proofs.Rounds.{once_linear, once_single, once_plus}

module _ {E : Type 0} (S : SpaceOver E) (ps : List (Power E)) where
  abbrev Terms : Type 0
  Terms = List (Term E (List ℕ))

  abbrev vectors : List (ℕ × Vect S.field)
  vectors = powers_of S ps

  pub same_exponents : exponents_of S.field (powers_of S ps) ≡ exponents ps
  same_exponents = go ps
    where
      go : (qs : List (Power E)) → exponents_of S.field (powers_of S qs) ≡ exponents qs
      go [] = refl
      go (q ∷ qs) = ap (λ l. q.exponent ∷ l) (go qs)

  pub power_vector : (i : ℕ) (p : Power E) → i < length ps → p ≡ get_or ps i p → get_or (powers_of S ps) i (0, zero_vector S.field) ≡ (p.exponent, vector_of S (λ m. m) p.form)
  power_vector i p below is = get_or-map (λ (q : Power E). (q.exponent, vector_of S (λ m. m) q.form)) ps i p (0, zero_vector S.field) below ∙ sym (ap (λ (q : Power E). (q.exponent, vector_of S (λ m. m) q.form)) is)

  -- a variable that is reached
  pub record ReachedAt (x : Term E (List ℕ)) (i : ℕ) : Type 0 where
    pub within : i < length ps
    pub high : (p : Power E) → p ≡ get_or ps i p → p.exponent ≤ get_or x.at.mono i 0

  pub reached_at : (x : Term E (List ℕ)) (i : ℕ) → first_reached (exponents ps) x.at.mono ≡ Some i → ReachedAt x i
  reached_at x i e =
      let r = reached_some 0 (exponents ps) x.at.mono i e in
      let same : r.place ≡ i = omega (arith, r.from) in
      let count : length (exponents ps) ≡ length ps = length-map ps (λ (p : Power E). p.exponent) in
      let within : i < length ps = omega (arith, r.within) in
      record {
        within = within;
        high = λ p is.
            let at : get_or (exponents ps) i 0 ≡ p.exponent = get_or-map (λ (q : Power E). q.exponent) ps i p 0 within ∙ sym (ap (λ (q : Power E). q.exponent) is) in
            let there = exponent_at x.at.mono i in
            let low = subst (λ (l : ℕ). get_or (exponents ps) l 0 ≤ Rattle.alg_core.specs.Monomials.exponent x.at.mono i) same r.reached in
            omega arith;
      }

  key_reached : (x : Term E (List ℕ)) (o : Option ℕ) → first_reached (exponents ps) x.at.mono ≡ o → first_reached (exponents_of S.field (powers_of S ps)) (key (entry (λ m. m) x).0).1.0 ≡ o
  key_reached x o e = ap (λ es. first_reached es (key (entry (λ m. m) x).0).1.0) same_exponents ∙ term_reached (exponents ps) x ∙ e

  -- a term that stays
  pub replaced_none : (x : Term E (List ℕ)) → first_reached (exponents ps) x.at.mono ≡ None
      → vector_of S (λ m. m) (x ∷ []) ≡ scale S.field x.coef (replaced S.field (powers_of S ps) (key (entry (λ m. m) x).0))
  unfolding replaced_at
  replaced_none x e = vec_scaled S.field (entry (λ m. m) x) ∙ ap (scale S.field x.coef) (sym (ap (replaced_at S.field (powers_of S ps) (key (entry (λ m. m) x).0)) (key_reached x None e)))

  -- and one that is replaced
  pub replaced_some : (x : Term E (List ℕ)) (i : ℕ) (p : Power E) (rest : List ℕ) → first_reached (exponents ps) x.at.mono ≡ Some i → p ≡ get_or ps i p → rest ≡ without i p.exponent x.at.mono
      → scale S.field x.coef (shift S.field (mono rest) (vector_of S (λ m. m) p.form)) ≡ scale S.field x.coef (replaced S.field (powers_of S ps) (key (entry (λ m. m) x).0))
  unfolding replaced_at key
  replaced_some x i p rest e is r = ap (scale S.field x.coef) (sym (
      ap (replaced_at S.field (powers_of S ps) (key (entry (λ m. m) x).0)) (key_reached x (Some i) e)
      ∙ ap (λ (q : ℕ × Vect S.field). shift S.field (mono (without i q.0 (mono x.at.mono).0)) q.1) (power_vector i p (reached_at x i e).within is)
      ∙ ap (λ m. shift S.field m (vector_of S (λ m. m) p.form)) (mono_without i p.exponent x.at.mono ∙ ap mono (sym r))))

  pub replaced_room : IsPositive S → All (IsLowPower S) ps → (x : Term E (List ℕ)) (i : ℕ) (p : Power E) (rest : List ℕ) → IsLowTerm S (entry (λ m. m) x) → first_reached (exponents ps) x.at.mono ≡ Some i
      → p ≡ get_or ps i p → rest ≡ without i p.exponent x.at.mono → HasRoomAt 4294967295 (λ m. m) rest p.form
  replaced_room positive all x i p rest low e is r =
      let power : IsLowPower S p = subst (IsLowPower S) (sym is) (all i p (reached_at x i e).within) in
      let wide = low.is_term.place.wide in
      let same = length_without i p.exponent x.at.mono in
      let at = degree_key S (entry (λ (m : List ℕ). m) x).0 wide low.is_term.place.low in
      let less = weighted_without S.weights i p.exponent x.at.mono in
      let up = low.low in
      let small : weighted_degree S.weights rest ≤ degree_limit = subst (λ a. weighted_degree S.weights a ≤ degree_limit) (sym r) (omega arith) in
      room_at S positive.weights (λ m. m) 4294967295 degree_limit degree_limit rest p.form (lit≤ tt) (ap length r ∙ same ∙ wide) small power.poly.fits power.low

  -- no term, one term, halves
  pub no_round : (v ts : Terms) → v ≡ [] → length ts ≡ 0 → vector_of S (λ m. m) v ≡ spread_once S.field (powers_of S ps) (vector_of S (λ m. m) ts)
  unfolding zero_vector
  no_round v [] none z = ap (vector_of S (λ m. m)) none ∙ vec_nothing S.field ∙ sym (ap (spread_once S.field (powers_of S ps)) (vec_nothing S.field) ∙ modules.linear_zero _ _ (spread_once S.field (powers_of S ps)) (once_linear S.field 0 [] (powers_of S ps)))
  no_round v (t ∷ ts) none z = absurd (omega arith)

  pub one_round : (ts : Terms) (x : Term E (List ℕ)) → length ts ≡ 1 → x ≡ get_or ts 0 x
      → scale S.field x.coef (replaced S.field (powers_of S ps) (key (entry (λ m. m) x).0)) ≡ spread_once S.field (powers_of S ps) (vector_of S (λ m. m) ts)
  unfolding scale
  one_round [] x one read = absurd (omega arith)
  one_round (y ∷ []) x one read =
      ap (scale S.field x.coef) (sym (once_single S.field 0 [] (powers_of S ps) (key (entry (λ m. m) x).0))) ∙ sym ((once_linear S.field 0 [] (powers_of S ps)).act _ _)
      ∙ ap (spread_once S.field (powers_of S ps)) (sym (vec_scaled S.field (entry (λ m. m) x)) ∙ ap (λ z. vector_of S (λ m. m) (z ∷ [])) read)
  one_round (y ∷ z ∷ ts) x one read = absurd (omega arith)

  pub round_halves : (n : ℕ) (ts front back sum left right : Terms) → front ≡ take n ts → back ≡ drop n ts
      → vector_of S (λ m. m) left ≡ spread_once S.field (powers_of S ps) (vector_of S (λ m. m) front)
      → vector_of S (λ m. m) right ≡ spread_once S.field (powers_of S ps) (vector_of S (λ m. m) back)
      → vector_of S (λ m. m) sum ≡ plus S.field (vector_of S (λ m. m) left) (vector_of S (λ m. m) right)
      → vector_of S (λ m. m) sum ≡ spread_once S.field (powers_of S ps) (vector_of S (λ m. m) ts)
  round_halves n ts front back sum left right p q l r s =
      s ∙ ap₂ (plus S.field) l r ∙ sym (once_plus S.field 0 [] (powers_of S ps) (vector_of S (λ m. m) front) (vector_of S (λ m. m) back))
      ∙ ap (spread_once S.field (powers_of S ps)) (sym (vec_append S.field (entries (λ m. m) front) (entries (λ m. m) back))
      ∙ ap (vec S.field) (sym (map-append (entry (λ m. m)) front back) ∙ ap (entries (λ m. m)) (ap₂ ◌++◌ p q ∙ take-append-drop n ts)))

  pub given : (u w : Vect S.field) (v : Terms) → IsVectorOf S (λ m. m) u v → u ≡ w → IsVectorOf S (λ m. m) w v
  given u w v h e = subst (λ x. IsVectorOf S (λ m. m) x v) e h
