-- Lists that are told by what their members stand for: terms, powers and standard monomials.
use Rattle.std.proofs.Common.{◌≡◌, ◌∙◌, ℕ, zero, suc, ◌<◌, List, [], ◌∷◌, map, length, replicate, refl, sym, ap, ap₂, subst, inl, inr, arith}
use Rattle.std.specs.Prelude.{All, Some, slice_get}
use Rattle.std.specs.declared.cmp.Ordering.TheVariants.{Less}
use Rattle.std.proofs.lemmas.List.Elements.{All-head, All-tail}
use Rattle.alg_core.specs.DpOrder.{dp_order, dp_compare}
use Rattle.alg_core.specs.Fields.{FieldOn}
use Rattle.alg_core.specs.Lists.{In}
use Rattle.alg_core.specs.Monomials.{mono, exponents_mono}
use Rattle.alg_core.specs.Spaces.{SpaceOver, entries}
use Rattle.alg_core.specs.Vectors.{Entry, Vect}
use Rattle.alg_core.specs.declared.term.Term.{Term}
use Rattle.alg_core.proofs.FittingLists.{fits_unique, less_turned}
use Rattle.alg_core.proofs.MonomialLists.{length_mono}
use Rattle.poly_module.specs.SpaceVectors.{IsVector, IsPoly, ArePolys, vector_of, vectors_of}
use Rattle.module_groebner.proofs.Families.{all_in}
use Rattle.finite_certificate.specs.declared.power.Power.{Power}
use Rattle.finite_certificate.specs.StandardMonomials.{IsStandard, Rise, AreStandardMonomials}
use Rattle.primary_search.proofs.TakenLaws.{same_first, same_rest}

module _ {A : Type 0} where
  pub place_there : (xs : List A) (j : ℕ) → j < length xs → (x : A) × (slice_get xs j ≡ Some x)
  place_there [] j h = absurd (omega arith)
  place_there (x ∷ xs) zero h = (x, refl)
  place_there (x ∷ xs) (suc j) h = place_there xs j (omega arith)

  pub by_places : (xs ys : List A) → length xs ≡ length ys → ((j : ℕ) (x y : A) → slice_get xs j ≡ Some x → slice_get ys j ≡ Some y → x ≡ y) → xs ≡ ys
  by_places [] [] l h = refl
  by_places [] (y ∷ ys) l h = absurd (omega arith)
  by_places (x ∷ xs) [] l h = absurd (omega arith)
  by_places (x ∷ xs) (y ∷ ys) l h = ap₂ ◌∷◌ (h 0 x y refl refl) (by_places xs ys (omega arith) (λ j. h (suc j)))

module _ {E : Type 0} where
  pub term_of : Entry E → Term E (List ℕ)
  term_of e = record { coef = e.1; at = record { pos = e.0.0; mono = e.0.1 } }

  pub terms_back : (v : List (Term E (List ℕ))) → map term_of (entries (λ m. m) v) ≡ v
  unfolding term_of
  terms_back [] = refl
  terms_back (t ∷ v) = ap (λ l. t ∷ l) (terms_back v)

module _ {E : Type 0} (S : SpaceOver E) where
  abbrev Terms : Type 0
  Terms = List (Term E (List ℕ))

  pub one_terms : (v w : Terms) → IsVector S (λ m. m) v → IsVector S (λ m. m) w → vector_of S (λ m. m) v ≡ vector_of S (λ m. m) w → v ≡ w
  one_terms v w a b e = sym (terms_back v) ∙ ap (map term_of) (fits_unique S (entries (λ m. m) v) (entries (λ m. m) w) a b e) ∙ terms_back w

  pub one_polys : (ps qs : List Terms) → ArePolys S (λ m. m) ps → ArePolys S (λ m. m) qs → vectors_of S (λ m. m) ps ≡ vectors_of S (λ m. m) qs → ps ≡ qs
  one_polys [] [] a b e = refl
  one_polys [] (q ∷ qs) a b e = absurd cc
  one_polys (p ∷ ps) [] a b e = absurd cc
  one_polys (p ∷ ps) (q ∷ qs) a b e = ap₂ ◌∷◌
      (one_terms p q (All-head (IsPoly S (λ m. m)) p ps a).fits (All-head (IsPoly S (λ m. m)) q qs b).fits (same_first (vector_of S (λ m. m) p) (vector_of S (λ m. m) q) (vectors_of S (λ m. m) ps) (vectors_of S (λ m. m) qs) e))
      (one_polys ps qs (All-tail (IsPoly S (λ m. m)) p ps a) (All-tail (IsPoly S (λ m. m)) q qs b) (same_rest (vector_of S (λ m. m) p) (vector_of S (λ m. m) q) (vectors_of S (λ m. m) ps) (vectors_of S (λ m. m) qs) e))

  abbrev pub power_pair : Power E → ℕ × Vect S.field
  power_pair x = (x.exponent, vector_of S (λ m. m) x.form)

  made_power : ℕ → Terms → Power E
  made_power e f = record { exponent = e; form = f }

  one_power : (p q : Power E) → IsPoly S (λ m. m) p.form → IsPoly S (λ m. m) q.form → power_pair p ≡ power_pair q → p ≡ q
  unfolding made_power
  one_power p q a b e = ap₂ made_power (ap (λ (x : ℕ × Vect S.field). x.0) e) (one_terms p.form q.form a.fits b.fits (ap (λ (x : ℕ × Vect S.field). x.1) e))

  pub one_powers : (ps qs : List (Power E)) → All (λ x. IsPoly S (λ m. m) x.form) ps → All (λ x. IsPoly S (λ m. m) x.form) qs → map power_pair ps ≡ map power_pair qs → ps ≡ qs
  one_powers [] [] a b e = refl
  one_powers [] (q ∷ qs) a b e = absurd cc
  one_powers (p ∷ ps) [] a b e = absurd cc
  one_powers (p ∷ ps) (q ∷ qs) a b e = ap₂ ◌∷◌
      (one_power p q (All-head (λ (x : Power E). IsPoly S (λ m. m) x.form) p ps a) (All-head (λ (x : Power E). IsPoly S (λ m. m) x.form) q qs b) (same_first (power_pair p) (power_pair q) (map power_pair ps) (map power_pair qs) e))
      (one_powers ps qs (All-tail (λ (x : Power E). IsPoly S (λ m. m) x.form) p ps a) (All-tail (λ (x : Power E). IsPoly S (λ m. m) x.form) q qs b) (same_rest (power_pair p) (power_pair q) (map power_pair ps) (map power_pair qs) e))

-- of exponents one list rises
module _ (n : ℕ) where
  against : (a b : List ℕ) → dp_compare (replicate n 1) (0, a) (0, b) ≡ Less → dp_compare (replicate n 1) (0, b) (0, a) ≡ Less → ⊥
  against a b h g = let t = less_turned (dp_order (replicate n 1)) (0, a) (0, b) h in absurd cc

  one_rising : (B C : List (List ℕ)) → Rise n B → Rise n C → ((a : List ℕ) → In a B → In a C) → ((a : List ℕ) → In a C → In a B) → B ≡ C
  one_rising [] [] h g to back = refl
  one_rising [] (b ∷ C) h g to back = absurd (back b (inl refl))
  one_rising (a ∷ B) [] h g to back = absurd (to a (inl refl))
  one_rising (a ∷ B) (b ∷ C) h g to back = ap₂ ◌∷◌ same (one_rising B C h.1 g.1 (λ x i. later x i (to x (inr i))) (λ x i. earlier x i (back x (inr i))))
    where
      go : In a (b ∷ C) → In b (a ∷ B) → a ≡ b
      go (inl e) j = sym e
      go (inr i) (inl e) = e
      go (inr i) (inr j) = absurd (against a b (h.0 b j) (g.0 a i))

      same : a ≡ b
      same = go (to a (inl refl)) (back b (inl refl))

      later : (x : List ℕ) → In x B → In x (b ∷ C) → In x C
      later x i (inr j) = j
      later x i (inl e) = let l = subst (λ (y : List ℕ). dp_compare (replicate n 1) (0, a) (0, y) ≡ Less) (sym (same ∙ e)) (h.0 x i) in absurd (against a a l l)

      earlier : (x : List ℕ) → In x C → In x (a ∷ B) → In x B
      earlier x i (inr j) = j
      earlier x i (inl e) = let l = subst (λ (y : List ℕ). dp_compare (replicate n 1) (0, b) (0, y) ≡ Less) (sym (sym same ∙ e)) (g.0 x i) in absurd (against b b l l)

module _ {E : Type 0} (k : FieldOn E) (n : ℕ) (θ : List (Vect k)) where
  among : (B C : List (List ℕ)) → AreStandardMonomials k n θ B → AreStandardMonomials k n θ C → (a : List ℕ) → In a B → In a C
  among B C h g a i =
      let wide = all_in (λ (x : List ℕ). length x ≡ n) B h.wide a i in
      subst (λ (x : List ℕ). In x C) (exponents_mono n a wide)
      (g.all (mono a) (let l = length_mono a in omega arith) (all_in (λ (x : List ℕ). IsStandard k n θ (mono x)) B h.standard a i))

  pub one_standard : (B C : List (List ℕ)) → AreStandardMonomials k n θ B → AreStandardMonomials k n θ C → B ≡ C
  one_standard B C h g = one_rising n B C h.rising g.rising (among B C h g) (among C B g h)
