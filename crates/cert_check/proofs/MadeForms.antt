-- Homogeneous polynomials of a certificate: their degrees are the greatest ones of their terms.
use Rattle.std.proofs.Common.{◌≡◌, ◌∙◌, ℕ, zero, suc, ◌<◌, ◌≤◌, List, [], ◌∷◌, map, length, replicate, refl, sym, subst, inl, inr, arith}
use Rattle.std.specs.Prelude.{All}
use Rattle.std.proofs.lemmas.List.Elements.{All-head, All-tail}
use Rattle.alg_core.specs.BlockOrder.{length_ones}
use Rattle.alg_core.specs.Fields.{FieldOn}
use Rattle.alg_core.specs.Keys.{key}
use Rattle.alg_core.specs.Lists.{In}
use Rattle.alg_core.specs.PolynomialSpaces.{plain_space}
use Rattle.alg_core.specs.SpaceGrading.{AllPositive}
use Rattle.alg_core.specs.Spaces.{SpaceOver, Fits, entries}
use Rattle.alg_core.specs.Vectors.{Entry, Vect, zero_vector}
use Rattle.alg_core.specs.declared.term.Term.{Term}
use Rattle.alg_core.proofs.VectorLaws.{vec_nothing}
use Rattle.poly_module.specs.Forms.{OfDegree, IsForm, AreForms}
use Rattle.poly_module.specs.GreatestExponents.{total, greatest}
use Rattle.poly_module.specs.SpaceVectors.{IsPoly, ArePolys, vector_of, vectors_of}
use Rattle.poly_module.proofs.ExponentBounds.{fits_keys}
use Rattle.secondary_gens.specs.Forms.{degree_of, degrees_of}
use Rattle.secondary_gens.proofs.MonomialDegrees.{of_exponents}
use Rattle.irreducible_gens.specs.Irreducibles.{IsOfPositiveDegree}

greatest_low : (d : ℕ) (l : List ℕ) → All (λ x. x ≡ d) l → greatest l ≤ d
greatest_low d [] h = omega arith
greatest_low d (x ∷ l) h =
    let r = greatest_low d l (All-tail (λ y. y ≡ d) x l h) in
    let e = All-head (λ y. y ≡ d) x l h in
    grind arith

greatest_same : (d : ℕ) (l : List ℕ) → All (λ x. x ≡ d) l → 0 < length l → greatest l ≡ d
greatest_same d [] h some = absurd (omega arith)
greatest_same d (x ∷ l) h some =
    let r = greatest_low d l (All-tail (λ y. y ≡ d) x l h) in
    let e = All-head (λ y. y ≡ d) x l h in
    grind arith

all_map : {A B : Type 0} (P : B → Type 0) (f : A → B) (xs : List A) → All (λ x. P (f x)) xs → All P (map f xs)
all_map P f [] h i d l = absurd (omega arith)
all_map P f (x ∷ xs) h zero d l = h zero x (omega arith)
all_map P f (x ∷ xs) h (suc i) d l = all_map P f xs (All-tail (λ y. P (f y)) x xs h) i d (omega arith)

module _ {E : Type 0} (k : FieldOn E) (n : ℕ) where
  abbrev S : SpaceOver E
  S = plain_space k n

  abbrev Terms : Type 0
  Terms = List (Term E (List ℕ))

  totals : (d : ℕ) (es : List (Entry E)) → Fits (plain_space k n) es → All (λ e. OfDegree k (replicate n 1) d (key e.0)) es → All (λ e. total e.0.1 ≡ d) es
  unfolding key
  totals d [] f h i x l = absurd (omega arith)
  totals d (e ∷ es) f h zero x l =
      sym (of_exponents n e.0.1 (f.0.place.wide ∙ length_ones n)).degree ∙ (All-head (λ e. OfDegree k (replicate n 1) d (key e.0)) e es h).1
  totals d (e ∷ es) f h (suc i) x l = totals d es f.2 (All-tail (λ e. OfDegree k (replicate n 1) d (key e.0)) e es h) i x (omega arith)

  -- the degree of a form is the one of its terms
  pub degree_known : (p : Terms) (d : ℕ) → IsPoly (plain_space k n) (λ m. m) p → IsForm k (replicate n 1) d (vector_of (plain_space k n) (λ m. m) p)
      → ¬ (vector_of (plain_space k n) (λ m. m) p ≡ zero_vector k) → degree_of p ≡ d
  degree_known [] d h f z = absurd (z (vec_nothing k))
  degree_known (t ∷ p) d h f z =
      let es = entries (λ (m : List ℕ). m) (t ∷ p) in
      greatest_same d (map (λ (e : Entry E). total e.0.1) es)
      (all_map (λ x. x ≡ d) (λ (e : Entry E). total e.0.1) es (totals d es h.fits (fits_keys S (OfDegree k (replicate n 1) d) es h.fits f))) (omega arith)

  pub record IsProperForm (f : Vect k) : Type 0 where
    pub degree : ℕ
    pub form : IsForm k (replicate n 1) degree f
    pub not_zero : ¬ (f ≡ zero_vector k)

  pub forms_known : (ps : List Terms) → ArePolys (plain_space k n) (λ m. m) ps → ((f : Vect k) → In f (vectors_of (plain_space k n) (λ m. m) ps) → IsProperForm f)
      → AreForms k (replicate n 1) (degrees_of ps) (vectors_of (plain_space k n) (λ m. m) ps)
  forms_known [] h each = tt
  forms_known (p ∷ ps) h each =
      let f = each _ (inl refl) in
      let e = degree_known p f.degree (All-head (IsPoly S (λ m. m)) p ps h) f.form f.not_zero in
      (subst (λ d. IsForm k (replicate n 1) d (vector_of S (λ m. m) p)) (sym e) f.form, forms_known ps (All-tail (IsPoly S (λ m. m)) p ps h) (λ g i. each g (inr i)))

  pub positive_proper : (f : Vect k) → IsOfPositiveDegree k (replicate n 1) f → IsProperForm f
  positive_proper f h = record { degree = h.degree; form = h.form; not_zero = h.not_zero }

  pub positive_known : (ps : List Terms) → ArePolys (plain_space k n) (λ m. m) ps → ((f : Vect k) → In f (vectors_of (plain_space k n) (λ m. m) ps) → IsOfPositiveDegree k (replicate n 1) f)
      → AllPositive (degrees_of ps)
  positive_known [] h each = tt
  positive_known (p ∷ ps) h each =
      let f = each _ (inl refl) in
      let e = degree_known p f.degree (All-head (IsPoly S (λ m. m)) p ps h) f.form f.not_zero in
      (subst (λ d. 0 < d) (sym e) f.positive, positive_known ps (All-tail (IsPoly S (λ m. m)) p ps h) (λ g i. each g (inr i)))

module _ {E : Type 0} (k : FieldOn E) (ws : List ℕ) where
  -- a member of a list of forms
  pub form_member : (es : List ℕ) (fs : List (Vect k)) → AreForms k ws es fs → (f : Vect k) → In f fs → (d : ℕ) × IsForm k ws d f
  form_member [] [] h f i = absurd i
  form_member (e ∷ es) (g ∷ fs) h f (inl same) = (e, subst (IsForm k ws e) same h.0)
  form_member (e ∷ es) (g ∷ fs) h f (inr i) = form_member es fs h.1 f i
  form_member [] (g ∷ fs) h f i = absurd h
  form_member (e ∷ es) [] h f i = absurd i
