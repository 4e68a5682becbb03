-- The degree of a homogeneous polynomial by its first term, and homogeneous polynomials as forms.
use Rattle.std.proofs.Common.{◌≡◌, ℕ, zero, suc, ◌+◌, ◌<◌, ◌≤◌, List, [], ◌∷◌, ◌++◌, length, get_or, take, refl, sym, ap, subst, ◌∙◌, arith}
use Rattle.std.specs.Prelude.{All}
use Rattle.std.proofs.lemmas.List.{take_more, map-append, get_or_read}
use Rattle.std.proofs.lemmas.List.Elements.{All-head, All-tail}
use Rattle.alg_core.specs.Keys.{key}
use Rattle.alg_core.specs.SpaceGrading.{AllPositive}
use Rattle.poly_module.specs.Modules.{listed}
use Rattle.alg_core.specs.Spaces.{SpaceOver, entries}
use Rattle.alg_core.specs.Vectors.{Vect}
use Rattle.alg_core.specs.declared.term.Term.{Term}
use Rattle.poly_module.specs.Forms.{OfDegree, IsForm, AreForms}
use Rattle.poly_module.specs.GreatestExponents.{total}
use Rattle.poly_module.specs.Parts.{Supp}
use Rattle.poly_module.specs.SpaceVectors.{vector_of, vectors_of}
use Rattle.poly_module.proofs.ExponentBounds.{fits_keys}
use Rattle.poly_module.proofs.FittingKeys.{vec_in_variables}
use Rattle.invariant_space.specs.InvariantSpaces.{IsOfDegree}
use Rattle.secondary_gens.specs.Images.{IsImage}
use Rattle.secondary_gens.proofs.MonomialDegrees.{of_exponents}
use Rattle.secondary_gens.specs.Forms.{degree_of, degrees_of, unit_weights, IsSmallForm, IsPositiveForm}

-- the sum of the first exponents
total_push : (a : List ℕ) (x : ℕ) → total (a ++ x ∷ []) ≡ total a + x
total_push [] x = omega arith
total_push (y ∷ a) x = let r = total_push a x in omega arith

pub total_more : (a : List ℕ) (i : ℕ) → i < length a → total (take (i + 1) a) ≡ total (take i a) + get_or a i 0
total_more a i h = ap total (take_more a i 0 h) ∙ total_push (take i a) (get_or a i 0)

pub total_front : (a : List ℕ) (i : ℕ) → total (take i a) ≤ total a
total_front [] zero = omega arith
total_front [] (suc i) = omega arith
total_front (x ∷ a) zero = omega arith
total_front (x ∷ a) (suc i) = let r = total_front a i in omega arith

module _ {E : Type 0} (S : SpaceOver E) where
  abbrev Terms : Type 0
  Terms = List (Term E (List ℕ))

  -- the first term has the degree
  pub first_degree : (p : Terms) (t : Term E (List ℕ)) → IsSmallForm S p → 0 < length p → t ≡ get_or p 0 t → total t.at.mono ≡ degree_of p
  unfolding key
  first_degree [] t h l read = absurd (omega arith)
  first_degree (x ∷ p) t h l read =
      let keys = fits_keys S (OfDegree S.field (unit_weights S) (degree_of (x ∷ p))) (entries (λ m. m) (x ∷ p)) h.polynomial.fits h.form in
      let wide = h.polynomial.fits.0.place.wide in
      ap (λ u. total u.at.mono) read ∙ sym (of_exponents (length S.weights) x.at.mono wide).degree ∙ (All-head (λ e. OfDegree S.field (unit_weights S) (degree_of (x ∷ p)) (key e.0)) _ _ keys).1

  pub first_degree_seen : (seen p : Terms) (t : Term E (List ℕ)) → seen ≡ p → IsSmallForm S p → 0 < length seen → t ≡ get_or seen 0 t → total t.at.mono ≡ degree_of p
  first_degree_seen seen p t same h l read = first_degree p t h (subst (λ u. 0 < length u) same l) (read ∙ ap (λ u. get_or u 0 t) same)

  -- a homogeneous polynomial as a form
  pub form_image : (p : Terms) → IsSmallForm S p → IsImage S (degree_of p) (vector_of S (λ m. m) p) p
  form_image p h = record {
    polynomial = record { fits = h.polynomial.fits; position = h.polynomial.position; is = refl };
    form = λ t n. record { position = (h.form t n).0; variables = vec_in_variables S (entries (λ m. m) p) h.polynomial.fits t n; degree = (h.form t n).1 };
  }

  -- the terms of a form, but of 0, have its degree
  pub image_form : (d : ℕ) (v : Vect S.field) → Supp S.field (IsOfDegree (length S.weights) d) v → IsForm S.field (unit_weights S) d v
  image_form d v h t n = ((h t n).position, (h t n).degree)

  -- homogeneous polynomials as forms of their degrees
  pub are_forms : (ps : List Terms) → All (IsSmallForm S) ps → AreForms S.field (unit_weights S) (degrees_of ps) (vectors_of S (λ m. m) ps)
  are_forms [] h = tt
  are_forms (p ∷ ps) h = ((All-head (IsSmallForm S) p ps h).form, are_forms ps (All-tail (IsSmallForm S) p ps h))

  pub positive_small : (ps : List Terms) → All (IsPositiveForm S) ps → All (IsSmallForm S) ps
  positive_small ps h i d l = (h i d l).form

  -- degrees of the first polynomials
  pub degrees_more : (ps : List Terms) (i : ℕ) (p : Terms) → i < length ps → p ≡ get_or ps i p → degrees_of (take (i + 1) ps) ≡ degrees_of (take i ps) ++ degree_of p ∷ []
  degrees_more ps i p h read = ap degrees_of (take_more ps i p h ∙ ap (λ y. take i ps ++ y ∷ []) (sym read)) ∙ map-append degree_of (take i ps) (p ∷ [])

  -- the weights of the marks
  pub all_positive : (ps : List Terms) → All (IsPositiveForm S) ps → AllPositive (degrees_of ps)
  all_positive [] h = tt
  all_positive (p ∷ ps) h = ((All-head (IsPositiveForm S) p ps h).positive, all_positive ps (All-tail (IsPositiveForm S) p ps h))

  pub same_lengths : (ps : List Terms) → length (degrees_of ps) ≡ length (vectors_of S (λ m. m) ps)
  same_lengths [] = refl
  same_lengths (p ∷ ps) = ap suc (same_lengths ps)

  pub vector_at : (ps : List Terms) (i : ℕ) (p : Terms) → i < length ps → p ≡ get_or ps i p → listed S.field (vectors_of S (λ m. m) ps) i ≡ vector_of S (λ m. m) p
  vector_at [] i p h r = absurd (omega arith)
  vector_at (q ∷ ps) zero p h r = ap (vector_of S (λ m. m)) (sym r)
  vector_at (q ∷ ps) (suc i) p h r = vector_at ps i p (omega arith) r

  pub degree_at : (ps : List Terms) (i : ℕ) (p : Terms) → i < length ps → p ≡ get_or ps i p → degree_of p ≡ get_or (degrees_of ps) i 0
  degree_at [] i p h r = absurd (omega arith)
  degree_at (q ∷ ps) zero p h r = ap degree_of r
  degree_at (q ∷ ps) (suc i) p h r = degree_at ps i p (omega arith) r

  -- a primary invariant as a form
  pub primary_image : (ps : List Terms) (i : ℕ) (p : Terms) → All (IsPositiveForm S) ps → i < length ps → p ≡ get_or ps i p → IsImage S (get_or (degrees_of ps) i 0) (listed S.field (vectors_of S (λ m. m) ps) i) p
  primary_image ps i p h l r = subst (λ d. IsImage S d (listed S.field (vectors_of S (λ m. m) ps) i) p) (degree_at ps i p l r)
      (subst (λ v. IsImage S (degree_of p) v p) (sym (vector_at ps i p l r)) (form_image p (subst (IsPositiveForm S) (sym r) (h i p l)).form))

-- a weight that is read
pub weight_read : (ws ds : List ℕ) (i r : ℕ) → ws ≡ ds → i < length ds → r ≡ get_or ws i r → r ≡ get_or ds i 0
weight_read ws ds i r same h read = get_or_read ds i r h (read ∙ ap (λ l. get_or l i r) same) 0
