-- What the search gives: found primary invariants.
use Rattle.std.proofs.Common.{◌≡◌, ◌∙◌, ℕ, ◌<◌, ◌≤◌, List, [], ◌∷◌, length, replicate, inl, inr, refl, sym, ap, subst, arith}
use Rattle.std.specs.Prelude.{All}
use Rattle.std.proofs.lemmas.List.Elements.{All-nil, All-cons, All-head, All-tail}
use Rattle.alg_core.specs.DpOrder.{dp_order}
use Rattle.alg_core.specs.LimitRanges.{AreLimits}
use Rattle.alg_core.specs.Lists.{In}
use Rattle.alg_core.specs.SpaceGrading.{height}
use Rattle.alg_core.specs.Spaces.{SpaceOver}
use Rattle.alg_core.specs.Vectors.{Vect}
use Rattle.alg_core.specs.declared.limits.Limits.{Limits}
use Rattle.alg_core.specs.declared.term.Term.{Term}
use Rattle.alg_core.proofs.VectorLaws.{vec_nothing}
use Rattle.std.proofs.lemmas.List.{length-replicate}
use Rattle.poly_module.specs.Forms.{IsForm, homogeneous_form}
use Rattle.poly_module.specs.SpaceVectors.{vector_of, vectors_of}
use Rattle.poly_module.proofs.SpaceVectorLaws.{is_polynomial}
use Rattle.lin_algebra.specs.declared.matrix.Matrix.{Matrix}
use Rattle.groebner_hom.specs.IdealBases.{IsHomogeneousPoly, AreHomogeneousPolys}
use Rattle.primary_search.specs.Searches.{IsEnd}
use Rattle.primary_search.specs.Walks.{FirstPrimaries}
use Rattle.primary_search.proofs.FirstLaws.{IsSmallInvariant, first_small, first_regular}
use Rattle.secondary_gens.specs.Forms.{degree_of, unit_weights, IsPositiveForm}
use Rattle.secondary_gens.proofs.KeepSteps.{form_degree, form_small}
use Rattle.invring_app.specs.FoundPrimaries.{IsPlain, AreFound}

first-height : height (0 ∷ []) 0 ≡ 0
unfolding height
first-height = refl

-- a space of variables
pub plain_of : {E : Type 0} (S : SpaceOver E) (n : ℕ) → S.order ≡ dp_order (replicate n 1) → S.weights ≡ replicate n 1 → S.shifts ≡ 0 ∷ [] → IsPlain S
plain_of S n order weights shifts = record {
  order = order ∙ sym (ap dp_order weights);
  weights = weights ∙ ap (λ m. replicate m 1) (sym (ap length weights ∙ length-replicate n 1));
  shifts = shifts;
}

module _ {E : Type 0} (S : SpaceOver E) (gens : List (Matrix E)) (l : Limits) (plain : IsPlain S) (limits : AreLimits l) where
  abbrev Terms : Type 0
  Terms = List (Term E (List ℕ))

  shift : height S.shifts 0 ≡ 0
  shift = subst (λ xs. height xs 0 ≡ 0) (sym plain.shifts) none
    where
      none : height (0 ∷ []) 0 ≡ 0
      none = first-height

  -- a form of its degree
  form-in : (d : ℕ) (p : Terms) → IsHomogeneousPoly S d p → (e : ℕ) × (e ≤ d) × IsForm S.field (unit_weights S) e (vector_of S (λ m. m) p)
  form-in d p h =
      let e = h.homogeneous in
      (e.0, e.1, subst (λ ws. IsForm S.field ws e.0 (vector_of S (λ m. m) p)) plain.weights (homogeneous_form S shift e.0 (vector_of S (λ m. m) p) (is_polynomial S (λ m. m) p h.polynomial) e.2))

  module _ (d : ℕ) where
    each-form : (θ : List Terms) → AreHomogeneousPolys S l.max_degree θ → ((v : Vect S.field) → In v (vectors_of S (λ m. m) θ) → IsSmallInvariant S gens d v) → All (IsPositiveForm S) θ
    each-form [] polys small = All-nil (IsPositiveForm S)
    each-form (p ∷ θ) polys small =
        let h = All-head (IsHomogeneousPoly S l.max_degree) p θ polys in
        let s = small _ (inl refl) in
        let f = form-in l.max_degree p h in
        let present : ¬ (p ≡ []) = λ e. s.not_zero (ap (vector_of S (λ m. m)) e ∙ vec_nothing S.field) in
        let is : degree_of p ≡ s.degree = form_degree S s.degree p h.polynomial s.form.form present in
        let below = limits.max_degree.below in
        let low = f.1 in
        All-cons (IsPositiveForm S) p θ
        (record { form = form_small S f.0 p (omega arith) h.polynomial f.2 present; positive = subst (λ e. 0 < e) (sym is) s.positive })
        (each-form θ (All-tail (IsHomogeneousPoly S l.max_degree) p θ polys) (λ v i. small v (inr i)))

  pub found_is : (θ : List Terms) → 0 < length S.weights → length S.weights ≤ 12 → AreHomogeneousPolys S l.max_degree θ → FirstPrimaries S gens l.tries (vectors_of S (λ m. m) θ) → IsEnd S gens l (vectors_of S (λ m. m) θ) → AreFound S l.max_basis θ
  found_is θ some few polys first end = record {
    plain = plain;
    some = some;
    few = few;
    low_cap = limits.max_basis.below;
    forms = each-form first.degree θ polys (first_small S gens l.tries (vectors_of S (λ m. m) θ) first);
    regular = first_regular S gens l.tries (vectors_of S (λ m. m) θ) first;
    ended = end.ended;
    ideal = end.ideal;
  }
