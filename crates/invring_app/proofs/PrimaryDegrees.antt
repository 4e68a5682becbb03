-- The primary invariants with which a search ends have one list of degrees.
use Rattle.std.proofs.Common.{◌≡◌, ◌∙◌, ℕ, suc, ◌<◌, ◌≤◌, List, [], ◌∷◌, length, replicate, inl, inr, refl, sym, ap₂, subst, arith}
use native.Mathlib.Decide.{dec_le}
use Rattle.alg_core.specs.Fields.{scalars, is_field}
use Rattle.alg_core.specs.Keys.{Key, key_same}
use Rattle.alg_core.specs.Leads.{HasLead, has_lead}
use Rattle.alg_core.specs.Lists.{In, in_right}
use Rattle.alg_core.specs.SpaceGrading.{weight}
use Rattle.alg_core.specs.SpaceOrder.{key_order}
use Rattle.alg_core.specs.Spaces.{SpaceOver}
use Rattle.alg_core.specs.Vectors.{Vect, coef_at, zero_vector}
use Rattle.alg_core.specs.declared.limits.Limits.{Limits}
use Rattle.poly_module.specs.Forms.{AreForms}
use Rattle.lin_algebra.specs.declared.matrix.Matrix.{Matrix}
use Rattle.finite_certificate.specs.MarkSpaces.{ArePositiveForms}
use Rattle.primary_search.specs.Candidates.{all_candidates}
use Rattle.primary_search.specs.Searches.{IsEnd}
use Rattle.primary_search.proofs.CandidateLaws.{each_candidate}
use Rattle.primary_search.proofs.FirstLaws.{in_taken, first_small, end_first}

weight-nothing : (ws a : List ℕ) → length a ≤ 0 → weight ws 0 a ≡ 0
unfolding weight
weight-nothing ws [] h = refl
weight-nothing ws (x ∷ a) h = absurd (omega arith)

module _ {E : Type 0} (S : SpaceOver E) where
  -- a vector that is not 0 has a key
  key-of : (v : Vect S.field) → ¬ (v ≡ zero_vector S.field) → (t : Key) × ¬ (coef_at S.field v t ≡ (scalars S.field).zero)
  unfolding zero_vector coef_at
  key-of v h = go (has_lead (scalars S.field) (is_field S.field) key_same (key_order S) v)
    where
      go : HasLead (scalars S.field) (is_field S.field) key_same (key_order S) v → (t : Key) × ¬ (coef_at S.field v t ≡ (scalars S.field).zero)
      go (inl z) = absurd (h z)
      go (inr l) = (l.0, l.1.there)

  forms-one : (ws ds es : List ℕ) (fs : List (Vect S.field)) → ((f : Vect S.field) → In f fs → ¬ (f ≡ zero_vector S.field)) → AreForms S.field ws ds fs → AreForms S.field ws es fs → ds ≡ es
  forms-one ws [] [] [] some h g = refl
  forms-one ws [] (e ∷ es) [] some h g = absurd g
  forms-one ws [] es (f ∷ fs) some h g = absurd h
  forms-one ws (d ∷ ds) es [] some h g = absurd h
  forms-one ws (d ∷ ds) [] (f ∷ fs) some h g = absurd g
  forms-one ws (d ∷ ds) (e ∷ es) (f ∷ fs) some h g =
      let t = key-of f (some f (inl refl)) in
      ap₂ ◌∷◌ (sym (h.0 t.0 t.1).1 ∙ (g.0 t.0 t.1).1) (forms-one ws ds es fs (λ x i. some x (inr i)) h.1 g.1)

  module _ (gens : List (Matrix E)) (l : Limits) (θ : List (Vect S.field)) (end : IsEnd S gens l θ) where
    -- a candidate is not 0, and has a positive degree: so there are variables
    some-variables : 0 < length S.weights
    some-variables =
        let c = end.comes in
        let here = subst (In end.candidate) c.reaches.place (in_right end.candidate c.reaches.front (end.candidate ∷ c.reaches.back) (inl refl)) in
        let small = each_candidate S gens (suc c.degree) c.basis c.echelon end.candidate (in_taken l.tries (all_candidates S.field c.basis) end.candidate here) in
        let t = key-of end.candidate small.1 in
        go (dec_le 1 (length S.weights)) (small.0.variables t.0 t.1) (λ h. weight-nothing (replicate (length S.weights) 1) t.0.1.0 h) (small.0.form t.0 t.1).1
      where
        go : {m w d : ℕ} → Dec (1 ≤ length S.weights) → m ≤ length S.weights → (m ≤ 0 → w ≡ 0) → w ≡ suc d → 0 < length S.weights
        go (yes p) low none is = p
        go (no p) low none is = let z = none (omega arith) in absurd (omega arith)

    pub degrees-one : (ds es : List ℕ) → ArePositiveForms S.field (length S.weights) ds θ → ArePositiveForms S.field (length S.weights) es θ → ds ≡ es
    degrees-one ds es a b =
        let small = first_small S gens l.tries θ (end_first S gens l some-variables θ end) in
        forms-one (replicate (length S.weights) 1) ds es θ (λ f i. (small f i).not_zero) a.forms b.forms
