-- Where invariants generate all, each secondary invariant has the degree of one of them other than 0.
use Rattle.std.proofs.Common.{◌≡◌, ◌≢◌, ◌∙◌, ◌⊎◌, inl, inr, ℕ, zero, suc, ◌<◌, ◌≤◌, List, [], ◌∷◌, length, refl, sym, ap, subst, arith}
use Rattle.std.proofs.lemmas.Bool.{cases_lt}
use Rattle.alg_core.specs.Lists.{In, map_in}
use Rattle.alg_core.specs.SpaceGrading.{height}
use Rattle.alg_core.specs.Spaces.{SpaceOver}
use Rattle.alg_core.specs.Vectors.{Vect, zero_vector}
use Rattle.alg_core.specs.declared.term.Term.{Term}
use Rattle.alg_core.proofs.VectorLaws.{vec_nothing}
use Rattle.poly_module.specs.Combinations.{Over}
use Rattle.poly_module.specs.Forms.{IsForm}
use Rattle.poly_module.specs.Modules.{listed}
use Rattle.poly_module.specs.SpaceVectors.{IsPoly, ArePolys, vector_of, vectors_of}
use Rattle.poly_module.specs.Walks.{Keeps}
use Rattle.poly_module.proofs.WalkLaws.{keeps_unique}
use Rattle.lin_algebra.specs.declared.matrix.Matrix.{Matrix}
use Rattle.invariant_space.specs.InvariantSpaces.{IsEchelonBasis}
use Rattle.secondary_gens.specs.Forms.{degree_of, degrees_of, unit_weights}
use Rattle.secondary_gens.specs.Secondaries.{AreBases, AreSecondaries, IsDegreeIn}
use Rattle.secondary_gens.proofs.ChoiceSteps.{all_in}
use Rattle.secondary_gens.proofs.FixedSteps.{keeps_in}
use Rattle.secondary_gens.proofs.ImageSteps.{Generate, passed_over}
use Rattle.secondary_gens.proofs.KeepSteps.{form_degree}
use Rattle.secondary_gens.proofs.OverSteps.{zero_terms}
use Rattle.secondary_gens.proofs.SecondaryDegrees.{secondaries_fixed_not_zero}
use Rattle.secondary_gens.proofs.SecondaryLaws.{keeps_split}
use Rattle.secondary_gens.proofs.WalkSteps.{Walked, walked_none, walked_more, keeps_none}

-- whether a polynomial other than 0 of a list has a degree

same_or : (x y : ℕ) → (x ≡ y) ⊎ (¬ (x ≡ y))
same_or x y = go (cases_lt x y) (cases_lt y x)
  where
    go : (x < y) ⊎ (y ≤ x) → (y < x) ⊎ (x ≤ y) → (x ≡ y) ⊎ (¬ (x ≡ y))
    go (inl l) m = inr (λ e. omega arith)
    go (inr l) (inl m) = inr (λ e. omega arith)
    go (inr l) (inr m) = inl (omega arith)

module _ {E : Type 0} (d : ℕ) where
  after : (p : List (Term E (List ℕ))) (ps : List (List (Term E (List ℕ)))) → (p ≢ [] → ¬ (degree_of p ≡ d)) → IsDegreeIn ps d ⊎ (¬ IsDegreeIn ps d) → IsDegreeIn (p ∷ ps) d ⊎ (¬ IsDegreeIn (p ∷ ps) d)
  after p ps n (inl h) = inl (h.0, inr h.1, h.2, h.3)
  after p ps n (inr m) = inr (λ h. go h.0 h.1 h.2 h.3)
    where
      go : (r : List (Term E (List ℕ))) → In r (p ∷ ps) → r ≢ [] → ¬ (degree_of r ≡ d)
      go r (inl e) there same = n (λ z. there (sym e ∙ z)) (ap degree_of e ∙ same)
      go r (inr i) there same = m (r, i, there, same)

  degree_or : (ps : List (List (Term E (List ℕ)))) → IsDegreeIn ps d ⊎ (¬ IsDegreeIn ps d)
  degree_or [] = inr (λ h. h.1)
  degree_or ([] ∷ ps) = after [] ps (λ there same. there refl) (degree_or ps)
  degree_or ((t ∷ p) ∷ ps) = go (same_or (degree_of (t ∷ p)) d) (degree_or ps)
    where
      go : (degree_of (t ∷ p) ≡ d) ⊎ (¬ (degree_of (t ∷ p) ≡ d)) → IsDegreeIn ps d ⊎ (¬ IsDegreeIn ps d) → IsDegreeIn ((t ∷ p) ∷ ps) d ⊎ (¬ IsDegreeIn ((t ∷ p) ∷ ps) d)
      go (inl e) later = inl (t ∷ p, inl refl, (λ z. let c : ⊥ = cc in c), e)
      go (inr n) later = after (t ∷ p) ps (λ there. n) later

module _ {E : Type 0} (S : SpaceOver E) where
  -- a place of a list of polynomials
  at_place : (Q : Vect S.field → ℕ → Type 0) (ps : List (List (Term E (List ℕ)))) → ((p : List (Term E (List ℕ))) → In p ps → Q (vector_of S (λ m. m) p) (degree_of p))
      → (j : ℕ) → j < length (vectors_of S (λ m. m) ps) → Q (listed S.field (vectors_of S (λ m. m) ps) j) (height (degrees_of ps) j)
  unfolding height
  at_place Q [] h j l = absurd (omega arith)
  at_place Q (p ∷ ps) h zero l = h p (inl refl)
  at_place Q (p ∷ ps) h (suc j) l = at_place Q ps (λ q i. h q (inr i)) j (omega arith)

  module _ (gens : List (Matrix E)) (θ : List (Vect S.field)) (ds : List ℕ) (fs : List (List (Term E (List ℕ)))) (generate : Generate S gens θ (vectors_of S (λ m. m) fs) ds (degrees_of fs)) where
    -- a form of the degree of a polynomial other than 0 of the list
    pub record HasDegree (v : Vect S.field) : Type 0 where
      pub degree : ℕ
      pub form : IsForm S.field (unit_weights S) degree v
      pub image : IsDegreeIn fs degree

    abbrev HaveDegrees : List (Vect S.field) → Type 0
    HaveDegrees T = (v : Vect S.field) → In v T → HasDegree v

    none_at : (d : ℕ) → ¬ IsDegreeIn fs d → (j : ℕ) → j < length (vectors_of S (λ m. m) fs) → (listed S.field (vectors_of S (λ m. m) fs) j ≡ zero_vector S.field) ⊎ (¬ (height (degrees_of fs) j ≡ d))
    none_at d none = at_place (λ v e. (v ≡ zero_vector S.field) ⊎ (¬ (e ≡ d))) fs other
      where
        other : (p : List (Term E (List ℕ))) → In p fs → (vector_of S (λ m. m) p ≡ zero_vector S.field) ⊎ (¬ (degree_of p ≡ d))
        other [] i = inl (zero_terms S [] refl)
        other (t ∷ p) i = inr (λ e. none (t ∷ p, i, (λ z. let c : ⊥ = cc in c), e))

    -- along the basis of one degree
    module _ (d : ℕ) (mid basis T : List (Vect S.field)) (walked : Walked S gens θ d mid) (before : HaveDegrees mid) (echelon : IsEchelonBasis S gens d basis) (keeps : Keeps (Over S.field θ) mid basis T) where
      with-image : IsDegreeIn fs d → HaveDegrees T
      with-image there v i = go (keeps_in (Over S.field θ) mid basis T keeps v i)
        where
          go : In v mid ⊎ In v basis → HasDegree v
          go (inl j) = before v j
          go (inr j) = record { degree = d; form = (echelon.reduced.inside v j).form; image = there }

      without : ¬ IsDegreeIn fs d → HaveDegrees T
      without none v i =
          let skipped = keeps_none (Over S.field θ) mid basis (λ f j. passed_over S gens θ (vectors_of S (λ m. m) fs) ds (degrees_of fs) generate d mid walked (none_at d none) f (echelon.reduced.inside f j)) in
          before v (subst (In v) (keeps_unique (Over S.field θ) mid basis T mid keeps skipped) i)

      one-degree : HaveDegrees T
      one-degree = go (degree_or d fs)
        where
          go : IsDegreeIn fs d ⊎ (¬ IsDegreeIn fs d) → HaveDegrees T
          go (inl there) = with-image there
          go (inr none) = without none

    along : (d : ℕ) (forms T : List (Vect S.field)) → AreBases S gens d forms → Keeps (Over S.field θ) [] forms T → Walked S gens θ d T × HaveDegrees T
    along zero forms T a h =
        let nothing : T ≡ [] = subst (λ l. Keeps (Over S.field θ) [] l T) a h in
        (walked_none S gens θ T nothing, λ v i. absurd (subst (In v) nothing i))
    along (suc d) forms T a h =
        let s = keeps_split (Over S.field θ) [] a.0 a.1 T (subst (λ l. Keeps (Over S.field θ) [] l T) a.4 h) in
        let r = along d a.0 s.0 a.2 s.1 in
        (walked_more S gens θ d s.0 T a.1 r.0 a.3 s.2, one-degree d s.0 a.1 T r.0 r.1 a.3 s.2)

    -- the secondary invariants with the terms ps
    pub degree-in : (ps : List (List (Term E (List ℕ)))) → ArePolys S (λ m. m) ps → AreSecondaries S gens θ (vectors_of S (λ m. m) ps) → (p : List (Term E (List ℕ))) → In p ps → IsDegreeIn fs (degree_of p)
    degree-in ps polynomials a p i =
        let T = vectors_of S (λ m. m) ps in
        let j : In (vector_of S (λ m. m) p) T = map_in (vector_of S (λ m. m)) p ps i in
        let g = (along a.bound a.forms T a.bases a.kept).1 (vector_of S (λ m. m) p) j in
        let there : p ≢ [] = λ e. (secondaries_fixed_not_zero S gens θ T a (vector_of S (λ m. m) p) j).1 (ap (vector_of S (λ m. m)) e ∙ vec_nothing S.field) in
        subst (IsDegreeIn fs) (sym (form_degree S g.degree p (all_in (IsPoly S (λ m. m)) ps p polynomials i) g.form there)) g.image
