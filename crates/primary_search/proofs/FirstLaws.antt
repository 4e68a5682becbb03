-- What a search answers: the first primary invariants. They are homogeneous invariants of positive degree, each a nonzerodivisor modulo
-- those before it.
use Rattle.std.proofs.Common.{◌≡◌, ◌⊎◌, inl, inr, ◌∙◌, ℕ, zero, suc, ◌<◌, ◌≤◌, List, [], ◌∷◌, ◌++◌, length, replicate, take, sym, ap, subst, refl, arith, append_assoc}
use Rattle.std.specs.Prelude.{All}
use Rattle.alg_core.specs.declared.limits.Limits.{Limits}
use Rattle.alg_core.specs.Lists.{In, in_left}
use Rattle.alg_core.specs.SpaceGrading.{AllPositive}
use Rattle.alg_core.specs.Spaces.{SpaceOver}
use Rattle.alg_core.specs.Vectors.{Vect, zero_vector}
use Rattle.alg_core.proofs.Members.{in_cases}
use Rattle.poly_module.specs.Forms.{AreForms}
use Rattle.poly_module.specs.Parts.{InVariables}
use Rattle.lin_algebra.specs.declared.matrix.Matrix.{Matrix}
use Rattle.matrix_group.specs.Actions.{Invariant}
use Rattle.module_groebner.proofs.Families.{in_all}
use Rattle.invariant_space.specs.InvariantSpaces.{IsInvariantForm}
use Rattle.finite_certificate.specs.Ideals.{Regular}
use Rattle.finite_certificate.specs.MarkSpaces.{ArePositiveForms}
use Rattle.primary_search.specs.Candidates.{all_candidates, candidates}
use Rattle.primary_search.specs.Searches.{Passes, PassesDegrees, IsEnd}
use Rattle.primary_search.specs.Walks.{ArePlaces, FirstPrimaries}
use Rattle.primary_search.proofs.CandidateLaws.{each_candidate}
use Rattle.primary_search.proofs.OfferSteps.{not_ended}
use Rattle.primary_search.proofs.SearchSteps.{nothing_ended}
use Rattle.primary_search.proofs.TakenLaws.{shorter_front, taken_append, taken_each, taken_regular, regular_nothing, passes_taken, passes_unended}
use Rattle.primary_search.proofs.WalkSteps.{passes_append}

pub in_taken : {A : Type 0} (n : ℕ) (xs : List A) (x : A) → In x (take n xs) → In x xs
in_taken zero xs x i = absurd i
in_taken (suc n) [] x i = absurd i
in_taken (suc n) (y ∷ xs) x (inl e) = inl e
in_taken (suc n) (y ∷ xs) x (inr i) = inr (in_taken n xs x i)

module _ {E : Type 0} (S : SpaceOver E) (gens : List (Matrix E)) where
  -- a homogeneous invariant of a positive degree that is at most d
  pub record IsSmallInvariant (d : ℕ) (c : Vect S.field) : Type 0 where
    pub degree : ℕ
    pub positive : 0 < degree
    pub low : degree ≤ d
    pub form : IsInvariantForm S.field (length S.weights) gens degree c
    pub not_zero : ¬ (c ≡ zero_vector S.field)

  small_more : (d : ℕ) (c : Vect S.field) → IsSmallInvariant d c → IsSmallInvariant (suc d) c
  small_more d c h = record { degree = h.degree; positive = h.positive; low = let l = h.low in omega arith; form = h.form; not_zero = h.not_zero }

  pub place_small : (tries d : ℕ) (cs : List (Vect S.field)) → ArePlaces S gens tries d cs → (c : Vect S.field) → In c cs → IsSmallInvariant d c
  place_small tries zero cs h c i = absurd (subst (In c) h i)
  place_small tries (suc d) cs h c i = go (in_cases c h.0 (candidates S.field tries h.1) (subst (In c) (sym h.4) i)) (place_small tries d h.0 h.2 c)
    where
      go : In c h.0 ⊎ In c (candidates S.field tries h.1) → (In c h.0 → IsSmallInvariant d c) → IsSmallInvariant (suc d) c
      go (inl j) before = small_more d c (before j)
      go (inr j) before = let a = each_candidate S gens (suc d) h.1 h.3 c (in_taken tries (all_candidates S.field h.1) c j) in
          record { degree = suc d; positive = omega arith; low = omega arith; form = a.0; not_zero = a.1 }

  module _ (tries : ℕ) (T : List (Vect S.field)) (first : FirstPrimaries S gens tries T) where
    pub first_small : (c : Vect S.field) → In c T → IsSmallInvariant first.degree c
    first_small = taken_each S.field (IsSmallInvariant first.degree) [] first.passed T (λ c i. absurd i) (λ c i. place_small tries first.degree (first.passed ++ first.rest) first.places c (in_left c first.passed first.rest i)) first.taken

    pub first_regular : Regular S.field T
    first_regular = taken_regular S.field [] first.passed T (regular_nothing S.field) first.taken

    pub first_invariant : All (Invariant S.field gens) T
    first_invariant = in_all (Invariant S.field gens) T (λ c i. (first_small c i).form.invariant)

    pub first_forms : (ds : List ℕ) × ArePositiveForms S.field (length S.weights) ds T
    first_forms = let r = degrees T first_small in (r.0, record { forms = r.1; variables = in_all (InVariables S.field (length S.weights)) T (λ c i. (first_small c i).form.variables); positive = r.2 })
      where
        degrees : (U : List (Vect S.field)) → ((c : Vect S.field) → In c U → IsSmallInvariant first.degree c) → (ds : List ℕ) × AreForms S.field (replicate (length S.weights) 1) ds U × AllPositive ds
        degrees [] h = ([], tt, tt)
        degrees (c ∷ U) h = let r = degrees U (λ x i. h x (inr i)) in let a = h c (inl refl) in (a.degree ∷ r.0, (a.form.form, r.1), (a.positive, r.2))

  module _ (l : Limits) (some : 0 < length S.weights) where
    -- the candidates that are passed, one after another
    pub record Places (d : ℕ) (T : List (Vect S.field)) : Type 0 where
      pub candidates : List (Vect S.field)
      pub places : ArePlaces S gens l.tries d candidates
      pub passed : Passes S l.max_basis [] candidates T

    pub places_passed : (d : ℕ) (T : List (Vect S.field)) → PassesDegrees S gens l d T → Places d T
    places_passed zero T h = record { candidates = []; places = refl; passed = h }
    places_passed (suc d) T h =
        let r = places_passed d h.0 h.2 in
        let cs = candidates S.field l.tries h.1 in
        record { candidates = r.candidates ++ cs; places = (r.candidates, h.1, r.places, h.4, refl); passed = passes_append S l.max_basis [] r.candidates h.0 cs T r.passed h.5 }

    -- the end of a search gives the first primary invariants
    pub end_first : (θ : List (Vect S.field)) → IsEnd S gens l θ → FirstPrimaries S gens l.tries θ
    end_first θ h =
        let c = h.comes in
        let p = places_passed c.degree c.before c.passed in
        let cs = candidates S.field l.tries c.basis in
        let front = p.candidates ++ c.reaches.front in
        let walked = passes_append S l.max_basis [] p.candidates c.before c.reaches.front h.taken p.passed c.reaches.walked in
        record {
          degree = suc c.degree;
          passed = front ++ h.candidate ∷ [];
          rest = c.reaches.back;
          places = (
            p.candidates,
            c.basis,
            p.places,
            c.echelon,
            ap (λ x. p.candidates ++ x) (sym c.reaches.place)
                ∙ sym (append_assoc p.candidates c.reaches.front (h.candidate ∷ c.reaches.back)) ∙ sym (append_assoc front (h.candidate ∷ []) c.reaches.back),
          );
          taken = taken_append S.field [] front h.taken (h.candidate ∷ []) θ (passes_taken S l.max_basis [] front h.taken walked) (inl (h.takes.nonzerodivisor, sym h.whole));
          ended = h.ended;
          first = λ f b U e m t.
              let r = shorter_front f b front h.candidate e m in
              passes_unended S l.max_basis [] front h.taken (not_ended S.field (length S.weights) [] (nothing_ended S some [] refl)) walked f r.0 U r.1 t;
        }
