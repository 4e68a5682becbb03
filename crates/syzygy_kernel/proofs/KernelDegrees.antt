-- The degrees of the polynomials of kernel evidence: a list of kernel evidence has no degree over a cap where the graph has nothing above it.
use Rattle.std.proofs.Common.{◌≡◌, ◌∙◌, inl, inr, ◌+◌, ◌-◌, ◌*◌, ◌<◌, ◌≤◌, ℕ, zero, suc, List, [], ◌∷◌, ◌++◌, length, map, replicate, refl, sym, ap, subst, arith, suc-mul}
use Rattle.std.specs.Prelude.{All}
use native.Mathlib.Decide.{dec_le}
use Rattle.alg_core.specs.Fields.{FieldOn, scalars, is_field}
use Rattle.alg_core.specs.Keys.{Key, key_same}
use Rattle.alg_core.specs.Leads.{has_lead, HasLead}
use Rattle.alg_core.specs.Lists.{In}
use Rattle.alg_core.specs.SpaceGrading.{degree, height, weight}
use Rattle.alg_core.specs.SpaceOrder.{key_order}
use Rattle.alg_core.specs.Spaces.{SpaceOver}
use Rattle.alg_core.specs.Vectors.{Vect, coef_at, zero_vector}
use Rattle.alg_core.proofs.VectorLaws.{coef_at_zero}
use Rattle.poly_module.specs.Caps.{IsAboveCap}
use Rattle.poly_module.specs.Combinations.{IsCombination, combination_degree, mark_value}
use Rattle.poly_module.specs.Degrees.{IsHomogeneous}
use Rattle.poly_module.specs.Forms.{IsForm, OfDegree, of_degree, form_homogeneous}
use Rattle.poly_module.specs.GreatestExponents.{total}
use Rattle.poly_module.specs.Parts.{supp_single, supp_weaken, supp_zero, linear_supp}
use Rattle.poly_module.specs.Polynomials.{single_vector}
use Rattle.poly_module.specs.SpaceVectors.{IsUpTo}
use Rattle.poly_module.specs.Substitutions.{substitute_zero}
use Rattle.poly_module.proofs.CombinationLaws.{combination_value_zero}
use Rattle.lin_algebra.specs.declared.matrix.Matrix.{Matrix}
use Rattle.matrix_group.specs.Actions.{IsSquare, Invariant}
use Rattle.module_groebner.specs.HomogeneousLists.{IsHomogeneousUpTo}
use Rattle.finite_certificate.specs.MarkSpaces.{ArePositiveForms, IsMarkSpace}
use Rattle.finite_certificate.specs.StandardMonomials.{AreStandardMonomials, CoordinatesAreUnique}
use Rattle.finite_certificate.proofs.PowerForms.{forms_count}
use Rattle.primary_module.proofs.Translations.{from_degree, from_single}
use Rattle.syzygy_kernel.specs.Graphs.{InGraph, copies, graph_space, last_part}
use Rattle.syzygy_kernel.specs.Kernels.{AreKernel, AreListedAs, IsListedAs, polynomial_of}
use Rattle.syzygy_kernel.specs.declared.member.Member.{Member}
use Rattle.syzygy_kernel.proofs.FixedMembers.{homogeneous}
use Rattle.syzygy_kernel.proofs.GraphBlocks.{graph_determined}
use Rattle.syzygy_kernel.proofs.GraphModules.{graph_restricted}
use Rattle.syzygy_kernel.proofs.LastParts.{last_linear, last_early, last_own, value_of_last}
use Rattle.syzygy_kernel.proofs.StackedDegrees.{place_height}

module _ {E : Type 0} (k : FieldOn E) (n : ℕ) (ds : List ℕ) (gens : List (Matrix E)) (B : List (List ℕ)) (wide : All (λ b. length b ≡ n) B) (d : ℕ) where
  abbrev W : List ℕ
  W = replicate n 1 ++ ds

  abbrev c : ℕ
  c = length gens

  abbrev GraphKey : Key → Type 0
  GraphKey t = (length t.1.0 ≤ length ds) × (t.0 < suc (length gens) * length B) × (combination_degree ds (copies (suc (length gens)) (map total B)) t ≡ d)

  last_key : (t : Key) → (length t.1.0 ≤ length ds) × (t.0 < suc (length gens) * length B) × (combination_degree ds (copies (suc (length gens)) (map total B)) t ≡ d)
      → IsForm k (replicate n 1 ++ ds) d (last_part k n gens B (single_vector k t))
  last_key t h = go (dec_le (length gens * length B) t.0)
    where
      go : Dec (length gens * length B ≤ t.0) → IsForm k (replicate n 1 ++ ds) d (last_part k n gens B (single_vector k t))
      go (no p) = subst (IsForm k (replicate n 1 ++ ds) d) (sym (last_early k n gens B t (omega arith))) (supp_zero k (OfDegree k (replicate n 1 ++ ds) d))
      go (yes p) =
          let low : t.0 - length gens * length B < length B = let l = h.1 in let s = suc-mul (length gens) (length B) in omega arith in
          let place : length gens * length B + (t.0 - length gens * length B) ≡ t.0 = omega arith in
          let same : height (map total B) (t.0 - length gens * length B) ≡ height (copies (suc (length gens)) (map total B)) t.0 =
          sym (place_height k n ds B wide (suc (length gens)) d (length gens) (t.0 - length gens * length B) (omega arith) low) ∙ ap (height (copies (suc (length gens)) (map total B))) place in
          subst (IsForm k (replicate n 1 ++ ds) d)
          (sym (last_own k n gens B t p ∙ sym (from_single k n B (t.0 - length gens * length B, t.1))))
          (from_degree k n B wide ds d (single_vector k (t.0 - length gens * length B, t.1))
          (supp_single k (λ s. (length s.1.0 ≤ length ds) × (s.0 < length B)) (t.0 - length gens * length B, t.1) (h.0, low))
          (supp_single k (λ s. combination_degree ds (map total B) s ≡ d) (t.0 - length gens * length B, t.1) (ap (λ (x : ℕ). weight ds 0 t.1.0 + x) same ∙ h.2)))

  -- the last part keeps the degree
  pub last_degree : (w : Vect k) → IsCombination k (length ds) (suc (length gens) * length B) w → IsHomogeneous (graph_space k ds (length gens) B) d w
      → IsForm k (replicate n 1 ++ ds) d (last_part k n gens B w)
  unfolding degree
  last_degree w positions graded = linear_supp k (last_part k n gens B) (last_linear k n gens B) GraphKey (OfDegree k (replicate n 1 ++ ds) d) (of_degree k (replicate n 1 ++ ds) d)
      last_key w (λ t e. ((positions t e).0, (positions t e).1, graded t e))

module _ {E : Type 0} (S : SpaceOver E) (n : ℕ) (ds : List ℕ) (space : IsMarkSpace S n ds) (gens : List (Matrix E)) (B : List (List ℕ)) (wide : All (λ b. length b ≡ n) B) (cap : ℕ) where
  -- the polynomials of the members that list homogeneous vectors are homogeneous
  pub listed_degrees : (ws : List (Vect S.field)) (ms : List (Member E)) → AreListedAs S.field n gens B ws ms
      → ((w : Vect S.field) → In w ws → IsCombination S.field (length ds) (suc (length gens) * length B) w × IsHomogeneousUpTo (graph_space S.field ds (length gens) B) cap w)
      → All (λ (m : Member E). IsHomogeneousUpTo S cap (polynomial_of S.field m)) ms
  listed_degrees [] [] h each i d l = absurd (omega arith)
  listed_degrees [] (m ∷ ms) h each i d l = absurd h
  listed_degrees (w ∷ ws) [] h each i d l = absurd h
  listed_degrees (w ∷ ws) (m ∷ ms) h each zero d l =
      let p = each w (inl refl) in (
        p.1.0,
        p.1.1,
        subst (IsHomogeneous S p.1.0) (sym h.0.last)
            (form_homogeneous S space.shift p.1.0 (last_part S.field n gens B w)
            (subst (λ (vs : List ℕ). IsForm S.field vs p.1.0 (last_part S.field n gens B w)) (sym space.weights) (last_degree S.field n ds gens B wide p.1.0 w p.0 p.1.2))),
      )
  listed_degrees (w ∷ ws) (m ∷ ms) h each (suc i) d l = listed_degrees ws ms h.1 (λ v j. each v (inr j)) i d (omega arith)

module _ {E : Type 0} (k : FieldOn E) (n : ℕ) (gens : List (Matrix E)) (B : List (List ℕ)) where
  -- the member that lists a vector
  listing : (ws : List (Vect k)) (ms : List (Member E)) → AreListedAs k n gens B ws ms → (w : Vect k) → In w ws → (m : Member E) × In m ms × IsListedAs k n gens B w m
  listing [] ms h w i = absurd i
  listing (v ∷ ws) [] h w i = absurd h
  listing (v ∷ ws) (m ∷ ms) h w (inl e) = (m, inl refl, subst (λ x. IsListedAs k n gens B x m) e h.0)
  listing (v ∷ ws) (m ∷ ms) h w (inr i) = let r = listing ws ms h.1 w i in (r.0, inr r.1, r.2)

module _ {E : Type 0} (S : SpaceOver E) (n : ℕ) (ds : List ℕ) (space : IsMarkSpace S n ds) (θ : List (Vect S.field)) (gens : List (Matrix E)) (B : List (List ℕ))
    (primaries : ArePositiveForms S.field n ds θ) (fixed : All (Invariant S.field gens) θ) (square : All (IsSquare S.field n) gens)
    (standard : AreStandardMonomials S.field n θ B) (unique : CoordinatesAreUnique S.field n θ) (ms : List (Member E)) (kernel : AreKernel S.field n ds θ gens B ms) where
  abbrev k : FieldOn E
  k = S.field

  abbrev G : SpaceOver E
  G = graph_space S.field ds (length gens) B

  -- a member of the basis whose last part is 0 is 0
  last_nonzero : (w : Vect S.field) → InGraph S.field θ gens B w → last_part S.field n gens B w ≡ zero_vector S.field → w ≡ zero_vector S.field
  last_nonzero w inside z =
      let R = graph_restricted k n ds θ primaries B standard.wide gens fixed square in
      graph_determined k n θ gens B standard unique w (zero_vector k) inside R.zero
      (sym (value_of_last k n gens B θ standard.wide w (λ t e. (inside.positions t e).1)) ∙ ap (mark_value k n θ) z ∙ substitute_zero k _ ∙ sym (combination_value_zero k θ _))

  module _ (cap : ℕ) (low : (m : Member E) → In m ms → IsUpTo S cap (polynomial_of S.field m)) where
    -- a member of the basis has no degree over the cap
    basis_low : (w : Vect S.field) → In w kernel.basis → IsUpTo (graph_space S.field ds (length gens) B) cap w
    unfolding zero_vector coef_at
    basis_low w i = go (dec_le h.0 cap)
      where
        h : (d : ℕ) × IsHomogeneous (graph_space S.field ds (length gens) B) d w
        h = homogeneous k θ gens B n ds primaries fixed square standard ms kernel w i

        inside : InGraph S.field θ gens B w
        inside = kernel.reduced.reduced.inside w i

        m : (m : Member E) × In m ms × IsListedAs S.field n gens B w m
        m = listing k n gens B kernel.basis ms kernel.listed_as w i

        form : IsHomogeneous S h.0 (last_part S.field n gens B w)
        form =
            let e = forms_count k (replicate n 1) ds θ primaries.forms in
            form_homogeneous S space.shift h.0 (last_part k n gens B w)
            (subst (λ (ws : List ℕ). IsForm k ws h.0 (last_part k n gens B w)) (sym space.weights)
            (last_degree k n ds gens B standard.wide h.0 w (λ t c. ((let l = (inside.positions t c).0 in omega arith), (inside.positions t c).1)) h.1))

        against : ¬ (h.0 ≤ cap) → HasLead (scalars S.field) (is_field S.field) key_same (key_order S) (last_part S.field n gens B w) → ⊥
        against over (inl z) =
            let l = kernel.reduced.reduced.lead w i in
            l.1.there (ap (λ (v : Vect k). coef_at k v l.0) (last_nonzero w inside z) ∙ coef_at_zero k l.0)
        against over (inr l) =
            let d = form l.0 l.1.there in
            let up = low m.0 m.1 l.0 (λ z. l.1.there (ap (λ (v : Vect k). coef_at k v l.0) (sym m.2.last) ∙ z)) in
            over (omega arith)

        go : Dec (h.0 ≤ cap) → IsUpTo (graph_space S.field ds (length gens) B) cap w
        go (yes p) = supp_weaken k (λ t. degree G t ≡ h.0) (λ t. degree G t ≤ cap) (λ t e. omega arith) w h.1
        go (no p) = absurd (against p (has_lead (scalars k) (is_field k) key_same (key_order S) (last_part k n gens B w)))

    pub nothing_over : (v : Vect S.field) (t : Key) → ¬ IsAboveCap (graph_space S.field ds (length gens) B) (InGraph S.field θ gens B) cap v t
    nothing_over v t a =
        let r = kernel.reduced.reduced.covers v t a.inside a.lead in
        a.new r.0 r.1 (kernel.reduced.reduced.inside r.0 r.2) (basis_low r.0 r.2) r.3 r.4
