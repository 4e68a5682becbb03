-- Secondary invariants are complete, and there is one list of them.
use Rattle.std.proofs.Common.{◌≡◌, ◌⊎◌, inl, inr, ℕ, zero, suc, ◌<◌, ◌≤◌, List, [], ◌∷◌, ◌++◌, length, get_or, refl, sym, ap, ap₂, subst, ◌∙◌, arith, append_assoc, append-nil}
use Rattle.std.specs.Prelude.{All}
use Rattle.std.proofs.lemmas.Bool.{cases_lt}
use Rattle.alg_core.specs.Keys.{Key}
use Rattle.alg_core.specs.Lists.{In, in_left, in_right}
use Rattle.alg_core.specs.SpaceOrder.{key_order}
use Rattle.alg_core.specs.Spaces.{SpaceOver}
use Rattle.alg_core.specs.Vectors.{Vect, vectors, plus, zero_vector}
use Rattle.alg_core.proofs.Members.{in_cases}
use Rattle.alg_core.proofs.SpanLaws.{span_ind}
use Rattle.poly_module.specs.Combinations.{Over}
use Rattle.poly_module.specs.Degrees.{IsGraded, graded_part, graded_part_supp, graded_map, parts_below, parts_sum, grade_bound}
use Rattle.poly_module.specs.Forms.{key_weight, form_part, form_part_form}
use Rattle.poly_module.specs.Parts.{IsPolynomial, InVariables, supp_single}
use Rattle.poly_module.specs.Polynomials.{single_vector}
use Rattle.poly_module.specs.Walks.{Keeps}
use Rattle.poly_module.proofs.CombinationLaws.{over_zero, over_plus, over_act}
use Rattle.poly_module.proofs.WalkLaws.{keeps_unique}
use Rattle.lin_algebra.specs.declared.matrix.Matrix.{Matrix}
use Rattle.lin_algebra.specs.Matrices.{entries}
use Rattle.matrix_group.specs.Actions.{act_by, IsSquare, Invariant}
use Rattle.matrix_group.proofs.ActionLaws.{act_linear, act_form}
use Rattle.invariant_space.specs.InvariantSpaces.{IsEchelonBasis, IsInvariantForm}
use Rattle.invariant_space.proofs.EchelonBasis.{echelon_basis_unique}
use Rattle.secondary_gens.specs.Forms.{unit_weights}
use Rattle.secondary_gens.specs.Secondaries.{IsComplete, AreBases, AreSecondaries}
use Rattle.secondary_gens.proofs.WalkSteps.{keeps_none, walked_over}

-- a walk along one list after another
pub keeps_split : {A : Type 0} (Skips : List A → A → Type 0) (kept xs ys all : List A) → Keeps Skips kept (xs ++ ys) all → (mid : List A) × Keeps Skips kept xs mid × Keeps Skips mid ys all
keeps_split Skips kept [] ys all h = (kept, refl, h)
keeps_split Skips kept (x ∷ xs) ys all (inl h) = let r = keeps_split Skips kept xs ys all h.1 in (r.0, inl (h.0, r.1), r.2)
keeps_split Skips kept (x ∷ xs) ys all (inr h) = let r = keeps_split Skips (kept ++ x ∷ []) xs ys all h.1 in (r.0, inr (h.0, r.1), r.2)

module _ {E : Type 0} (S : SpaceOver E) (gens : List (Matrix E)) where
  abbrev grade : Key → ℕ
  grade = key_weight (unit_weights S)

  -- the parts of an invariant are invariant
  module _ (square : All (IsSquare S.field (length S.weights)) gens) (f : Vect S.field) (polynomial : IsPolynomial S.field f) (variables : InVariables S.field (length S.weights) f) where
    part_by : (d : ℕ) (m : Matrix E) → IsSquare S.field (length S.weights) m → act_by S.field m f ≡ f → act_by S.field m (form_part S.field (unit_weights S) d f) ≡ form_part S.field (unit_weights S) d f
    part_by d m q e = sym moved ∙ ap (graded_part S.field grade d) e
      where
        each : (t : Key) → (t.0 ≡ 0) × (length t.1.0 ≤ length S.weights) → IsGraded S.field grade (grade t) (act_by S.field m (single_vector S.field t))
        each t p s n = (act_form S.field m.rows (entries S.field m) (length S.weights) (let r = q.rows in omega arith) (grade t) (single_vector S.field t)
            (supp_single S.field (λ u. length u.1.0 ≤ length S.weights) t p.1) (supp_single S.field (λ u. (u.0 ≡ 0) × (grade u ≡ grade t)) t (p.0, refl)) s n).1

        moved : graded_part S.field grade d (act_by S.field m f) ≡ act_by S.field m (graded_part S.field grade d f)
        moved = subst (λ e. graded_part S.field grade e (act_by S.field m f) ≡ act_by S.field m (graded_part S.field grade d f)) (omega arith)
            (graded_map S.field grade grade 0 (act_by S.field m) (act_linear S.field m.rows (entries S.field m)) (λ t. (t.0 ≡ 0) × (length t.1.0 ≤ length S.weights))
            (λ t p. subst (λ e. IsGraded S.field grade e (act_by S.field m (single_vector S.field t))) (omega arith) (each t p)) d f (λ t n. (polynomial t n, variables t n)))

    pub part_invariant : Invariant S.field gens f → (d : ℕ) → IsInvariantForm S.field (length S.weights) gens d (form_part S.field (unit_weights S) d f)
    part_invariant fixed d = record {
      form = form_part_form S.field (unit_weights S) d f polynomial;
      variables = graded_part_supp S.field grade d (λ t. length t.1.0 ≤ length S.weights) f variables;
      invariant = λ i m l. part_by d (get_or gens i m) (square i m l) (fixed i m l);
    }

  -- what spans the bases below a degree spans the forms below it
  bases_over : (θ T : List (Vect S.field)) (b : ℕ) (fs : List (Vect S.field)) → AreBases S gens b fs → ((x : Vect S.field) → In x fs → Over S.field θ T x) → (d : ℕ) (f : Vect S.field) → d < b
      → IsInvariantForm S.field (length S.weights) gens d f → Over S.field θ T f
  unfolding plus zero_vector
  bases_over θ T zero fs h each d f l a = absurd (omega arith)
  bases_over θ T (suc b) fs h each d f l a = go (cases_lt d b) (bases_over θ T b h.0 h.2 (λ x i. each x (subst (In x) (sym h.4) (in_left x h.0 h.1 i))) d f)
    where
      last : (x : Vect S.field) → In x h.1 → Over S.field θ T x
      last x i = each x (subst (In x) (sym h.4) (in_right x h.0 h.1 i))

      spanned : IsInvariantForm S.field (length S.weights) gens b f → Over S.field θ T f
      spanned form = span_ind (vectors S.field) (Over S.field θ T) (over_zero S.field θ T) (λ u v x y. over_plus S.field θ T u v x y) (over_act S.field θ T) h.1 last f (h.3.spans f form)

      go : (d < b) ⊎ (b ≤ d) → (d < b → IsInvariantForm S.field (length S.weights) gens d f → Over S.field θ T f) → Over S.field θ T f
      go (inl q) below = below q a
      go (inr q) below = spanned (let same : d ≡ b = omega arith in subst (λ e. IsInvariantForm S.field (length S.weights) gens e f) same a)

  module _ (θ T : List (Vect S.field)) (h : AreSecondaries S gens θ T) where
    forms_over : (d : ℕ) (f : Vect S.field) → IsInvariantForm S.field (length S.weights) gens d f → Over S.field θ T f
    forms_over d f a = go (cases_lt d h.bound)
      where
        go : (d < h.bound) ⊎ (h.bound ≤ d) → Over S.field θ T f
        go (inl l) = bases_over θ T h.bound h.forms h.bases (λ x i. walked_over S.field θ [] h.forms T h.kept x i) d f l a
        go (inr l) = h.later d f l a

    -- each invariant is the sum of its parts
    pub secondaries_complete : All (IsSquare S.field (length S.weights)) gens → IsComplete S.field (length S.weights) gens θ T
    secondaries_complete square f polynomial variables fixed =
        let b = grade_bound S.field grade (key_order S) f in
        subst (Over S.field θ T) (parts_sum S.field grade b.0 f b.1) (below b.0)
      where
        below : (n : ℕ) → Over S.field θ T (parts_below S.field grade n f)
        below zero = over_zero S.field θ T
        below (suc n) = over_plus S.field θ T _ _ (below n) (forms_over n _ (part_invariant square f polynomial variables fixed n))

  -- the bases are one list
  bases_unique : (d : ℕ) (fs gs : List (Vect S.field)) → AreBases S gens d fs → AreBases S gens d gs → fs ≡ gs
  bases_unique zero fs gs a b = a ∙ sym b
  bases_unique (suc d) fs gs a b = a.4 ∙ ap₂ ◌++◌ (bases_unique d a.0 b.0 a.2 b.2) (echelon_basis_unique S gens d a.1 b.1 a.3 b.3) ∙ sym b.4

  -- the bases below a degree, and those from it on
  record Split (e : ℕ) (fs : List (Vect S.field)) : Type 0 where
    pub front : List (Vect S.field)
    pub more : List (Vect S.field)
    pub bases : AreBases S gens e front
    pub is : fs ≡ front ++ more
    pub late : (x : Vect S.field) → In x more → (c : ℕ) × (e ≤ c) × IsInvariantForm S.field (length S.weights) gens c x

  split_none : (e d : ℕ) (fs : List (Vect S.field)) → e ≡ d → AreBases S gens d fs → Split e fs
  split_none e d fs same h = record { front = fs; more = []; bases = subst (λ c. AreBases S gens c fs) (sym same) h; is = sym (append-nil fs); late = λ x i. absurd i }

  split_more : (e d : ℕ) (fs below basis : List (Vect S.field)) → e ≤ d → IsEchelonBasis S gens d basis → fs ≡ below ++ basis → Split e below → Split e fs
  split_more e d fs below basis l b is s = record {
    front = s.front;
    more = s.more ++ basis;
    bases = s.bases;
    is = is ∙ ap (λ l. l ++ basis) s.is ∙ append_assoc s.front s.more basis;
    late = λ x i. member x (in_cases x s.more basis i);
  }
    where
      member : (x : Vect S.field) → In x s.more ⊎ In x basis → (c : ℕ) × (e ≤ c) × IsInvariantForm S.field (length S.weights) gens c x
      member x (inl i) = s.late x i
      member x (inr i) = (d, l, b.reduced.inside x i)

  split_bases : (e d : ℕ) (fs : List (Vect S.field)) → e ≤ d → AreBases S gens d fs → Split e fs
  split_bases e zero fs l h = split_none e zero fs (omega arith) h
  split_bases e (suc d) fs l h = go (cases_lt d e) (λ q. split_bases e d h.0 q h.2)
    where
      go : (d < e) ⊎ (e ≤ d) → (e ≤ d → Split e h.0) → Split e fs
      go (inl q) s = split_none e (suc d) fs (omega arith) h
      go (inr q) s = split_more e d fs h.0 h.1 q h.3 h.4 (s q)

  -- past the lower bound the walk with the higher one keeps nothing
  one_below : (θ T U : List (Vect S.field)) (h : AreSecondaries S gens θ T) (g : AreSecondaries S gens θ U) → h.bound ≤ g.bound → T ≡ U
  one_below θ T U h g l =
      let s = split_bases h.bound g.bound g.forms l g.bases in
      let w = keeps_split (Over S.field θ) [] s.front s.more U (subst (λ fs. Keeps (Over S.field θ) [] fs U) s.is g.kept) in
      let same : w.0 ≡ T = keeps_unique (Over S.field θ) [] h.forms w.0 T (subst (λ fs. Keeps (Over S.field θ) [] fs w.0) (bases_unique h.bound s.front h.forms s.bases h.bases) w.1) h.kept in
      keeps_unique (Over S.field θ) T s.more T U (keeps_none (Over S.field θ) T s.more (λ x i. let c = s.late x i in h.later c.0 x c.1 c.2)) (subst (λ m. Keeps (Over S.field θ) m s.more U) same w.2)

  -- there is one list of secondary invariants
  pub secondaries_unique : (θ T U : List (Vect S.field)) → AreSecondaries S gens θ T → AreSecondaries S gens θ U → T ≡ U
  secondaries_unique θ T U h g = go (cases_lt h.bound g.bound)
    where
      go : (h.bound < g.bound) ⊎ (g.bound ≤ h.bound) → T ≡ U
      go (inl l) = one_below θ T U h g (omega arith)
      go (inr l) = sym (one_below θ U T g h l)
