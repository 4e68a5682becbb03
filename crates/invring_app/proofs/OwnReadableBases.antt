-- Reduced bases of modules with no element above a cap: the lifts and the members of a kernel have no degree over it.
use Rattle.std.proofs.Common.{◌≡◌, ◌∙◌, ℕ, suc, ◌*◌, ◌≤◌, Bool, true, false, List, [], ◌∷◌, length, map, replicate, refl, sym, ap, subst, inl, inr, arith}
use Rattle.std.specs.Prelude.{All, if◌then◌else◌}
use native.Mathlib.Decide.{dec_le}
use Rattle.alg_core.specs.Fields.{FieldOn}
use Rattle.alg_core.specs.Keys.{Key}
use Rattle.alg_core.specs.Lists.{In}
use Rattle.alg_core.specs.PolynomialSpaces.{plain_space, marked_space}
use Rattle.alg_core.specs.SpaceGrading.{height, degree}
use Rattle.alg_core.specs.SpaceOrder.{key_order}
use Rattle.alg_core.specs.Spaces.{SpaceOver}
use Rattle.alg_core.specs.Vectors.{Vect, coef_at}
use Rattle.poly_module.specs.Combinations.{IsCombination, mark_value}
use Rattle.poly_module.specs.Degrees.{IsHomogeneous}
use Rattle.poly_module.specs.Forms.{IsForm, form_homogeneous}
use Rattle.poly_module.specs.GreatestExponents.{total}
use Rattle.poly_module.specs.Modules.{LeadBy}
use Rattle.poly_module.specs.Parts.{IsPolynomial}
use Rattle.poly_module.specs.ReducedLists.{IsReducedBasisOf}
use Rattle.poly_module.proofs.CombinationLaws.{combination_value_form}
use Rattle.lin_algebra.specs.declared.matrix.Matrix.{Matrix}
use Rattle.matrix_group.specs.Actions.{IsSquare, Invariant}
use Rattle.module_groebner.specs.BasisBounds.{NothingAbove}
use Rattle.module_groebner.specs.HomogeneousLists.{IsHomogeneousUpTo}
use Rattle.module_groebner.proofs.BasisLaws.{member_above}
use Rattle.finite_certificate.specs.Ideals.{InIdeal, Regular}
use Rattle.finite_certificate.specs.MarkSpaces.{ArePositiveForms}
use Rattle.finite_certificate.specs.StandardMonomials.{AreStandardMonomials}
use Rattle.finite_certificate.proofs.PowerForms.{forms_count}
use Rattle.groebner_hom.specs.IdealBases.{NoIdealAbove}
use Rattle.groebner_hom.specs.Lifts.{AreLifts}
use Rattle.groebner_hom.proofs.RelationsAbove.{nothing_with_marks, some_of_forms}
use Rattle.poly_module.specs.Marks.{relations}
use Rattle.syzygy_kernel.specs.Graphs.{InGraph, copies, graph_space, last_part, last_value, part_values}
use Rattle.syzygy_kernel.specs.Kernels.{AreKernel, AreListedAs, fixed_values, polynomial_of}
use Rattle.syzygy_kernel.specs.declared.member.Member.{Member}
use Rattle.syzygy_kernel.proofs.FixedMembers.{homogeneous}
use Rattle.syzygy_kernel.proofs.KernelDegrees.{listed_degrees}
use Rattle.syzygy_kernel.proofs.LastParts.{value_of_last}
use Rattle.syzygy_kernel.proofs.PartValues.{part_forms}
use Rattle.cert_check.proofs.MadeLifts.{is_mark_space, lift_form}

-- a member of a reduced basis of homogeneous vectors
module _ (S : SpaceOver ℕ) (U : Vect S.field → Type 0) (vs : List (Vect S.field)) (reduced : IsReducedBasisOf S U vs)
    (graded : (v : Vect S.field) → In v vs → (d : ℕ) × IsHomogeneous S d v) (cap : ℕ) (none : NothingAbove S U cap) where
  by-lead : (v : Vect S.field) (t : Key) → In v vs → LeadBy S.field (key_order S) v t → IsHomogeneous S (degree S t) v
  unfolding coef_at
  by-lead v t i lead = let h = graded v i in subst (λ (d : ℕ). IsHomogeneous S d v) (sym (h.1 t lead.there)) h.1

  pub basis-low : (v : Vect S.field) → In v vs → IsHomogeneousUpTo S cap v
  unfolding coef_at
  basis-low v i = go (dec_le (graded v i).0 cap)
    where
      go : Dec ((graded v i).0 ≤ cap) → IsHomogeneousUpTo S cap v
      go (yes low) = ((graded v i).0, low, (graded v i).1)
      go (no over) =
          let l = reduced.reduced.lead v i in
          let e = (graded v i).1 l.0 l.1.there in
          absurd (none v l.0 (member_above S U cap vs reduced by-lead v l.0 i l.1 (omega arith)))

module _ (k : FieldOn ℕ) (n : ℕ) (ds : List ℕ) (θ : List (Vect k)) (primaries : ArePositiveForms k n ds θ) where
  abbrev M : SpaceOver ℕ
  M = marked_space k n ds

  -- the lifts
  module _ (regular : Regular k θ) (vs : List (Vect k)) (lifts : AreLifts (marked_space k n ds) n θ vs) (polynomial : (v : Vect k) → In v vs → IsPolynomial k v)
      (cap : ℕ) (none : NoIdealAbove (plain_space k n) θ cap) where
    graded-lift : (v : Vect k) → In v vs → (d : ℕ) × IsHomogeneous (marked_space k n ds) d v
    unfolding height
    graded-lift v i = let f = lift_form k n ds θ primaries vs lifts v i (polynomial v i) in (f.degree, form_homogeneous M refl f.degree v f.form)

    pub lift-low : (v : Vect k) → In v vs → IsHomogeneousUpTo (marked_space k n ds) cap v
    lift-low = basis-low M (InIdeal k (relations k n θ)) vs lifts graded-lift cap
        (λ v t a. some_of_forms M n ds θ (is_mark_space k n ds) primaries regular cap v t a (nothing_with_marks M n ds θ (is_mark_space k n ds) primaries cap none))

  -- a kernel
  module _ (gens : List (Matrix ℕ)) (fixed : All (Invariant k gens) θ) (square : All (IsSquare k n) gens) (B : List (List ℕ)) (standard : AreStandardMonomials k n θ B)
      (ms : List (Member ℕ)) (kernel : AreKernel k n ds θ gens B ms) (cap : ℕ) (none : NothingAbove (graph_space k ds (length gens) B) (InGraph k θ gens B) cap) where
    abbrev G : SpaceOver ℕ
    G = graph_space k ds (length gens) B

    graph-low : (w : Vect k) → In w kernel.basis → IsHomogeneousUpTo (graph_space k ds (length gens) B) cap w
    graph-low = basis-low G (InGraph k θ gens B) kernel.basis kernel.reduced (homogeneous k θ gens B n ds primaries fixed square standard ms kernel) cap none

    placed : (w : Vect k) → In w kernel.basis → IsCombination k (length ds) (suc (length gens) * length B) w
    placed w i =
        let e = forms_count k (replicate n 1) ds θ primaries.forms in
        subst (λ (r : ℕ). IsCombination k r (suc (length gens) * length B) w) e (kernel.reduced.reduced.inside w i).positions

    pub members-low : All (λ (m : Member ℕ). IsHomogeneousUpTo (marked_space k n ds) cap (polynomial_of k m)) ms
    members-low = listed_degrees M n ds (is_mark_space k n ds) gens B standard.wide cap kernel.basis ms kernel.listed_as (λ w i. (placed w i, graph-low w i))

    -- the values of its fixed members
    value-from : (ws : List (Vect k)) (ls : List (Member ℕ)) → AreListedAs k n gens B ws ls → (v : Vect k) → In v (fixed_values k n θ ls)
        → (w : Vect k) × In w ws × (mark_value k n θ (last_part k n gens B w) ≡ v)
    value-from [] [] h v i = absurd i
    value-from [] (l ∷ ls) h v i = absurd h
    value-from (w ∷ ws) [] h v i = absurd h
    value-from (w ∷ ws) (l ∷ ls) h v i = go l.is_fixed (λ j. let r = value-from ws ls h.1 v j in (r.0, inr r.1, r.2)) i
      where
        go : (b : Bool) → (In v (fixed_values k n θ ls) → (x : Vect k) × In x (w ∷ ws) × (mark_value k n θ (last_part k n gens B x) ≡ v))
            → In v (if b then mark_value k n θ (polynomial_of k l) ∷ fixed_values k n θ ls else fixed_values k n θ ls)
            → (x : Vect k) × In x (w ∷ ws) × (mark_value k n θ (last_part k n gens B x) ≡ v)
        go true later (inl e) = (w, inl refl, ap (mark_value k n θ) (sym h.0.last) ∙ e)
        go true later (inr j) = later j
        go false later j = later j

    last-form : (d : ℕ) (w : Vect k) → In w kernel.basis → IsHomogeneous (graph_space k ds (length gens) B) d w → IsForm k (replicate n 1) d (last_value k θ gens B w)
    unfolding degree
    last-form d w i graded = combination_value_form k (replicate n 1) ds (copies (suc (length gens)) (map total B)) θ (part_values k B (suc (length gens)) (length gens)) primaries.forms
        (part_forms k n B standard.wide (suc (length gens)) (length gens)) d w graded (λ t c. ((kernel.reduced.reduced.inside w i).positions t c).0)

    pub value-low : (v : Vect k) → In v (fixed_values k n θ ms) → (d : ℕ) × (d ≤ cap) × IsForm k (replicate n 1) d v
    value-low v i =
        let r = value-from kernel.basis ms kernel.listed_as v i in
        let h = graph-low r.0 r.1 in
        (h.0, h.1, subst (IsForm k (replicate n 1) h.0) (sym (value_of_last k n gens B θ standard.wide r.0 (λ t c. ((kernel.reduced.reduced.inside r.0 r.1).positions t c).1)) ∙ r.2) (last-form h.0 r.0 r.1 h.2))
