-- An element of one degree of a module of homogeneous vectors is a sum of multiples of members that all have this degree.
use Rattle.std.proofs.Common.{◌≡◌, inl, inr, ℕ, ◌+◌, List, [], ◌∷◌, sym, ap, ap₂, ◌∙◌, subst}
use native.Mathlib.Decide.{ℕ_discrete}
use Rattle.alg_core.specs.Fields.{Scalar}
use Rattle.alg_core.specs.Monomials.{Mon}
use Rattle.alg_core.specs.Lists.{In}
use Rattle.alg_core.specs.Spaces.{SpaceOver}
use Rattle.alg_core.specs.SpaceOrder.{key_order}
use Rattle.alg_core.specs.SpaceGrading.{weight, degree}
use Rattle.alg_core.specs.Vectors.{Vect, vectors, plus, shift}
use Rattle.alg_core.proofs.VectorLaws.{zero_plus}
use Rattle.poly_module.specs.Parts.{supp_act}
use Rattle.poly_module.specs.Degrees.{IsHomogeneous, part, graded_part_plus, graded_part_zero, graded_part_all, graded_part_other}
use Rattle.poly_module.specs.Forms.{homogeneous_shift}
use Rattle.poly_module.specs.Modules.{InModule, summands}
use Rattle.poly_module.proofs.ModuleElements.{module_summands}

module _ {E : Type 0} (S : SpaceOver E) {I : Type 0} (g : I → Vect S.field) (d : I → ℕ) (homogeneous : (i : I) → IsHomogeneous S (d i) (g i)) where
  abbrev Summand : Type 0
  Summand = Scalar S.field × Mon × I

  -- the degree of a multiple of a member
  abbrev pub summand_degree : Summand → ℕ
  summand_degree e = weight S.weights 0 e.1.0 + d e.2

  -- those of degree n
  of_degree_by : (e : Summand) {P : Type 0} → Dec P → List Summand → List Summand
  of_degree_by e (yes p) l = e ∷ l
  of_degree_by e (no p) l = l

  of_degree : ℕ → List Summand → List Summand
  of_degree n [] = []
  of_degree n (e ∷ l) = of_degree_by e (ℕ_discrete (summand_degree e) n) (of_degree n l)

  in_of_degree : (n : ℕ) (l : List Summand) (e : Summand) → In e (of_degree n l) → summand_degree e ≡ n
  unfolding of_degree of_degree_by
  in_of_degree n [] e i = absurd i
  in_of_degree n (x ∷ l) e i = go (ℕ_discrete (summand_degree x) n) (in_of_degree n l e) i
    where
      go : (q : Dec (summand_degree x ≡ n)) → (In e (of_degree n l) → summand_degree e ≡ n) → In e (of_degree_by x q (of_degree n l)) → summand_degree e ≡ n
      go (yes p) ih (inl s) = ap summand_degree (sym s) ∙ p
      go (yes p) ih (inr j) = ih j
      go (no p) ih j = ih j

  summand_homogeneous : (e : Summand) → IsHomogeneous S (summand_degree e) ((vectors S.field).◌·◌ e.0 (shift S.field e.1 (g e.2)))
  summand_homogeneous e = supp_act S.field (λ t. degree S t ≡ summand_degree e) e.0 _ (homogeneous_shift S e.1 (d e.2) (g e.2) (homogeneous e.2))

  part_summands : (n : ℕ) (l : List Summand) → part S n (summands S.field g l) ≡ summands S.field g (of_degree n l)
  unfolding of_degree of_degree_by
  part_summands n [] = graded_part_zero S.field (degree S) n
  part_summands n (e ∷ l) = graded_part_plus S.field (degree S) n _ (summands S.field g l) ∙ go (ℕ_discrete (summand_degree e) n) (part_summands n l)
    where
      x : Vect S.field
      x = (vectors S.field).◌·◌ e.0 (shift S.field e.1 (g e.2))

      go : (q : Dec (summand_degree e ≡ n)) → part S n (summands S.field g l) ≡ summands S.field g (of_degree n l) → plus S.field (part S n x) (part S n (summands S.field g l)) ≡ summands S.field g (of_degree_by e q (of_degree n l))
      go (yes p) ih = ap₂ (plus S.field) (graded_part_all S.field (degree S) n x (subst (λ m. IsHomogeneous S m x) p (summand_homogeneous e))) ih
      go (no p) ih = ap₂ (plus S.field) (graded_part_other S.field (degree S) n (summand_degree e) (λ q. p (sym q)) x (summand_homogeneous e)) ih ∙ zero_plus S.field _

  -- a sum of multiples of this degree
  pub homogeneous_summands : (n : ℕ) (v : Vect S.field) → IsHomogeneous S n v → InModule S.field g v → (l : List (Scalar S.field × Mon × I)) × ((e : Scalar S.field × Mon × I) → In e l → weight S.weights 0 e.1.0 + d e.2 ≡ n) × (summands S.field g l ≡ v)
  homogeneous_summands n v h a =
      let r = module_summands S.field (key_order S) g v a in
      (of_degree n r.0, in_of_degree n r.0, sym (part_summands n r.0) ∙ ap (part S n) r.1 ∙ graded_part_all S.field (degree S) n v h)
