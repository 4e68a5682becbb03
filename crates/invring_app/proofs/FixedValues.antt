-- The values of the fixed members of a kernel, as polynomials in the variables alone.
use Rattle.std.proofs.Common.{◌≡◌, ◌∙◌, ◌+◌, ◌≤◌, ℕ, List, [], ◌∷◌, length, replicate, refl, sym, ap, subst, arith}
use Rattle.std.specs.Prelude.{All}
use Rattle.std.proofs.lemmas.List.{length-append}
use Rattle.std.proofs.lemmas.List.Elements.{All-nil, All-cons}
use Rattle.alg_core.specs.BlockOrder.{length_ones}
use Rattle.alg_core.specs.Fields.{FieldOn, Has}
use Rattle.alg_core.specs.Keys.{key}
use Rattle.alg_core.specs.PolynomialSpaces.{marked_space, plain_space}
use Rattle.alg_core.proofs.PolynomialSpaces.{plain_constants}
use Rattle.alg_core.specs.SpaceGrading.{height}
use Rattle.alg_core.specs.Spaces.{SpaceOver, Fits, IsPlace, entries}
use Rattle.alg_core.specs.Vectors.{Entry}
use Rattle.alg_core.specs.declared.term.Term.{Term}
use Rattle.poly_module.specs.Combinations.{mark_value}
use Rattle.poly_module.specs.Degrees.{IsHomogeneous}
use Rattle.poly_module.specs.Forms.{IsForm, homogeneous_form}
use Rattle.poly_module.specs.Parts.{InVariables}
use Rattle.invring_app.specs.KernelValues.{IsSmallMember}
use Rattle.invring_app.proofs.OverPlain.{plain_is}
use Rattle.poly_module.specs.SpaceVectors.{HasPolynomials, IsPoly, IsPolyOf, vector_of, vectors_of}
use Rattle.poly_module.proofs.ExponentBounds.{fits_keys}
use Rattle.poly_module.proofs.SpaceVectorLaws.{is_polynomial}
use Rattle.finite_certificate.proofs.ModuleTerms.{weight_variables}
use Rattle.primary_module.specs.PrimaryModules.{IsLowPoly}
use Rattle.secondary_gens.specs.Forms.{unit_weights, IsSmallForm}
use Rattle.syzygy_kernel.specs.declared.member.Member.{Member}
use Rattle.invring_app.specs.FoundPrimaries.{IsPlain, IsMarkedBeside}
use Rattle.invring_app.specs.NarrowTerms.{AreNarrow}
use Rattle.invring_app.proofs.SmallForms.{small_form}

abbrev Terms : Type 0
Terms = List (Term ℕ (List ℕ))

-- over the space with marks itself
module _ (S : SpaceOver ℕ) (ds : List ℕ) where
  abbrev M : SpaceOver ℕ
  M = marked_space S.field (length S.weights) ds

  many : length M.weights ≡ length S.weights + length ds
  many = length-append (replicate (length S.weights) 1) ds ∙ ap (λ m. m + length ds) (length_ones (length S.weights))

  narrow_in : (f : Terms) → IsPoly M (λ m. m) f → InVariables S.field (length S.weights) (vector_of S (λ m. m) f) → AreNarrow S.field (length S.weights) f
  unfolding key
  narrow_in f h v = record {
    values = values (entries (λ m. m) f) h.fits;
    long = long (entries (λ m. m) f) h.fits;
    unmarked = fits_keys M (λ t. length t.1.0 ≤ length S.weights) (entries (λ m. m) f) h.fits v;
    position = h.position;
  }
    where
      values : (es : List (Entry ℕ)) → Fits M es → All (λ e. Has S.field e.1) es
      values [] f = All-nil (λ e. Has S.field e.1)
      values (e ∷ es) f = All-cons (λ e. Has S.field e.1) e es f.0.has (values es f.2)

      long : (es : List (Entry ℕ)) → Fits M es → All (λ e. length S.weights ≤ length e.0.1) es
      long [] f = All-nil (λ e. length S.weights ≤ length e.0.1)
      long (e ∷ es) f = All-cons (λ e. length S.weights ≤ length e.0.1) e es (let w = f.0.place.wide in let m = many in omega arith) (long es f.2)

  -- a form in the variables
  form_in : (d : ℕ) (f : Terms) → IsPoly M (λ m. m) f → InVariables S.field (length S.weights) (vector_of S (λ m. m) f) → IsHomogeneous M d (vector_of S (λ m. m) f) → IsForm S.field (unit_weights S) d (vector_of S (λ m. m) f)
  unfolding height
  form_in d f h v homogeneous t c =
      let w = homogeneous_form M refl d (vector_of S (λ m. m) f) (is_polynomial M (λ m. m) f h) homogeneous t c in
      (w.0, sym (weight_variables (length S.weights) ds 0 t.1.0 (v t c)) ∙ w.1)

module _ (S M : SpaceOver ℕ) (n : ℕ) (ds : List ℕ) (beside : IsMarkedBeside S M n ds) where
  down : (Q : SpaceOver ℕ → ℕ → Type 0) → Q M n → Q (marked_space S.field (length S.weights) ds) (length S.weights)
  down Q h = subst (λ i. Q (marked_space S.field (length S.weights) ds) i) beside.variables (subst (λ U. Q U n) beside.is h)

  -- the value of a member, without marks
  module _ (f : Terms) (low : IsLowPoly M f) (variables : InVariables M.field n (vector_of M (λ m. m) f)) where
    poly : IsPoly (marked_space S.field (length S.weights) ds) (λ m. m) f
    poly = down (λ U i. IsPoly U (λ m. m) f) low.poly

    short : InVariables S.field (length S.weights) (vector_of S (λ m. m) f)
    short = down (λ U i. InVariables U.field i (vector_of U (λ m. m) f)) variables

    pub is_narrow : AreNarrow S.field (length S.weights) f
    is_narrow = narrow_in S ds f poly short

    pub value_form : (d : ℕ) → d ≤ 12288 → IsHomogeneous M d (vector_of M (λ m. m) f) → (p : Terms) → IsPolyOf S (λ m. m) (vector_of S (λ m. m) f) p → IsSmallForm S p
    value_form d small h p made = small_form S d p small (record { fits = made.fits; position = made.position })
        (subst (IsForm S.field (unit_weights S) d) (sym made.is) (form_in S ds d f poly short (down (λ U i. IsHomogeneous U d (vector_of U (λ m. m) f)) h)))

    pub value_down : (θ : List Terms) (u : Terms) → vector_of M (λ m. m) f ≡ mark_value M.field n (vectors_of M (λ m. m) θ) (vector_of M (λ m. m) u)
        → vector_of S (λ m. m) f ≡ mark_value S.field (length S.weights) (vectors_of S (λ m. m) θ) (vector_of S (λ m. m) u)
    value_down θ u e = down (λ U i. vector_of U (λ m. m) f ≡ mark_value U.field i (vectors_of U (λ m. m) θ) (vector_of U (λ m. m) u)) e

-- the members as they are given
pub low_member : (M : SpaceOver ℕ) (m : Member ℕ) → IsSmallMember M m → IsLowPoly M m.u
low_member M m h =
    let homogeneous = h.homogeneous in
    let low = homogeneous.1 in
    record { poly = h.polynomial; low = λ t c. let d = homogeneous.2 t c in omega arith }

plain_constants_in : (k : FieldOn ℕ) (n : ℕ) → HasPolynomials (plain_space k n)
plain_constants_in k n = record { constants = subst (λ i. IsPlace (plain_space k n) (0, replicate i 0)) (sym (length_ones n)) (plain_constants k n) }

pub plain_polynomials : (S : SpaceOver ℕ) → IsPlain S → HasPolynomials S
plain_polynomials S h = subst HasPolynomials (sym (plain_is S h)) (plain_constants_in S.field (length S.weights))
