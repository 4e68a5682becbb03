-- How `basis` ends at a problem.
--
--   IsSpaceOf q S           the space of the polynomials of the problem q: over its field, in its variables, each of degree 1,
--                           by degree reverse lexicographic order
--   AreMatricesOf q ms      the generators of q, in their order
--   AreNamesOf q names      the variables of q
--   IsBasisText q d text    the lines of the echelon basis of the homogeneous invariants of degree d of the generators of q
--   count_of d q            how many monomials of degree d there are in the variables of q
--   IsBasisBound d l q f    the degree d has more of them than the limit allows, and f names d and their number
--   IsBoundTold d m q e     e names d and their number, which is over m, or it is want of memory
--   IsBasisAnswer d l q text   it has not, and the text is that of the basis
use Rattle.std.specs.Prelude.{◌≡◌, ℕ, ◌<◌, ◌≤◌, List, [], ◌∷◌, map, replicate, All, None}
use Rattle.alg_core.specs.Binomials.{monomials_of_degree}
use Rattle.alg_core.specs.DpOrder.{dp_order}
use Rattle.alg_core.specs.Spaces.{SpaceOver, Fits}
use Rattle.alg_core.specs.Vectors.{Entry, vec}
use Rattle.alg_core.specs.declared.limits.Limits.{Limits}
use Rattle.prime_field.specs.PrimeFields.{IsPrimeField}
use Rattle.lin_algebra.specs.declared.matrix.Matrix.{Matrix}
use Rattle.poly_text.specs.declared.names.Names.{Names}
use Rattle.invariant_space.specs.InvariantSpaces.{IsEchelonBasis}
use Rattle.finvar_text.specs.Problems.{Problem, variable_count}
use Rattle.invariant_space.specs.declared.fault.SpaceFault.{SpaceFault}
use Rattle.invariant_space.specs.declared.fault.SpaceFault.TheVariants as spaces
use Rattle.invring_app.specs.Lines.{polynomial_lines}
use Rattle.invring_app.specs.declared.status.BoundFault.{BoundFault}
use Rattle.invring_app.specs.declared.status.BoundFault.TheVariants.{TermBound}

pub record IsSpaceOf (q : Problem) (S : SpaceOver ℕ) : Type 0 where
  pub field : IsPrimeField q.characteristic S.field
  pub order : S.order ≡ dp_order (replicate (variable_count q) 1)
  pub weights : S.weights ≡ replicate (variable_count q) 1
  pub shifts : S.shifts ≡ 0 ∷ []

abbrev pub AreMatricesOf : Problem → List (Matrix ℕ) → Type 0
AreMatricesOf q ms =
    map {B = ℕ × ℕ × List ℕ} (λ (m : Matrix ℕ). (m.rows, m.cols, m.cells.items)) ms
    ≡ map {B = ℕ × ℕ × List ℕ} (λ (cells : List ℕ). (variable_count q, variable_count q, cells)) q.generators

pub record AreNamesOf (q : Problem) (names : Names) : Type 0 where
  pub vars : names.vars ≡ q.variables
  pub primaries : names.primaries ≡ None
  pub irreducibles : names.irreducibles ≡ None

pub record IsBasisText (q : Problem) (d : ℕ) (text : List ℕ) : Type 0 where
  pub space : SpaceOver ℕ
  pub matrices : List (Matrix ℕ)
  pub names : Names
  pub basis : List (List (Entry ℕ))
  pub is_space : IsSpaceOf q space
  pub are_matrices : AreMatricesOf q matrices
  pub are_names : AreNamesOf q names
  pub fit : All (Fits space) basis
  pub polynomials : All (λ es. All (λ e. e.0.0 ≡ 0) es) basis
  pub echelon : IsEchelonBasis space matrices d (map (vec space.field) basis)
  pub is_text : text ≡ polynomial_lines [] space names basis

abbrev pub count_of : ℕ → Problem → ℕ
count_of d q = monomials_of_degree (variable_count q) d

abbrev pub IsBasisBound : ℕ → Limits → Problem → BoundFault → Type 0
IsBasisBound d l q f = (f ≡ TermBound d (count_of d q)) × (l.max_terms < count_of d q)

abbrev pub IsBasisAnswer : ℕ → Limits → Problem → List ℕ → Type 0
IsBasisAnswer d l q text = (count_of d q ≤ l.max_terms) × IsBasisText q d text

abbrev pub IsBoundTold : ℕ → ℕ → Problem → SpaceFault → Type 0
IsBoundTold d m q (spaces.TermBound degree count) = (degree ≡ d) × (count ≡ count_of d q) × (m < count_of d q)
IsBoundTold d m q spaces.Memory = Unit {0}
