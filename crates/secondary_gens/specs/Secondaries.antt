-- Secondary invariants: what they are to do, and which are chosen. θ are primary invariants, in n variables.
--
--   IsComplete k n gens θ S      each polynomial that each generator fixes, homogeneous or not, is a combination over θ and S
--   IsRedundant k θ S j          the member of S at the place j, from 0, is a combination over θ and the others
--   IsIrredundant k θ S          no member is
--   IsFirstRedundant k θ S i     the place i, from 1, is the first whose member is
--   AreBases S gens d fs         fs are the echelon bases of the invariants of the degrees 0, 1, .., d - 1, one after another
--   AreSecondaries S gens θ T    T are the secondary invariants: along these bases, up to some degree, each form is kept that is
--                                no combination over θ and those kept before it; and every invariant form of a later degree is one
--                                over θ and T, so that no member of a later basis would be kept
--   IsPastBound S ps m d         some polynomial of ps other than 0 has the degree d, which has more than m monomials
--   IsFirstPast S ps m d         d is the least such degree
--   IsDegreeIn ps d              d is the degree of a polynomial of ps other than 0
use Rattle.std.specs.Prelude.{◌≡◌, ◌≢◌, ◌≤◌, ◌<◌, ◌+◌, ℕ, zero, suc, List, [], ◌++◌, length, remove}
use Rattle.alg_core.specs.Binomials.{monomials_of_degree}
use Rattle.alg_core.specs.Fields.{FieldOn}
use Rattle.alg_core.specs.Lists.{In}
use Rattle.alg_core.specs.Spaces.{SpaceOver}
use Rattle.alg_core.specs.Vectors.{Vect}
use Rattle.alg_core.specs.declared.term.Term.{Term}
use Rattle.poly_module.specs.Combinations.{Over}
use Rattle.poly_module.specs.Modules.{listed}
use Rattle.poly_module.specs.Parts.{IsPolynomial, InVariables}
use Rattle.poly_module.specs.Walks.{Keeps}
use Rattle.lin_algebra.specs.declared.matrix.Matrix.{Matrix}
use Rattle.matrix_group.specs.Actions.{Invariant}
use Rattle.invariant_space.specs.InvariantSpaces.{IsEchelonBasis, IsInvariantForm}
use Rattle.secondary_gens.specs.Forms.{degree_of}

module _ {E : Type 0} (k : FieldOn E) where
  -- every invariant is a combination
  abbrev pub IsComplete : ℕ → List (Matrix E) → List (Vect k) → List (Vect k) → Type 0
  IsComplete n gens θ S = (f : Vect k) → IsPolynomial k f → InVariables k n f → Invariant k gens f → Over k θ S f

  -- the member at a place is a combination of the others
  abbrev pub IsRedundant : List (Vect k) → List (Vect k) → ℕ → Type 0
  IsRedundant θ S j = Over k θ (remove S j) (listed k S j)

  -- no member is
  abbrev pub IsIrredundant : List (Vect k) → List (Vect k) → Type 0
  IsIrredundant θ S = (j : ℕ) → j < length S → ¬ IsRedundant θ S j

  -- the first place, from 1, whose member is
  pub record IsFirstRedundant (θ S : List (Vect k)) (i : ℕ) : Type 0 where
    pub place : ℕ
    pub counted : i ≡ place + 1
    pub within : place < length S
    pub redundant : IsRedundant θ S place
    pub first : (j : ℕ) → j < place → ¬ IsRedundant θ S j

module _ {E : Type 0} (S : SpaceOver E) (gens : List (Matrix E)) where
  -- the bases of the degrees below d
  abbrev pub AreBases : ℕ → List (Vect S.field) → Type 0
  AreBases zero fs = fs ≡ []
  AreBases (suc d) fs = (below : List (Vect S.field)) × (basis : List (Vect S.field)) × AreBases d below × IsEchelonBasis S gens d basis × (fs ≡ below ++ basis)

  -- kept along the bases of the degrees below some bound; past it nothing would be kept
  pub record AreSecondaries (θ T : List (Vect S.field)) : Type 0 where
    pub bound : ℕ
    pub forms : List (Vect S.field)
    pub bases : AreBases bound forms
    pub kept : Keeps (Over S.field θ) [] forms T
    pub later : (d : ℕ) (f : Vect S.field) → bound ≤ d → IsInvariantForm S.field (length S.weights) gens d f → Over S.field θ T f

-- the degree of a polynomial other than 0
abbrev pub IsDegreeIn : {E : Type 0} → List (List (Term E (List ℕ))) → ℕ → Type 0
IsDegreeIn {E} ps d = (p : List (Term E (List ℕ))) × In p ps × (p ≢ []) × (degree_of p ≡ d)

module _ {E : Type 0} (S : SpaceOver E) (ps : List (List (Term E (List ℕ)))) (m : ℕ) where
  -- such a degree with more than m monomials
  pub record IsPastBound (d : ℕ) : Type 0 where
    pub degree : IsDegreeIn ps d
    pub past : m < monomials_of_degree (length S.weights) d

  -- the least such degree
  pub record IsFirstPast (d : ℕ) : Type 0 where
    pub past : IsPastBound d
    pub least : (e : ℕ) → IsPastBound e → d ≤ e
