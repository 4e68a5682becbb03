-- How a search for the first primary invariants under limits comes to its end.
--
--   IsUnfinished k n T         some of the first n variables has no power in the ideal of the list T
--   Passes S cap T cs U        from the list T, the walk along the candidates cs takes U: no basis that it asks for has a
--                              member of a degree over the cap, and it does not end
--   Reaches S cap T cs U c     that walk comes to the candidate c, and U is what is taken before
--   Takes S cap T c            c is a nonzerodivisor modulo T, and its colon module has no member over the cap
--   IsStop S cap T cs b        that walk stops at a candidate since a basis that it asks for, that of its colon module or, where it
--                              is to be taken, of the ideal with it, has an element over the cap, as b names it
--   IsLast S cap T cs V        that walk ends at a candidate that is taken: each variable has a power in the ideal of V
--   PassesDegrees S gens l d T     the walk passes all candidates of the degrees up to d under the limits l, no degree has more
--                              monomials than are allowed, and T is what is taken
--   ComesTo S gens l T c       the walk comes to the candidate c, and T is what was taken before
--   IsNoPrimary S gens l T d   the search ends after the last degree d: T is taken, and some variable has no power in its ideal
--   IsTermBound S gens l d m   the search ends before the degree d, which has m monomials, more than are allowed
--   IsColonStop S gens l b     the search ends at a candidate whose colon module has an element over the cap, as b names it
--   IsIdealStop S gens l b     the search ends at a candidate that is to be taken, since the ideal with it has such an element
--   IsEnd S gens l θ           the search ends with a candidate that is taken: each variable has a power in the ideal of θ
use Rattle.std.specs.Prelude.{◌≡◌, ◌⊎◌, ◌<◌, ◌≤◌, ℕ, zero, suc, List, [], ◌∷◌, ◌++◌, length}
use Rattle.alg_core.specs.Binomials.{monomials_of_degree}
use Rattle.alg_core.specs.Fields.{FieldOn}
use Rattle.alg_core.specs.declared.limits.Limits.{Limits}
use Rattle.alg_core.specs.Vectors.{Vect}
use Rattle.alg_core.specs.Spaces.{SpaceOver}
use Rattle.lin_algebra.specs.declared.matrix.Matrix.{Matrix}
use Rattle.invariant_space.specs.InvariantSpaces.{IsEchelonBasis}
use Rattle.module_groebner.specs.declared.bound.BasisBound.{BasisBound}
use Rattle.finite_certificate.specs.Ideals.{InIdeal, Nonzerodivisor, variable_power, Ended}
use Rattle.groebner_hom.specs.Colons.{NoColonAbove, IsColonBound}
use Rattle.groebner_hom.specs.IdealBases.{NoIdealAbove, IsIdealBound}
use Rattle.primary_search.specs.Candidates.{candidates}

pub record IsUnfinished {E : Type 0} (k : FieldOn E) (n : ℕ) (T : List (Vect k)) : Type 0 where
  pub variable : ℕ
  pub within : variable < n
  pub powerless : (e : ℕ) → ¬ InIdeal k T (variable_power k variable e)

module _ {E : Type 0} (S : SpaceOver E) where
  module _ (cap : ℕ) where
    abbrev pub Passes : List (Vect S.field) → List (Vect S.field) → List (Vect S.field) → Type 0
    Passes T [] U = U ≡ T
    Passes T (c ∷ cs) U = NoColonAbove S T c cap
        × ((Nonzerodivisor S.field T c × NoIdealAbove S (T ++ c ∷ []) cap × (¬ Ended S.field (length S.weights) (T ++ c ∷ [])) × Passes (T ++ c ∷ []) cs U)
        ⊎ ((¬ Nonzerodivisor S.field T c) × Passes T cs U))

    pub record Reaches (T cs U : List (Vect S.field)) (c : Vect S.field) : Type 0 where
      pub front : List (Vect S.field)
      pub back : List (Vect S.field)
      pub place : front ++ c ∷ back ≡ cs
      pub walked : Passes T front U

    pub record Takes (T : List (Vect S.field)) (c : Vect S.field) : Type 0 where
      pub colon : NoColonAbove S T c cap
      pub nonzerodivisor : Nonzerodivisor S.field T c

    pub record IsStop (T cs : List (Vect S.field)) (b : BasisBound E) : Type 0 where
      pub taken : List (Vect S.field)
      pub candidate : Vect S.field
      pub reaches : Reaches T cs taken candidate
      pub bound : IsColonBound S taken candidate cap b ⊎ (Takes taken candidate × IsIdealBound S (taken ++ candidate ∷ []) cap b)

    pub record IsLast (T cs V : List (Vect S.field)) : Type 0 where
      pub taken : List (Vect S.field)
      pub candidate : Vect S.field
      pub reaches : Reaches T cs taken candidate
      pub takes : Takes taken candidate
      pub ideal : NoIdealAbove S V cap
      pub whole : taken ++ candidate ∷ [] ≡ V
      pub ended : Ended S.field (length S.weights) V

  module _ (gens : List (Matrix E)) (l : Limits) where
    abbrev pub PassesDegrees : ℕ → List (Vect S.field) → Type 0
    PassesDegrees zero T = T ≡ []
    PassesDegrees (suc d) T = (U : List (Vect S.field)) × (bs : List (Vect S.field)) × PassesDegrees d U
        × (monomials_of_degree (length S.weights) (suc d) ≤ l.max_terms) × IsEchelonBasis S gens (suc d) bs × Passes l.max_basis U (candidates S.field l.tries bs) T

    pub record ComesTo (T : List (Vect S.field)) (c : Vect S.field) : Type 0 where
      pub degree : ℕ
      pub before : List (Vect S.field)
      pub basis : List (Vect S.field)
      pub within : degree < l.max_degree
      pub passed : PassesDegrees degree before
      pub terms : monomials_of_degree (length S.weights) (suc degree) ≤ l.max_terms
      pub echelon : IsEchelonBasis S gens (suc degree) basis
      pub reaches : Reaches l.max_basis before (candidates S.field l.tries basis) T c

    pub record IsNoPrimary (found : List (Vect S.field)) (d : ℕ) : Type 0 where
      pub passed : PassesDegrees d found
      pub unfinished : IsUnfinished S.field (length S.weights) found
      pub degree : d ≡ l.max_degree

    pub record IsTermBound (d count : ℕ) : Type 0 where
      pub found : List (Vect S.field)
      pub before : ℕ
      pub next : suc before ≡ d
      pub within : d ≤ l.max_degree
      pub passed : PassesDegrees before found
      pub counted : count ≡ monomials_of_degree (length S.weights) d
      pub over : l.max_terms < count

    pub record IsColonStop (b : BasisBound E) : Type 0 where
      pub taken : List (Vect S.field)
      pub candidate : Vect S.field
      pub comes : ComesTo taken candidate
      pub bound : IsColonBound S taken candidate l.max_basis b

    pub record IsIdealStop (b : BasisBound E) : Type 0 where
      pub taken : List (Vect S.field)
      pub candidate : Vect S.field
      pub comes : ComesTo taken candidate
      pub takes : Takes l.max_basis taken candidate
      pub bound : IsIdealBound S (taken ++ candidate ∷ []) l.max_basis b

    pub record IsEnd (θ : List (Vect S.field)) : Type 0 where
      pub taken : List (Vect S.field)
      pub candidate : Vect S.field
      pub comes : ComesTo taken candidate
      pub takes : Takes l.max_basis taken candidate
      pub ideal : NoIdealAbove S θ l.max_basis
      pub whole : taken ++ candidate ∷ [] ≡ θ
      pub ended : Ended S.field (length S.weights) θ
