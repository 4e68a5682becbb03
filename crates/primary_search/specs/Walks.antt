-- The walk for the first primary invariants: candidate by candidate, and each nonzerodivisor modulo those taken before is taken.
--
--   Taken k T cs U               from the list T, the walk along the candidates cs takes U
--   ArePlaces S gens tries d cs  cs are the candidates of the degrees 1 to d, one after another
--   FirstPrimaries S gens tries T   T is what is taken up to the first place at which each variable has a power in its ideal
use Rattle.std.specs.Prelude.{◌≡◌, ◌⊎◌, ◌<◌, ℕ, zero, suc, List, [], ◌∷◌, ◌++◌, length}
use Rattle.alg_core.specs.Fields.{FieldOn}
use Rattle.alg_core.specs.Spaces.{SpaceOver}
use Rattle.alg_core.specs.Vectors.{Vect}
use Rattle.lin_algebra.specs.declared.matrix.Matrix.{Matrix}
use Rattle.invariant_space.specs.InvariantSpaces.{IsEchelonBasis}
use Rattle.finite_certificate.specs.Ideals.{Nonzerodivisor, Ended}
use Rattle.primary_search.specs.Candidates.{candidates}

-- a nonzerodivisor is taken, another candidate passed over
abbrev pub Taken : {E : Type 0} (k : FieldOn E) → List (Vect k) → List (Vect k) → List (Vect k) → Type 0
Taken k T [] U = U ≡ T
Taken k T (c ∷ cs) U = (Nonzerodivisor k T c × Taken k (T ++ c ∷ []) cs U) ⊎ ((¬ Nonzerodivisor k T c) × Taken k T cs U)

module _ {E : Type 0} (S : SpaceOver E) (gens : List (Matrix E)) (tries : ℕ) where
  abbrev pub ArePlaces : ℕ → List (Vect S.field) → Type 0
  ArePlaces zero cs = cs ≡ []
  ArePlaces (suc d) cs = (before : List (Vect S.field)) × (bs : List (Vect S.field)) × ArePlaces d before
      × IsEchelonBasis S gens (suc d) bs × (before ++ candidates S.field tries bs ≡ cs)

  pub record FirstPrimaries (T : List (Vect S.field)) : Type 0 where
    pub degree : ℕ
    pub passed : List (Vect S.field)
    pub rest : List (Vect S.field)
    pub places : ArePlaces degree (passed ++ rest)
    pub taken : Taken S.field [] passed T
    pub ended : Ended S.field (length S.weights) T
    pub first : (front back U : List (Vect S.field)) → front ++ back ≡ passed → 0 < length back → Taken S.field [] front U → ¬ Ended S.field (length S.weights) U
