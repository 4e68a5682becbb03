-- Irreducible generators: what they are to do, and which are chosen. θ are primary invariants, S secondary invariants.
--
--   IsOfPositiveDegree k ws f      f is homogeneous by the weights ws, of degree at least 1, and not 0
--   IsReducible k θ Q l            the member of Q at the place l, from 0, is a polynomial in θ and the other members
--   AreNeeded k θ Q                no member of Q is
--   IsFirstReducible k θ Q i       the place i, from 1, is the first whose member is
--   IsIrreducible k ws θ S Q       each member of Q is one of S of positive degree; each member of S is a polynomial in θ and Q;
--                                  no member of Q is a polynomial in θ and the others
--   member k S p                   the member of S at the place p, from 1
--   members k S ps                 the members at the places ps
--   numbers i n                    the numbers i, i + 1, .., i + n - 1
--   AreIrreducibles k θ S ps       ps are the places, from 1, of the irreducible generators: along S, the place of each member is
--                                  kept that is no polynomial in θ and the members at the places kept before it. (A constant is
--                                  a polynomial in anything: so those that are kept have a positive degree.)
use Rattle.std.specs.Prelude.{◌≡◌, ◌<◌, ◌+◌, ◌-◌, ℕ, zero, suc, List, [], ◌∷◌, length, map, remove}
use Rattle.alg_core.specs.Fields.{FieldOn}
use Rattle.alg_core.specs.Lists.{In}
use Rattle.alg_core.specs.Vectors.{Vect, zero_vector}
use Rattle.poly_module.specs.Forms.{IsForm}
use Rattle.poly_module.specs.Modules.{listed}
use Rattle.poly_module.specs.Walks.{Keeps}
use Rattle.irreducible_gens.specs.Algebras.{InAlgebra}

-- n numbers from i on
abbrev pub numbers : ℕ → ℕ → List ℕ
numbers i zero = []
numbers i (suc n) = i ∷ numbers (suc i) n

module _ {E : Type 0} (k : FieldOn E) where
  -- homogeneous, of positive degree, not 0
  pub record IsOfPositiveDegree (ws : List ℕ) (f : Vect k) : Type 0 where
    pub degree : ℕ
    pub positive : 0 < degree
    pub form : IsForm k ws degree f
    pub not_zero : ¬ (f ≡ zero_vector k)

  -- the member at a place, from 1
  abbrev pub member : List (Vect k) → ℕ → Vect k
  member S p = listed k S (p - 1)

  abbrev pub members : List (Vect k) → List ℕ → List (Vect k)
  members S ps = map (member S) ps

  module _ (θ : List (Vect k)) where
    -- the member at a place is a polynomial in the others
    abbrev pub IsReducible : List (Vect k) → ℕ → Type 0
    IsReducible Q l = InAlgebra k θ (remove Q l) (listed k Q l)

    -- no member is
    abbrev pub AreNeeded : List (Vect k) → Type 0
    AreNeeded Q = (l : ℕ) → l < length Q → ¬ IsReducible Q l

    -- the first place, from 1, whose member is
    pub record IsFirstReducible (Q : List (Vect k)) (i : ℕ) : Type 0 where
      pub place : ℕ
      pub counted : i ≡ place + 1
      pub within : place < length Q
      pub reducible : IsReducible Q place
      pub first : (l : ℕ) → l < place → ¬ IsReducible Q l

    -- generators of the algebra, none of them superfluous
    pub record IsIrreducible (ws : List ℕ) (S Q : List (Vect k)) : Type 0 where
      pub members : (q : Vect k) → In q Q → In q S × IsOfPositiveDegree ws q
      pub generate : (s : Vect k) → In s S → InAlgebra k θ Q s
      pub needed : AreNeeded Q

    -- the places that the walk along S keeps
    abbrev pub AreIrreducibles : List (Vect k) → List ℕ → Type 0
    AreIrreducibles S ps = Keeps (λ kept p. InAlgebra k θ (members S kept) (member S p)) [] (numbers 1 (length S)) ps
