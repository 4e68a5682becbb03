-- S-vectors: what is left of the least common multiple of two leads, and when a pair of vectors is treated.
--
--   IsMonicMultiple S v t l u   u is the multiple of v by a scalar and a monomial that has the lead coefficient 1 and the lead l,
--                           where t is the lead of v
--   IsSVector S a b v       v is the S-vector of a and b, whose leads have one position: with l the least common multiple of
--                           the leads, the multiple of a with lead l and lead coefficient 1, less that of b
--   IsTreated S g i j       where the leads of the members i and j of the family g have one position, their S-vector is a sum
--                           of multiples of members whose leads are all smaller than the common multiple of the two
--   IsBadPair S vs i j      the S-vector of the members i and j of the list, from 1, has a remainder that is not 0
use Rattle.std.specs.Prelude.{◌≡◌, ◌-◌, ◌<◌, ◌≤◌, ℕ, List, length}
use Rattle.alg_core.specs.Fields.{Scalar, scalars}
use Rattle.alg_core.specs.Monomials.{Mon}
use Rattle.alg_core.specs.Keys.{Key, times_key}
use Rattle.alg_core.specs.CommonMultiples.{common_multiple}
use Rattle.alg_core.specs.Vectors.{Vect, vectors, coef_at, plus, zero_vector, shift}
use Rattle.alg_core.specs.Spaces.{SpaceOver}
use Rattle.alg_core.specs.SpaceOrder.{key_order}
use Rattle.poly_module.specs.Modules.{LeadBy, listed}
use Rattle.module_groebner.specs.Remainders.{IsSumBelow, IsRemainder}

module _ {E : Type 0} (S : SpaceOver E) where
  pub record IsMonicMultiple (v : Vect S.field) (t l : Key) (u : Vect S.field) : Type 0 where
    pub factor : Scalar S.field
    pub monomial : Mon
    pub lead : LeadBy S.field (key_order S) v t
    pub monic : (scalars S.field).◌*◌ factor (coef_at S.field v t) ≡ (scalars S.field).one
    pub reaches : times_key monomial t ≡ l
    pub is : u ≡ (vectors S.field).◌·◌ factor (shift S.field monomial v)

  pub record IsSVector (a b v : Vect S.field) : Type 0 where
    pub left : Key
    pub right : Key
    pub position : left.0 ≡ right.0
    pub left_multiple : Vect S.field
    pub right_multiple : Vect S.field
    pub is_left : IsMonicMultiple a left (common_multiple left right) left_multiple
    pub is_right : IsMonicMultiple b right (common_multiple left right) right_multiple
    pub difference : plus S.field v right_multiple ≡ left_multiple

  abbrev pub IsTreated : (ℕ → Vect S.field) → ℕ → ℕ → Type 0
  IsTreated g i j = (s t : Key) → LeadBy S.field (key_order S) (g i) s → LeadBy S.field (key_order S) (g j) t → s.0 ≡ t.0
      → (v : Vect S.field) × IsSVector (g i) (g j) v × IsSumBelow S g (common_multiple s t) v

  pub record IsBadPair (vs : List (Vect S.field)) (i j : ℕ) : Type 0 where
    pub first : 1 ≤ i
    pub rising : i < j
    pub last : j ≤ length vs
    pub s_vector : Vect S.field
    pub remainder : Vect S.field
    pub is_s_vector : IsSVector (listed S.field vs (i - 1)) (listed S.field vs (j - 1)) s_vector
    pub is_remainder : IsRemainder S (listed S.field vs) s_vector remainder
    pub not_zero : ¬ (remainder ≡ zero_vector S.field)
