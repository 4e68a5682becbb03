-- Division by vectors: sums of multiples of them whose leads are bounded, and remainders.
--
--   EachLead S g P l        the lead of each multiple in l, of a member of the family g, satisfies P
--   IsSum S g P v           v is a sum of multiples, by a scalar and a monomial, of members of g; their leads satisfy P
--   IsSumBelow S g t v      v is such a sum, and each lead is smaller than t
--   IsSumUpTo S g t v       v is such a sum, and no lead is greater than t
--   IsRemainder S g v r     no key of r is a multiple of the lead of a member, and v is r and a sum of multiples of members
--                           with no lead greater than that of v; the remainder of 0 is 0
--   KeepsDegrees S v r      r is homogeneous of each degree of which v is, and each bound of the degrees of v is one for r
use Rattle.std.specs.Prelude.{◌≡◌, ℕ, List}
use Rattle.std.specs.declared.cmp.Ordering.TheVariants.{Less}
use Rattle.alg_core.specs.Fields.{Scalar, scalars}
use Rattle.alg_core.specs.Monomials.{Mon}
use Rattle.alg_core.specs.Keys.{Key, times_key, KeyDivides}
use Rattle.alg_core.specs.Lists.{In}
use Rattle.alg_core.specs.Vectors.{Vect, coef_at, plus, zero_vector}
use Rattle.alg_core.specs.Spaces.{SpaceOver}
use Rattle.alg_core.specs.SpaceOrder.{key_order}
use Rattle.poly_module.specs.Modules.{LeadBy, summands}
use Rattle.poly_module.specs.Degrees.{IsHomogeneous}
use Rattle.poly_module.specs.SpaceVectors.{IsUpTo}

module _ {E : Type 0} (S : SpaceOver E) where
  module _ (g : ℕ → Vect S.field) where
    -- the leads of the multiples
    abbrev pub EachLead : (Key → Type 0) → List (Scalar S.field × Mon × ℕ) → Type 0
    EachLead P l = (e : Scalar S.field × Mon × ℕ) (s : Key) → In e l → LeadBy S.field (key_order S) (g e.2) s → P (times_key e.1 s)

    -- a sum of multiples whose leads satisfy P
    pub record IsSum (P : Key → Type 0) (v : Vect S.field) : Type 0 where
      pub multiples : List (Scalar S.field × Mon × ℕ)
      pub leads : EachLead P multiples
      pub is : summands S.field g multiples ≡ v

    abbrev pub IsSumBelow : Key → Vect S.field → Type 0
    IsSumBelow t = IsSum (λ s. (key_order S).compare s t ≡ Less)

    abbrev pub IsSumUpTo : Key → Vect S.field → Type 0
    IsSumUpTo t = IsSum (λ s. ¬ ((key_order S).compare t s ≡ Less))

    -- what division by the members leaves of v
    pub record IsRemainder (v r : Vect S.field) : Type 0 where
      pub irreducible : (i : ℕ) (s t : Key) → LeadBy S.field (key_order S) (g i) s → ¬ (coef_at S.field r t ≡ (scalars S.field).zero) → ¬ KeyDivides s t
      pub sum : (t : Key) → LeadBy S.field (key_order S) v t → (w : Vect S.field) × IsSumUpTo t w × (plus S.field r w ≡ v)
      pub zero : v ≡ zero_vector S.field → r ≡ zero_vector S.field

  -- homogeneous where v is, and of no greater degree
  pub record KeepsDegrees (v r : Vect S.field) : Type 0 where
    pub homogeneous : (d : ℕ) → IsHomogeneous S d v → IsHomogeneous S d r
    pub bound : (d : ℕ) → IsUpTo S d v → IsUpTo S d r
