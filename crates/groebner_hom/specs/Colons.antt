-- The colon module of a polynomial f and polynomials θ: the pairs (p, h) for which p - h · f lies in the ideal of θ, the p at
-- position 0 and the h at position 1.
--
--   lifted k h                the polynomial h at position 1
--   colon k θ f               the generators of the colon module: (f, 1), and (g, 0) for each member g of θ
--   InColon k θ f v           v is an element of it
--   colon_space S d           the space of the polynomials of S at two positions, of the shifts 0 and d; its elimination order has
--                             the first position as first block and the weights of S
--   AreSecondParts k vs hs    hs are the h of the members (0, h) of the list vs, at position 0
--   IsPair k θ f v            v is such a pair
--   IsColonIdeal k θ f hs     hs generate the ideal of the h for which h · f lies in the ideal of θ
--   IsColonBasis S θ f cap d vs   the lists of terms vs are those of the reduced basis of the colon module over the space of the
--                             shift d, and no element of the module is above the cap
--   NoColonAbove S θ f cap    the colon module has no element above the cap, where f is homogeneous: its reduced basis has no
--                             member of a degree over it
--   KeepsLead S T p           a lead by the order of the space T of the vector with the terms p divides its lead by that of S
--   IsColonBound S θ f cap b  b names an element of the colon module above the cap, of the least degree
use Rattle.std.specs.Prelude.{◌≡◌, ◌↔◌, ℕ, List, [], ◌∷◌, map}
use Rattle.alg_core.specs.EliminationOrder.{elimination_order}
use Rattle.alg_core.specs.Fields.{FieldOn}
use Rattle.alg_core.specs.Keys.{Key, KeyDivides}
use Rattle.alg_core.specs.declared.term.Term.{Term}
use Rattle.alg_core.specs.SpaceOrder.{key_order}
use Rattle.alg_core.specs.Spaces.{SpaceOver}
use Rattle.alg_core.specs.Vectors.{Vect, plus}
use Rattle.poly_module.specs.Degrees.{IsHomogeneous}
use Rattle.poly_module.specs.Modules.{InModule, LeadBy, listed}
use Rattle.poly_module.specs.Parts.{IsPolynomial}
use Rattle.poly_module.specs.Polynomials.{product}
use Rattle.poly_module.specs.ReducedLists.{IsReducedBasisOf}
use Rattle.poly_module.specs.Signs.{minus}
use Rattle.poly_module.specs.SpaceVectors.{AreVectors, vector_of, vectors_of}
use Rattle.poly_module.specs.Substitutions.{position_vector}
use Rattle.module_groebner.specs.declared.bound.BasisBound.{BasisBound}
use Rattle.module_groebner.specs.declared.bound.Which.TheVariants.{Colon}
use Rattle.module_groebner.specs.BasisBounds.{NothingAbove, IsBasisBound}
use Rattle.module_groebner.specs.Eliminations.{AreEliminated}
use Rattle.module_groebner.specs.HomogeneousLists.{AreHomogeneousUpTo}
use Rattle.finite_certificate.specs.Ideals.{InIdeal}

module _ {E : Type 0} (k : FieldOn E) where
  -- a polynomial at position 1
  abbrev pub lifted : Vect k → Vect k
  lifted h = product k h (position_vector k)

  -- the members with no first part, as polynomials
  abbrev pub AreSecondParts : List (Vect k) → List (Vect k) → Type 0
  AreSecondParts vs hs = AreEliminated k 1 vs (map lifted hs)

  module _ (θ : List (Vect k)) (f : Vect k) where
    abbrev pub colon : List (Vect k)
    colon = plus k f (position_vector k) ∷ θ

    abbrev pub InColon : Vect k → Type 0
    InColon v = InModule k (listed k colon) v

    -- a pair (p, h) for which p - h · f lies in the ideal
    pub record IsPair (v : Vect k) : Type 0 where
      pub first : Vect k
      pub second : Vect k
      pub first_polynomial : IsPolynomial k first
      pub second_polynomial : IsPolynomial k second
      pub is : plus k first (lifted second) ≡ v
      pub inside : InIdeal k θ (minus k first (product k second f))

    -- the colon ideal
    abbrev pub IsColonIdeal : List (Vect k) → Type 0
    IsColonIdeal hs = (h : Vect k) → IsPolynomial k h → InIdeal k θ (product k h f) ↔ InIdeal k hs h

module _ {E : Type 0} (S : SpaceOver E) where
  abbrev pub colon_space : ℕ → SpaceOver E
  colon_space d = record { field = S.field; order = elimination_order 1 S.weights; weights = S.weights; shifts = 0 ∷ d ∷ [] }

  module _ (θ : List (Vect S.field)) (f : Vect S.field) (cap : ℕ) where
    -- its reduced basis, of degrees up to the cap
    pub record IsColonBasis (d : ℕ) (vs : List (List (Term E (List ℕ)))) : Type 0 where
      pub fit : AreVectors (colon_space d) (λ m. m) vs
      pub reduced : IsReducedBasisOf (colon_space d) (InColon S.field θ f) (vectors_of (colon_space d) (λ m. m) vs)
      pub homogeneous : AreHomogeneousUpTo (colon_space d) cap (vectors_of (colon_space d) (λ m. m) vs)
      pub within : NothingAbove (colon_space d) (InColon S.field θ f) cap

    abbrev pub NoColonAbove : Type 0
    NoColonAbove = (d : ℕ) → IsHomogeneous S d f → NothingAbove (colon_space d) (InColon S.field θ f) cap

    abbrev pub IsColonBound : BasisBound E → Type 0
    IsColonBound b = (d : ℕ) × IsHomogeneous S d f × IsBasisBound (colon_space d) (InColon S.field θ f) cap Colon b

-- leads by two orders
pub record KeepsLead {E : Type 0} (S T : SpaceOver E) (p : List (Term E (List ℕ))) : Type 0 where
  pub own : Key
  pub other : Key
  pub own_lead : LeadBy S.field (key_order S) (vector_of S (λ m. m) p) own
  pub other_lead : LeadBy T.field (key_order T) (vector_of T (λ m. m) p) other
  pub divides : KeyDivides other own
