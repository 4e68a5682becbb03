-- Standard monomials of an ideal, and the coordinates of a polynomial by them.
--
--   IsStandard k n θ m              the monomial m is the lead of no element of the ideal of θ, by degree reverse lexicographic
--                                   order of n variables
--   IsStandardForm k n θ u          the part in the first n variables of each key of u is standard
--   IsLeadMultiple k o gs t         the lead by the order o of some member of gs divides the key t
--   LeadsDivide k o U gs            the members of gs lie in the set U, and the lead of each element of U is a multiple of theirs
--   Rise n B                        the lists of n exponents rise by that order
--   AreStandardMonomials k n θ B    B are the standard monomials in n variables, by their exponents and rising
--   IsOverRank k n θ m              there are more than m of them: some m + 1
--   IsCoordinates k n θ f u         u is a polynomial in n variables and the marks of θ with the value f, and a standard form
--   CoordinatesAreUnique k n θ      a polynomial has at most one list of coordinates
--   CoordinatesExist k n θ          each polynomial in n variables has coordinates
--   MarksAreIndependent k n θ       no polynomial in the marks alone but 0 has the value 0
use Rattle.std.specs.Prelude.{◌≡◌, ◌+◌, ◌≤◌, ℕ, List, [], ◌∷◌, All, length, replicate}
use Rattle.std.specs.declared.cmp.Ordering.TheVariants.{Less}
use Rattle.alg_core.specs.Fields.{FieldOn}
use Rattle.alg_core.specs.Monomials.{Mon, monomials, mono, exponents}
use Rattle.alg_core.specs.MonomialParts.{variable_part}
use Rattle.alg_core.specs.PolynomialSpaces.{plain_space}
use Rattle.alg_core.specs.DpOrder.{dp_compare}
use Rattle.alg_core.specs.Keys.{Key, KeyDivides}
use Rattle.alg_core.specs.KeyOrders.{OrderOn}
use Rattle.alg_core.specs.Lists.{In}
use Rattle.alg_core.specs.Vectors.{Vect, zero_vector}
use Rattle.alg_core.specs.SpaceOrder.{key_order}
use Rattle.poly_module.specs.Parts.{Supp, IsPolynomial, InVariables}
use Rattle.poly_module.specs.Modules.{LeadBy}
use Rattle.poly_module.specs.Combinations.{mark_value}
use Rattle.poly_module.specs.Marks.{IsMixed}
use Rattle.finite_certificate.specs.Ideals.{InIdeal}

-- by the order of n variables
abbrev pub Rise : ℕ → List (List ℕ) → Type 0
Rise n [] = Unit {0}
Rise n (a ∷ B) = ((b : List ℕ) → In b B → dp_compare (replicate n 1) (0, a) (0, b) ≡ Less) × Rise n B

module _ {E : Type 0} (k : FieldOn E) (o : OrderOn Key) where
  -- a multiple of the lead of a member
  abbrev pub IsLeadMultiple : List (Vect k) → Key → Type 0
  IsLeadMultiple gs t = (g : Vect k) × In g gs × (s : Key) × LeadBy k o g s × KeyDivides s t

  -- elements whose leads divide the leads of all
  pub record LeadsDivide (U : Vect k → Type 0) (gs : List (Vect k)) : Type 0 where
    pub elements : (g : Vect k) → In g gs → U g
    pub divided : (f : Vect k) (t : Key) → U f → LeadBy k o f t → IsLeadMultiple gs t

module _ {E : Type 0} (k : FieldOn E) (n : ℕ) (θ : List (Vect k)) where
  -- the lead of no element of the ideal
  abbrev pub IsStandard : Mon → Type 0
  IsStandard m = (f : Vect k) → InIdeal k θ f → ¬ LeadBy k (key_order (plain_space k n)) f (0, m)

  abbrev pub IsStandardForm : Vect k → Type 0
  IsStandardForm u = Supp k (λ t. IsStandard (variable_part n t.1)) u

  pub record AreStandardMonomials (B : List (List ℕ)) : Type 0 where
    pub wide : All (λ a. length a ≡ n) B
    pub rising : Rise n B
    pub standard : All (λ a. IsStandard (mono a)) B
    pub all : (m : Mon) → length m.0 ≤ n → IsStandard m → In (exponents n m.0) B

  pub record IsOverRank (m : ℕ) : Type 0 where
    pub some : List (List ℕ)
    pub wide : All (λ a. length a ≡ n) some
    pub rising : Rise n some
    pub standard : All (λ a. IsStandard (mono a)) some
    pub count : length some ≡ m + 1

  pub record IsCoordinates (f u : Vect k) : Type 0 where
    pub mixed : IsMixed k n (length θ) u
    pub standard : IsStandardForm u
    pub value : mark_value k n θ u ≡ f

  abbrev pub CoordinatesAreUnique : Type 0
  CoordinatesAreUnique = (f u v : Vect k) → IsCoordinates f u → IsCoordinates f v → u ≡ v

  abbrev pub CoordinatesExist : Type 0
  CoordinatesExist = (f : Vect k) → IsPolynomial k f → InVariables k n f → (u : Vect k) × IsCoordinates f u

  abbrev pub MarksAreIndependent : Type 0
  MarksAreIndependent = (u : Vect k) → IsMixed k n (length θ) u → Supp k (λ t. variable_part n t.1 ≡ monomials.one) u
      → mark_value k n θ u ≡ zero_vector k → u ≡ zero_vector k
