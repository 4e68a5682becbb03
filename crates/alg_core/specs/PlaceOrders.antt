-- Orders of places: what a term order is.
--
--   times_place m p     the monomial m times the place p
--   PlaceOrder          a total order on all places that multiplication keeps
--   FitsAt o p          the place fits the order
use Rattle.std.specs.Prelude.{◌≡◌, ◌≢◌, ℕ, Bool, true, List, length}
use Rattle.std.specs.declared.cmp.Ordering.{Ordering}
use Rattle.std.specs.declared.cmp.Ordering.TheVariants.{Less, Equal}
use Rattle.std.specs.Cmp.{IsTotalOrder}
use Rattle.alg_core.specs.ExponentLists.{product}
use Rattle.alg_core.specs.Keys.{TermPlace}

-- a monomial times a place: the position stays
abbrev pub times_place : List ℕ → TermPlace → TermPlace
times_place m p = (p.0, product m p.1)

-- A comparison of all places with the laws of a term order. Whether a place fits depends on its position and on
-- how many exponents it has.
pub record PlaceOrder : Type 0 where
  pub fits : ℕ → ℕ → Bool
  pub compare : TermPlace → TermPlace → Ordering
  pub is_positive : Bool
  pub total : IsTotalOrder compare
  pub tied : (p q : TermPlace) → compare p q ≡ Equal → p ≡ q
  -- it is kept when both places are multiplied by one monomial
  pub kept : (m : List ℕ) (p q : TermPlace) → length m ≡ length p.1 → length m ≡ length q.1 → compare (times_place m p) (times_place m q) ≡ compare p q
  -- at each position the monomials stand as at position 0
  pub alike : (i : ℕ) (a b : List ℕ) → compare (i, a) (i, b) ≡ compare (0, a) (0, b)
  -- a multiple is never smaller, where the order is positive
  pub no_smaller : is_positive ≡ true → (m : List ℕ) (p : TermPlace) → fits p.0 (length p.1) ≡ true → length m ≡ length p.1 → compare (times_place m p) p ≢ Less

-- the place fits the order
abbrev pub FitsAt : PlaceOrder → TermPlace → Type 0
FitsAt o p = o.fits p.0 (length p.1) ≡ true
