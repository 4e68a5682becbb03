-- The combination that is printed for a polynomial. θ are primary invariants of the degrees ds, S secondary invariants of the
-- degrees es. A term of a combination is a monomial in the marks at the position of a secondary invariant.
--
--   combination_space k ds es    the space of combinations: weighted dp, in which a position counts after the monomial
--   IsTermBefore k ds es s t     s and t have one degree, and s comes before t: at an earlier secondary invariant, or at the same
--                                and with a smaller monomial by weighted dp
--   IsPrintedCombination k ds es θ S f c   c is a combination with the value f, and the value of none of its terms lies in the
--                                span of the values of the terms of its degree that come before it
use Rattle.std.specs.Prelude.{◌≡◌, ◌<◌, ◌≤◌, ◌⊎◌, ℕ, List, length}
use Rattle.std.specs.declared.cmp.Ordering.TheVariants.{Less}
use Rattle.alg_core.specs.DpOrder.{dp_order}
use Rattle.alg_core.specs.Fields.{FieldOn}
use Rattle.alg_core.specs.Keys.{Key}
use Rattle.alg_core.specs.SpaceOrder.{key_order}
use Rattle.alg_core.specs.Spaces.{SpaceOver}
use Rattle.alg_core.specs.Vectors.{Vect}
use Rattle.poly_module.specs.Choices.{IsFirstChoice}
use Rattle.poly_module.specs.Combinations.{IsCombination, combination_degree, combination_value, term_value}

module _ {E : Type 0} (k : FieldOn E) (ds es : List ℕ) where
  -- the space of combinations
  abbrev pub combination_space : SpaceOver E
  combination_space = record { field = k; order = dp_order ds; weights = ds; shifts = es }

  -- of one degree, and before it
  pub record IsTermBefore (s t : Key) : Type 0 where
    pub variables : length s.1.0 ≤ length ds
    pub position : s.0 < length es
    pub degree : combination_degree ds es s ≡ combination_degree ds es t
    pub before : (s.0 < t.0) ⊎ ((s.0 ≡ t.0) × ((key_order combination_space).compare s t ≡ Less))

  -- the one combination with this value that uses first terms alone
  pub record IsPrintedCombination (θ S : List (Vect k)) (f c : Vect k) : Type 0 where
    pub combination : IsCombination k (length θ) (length S) c
    pub value : combination_value k θ S c ≡ f
    pub first : IsFirstChoice k (term_value k θ S) IsTermBefore c
