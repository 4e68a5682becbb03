-- How far a completion is: what it has, what is still to treat, and a number that falls.
--
--   Progress E                how far a completion is: the weights and shifts of its degrees, its cap, its members, and the
--                             generators and pairs of members, by their places from 0, that are still to treat; only which
--                             they are counts, and not their order
--   lead_place es             the first place of a list of terms
--   is_multiple p es          whether the place p is a multiple of that
--   generator_degree c es     the degree of a generator, 0 for the generator 0
--   pair_degree c p           the degree of the least common multiple of the leads of a pair of members
--   IsLeast c d               what is still to treat has no degree below d
--   IsDone c                  nothing is still to treat
--   IsUnchanged c d           d is as far as c, with the same members and the same still to treat
--   undivided c               how many places of a degree of at most the cap are a multiple of the lead of no member
--   left c                    a number that falls with each treatment
use Rattle.std.specs.Prelude.{◌≡◌, ◌≤◌, ◌+◌, ◌*◌, ◌==◌, ◌&&◌, ℕ, Bool, false, not, List, [], ◌∷◌, All, filter, length, slice_index_or}
use Rattle.std.specs.List.{list_any}
use Rattle.alg_core.specs.ExponentLists.{lcm, divides}
use Rattle.alg_core.specs.Keys.{TermPlace}
use Rattle.alg_core.specs.Vectors.{Entry}
use Rattle.alg_core.specs.KeyLists.{place_degree, places_up_to}

pub record Progress (E : Type 0) : Type 0 where
  pub weights : List ℕ
  pub shifts : List ℕ
  pub cap : ℕ
  pub members : List (List (Entry E))
  pub generators : List (List (Entry E))
  pub pairs : List (ℕ × ℕ)

module _ {E : Type 0} where
  abbrev pub lead_place : List (Entry E) → TermPlace
  lead_place [] = (0, [])
  lead_place (e ∷ es) = e.0

  abbrev pub is_multiple : TermPlace → List (Entry E) → Bool
  is_multiple p [] = false
  is_multiple p (e ∷ es) = (e.0.0 == p.0) && divides e.0.1 p.1

  module _ (c : Progress E) where
    -- the generator 0 counts as one of degree 0
    abbrev pub generator_degree : List (Entry E) → ℕ
    generator_degree [] = 0
    generator_degree (e ∷ es) = place_degree c.weights c.shifts e.0

    unfoldable pub pair_degree : ℕ × ℕ → ℕ
    pair_degree p = let a = lead_place (slice_index_or c.members p.0 []) in
        let b = lead_place (slice_index_or c.members p.1 []) in
        place_degree c.weights c.shifts (a.0, lcm a.1 b.1)

    -- of what is still to treat nothing has a smaller degree
    pub record IsLeast (d : ℕ) : Type 0 where
      pub generators : All (λ es. d ≤ generator_degree es) c.generators
      pub pairs : All (λ p. d ≤ pair_degree p) c.pairs

    pub record IsDone : Type 0 where
      pub generators : c.generators ≡ []
      pub pairs : c.pairs ≡ []

    pub record IsUnchanged (d : Progress E) : Type 0 where
      pub weights : d.weights ≡ c.weights
      pub shifts : d.shifts ≡ c.shifts
      pub cap : d.cap ≡ c.cap
      pub members : d.members ≡ c.members
      pub generators : d.generators ≡ c.generators
      pub pairs : d.pairs ≡ c.pairs

    unfoldable pub undivided : ℕ
    undivided = length (filter (λ p. not (list_any (is_multiple p) c.members)) (places_up_to c.weights c.shifts c.cap))

    -- treating with the remainder 0 takes one off what is to treat; a new member lowers the undivided by at least one
    unfoldable pub left : ℕ
    left = length c.generators + length c.pairs + undivided * (length c.members + undivided)
