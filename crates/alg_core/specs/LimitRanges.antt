-- The ranges of the limits.
--
--   IsFrom least most n   the number n is at least the first and at most the second
--   AreLimits l           each of the seven limits is in its range
use Rattle.std.specs.Prelude.{ℕ, ◌≤◌}
use Rattle.alg_core.specs.declared.limits.Limits.{Limits}

pub record IsFrom (least most n : ℕ) : Type 0 where
  pub above : least ≤ n
  pub below : n ≤ most

pub record AreLimits (l : Limits) : Type 0 where
  pub max_order : IsFrom 1 1000000 l.max_order
  pub max_degree : IsFrom 1 1000 l.max_degree
  pub max_basis : IsFrom 1 1000 l.max_basis
  pub max_terms : IsFrom 1 4096 l.max_terms
  pub max_rank : IsFrom 1 4096 l.max_rank
  pub tries : IsFrom 1 65536 l.tries
  pub max_text : IsFrom 1 268435456 l.max_text
