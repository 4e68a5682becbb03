-- Leads that are powers of a variable.
--
--   IsPowerOf i a          the exponents a are 0 but for that of variable i, from 0
--   HasPowerLead S vs i    the lead of a member of the list vs is a power of variable i
use Rattle.std.specs.Prelude.{◌≡◌, ℕ, List}
use Rattle.alg_core.specs.Keys.{key}
use Rattle.alg_core.specs.Lists.{In}
use Rattle.alg_core.specs.Monomials.{exponent}
use Rattle.alg_core.specs.Spaces.{SpaceOver}
use Rattle.alg_core.specs.SpaceOrder.{key_order}
use Rattle.alg_core.specs.Vectors.{Vect}
use Rattle.poly_module.specs.Modules.{LeadBy}

abbrev pub IsPowerOf : ℕ → List ℕ → Type 0
IsPowerOf i a = (j : ℕ) → ¬ (j ≡ i) → exponent a j ≡ 0

pub record HasPowerLead {E : Type 0} (S : SpaceOver E) (vs : List (Vect S.field)) (i : ℕ) : Type 0 where
  pub member : Vect S.field
  pub inside : In member vs
  pub exponents : List ℕ
  pub lead : LeadBy S.field (key_order S) member (key (0, exponents))
  pub power : IsPowerOf i exponents
