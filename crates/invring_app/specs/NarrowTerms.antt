-- Polynomials in more variables as polynomials in some.
--
--   AreNarrow k n ts   the terms ts have values of the field k, position 0 and n exponents or more, none past the n-th other than 0
use Rattle.std.specs.Prelude.{◌≡◌, ◌≤◌, ℕ, List, All, length}
use Rattle.alg_core.specs.Fields.{FieldOn, Has}
use Rattle.alg_core.specs.Monomials.{mono}
use Rattle.alg_core.specs.Spaces.{entries}
use Rattle.alg_core.specs.declared.term.Term.{Term}

pub record AreNarrow {E : Type 0} (k : FieldOn E) (n : ℕ) (ts : List (Term E (List ℕ))) : Type 0 where
  pub values : All (λ e. Has k e.1) (entries (λ m. m) ts)
  pub long : All (λ e. n ≤ length e.0.1) (entries (λ m. m) ts)
  pub unmarked : All (λ e. length (mono e.0.1).0 ≤ n) (entries (λ m. m) ts)
  pub position : All (λ e. e.0.0 ≡ 0) (entries (λ m. m) ts)
