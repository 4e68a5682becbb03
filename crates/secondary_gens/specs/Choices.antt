-- What one degree adds to a list of secondary invariants.
--
--   IsLongerBy d old new   new are the polynomials old and after them others, each other than 0 and of degree d
use Rattle.std.specs.Prelude.{◌≡◌, ◌≢◌, ℕ, List, [], ◌++◌, All}
use Rattle.alg_core.specs.declared.term.Term.{Term}
use Rattle.secondary_gens.specs.Forms.{degree_of}

-- longer by polynomials of degree d
pub record IsLongerBy {E : Type 0} (d : ℕ) (old new : List (List (Term E (List ℕ)))) : Type 0 where
  pub more : List (List (Term E (List ℕ)))
  pub is : new ≡ old ++ more
  pub each : All (λ p. (p ≢ []) × (degree_of p ≡ d)) more
