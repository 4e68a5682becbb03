-- Polynomials in some variables as polynomials in more.
--
--   IsWiderTerm w t u      u is t as a term in w variables
--   IsUnmarked k n ts      the terms ts have values of the field k, position 0 and n exponents
use Rattle.std.specs.Prelude.{◌≡◌, ℕ, List, All, length}
use Rattle.alg_core.specs.Fields.{FieldOn}
use Rattle.alg_core.specs.Monomials.{mono}
use Rattle.alg_core.specs.Spaces.{entries}
use Rattle.alg_core.specs.declared.term.Term.{Term}
use Rattle.poly_module.specs.SpaceVectors.{HasVariables}

pub record IsWiderTerm {E : Type 0} (w : ℕ) (t u : Term E (List ℕ)) : Type 0 where
  pub coefficient : u.coef ≡ t.coef
  pub position : u.at.pos ≡ t.at.pos
  pub wide : length u.at.mono ≡ w
  pub same : mono u.at.mono ≡ mono t.at.mono

pub record IsUnmarked {E : Type 0} (k : FieldOn E) (n : ℕ) (ts : List (Term E (List ℕ))) : Type 0 where
  pub variables : HasVariables k (λ m. m) n ts
  pub position : All (λ e. e.0.0 ≡ 0) (entries (λ m. m) ts)
