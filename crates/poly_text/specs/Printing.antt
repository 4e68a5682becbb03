-- The parts of a printed term.
--
--   star b               a `*`, where b is true
--   joined b fs          the factors with `*` between them, and where b is true one before the first
--   coefficient_text c   the number c, but nothing for 1
--   is_none fs           there is no factor
--   sign_text b n        the sign of a term: `-` where n is true, else `+`, but nothing where b is true, at the first term
--   term_text b t        the term after its sign
--   led b ts             the terms one after another, each after its sign; where b is true the first one has no `+`
--   IsNext es from j     j is the least position of an entry that is not below from
--   IsFirstPosition es from o   o is that position, None where each position is below from
--   IsNearer o from i q  q is the position of o, or i where that is nearer, not below from
use Rattle.std.specs.Prelude.{◌≡◌, ◌⊎◌, ◌<◌, ◌≤◌, ℕ, Bool, true, false, ◌==◌, List, [], ◌∷◌, ◌++◌, length, All, Option, Some, None, decimal, if◌then◌else◌}
use Rattle.alg_core.specs.Vectors.{Entry}
use Rattle.poly_text.specs.Texts.{at_position}
use Rattle.poly_text.specs.Syntax.{Factor, Term, factor_text, starred, product_text, signed}

abbrev pub star : Bool → List ℕ
star b = if b then 42 ∷ [] else []

abbrev pub joined : Bool → List Factor → List ℕ
joined b [] = []
joined b (f ∷ fs) = star b ++ (factor_text f ++ starred fs)

abbrev pub coefficient_text : ℕ → List ℕ
coefficient_text c = if c == 1 then [] else decimal c

abbrev pub is_none : List Factor → Bool
is_none [] = true
is_none (f ∷ fs) = false

abbrev pub sign_text : Bool → Bool → List ℕ
sign_text b n = if n then 45 ∷ [] else if b then [] else 43 ∷ []

abbrev pub term_text : Bool → Term → List ℕ
term_text b t = sign_text b t.is_negative ++ product_text t.coefficient t.factors

abbrev pub led : Bool → List Term → List ℕ
led b [] = []
led b (t ∷ ts) = term_text b t ++ signed ts

pub record IsNext (es : List (Entry ℕ)) (from j : ℕ) : Type 0 where
  pub low : from ≤ j
  pub some : 0 < length (at_position j es)
  pub apart : All (λ e. (e.0.0 < from) ⊎ (j ≤ e.0.0)) es

abbrev pub IsFirstPosition : List (Entry ℕ) → ℕ → Option ℕ → Type 0
IsFirstPosition es from None = All (λ e. e.0.0 < from) es
IsFirstPosition es from (Some j) = IsNext es from j

abbrev pub IsNearer : Option ℕ → ℕ → ℕ → Option ℕ → Type 0
IsNearer None from i q = ((i < from) × (q ≡ None)) ⊎ ((from ≤ i) × (q ≡ Some i))
IsNearer (Some j) from i q = (((j ≤ i) ⊎ (i < from)) × (q ≡ Some j)) ⊎ ((from ≤ i) × (i < j) × (q ≡ Some i))
