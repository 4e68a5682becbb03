-- Spans of finite lists of elements of a module.
--
--   combine X cs ws      the sum of the multiples of the members ws by the coefficients cs
--   InSpan X ws v        v is such a sum, with a coefficient for each member
--   SameSpan X us ws     the same elements are such sums of us and of ws
--   Independent X ws     only the coefficients 0 give the sum 0
--   Greedy X ws cs       a member that lies in the span of those before it has the coefficient 0
use Rattle.std.specs.Prelude.{◌≡◌, ◌↔◌, ℕ, ◌<◌, List, [], ◌∷◌, length, get_or, take}
use Rattle.alg_core.specs.Rings.{Ring, Module}

module _ {K : Type 0} {R : Ring K} {A : Type 0} (X : Module R A) where
  -- the sum of the multiples
  abbrev pub combine : List K → List A → A
  combine [] ws = X.zero
  combine (c ∷ cs) [] = X.zero
  combine (c ∷ cs) (w ∷ ws) = X.◌+◌ (X.◌·◌ c w) (combine cs ws)

  -- a sum of multiples of the members
  abbrev pub InSpan : List A → A → Type 0
  InSpan ws v = (cs : List K) × (length cs ≡ length ws) × (combine cs ws ≡ v)

  -- one span
  abbrev pub SameSpan : List A → List A → Type 0
  SameSpan us ws = (v : A) → InSpan us v ↔ InSpan ws v

  -- no sum of multiples is 0 but the one with the coefficients 0
  abbrev pub Independent : List A → Type 0
  Independent ws = (cs : List K) → length cs ≡ length ws → combine cs ws ≡ X.zero → (i : ℕ) → get_or cs i R.zero ≡ R.zero

  -- a coefficient for each member; one that lies in the span of those before it has the coefficient 0
  pub record Greedy (ws : List A) (cs : List K) : Type 0 where
    pub each : length cs ≡ length ws
    pub skips : (i : ℕ) → i < length ws → InSpan (take i ws) (get_or ws i X.zero) → get_or cs i R.zero ≡ R.zero
