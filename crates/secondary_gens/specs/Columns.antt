-- Terms of combinations with their values, by degrees. θ are primary invariants of the degrees ds, T secondary invariants of the
-- degrees es.
--
--   turned o               the order o turned round
--   key_of c, keys_of cs   the keys of the terms of columns
--   mark_order ds          the order of keys in the marks by weighted dp
--   IsProduct S θ ds e c   c is a monomial of degree e in the marks, with its value
--   IsLevel S θ ds e cs    the columns cs are all of these, rising
--   IsPart S θ ds e i cs   the columns cs are some of these, rising: all that have one of the first i marks
--   AreLevels S θ ds l     the list l has these columns for each degree, from 0
--   IsColumnPart S θ ds T es d j cs   the columns cs are the terms of degree d at the first j members of T, with their values, each
--                                after those that come before it
--   IsColumns S θ ds T es d cs   the same at all members of T
use Rattle.std.specs.Prelude.{◌≡◌, ◌≤◌, ◌<◌, ℕ, List, [], ◌∷◌, ◌++◌, All, length, map, get_or}
use Rattle.std.proofs.Common.{sym}
use Rattle.std.specs.Ordering.{flip_args}
use Rattle.std.proofs.lemmas.Cmp.{back_total}
use Rattle.alg_core.specs.DpOrder.{dp_order}
use Rattle.alg_core.specs.KeyLists.{Falls}
use Rattle.alg_core.specs.KeyOrders.{OrderOn}
use Rattle.alg_core.specs.Keys.{Key, key}
use Rattle.alg_core.specs.Lists.{In}
use Rattle.alg_core.specs.Monomials.{Mon, Divides}
use Rattle.alg_core.specs.SpaceGrading.{weight}
use Rattle.alg_core.specs.SpaceOrder.{key_compare, key_total, key_tied}
use Rattle.alg_core.specs.Spaces.{SpaceOver, place}
use Rattle.alg_core.specs.Vectors.{Vect}
use Rattle.poly_module.specs.Combinations.{combination_degree, term_value}
use Rattle.poly_module.specs.GreatestExponents.{total}
use Rattle.poly_module.specs.MonomialVariables.{variable}
use Rattle.poly_module.specs.Polynomials.{vector_ring}
use Rattle.poly_module.specs.SpaceVectors.{vector_of, IsPoly}
use Rattle.poly_module.specs.Substitutions.{monomial_value}
use Rattle.secondary_gens.specs.Images.{IsImage}
use Rattle.secondary_gens.specs.PrintedCombinations.{IsTermBefore}
use Rattle.secondary_gens.specs.declared.columns.Column.{Column}

-- turned round
abbrev pub turned : {T : Type 0} → OrderOn T → OrderOn T
turned o = record { compare = flip_args o.compare; total = back_total o.total; tied = λ s t e. sym (o.tied t s e) }

abbrev pub key_of : {E : Type 0} → Column E → Key
key_of c = key (place (λ m. m) c.at)

abbrev pub keys_of : {E : Type 0} → List (Column E) → List Key
keys_of cs = map key_of cs

-- by weighted dp
abbrev pub mark_order : List ℕ → OrderOn Key
mark_order ds = record { compare = key_compare (length ds) (dp_order ds); total = key_total (length ds) (dp_order ds); tied = key_tied (length ds) (dp_order ds) }

module _ {E : Type 0} (S : SpaceOver E) (θ : List (Vect S.field)) (ds : List ℕ) where
  -- a monomial of degree e in the marks, and its value
  pub record IsProduct (e : ℕ) (c : Column E) : Type 0 where
    pub position : c.at.pos ≡ 0
    pub wide : length c.at.mono ≡ length ds
    pub degree : weight ds 0 c.at.mono ≡ e
    pub low : total c.at.mono ≤ e
    pub value : IsImage S e (monomial_value (vector_ring S.field) θ c.at.mono) c.value

  -- all of them, rising
  pub record IsLevel (e : ℕ) (cs : List (Column E)) : Type 0 where
    pub each : All (IsProduct e) cs
    pub rises : Falls (turned (mark_order ds)) (keys_of cs)
    pub whole : (m : Mon) → length m.0 ≤ length ds → weight ds 0 m.0 ≡ e → In (0, m) (keys_of cs)

  -- those with one of the first i marks at least
  pub record IsPart (e i : ℕ) (cs : List (Column E)) : Type 0 where
    pub each : All (IsProduct e) cs
    pub rises : Falls (turned (mark_order ds)) (keys_of cs)
    pub has : (m : Mon) (j : ℕ) → j < i → length m.0 ≤ length ds → weight ds 0 m.0 ≡ e → Divides (variable j) m → In (0, m) (keys_of cs)

  -- for each degree
  abbrev pub AreLevels : List (List (Column E)) → Type 0
  AreLevels levels = (e : ℕ) → e < length levels → IsLevel e (get_or levels e [])

  module _ (T : List (Vect S.field)) (es : List ℕ) (d : ℕ) where
    -- all terms of degree d at the first j positions, in order, with their values
    pub record IsColumnPart (j : ℕ) (cs : List (Column E)) : Type 0 where
      pub polynomials : All (λ c. IsPoly S (λ m. m) c.value) cs
      pub wide : All (λ c. length c.at.mono ≡ length ds) cs
      pub values : map (λ c. vector_of S (λ m. m) c.value) cs ≡ map (term_value S.field θ T) (keys_of cs)
      pub within : (t : Key) → In t (keys_of cs) → (length t.1.0 ≤ length ds) × (t.0 < j) × (combination_degree ds es t ≡ d)
      pub whole : (t : Key) → length t.1.0 ≤ length ds → t.0 < j → combination_degree ds es t ≡ d → In t (keys_of cs)
      pub ordered : (s t : Key) (front back : List Key) → keys_of cs ≡ front ++ t ∷ back → IsTermBefore S.field ds es s t → In s front

    -- at all positions
    abbrev pub IsColumns : List (Column E) → Type 0
    IsColumns cs = IsColumnPart (length T) cs
