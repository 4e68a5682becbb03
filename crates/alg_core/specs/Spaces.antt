-- Spaces: a field, an order and a grading; and the lists of entries that are vectors over a space.
--
--   SpaceOver E          a space over a field on E
--   over field order s   the space that a space of the program stands for
--   place exps t         the place of a term, whose monomial is read by exps
--   entry exps t         the entry of a term
--   entries exps ts      the entries of a list of terms
--   IsPlace S p          a place of the space
--   IsTerm S e           a value of the field other than 0 at a place of the space
--   IsAbove S p es       each entry of es is at a smaller place than p
--   Fits S es            terms of the space that fall strictly: the entries of a vector over S
use Rattle.std.specs.Prelude.{◌≡◌, ◌≢◌, ◌<◌, ℕ, List, [], ◌∷◌, map, length}
use Rattle.std.specs.declared.cmp.Ordering.TheVariants.{Greater}
use Rattle.alg_core.specs.Fields.{FieldOn, Has}
use Rattle.alg_core.specs.Keys.{TermPlace}
use Rattle.alg_core.specs.PlaceOrders.{PlaceOrder, FitsAt}
use Rattle.alg_core.specs.Vectors.{Entry}
use Rattle.alg_core.specs.declared.space.Space.{Space}
use Rattle.alg_core.specs.declared.term.ModTerm.{ModTerm}
use Rattle.alg_core.specs.declared.term.Term.{Term}

-- a field, an order of places, the weights of the variables and the shifts of the positions
pub record SpaceOver (E : Type 0) : Type 0 where
  pub field : FieldOn E
  pub order : PlaceOrder
  pub weights : List ℕ
  pub shifts : List ℕ

-- the space that a space of the program stands for
abbrev pub over : {F O E : Type 0} → (F → FieldOn E) → (O → PlaceOrder) → Space F O → SpaceOver E
over field order s = record { field = field s.field; order = order s.order; weights = s.grading.weights.items; shifts = s.grading.shifts.items }

-- the place of a term, whose monomial is read by exps
abbrev pub place : {M : Type 0} → (M → List ℕ) → ModTerm M → TermPlace
place exps t = (t.pos, exps t.mono)

-- its entry
abbrev pub entry : {E M : Type 0} → (M → List ℕ) → Term E M → Entry E
entry exps t = (place exps t.at, t.coef)

-- the entries of a list of terms
abbrev pub entries : {E M : Type 0} → (M → List ℕ) → List (Term E M) → List (Entry E)
entries exps ts = map (entry exps) ts

module _ {E : Type 0} (S : SpaceOver E) where
  -- a place of the space: it fits the order, has an exponent for each weight, and its position has a shift
  pub record IsPlace (p : TermPlace) : Type 0 where
    pub fits : FitsAt S.order p
    pub wide : length p.1 ≡ length S.weights
    pub low : p.0 < length S.shifts

  -- a term of a vector: a value of the field other than 0, at a place of the space
  pub record IsTerm (e : Entry E) : Type 0 where
    pub has : Has S.field e.1
    pub not_zero : e.1 ≢ S.field.zero
    pub place : IsPlace e.0

  -- each entry is at a smaller place
  abbrev pub IsAbove : TermPlace → List (Entry E) → Type 0
  IsAbove p [] = Unit {0}
  IsAbove p (e ∷ es) = (S.order.compare p e.0 ≡ Greater) × IsAbove p es

  -- the entries are those of a vector over the space
  abbrev pub Fits : List (Entry E) → Type 0
  Fits [] = Unit {0}
  Fits (e ∷ es) = IsTerm e × IsAbove e.0 es × Fits es
