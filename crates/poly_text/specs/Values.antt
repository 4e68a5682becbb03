-- What a tree stands for, and the conditions on its values, in the order in which they are tried.
--
-- The kind of the text is told by m: how many secondary invariants there are in the text of a combination, None in that of a polynomial.
--
--   name_place names w      the place of the name w among the names, where it is one
--   is_known m names v      the variable is one of the names, or its sign belongs in the text
--   is_within m names v     its index is at most the number of its list
--   place names v           its place among the variables, from 0; a mark % comes after all
--   HasPlace, HavePlaces names v   the variable, each variable of factors, is known and within, in a text of some kind
--   position_count m        how many positions there are
--   HasPositions m S        the space has the positions of a text of the kind m, for each monomial
--   rise xs                 the numbers rise strictly
--   ends_with_secondary fs  the last factor is a mark % without exponent
--   has_ending m fs         it is, in a combination
--   last_index fs           the index of the last factor
--   position_of m fs        the position that the mark % of the factors tells; 0 in a polynomial
--   exponent_at names fs i  the exponent of the first factor at the place i, 0 where there is none
--   exponents_from names n i fs   the exponents at the n places from i on
--   is_printed p t          the sign and the coefficient are the printed ones of a class modulo p: at most (p-1)/2; for
--                           p = 2 it is 1 without a sign
--   value_of p t            the value modulo p
--   entry_of m S names t    the value and the place of a term
--   degree_at m S here      the degree of a term: by the weights of its variables, and in a combination by that of its mark %
--   comes_after m S before here   a term may stand after that before it: it is smaller; in a combination it is at a later
--                           position, or at the same and smaller
--   falls m S before here   it may stand there, where there is one before it
--   are_known, are_within, are_small   of each factor: the variable is known, its index within; the exponent at most 4096
--   places names fs         the places of the variables of the factors
--   factor_conditions m names fs, term_conditions m p names t, place_conditions m S before here   the conditions on the
--                           factors, with the one on the coefficient, and those on the place, with their kinds, in order
--   conditions m S names before t   each condition on a term with its kind, in order
--   first_failed cs         the kind of the first condition that does not hold
--   fault_or i kind rest    the fault at term i, where there is one, else the rest
--   first_fault m S names before i ts   the first term, counted from i, at which a condition fails, and the kind of the first
--   last_from before es     the place of the last entry, or the one given where there is no entry
--   last_place es           the place of the last entry, where there is one
--   IsFault e fault         the error tells this fault, or that memory was refused
--   Faults result fault     the result is an answer where there is no fault, and else the fault, unless memory was refused
--   AreDistinct names       no name stands twice among the names
--   IsIndexed v             a name, or an index of at most 5 digits
--   mark_names r            the names of the variables of a combination: r marks @
--   IsReadableTerm S e      degree and exponents of a term of a combination are at most 4096, and the indices of its marks have at most
--                           5 digits
--   IsReadable S names e    degree and exponents are at most 4096, and each variable that occurs IsIndexed
use Rattle.std.specs.Prelude.{◌≡◌, ◌≢◌, ◌≤◌, ◌<◌, ℕ, zero, suc, ◌+◌, ◌-◌, ◌*◌, Bool, true, false, ◌&&◌, not, ◌==◌, nat_le, nat_lt, List, [], ◌∷◌, ◌++◌, length, map, replicate, All, get_or, Option, Some, None, Result, Ok, Err, if◌then◌else◌}
use Rattle.std.specs.List.{list_all, position, AllPairs}
use Rattle.std.specs.Str.{bytes_eq}
use Rattle.std.specs.Option.{is_some}
use Rattle.std.specs.Ordering.{is_gt}
use Rattle.alg_core.specs.DpOrder.{weighted_degree}
use Rattle.alg_core.specs.Keys.{TermPlace}
use Rattle.alg_core.specs.Spaces.{SpaceOver, IsPlace}
use Rattle.alg_core.specs.Vectors.{Entry}
use Rattle.alg_core.specs.declared.value_kind.ValueKind.{ValueKind}
use Rattle.alg_core.specs.declared.value_kind.ValueKind.TheVariants as kinds
use Rattle.poly_text.specs.declared.fault.TextFault.{TextFault}
use Rattle.poly_text.specs.declared.fault.TextFault.TheVariants as faults
use Rattle.poly_text.specs.declared.names.Names.{Names}
use Rattle.poly_text.specs.declared.syntax.Mark.TheVariants.{Primary, Irreducible, Secondary}
use Rattle.poly_text.specs.Syntax.{Variable, Named, Marked, Factor, Term}
use Rattle.poly_text.specs.Texts.{count_of, place_count, variable_at}

abbrev pub name_place : Names → List ℕ → Option ℕ
name_place names w = position (bytes_eq w) names.vars

abbrev pub is_known : Option ℕ → Names → Variable → Bool
is_known m names (Named w) = is_some (name_place names w)
is_known m names (Marked Primary j) = is_some names.primaries
is_known m names (Marked Irreducible j) = is_some names.irreducibles
is_known m names (Marked Secondary j) = is_some m

abbrev pub is_within : Option ℕ → Names → Variable → Bool
is_within m names (Named w) = true
is_within m names (Marked Primary j) = nat_le j (count_of names.primaries)
is_within m names (Marked Irreducible j) = nat_le j (count_of names.irreducibles)
is_within m names (Marked Secondary j) = nat_le j (count_of m)

abbrev pub place : Names → Variable → ℕ
place names (Named w) = count_of (name_place names w)
place names (Marked Primary j) = length names.vars + (j - 1)
place names (Marked Irreducible j) = length names.vars + count_of names.primaries + (j - 1)
place names (Marked Secondary j) = place_count names

abbrev pub HasPlace : Names → Variable → Type 0
HasPlace names v = (m : Option ℕ) × (is_known m names v ≡ true) × (is_within m names v ≡ true)

abbrev pub position_count : Option ℕ → ℕ
position_count None = 1
position_count (Some m) = m

abbrev pub HasPositions : Option ℕ → SpaceOver ℕ → Type 0
HasPositions m S = (j : ℕ) → j < position_count m → IsPlace S (j, replicate (length S.weights) 0)

abbrev pub rise : List ℕ → Bool
rise [] = true
rise (x ∷ []) = true
rise (x ∷ y ∷ l) = nat_lt x y && rise (y ∷ l)

abbrev pub is_secondary : Variable → Bool
is_secondary (Named w) = false
is_secondary (Marked Primary j) = false
is_secondary (Marked Irreducible j) = false
is_secondary (Marked Secondary j) = true

abbrev pub index : Variable → ℕ
index (Named w) = 0
index (Marked mark j) = j

-- one last mark %, without exponent
abbrev pub ends_with_secondary : List Factor → Bool
ends_with_secondary [] = false
ends_with_secondary (f ∷ []) = is_secondary f.variable && (f.exponent == 1)
ends_with_secondary (f ∷ g ∷ fs) = ends_with_secondary (g ∷ fs)

abbrev pub has_ending : Option ℕ → List Factor → Bool
has_ending None fs = true
has_ending (Some m) fs = ends_with_secondary fs

abbrev pub last_index : List Factor → ℕ
last_index [] = 0
last_index (f ∷ []) = index f.variable
last_index (f ∷ g ∷ fs) = last_index (g ∷ fs)

abbrev pub position_of : Option ℕ → List Factor → ℕ
position_of None fs = 0
position_of (Some m) fs = last_index fs - 1

abbrev pub exponent_at : Names → List Factor → ℕ → ℕ
exponent_at names [] i = 0
exponent_at names (f ∷ fs) i = if place names f.variable == i then f.exponent else exponent_at names fs i

abbrev pub exponents_from : Names → ℕ → ℕ → List Factor → List ℕ
exponents_from names zero i fs = []
exponents_from names (suc n) i fs = exponent_at names fs i ∷ exponents_from names n (suc i) fs

abbrev pub is_printed : ℕ → Term → Bool
is_printed p t = if p == 2 then (not t.is_negative && nat_le t.coefficient 1) else nat_le (2 * t.coefficient + 1) p

abbrev pub value_of : ℕ → Term → ℕ
value_of p t = if t.is_negative then p - t.coefficient else t.coefficient

abbrev pub entry_of : Option ℕ → SpaceOver ℕ → Names → Term → Entry ℕ
entry_of m S names t = ((position_of m t.factors, exponents_from names (place_count names) 0 t.factors), value_of S.field.characteristic t)

abbrev pub degree_at : Option ℕ → SpaceOver ℕ → TermPlace → ℕ
degree_at None S here = weighted_degree S.weights here.1
degree_at (Some m) S here = weighted_degree S.weights here.1 + get_or S.shifts here.0 0

abbrev pub comes_after : Option ℕ → SpaceOver ℕ → TermPlace → TermPlace → Bool
comes_after None S before here = is_gt (S.order.compare before here)
comes_after (Some m) S before here = if before.0 == here.0 then is_gt (S.order.compare before here) else nat_lt before.0 here.0

abbrev pub falls : Option ℕ → SpaceOver ℕ → Option TermPlace → TermPlace → Bool
falls m S None here = true
falls m S (Some before) here = comes_after m S before here

abbrev pub are_known : Option ℕ → Names → List Factor → Bool
are_known m names fs = list_all (λ f. is_known m names f.variable) fs

abbrev pub are_within : Option ℕ → Names → List Factor → Bool
are_within m names fs = list_all (λ f. is_within m names f.variable) fs

abbrev pub HavePlaces : Names → List Factor → Type 0
HavePlaces names fs = (m : Option ℕ) × (are_known m names fs ≡ true) × (are_within m names fs ≡ true)

abbrev pub places : Names → List Factor → List ℕ
places names fs = map (λ f. place names f.variable) fs

abbrev pub are_small : List Factor → Bool
are_small fs = list_all (λ f. nat_le f.exponent 4096) fs

abbrev pub factor_conditions : Option ℕ → Names → List Factor → List (Bool × ValueKind)
factor_conditions m names fs =
    (are_known m names fs, kinds.Name)
    ∷ (are_within m names fs, kinds.Index)
    ∷ (has_ending m fs && rise (places names fs), kinds.Factor)
    ∷ (are_small fs, kinds.Exponent) ∷ []

abbrev pub term_conditions : Option ℕ → ℕ → Names → Term → List (Bool × ValueKind)
term_conditions m p names t = factor_conditions m names t.factors ++ ((is_printed p t, kinds.Coefficient) ∷ [])

abbrev pub place_conditions : Option ℕ → SpaceOver ℕ → Option TermPlace → TermPlace → List (Bool × ValueKind)
place_conditions m S before here = (nat_le (degree_at m S here) 4096, kinds.Degree) ∷ (falls m S before here, kinds.Order) ∷ []

abbrev pub conditions : Option ℕ → SpaceOver ℕ → Names → Option TermPlace → Term → List (Bool × ValueKind)
conditions m S names before t = term_conditions m S.field.characteristic names t ++ place_conditions m S before (entry_of m S names t).0

abbrev pub first_failed : List (Bool × ValueKind) → Option ValueKind
first_failed [] = None
first_failed (c ∷ cs) = if c.0 then first_failed cs else Some c.1

abbrev pub fault_or : ℕ → Option ValueKind → Option (ℕ × ValueKind) → Option (ℕ × ValueKind)
fault_or i (Some kind) rest = Some (i, kind)
fault_or i None rest = rest

abbrev pub first_fault : Option ℕ → SpaceOver ℕ → Names → Option TermPlace → ℕ → List Term → Option (ℕ × ValueKind)
first_fault m S names before i [] = None
first_fault m S names before i (t ∷ ts) =
    fault_or i (first_failed (conditions m S names before t)) (first_fault m S names (Some (entry_of m S names t).0) (suc i) ts)

abbrev pub last_from : Option TermPlace → List (Entry ℕ) → Option TermPlace
last_from before [] = before
last_from before (e ∷ es) = last_from (Some e.0) es

abbrev pub last_place : List (Entry ℕ) → Option TermPlace
last_place es = last_from None es

abbrev pub IsFault : TextFault → Option (ℕ × ValueKind) → Type 0
IsFault (faults.Syntax n) fault = ⊥
IsFault (faults.Value i kind) fault = fault ≡ Some (i, kind)
IsFault faults.Memory fault = Unit {0}

abbrev pub Faults : {A : Type 0} → Result A TextFault → Option (ℕ × ValueKind) → Type 0
Faults (Ok x) fault = fault ≡ None
Faults (Err e) fault = IsFault e fault

abbrev pub AreDistinct : Names → Type 0
AreDistinct names = AllPairs (λ v w. v ≢ w) names.vars

abbrev pub IsIndexed : Variable → Type 0
IsIndexed (Named w) = Unit {0}
IsIndexed (Marked m j) = j ≤ 99999

pub record IsReadable (S : SpaceOver ℕ) (names : Names) (e : Entry ℕ) : Type 0 where
  pub degree : weighted_degree S.weights e.0.1 ≤ 4096
  pub exponents : All (λ x. x ≤ 4096) e.0.1
  pub indices : (i : ℕ) → i < length e.0.1 → get_or e.0.1 i 0 ≢ 0 → IsIndexed (variable_at names i)

abbrev pub mark_names : ℕ → Names
mark_names r = record { vars = []; primaries = Some r; irreducibles = None }

pub record IsReadableTerm (S : SpaceOver ℕ) (e : Entry ℕ) : Type 0 where
  pub degree : degree_at (Some (length S.shifts)) S e.0 ≤ 4096
  pub exponents : All (λ x. x ≤ 4096) e.0.1
  pub marks : (i : ℕ) → i < length e.0.1 → get_or e.0.1 i 0 ≢ 0 → i + 1 ≤ 99999
  pub secondary : e.0.0 + 1 ≤ 99999
