-- The printed text of a polynomial and of a combination.
--
--   count_of some         a count, 0 where there is none
--   place_count names     how many variables there are: the names, then the primary invariants, then the irreducible
--                         generators
--   variable_in ws r i    the variable at the place i, from 0: one of the names ws, then one of r primary invariants, then an
--                         irreducible generator
--   variable_at names i   the same among the variables of a text
--   factors_from v i a    the powers to the exponents a of the variables v i, v (i + 1), .., where the exponent is not 0
--   is_negative p c       the integer from -(p-1)/2 to (p-1)/2 in the class of c modulo p is negative; not so where p is 2
--   absolute p c          its absolute value; 1 where p is 2
--   residue_text p c      that integer: its sign, where it is negative, and its absolute value
--   monomial_text ws a    the printed monomial in the named variables ws: 1, or its powers
--   monomial_in names a   the printed monomial among the variables of a text
--   term_in ws r p e      the term of an entry: sign, absolute value, and factors in the order of the variables
--   term_of names p e     the same among the variables of a text
--   polynomial_text S names es   the printed text of the polynomial with these entries, which fall
--   at_position j es      the entries at the position j
--   by_position n es      the entries at position 0, then those at 1, up to n - 1; in their order at each
--   combination_term p e  the term of an entry of a combination: primary invariants, and last one secondary invariant,
--                         which the position tells
--   combination_text S es the printed text of the combination with these entries, which fall
use Rattle.std.specs.Prelude.{ℕ, zero, suc, ◌+◌, ◌-◌, ◌*◌, Bool, ◌==◌, nat_lt, List, [], ◌∷◌, ◌++◌, length, map, get_or, Option, Some, None, decimal, if◌then◌else◌}
use Rattle.std.specs.List.{filter}
use Rattle.alg_core.specs.Spaces.{SpaceOver}
use Rattle.alg_core.specs.Vectors.{Entry}
use Rattle.poly_text.specs.declared.names.Names.{Names}
use Rattle.poly_text.specs.declared.syntax.Mark.TheVariants.{Primary, Irreducible, Secondary}
use Rattle.poly_text.specs.Syntax.{Variable, Named, Marked, Factor, Term, product_text, spelling}

abbrev pub count_of : Option ℕ → ℕ
count_of None = 0
count_of (Some n) = n

abbrev pub place_count : Names → ℕ
place_count names = length names.vars + (count_of names.primaries + count_of names.irreducibles)

abbrev pub variable_in : List (List ℕ) → ℕ → ℕ → Variable
variable_in ws r i =
    let n = length ws in
    if nat_lt i n then Named (get_or ws i []) else if nat_lt i (n + r) then Marked Primary (i - n + 1) else Marked Irreducible (i - (n + r) + 1)

abbrev pub variable_at : Names → ℕ → Variable
variable_at names i = variable_in names.vars (count_of names.primaries) i

abbrev pub factors_from : (ℕ → Variable) → ℕ → List ℕ → List Factor
factors_from v i [] = []
factors_from v i (e ∷ a) = if e == 0 then factors_from v (suc i) a else record { variable = v i; exponent = e } ∷ factors_from v (suc i) a

abbrev pub is_negative : ℕ → ℕ → Bool
is_negative p c = nat_lt p (2 * c)

abbrev pub absolute : ℕ → ℕ → ℕ
absolute p c = if is_negative p c then p - c else c

abbrev pub residue_text : ℕ → ℕ → List ℕ
residue_text p c = (if is_negative p c then 45 ∷ [] else []) ++ decimal (absolute p c)

abbrev pub monomial_text : List (List ℕ) → List ℕ → List ℕ
monomial_text ws a = product_text 1 (factors_from (variable_in ws 0) 0 a)

abbrev pub monomial_in : Names → List ℕ → List ℕ
monomial_in names a = product_text 1 (factors_from (variable_at names) 0 a)

abbrev pub term_in : List (List ℕ) → ℕ → ℕ → Entry ℕ → Term
term_in ws r p e = record { is_negative = is_negative p e.1; coefficient = absolute p e.1; factors = factors_from (variable_in ws r) 0 e.0.1 }

abbrev pub term_of : Names → ℕ → Entry ℕ → Term
term_of names p e = term_in names.vars (count_of names.primaries) p e

-- the terms fall as the entries do
abbrev pub polynomial_text : SpaceOver ℕ → Names → List (Entry ℕ) → List ℕ
polynomial_text S names es = spelling (map (term_of names S.field.characteristic) es)

abbrev pub at_position : ℕ → List (Entry ℕ) → List (Entry ℕ)
at_position j es = filter (λ e. e.0.0 == j) es

abbrev pub by_position : ℕ → List (Entry ℕ) → List (Entry ℕ)
by_position zero es = []
by_position (suc j) es = by_position j es ++ at_position j es

abbrev pub combination_term : ℕ → Entry ℕ → Term
combination_term p e = record {
  is_negative = is_negative p e.1;
  coefficient = absolute p e.1;
  factors = factors_from (λ i. Marked Primary (i + 1)) 0 e.0.1 ++ (record { variable = Marked Secondary (e.0.0 + 1); exponent = 1 } ∷ []);
}

abbrev pub combination_text : SpaceOver ℕ → List (Entry ℕ) → List ℕ
combination_text S es = spelling (map (combination_term S.field.characteristic) (by_position (length S.shifts) es))
