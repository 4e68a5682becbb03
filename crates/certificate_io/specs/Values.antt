-- The conditions on the values of a text, line by line, each line judged by what those before it tell.
--
--   Seen                    what the lines so far tell of those that follow: the characteristic, the names of the variables, how many
--                           powers there are, the degrees of the primary and secondary invariants and of the irreducible generators,
--                           and how many words there are
--   nothing_seen            what no line tells
--   seen_after s l          what they tell with one line more
--   tree_degree s ts        the greatest degree of a term of a polynomial in the variables; 0 where there is none
--   checked kind ok         nothing where ok holds, else the kind
--   is_among, are_distinct  a name is one of these, no name stands twice
--   is_printed_cell p c     the cell is printed as a class modulo p is
--   is_name_at ns i w       w is the name at the place i, from 0
--   kind_of_fault m S names ts   the kind of the first fault of a polynomial, or where m is no None of a combination
--   plain_fault, marked_fault, combination_fault, word_fault s ts   the same in the spaces of a certificate
--   names_fault, matrix_fault, power_fault s   the first condition that fails on the line of the names, of a matrix, of a power
--   line_fault s l          the first condition on a line that fails
--   first_fault i s ls      the first line, counted from i, at which one fails, and the first that does
use Rattle.std.specs.Prelude.{ℕ, suc, ◌+◌, ◌*◌, Bool, true, not, ◌&&◌, ◌==◌, nat_le, nat_lt, List, [], ◌∷◌, ◌++◌, length, map, get_or, Option, Some, None, if◌then◌else◌}
use Rattle.std.specs.List.{list_all, list_any}
use Rattle.std.specs.Option.{option_map, option_or}
use Rattle.std.specs.Str.{bytes_eq}
use Rattle.alg_core.specs.PolynomialSpaces.{plain_space, marked_space}
use Rattle.alg_core.specs.Spaces.{SpaceOver}
use Rattle.alg_core.specs.declared.value_kind.ValueKind.{ValueKind}
use Rattle.alg_core.specs.declared.value_kind.ValueKind.TheVariants as kinds
use Rattle.poly_module.specs.GreatestExponents.{total, greatest}
use Rattle.poly_text.specs.Syntax.{Term, monomial_term}
use Rattle.poly_text.specs.Values.{entry_of, fault_or, mark_names}
use Rattle.poly_text.specs.Values as polynomials
use Rattle.poly_text.specs.declared.names.Names.{Names}
use Rattle.prime_field.specs.ListedPrimes.{is_listed}
use Rattle.certificate_io.specs.Spaces.{field_at, combination_space, word_space, plain_names, marked_names, word_names}
use Rattle.certificate_io.specs.declared.words.Cell.{Cell}
use Rattle.certificate_io.specs.Syntax.{LineTree, VersionLine, FieldLine, NamesLine, MatrixLine, OrderLine, PrimaryLine, LiftLine, PowerLine, RankLine, SecondaryLine, ReynoldsLine, KernelLine, ImageLine, MovedLine, FixedLine, IrreducibleLine, WordLine, EndLine}

pub record Seen : Type 0 where
  pub characteristic : ℕ
  pub names : List (List ℕ)
  pub powers : ℕ
  pub degrees : List ℕ
  pub secondary_degrees : List ℕ
  pub irreducible_degrees : List ℕ
  pub words : ℕ

abbrev pub nothing_seen : Seen
nothing_seen =
    record { characteristic = 0; names = []; powers = 0; degrees = []; secondary_degrees = []; irreducible_degrees = []; words = 0 }

module _ (s : Seen) where
  abbrev pub tree_degree : List Term → ℕ
  tree_degree ts =
      let S = plain_space (field_at s.characteristic) (length s.names) in
      greatest (map (λ t. total (entry_of None S (plain_names s.names) t).0.1) ts)

  abbrev pub seen_after : LineTree → Seen
  seen_after VersionLine = s
  seen_after (FieldLine p) = record s { characteristic = p }
  seen_after (NamesLine ns) = record s { names = ns }
  seen_after (MatrixLine cs) = s
  seen_after (OrderLine n) = s
  seen_after (PrimaryLine ts) = record s { degrees = s.degrees ++ (tree_degree ts ∷ []) }
  seen_after (LiftLine ts) = s
  seen_after (PowerLine w e ts) = record s { powers = s.powers + 1 }
  seen_after (RankLine n) = s
  seen_after (SecondaryLine ts) = record s { secondary_degrees = s.secondary_degrees ++ (tree_degree ts ∷ []) }
  seen_after ReynoldsLine = s
  seen_after KernelLine = s
  seen_after (ImageLine fs ts) = s
  seen_after (MovedLine ts) = s
  seen_after (FixedLine ts us) = s
  seen_after (IrreducibleLine ts) = record s { irreducible_degrees = s.irreducible_degrees ++ (tree_degree ts ∷ []) }
  seen_after (WordLine ts) = record s { words = s.words + 1 }
  seen_after EndLine = s

abbrev pub checked : ValueKind → Bool → Option ValueKind
checked kind ok = if ok then None else Some kind

abbrev pub is_among : List ℕ → List (List ℕ) → Bool
is_among w ws = list_any (bytes_eq w) ws

abbrev pub are_distinct : List (List ℕ) → Bool
are_distinct [] = true
are_distinct (w ∷ ws) = not (is_among w ws) && are_distinct ws

-- from -(p-1)/2 to (p-1)/2; 0 and 1 where p is 2
abbrev pub is_printed_cell : ℕ → Cell → Bool
is_printed_cell p c = if p == 2 then (not c.is_negative && nat_le c.size 1) else nat_lt (2 * c.size) p

abbrev pub is_name_at : List (List ℕ) → ℕ → List ℕ → Bool
is_name_at ns i w = nat_lt i (length ns) && bytes_eq w (get_or ns i [])

abbrev pub kind_of_fault : Option ℕ → SpaceOver ℕ → Names → List Term → Option ValueKind
kind_of_fault m S names ts = option_map (λ f. f.1) (polynomials.first_fault m S names None 1 ts)

module _ (s : Seen) where
  abbrev pub plain_fault : List Term → Option ValueKind
  plain_fault ts = kind_of_fault None (plain_space (field_at s.characteristic) (length s.names)) (plain_names s.names) ts

  abbrev pub marked_fault : List Term → Option ValueKind
  marked_fault ts =
      kind_of_fault None (marked_space (field_at s.characteristic) (length s.names) s.degrees) (marked_names s.names (length s.degrees)) ts

  abbrev pub combination_fault : List Term → Option ValueKind
  combination_fault ts =
      let S = combination_space (field_at s.characteristic) s.degrees s.secondary_degrees in
      kind_of_fault (Some (length s.secondary_degrees)) S (mark_names (length s.degrees)) ts

  abbrev pub word_fault : List Term → Option ValueKind
  word_fault ts =
      let S = word_space (field_at s.characteristic) (s.degrees ++ s.irreducible_degrees) in
      kind_of_fault None S (word_names (length s.degrees) (length s.irreducible_degrees)) ts

  abbrev pub names_fault : List (List ℕ) → Option ValueKind
  names_fault ns = option_or (checked kinds.Variables (nat_le (length ns) 8)) (checked kinds.Twice (are_distinct ns))

  abbrev pub matrix_fault : List Cell → Option ValueKind
  matrix_fault cs =
      option_or (checked kinds.Size (length cs == length s.names * length s.names))
      (checked kinds.Coefficient (list_all (is_printed_cell s.characteristic) cs))

  abbrev pub power_fault : List ℕ → ℕ → List Term → Option ValueKind
  power_fault w e ts =
      option_or (checked kinds.Power (is_name_at s.names s.powers w)) (option_or (checked kinds.Exponent (nat_le e 4096)) (marked_fault ts))

  abbrev pub line_fault : LineTree → Option ValueKind
  line_fault VersionLine = None
  line_fault (FieldLine p) = checked kinds.Field (is_listed p)
  line_fault (NamesLine ns) = names_fault ns
  line_fault (MatrixLine cs) = matrix_fault cs
  line_fault (OrderLine n) = None
  line_fault (PrimaryLine ts) = plain_fault ts
  line_fault (LiftLine ts) = marked_fault ts
  line_fault (PowerLine w e ts) = power_fault w e ts
  line_fault (RankLine n) = checked kinds.Count (nat_le (length s.names) s.powers)
  line_fault (SecondaryLine ts) = plain_fault ts
  line_fault ReynoldsLine = None
  line_fault KernelLine = None
  line_fault (ImageLine fs ts) = option_or (plain_fault (monomial_term fs ∷ [])) (combination_fault ts)
  line_fault (MovedLine ts) = marked_fault ts
  line_fault (FixedLine ts us) = option_or (marked_fault ts) (combination_fault us)
  line_fault (IrreducibleLine ts) = plain_fault ts
  line_fault (WordLine ts) = word_fault ts
  line_fault EndLine = checked kinds.Count (s.words == length s.secondary_degrees)

-- the condition on the second line, the characteristic, comes before all that depend on it
abbrev pub first_fault : ℕ → Seen → List LineTree → Option (ℕ × ValueKind)
first_fault i s [] = None
first_fault i s (l ∷ ls) = fault_or i (line_fault s l) (first_fault (suc i) (seen_after s l) ls)
