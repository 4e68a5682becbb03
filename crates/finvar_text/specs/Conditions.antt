-- The conditions on the values of a script, in the order in which they are tried, and the fault of the first that fails.
--
--   most                    the greatest number of a script, 2^128 - 1
--   value digits            the number that the digits write
--   number digits           the same, where it is at most the greatest
--   is_small digits         whether it is
--   is_small_matrix m, is_small_item i   whether each number of the matrix, of the item is
--   is_among w ws           whether w is one of the names
--   name_of, names_of, matrices_of i     the names of the matrices, all the names, and the matrices that the item declares
--   declared_names s        the names that the script declares, in order
--   matrices s              its matrices, in order
--   first_twice ws rest     the first name of the rest that stands before it, there or among ws
--   first_other ms ws       the first of the names ws that is none of ms
--   unknown_in ms ws i      the first name that the item uses and that is not declared, where the matrices ms and the names ws are
--   first_unknown ms ws is  the same of items, each of which may use what those before it declare
--   has_size n m            whether the matrix has n rows, n columns and n · n entries
--   first_misfit n ms       the name of the first matrix that does not have this size
--   named ms w              the matrix of this name; where several have it, the last
--   put_first o ms          the matrix, where there is one, before the others
--   the_call is             the call, where there is one
--   select ms ws            the matrices of these names
--   generators_by o ms      the matrices that the call, where there is one, names; else all
--   generators s            the matrices that the call names, in its order; all of them where there is no call
--   number_fault s, field_fault s, variables_fault s, twice_fault s, unknown_fault s, size_fault s, some_matrix ms   the fault of each
--                           condition, where it fails: the numbers are small, the characteristic is listed, there are at most 8
--                           variables, no name is declared twice, each name that is used is declared before, each matrix has the
--                           size of the variables, and there is a generator
--   value_conditions s, later_conditions s   each condition but that on inverses, and those of them after the conditions on numbers
--                           and the characteristic: its fault, where it fails
--   first_of faults         the first fault
--   residue p e, cells p m  the class of an entry modulo p, those of the entries of a matrix
--   entries_of_cells k n cells   the scalar at a row and a column of an n by n matrix, 0 outside it
--   IsNonsingularModulo p n cells    the n by n matrix has an inverse over GF(p)
--   FirstSingular p n ms fault   the fault tells the first matrix with no inverse, or there is none
--   FaultFrom o s fault     the fault is o, where there is one, else that of the generators
--   HasFault s fault        the first condition that fails has this fault, or all conditions hold and there is none
use Rattle.std.specs.Prelude.{◌≡◌, ◌⊎◌, ℕ, ◌+◌, ◌-◌, ◌*◌, ◌%◌, Bool, true, ◌&&◌, ◌==◌, nat_le, List, [], ◌∷◌, ◌++◌, length, map, slice_index_or, Option, Some, None, if◌then◌else◌}
use Rattle.std.specs.List.{flat_map, fold, list_all, list_any}
use Rattle.std.specs.Option.{option_map, option_or}
use Rattle.std.specs.Str.{bytes_eq}
use Rattle.alg_core.specs.Fields.{FieldOn, Scalar, scalars}
use Rattle.alg_core.specs.declared.input_fault.InputFault.{InputFault}
use Rattle.alg_core.specs.declared.input_fault.InputFault.TheVariants as faults
use Rattle.lin_algebra.specs.Matrices.{cut, IsInverse}
use Rattle.lin_algebra.specs.Vectors.{vector}
use Rattle.prime_field.specs.ListedPrimes.{is_listed}
use Rattle.prime_field.specs.PrimeFields.{gfp}
use Rattle.prime_field.specs.Residues.{neg_mod}
use Rattle.finvar_text.specs.Syntax.{Entry, Matrix, Call, Item, Lib, Declared, Printed, Called, Script}

abbrev pub most : ℕ
most = 340282366920938463463374607431768211455

unfoldable pub value : List ℕ → ℕ
value digits = fold (λ n b. n * 10 + (b - 48)) 0 digits

abbrev pub number : List ℕ → Option ℕ
number digits = if nat_le (value digits) most then Some (value digits) else None

abbrev pub is_small : List ℕ → Bool
is_small digits = nat_le (value digits) most

abbrev pub is_small_matrix : Matrix → Bool
is_small_matrix m = is_small m.rows && (is_small m.cols && list_all (λ e. is_small e.digits) m.entries)

abbrev pub is_small_item : Item → Bool
is_small_item (Lib w) = true
is_small_item (Declared m) = is_small_matrix m
is_small_item (Printed name word) = true
is_small_item (Called c) = true

abbrev pub is_among : List ℕ → List (List ℕ) → Bool
is_among w ws = list_any (bytes_eq w) ws

abbrev pub matrices_of : Item → List Matrix
matrices_of (Lib w) = []
matrices_of (Declared m) = m ∷ []
matrices_of (Printed name word) = []
matrices_of (Called c) = []

abbrev pub name_of : Item → List (List ℕ)
name_of i = map (λ m. m.name) (matrices_of i)

abbrev pub names_of : Item → List (List ℕ)
names_of (Lib w) = []
names_of (Declared m) = m.name ∷ []
names_of (Printed name word) = []
names_of (Called c) = c.first ∷ c.second ∷ c.third ∷ []

abbrev pub declared_names : Script → List (List ℕ)
declared_names s = s.ring ∷ (s.variables ++ flat_map names_of s.items)

abbrev pub matrices : Script → List Matrix
matrices s = flat_map matrices_of s.items

abbrev pub first_twice : List (List ℕ) → List (List ℕ) → Option (List ℕ)
first_twice ws [] = None
first_twice ws (w ∷ rest) = if is_among w ws then Some w else first_twice (ws ++ w ∷ []) rest

abbrev pub first_other : List (List ℕ) → List (List ℕ) → Option (List ℕ)
first_other ms [] = None
first_other ms (w ∷ ws) = if is_among w ms then first_other ms ws else Some w

abbrev pub unknown_in : List (List ℕ) → List (List ℕ) → Item → Option (List ℕ)
unknown_in ms ws (Lib w) = None
unknown_in ms ws (Declared m) = None
unknown_in ms ws (Printed name word) = if is_among name ws then None else Some name
unknown_in ms ws (Called c) = first_other ms c.arguments

abbrev pub first_unknown : List (List ℕ) → List (List ℕ) → List Item → Option (List ℕ)
first_unknown ms ws [] = None
first_unknown ms ws (i ∷ is) = option_or (unknown_in ms ws i) (first_unknown (ms ++ name_of i) (ws ++ names_of i) is)

abbrev pub has_size : ℕ → Matrix → Bool
has_size n m = value m.rows == n && (value m.cols == n && length m.entries == n * n)

abbrev pub first_misfit : ℕ → List Matrix → Option (List ℕ)
first_misfit n [] = None
first_misfit n (m ∷ ms) = if has_size n m then first_misfit n ms else Some m.name

abbrev pub named : List Matrix → List ℕ → Option Matrix
named [] w = None
named (m ∷ ms) w = option_or (named ms w) (if bytes_eq m.name w then Some m else None)

abbrev pub the_call : List Item → Option Call
the_call [] = None
the_call (Lib w ∷ is) = the_call is
the_call (Declared m ∷ is) = the_call is
the_call (Printed name word ∷ is) = the_call is
the_call (Called c ∷ is) = Some c

abbrev pub put_first : Option Matrix → List Matrix → List Matrix
put_first None ms = ms
put_first (Some m) ms = m ∷ ms

abbrev pub select : List Matrix → List (List ℕ) → List Matrix
select ms [] = []
select ms (w ∷ ws) = put_first (named ms w) (select ms ws)

abbrev pub generators_by : Option Call → List Matrix → List Matrix
generators_by None ms = ms
generators_by (Some c) ms = select ms c.arguments

unfoldable pub generators : Script → List Matrix
generators s = generators_by (the_call s.items) (matrices s)

abbrev pub number_fault : Script → Option InputFault
number_fault s = if is_small s.characteristic && list_all is_small_item s.items then None else Some faults.Number

abbrev pub field_fault : Script → Option InputFault
field_fault s = if is_listed (value s.characteristic) then None else Some (faults.Field (value s.characteristic))

abbrev pub variables_fault : Script → Option InputFault
variables_fault s = if nat_le (length s.variables) 8 then None else Some (faults.Variables (length s.variables))

abbrev pub twice_fault : Script → Option InputFault
twice_fault s = option_map (λ w. faults.Twice w) (first_twice [] (declared_names s))

abbrev pub unknown_fault : Script → Option InputFault
unknown_fault s = option_map (λ w. faults.Unknown w) (first_unknown [] (s.ring ∷ s.variables) s.items)

abbrev pub size_fault : Script → Option InputFault
size_fault s = option_map (λ w. faults.Size w) (first_misfit (length s.variables) (matrices s))

abbrev pub some_matrix : List Matrix → Option InputFault
some_matrix [] = Some faults.NoMatrix
some_matrix (m ∷ ms) = None

abbrev pub later_conditions : Script → List (Option InputFault)
later_conditions s = variables_fault s ∷ twice_fault s ∷ unknown_fault s ∷ size_fault s ∷ some_matrix (generators s) ∷ []

abbrev pub value_conditions : Script → List (Option InputFault)
value_conditions s = number_fault s ∷ field_fault s ∷ later_conditions s

abbrev pub first_of : List (Option InputFault) → Option InputFault
first_of [] = None
first_of (f ∷ fs) = option_or f (first_of fs)

abbrev pub residue : ℕ → Entry → ℕ
residue p e = if e.is_negative then neg_mod p (value e.digits % p) else value e.digits % p

abbrev pub cells : ℕ → Matrix → List ℕ
cells p m = map (residue p) m.entries

abbrev pub entries_of_cells : (k : FieldOn ℕ) → ℕ → List ℕ → ℕ → ℕ → Scalar k
entries_of_cells k n cs i = vector k (slice_index_or (cut n n cs) i [])

abbrev pub IsNonsingularModulo : ℕ → ℕ → List ℕ → Type 0
IsNonsingularModulo p n cs = (listed : is_listed p ≡ true) × (b : ℕ → ℕ → Scalar (gfp p listed)) × IsInverse (scalars (gfp p listed)) n (entries_of_cells (gfp p listed) n cs) b

abbrev pub FirstSingular : ℕ → ℕ → List Matrix → Option InputFault → Type 0
FirstSingular p n [] fault = fault ≡ None
FirstSingular p n (m ∷ ms) fault = (IsNonsingularModulo p n (cells p m) × FirstSingular p n ms fault) ⊎ ((¬ IsNonsingularModulo p n (cells p m)) × (fault ≡ Some (faults.Singular m.name)))

abbrev pub FaultFrom : Option InputFault → Script → Option InputFault → Type 0
FaultFrom (Some f) s fault = fault ≡ Some f
FaultFrom None s fault = FirstSingular (value s.characteristic) (length s.variables) (generators s) fault

abbrev pub HasFault : Script → Option InputFault → Type 0
HasFault s fault = FaultFrom (first_of (value_conditions s)) s fault
