-- The script that a tree stands for.
--
--   sized_cells g          the numbers of rows and columns, and the cells, of a matrix
--   IsFitting n m          the matrix m has a name, n rows, n columns and n · n entries, and small numbers for entries
--   generator p n m        those of the n by n matrix with the entries of m modulo p
--   IsInvertible p g       g is a square matrix over GF(p) with an inverse
--   IsSingularFault p n ms e   the error tells the first matrix with no inverse, or want of memory
--   IsScriptOf t r         r has the characteristic, the names and the generators of the tree t
--   IsValueFault t e       the error tells the first condition on values that fails, or want of memory
--   fault_of e             a fault of the syntax as one of the script
--   most_bytes             the number of bytes that a script may have, 16777216
--   IsInputFault bytes f   there are more bytes than that, and this is the fault; or the bytes have a tree, and the first condition that fails has this fault
--   IsScriptFault bytes e  the first fault of the bytes, or want of memory
use Rattle.std.specs.Prelude.{◌≡◌, ◌⊎◌, ◌≤◌, ◌<◌, ℕ, List, length, map, All, Some, true}
use Rattle.alg_core.specs.Fields.{Scalar, scalars}
use Rattle.lin_algebra.specs.Matrices.{IsMatrix, IsInverse, entries}
use Rattle.lin_algebra.specs.declared.matrix.Matrix as lin
use Rattle.prime_field.specs.ListedPrimes.{is_listed}
use Rattle.prime_field.specs.PrimeFields.{gfp}
use Rattle.finvar_text.specs.declared.fault.ScriptFault.{ScriptFault}
use Rattle.finvar_text.specs.declared.fault.ScriptFault.TheVariants as faults
use Rattle.finvar_text.specs.Conditions.{value, is_small, has_size, cells, generators, FirstSingular, HasFault}
use Rattle.finvar_text.specs.Syntax.{Matrix, Script, IsName, IsText, IsFirstFault}
use Rattle.finvar_text.specs.declared.script.Script as program
use Rattle.finvar_text.specs.declared.scan.SyntaxFault.{SyntaxFault}
use Rattle.finvar_text.specs.declared.scan.SyntaxFault.TheVariants as scans
use Rattle.alg_core.specs.declared.input_fault.InputFault.{InputFault}
use Rattle.alg_core.specs.declared.input_fault.InputFault.TheVariants as inputs

abbrev pub sized_cells : lin.Matrix ℕ → ℕ × ℕ × List ℕ
sized_cells g = (g.rows, g.cols, g.cells.items)

pub record IsFitting (n : ℕ) (m : Matrix) : Type 0 where
  pub name : IsName m.name
  pub size : has_size n m ≡ true
  pub small : All (λ e. is_small e.digits ≡ true) m.entries

abbrev pub generator : ℕ → ℕ → Matrix → ℕ × ℕ × List ℕ
generator p n m = (n, n, cells p m)

abbrev pub IsInvertible : ℕ → lin.Matrix ℕ → Type 0
IsInvertible p g = (listed : is_listed p ≡ true) × IsMatrix (gfp p listed) g × (g.rows ≡ g.cols) × (b : ℕ → ℕ → Scalar (gfp p listed)) × IsInverse (scalars (gfp p listed)) g.rows (entries (gfp p listed) g) b

abbrev pub IsSingularFault : ℕ → ℕ → List Matrix → ScriptFault → Type 0
IsSingularFault p n ms (faults.Syntax place) = ⊥
IsSingularFault p n ms (faults.Input fault) = FirstSingular p n ms (Some fault)
IsSingularFault p n ms faults.Memory = Unit {0}

-- what the program makes of the tree
pub record IsScriptOf (t : Script) (r : program.Script) : Type 0 where
  pub characteristic : r.characteristic ≡ value t.characteristic
  pub names : r.names.items ≡ t.variables
  pub gens : map sized_cells r.gens.items ≡ map (generator (value t.characteristic) (length t.variables)) (generators t)

abbrev pub IsValueFault : Script → ScriptFault → Type 0
IsValueFault t (faults.Syntax place) = ⊥
IsValueFault t (faults.Input fault) = HasFault t (Some fault)
IsValueFault t faults.Memory = Unit {0}

abbrev pub fault_of : SyntaxFault → ScriptFault
fault_of (scans.Syntax place) = faults.Syntax place
fault_of scans.Memory = faults.Memory

abbrev pub most_bytes : ℕ
most_bytes = 16777216

abbrev pub IsInputFault : List ℕ → InputFault → Type 0
IsInputFault bytes fault = ((most_bytes < length bytes) × (fault ≡ inputs.Long)) ⊎ ((length bytes ≤ most_bytes) × (t : Script) × IsText t bytes × HasFault t (Some fault))

abbrev pub IsScriptFault : List ℕ → ScriptFault → Type 0
IsScriptFault bytes (faults.Syntax place) = (length bytes ≤ most_bytes) × IsFirstFault bytes place
IsScriptFault bytes (faults.Input fault) = IsInputFault bytes fault
IsScriptFault bytes faults.Memory = Unit {0}
