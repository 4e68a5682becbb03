-- What the program keeps of the names that are declared.
--
--   has keys w             whether w is one of the keys of a set
--   Holds keys ws          the keys are just the names ws
--   MapsNames entries ms   the entries of a map take each name to the matrix of this name
--   names_in ms            the names of the matrices
--   AreDeclared d ws ms    the names are ws, the matrices are ms, and the name that is kept is the first that stands twice
use Rattle.std.specs.Prelude.{◌≡◌, ℕ, Bool, List, [], map}
use Rattle.std.specs.Borrow.{Bor}
use Rattle.std.specs.List.{list_any}
use Rattle.std.specs.Map.{lookup}
use Rattle.std.specs.Option.{option_map}
use Rattle.std.specs.Str.{bytes_eq}
use Rattle.finvar_text.specs.declared.values_names.Declarations.{Declarations}
use Rattle.finvar_text.specs.Conditions.{is_among, named, first_twice}
use Rattle.finvar_text.specs.Syntax.{Matrix}
use Rattle.finvar_text.specs.Trees.{matrix_of, word_of}
use Rattle.finvar_text.specs.declared.syntax.MatrixText.{MatrixText}

abbrev pub has : List (Bor (List ℕ)) → Bor (List ℕ) → Bool
has keys w = list_any (λ (x : Bor (List ℕ)). bytes_eq w.now x.now) keys

abbrev pub Holds : List (Bor (List ℕ)) → List (List ℕ) → Type 0
Holds keys ws = (w : Bor (List ℕ)) → has keys w ≡ is_among w.now ws

abbrev pub MapsNames : List (Bor (List ℕ) × Bor MatrixText) → List Matrix → Type 0
MapsNames entries ms = (w : Bor (List ℕ)) → option_map (λ (m : Bor MatrixText). matrix_of m.now) (lookup (λ (x : Bor (List ℕ)). bytes_eq w.now x.now) entries) ≡ named ms w.now

abbrev pub names_in : List Matrix → List (List ℕ)
names_in ms = map (λ (m : Matrix). m.name) ms

pub record AreDeclared (d : Declarations) (ws : List (List ℕ)) (ms : List Matrix) : Type 0 where
  pub names : Holds d.names.keys ws
  pub matrices : MapsNames d.matrices.entries ms
  pub twice : word_of d.twice ≡ first_twice [] ws
