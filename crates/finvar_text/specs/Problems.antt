-- The problem that a script sets: what is left of it where its spelling is forgotten.
--
--   Problem               a characteristic, the names of the variables, and generators, each by the cells of its matrix row after row
--   variable_count q      how many variables it has
--   problem_of t          the problem of a syntax tree: the entries of its generators modulo the characteristic
--   problem_in r          the problem of what the program made of a tree
--   IsProblemText bytes q the bytes are not too many, they are a text of a tree whose values have no fault, and q is its problem
--   IsGenerator p n g     g has n rows, and it is a square matrix over GF(p) with an inverse
--   IsSound r             the characteristic is listed, there are 1 to 8 variables, there is a generator, and each has a row for each
--                         variable and an inverse
use Rattle.std.specs.Prelude.{◌≡◌, ℕ, ◌<◌, ◌≤◌, List, length, map, All, None, true}
use Rattle.lin_algebra.specs.declared.matrix.Matrix.{Matrix}
use Rattle.prime_field.specs.ListedPrimes.{is_listed}
use Rattle.finvar_text.specs.Conditions.{value, cells, generators, HasFault}
use Rattle.finvar_text.specs.Scripts.{most_bytes, IsInvertible}
use Rattle.finvar_text.specs.Syntax.{Script as Tree, IsText}
use Rattle.finvar_text.specs.declared.script.Script.{Script}

pub record Problem : Type 0 where
  pub characteristic : ℕ
  pub variables : List (List ℕ)
  pub generators : List (List ℕ)

abbrev pub variable_count : Problem → ℕ
variable_count q = length q.variables

abbrev pub problem_of : Tree → Problem
problem_of t = record {
  characteristic = value t.characteristic;
  variables = t.variables;
  generators = map (cells (value t.characteristic)) (generators t);
}

abbrev pub problem_in : Script → Problem
problem_in r = record {
  characteristic = r.characteristic;
  variables = r.names.items;
  generators = map (λ (g : Matrix ℕ). g.cells.items) r.gens.items;
}

pub record IsProblemText (bytes : List ℕ) (q : Problem) : Type 0 where
  pub short : length bytes ≤ most_bytes
  pub tree : Tree
  pub text : IsText tree bytes
  pub values : HasFault tree None
  pub problem : q ≡ problem_of tree

pub record IsGenerator (p n : ℕ) (g : Matrix ℕ) : Type 0 where
  pub rows : g.rows ≡ n
  pub invertible : IsInvertible p g

pub record IsSound (r : Script) : Type 0 where
  pub listed : is_listed r.characteristic ≡ true
  pub some : 1 ≤ length r.names.items
  pub few : length r.names.items ≤ 8
  pub generated : 0 < length r.gens.items
  pub gens : All (IsGenerator r.characteristic (length r.names.items)) r.gens.items
