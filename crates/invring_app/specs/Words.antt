-- What words ask for.
--
--   Row, row a           of an argument of a command: its option, none for the number that it needs; the range of its values, as far
--                        as it is the same for all commands; and the limit where it is not given
--   IsOption a           the argument has a name: it is an option
--   limit_at l a         the limit of an option
--   Part                 an argument with a value
--   IsSpelled name v ws  the words ws write the value v: one word where there is no name; else the name and then the
--                        value, or both in one word with `=` between them
--   IsInRange a v        v is in the range of a
--   IsPart ws part       the words write the part, and its value is in its range
--   AreParts ws parts    the words write the parts, one after another
--   place a              the place of an argument in the list of rows, by which two arguments are told apart
--   values a parts       the values that the parts have for the argument, in their order
--   IsChosen vs d v      v is the only one of the values vs, or the default d where there is none
--   IsRequest ws r       the words are the name of the command and parts, in any order: exactly the number that the command needs, in
--                        its range, and each option at most once; a limit is what its option says, else its default
use Rattle.std.specs.Prelude.{◌≡◌, ◌⊎◌, ℕ, ◌≤◌, List, [], ◌∷◌, ◌++◌, Option, Some, None, if◌then◌else◌, ◌==◌, codes, decimal}
use Rattle.alg_core.specs.declared.limits.Limits.{Limits}
use Rattle.invring_app.specs.declared.arguments.Argument.{Argument}
use Rattle.invring_app.specs.declared.arguments.Argument.TheVariants.{Number, MaxOrder, MaxDegree, MaxBasis, MaxTerms, MaxRank, Tries, MaxText}
use Rattle.invring_app.specs.declared.words.Request.{Request}
use Rattle.invring_app.specs.Commands.{command_name, numbers_of, IsNumberOf}

pub record Row : Type 0 where
  pub name : Option (List ℕ)
  pub least : ℕ
  pub most : ℕ
  pub default : ℕ

abbrev pub row : Argument → Row
row Number = record { name = None; least = 0; most = 268435456; default = 0 }
row MaxOrder = record { name = Some (codes "--max-order"); least = 1; most = 1000000; default = 10000 }
row MaxDegree = record { name = Some (codes "--max-degree"); least = 1; most = 1000; default = 60 }
row MaxBasis = record { name = Some (codes "--max-basis"); least = 1; most = 1000; default = 200 }
row MaxTerms = record { name = Some (codes "--max-terms"); least = 1; most = 4096; default = 2000 }
row MaxRank = record { name = Some (codes "--max-rank"); least = 1; most = 4096; default = 512 }
row Tries = record { name = Some (codes "--tries"); least = 1; most = 65536; default = 256 }
row MaxText = record { name = Some (codes "--max-text"); least = 1; most = 268435456; default = 268435456 }

abbrev pub limit_at : Limits → Argument → ℕ
limit_at l Number = 0
limit_at l MaxOrder = l.max_order
limit_at l MaxDegree = l.max_degree
limit_at l MaxBasis = l.max_basis
limit_at l MaxTerms = l.max_terms
limit_at l MaxRank = l.max_rank
limit_at l Tries = l.tries
limit_at l MaxText = l.max_text

abbrev pub option_name : Argument → Option (List ℕ)
option_name a = (row a).name

abbrev pub least : Argument → ℕ
least a = (row a).least

abbrev pub most : Argument → ℕ
most a = (row a).most

pub record Part : Type 0 where
  pub argument : Argument
  pub value : ℕ

abbrev pub IsSpelled : Option (List ℕ) → ℕ → List (List ℕ) → Type 0
IsSpelled None v words = words ≡ decimal v ∷ []
IsSpelled (Some name) v words = (words ≡ name ∷ decimal v ∷ []) ⊎ (words ≡ (name ++ (codes "=" ++ decimal v)) ∷ [])

abbrev pub IsOption : Argument → Type 0
IsOption a = (name : List ℕ) × (option_name a ≡ Some name)

abbrev pub IsInRange : Argument → ℕ → Type 0
IsInRange a v = (least a ≤ v) × (v ≤ most a)

pub record IsPart (words : List (List ℕ)) (part : Part) : Type 0 where
  pub range : IsInRange part.argument part.value
  pub spelled : IsSpelled (option_name part.argument) part.value words

abbrev pub AreParts : List (List ℕ) → List Part → Type 0
AreParts words [] = words ≡ []
AreParts words (part ∷ parts) = (first : List (List ℕ)) × (rest : List (List ℕ)) × (words ≡ first ++ rest) × IsPart first part × AreParts rest parts

abbrev pub place : Argument → ℕ
place Number = 0
place MaxOrder = 1
place MaxDegree = 2
place MaxBasis = 3
place MaxTerms = 4
place MaxRank = 5
place Tries = 6
place MaxText = 7

abbrev pub values : Argument → List Part → List ℕ
values a [] = []
values a (part ∷ parts) = if place part.argument == place a then part.value ∷ values a parts else values a parts

abbrev pub IsChosen : List ℕ → ℕ → ℕ → Type 0
IsChosen [] default v = v ≡ default
IsChosen (x ∷ []) default v = v ≡ x
IsChosen (x ∷ y ∷ xs) default v = ⊥

pub record IsRequest (words : List (List ℕ)) (r : Request) : Type 0 where
  pub rest : List (List ℕ)
  pub parts : List Part
  pub command : words ≡ command_name r.command ∷ rest
  pub written : AreParts rest parts
  pub numbers : values Number parts ≡ numbers_of r.command
  pub range : IsNumberOf r.command
  pub limits : (a : Argument) → IsOption a → IsChosen (values a parts) (row a).default (limit_at r.limits a)
