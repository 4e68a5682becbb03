-- Reading the words of a command from the left, or None where they are none.
--
--   given_at g a          what was given for the argument a
--   with_given g a v      the same with v for a
--   nothing_given         no argument has a value
--   limit_of g a          the limit that was given for an option, or its default
--   limits_of g           all of them
--   named w               the option of this name
--   give g a text         what is given with the number that the text writes for a, which is to have none before
--   plain g w o           what is read at the word w without a `=`, where the option o has that name
--   start g o w           what is read with the word w more, where the option o awaits its value
--   step_of s w           the same of what was read
--   steps s ws            what is read with the words ws more
--   finish s              what was given, where no option awaits its value
--   arguments_of ws       what the words after the command give
--   request_of ws         what the words ask for
use Rattle.std.specs.Prelude.{ℕ, ◌==◌, nat_lt, List, [], ◌∷◌, length, Option, Some, None, is_some, unwrap_or, if◌then◌else◌, codes}
use Rattle.std.specs.List.{position_or_len, before_first, after_first}
use Rattle.std.specs.Str.{bytes_eq}
use Rattle.alg_core.specs.declared.limits.Limits.{Limits}
use Rattle.invring_app.specs.declared.arguments.Argument.{Argument}
use Rattle.invring_app.specs.declared.arguments.Argument.TheVariants.{Number, MaxOrder, MaxDegree, MaxBasis, MaxTerms, MaxRank, Tries, MaxText}
use Rattle.invring_app.specs.declared.given.Given.{Given}
use Rattle.invring_app.specs.declared.words.Reading.{Reading}
use Rattle.invring_app.specs.declared.words.Request.{Request}
use Rattle.invring_app.specs.Commands.{◌>>=◌, command_of}
use Rattle.invring_app.specs.Words.{row, least, most}
use Rattle.invring_app.specs.Numerals.{number_of}

abbrev pub given_at : Given → Argument → Option ℕ
given_at g Number = g.number
given_at g MaxOrder = g.max_order
given_at g MaxDegree = g.max_degree
given_at g MaxBasis = g.max_basis
given_at g MaxTerms = g.max_terms
given_at g MaxRank = g.max_rank
given_at g Tries = g.tries
given_at g MaxText = g.max_text

abbrev pub with_given : Given → Argument → ℕ → Given
with_given g Number v = record g { number = Some v }
with_given g MaxOrder v = record g { max_order = Some v }
with_given g MaxDegree v = record g { max_degree = Some v }
with_given g MaxBasis v = record g { max_basis = Some v }
with_given g MaxTerms v = record g { max_terms = Some v }
with_given g MaxRank v = record g { max_rank = Some v }
with_given g Tries v = record g { tries = Some v }
with_given g MaxText v = record g { max_text = Some v }

abbrev pub nothing_given : Given
nothing_given = record { number = None; max_order = None; max_degree = None; max_basis = None; max_terms = None; max_rank = None; tries = None; max_text = None }

abbrev pub limit_of : Given → Argument → ℕ
limit_of g a = unwrap_or (given_at g a) (row a).default

abbrev pub limits_of : Given → Limits
limits_of g = record {
  max_order = limit_of g MaxOrder;
  max_degree = limit_of g MaxDegree;
  max_basis = limit_of g MaxBasis;
  max_terms = limit_of g MaxTerms;
  max_rank = limit_of g MaxRank;
  tries = limit_of g Tries;
  max_text = limit_of g MaxText;
}

unfoldable pub named : List ℕ → Option Argument
named w =
    if bytes_eq w (codes "--max-order") then Some MaxOrder
    else (if bytes_eq w (codes "--max-degree") then Some MaxDegree
    else (if bytes_eq w (codes "--max-basis") then Some MaxBasis
    else (if bytes_eq w (codes "--max-terms") then Some MaxTerms
    else (if bytes_eq w (codes "--max-rank") then Some MaxRank
    else (if bytes_eq w (codes "--tries") then Some Tries
    else (if bytes_eq w (codes "--max-text") then Some MaxText
    else None))))))

unfoldable pub give : Given → Argument → List ℕ → Option Reading
give g a text =
    if is_some (given_at g a) then None
    else (number_of (most a) text >>= λ v. if nat_lt v (least a) then None else Some (record { given = with_given g a v; awaited = None }))

abbrev pub plain : Given → List ℕ → Option Argument → Option Reading
plain g w (Some a) = Some (record { given = g; awaited = Some a })
plain g w None = give g Number w

abbrev pub start : Given → Option Argument → List ℕ → Option Reading
start g (Some a) w = give g a w
start g None w =
    if nat_lt (position_or_len (λ b. b == 61) w) (length w) then (named (before_first (λ b. b == 61) w) >>= λ a. give g a (after_first (λ b. b == 61) w))
    else plain g w (named w)

unfoldable pub step_of : Reading → List ℕ → Option Reading
step_of s w = start s.given s.awaited w

abbrev pub steps : Reading → List (List ℕ) → Option Reading
steps s [] = Some s
steps s (w ∷ ws) = step_of s w >>= λ t. steps t ws

abbrev pub finish : Given → Option Argument → Option Given
finish g (Some a) = None
finish g None = Some g

unfoldable pub arguments_of : List (List ℕ) → Option Given
arguments_of ws = steps (record { given = nothing_given; awaited = None }) ws >>= λ s. finish s.given s.awaited

abbrev pub request_of : List (List ℕ) → Option Request
request_of [] = None
request_of (w ∷ ws) = arguments_of ws >>= λ g. command_of w g.number >>= λ c. Some (record { command = c; limits = limits_of g })
