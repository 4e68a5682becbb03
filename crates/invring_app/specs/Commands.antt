-- The commands: what each is called, what number it needs, what it reads and how it ends there. A command has one case of each
-- of these, and a file of its own for its endings.
--
--   o >>= f          what f makes of the value of o, None where there is none
--   command_name c   the word for a command
--   numbers_of c     the number that it needs, as a list: none where it needs none
--   IsNumberOf c     that number is in the range of the command
--   command_of w o   the command with the name w and the number o, where there is one exactly if it needs one, in its range
--   reads c          what it reads of its source
--   EndsAs c l i e   under the limits l it ends so at the input i
pub mod Bases
pub mod Orders
pub mod Primaries
pub mod Rings
pub mod Demos
pub mod Checks
use Rattle.std.specs.Prelude.{ℕ, ◌≤◌, nat_le, ◌&&◌, List, [], ◌∷◌, Option, Some, None, is_some, if◌then◌else◌, codes}
use Rattle.std.specs.Str.{bytes_eq}
use Rattle.alg_core.specs.declared.limits.Limits.{Limits}
use Rattle.invring_app.specs.declared.commands.Command.{Command}
use Rattle.invring_app.specs.declared.commands.Command.TheVariants.{Basis, Order, Primary, Ring, Check, Show, Demo}
use Rattle.invring_app.specs.declared.reading.Kind.{Kind}
use Rattle.invring_app.specs.declared.reading.Kind.TheVariants.{Nothing, Script, Certificate}
use Rattle.invring_app.specs.Commands.Bases.{IsBasisBound, IsBasisAnswer}
use Rattle.invring_app.specs.Commands.Orders.{IsOrderBound, IsOrderAnswer}
use Rattle.invring_app.specs.Commands.Primaries.{IsPrimaryBound, IsPrimaryAnswer}
use Rattle.invring_app.specs.Commands.Rings.{IsRingBound, IsRingAnswer}
use Rattle.invring_app.specs.Commands.Demos.{IsDemoBound, IsDemoAnswer}
use Rattle.invring_app.specs.Commands.Checks.{IsCheckBound, IsCheckRejected, IsCheckAnswer, IsShowRejected, IsShowAnswer}
use Rattle.invring_app.specs.Endings.{Ending, AtNothing, AtProblem, AtCertificate}
use Rattle.invring_app.specs.Inputs.{Input}

infixl 10 ◌>>=◌
abbrev pub ◌>>=◌ : {A B : Type 0} → Option A → (A → Option B) → Option B
(Some x) >>= f = f x
None >>= f = None

abbrev pub command_name : Command → List ℕ
command_name (Basis d) = codes "basis"
command_name Order = codes "order"
command_name Primary = codes "primary"
command_name Ring = codes "ring"
command_name Check = codes "check"
command_name Show = codes "show"
command_name (Demo k) = codes "demo"

abbrev pub numbers_of : Command → List ℕ
numbers_of (Basis d) = d ∷ []
numbers_of Order = []
numbers_of Primary = []
numbers_of Ring = []
numbers_of Check = []
numbers_of Show = []
numbers_of (Demo k) = k ∷ []

abbrev pub IsNumberOf : Command → Type 0
IsNumberOf (Basis d) = d ≤ 1000
IsNumberOf Order = Unit {0}
IsNumberOf Primary = Unit {0}
IsNumberOf Ring = Unit {0}
IsNumberOf Check = Unit {0}
IsNumberOf Show = Unit {0}
IsNumberOf (Demo k) = (1 ≤ k) × (k ≤ 4)

unfoldable pub command_of : List ℕ → Option ℕ → Option Command
command_of w number =
    if bytes_eq w (codes "basis") then (number >>= λ d. if nat_le d 1000 then Some (Basis d) else None)
    else (if bytes_eq w (codes "order") then (if is_some number then None else Some Order)
    else (if bytes_eq w (codes "primary") then (if is_some number then None else Some Primary)
    else (if bytes_eq w (codes "ring") then (if is_some number then None else Some Ring)
    else (if bytes_eq w (codes "check") then (if is_some number then None else Some Check)
    else (if bytes_eq w (codes "show") then (if is_some number then None else Some Show)
    else (if bytes_eq w (codes "demo") then (number >>= λ k. if nat_le 1 k && nat_le k 4 then Some (Demo k) else None)
    else None))))))

abbrev pub reads : Command → Kind
reads (Basis d) = Script
reads Order = Script
reads Primary = Script
reads Ring = Script
reads Check = Certificate
reads Show = Certificate
reads (Demo k) = Nothing

abbrev pub EndsAs : Command → Limits → Input → Ending → Type 0
EndsAs (Basis d) l i e = AtProblem (IsBasisBound d l) (IsBasisAnswer d l) i e
EndsAs Order l i e = AtProblem (IsOrderBound l) (IsOrderAnswer l) i e
EndsAs Primary l i e = AtProblem (IsPrimaryBound l) (IsPrimaryAnswer l) i e
EndsAs Ring l i e = AtProblem (IsRingBound l) (IsRingAnswer l) i e
EndsAs Check l i e = AtCertificate (IsCheckBound l) (IsCheckRejected l) (IsCheckAnswer l) i e
EndsAs Show l i e = AtCertificate (IsCheckBound l) (IsShowRejected l) (IsShowAnswer l) i e
EndsAs (Demo k) l i e = AtNothing (IsDemoBound k l) (IsDemoAnswer k l) i e
