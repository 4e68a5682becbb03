-- What bytes have for an answer.
--
--   Ends r i e            the request r ends so at the input i
--   ending_of v text      the ending with a text: an answer, or where the verdict v rejects a certificate, that
--   IsAnswer c l bytes e  the bytes are read as an input of the command c, and under the limits l it ends so there
--   IsFault c l bytes f   why the bytes have no answer: they are refused, the command has none there or a bound stops it, or memory
--                         was refused
use Rattle.std.specs.Prelude.{ℕ, List}
use Rattle.alg_core.specs.declared.limits.Limits.{Limits}
use Rattle.invring_app.specs.declared.commands.Command.{Command}
use Rattle.invring_app.specs.declared.fault.Fault.{Fault}
use Rattle.invring_app.specs.declared.fault.Fault.TheVariants as faults
use Rattle.invring_app.specs.declared.words.Request.{Request}
use Rattle.invring_app.specs.Commands.{reads, EndsAs}
use Rattle.cert_check.specs.declared.verdict.Verdict.{Verdict}
use Rattle.cert_check.specs.declared.verdict.Verdict.TheVariants.{Accepted, Rejected}
use Rattle.invring_app.specs.Endings.{Ending, StopsAt, Rejects, Answers}
use Rattle.invring_app.specs.Inputs as inputs

abbrev pub Ends : Request → inputs.Input → Ending → Type 0
Ends r i e = EndsAs r.command r.limits i e

abbrev pub ending_of : Verdict → List ℕ → Ending
ending_of Accepted text = Answers text
ending_of (Rejected condition item) text = Rejects condition item text

abbrev pub IsAnswer : Command → Limits → List ℕ → Ending → Type 0
IsAnswer c l bytes e = (i : inputs.Input) × inputs.ReadsAs (reads c) bytes i × EndsAs c l i e

abbrev pub IsFault : Command → Limits → List ℕ → Fault → Type 0
IsFault c l bytes (faults.Syntax p) = inputs.IsRefused (reads c) bytes (inputs.NoText p)
IsFault c l bytes (faults.Input f) = inputs.IsRefused (reads c) bytes (inputs.Faulty f)
IsFault c l bytes (faults.Bound f) = IsAnswer c l bytes (StopsAt f)
IsFault c l bytes faults.Memory = Unit {0}
