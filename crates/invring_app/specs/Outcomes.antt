-- What the status of a run says of what was read and of what was written.
--
--   exit_code status        the exit status of the program
--   refused_with x          the status of a run whose bytes were refused so
--   status_of e, output_of e   the status of a run that ends so, and what it writes
--   status_with v           the status of a run that wrote its text, with the verdict v on the certificate that it read
--   status_after result     the status of a run, done where it did not fail
--   status_of_read, status_of_fault   the status where reading failed, and where there is no answer
--   IsEnd status            the run came to an ending
--   Writes status           it came to write
--   Reading r s l l' f f'   what the status s says of a source that had l left and counted f faults, and has l' and f' after the run
--                           of the request r: at most one byte came past the limit; a refusal is that of the bytes that came; a
--                           read fault comes only where there is something to read and the count rose
--   EndsAt r l l' e         some bytes came, they are read as some input, and the request ends so there
--   Writing r s l l' t t' g g'   what it says of a sink that took t and counted g faults, and t' and g' after: at an ending it is that
--                           of what was read, and its output was written; at a write fault a proper front of the output of an
--                           ending was written, and the count rose
--   Completes r s l f f' g g'   where what was left reads as an input and no count rose, the status is that of an ending there, or
--                           memory was refused
--   IsCommandOf ws c     the words ask for the command c; for none where they are no request
--   told_by c s          what the error stream gets of the status of a run of the command c: its line; nothing where `check` rejects, which
--                        writes it on the output
--   error_line c s       the error line of a run of the command c, or of one whose words are no command
use Rattle.std.specs.Prelude.{◌≡◌, ◌⊎◌, ℕ, ◌+◌, ◌<◌, ◌≤◌, List, [], length, take, Option, Some, None, Result, Ok, Err}
use Rattle.inv_outside.specs.Outside.{Rose, Gave, Took}
use Rattle.inv_outside.specs.declared.whole.ReadFault.{ReadFault as ReadingFault}
use Rattle.inv_outside.specs.declared.whole.ReadFault.TheVariants as reading
use Rattle.cert_check.specs.declared.verdict.Verdict.{Verdict}
use Rattle.cert_check.specs.declared.verdict.Verdict.TheVariants as verdicts
use Rattle.invring_app.specs.declared.fault.Fault.{Fault}
use Rattle.invring_app.specs.declared.fault.Fault.TheVariants as faults
use Rattle.invring_app.specs.declared.status.Status.{Status}
use Rattle.invring_app.specs.declared.status.Status.TheVariants.{Done, Rejected, Usage, Syntax, Input, Bound, ReadFault, WriteFault, Memory}
use Rattle.invring_app.specs.declared.words.Request.{Request}
use Rattle.invring_app.specs.declared.commands.Command.{Command}
use Rattle.invring_app.specs.declared.commands.Command.TheVariants as commands
use Rattle.invring_app.specs.Answers.{Ends}
use Rattle.invring_app.specs.Commands.{reads}
use Rattle.invring_app.specs.Endings as endings
use Rattle.invring_app.specs.ErrorLines.{status_line}
use Rattle.invring_app.specs.Inputs as inputs
use Rattle.invring_app.specs.Words.{IsRequest}

abbrev pub exit_code : Status → ℕ
exit_code Done = 0
exit_code (Rejected verdict) = 1
exit_code Usage = 2
exit_code (Syntax place) = 3
exit_code (Input fault) = 4
exit_code (Bound fault) = 5
exit_code ReadFault = 6
exit_code WriteFault = 7
exit_code Memory = 8

abbrev pub refused_with : inputs.Refusal → Status
refused_with (inputs.NoText p) = Syntax p
refused_with (inputs.Faulty f) = Input f

abbrev pub status_of : endings.Ending → Status
status_of (endings.StopsAt f) = Bound f
status_of (endings.Rejects condition item text) = Rejected (verdicts.Rejected condition item)
status_of (endings.Answers text) = Done

-- the status where a text is written, with a verdict on the certificate that was read
abbrev pub status_with : Verdict → Status
status_with verdicts.Accepted = Done
status_with (verdicts.Rejected condition item) = Rejected (verdicts.Rejected condition item)

abbrev pub output_of : endings.Ending → List ℕ
output_of (endings.StopsAt f) = []
output_of (endings.Rejects condition item text) = text
output_of (endings.Answers text) = text

abbrev pub status_after : {T : Type 0} → Result T Status → Status
status_after (Ok done) = Done
status_after (Err status) = status

abbrev pub status_of_read : ReadingFault → Status
status_of_read reading.Failed = ReadFault
status_of_read reading.Memory = Memory

abbrev pub status_of_fault : Fault → Status
status_of_fault (faults.Syntax p) = Syntax p
status_of_fault (faults.Input f) = Input f
status_of_fault (faults.Bound f) = Bound f
status_of_fault faults.Memory = Memory

abbrev pub IsEnd : Status → Type 0
IsEnd Done = Unit {0}
IsEnd (Rejected verdict) = Unit {0}
IsEnd Usage = ⊥
IsEnd (Syntax place) = ⊥
IsEnd (Input fault) = ⊥
IsEnd (Bound fault) = Unit {0}
IsEnd ReadFault = ⊥
IsEnd WriteFault = ⊥
IsEnd Memory = ⊥

abbrev pub Writes : Status → Type 0
Writes Done = Unit {0}
Writes (Rejected verdict) = Unit {0}
Writes Usage = ⊥
Writes (Syntax place) = ⊥
Writes (Input fault) = ⊥
Writes (Bound fault) = ⊥
Writes ReadFault = ⊥
Writes WriteFault = Unit {0}
Writes Memory = ⊥

pub record Reading (r : Request) (s : Status) (left left' : Option (List ℕ)) (faults faults' : ℕ) : Type 0 where
  pub gave : (bytes : List ℕ) × (length bytes ≤ inputs.most_bytes (reads r.command) + 1) × Gave left bytes left'
  pub refused : (x : inputs.Refusal) → s ≡ refused_with x → (bytes : List ℕ) × inputs.Takes (reads r.command) left bytes left' × inputs.IsRefused (reads r.command) bytes x
  pub fault : s ≡ ReadFault → inputs.IsReading (reads r.command) × Rose faults faults'

pub record EndsAt (r : Request) (left left' : Option (List ℕ)) (e : endings.Ending) : Type 0 where
  pub bytes : List ℕ
  pub input : inputs.Input
  pub takes : inputs.Takes (reads r.command) left bytes left'
  pub read : inputs.ReadsAs (reads r.command) bytes input
  pub ends : Ends r input e

pub record Writing (r : Request) (s : Status) (left left' taken taken' : Option (List ℕ)) (faults faults' : ℕ) : Type 0 where
  pub ended : IsEnd s → (e : endings.Ending) × (s ≡ status_of e) × EndsAt r left left' e × Took taken (output_of e) taken'
  pub cut : s ≡ WriteFault → (e : endings.Ending) × (k : ℕ) × EndsAt r left left' e × (k < length (output_of e)) × Took taken (take k (output_of e)) taken'
  pub fault : s ≡ WriteFault → Rose faults faults'

abbrev pub Completes : Request → Status → Option (List ℕ) → (f f' g g' : ℕ) → Type 0
Completes r s left f f' g g' = (i : inputs.Input) → inputs.IsLeft (reads r.command) left i → ¬ Rose f f' → ¬ Rose g g'
    → ((e : endings.Ending) × (s ≡ status_of e) × Ends r i e) ⊎ (s ≡ Memory)

abbrev pub IsCommandOf : List (List ℕ) → Option Command → Type 0
IsCommandOf words None = (r : Request) → ¬ IsRequest words r
IsCommandOf words (Some c) = (r : Request) × IsRequest words r × (r.command ≡ c)

-- a refusal of `check` stands on the output
abbrev pub told_by : Command → Status → List ℕ
told_by commands.Check (Rejected verdict) = []
told_by c status = status_line status

abbrev pub error_line : Option Command → Status → List ℕ
error_line None status = status_line status
error_line (Some c) status = told_by c status
