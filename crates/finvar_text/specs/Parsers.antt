-- What the parser of the program stands for.
--
--   opening_of p o, matrix_of p m, call_of p c, print_of p q, body_of p at   what was read last, by the position
--   state_of p      the state of the tokens
--   Fails e read    nothing is read there, or memory was refused
--   Takes, Expects, Finishes   the result of a step of the program is that of a step here, unless memory was refused: the state that it leaves, a condition of any step, the script
use Rattle.std.specs.Prelude.{◌≡◌, Option, Some, None, Result, Ok, Err}
use Rattle.finvar_text.specs.declared.scan_tokens.Parser.{Parser}
use Rattle.finvar_text.specs.declared.scan_tokens.Position.{Position}
use Rattle.finvar_text.specs.declared.scan_tokens.Position.TheVariants as positions
use Rattle.finvar_text.specs.declared.scan_tokens.OpeningPosition.{OpeningPosition}
use Rattle.finvar_text.specs.declared.scan_tokens.OpeningPosition.TheVariants as openings
use Rattle.finvar_text.specs.declared.scan_tokens.MatrixPosition.{MatrixPosition}
use Rattle.finvar_text.specs.declared.scan_tokens.MatrixPosition.TheVariants as matrices
use Rattle.finvar_text.specs.declared.scan_tokens.CallPosition.{CallPosition}
use Rattle.finvar_text.specs.declared.scan_tokens.CallPosition.TheVariants as calls
use Rattle.finvar_text.specs.declared.scan_tokens.PrintPosition.{PrintPosition}
use Rattle.finvar_text.specs.declared.scan_tokens.PrintPosition.TheVariants as prints
use Rattle.finvar_text.specs.declared.scan_tokens.ScanError.{ScanError}
use Rattle.finvar_text.specs.declared.scan_tokens.ScanError.TheVariants as errors
use Rattle.finvar_text.specs.declared.syntax.ScriptText.{ScriptText}
use Rattle.finvar_text.specs.Syntax.{Script}
use Rattle.finvar_text.specs.Trees.{bytes_of, entries_of, script_of}
use Rattle.finvar_text.specs.Grammar.{Opening, Libs, LibText, LibEnd, RingName, RingEquals, Characteristic, CharacteristicEnd, Variables, Variable, VariableEnd, VariablesEnd, Order, RingEnd, Matrix, Rows, RowsEnd, ColsStart, Cols, ColsEnd, MatrixEquals, EntryStart, Digits, EntryEnd, Call, Second, SecondEnd, Third, ThirdEnd, InvariantRing, CallOpen, Argument, ArgumentEnd, CallEnd, Printing, PrintOpen, PrintName, PrintClose, PrintEnd, Items, ItemText, ItemTextEnd, MatrixName, MatrixNamed, InMatrix, InCall, InPrint, State, Before, After}

abbrev pub opening_of : Parser → OpeningPosition → Opening
opening_of p openings.Libs = Libs
opening_of p openings.LibText = LibText
opening_of p openings.LibEnd = LibEnd p.name.now
opening_of p openings.RingName = RingName
opening_of p openings.RingEquals = RingEquals p.script.ring.now
opening_of p openings.Characteristic = Characteristic p.script.ring.now
opening_of p openings.CharacteristicEnd = CharacteristicEnd p.script.ring.now p.script.characteristic.digits.now
opening_of p openings.Variables = Variables p.script.ring.now p.script.characteristic.digits.now
opening_of p openings.Variable = Variable p.script.ring.now p.script.characteristic.digits.now (bytes_of p.script.variables.items)
opening_of p openings.VariableEnd = VariableEnd p.script.ring.now p.script.characteristic.digits.now (bytes_of p.script.variables.items)
opening_of p openings.VariablesEnd = VariablesEnd p.script.ring.now p.script.characteristic.digits.now p.script.in_parentheses (bytes_of p.script.variables.items)
opening_of p openings.Order = Order p.script.ring.now p.script.characteristic.digits.now p.script.in_parentheses (bytes_of p.script.variables.items)
opening_of p openings.RingEnd = RingEnd p.script.ring.now p.script.characteristic.digits.now p.script.in_parentheses (bytes_of p.script.variables.items)

abbrev pub matrix_of : Parser → MatrixPosition → Matrix
matrix_of p matrices.Rows = Rows p.name.now
matrix_of p matrices.RowsEnd = RowsEnd p.name.now p.rows.digits.now
matrix_of p matrices.ColsStart = ColsStart p.name.now p.rows.digits.now
matrix_of p matrices.Cols = Cols p.name.now p.rows.digits.now
matrix_of p matrices.ColsEnd = ColsEnd p.name.now p.rows.digits.now p.cols.digits.now
matrix_of p matrices.Equals = MatrixEquals p.name.now p.rows.digits.now p.cols.digits.now
matrix_of p matrices.Entry = EntryStart p.name.now p.rows.digits.now p.cols.digits.now (entries_of p.entries.items)
matrix_of p matrices.Digits = Digits p.name.now p.rows.digits.now p.cols.digits.now (entries_of p.entries.items)
matrix_of p matrices.EntryEnd = EntryEnd p.name.now p.rows.digits.now p.cols.digits.now (entries_of p.entries.items)

abbrev pub call_of : Parser → CallPosition → Call
call_of p calls.Second = Second p.name.now
call_of p calls.SecondEnd = SecondEnd p.name.now p.second.now
call_of p calls.Third = Third p.name.now p.second.now
call_of p calls.ThirdEnd = ThirdEnd p.name.now p.second.now p.third.now
call_of p calls.InvariantRing = InvariantRing p.name.now p.second.now p.third.now
call_of p calls.Open = CallOpen p.name.now p.second.now p.third.now
call_of p calls.Argument = Argument p.name.now p.second.now p.third.now (bytes_of p.arguments.items)
call_of p calls.ArgumentEnd = ArgumentEnd p.name.now p.second.now p.third.now (bytes_of p.arguments.items)
call_of p calls.CallEnd = CallEnd p.name.now p.second.now p.third.now (bytes_of p.arguments.items)

abbrev pub print_of : Parser → PrintPosition → Printing
print_of p prints.Open = PrintOpen
print_of p prints.Name = PrintName
print_of p prints.Close = PrintClose p.name.now
print_of p (prints.PrintEnd word) = PrintEnd p.name.now word

abbrev pub state_at : Parser → Position → State
state_at p (positions.Opening o) = Before (bytes_of p.script.libs.items) (opening_of p o)
state_at p positions.Items = After (script_of p.script) p.has_call Items
state_at p positions.ItemText = After (script_of p.script) p.has_call ItemText
state_at p positions.ItemTextEnd = After (script_of p.script) p.has_call (ItemTextEnd p.name.now)
state_at p positions.MatrixName = After (script_of p.script) p.has_call MatrixName
state_at p positions.MatrixNamed = After (script_of p.script) p.has_call (MatrixNamed p.name.now)
state_at p (positions.Matrix m) = After (script_of p.script) p.has_call (InMatrix (matrix_of p m))
state_at p (positions.Call c) = After (script_of p.script) p.has_call (InCall (call_of p c))
state_at p (positions.Print q) = After (script_of p.script) p.has_call (InPrint (print_of p q))

abbrev pub state_of : Parser → State
state_of p = state_at p p.position

abbrev pub Fails : {A : Type 0} → ScanError → Option A → Type 0
Fails errors.Unexpected read = read ≡ None
Fails errors.Memory read = Unit {0}

-- the result of a step of the program, which leaves the parser or the scanner after
abbrev pub Takes : {A S : Type 0} → Result A ScanError → S → Option S → Type 0
Takes (Ok x) after read = read ≡ Some after
Takes (Err e) after read = Fails e read

-- a condition of any step
abbrev pub Expects : {A : Type 0} → Result A ScanError → (State → Option State) → Type 0
Expects (Ok x) read = (s : State) → read s ≡ Some s
Expects (Err e) read = (s : State) → Fails e (read s)

-- the script that is found
abbrev pub Finishes : Result ScriptText ScanError → Option Script → Type 0
Finishes (Ok t) found = found ≡ Some (script_of t)
Finishes (Err e) found = Fails e found
