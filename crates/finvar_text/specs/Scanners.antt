-- What the scanner of the program stands for.
--
--   mode_of text i m, scan_of text i s   the mode, and the scan, of a scanner that stands before the byte i of the text
--   IsOrdered i s             the token that is being read begins before the byte i, or a string there
--   fault_at e n              the fault of a text whose byte at the place n, or whose end there, was not taken
--   IsSyntaxFault bytes e     a syntax fault at the first place, or want of memory
use Rattle.std.specs.Prelude.{ℕ, ◌-◌, ◌<◌, ◌≤◌, List, take, drop}
use Rattle.finvar_text.specs.declared.scan.Scanner.{Scanner}
use Rattle.finvar_text.specs.declared.scan.Mode.{Mode as CodeMode}
use Rattle.finvar_text.specs.declared.scan.Mode.TheVariants as modes
use Rattle.finvar_text.specs.declared.scan.SyntaxFault.{SyntaxFault}
use Rattle.finvar_text.specs.declared.scan.SyntaxFault.TheVariants as faults
use Rattle.finvar_text.specs.declared.scan_tokens.ScanError.{ScanError}
use Rattle.finvar_text.specs.declared.scan_tokens.ScanError.TheVariants as errors
use Rattle.finvar_text.specs.Syntax.{IsFirstFault}
use Rattle.finvar_text.specs.Scanning.{Mode, Between, Slash, Line, Block, InWord, InNumber, InText, Scan, at}
use Rattle.finvar_text.specs.Parsers.{state_of}

abbrev pub mode_of : List ℕ → ℕ → CodeMode → Mode
mode_of text i modes.Between = Between
mode_of text i modes.Slash = Slash
mode_of text i modes.Line = Line
mode_of text i (modes.Block star) = Block star
mode_of text i (modes.Word from) = InWord (take (i - from) (drop from text))
mode_of text i (modes.Number from) = InNumber (take (i - from) (drop from text))
mode_of text i (modes.Text from) = InText (take (i - from) (drop from text))

abbrev pub scan_of : List ℕ → ℕ → Scanner → Scan
scan_of text i s = at (state_of s.parser) (mode_of text i s.mode)

abbrev pub IsOrderedMode : ℕ → CodeMode → Type 0
IsOrderedMode i modes.Between = Unit {0}
IsOrderedMode i modes.Slash = Unit {0}
IsOrderedMode i modes.Line = Unit {0}
IsOrderedMode i (modes.Block star) = Unit {0}
IsOrderedMode i (modes.Word from) = from < i
IsOrderedMode i (modes.Number from) = from < i
IsOrderedMode i (modes.Text from) = from ≤ i

abbrev pub IsOrdered : ℕ → Scanner → Type 0
IsOrdered i s = IsOrderedMode i s.mode

abbrev pub fault_at : ScanError → ℕ → SyntaxFault
fault_at errors.Unexpected n = faults.Syntax n
fault_at errors.Memory n = faults.Memory

abbrev pub IsSyntaxFault : List ℕ → SyntaxFault → Type 0
IsSyntaxFault bytes (faults.Syntax n) = IsFirstFault bytes n
IsSyntaxFault bytes faults.Memory = Unit {0}
