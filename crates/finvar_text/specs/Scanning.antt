-- Reading a script byte by byte.
--
--   Mode            what the last bytes belong to: nothing that is open; a `/`; a comment to the end of its line; one between `/*` and `*/`, with whether
--                   a `*` was just read; a word, a number, or a string, of which these bytes are read
--   Scan, at        the tokens that were read whole, by the state after them, and the mode
--   start_scan      nothing is read yet
--   between, in_slash, in_block, in_word, in_number, in_text, step   after one byte more, where nothing is open, in the modes that their names tell, and in
--                   any mode; None where the byte may not follow
--   scan s bytes    after these bytes
--   finish s        the script, where it may end here
use Rattle.std.specs.Prelude.{ℕ, Bool, false, ◌&&◌, ◌==◌, List, [], ◌∷◌, ◌++◌, Option, Some, None, if◌then◌else◌}
use Rattle.std.specs.Char.{is_ascii_digit}
use Rattle.alg_core.specs.Names.{is_letter, is_name_byte}
use Rattle.finvar_text.specs.Syntax.{Script, is_blank}
use Rattle.finvar_text.specs.Grammar.{State, start, next_symbol, next_word, next_number, next_text, takes_number, takes_text, word_front, whole, ◌>>=◌}

pub data Mode : Type 0 where
  Between : Mode
  Slash : Mode
  Line : Mode
  Block : Bool → Mode
  InWord : List ℕ → Mode
  InNumber : List ℕ → Mode
  InText : List ℕ → Mode

pub record Scan : Type 0 where
  pub state : State
  pub mode : Mode

abbrev pub at : State → Mode → Scan
at g m = record { state = g; mode = m }

abbrev pub start_scan : Scan
start_scan = at start Between

unfoldable pub between : State → ℕ → Option Scan
between g b =
    if is_blank b then Some (at g Between)
    else if b == 47 then Some (at g Slash)
    else if b == 34 then (if takes_text g then Some (at g (InText [])) else None)
    else if is_letter b then (if word_front g (b ∷ []) then Some (at g (InWord (b ∷ []))) else None)
    else if is_ascii_digit b then (if takes_number g then Some (at g (InNumber (b ∷ []))) else None)
    else (next_symbol g b >>= λ g'. Some (at g' Between))

unfoldable pub in_slash : State → ℕ → Option Scan
in_slash g b = if b == 47 then Some (at g Line) else if b == 42 then Some (at g (Block false)) else None

unfoldable pub in_block : Bool → State → ℕ → Option Scan
in_block star g b = if star && b == 47 then Some (at g Between) else Some (at g (Block (b == 42)))

unfoldable pub in_word : List ℕ → State → ℕ → Option Scan
in_word w g b =
    if is_name_byte b then (if word_front g (w ++ b ∷ []) then Some (at g (InWord (w ++ b ∷ []))) else None)
    else (next_word g w >>= λ g'. between g' b)

unfoldable pub in_number : List ℕ → State → ℕ → Option Scan
in_number w g b =
    if is_ascii_digit b then Some (at g (InNumber (w ++ b ∷ [])))
    else if is_letter b then None
    else (next_number g w >>= λ g'. between g' b)

unfoldable pub in_text : List ℕ → State → ℕ → Option Scan
in_text w g b =
    if b == 34 then (next_text g w >>= λ g'. Some (at g' Between))
    else if b == 10 then None
    else Some (at g (InText (w ++ b ∷ [])))

unfoldable pub step_in : Mode → State → ℕ → Option Scan
step_in Between g b = between g b
step_in Slash g b = in_slash g b
step_in Line g b = if b == 10 then Some (at g Between) else Some (at g Line)
step_in (Block star) g b = in_block star g b
step_in (InWord w) g b = in_word w g b
step_in (InNumber w) g b = in_number w g b
step_in (InText w) g b = in_text w g b

abbrev pub step : Scan → ℕ → Option Scan
step s b = step_in s.mode s.state b

abbrev pub scan : Scan → List ℕ → Option Scan
scan s [] = Some s
scan s (b ∷ bs) = step s b >>= λ s'. scan s' bs

abbrev pub finish_in : Mode → State → Option Script
finish_in Between g = whole g
finish_in Slash g = None
finish_in Line g = whole g
finish_in (Block star) g = None
finish_in (InWord w) g = next_word g w >>= whole
finish_in (InNumber w) g = next_number g w >>= whole
finish_in (InText w) g = None

abbrev pub finish : Scan → Option Script
finish s = finish_in s.mode s.state
