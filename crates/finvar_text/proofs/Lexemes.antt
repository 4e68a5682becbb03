-- Each part of a spelling is scanned.
use Rattle.std.proofs.Common.{◌≡◌, ℕ, Bool, true, false, List, [], ◌∷◌, ◌++◌, Option, Some, None, if◌then◌else◌, sym, ap, ap₂, ◌∙◌, refl, subst, arith}
use Rattle.std.specs.Prelude.{codes, not, ◌==◌, ◌&&◌, ◌||◌}
use Rattle.std.specs.List.{list_all}
use Rattle.std.specs.Char.{is_ascii_digit}
use Rattle.std.specs.Bool.{Decides}
use Rattle.std.specs.Str.{bytes_eq}
use Rattle.std.proofs.lemmas.Slice.Eq.{bytes_eq-Decides}
use Rattle.std.proofs.lemmas.Bool.{and_parts, not-true}
use Rattle.std.proofs.lemmas.Bool.Decides.{nat_tests}
use mathlib.Core.List.{append_assoc, append-nil}
use Rattle.alg_core.specs.Names.{is_letter}
use Rattle.finvar_text.specs.Syntax.{Script, is_blank, is_open, is_string_byte}
use Rattle.finvar_text.specs.Grammar.{Opening, Libs, LibText, LibEnd, RingName, RingEquals, Characteristic, CharacteristicEnd, Variables, Variable, VariableEnd, VariablesEnd, Order, RingEnd, Matrix, Rows, RowsEnd, ColsStart, Cols, ColsEnd, MatrixEquals, EntryStart, Digits, EntryEnd, Call, Second, SecondEnd, Third, ThirdEnd, InvariantRing, CallOpen, Argument, ArgumentEnd, CallEnd, Printing, PrintOpen, PrintName, PrintClose, PrintEnd, Body, Items, ItemText, ItemTextEnd, MatrixName, MatrixNamed, InMatrix, InCall, InPrint, State, Before, After, opening_symbol, matrix_symbol, call_symbol, print_symbol, body_symbol, next_symbol, opening_word, call_word, printing_word, body_word, next_word, matrix_number, opening_number, body_number, next_number, opening_text, body_text, next_text, symbol, begins, word_front, opening_front, body_front, call_front, print_front, takes_number, takes_text, is_some, ◌>>=◌}
use Rattle.finvar_text.specs.Scanning.{Between, Slash, Line, Block, InWord, InNumber, InText, Scan, at, between, in_block, in_number, in_text, step_in, step}
use Rattle.finvar_text.proofs.Endings.{run}
use Rattle.finvar_text.proofs.Fronts.{begins_word}

-- the symbols of scripts: ( ) , - ; = [ ]
abbrev pub is_symbol : ℕ → Bool
is_symbol b = b == 40 || (b == 41 || (b == 44 || (b == 45 || (b == 59 || (b == 61 || (b == 91 || b == 93))))))

symbol_kind : (c b : ℕ) (s g : State) → is_symbol c ≡ true → symbol c b s ≡ Some g → is_symbol b ≡ true
symbol_kind c b s g h = go (b == c) (λ e. grind (arith, nat_tests))
  where
    go : (t : Bool) → (t ≡ true → c ≡ b) → (if t then Some s else None) ≡ Some g → is_symbol b ≡ true
    go true e f = subst (λ (x : ℕ). is_symbol x ≡ true) (e refl) h
    go false e f = absurd cc

either_kind : (c b : ℕ) (s g : State) (o : Option State) → is_symbol c ≡ true → (o ≡ Some g → is_symbol b ≡ true) → (if b == c then Some s else o) ≡ Some g → is_symbol b ≡ true
either_kind c b s g o h k = go (b == c) (λ e. grind (arith, nat_tests))
  where
    go : (t : Bool) → (t ≡ true → c ≡ b) → (if t then Some s else o) ≡ Some g → is_symbol b ≡ true
    go true e f = subst (λ (x : ℕ). is_symbol x ≡ true) (e refl) h
    go false e f = k f

opening_kind : (libs : List (List ℕ)) (o : Opening) (b : ℕ) (g : State) → opening_symbol libs o b ≡ Some g → is_symbol b ≡ true
unfolding opening_symbol
opening_kind libs Libs b g e = absurd cc
opening_kind libs LibText b g e = absurd cc
opening_kind libs (LibEnd w) b g e = symbol_kind 59 b _ g refl e
opening_kind libs RingName b g e = absurd cc
opening_kind libs (RingEquals r) b g e = symbol_kind 61 b _ g refl e
opening_kind libs (Characteristic r) b g e = absurd cc
opening_kind libs (CharacteristicEnd r c) b g e = symbol_kind 44 b _ g refl e
opening_kind libs (Variables r c) b g e = symbol_kind 40 b _ g refl e
opening_kind libs (Variable r c vs) b g e = absurd cc
opening_kind libs (VariableEnd r c vs) b g e = either_kind 44 b _ g _ refl (symbol_kind 41 b _ g refl) e
opening_kind libs (VariablesEnd r c p vs) b g e = symbol_kind 44 b _ g refl e
opening_kind libs (Order r c p vs) b g e = absurd cc
opening_kind libs (RingEnd r c p vs) b g e = symbol_kind 59 b _ g refl e

matrix_kind : (s : Script) (k : Bool) (m : Matrix) (b : ℕ) (g : State) → matrix_symbol s k m b ≡ Some g → is_symbol b ≡ true
unfolding matrix_symbol
matrix_kind s k (Rows n) b g e = absurd cc
matrix_kind s k (RowsEnd n r) b g e = symbol_kind 93 b _ g refl e
matrix_kind s k (ColsStart n r) b g e = symbol_kind 91 b _ g refl e
matrix_kind s k (Cols n r) b g e = absurd cc
matrix_kind s k (ColsEnd n r c) b g e = symbol_kind 93 b _ g refl e
matrix_kind s k (MatrixEquals n r c) b g e = symbol_kind 61 b _ g refl e
matrix_kind s k (EntryStart n r c es) b g e = symbol_kind 45 b _ g refl e
matrix_kind s k (Digits n r c es) b g e = absurd cc
matrix_kind s k (EntryEnd n r c es) b g e = either_kind 44 b _ g _ refl (symbol_kind 59 b _ g refl) e

call_kind : (s : Script) (k : Bool) (c : Call) (b : ℕ) (g : State) → call_symbol s k c b ≡ Some g → is_symbol b ≡ true
unfolding call_symbol
call_kind s k (Second x) b g e = absurd cc
call_kind s k (SecondEnd x y) b g e = symbol_kind 44 b _ g refl e
call_kind s k (Third x y) b g e = absurd cc
call_kind s k (ThirdEnd x y z) b g e = symbol_kind 61 b _ g refl e
call_kind s k (InvariantRing x y z) b g e = absurd cc
call_kind s k (CallOpen x y z) b g e = symbol_kind 40 b _ g refl e
call_kind s k (Argument x y z ws) b g e = absurd cc
call_kind s k (ArgumentEnd x y z ws) b g e = either_kind 44 b _ g _ refl (symbol_kind 41 b _ g refl) e
call_kind s k (CallEnd x y z ws) b g e = symbol_kind 59 b _ g refl e

print_kind : (s : Script) (k : Bool) (p : Printing) (b : ℕ) (g : State) → print_symbol s k p b ≡ Some g → is_symbol b ≡ true
unfolding print_symbol
print_kind s k PrintOpen b g e = symbol_kind 40 b _ g refl e
print_kind s k PrintName b g e = absurd cc
print_kind s k (PrintClose n) b g e = symbol_kind 41 b _ g refl e
print_kind s k (PrintEnd n word) b g e = symbol_kind 59 b _ g refl e

begin_kind : (s : Script) (k : Bool) (n : List ℕ) (b : ℕ) (g : State) → (if k then None else symbol 44 b (After s k (InCall (Second n)))) ≡ Some g → is_symbol b ≡ true
begin_kind s true n b g e = absurd cc
begin_kind s false n b g e = symbol_kind 44 b _ g refl e

body_kind : (s : Script) (k : Bool) (body : Body) (b : ℕ) (g : State) → body_symbol s k body b ≡ Some g → is_symbol b ≡ true
unfolding body_symbol
body_kind s k Items b g e = absurd cc
body_kind s k ItemText b g e = absurd cc
body_kind s k (ItemTextEnd w) b g e = symbol_kind 59 b _ g refl e
body_kind s k MatrixName b g e = absurd cc
body_kind s k (MatrixNamed n) b g e = either_kind 91 b _ g _ refl (begin_kind s k n b g) e
body_kind s k (InMatrix m) b g e = matrix_kind s k m b g e
body_kind s k (InCall c) b g e = call_kind s k c b g e
body_kind s k (InPrint p) b g e = print_kind s k p b g e

pub taken_symbol : (s : State) (b : ℕ) (g : State) → next_symbol s b ≡ Some g → is_symbol b ≡ true
unfolding next_symbol
taken_symbol (Before libs o) b g e = opening_kind libs o b g e
taken_symbol (After s k body) b g e = body_kind s k body b g e

-- a beginning of a word that is taken may stand
keyword_front : (k w u rest : List ℕ) (s g : State) → u ++ rest ≡ w → (if bytes_eq w k then Some s else None) ≡ Some g → begins u k ≡ true
keyword_front k w u rest s g e = go (bytes_eq w k) (bytes_eq-Decides w k)
  where
    go : (t : Bool) → Decides t (w ≡ k) → (if t then Some s else None) ≡ Some g → begins u k ≡ true
    go true d f = begins_word u rest k (e ∙ d.0 refl)
    go false d f = absurd cc

libs_front : (w u rest : List ℕ) (s : State) (o : Option State) (g : State) → u ++ rest ≡ w → (o ≡ Some g → begins u (codes "ring") ≡ true) → (if bytes_eq w (codes "LIB") then Some s else o) ≡ Some g → begins u (codes "LIB") || begins u (codes "ring") ≡ true
libs_front w u rest s o g e k = go (bytes_eq w (codes "LIB")) (bytes_eq-Decides w (codes "LIB"))
  where
    right : (t u : Bool) → u ≡ true → t || u ≡ true
    right true u e = refl
    right false u e = e

    go : (t : Bool) → Decides t (w ≡ codes "LIB") → (if t then Some s else o) ≡ Some g → begins u (codes "LIB") || begins u (codes "ring") ≡ true
    go true d f = ap (λ (t : Bool). t || begins u (codes "ring")) (begins_word u rest (codes "LIB") (e ∙ d.0 refl))
    go false d f = right (begins u (codes "LIB")) (begins u (codes "ring")) (k f)

opening_begins : (libs : List (List ℕ)) (o : Opening) (w u rest : List ℕ) (g : State) → u ++ rest ≡ w → opening_word libs o w ≡ Some g → opening_front o u ≡ true
unfolding opening_word
opening_begins libs Libs w u rest g e h = libs_front w u rest _ _ g e (keyword_front (codes "ring") w u rest _ g e) h
opening_begins libs LibText w u rest g e h = absurd cc
opening_begins libs (LibEnd t) w u rest g e h = absurd cc
opening_begins libs RingName w u rest g e h = refl
opening_begins libs (RingEquals r) w u rest g e h = absurd cc
opening_begins libs (Characteristic r) w u rest g e h = absurd cc
opening_begins libs (CharacteristicEnd r c) w u rest g e h = absurd cc
opening_begins libs (Variables r c) w u rest g e h = refl
opening_begins libs (Variable r c vs) w u rest g e h = refl
opening_begins libs (VariableEnd r c vs) w u rest g e h = absurd cc
opening_begins libs (VariablesEnd r c p vs) w u rest g e h = absurd cc
opening_begins libs (Order r c p vs) w u rest g e h = keyword_front (codes "dp") w u rest _ g e h
opening_begins libs (RingEnd r c p vs) w u rest g e h = absurd cc

call_begins : (s : Script) (k : Bool) (c : Call) (w u rest : List ℕ) (g : State) → u ++ rest ≡ w → call_word s k c w ≡ Some g → call_front c u ≡ true
unfolding call_word
call_begins s k (Second x) w u rest g e h = refl
call_begins s k (SecondEnd x y) w u rest g e h = absurd cc
call_begins s k (Third x y) w u rest g e h = refl
call_begins s k (ThirdEnd x y z) w u rest g e h = absurd cc
call_begins s k (InvariantRing x y z) w u rest g e h = keyword_front (codes "invariant_ring") w u rest _ g e h
call_begins s k (CallOpen x y z) w u rest g e h = absurd cc
call_begins s k (Argument x y z ws) w u rest g e h = refl
call_begins s k (ArgumentEnd x y z ws) w u rest g e h = absurd cc
call_begins s k (CallEnd x y z ws) w u rest g e h = absurd cc

print_begins : (s : Script) (k : Bool) (p : Printing) (w u : List ℕ) (g : State) → printing_word s k p w ≡ Some g → print_front p u ≡ true
unfolding printing_word
print_begins s k PrintOpen w u g h = absurd cc
print_begins s k PrintName w u g h = refl
print_begins s k (PrintClose n) w u g h = absurd cc
print_begins s k (PrintEnd n word) w u g h = absurd cc

body_begins : (s : Script) (k : Bool) (body : Body) (w u rest : List ℕ) (g : State) → u ++ rest ≡ w → body_word s k body w ≡ Some g → body_front body u ≡ true
unfolding body_word
body_begins s k Items w u rest g e h = refl
body_begins s k ItemText w u rest g e h = absurd cc
body_begins s k (ItemTextEnd t) w u rest g e h = absurd cc
body_begins s k MatrixName w u rest g e h = refl
body_begins s k (MatrixNamed n) w u rest g e h = absurd cc
body_begins s k (InMatrix m) w u rest g e h = absurd cc
body_begins s k (InCall c) w u rest g e h = call_begins s k c w u rest g e h
body_begins s k (InPrint p) w u rest g e h = print_begins s k p w u g h

pub taken_front : (s : State) (w u rest : List ℕ) (g : State) → u ++ rest ≡ w → next_word s w ≡ Some g → word_front s u ≡ true
unfolding next_word
taken_front (Before libs o) w u rest g e h = opening_begins libs o w u rest g e h
taken_front (After s k body) w u rest g e h = body_begins s k body w u rest g e h

matrix_takes : (s : Script) (k : Bool) (m : Matrix) (w : List ℕ) (g : State) → matrix_number s k m w ≡ Some g → is_some (matrix_number s k m []) ≡ true
unfolding matrix_number
matrix_takes s k (Rows n) w g h = refl
matrix_takes s k (RowsEnd n r) w g h = absurd cc
matrix_takes s k (ColsStart n r) w g h = absurd cc
matrix_takes s k (Cols n r) w g h = refl
matrix_takes s k (ColsEnd n r c) w g h = absurd cc
matrix_takes s k (MatrixEquals n r c) w g h = absurd cc
matrix_takes s k (EntryStart n r c es) w g h = refl
matrix_takes s k (Digits n r c es) w g h = refl
matrix_takes s k (EntryEnd n r c es) w g h = absurd cc

pub number_takes : (s : State) (w : List ℕ) (g : State) → next_number s w ≡ Some g → takes_number s ≡ true
unfolding next_number body_number opening_number
number_takes (Before libs (Characteristic r)) w g h = refl
number_takes (After s k (InMatrix m)) w g h = matrix_takes s k m w g h
number_takes s w g h = absurd cc

pub text_takes : (s : State) (w : List ℕ) (g : State) → next_text s w ≡ Some g → takes_text s ≡ true
unfolding next_text body_text opening_text
text_takes (Before libs LibText) w g h = refl
text_takes (After s k ItemText) w g h = refl
text_takes s w g h = absurd cc

-- comments
pub line_run : (g : State) (bs rest : List ℕ) → list_all (λ b. not (b == 10)) bs ≡ true → run (at g Line) (bs ++ rest) ≡ run (at g Line) rest
unfolding step_in
line_run g [] rest h = refl
line_run g (b ∷ bs) rest h =
    let parts = and_parts (not (b == 10)) (list_all (λ b. not (b == 10)) bs) h in
    ap (λ (t : Bool). (if t then Some (at g Between) else Some (at g Line)) >>= λ s'. run s' (bs ++ rest)) (not-true (b == 10) parts.0) ∙ line_run g bs rest parts.1

pub block_run : (g : State) (star : Bool) (bs rest : List ℕ) → is_open star bs ≡ true → run (at g (Block star)) (bs ++ 42 ∷ 47 ∷ rest) ≡ run (at g Between) rest
unfolding step_in in_block
block_run g true [] rest h = refl
block_run g false [] rest h = refl
block_run g star (b ∷ bs) rest h =
    let parts = and_parts (not (star && b == 47)) (is_open (b == 42) bs) h in
    ap (λ (t : Bool). (if t then Some (at g Between) else Some (at g (Block (b == 42)))) >>= λ s'. run s' (bs ++ 42 ∷ 47 ∷ rest)) (not-true (star && b == 47) parts.0) ∙ block_run g (b == 42) bs rest parts.1

-- strings, numbers, words
pub string_run : (g : State) (u w rest : List ℕ) → list_all is_string_byte w ≡ true → run (at g (InText u)) (w ++ rest) ≡ run (at g (InText (u ++ w))) rest
unfolding step_in in_text
string_run g u [] rest h = ap (λ (l : List ℕ). run (at g (InText l)) rest) (sym (append-nil u))
string_run g u (b ∷ w) rest h =
    let parts = and_parts (is_string_byte b) (list_all is_string_byte w) h in
    let two = and_parts (not (b == 34)) (not (b == 10)) parts.0 in
    ap₂ (λ (t n : Bool). (if t then (next_text g u >>= λ g'. Some (at g' Between)) else if n then None else Some (at g (InText (u ++ b ∷ [])))) >>= λ s'. run s' (w ++ rest)) (not-true (b == 34) two.0) (not-true (b == 10) two.1)
    ∙ string_run g (u ++ b ∷ []) w rest parts.1 ∙ ap (λ (l : List ℕ). run (at g (InText l)) rest) (append_assoc u (b ∷ []) w)

pub number_run : (g : State) (u w rest : List ℕ) → list_all is_ascii_digit w ≡ true → run (at g (InNumber u)) (w ++ rest) ≡ run (at g (InNumber (u ++ w))) rest
unfolding step_in in_number
number_run g u [] rest h = ap (λ (l : List ℕ). run (at g (InNumber l)) rest) (sym (append-nil u))
number_run g u (b ∷ w) rest h =
    let parts = and_parts (is_ascii_digit b) (list_all is_ascii_digit w) h in
    ap (λ (t : Bool). (if t then Some (at g (InNumber (u ++ b ∷ []))) else if is_letter b then None else (next_number g u >>= λ g'. between g' b)) >>= λ s'. run s' (w ++ rest)) parts.0
    ∙ number_run g (u ++ b ∷ []) w rest parts.1 ∙ ap (λ (l : List ℕ). run (at g (InNumber l)) rest) (append_assoc u (b ∷ []) w)

-- the tests of a byte where nothing is open
module _ (g : State) (b : ℕ) where
  pub blank_step : is_blank b ≡ true → step (at g Between) b ≡ Some (at g Between)
  unfolding step_in between
  blank_step e = ap (λ (t : Bool). if t then Some (at g Between) else if b == 47 then Some (at g Slash) else if b == 34 then (if takes_text g then Some (at g (InText [])) else None) else if is_letter b then (if word_front g (b ∷ []) then Some (at g (InWord (b ∷ []))) else None) else if is_ascii_digit b then (if takes_number g then Some (at g (InNumber (b ∷ []))) else None) else (next_symbol g b >>= λ g'. Some (at g' Between))) e

  plain_step : is_blank b ≡ false → b == 47 ≡ false → b == 34 ≡ false → step (at g Between) b ≡ (if is_letter b then (if word_front g (b ∷ []) then Some (at g (InWord (b ∷ []))) else None) else if is_ascii_digit b then (if takes_number g then Some (at g (InNumber (b ∷ []))) else None) else (next_symbol g b >>= λ g'. Some (at g' Between)))
  unfolding step_in between
  plain_step e f h =
      let after : Option Scan = if is_letter b then (if word_front g (b ∷ []) then Some (at g (InWord (b ∷ []))) else None) else if is_ascii_digit b then (if takes_number g then Some (at g (InNumber (b ∷ []))) else None) else (next_symbol g b >>= λ g'. Some (at g' Between)) in
      let quoted : Option Scan = if takes_text g then Some (at g (InText [])) else None in
      ap (λ (t : Bool). if t then Some (at g Between) else if b == 47 then Some (at g Slash) else if b == 34 then quoted else after) e
      ∙ ap (λ (t : Bool). if t then Some (at g Slash) else if b == 34 then quoted else after) f
      ∙ ap (λ (t : Bool). if t then quoted else after) h

  pub letter_step : is_letter b ≡ true → word_front g (b ∷ []) ≡ true → step (at g Between) b ≡ Some (at g (InWord (b ∷ [])))
  letter_step e f =
      let rest : Option Scan = if is_ascii_digit b then (if takes_number g then Some (at g (InNumber (b ∷ []))) else None) else (next_symbol g b >>= λ g'. Some (at g' Between)) in
      plain_step (grind (arith, nat_tests)) (grind (arith, nat_tests)) (grind (arith, nat_tests))
      ∙ ap₂ (λ (t u : Bool). if t then (if u then Some (at g (InWord (b ∷ []))) else None) else rest) e f

  pub digit_step : is_ascii_digit b ≡ true → takes_number g ≡ true → step (at g Between) b ≡ Some (at g (InNumber (b ∷ [])))
  digit_step e f =
      let no_letter : is_letter b ≡ false = grind (arith, nat_tests) in
      plain_step (grind (arith, nat_tests)) (grind (arith, nat_tests)) (grind (arith, nat_tests))
      ∙ ap (λ (t : Bool). if t then (if word_front g (b ∷ []) then Some (at g (InWord (b ∷ []))) else None) else if is_ascii_digit b then (if takes_number g then Some (at g (InNumber (b ∷ []))) else None) else (next_symbol g b >>= λ g'. Some (at g' Between))) no_letter
      ∙ ap₂ (λ (t u : Bool). if t then (if u then Some (at g (InNumber (b ∷ []))) else None) else (next_symbol g b >>= λ g'. Some (at g' Between))) e f

  pub symbol_step : (g' : State) → next_symbol g b ≡ Some g' → is_symbol b ≡ true → step (at g Between) b ≡ Some (at g' Between)
  symbol_step g' e s =
      let no_letter : is_letter b ≡ false = grind (arith, nat_tests) in
      let no_digit : is_ascii_digit b ≡ false = grind (arith, nat_tests) in
      plain_step (grind (arith, nat_tests)) (grind (arith, nat_tests)) (grind (arith, nat_tests))
      ∙ ap₂ (λ (t u : Bool). if t then (if word_front g (b ∷ []) then Some (at g (InWord (b ∷ []))) else None) else if u then (if takes_number g then Some (at g (InNumber (b ∷ []))) else None) else (next_symbol g b >>= λ g'. Some (at g' Between))) no_letter no_digit
      ∙ ap (λ (o : Option State). o >>= λ g'. Some (at g' Between)) e
