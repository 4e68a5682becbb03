-- Reading the tokens of a script one by one: what was read so far, and which tokens may follow.
--
--   Opening, Matrix, Call, Printing, Body   what was read last up to the ring's end, of a matrix after its `[`, of a call after its first name, of a
--                           print, and after the ring
--   State                   the strings of the libs before the ring, and what was read last; or the script so far, whether a call is among its
--                           items, and what was read last
--   start                   nothing is read yet
--   symbol c b s, keyword k w s, named w s   the state s where the symbol b is c, where the word w is k, where it is no reserved word
--   with_item s i           the script with one item more
--   opening_symbol, matrix_symbol, call_symbol, print_symbol, body_symbol, next_symbol   the state after a symbol more, in each part and in any;
--                           None where it may not follow
--   opening_word, call_word, printing_word, body_word, next_word, matrix_number, opening_number, body_number, next_number, opening_text,
--   body_text, next_text, next   the same after a word, a number, a string, any token
--   takes_number, takes_text   whether a number or a string may follow
--   begins w k              the word k begins with w
--   opening_front, call_front, print_front, body_front, word_front s w   some word that may follow begins with w, which is a letter and
--                           bytes of names
--   parse s ts              the state after these tokens
--   whole s                 the script, where it may end here
use Rattle.std.specs.Prelude.{ℕ, Bool, true, false, ◌&&◌, ◌||◌, ◌==◌, List, [], ◌∷◌, ◌++◌, codes, Option, Some, None, if◌then◌else◌}
use Rattle.std.specs.Str.{bytes_eq}
use Rattle.alg_core.specs.Names.{is_reserved}
use Rattle.finvar_text.specs.Syntax.{Entry, Item, Lib, Declared, Printed, Called, Script, Token, Word, Number, Text, Symbol}

pub data Opening : Type 0 where
  Libs : Opening
  LibText : Opening
  LibEnd : List ℕ → Opening
  RingName : Opening
  RingEquals : List ℕ → Opening
  Characteristic : List ℕ → Opening
  CharacteristicEnd : List ℕ → List ℕ → Opening
  Variables : List ℕ → List ℕ → Opening
  Variable : List ℕ → List ℕ → List (List ℕ) → Opening
  VariableEnd : List ℕ → List ℕ → List (List ℕ) → Opening
  VariablesEnd : List ℕ → List ℕ → Bool → List (List ℕ) → Opening
  Order : List ℕ → List ℕ → Bool → List (List ℕ) → Opening
  RingEnd : List ℕ → List ℕ → Bool → List (List ℕ) → Opening

pub data Matrix : Type 0 where
  Rows : List ℕ → Matrix
  RowsEnd : List ℕ → List ℕ → Matrix
  ColsStart : List ℕ → List ℕ → Matrix
  Cols : List ℕ → List ℕ → Matrix
  ColsEnd : List ℕ → List ℕ → List ℕ → Matrix
  MatrixEquals : List ℕ → List ℕ → List ℕ → Matrix
  EntryStart : List ℕ → List ℕ → List ℕ → List Entry → Matrix
  Digits : List ℕ → List ℕ → List ℕ → List Entry → Matrix
  EntryEnd : List ℕ → List ℕ → List ℕ → List Entry → Matrix

pub data Call : Type 0 where
  Second : List ℕ → Call
  SecondEnd : List ℕ → List ℕ → Call
  Third : List ℕ → List ℕ → Call
  ThirdEnd : List ℕ → List ℕ → List ℕ → Call
  InvariantRing : List ℕ → List ℕ → List ℕ → Call
  CallOpen : List ℕ → List ℕ → List ℕ → Call
  Argument : List ℕ → List ℕ → List ℕ → List (List ℕ) → Call
  ArgumentEnd : List ℕ → List ℕ → List ℕ → List (List ℕ) → Call
  CallEnd : List ℕ → List ℕ → List ℕ → List (List ℕ) → Call

pub data Printing : Type 0 where
  PrintOpen : Printing
  PrintName : Printing
  PrintClose : List ℕ → Printing
  PrintEnd : List ℕ → Bool → Printing

pub data Body : Type 0 where
  Items : Body
  ItemText : Body
  ItemTextEnd : List ℕ → Body
  MatrixName : Body
  MatrixNamed : List ℕ → Body
  InMatrix : Matrix → Body
  InCall : Call → Body
  InPrint : Printing → Body

pub data State : Type 0 where
  Before : List (List ℕ) → Opening → State
  After : Script → Bool → Body → State

abbrev pub start : State
start = Before [] Libs

abbrev pub symbol : ℕ → ℕ → State → Option State
symbol c b s = if b == c then Some s else None

abbrev pub keyword : List ℕ → List ℕ → State → Option State
keyword k w s = if bytes_eq w k then Some s else None

abbrev pub named : List ℕ → State → Option State
named w s = if is_reserved w then None else Some s

unfoldable pub opening_symbol : List (List ℕ) → Opening → ℕ → Option State
opening_symbol libs Libs b = None
opening_symbol libs LibText b = None
opening_symbol libs (LibEnd w) b = symbol 59 b (Before (libs ++ w ∷ []) Libs)
opening_symbol libs RingName b = None
opening_symbol libs (RingEquals r) b = symbol 61 b (Before libs (Characteristic r))
opening_symbol libs (Characteristic r) b = None
opening_symbol libs (CharacteristicEnd r c) b = symbol 44 b (Before libs (Variables r c))
opening_symbol libs (Variables r c) b = symbol 40 b (Before libs (Variable r c []))
opening_symbol libs (Variable r c vs) b = None
opening_symbol libs (VariableEnd r c vs) b = if b == 44 then Some (Before libs (Variable r c vs)) else symbol 41 b (Before libs (VariablesEnd r c true vs))
opening_symbol libs (VariablesEnd r c p vs) b = symbol 44 b (Before libs (Order r c p vs))
opening_symbol libs (Order r c p vs) b = None
opening_symbol libs (RingEnd r c p vs) b = symbol 59 b (After (record { libs = libs; ring = r; characteristic = c; in_parentheses = p; variables = vs; items = [] }) false Items)

-- with one item more
abbrev pub with_item : Script → Item → Script
with_item s i = record s { items = s.items ++ i ∷ [] }

unfoldable pub matrix_symbol : Script → Bool → Matrix → ℕ → Option State
matrix_symbol s k (Rows n) b = None
matrix_symbol s k (RowsEnd n r) b = symbol 93 b (After s k (InMatrix (ColsStart n r)))
matrix_symbol s k (ColsStart n r) b = symbol 91 b (After s k (InMatrix (Cols n r)))
matrix_symbol s k (Cols n r) b = None
matrix_symbol s k (ColsEnd n r c) b = symbol 93 b (After s k (InMatrix (MatrixEquals n r c)))
matrix_symbol s k (MatrixEquals n r c) b = symbol 61 b (After s k (InMatrix (EntryStart n r c [])))
matrix_symbol s k (EntryStart n r c es) b = symbol 45 b (After s k (InMatrix (Digits n r c es)))
matrix_symbol s k (Digits n r c es) b = None
matrix_symbol s k (EntryEnd n r c es) b =
    if b == 44 then Some (After s k (InMatrix (EntryStart n r c es)))
    else symbol 59 b (After (with_item s (Declared (record { name = n; rows = r; cols = c; entries = es }))) k Items)

unfoldable pub call_symbol : Script → Bool → Call → ℕ → Option State
call_symbol s k (Second x) b = None
call_symbol s k (SecondEnd x y) b = symbol 44 b (After s k (InCall (Third x y)))
call_symbol s k (Third x y) b = None
call_symbol s k (ThirdEnd x y z) b = symbol 61 b (After s k (InCall (InvariantRing x y z)))
call_symbol s k (InvariantRing x y z) b = None
call_symbol s k (CallOpen x y z) b = symbol 40 b (After s k (InCall (Argument x y z [])))
call_symbol s k (Argument x y z ws) b = None
call_symbol s k (ArgumentEnd x y z ws) b = if b == 44 then Some (After s k (InCall (Argument x y z ws))) else symbol 41 b (After s k (InCall (CallEnd x y z ws)))
call_symbol s k (CallEnd x y z ws) b = symbol 59 b (After (with_item s (Called (record { first = x; second = y; third = z; arguments = ws }))) true Items)

unfoldable pub print_symbol : Script → Bool → Printing → ℕ → Option State
print_symbol s k PrintOpen b = symbol 40 b (After s k (InPrint PrintName))
print_symbol s k PrintName b = None
print_symbol s k (PrintClose n) b = symbol 41 b (After s k (InPrint (PrintEnd n true)))
print_symbol s k (PrintEnd n word) b = symbol 59 b (After (with_item s (Printed n word)) k Items)

unfoldable pub body_symbol : Script → Bool → Body → ℕ → Option State
body_symbol s k Items b = None
body_symbol s k ItemText b = None
body_symbol s k (ItemTextEnd w) b = symbol 59 b (After (with_item s (Lib w)) k Items)
body_symbol s k MatrixName b = None
body_symbol s k (MatrixNamed n) b = if b == 91 then Some (After s k (InMatrix (Rows n))) else if k then None else symbol 44 b (After s k (InCall (Second n)))
body_symbol s k (InMatrix m) b = matrix_symbol s k m b
body_symbol s k (InCall c) b = call_symbol s k c b
body_symbol s k (InPrint p) b = print_symbol s k p b

unfoldable pub next_symbol : State → ℕ → Option State
next_symbol (Before libs o) b = opening_symbol libs o b
next_symbol (After s k body) b = body_symbol s k body b

unfoldable pub opening_word : List (List ℕ) → Opening → List ℕ → Option State
opening_word libs Libs w = if bytes_eq w (codes "LIB") then Some (Before libs LibText) else keyword (codes "ring") w (Before libs RingName)
opening_word libs LibText w = None
opening_word libs (LibEnd t) w = None
opening_word libs RingName w = named w (Before libs (RingEquals w))
opening_word libs (RingEquals r) w = None
opening_word libs (Characteristic r) w = None
opening_word libs (CharacteristicEnd r c) w = None
opening_word libs (Variables r c) w = named w (Before libs (VariablesEnd r c false (w ∷ [])))
opening_word libs (Variable r c vs) w = named w (Before libs (VariableEnd r c (vs ++ w ∷ [])))
opening_word libs (VariableEnd r c vs) w = None
opening_word libs (VariablesEnd r c p vs) w = None
opening_word libs (Order r c p vs) w = keyword (codes "dp") w (Before libs (RingEnd r c p vs))
opening_word libs (RingEnd r c p vs) w = None

unfoldable pub call_word : Script → Bool → Call → List ℕ → Option State
call_word s k (Second x) w = named w (After s k (InCall (SecondEnd x w)))
call_word s k (SecondEnd x y) w = None
call_word s k (Third x y) w = named w (After s k (InCall (ThirdEnd x y w)))
call_word s k (ThirdEnd x y z) w = None
call_word s k (InvariantRing x y z) w = keyword (codes "invariant_ring") w (After s k (InCall (CallOpen x y z)))
call_word s k (CallOpen x y z) w = None
call_word s k (Argument x y z ws) w = named w (After s k (InCall (ArgumentEnd x y z (ws ++ w ∷ []))))
call_word s k (ArgumentEnd x y z ws) w = None
call_word s k (CallEnd x y z ws) w = None

unfoldable pub printing_word : Script → Bool → Printing → List ℕ → Option State
printing_word s k PrintOpen w = None
printing_word s k PrintName w = named w (After s k (InPrint (PrintClose w)))
printing_word s k (PrintClose n) w = None
printing_word s k (PrintEnd n word) w = None

unfoldable pub body_word : Script → Bool → Body → List ℕ → Option State
body_word s k Items w =
    if bytes_eq w (codes "LIB") then Some (After s k ItemText)
    else if bytes_eq w (codes "matrix") then Some (After s k MatrixName)
    else if bytes_eq w (codes "print") then Some (After s k (InPrint PrintOpen))
    else named w (After s k (InPrint (PrintEnd w false)))
body_word s k ItemText w = None
body_word s k (ItemTextEnd t) w = None
body_word s k MatrixName w = named w (After s k (MatrixNamed w))
body_word s k (MatrixNamed n) w = None
body_word s k (InMatrix m) w = None
body_word s k (InCall c) w = call_word s k c w
body_word s k (InPrint p) w = printing_word s k p w

unfoldable pub next_word : State → List ℕ → Option State
next_word (Before libs o) w = opening_word libs o w
next_word (After s k body) w = body_word s k body w

unfoldable pub matrix_number : Script → Bool → Matrix → List ℕ → Option State
matrix_number s k (Rows n) w = Some (After s k (InMatrix (RowsEnd n w)))
matrix_number s k (RowsEnd n r) w = None
matrix_number s k (ColsStart n r) w = None
matrix_number s k (Cols n r) w = Some (After s k (InMatrix (ColsEnd n r w)))
matrix_number s k (ColsEnd n r c) w = None
matrix_number s k (MatrixEquals n r c) w = None
matrix_number s k (EntryStart n r c es) w = Some (After s k (InMatrix (EntryEnd n r c (es ++ record { is_negative = false; digits = w } ∷ []))))
matrix_number s k (Digits n r c es) w = Some (After s k (InMatrix (EntryEnd n r c (es ++ record { is_negative = true; digits = w } ∷ []))))
matrix_number s k (EntryEnd n r c es) w = None

unfoldable pub opening_number : List (List ℕ) → Opening → List ℕ → Option State
opening_number libs (Characteristic r) w = Some (Before libs (CharacteristicEnd r w))
opening_number libs o w = None

unfoldable pub body_number : Script → Bool → Body → List ℕ → Option State
body_number s k (InMatrix m) w = matrix_number s k m w
body_number s k body w = None

unfoldable pub next_number : State → List ℕ → Option State
next_number (Before libs o) w = opening_number libs o w
next_number (After s k body) w = body_number s k body w

unfoldable pub opening_text : List (List ℕ) → Opening → List ℕ → Option State
opening_text libs LibText w = Some (Before libs (LibEnd w))
opening_text libs o w = None

unfoldable pub body_text : Script → Bool → Body → List ℕ → Option State
body_text s k ItemText w = Some (After s k (ItemTextEnd w))
body_text s k body w = None

unfoldable pub next_text : State → List ℕ → Option State
next_text (Before libs o) w = opening_text libs o w
next_text (After s k body) w = body_text s k body w

abbrev pub next : State → Token → Option State
next s (Word w) = next_word s w
next s (Number w) = next_number s w
next s (Text w) = next_text s w
next s (Symbol b) = next_symbol s b

abbrev pub is_some : {A : Type 0} → Option A → Bool
is_some None = false
is_some (Some x) = true

abbrev pub takes_number : State → Bool
takes_number s = is_some (next_number s [])

abbrev pub takes_text : State → Bool
takes_text s = is_some (next_text s [])

abbrev pub begins : List ℕ → List ℕ → Bool
begins [] k = true
begins (b ∷ w) [] = false
begins (b ∷ w) (c ∷ k) = b == c && begins w k

abbrev pub call_front : Call → List ℕ → Bool
call_front (Second x) w = true
call_front (SecondEnd x y) w = false
call_front (Third x y) w = true
call_front (ThirdEnd x y z) w = false
call_front (InvariantRing x y z) w = begins w (codes "invariant_ring")
call_front (CallOpen x y z) w = false
call_front (Argument x y z ws) w = true
call_front (ArgumentEnd x y z ws) w = false
call_front (CallEnd x y z ws) w = false

abbrev pub print_front : Printing → List ℕ → Bool
print_front PrintOpen w = false
print_front PrintName w = true
print_front (PrintClose n) w = false
print_front (PrintEnd n word) w = false

abbrev pub opening_front : Opening → List ℕ → Bool
opening_front Libs w = begins w (codes "LIB") || begins w (codes "ring")
opening_front LibText w = false
opening_front (LibEnd t) w = false
opening_front RingName w = true
opening_front (RingEquals r) w = false
opening_front (Characteristic r) w = false
opening_front (CharacteristicEnd r c) w = false
opening_front (Variables r c) w = true
opening_front (Variable r c vs) w = true
opening_front (VariableEnd r c vs) w = false
opening_front (VariablesEnd r c p vs) w = false
opening_front (Order r c p vs) w = begins w (codes "dp")
opening_front (RingEnd r c p vs) w = false

abbrev pub body_front : Body → List ℕ → Bool
body_front Items w = true
body_front ItemText w = false
body_front (ItemTextEnd t) w = false
body_front MatrixName w = true
body_front (MatrixNamed n) w = false
body_front (InMatrix m) w = false
body_front (InCall c) w = call_front c w
body_front (InPrint p) w = print_front p w

abbrev pub word_front : State → List ℕ → Bool
word_front (Before libs o) w = opening_front o w
word_front (After s k body) w = body_front body w

abbrev pub ◌>>=◌ : {A B : Type 0} → Option A → (A → Option B) → Option B
(Some x) >>= f = f x
None >>= f = None

infixl 10 ◌>>=◌
abbrev pub parse : State → List Token → Option State
parse s [] = Some s
parse s (t ∷ ts) = next s t >>= λ s'. parse s' ts

abbrev pub body_whole : Script → Body → Option Script
body_whole s Items = Some s
body_whole s ItemText = None
body_whole s (ItemTextEnd t) = None
body_whole s MatrixName = None
body_whole s (MatrixNamed n) = None
body_whole s (InMatrix m) = None
body_whole s (InCall c) = None
body_whole s (InPrint p) = None

abbrev pub whole : State → Option Script
whole (Before libs o) = None
whole (After s k body) = body_whole s body
