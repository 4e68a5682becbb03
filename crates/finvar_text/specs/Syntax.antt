-- The grammar of scripts: the tree of a script, its tokens, and how they are spelled. A text is a spelling of a tree; each text has one.
--
--   Entry, Matrix, Call, Item, Script   the tree; numbers are kept as their digits
--   Token                  a word (a name or a reserved word), a number, a string (its bytes between the quotes), or a symbol
--   lib_word, ring_word, matrix_word, print_word, invariant_ring_word, dp_word   the reserved words
--   comma, semicolon, equals, minus, opens, closes, opens_square, closes_square   the symbols `,` `;` `=` `-` `(` `)` `[` `]`
--   further f xs, listed f xs   the tokens f x of each x of xs, each after a comma, and with a comma between each two
--   joined f xs            the tokens f x of each x of xs, one after another
--   word_tokens, lib_tokens, entry_tokens, matrix_tokens, call_tokens, print_tokens, item_tokens, variables_tokens, ring_tokens, tokens
--                          the tokens of each part, and of a script
--   matrix_head, call_head, ring_head   those of a matrix up to its entries, of a call up to its arguments, of the ring up to its variables
--   IsName w               a name
--   is_number w, IsNumber w   digits, at least one
--   is_string_byte b, IsString w   a byte other than `"` and the newline; such bytes
--   IsSome xs              there is one at least
--   IsEntry, IsMatrix, IsCall, IsItem   names are names, numbers are numbers, strings are strings; there is an entry, and an argument
--   calls is               how many of the items are calls
--   IsScript s             each part is as it should be, there is one variable at least, and just one where there are no parentheses; and
--                          there is at most one call
--   Lexeme                 a blank, a comment to the end of its line, a comment between `/*` and `*/`, or a token
--   token_bytes t, lexeme_bytes l, spelling ls   the bytes of a token, of a lexeme, and of a list of them, one after another
--   tokens_of l, tokens_in ls   the tokens of a lexeme, and among the lexemes
--   is_blank b             space, tab, newline, carriage return
--   is_word w              a letter followed by letters, digits and underscores
--   is_open star bs        no `*/` is in the bytes, before which a `*` stands if star
--   IsToken t              words are words, numbers are numbers, strings are strings
--   IsLexeme l             blanks are blanks, no newline is in a comment to the end of its line and no `*/` in one between `/*` and `*/`, and
--                          tokens are tokens
--   Side, token_side t, side l   what a lexeme asks of the next one: nothing; that it is no word and no number; that it is a newline
--   is_solid p, is_newline l, may_follow p l, IsNext p l   the lexeme may stand after what asks p
--   AreJoined p ls         lexemes each of which may follow the one before, the first after what asks p
--   IsSpelled ts bytes     the bytes are lexemes each of which may follow the one before, and the tokens among them are ts
--   IsText s bytes         the bytes spell the tokens of the script s
--   IsFront bytes          the bytes begin some text
--   IsFirstFault bytes n   the bytes are no text, and the longest front among their beginnings has the length n
use Rattle.std.specs.Prelude.{◌≡◌, ◌↔◌, ℕ, suc, ◌≤◌, Bool, true, false, ◌&&◌, ◌||◌, ◌==◌, not, IsTrue, List, [], ◌∷◌, ◌++◌, length, take, All, codes, if◌then◌else◌}
use Rattle.std.specs.List.{list_all}
use Rattle.std.specs.Char.{is_ascii_digit}
use Rattle.alg_core.specs.Names.{is_name, is_letter, is_name_byte}

pub record Entry : Type 0 where
  pub is_negative : Bool
  pub digits : List ℕ

pub record Matrix : Type 0 where
  pub name : List ℕ
  pub rows : List ℕ
  pub cols : List ℕ
  pub entries : List Entry

pub record Call : Type 0 where
  pub first : List ℕ
  pub second : List ℕ
  pub third : List ℕ
  pub arguments : List (List ℕ)

-- Lib has the bytes between the quotes; Printed says whether the word `print` stands
pub data Item : Type 0 where
  Lib : List ℕ → Item
  Declared : Matrix → Item
  Printed : List ℕ → Bool → Item
  Called : Call → Item

-- libs are those before the ring
pub record Script : Type 0 where
  pub libs : List (List ℕ)
  pub ring : List ℕ
  pub characteristic : List ℕ
  pub in_parentheses : Bool
  pub variables : List (List ℕ)
  pub items : List Item

pub data Token : Type 0 where
  Word : List ℕ → Token
  Number : List ℕ → Token
  Text : List ℕ → Token
  Symbol : ℕ → Token

abbrev pub lib_word : Token
lib_word = Word (codes "LIB")

abbrev pub ring_word : Token
ring_word = Word (codes "ring")

abbrev pub matrix_word : Token
matrix_word = Word (codes "matrix")

abbrev pub print_word : Token
print_word = Word (codes "print")

abbrev pub invariant_ring_word : Token
invariant_ring_word = Word (codes "invariant_ring")

abbrev pub dp_word : Token
dp_word = Word (codes "dp")

abbrev pub comma : Token
comma = Symbol 44

abbrev pub semicolon : Token
semicolon = Symbol 59

abbrev pub equals : Token
equals = Symbol 61

abbrev pub minus : Token
minus = Symbol 45

abbrev pub opens : Token
opens = Symbol 40

abbrev pub closes : Token
closes = Symbol 41

abbrev pub opens_square : Token
opens_square = Symbol 91

abbrev pub closes_square : Token
closes_square = Symbol 93

-- each after a comma
abbrev pub further : {A : Type 0} → (A → List Token) → List A → List Token
further f [] = []
further f (x ∷ xs) = comma ∷ (f x ++ further f xs)

abbrev pub listed : {A : Type 0} → (A → List Token) → List A → List Token
listed f [] = []
listed f (x ∷ xs) = f x ++ further f xs

abbrev pub word_tokens : List ℕ → List Token
word_tokens w = Word w ∷ []

abbrev pub lib_tokens : List ℕ → List Token
lib_tokens w = lib_word ∷ Text w ∷ semicolon ∷ []

abbrev pub entry_tokens : Entry → List Token
entry_tokens e = (if e.is_negative then minus ∷ [] else []) ++ Number e.digits ∷ []

-- up to the entries
abbrev pub matrix_head : List ℕ → List ℕ → List ℕ → List Token
matrix_head name rows cols = matrix_word ∷ Word name ∷ opens_square ∷ Number rows ∷ closes_square ∷ opens_square ∷ Number cols ∷ closes_square ∷ equals ∷ []

abbrev pub matrix_tokens : Matrix → List Token
matrix_tokens m = matrix_head m.name m.rows m.cols ++ (listed entry_tokens m.entries ++ semicolon ∷ [])

-- up to the arguments
abbrev pub call_head : List ℕ → List ℕ → List ℕ → List Token
call_head first second third = matrix_word ∷ Word first ∷ comma ∷ Word second ∷ comma ∷ Word third ∷ equals ∷ invariant_ring_word ∷ opens ∷ []

abbrev pub call_tokens : Call → List Token
call_tokens c = call_head c.first c.second c.third ++ (listed word_tokens c.arguments ++ closes ∷ semicolon ∷ [])

abbrev pub print_tokens : List ℕ → Bool → List Token
print_tokens name true = print_word ∷ opens ∷ Word name ∷ closes ∷ semicolon ∷ []
print_tokens name false = Word name ∷ semicolon ∷ []

abbrev pub item_tokens : Item → List Token
item_tokens (Lib w) = lib_tokens w
item_tokens (Declared m) = matrix_tokens m
item_tokens (Printed name word) = print_tokens name word
item_tokens (Called c) = call_tokens c

-- one after another
abbrev pub joined : {A : Type 0} → (A → List Token) → List A → List Token
joined f [] = []
joined f (x ∷ xs) = f x ++ joined f xs

-- up to the variables
abbrev pub ring_head : List ℕ → List ℕ → List Token
ring_head name characteristic = ring_word ∷ Word name ∷ equals ∷ Number characteristic ∷ comma ∷ []

abbrev pub variables_tokens : Bool → List (List ℕ) → List Token
variables_tokens true names = opens ∷ (listed word_tokens names ++ closes ∷ [])
variables_tokens false names = listed word_tokens names

abbrev pub ring_tokens : List ℕ → List ℕ → Bool → List (List ℕ) → List Token
ring_tokens name characteristic in_parentheses names = ring_head name characteristic ++ (variables_tokens in_parentheses names ++ comma ∷ dp_word ∷ semicolon ∷ [])

abbrev pub tokens : Script → List Token
tokens s = joined lib_tokens s.libs ++ (ring_tokens s.ring s.characteristic s.in_parentheses s.variables ++ joined item_tokens s.items)

abbrev pub IsName : List ℕ → Type 0
IsName w = IsTrue (is_name w)

abbrev pub is_number : List ℕ → Bool
is_number [] = false
is_number (b ∷ bs) = list_all is_ascii_digit (b ∷ bs)

abbrev pub IsNumber : List ℕ → Type 0
IsNumber w = IsTrue (is_number w)

abbrev pub is_string_byte : ℕ → Bool
is_string_byte b = not (b == 34) && not (b == 10)

abbrev pub IsString : List ℕ → Type 0
IsString w = IsTrue (list_all is_string_byte w)

abbrev pub IsEntry : Entry → Type 0
IsEntry e = IsNumber e.digits

abbrev pub IsSome : {A : Type 0} → List A → Type 0
IsSome [] = ⊥
IsSome (x ∷ xs) = Unit {0}

pub record IsMatrix (m : Matrix) : Type 0 where
  pub name : IsName m.name
  pub rows : IsNumber m.rows
  pub cols : IsNumber m.cols
  pub entries : All IsEntry m.entries
  pub some : IsSome m.entries

pub record IsCall (c : Call) : Type 0 where
  pub first : IsName c.first
  pub second : IsName c.second
  pub third : IsName c.third
  pub arguments : All IsName c.arguments
  pub some : IsSome c.arguments

abbrev pub IsItem : Item → Type 0
IsItem (Lib w) = IsString w
IsItem (Declared m) = IsMatrix m
IsItem (Printed name word) = IsName name
IsItem (Called c) = IsCall c

abbrev pub calls : List Item → ℕ
calls [] = 0
calls (Lib w ∷ is) = calls is
calls (Declared m ∷ is) = calls is
calls (Printed name word ∷ is) = calls is
calls (Called c ∷ is) = suc (calls is)

pub record IsScript (s : Script) : Type 0 where
  pub libs : All IsString s.libs
  pub ring : IsName s.ring
  pub characteristic : IsNumber s.characteristic
  pub variables : All IsName s.variables
  pub some : IsSome s.variables
  pub single : s.in_parentheses ≡ false → length s.variables ≡ 1
  pub items : All IsItem s.items
  pub calls : calls s.items ≤ 1

-- Proper is a token
pub data Lexeme : Type 0 where
  Blank : ℕ → Lexeme
  LineComment : List ℕ → Lexeme
  BlockComment : List ℕ → Lexeme
  Proper : Token → Lexeme

abbrev pub token_bytes : Token → List ℕ
token_bytes (Word w) = w
token_bytes (Number w) = w
token_bytes (Text w) = 34 ∷ (w ++ 34 ∷ [])
token_bytes (Symbol b) = b ∷ []

abbrev pub lexeme_bytes : Lexeme → List ℕ
lexeme_bytes (Blank b) = b ∷ []
lexeme_bytes (LineComment bs) = 47 ∷ 47 ∷ bs
lexeme_bytes (BlockComment bs) = 47 ∷ 42 ∷ (bs ++ 42 ∷ 47 ∷ [])
lexeme_bytes (Proper t) = token_bytes t

abbrev pub spelling : List Lexeme → List ℕ
spelling [] = []
spelling (l ∷ ls) = lexeme_bytes l ++ spelling ls

abbrev pub tokens_of : Lexeme → List Token
tokens_of (Blank b) = []
tokens_of (LineComment bs) = []
tokens_of (BlockComment bs) = []
tokens_of (Proper t) = t ∷ []

abbrev pub tokens_in : List Lexeme → List Token
tokens_in [] = []
tokens_in (l ∷ ls) = tokens_of l ++ tokens_in ls

abbrev pub is_blank : ℕ → Bool
is_blank b = b == 32 || (b == 9 || (b == 10 || b == 13))

abbrev pub is_word : List ℕ → Bool
is_word [] = false
is_word (b ∷ bs) = is_letter b && list_all is_name_byte bs

-- no `*/` is in the bytes; star says that a `*` stands before them
abbrev pub is_open : Bool → List ℕ → Bool
is_open star [] = true
is_open star (b ∷ bs) = not (star && b == 47) && is_open (b == 42) bs

abbrev pub IsToken : Token → Type 0
IsToken (Word w) = IsTrue (is_word w)
IsToken (Number w) = IsNumber w
IsToken (Text w) = IsString w
IsToken (Symbol b) = Unit {0}

abbrev pub IsLexeme : Lexeme → Type 0
IsLexeme (Blank b) = IsTrue (is_blank b)
IsLexeme (LineComment bs) = IsTrue (list_all (λ b. not (b == 10)) bs)
IsLexeme (BlockComment bs) = IsTrue (is_open false bs)
IsLexeme (Proper t) = IsToken t

-- Solid after a word or a number, Commented after a comment to the end of its line
pub data Side : Type 0 where
  Clear : Side
  Solid : Side
  Commented : Side

abbrev pub token_side : Token → Side
token_side (Word w) = Solid
token_side (Number w) = Solid
token_side (Text w) = Clear
token_side (Symbol b) = Clear

abbrev pub side : Lexeme → Side
side (Blank b) = Clear
side (LineComment bs) = Commented
side (BlockComment bs) = Clear
side (Proper t) = token_side t

abbrev pub is_solid : Side → Bool
is_solid Clear = false
is_solid Solid = true
is_solid Commented = false

abbrev pub is_newline : Lexeme → Bool
is_newline (Blank b) = b == 10
is_newline (LineComment bs) = false
is_newline (BlockComment bs) = false
is_newline (Proper t) = false

-- whether the lexeme may follow
abbrev pub may_follow : Side → Lexeme → Bool
may_follow Clear l = true
may_follow Solid l = not (is_solid (side l))
may_follow Commented l = is_newline l

pub record IsNext (p : Side) (l : Lexeme) : Type 0 where
  pub lexeme : IsLexeme l
  pub follows : IsTrue (may_follow p l)

abbrev pub AreJoined : Side → List Lexeme → Type 0
AreJoined p [] = Unit {0}
AreJoined p (l ∷ ls) = IsNext p l × AreJoined (side l) ls

pub record IsSpelled (ts : List Token) (bytes : List ℕ) : Type 0 where
  pub lexemes : List Lexeme
  pub joined : AreJoined Clear lexemes
  pub tokens : tokens_in lexemes ≡ ts
  pub spelled : spelling lexemes ≡ bytes

-- a text and its tree
pub record IsText (s : Script) (bytes : List ℕ) : Type 0 where
  pub script : IsScript s
  pub spelled : IsSpelled (tokens s) bytes

-- some text begins so
abbrev pub IsFront : List ℕ → Type 0
IsFront bytes = (rest : List ℕ) × (s : Script) × IsText s (bytes ++ rest)

-- no text; n bytes are the longest beginning of it that is a beginning of some text
pub record IsFirstFault (bytes : List ℕ) (n : ℕ) : Type 0 where
  pub none : (s : Script) → ¬ IsText s bytes
  pub within : n ≤ length bytes
  pub longest : (i : ℕ) → i ≤ length bytes → IsFront (take i bytes) ↔ (i ≤ n)
