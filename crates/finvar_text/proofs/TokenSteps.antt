-- What was read of a script, by the state after its tokens: each token that may follow is added to it.
use Rattle.std.proofs.Common.{◌≡◌, ℕ, ◌+◌, ◌≤◌, Bool, true, false, List, [], ◌∷◌, ◌++◌, length, All, Option, Some, None, if◌then◌else◌, sym, ap, ap₂, ◌∙◌, refl, subst, arith}
use Rattle.std.specs.Prelude.{codes, not, ◌==◌, ◌&&◌, IfSome}
use Rattle.std.specs.List.{list_all}
use Rattle.std.specs.Str.{bytes_eq}
use Rattle.std.specs.Bool.{Decides}
use Rattle.std.proofs.lemmas.Slice.Eq.{bytes_eq-Decides}
use Rattle.std.proofs.lemmas.Bool.Decides.{nat_tests}
use Rattle.std.proofs.lemmas.Bool.{and_parts}
use Rattle.std.proofs.lemmas.List.Elements.{All-push, All-nil}
use mathlib.Core.List.{append_assoc, append-nil}
use Rattle.alg_core.specs.Names.{is_letter, is_name_byte, is_reserved}
use Rattle.finvar_text.specs.Syntax.{Entry, Item, Lib, Declared, Printed, Called, Script, Token, Word, Number, Text, Symbol, lib_word, ring_word, matrix_word, print_word, invariant_ring_word, dp_word, comma, semicolon, equals, minus, opens, closes, opens_square, closes_square, further, listed, word_tokens, lib_tokens, entry_tokens, matrix_head, call_head, item_tokens, joined, ring_head, variables_tokens, ring_tokens, tokens, IsName, IsNumber, IsString, IsEntry, IsSome, IsItem, IsScript, calls, IsToken}
use Rattle.finvar_text.specs.Grammar.{Opening, Libs, LibText, LibEnd, RingName, RingEquals, Characteristic, CharacteristicEnd, Variables, Variable, VariableEnd, VariablesEnd, Order, RingEnd, Matrix, Rows, RowsEnd, ColsStart, Cols, ColsEnd, MatrixEquals, EntryStart, Digits, EntryEnd, Call, Second, SecondEnd, Third, ThirdEnd, InvariantRing, CallOpen, Argument, ArgumentEnd, CallEnd, Printing, PrintOpen, PrintName, PrintClose, PrintEnd, Body, Items, ItemText, ItemTextEnd, MatrixName, MatrixNamed, InMatrix, InCall, InPrint, State, Before, After, symbol, keyword, named, opening_symbol, matrix_symbol, call_symbol, print_symbol, body_symbol, next_symbol, opening_word, call_word, printing_word, body_word, next_word, matrix_number, opening_number, body_number, next_number, opening_text, body_text, next_text, next, with_item}

-- what stands before the next member of a list
abbrev pub before_next : {A : Type 0} → (A → List Token) → List A → List Token
before_next f [] = []
before_next f (x ∷ xs) = listed f (x ∷ xs) ++ comma ∷ []

further_more : {A : Type 0} (f : A → List Token) (xs : List A) (x : A) → further f (xs ++ x ∷ []) ≡ further f xs ++ comma ∷ f x
further_more f [] x = ap (λ (l : List Token). comma ∷ l) (append-nil (f x))
further_more f (y ∷ xs) x = ap (λ (l : List Token). comma ∷ l) (ap (λ (l : List Token). f y ++ l) (further_more f xs x) ∙ sym (append_assoc (f y) (further f xs) (comma ∷ f x)))

pub listed_more : {A : Type 0} (f : A → List Token) (xs : List A) (x : A) → listed f (xs ++ x ∷ []) ≡ before_next f xs ++ f x
listed_more f [] x = append-nil (f x)
listed_more f (y ∷ xs) x = ap (λ (l : List Token). f y ++ l) (further_more f xs x) ∙ sym (append_assoc (f y) (further f xs) (comma ∷ f x)) ∙ sym (append_assoc (f y ++ further f xs) (comma ∷ []) (f x))

pub before_some : {A : Type 0} (f : A → List Token) (xs : List A) → IsSome xs → before_next f xs ≡ listed f xs ++ comma ∷ []
before_some f [] h = absurd h
before_some f (x ∷ xs) h = refl

pub joined_more : {A : Type 0} (f : A → List Token) (xs : List A) (x : A) → joined f (xs ++ x ∷ []) ≡ joined f xs ++ f x
joined_more f [] x = append-nil (f x)
joined_more f (y ∷ xs) x = ap (λ (l : List Token). f y ++ l) (joined_more f xs x) ∙ sym (append_assoc (f y) (joined f xs) (f x))

pub some_more : {A : Type 0} (xs : List A) (x : A) → IsSome (xs ++ x ∷ [])
some_more [] x = tt
some_more (y ∷ xs) x = tt

abbrev pub opening_read : Opening → List Token
opening_read Libs = []
opening_read LibText = lib_word ∷ []
opening_read (LibEnd w) = lib_word ∷ Text w ∷ []
opening_read RingName = ring_word ∷ []
opening_read (RingEquals r) = ring_word ∷ Word r ∷ []
opening_read (Characteristic r) = ring_word ∷ Word r ∷ equals ∷ []
opening_read (CharacteristicEnd r c) = ring_word ∷ Word r ∷ equals ∷ Number c ∷ []
opening_read (Variables r c) = ring_head r c
opening_read (Variable r c vs) = ring_head r c ++ opens ∷ before_next word_tokens vs
opening_read (VariableEnd r c vs) = ring_head r c ++ opens ∷ listed word_tokens vs
opening_read (VariablesEnd r c p vs) = ring_head r c ++ variables_tokens p vs
opening_read (Order r c p vs) = ring_head r c ++ (variables_tokens p vs ++ comma ∷ [])
opening_read (RingEnd r c p vs) = ring_head r c ++ (variables_tokens p vs ++ comma ∷ dp_word ∷ [])

abbrev pub matrix_read : Matrix → List Token
matrix_read (Rows n) = matrix_word ∷ Word n ∷ opens_square ∷ []
matrix_read (RowsEnd n r) = matrix_word ∷ Word n ∷ opens_square ∷ Number r ∷ []
matrix_read (ColsStart n r) = matrix_word ∷ Word n ∷ opens_square ∷ Number r ∷ closes_square ∷ []
matrix_read (Cols n r) = matrix_word ∷ Word n ∷ opens_square ∷ Number r ∷ closes_square ∷ opens_square ∷ []
matrix_read (ColsEnd n r c) = matrix_word ∷ Word n ∷ opens_square ∷ Number r ∷ closes_square ∷ opens_square ∷ Number c ∷ []
matrix_read (MatrixEquals n r c) = matrix_word ∷ Word n ∷ opens_square ∷ Number r ∷ closes_square ∷ opens_square ∷ Number c ∷ closes_square ∷ []
matrix_read (EntryStart n r c es) = matrix_head n r c ++ before_next entry_tokens es
matrix_read (Digits n r c es) = matrix_head n r c ++ (before_next entry_tokens es ++ minus ∷ [])
matrix_read (EntryEnd n r c es) = matrix_head n r c ++ listed entry_tokens es

abbrev pub call_read : Call → List Token
call_read (Second x) = matrix_word ∷ Word x ∷ comma ∷ []
call_read (SecondEnd x y) = matrix_word ∷ Word x ∷ comma ∷ Word y ∷ []
call_read (Third x y) = matrix_word ∷ Word x ∷ comma ∷ Word y ∷ comma ∷ []
call_read (ThirdEnd x y z) = matrix_word ∷ Word x ∷ comma ∷ Word y ∷ comma ∷ Word z ∷ []
call_read (InvariantRing x y z) = matrix_word ∷ Word x ∷ comma ∷ Word y ∷ comma ∷ Word z ∷ equals ∷ []
call_read (CallOpen x y z) = matrix_word ∷ Word x ∷ comma ∷ Word y ∷ comma ∷ Word z ∷ equals ∷ invariant_ring_word ∷ []
call_read (Argument x y z ws) = call_head x y z ++ before_next word_tokens ws
call_read (ArgumentEnd x y z ws) = call_head x y z ++ listed word_tokens ws
call_read (CallEnd x y z ws) = call_head x y z ++ (listed word_tokens ws ++ closes ∷ [])

abbrev pub print_read : Printing → List Token
print_read PrintOpen = print_word ∷ []
print_read PrintName = print_word ∷ opens ∷ []
print_read (PrintClose n) = print_word ∷ opens ∷ Word n ∷ []
print_read (PrintEnd n true) = print_word ∷ opens ∷ Word n ∷ closes ∷ []
print_read (PrintEnd n false) = Word n ∷ []

abbrev pub body_read : Body → List Token
body_read Items = []
body_read ItemText = lib_word ∷ []
body_read (ItemTextEnd w) = lib_word ∷ Text w ∷ []
body_read MatrixName = matrix_word ∷ []
body_read (MatrixNamed n) = matrix_word ∷ Word n ∷ []
body_read (InMatrix m) = matrix_read m
body_read (InCall c) = call_read c
body_read (InPrint p) = print_read p

-- the tokens that are read
abbrev pub read : State → List Token
read (Before libs o) = joined lib_tokens libs ++ opening_read o
read (After s k body) = tokens s ++ body_read body

pub record AreVariables (p : Bool) (vs : List (List ℕ)) : Type 0 where
  pub names : All IsName vs
  pub some : IsSome vs
  pub single : p ≡ false → length vs ≡ 1

abbrev pub IsOpening : Opening → Type 0
IsOpening Libs = Unit {0}
IsOpening LibText = Unit {0}
IsOpening (LibEnd w) = IsString w
IsOpening RingName = Unit {0}
IsOpening (RingEquals r) = IsName r
IsOpening (Characteristic r) = IsName r
IsOpening (CharacteristicEnd r c) = IsName r × IsNumber c
IsOpening (Variables r c) = IsName r × IsNumber c
IsOpening (Variable r c vs) = IsName r × IsNumber c × All IsName vs
IsOpening (VariableEnd r c vs) = IsName r × IsNumber c × AreVariables true vs
IsOpening (VariablesEnd r c p vs) = IsName r × IsNumber c × AreVariables p vs
IsOpening (Order r c p vs) = IsName r × IsNumber c × AreVariables p vs
IsOpening (RingEnd r c p vs) = IsName r × IsNumber c × AreVariables p vs

abbrev pub IsMatrixStage : Matrix → Type 0
IsMatrixStage (Rows n) = IsName n
IsMatrixStage (RowsEnd n r) = IsName n × IsNumber r
IsMatrixStage (ColsStart n r) = IsName n × IsNumber r
IsMatrixStage (Cols n r) = IsName n × IsNumber r
IsMatrixStage (ColsEnd n r c) = IsName n × IsNumber r × IsNumber c
IsMatrixStage (MatrixEquals n r c) = IsName n × IsNumber r × IsNumber c
IsMatrixStage (EntryStart n r c es) = IsName n × IsNumber r × IsNumber c × All IsEntry es
IsMatrixStage (Digits n r c es) = IsName n × IsNumber r × IsNumber c × All IsEntry es
IsMatrixStage (EntryEnd n r c es) = IsName n × IsNumber r × IsNumber c × All IsEntry es × IsSome es

abbrev pub IsCallStage : Call → Type 0
IsCallStage (Second x) = IsName x
IsCallStage (SecondEnd x y) = IsName x × IsName y
IsCallStage (Third x y) = IsName x × IsName y
IsCallStage (ThirdEnd x y z) = IsName x × IsName y × IsName z
IsCallStage (InvariantRing x y z) = IsName x × IsName y × IsName z
IsCallStage (CallOpen x y z) = IsName x × IsName y × IsName z
IsCallStage (Argument x y z ws) = IsName x × IsName y × IsName z × All IsName ws
IsCallStage (ArgumentEnd x y z ws) = IsName x × IsName y × IsName z × All IsName ws × IsSome ws
IsCallStage (CallEnd x y z ws) = IsName x × IsName y × IsName z × All IsName ws × IsSome ws

abbrev pub IsPrintStage : Printing → Type 0
IsPrintStage PrintOpen = Unit {0}
IsPrintStage PrintName = Unit {0}
IsPrintStage (PrintClose n) = IsName n
IsPrintStage (PrintEnd n word) = IsName n

abbrev pub IsBody : Bool → Body → Type 0
IsBody k Items = Unit {0}
IsBody k ItemText = Unit {0}
IsBody k (ItemTextEnd w) = IsString w
IsBody k MatrixName = Unit {0}
IsBody k (MatrixNamed n) = IsName n
IsBody k (InMatrix m) = IsMatrixStage m
IsBody k (InCall c) = (k ≡ false) × IsCallStage c
IsBody k (InPrint p) = IsPrintStage p

-- the script so far, and whether a call is among its items
pub record IsPart (s : Script) (k : Bool) : Type 0 where
  pub script : IsScript s
  pub without : k ≡ false → calls s.items ≡ 0

-- the parts are as the grammar has them
abbrev pub IsState : State → Type 0
IsState (Before libs o) = All IsString libs × IsOpening o
IsState (After s k body) = IsPart s k × IsBody k body

-- the state after the tokens
abbrev pub Reads : List Token → State → Type 0
Reads ts s = (read s ≡ ts) × IsState s

symbol_reads : (c b : ℕ) (s : State) (old : List Token) → Reads (old ++ Symbol c ∷ []) s → IfSome (symbol c b s) (Reads (old ++ Symbol b ∷ []))
symbol_reads c b s old h = go (b == c) (λ e. grind (arith, nat_tests))
  where
    go : (t : Bool) → (t ≡ true → c ≡ b) → IfSome (if t then Some s else None) (Reads (old ++ Symbol b ∷ []))
    go true e = subst (λ (x : ℕ). Reads (old ++ Symbol x ∷ []) s) (e refl) h
    go false e = tt

either_reads : (c b : ℕ) (s : State) (o : Option State) (old : List Token) → Reads (old ++ Symbol c ∷ []) s → IfSome o (Reads (old ++ Symbol b ∷ [])) → IfSome (if b == c then Some s else o) (Reads (old ++ Symbol b ∷ []))
either_reads c b s o old h i = go (b == c) (λ e. grind (arith, nat_tests))
  where
    go : (t : Bool) → (t ≡ true → c ≡ b) → IfSome (if t then Some s else o) (Reads (old ++ Symbol b ∷ []))
    go true e = subst (λ (x : ℕ). Reads (old ++ Symbol x ∷ []) s) (e refl) h
    go false e = i

either_word : (k w : List ℕ) (s : State) (o : Option State) (old : List Token) → Reads (old ++ Word k ∷ []) s → IfSome o (Reads (old ++ Word w ∷ [])) → IfSome (if bytes_eq w k then Some s else o) (Reads (old ++ Word w ∷ []))
either_word k w s o old h i = go (bytes_eq w k) (bytes_eq-Decides w k)
  where
    go : (t : Bool) → Decides t (w ≡ k) → IfSome (if t then Some s else o) (Reads (old ++ Word w ∷ []))
    go true d = subst (λ (x : List ℕ). Reads (old ++ Word x ∷ []) s) (sym (d.0 refl)) h
    go false d = i

keyword_reads : (k w : List ℕ) (s : State) (old : List Token) → Reads (old ++ Word k ∷ []) s → IfSome (keyword k w s) (Reads (old ++ Word w ∷ []))
keyword_reads k w s old h = either_word k w s None old h tt

-- what is no reserved word is a name
pub whole_name : (w : List ℕ) → IsToken (Word w) → is_reserved w ≡ false → IsName w
whole_name [] h e = absurd cc
whole_name (b ∷ bs) h e =
    let parts = and_parts (is_letter b) (list_all is_name_byte bs) h in
    ap₂ (λ (t u : Bool). t && u) parts.0 (ap₂ (λ (t u : Bool). t && not u) parts.1 e)

named_reads : (w : List ℕ) (s : State) (ts : List Token) → IsToken (Word w) → (IsName w → Reads ts s) → IfSome (named w s) (Reads ts)
named_reads w s ts is h = go (is_reserved w) refl
  where
    go : (t : Bool) → is_reserved w ≡ t → IfSome (if t then None else Some s) (Reads ts)
    go true e = tt
    go false e = h (whole_name w is e)

-- one token more at the end
more : (a l : List Token) (t : Token) → a ++ (l ++ t ∷ []) ≡ (a ++ l) ++ t ∷ []
more a l t = sym (append_assoc a l (t ∷ []))

one_name : (w : List ℕ) → IsName w → AreVariables false (w ∷ [])
one_name w h = record { names = All-push IsName [] w (All-nil IsName) h; some = tt; single = λ e. refl }

opening_symbol_reads : (libs : List (List ℕ)) (o : Opening) (b : ℕ) → All IsString libs → IsOpening o → IfSome (opening_symbol libs o b) (Reads ((joined lib_tokens libs ++ opening_read o) ++ Symbol b ∷ []))
unfolding opening_symbol
opening_symbol_reads libs Libs b l h = tt
opening_symbol_reads libs LibText b l h = tt
opening_symbol_reads libs (LibEnd w) b l h = symbol_reads 59 b _ _ (append-nil _ ∙ joined_more lib_tokens libs w ∙ more (joined lib_tokens libs) (opening_read (LibEnd w)) semicolon, (All-push IsString libs w l h, tt))
opening_symbol_reads libs RingName b l h = tt
opening_symbol_reads libs (RingEquals r) b l h = symbol_reads 61 b _ _ (more (joined lib_tokens libs) (opening_read (RingEquals r)) equals, (l, h))
opening_symbol_reads libs (Characteristic r) b l h = tt
opening_symbol_reads libs (CharacteristicEnd r c) b l h = symbol_reads 44 b _ _ (more (joined lib_tokens libs) (opening_read (CharacteristicEnd r c)) comma, (l, h))
opening_symbol_reads libs (Variables r c) b l h = symbol_reads 40 b _ _ (more (joined lib_tokens libs) (opening_read (Variables r c)) opens, (l, (h.0, h.1, All-nil IsName)))
opening_symbol_reads libs (Variable r c vs) b l h = tt
opening_symbol_reads libs (VariableEnd r c vs) b l h =
    either_reads 44 b _ _ _ (ap (λ (ts : List Token). joined lib_tokens libs ++ (ring_head r c ++ opens ∷ ts)) (before_some word_tokens vs h.2.some) ∙ more (joined lib_tokens libs) (opening_read (VariableEnd r c vs)) comma, (l, (h.0, h.1, h.2.names)))
    (symbol_reads 41 b _ _ (more (joined lib_tokens libs) (opening_read (VariableEnd r c vs)) closes, (l, h)))
opening_symbol_reads libs (VariablesEnd r c p vs) b l h = symbol_reads 44 b _ _ (more (joined lib_tokens libs) (opening_read (VariablesEnd r c p vs)) comma, (l, h))
opening_symbol_reads libs (Order r c p vs) b l h = tt
opening_symbol_reads libs (RingEnd r c p vs) b l h = symbol_reads 59 b _ _ (
  append-nil _ ∙ ap (λ (ts : List Token). joined lib_tokens libs ++ ts) (append-nil _ ∙ ap (λ (ts : List Token). ring_head r c ++ ts) (sym (append_assoc (variables_tokens p vs) (comma ∷ dp_word ∷ []) (semicolon ∷ [])))) ∙ more (joined lib_tokens libs) (opening_read (RingEnd r c p vs)) semicolon,
  (
    record {
      script = record {
        libs = l;
        ring = h.0;
        characteristic = h.1;
        variables = h.2.names;
        some = h.2.some;
        single = h.2.single;
        items = All-nil IsItem;
        calls = omega arith;
      };
      without = λ e. refl;
    },
    tt,
  ),
)

calls_more : (is : List Item) (i : Item) → calls (is ++ i ∷ []) ≡ calls is + calls (i ∷ [])
calls_more [] i = omega arith
calls_more (Lib w ∷ is) i = calls_more is i
calls_more (Declared m ∷ is) i = calls_more is i
calls_more (Printed n word ∷ is) i = calls_more is i
calls_more (Called c ∷ is) i = let e = calls_more is i in omega (arith, e)

-- the tokens with one item more
pub tokens_more : (s : Script) (i : Item) → tokens (with_item s i) ≡ tokens s ++ item_tokens i
tokens_more s i =
    let ring = ring_tokens s.ring s.characteristic s.in_parentheses s.variables in
    ap (λ (ts : List Token). joined lib_tokens s.libs ++ (ring ++ ts)) (joined_more item_tokens s.items i)
    ∙ ap (λ (ts : List Token). joined lib_tokens s.libs ++ ts) (sym (append_assoc ring (joined item_tokens s.items) (item_tokens i)))
    ∙ sym (append_assoc (joined lib_tokens s.libs) (ring ++ joined item_tokens s.items) (item_tokens i))

-- the script with one item more, which is none that counts as a call where there is one
part_more : (s : Script) (k k' : Bool) (i : Item) → IsPart s k → IsItem i → (calls s.items + calls (i ∷ []) ≤ 1) → (k' ≡ false → calls s.items + calls (i ∷ []) ≡ 0) → IsPart (with_item s i) k'
part_more s k k' i h is few none = record {
  script = record {
    libs = h.script.libs;
    ring = h.script.ring;
    characteristic = h.script.characteristic;
    variables = h.script.variables;
    some = h.script.some;
    single = h.script.single;
    items = All-push IsItem s.items i h.script.items is;
    calls = let e = calls_more s.items i in omega (arith, e, few);
  };
  without = λ e. calls_more s.items i ∙ none e;
}

-- an item that is no call
plain_more : (s : Script) (k : Bool) (i : Item) → IsPart s k → IsItem i → calls (i ∷ []) ≡ 0 → IsPart (with_item s i) k
plain_more s k i h is e = part_more s k k i h is (let few = h.script.calls in omega (arith, e, few)) (λ f. let none = h.without f in omega (arith, none, e))

item_read : (s : Script) (i : Item) (l : List Token) → item_tokens i ≡ l ++ semicolon ∷ [] → tokens (with_item s i) ++ [] ≡ (tokens s ++ l) ++ semicolon ∷ []
item_read s i l e = append-nil _ ∙ tokens_more s i ∙ ap (λ (ts : List Token). tokens s ++ ts) e ∙ more (tokens s) l semicolon

matrix_symbol_reads : (s : Script) (k : Bool) (m : Matrix) (b : ℕ) → IsPart s k → IsMatrixStage m → IfSome (matrix_symbol s k m b) (Reads ((tokens s ++ matrix_read m) ++ Symbol b ∷ []))
unfolding matrix_symbol
matrix_symbol_reads s k (Rows n) b p h = tt
matrix_symbol_reads s k (RowsEnd n r) b p h = symbol_reads 93 b _ _ (more (tokens s) (matrix_read (RowsEnd n r)) closes_square, (p, h))
matrix_symbol_reads s k (ColsStart n r) b p h = symbol_reads 91 b _ _ (more (tokens s) (matrix_read (ColsStart n r)) opens_square, (p, h))
matrix_symbol_reads s k (Cols n r) b p h = tt
matrix_symbol_reads s k (ColsEnd n r c) b p h = symbol_reads 93 b _ _ (more (tokens s) (matrix_read (ColsEnd n r c)) closes_square, (p, h))
matrix_symbol_reads s k (MatrixEquals n r c) b p h = symbol_reads 61 b _ _ (more (tokens s) (matrix_read (MatrixEquals n r c)) equals, (p, (h.0, h.1, h.2, All-nil IsEntry)))
matrix_symbol_reads s k (EntryStart n r c es) b p h = symbol_reads 45 b _ _ (more (tokens s) (matrix_read (EntryStart n r c es)) minus, (p, h))
matrix_symbol_reads s k (Digits n r c es) b p h = tt
matrix_symbol_reads s k (EntryEnd n r c es) b p h =
    either_reads 44 b _ _ _ (ap (λ (ts : List Token). tokens s ++ (matrix_head n r c ++ ts)) (before_some entry_tokens es h.4) ∙ more (tokens s) (matrix_read (EntryEnd n r c es)) comma, (p, (h.0, h.1, h.2, h.3)))
    (symbol_reads 59 b _ _ (
      item_read s (Declared (record { name = n; rows = r; cols = c; entries = es })) (matrix_read (EntryEnd n r c es)) refl,
      (plain_more s k (Declared (record { name = n; rows = r; cols = c; entries = es })) p (record { name = h.0; rows = h.1; cols = h.2; entries = h.3; some = h.4 }) refl, tt),
    ))

call_symbol_reads : (s : Script) (k : Bool) (c : Call) (b : ℕ) → IsPart s k → k ≡ false → IsCallStage c → IfSome (call_symbol s k c b) (Reads ((tokens s ++ call_read c) ++ Symbol b ∷ []))
unfolding call_symbol
call_symbol_reads s k (Second x) b p f h = tt
call_symbol_reads s k (SecondEnd x y) b p f h = symbol_reads 44 b _ _ (more (tokens s) (call_read (SecondEnd x y)) comma, (p, (f, h)))
call_symbol_reads s k (Third x y) b p f h = tt
call_symbol_reads s k (ThirdEnd x y z) b p f h = symbol_reads 61 b _ _ (more (tokens s) (call_read (ThirdEnd x y z)) equals, (p, (f, h)))
call_symbol_reads s k (InvariantRing x y z) b p f h = tt
call_symbol_reads s k (CallOpen x y z) b p f h = symbol_reads 40 b _ _ (more (tokens s) (call_read (CallOpen x y z)) opens, (p, (f, (h.0, h.1, h.2, All-nil IsName))))
call_symbol_reads s k (Argument x y z ws) b p f h = tt
call_symbol_reads s k (ArgumentEnd x y z ws) b p f h =
    either_reads 44 b _ _ _ (ap (λ (ts : List Token). tokens s ++ (call_head x y z ++ ts)) (before_some word_tokens ws h.4) ∙ more (tokens s) (call_read (ArgumentEnd x y z ws)) comma, (p, (f, (h.0, h.1, h.2, h.3))))
    (symbol_reads 41 b _ _ (more (tokens s) (call_read (ArgumentEnd x y z ws)) closes, (p, (f, h))))
call_symbol_reads s k (CallEnd x y z ws) b p f h =
    let c : Item = Called (record { first = x; second = y; third = z; arguments = ws }) in
    let zero_calls : calls s.items ≡ 0 = p.without f in
    symbol_reads 59 b _ _ (
      item_read s c (call_read (CallEnd x y z ws)) (ap (λ (ts : List Token). call_head x y z ++ ts) (sym (append_assoc (listed word_tokens ws) (closes ∷ []) (semicolon ∷ [])))),
      (part_more s k true c p (record { first = h.0; second = h.1; third = h.2; arguments = h.3; some = h.4 }) (omega (arith, zero_calls)) (λ e. absurd cc), tt),
    )

print_symbol_reads : (s : Script) (k : Bool) (q : Printing) (b : ℕ) → IsPart s k → IsPrintStage q → IfSome (print_symbol s k q b) (Reads ((tokens s ++ print_read q) ++ Symbol b ∷ []))
unfolding print_symbol
print_symbol_reads s k PrintOpen b p h = symbol_reads 40 b _ _ (more (tokens s) (print_read PrintOpen) opens, (p, h))
print_symbol_reads s k PrintName b p h = tt
print_symbol_reads s k (PrintClose n) b p h = symbol_reads 41 b _ _ (more (tokens s) (print_read (PrintClose n)) closes, (p, h))
print_symbol_reads s k (PrintEnd n true) b p h = symbol_reads 59 b _ _ (item_read s (Printed n true) (print_read (PrintEnd n true)) refl, (plain_more s k (Printed n true) p h refl, tt))
print_symbol_reads s k (PrintEnd n false) b p h = symbol_reads 59 b _ _ (item_read s (Printed n false) (print_read (PrintEnd n false)) refl, (plain_more s k (Printed n false) p h refl, tt))

call_begins : (s : Script) (k : Bool) (n : List ℕ) (b : ℕ) → IsPart s k → IsName n → IfSome (if k then None else symbol 44 b (After s k (InCall (Second n)))) (Reads ((tokens s ++ body_read (MatrixNamed n)) ++ Symbol b ∷ []))
call_begins s true n b p h = tt
call_begins s false n b p h = symbol_reads 44 b _ _ (more (tokens s) (body_read (MatrixNamed n)) comma, (p, (refl, h)))

body_symbol_reads : (s : Script) (k : Bool) (body : Body) (b : ℕ) → IsPart s k → IsBody k body → IfSome (body_symbol s k body b) (Reads ((tokens s ++ body_read body) ++ Symbol b ∷ []))
unfolding body_symbol
body_symbol_reads s k Items b p h = tt
body_symbol_reads s k ItemText b p h = tt
body_symbol_reads s k (ItemTextEnd w) b p h = symbol_reads 59 b _ _ (item_read s (Lib w) (body_read (ItemTextEnd w)) refl, (plain_more s k (Lib w) p h refl, tt))
body_symbol_reads s k MatrixName b p h = tt
body_symbol_reads s k (MatrixNamed n) b p h = either_reads 91 b _ _ _ (more (tokens s) (body_read (MatrixNamed n)) opens_square, (p, h)) (call_begins s k n b p h)
body_symbol_reads s k (InMatrix m) b p h = matrix_symbol_reads s k m b p h
body_symbol_reads s k (InCall c) b p h = call_symbol_reads s k c b p h.0 h.1
body_symbol_reads s k (InPrint q) b p h = print_symbol_reads s k q b p h

symbol_adds : (s : State) (b : ℕ) → IsState s → IfSome (next_symbol s b) (Reads (read s ++ Symbol b ∷ []))
unfolding next_symbol
symbol_adds (Before libs o) b h = opening_symbol_reads libs o b h.0 h.1
symbol_adds (After s k body) b h = body_symbol_reads s k body b h.0 h.1

opening_word_reads : (libs : List (List ℕ)) (o : Opening) (w : List ℕ) → All IsString libs → IsOpening o → IsToken (Word w) → IfSome (opening_word libs o w) (Reads ((joined lib_tokens libs ++ opening_read o) ++ Word w ∷ []))
unfolding opening_word
opening_word_reads libs Libs w l h t =
    either_word (codes "LIB") w _ _ _ (more (joined lib_tokens libs) [] lib_word, (l, tt)) (keyword_reads (codes "ring") w _ _ (more (joined lib_tokens libs) [] ring_word, (l, tt)))
opening_word_reads libs LibText w l h t = tt
opening_word_reads libs (LibEnd x) w l h t = tt
opening_word_reads libs RingName w l h t = named_reads w _ _ t (λ n. (more (joined lib_tokens libs) (opening_read RingName) (Word w), (l, n)))
opening_word_reads libs (RingEquals r) w l h t = tt
opening_word_reads libs (Characteristic r) w l h t = tt
opening_word_reads libs (CharacteristicEnd r c) w l h t = tt
opening_word_reads libs (Variables r c) w l h t = named_reads w _ _ t (λ n. (more (joined lib_tokens libs) (opening_read (Variables r c)) (Word w), (l, (h.0, h.1, one_name w n))))
opening_word_reads libs (Variable r c vs) w l h t = named_reads w _ _ t (λ n. (
  ap (λ (ts : List Token). joined lib_tokens libs ++ (ring_head r c ++ opens ∷ ts)) (listed_more word_tokens vs w) ∙ more (joined lib_tokens libs) (opening_read (Variable r c vs)) (Word w),
  (l, (h.0, h.1, record { names = All-push IsName vs w h.2 n; some = some_more vs w; single = λ e. absurd cc })),
))
opening_word_reads libs (VariableEnd r c vs) w l h t = tt
opening_word_reads libs (VariablesEnd r c p vs) w l h t = tt
opening_word_reads libs (Order r c p vs) w l h t = keyword_reads (codes "dp") w _ _ (ap (λ (ts : List Token). joined lib_tokens libs ++ (ring_head r c ++ ts)) (sym (append_assoc (variables_tokens p vs) (comma ∷ []) (dp_word ∷ []))) ∙ more (joined lib_tokens libs) (opening_read (Order r c p vs)) dp_word, (l, h))
opening_word_reads libs (RingEnd r c p vs) w l h t = tt

call_word_reads : (s : Script) (k : Bool) (c : Call) (w : List ℕ) → IsPart s k → k ≡ false → IsCallStage c → IsToken (Word w) → IfSome (call_word s k c w) (Reads ((tokens s ++ call_read c) ++ Word w ∷ []))
unfolding call_word
call_word_reads s k (Second x) w p f h t = named_reads w _ _ t (λ n. (more (tokens s) (call_read (Second x)) (Word w), (p, (f, (h, n)))))
call_word_reads s k (SecondEnd x y) w p f h t = tt
call_word_reads s k (Third x y) w p f h t = named_reads w _ _ t (λ n. (more (tokens s) (call_read (Third x y)) (Word w), (p, (f, (h.0, h.1, n)))))
call_word_reads s k (ThirdEnd x y z) w p f h t = tt
call_word_reads s k (InvariantRing x y z) w p f h t = keyword_reads (codes "invariant_ring") w _ _ (more (tokens s) (call_read (InvariantRing x y z)) invariant_ring_word, (p, (f, h)))
call_word_reads s k (CallOpen x y z) w p f h t = tt
call_word_reads s k (Argument x y z ws) w p f h t = named_reads w _ _ t (λ n. (
  ap (λ (ts : List Token). tokens s ++ (call_head x y z ++ ts)) (listed_more word_tokens ws w) ∙ more (tokens s) (call_read (Argument x y z ws)) (Word w),
  (p, (f, (h.0, h.1, h.2, All-push IsName ws w h.3 n, some_more ws w))),
))
call_word_reads s k (ArgumentEnd x y z ws) w p f h t = tt
call_word_reads s k (CallEnd x y z ws) w p f h t = tt

print_word_reads : (s : Script) (k : Bool) (q : Printing) (w : List ℕ) → IsPart s k → IsToken (Word w) → IfSome (printing_word s k q w) (Reads ((tokens s ++ print_read q) ++ Word w ∷ []))
unfolding printing_word
print_word_reads s k PrintOpen w p t = tt
print_word_reads s k PrintName w p t = named_reads w _ _ t (λ n. (more (tokens s) (print_read PrintName) (Word w), (p, n)))
print_word_reads s k (PrintClose n) w p t = tt
print_word_reads s k (PrintEnd n true) w p t = tt
print_word_reads s k (PrintEnd n false) w p t = tt

body_word_reads : (s : Script) (k : Bool) (body : Body) (w : List ℕ) → IsPart s k → IsBody k body → IsToken (Word w) → IfSome (body_word s k body w) (Reads ((tokens s ++ body_read body) ++ Word w ∷ []))
unfolding body_word
body_word_reads s k Items w p h t =
    either_word (codes "LIB") w _ _ _ (more (tokens s) [] lib_word, (p, tt))
    (either_word (codes "matrix") w _ _ _ (more (tokens s) [] matrix_word, (p, tt))
    (either_word (codes "print") w _ _ _ (more (tokens s) [] print_word, (p, tt))
    (named_reads w _ _ t (λ n. (more (tokens s) [] (Word w), (p, n))))))
body_word_reads s k ItemText w p h t = tt
body_word_reads s k (ItemTextEnd x) w p h t = tt
body_word_reads s k MatrixName w p h t = named_reads w _ _ t (λ n. (more (tokens s) (body_read MatrixName) (Word w), (p, n)))
body_word_reads s k (MatrixNamed n) w p h t = tt
body_word_reads s k (InMatrix m) w p h t = tt
body_word_reads s k (InCall c) w p h t = call_word_reads s k c w p h.0 h.1 t
body_word_reads s k (InPrint q) w p h t = print_word_reads s k q w p t

word_adds : (s : State) (w : List ℕ) → IsState s → IsToken (Word w) → IfSome (next_word s w) (Reads (read s ++ Word w ∷ []))
unfolding next_word
word_adds (Before libs o) w h t = opening_word_reads libs o w h.0 h.1 t
word_adds (After s k body) w h t = body_word_reads s k body w h.0 h.1 t

opening_number_reads : (libs : List (List ℕ)) (o : Opening) (w : List ℕ) → All IsString libs → IsOpening o → IsNumber w → IfSome (opening_number libs o w) (Reads ((joined lib_tokens libs ++ opening_read o) ++ Number w ∷ []))
unfolding opening_number
opening_number_reads libs (Characteristic r) w l h t = (more (joined lib_tokens libs) (opening_read (Characteristic r)) (Number w), (l, (h, t)))
opening_number_reads libs o w l h t = tt

-- an entry more
entry_read : (s : Script) (n r c : List ℕ) (es : List Entry) (e : Entry) (l : List Token) → before_next entry_tokens es ++ entry_tokens e ≡ l ++ Number e.digits ∷ []
    → tokens s ++ (matrix_head n r c ++ listed entry_tokens (es ++ e ∷ [])) ≡ (tokens s ++ (matrix_head n r c ++ l)) ++ Number e.digits ∷ []
entry_read s n r c es e l same = ap (λ (ts : List Token). tokens s ++ (matrix_head n r c ++ ts)) (listed_more entry_tokens es e ∙ same) ∙ more (tokens s) (matrix_head n r c ++ l) (Number e.digits)

matrix_number_reads : (s : Script) (k : Bool) (m : Matrix) (w : List ℕ) → IsPart s k → IsMatrixStage m → IsNumber w → IfSome (matrix_number s k m w) (Reads ((tokens s ++ matrix_read m) ++ Number w ∷ []))
unfolding matrix_number
matrix_number_reads s k (Rows n) w p h t = (more (tokens s) (matrix_read (Rows n)) (Number w), (p, (h, t)))
matrix_number_reads s k (RowsEnd n r) w p h t = tt
matrix_number_reads s k (ColsStart n r) w p h t = tt
matrix_number_reads s k (Cols n r) w p h t = (more (tokens s) (matrix_read (Cols n r)) (Number w), (p, (h.0, h.1, t)))
matrix_number_reads s k (ColsEnd n r c) w p h t = tt
matrix_number_reads s k (MatrixEquals n r c) w p h t = tt
matrix_number_reads s k (EntryStart n r c es) w p h t =
    let e : Entry = record { is_negative = false; digits = w } in
    (entry_read s n r c es e (before_next entry_tokens es) refl, (p, (h.0, h.1, h.2, All-push IsEntry es e h.3 t, some_more es e)))
matrix_number_reads s k (Digits n r c es) w p h t =
    let e : Entry = record { is_negative = true; digits = w } in
    (entry_read s n r c es e (before_next entry_tokens es ++ minus ∷ []) (more (before_next entry_tokens es) (minus ∷ []) (Number w)), (p, (h.0, h.1, h.2, All-push IsEntry es e h.3 t, some_more es e)))
matrix_number_reads s k (EntryEnd n r c es) w p h t = tt

body_number_reads : (s : Script) (k : Bool) (body : Body) (w : List ℕ) → IsPart s k → IsBody k body → IsNumber w → IfSome (body_number s k body w) (Reads ((tokens s ++ body_read body) ++ Number w ∷ []))
unfolding body_number
body_number_reads s k (InMatrix m) w p h t = matrix_number_reads s k m w p h t
body_number_reads s k body w p h t = tt

number_adds : (s : State) (w : List ℕ) → IsState s → IsNumber w → IfSome (next_number s w) (Reads (read s ++ Number w ∷ []))
unfolding next_number
number_adds (Before libs o) w h t = opening_number_reads libs o w h.0 h.1 t
number_adds (After s k body) w h t = body_number_reads s k body w h.0 h.1 t

opening_text_reads : (libs : List (List ℕ)) (o : Opening) (w : List ℕ) → All IsString libs → IsOpening o → IsString w → IfSome (opening_text libs o w) (Reads ((joined lib_tokens libs ++ opening_read o) ++ Text w ∷ []))
unfolding opening_text
opening_text_reads libs LibText w l h t = (more (joined lib_tokens libs) (opening_read LibText) (Text w), (l, t))
opening_text_reads libs o w l h t = tt

body_text_reads : (s : Script) (k : Bool) (body : Body) (w : List ℕ) → IsPart s k → IsBody k body → IsString w → IfSome (body_text s k body w) (Reads ((tokens s ++ body_read body) ++ Text w ∷ []))
unfolding body_text
body_text_reads s k ItemText w p h t = (more (tokens s) (body_read ItemText) (Text w), (p, t))
body_text_reads s k body w p h t = tt

text_adds : (s : State) (w : List ℕ) → IsState s → IsString w → IfSome (next_text s w) (Reads (read s ++ Text w ∷ []))
unfolding next_text
text_adds (Before libs o) w h t = opening_text_reads libs o w h.0 h.1 t
text_adds (After s k body) w h t = body_text_reads s k body w h.0 h.1 t

-- one token more
pub next_adds : (s : State) (t : Token) → IsState s → IsToken t → IfSome (next s t) (Reads (read s ++ t ∷ []))
next_adds s (Word w) h t = word_adds s w h t
next_adds s (Number w) h t = number_adds s w h t
next_adds s (Text w) h t = text_adds s w h t
next_adds s (Symbol b) h t = symbol_adds s b h
