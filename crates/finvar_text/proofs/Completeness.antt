-- Each text is scanned, and its script is found.
use Rattle.std.proofs.Common.{◌≡◌, ℕ, Bool, true, false, List, [], ◌∷◌, ◌++◌, Option, Some, None, if◌then◌else◌, sym, ap, ap₂, ◌∙◌, refl, arith}
use Rattle.std.specs.Prelude.{◌==◌}
use Rattle.std.specs.List.{list_all}
use Rattle.std.specs.Char.{is_ascii_digit}
use Rattle.std.proofs.lemmas.Bool.{and_parts}
use Rattle.std.proofs.lemmas.Bool.Decides.{nat_tests}
use mathlib.Core.List.{append_assoc}
use Rattle.alg_core.specs.Names.{is_letter, is_name_byte}
use Rattle.finvar_text.specs.Syntax.{Script, Token, Word, Number, Text, Symbol, Lexeme, Blank, LineComment, BlockComment, Proper, lexeme_bytes, spelling, tokens_of, tokens_in, Clear, Solid, IsNext, AreJoined, IsToken, IsText, is_blank, is_string_byte}
use Rattle.finvar_text.specs.Grammar.{State, After, Items, start, next_symbol, next_word, next_number, next_text, whole, word_front, takes_text, parse, ◌>>=◌}
use Rattle.finvar_text.specs.Scanning.{Between, Line, Block, InWord, InNumber, InText, Scan, at, start_scan, between, in_slash, in_word, in_number, in_text, step_in, step}
use Rattle.finvar_text.proofs.TokenTexts.{script_parsed}
use Rattle.finvar_text.proofs.Endings.{run, run_after}
use Rattle.finvar_text.proofs.Fronts.{word_scanned}
use Rattle.finvar_text.proofs.Lexemes.{is_symbol, taken_symbol, taken_front, number_takes, text_takes, line_run, block_run, string_run, number_run, blank_step, letter_step, digit_step, symbol_step}

-- the lexemes lead to the script of their tokens
abbrev Found : List Lexeme → Type 0
Found ls = (g h : State) → parse g (tokens_in ls) ≡ Some h → run (at g Between) (spelling ls) ≡ whole h

first : (s s' : Scan) (b : ℕ) (rest : List ℕ) → step s b ≡ Some s' → run s (b ∷ rest) ≡ run s' rest
first s s' b rest e = ap (λ (o : Option Scan). o >>= λ t. run t rest) e

same_whole : (g h : State) → Some g ≡ Some h → whole g ≡ whole h
same_whole g h e = ap (λ (o : Option State). o >>= whole) e

symbol_then : (g : State) (b : ℕ) (ls : List Lexeme) (h : State) → Found ls → (next_symbol g b >>= λ g'. parse g' (tokens_in ls)) ≡ Some h → run (at g Between) (b ∷ spelling ls) ≡ whole h
symbol_then g b ls h found = go (next_symbol g b) refl
  where
    go : (o : Option State) → next_symbol g b ≡ o → (o >>= λ g'. parse g' (tokens_in ls)) ≡ Some h → run (at g Between) (b ∷ spelling ls) ≡ whole h
    go None e p = absurd cc
    go (Some g') e p = first (at g Between) (at g' Between) b (spelling ls) (symbol_step g b g' e (taken_symbol g b g' e)) ∙ found g' h p

quote_step : (g : State) → takes_text g ≡ true → step (at g Between) 34 ≡ Some (at g (InText []))
unfolding step_in between
quote_step g e = ap (λ (t : Bool). if t then Some (at g (InText [])) else None) e

string_end : (g g' : State) (w : List ℕ) → next_text g w ≡ Some g' → step (at g (InText w)) 34 ≡ Some (at g' Between)
unfolding step_in in_text
string_end g g' w e = ap (λ (o : Option State). o >>= λ g'. Some (at g' Between)) e

text_then : (g : State) (w : List ℕ) (ls : List Lexeme) (h : State) → Found ls → list_all is_string_byte w ≡ true → (next_text g w >>= λ g'. parse g' (tokens_in ls)) ≡ Some h → run (at g Between) (lexeme_bytes (Proper (Text w)) ++ spelling ls) ≡ whole h
text_then g w ls h found is = go (next_text g w) refl
  where
    go : (o : Option State) → next_text g w ≡ o → (o >>= λ g'. parse g' (tokens_in ls)) ≡ Some h → run (at g Between) (lexeme_bytes (Proper (Text w)) ++ spelling ls) ≡ whole h
    go None e p = absurd cc
    go (Some g') e p =
        first (at g Between) (at g (InText [])) 34 ((w ++ 34 ∷ []) ++ spelling ls) (quote_step g (text_takes g w g' e))
        ∙ ap (run (at g (InText []))) (append_assoc w (34 ∷ []) (spelling ls)) ∙ string_run g [] w (34 ∷ spelling ls) is
        ∙ first (at g (InText w)) (at g' Between) 34 (spelling ls) (string_end g g' w e) ∙ found g' h p

-- the first byte of what may follow a word or a number
record Ended (l : Lexeme) : Type 0 where
  pub byte : ℕ
  pub others : List ℕ
  pub is : lexeme_bytes l ≡ byte ∷ others
  pub apart : is_name_byte byte ≡ false

symbol_ended : (b : ℕ) (g h : State) (ts : List Token) → (next_symbol g b >>= λ g'. parse g' ts) ≡ Some h → is_name_byte b ≡ false
symbol_ended b g h ts = go (next_symbol g b) refl
  where
    apart : (b : ℕ) → is_symbol b ≡ true → is_name_byte b ≡ false
    apart b e = grind (arith, nat_tests)

    go : (o : Option State) → next_symbol g b ≡ o → (o >>= λ g'. parse g' ts) ≡ Some h → is_name_byte b ≡ false
    go None e p = absurd cc
    go (Some g') e p = apart b (taken_symbol g b g' e)

blank_apart : (b : ℕ) → is_blank b ≡ true → is_name_byte b ≡ false
blank_apart b e = grind (arith, nat_tests)

ended : (l : Lexeme) (g h : State) (ts : List Token) → IsNext Solid l → parse g (tokens_of l ++ ts) ≡ Some h → Ended l
ended (Blank b) g h ts n p = record { byte = b; others = []; is = refl; apart = blank_apart b n.lexeme }
ended (LineComment bs) g h ts n p = record { byte = 47; others = 47 ∷ bs; is = refl; apart = refl }
ended (BlockComment bs) g h ts n p = record { byte = 47; others = 42 ∷ (bs ++ 42 ∷ 47 ∷ []); is = refl; apart = refl }
ended (Proper (Word w)) g h ts n p = absurd (let f = n.follows in cc)
ended (Proper (Number w)) g h ts n p = absurd (let f = n.follows in cc)
ended (Proper (Text w)) g h ts n p = record { byte = 34; others = w ++ 34 ∷ []; is = refl; apart = refl }
ended (Proper (Symbol b)) g h ts n p = record { byte = b; others = []; is = refl; apart = symbol_ended b g h ts p }

word_end : (g g' : State) (w : List ℕ) (b : ℕ) (rest : List ℕ) → next_word g w ≡ Some g' → is_name_byte b ≡ false → run (at g (InWord w)) (b ∷ rest) ≡ run (at g' Between) (b ∷ rest)
unfolding step_in in_word
word_end g g' w b rest e f = ap₂ (λ (t : Bool) (o : Option State). (if t then (if word_front g (w ++ b ∷ []) then Some (at g (InWord (w ++ b ∷ []))) else None) else (o >>= λ g'. between g' b)) >>= λ s'. run s' rest) f e

number_end : (g g' : State) (w : List ℕ) (b : ℕ) (rest : List ℕ) → next_number g w ≡ Some g' → is_name_byte b ≡ false → run (at g (InNumber w)) (b ∷ rest) ≡ run (at g' Between) (b ∷ rest)
unfolding step_in in_number
number_end g g' w b rest e f =
    let digit : is_ascii_digit b ≡ false = grind (arith, nat_tests) in
    let letter : is_letter b ≡ false = grind (arith, nat_tests) in
    ap₂ (λ (t u : Bool). (if t then Some (at g (InNumber (w ++ b ∷ []))) else if u then None else (next_number g w >>= λ g'. between g' b)) >>= λ s'. run s' rest) digit letter
    ∙ ap (λ (o : Option State). (o >>= λ g'. between g' b) >>= λ s'. run s' rest) e

word_solid : (g g' : State) (w : List ℕ) (ls : List Lexeme) (h : State) → next_word g w ≡ Some g' → parse g' (tokens_in ls) ≡ Some h → AreJoined Solid ls → Found ls → run (at g (InWord w)) (spelling ls) ≡ whole h
word_solid g g' w [] h e p j found = ap (λ (o : Option State). o >>= whole) e ∙ same_whole g' h p
word_solid g g' w (l ∷ ls) h e p j found =
    let f = ended l g' h (tokens_in ls) j.0 p in
    ap (λ (bs : List ℕ). run (at g (InWord w)) (bs ++ spelling ls)) f.is ∙ word_end g g' w f.byte (f.others ++ spelling ls) e f.apart
    ∙ ap (λ (bs : List ℕ). run (at g' Between) (bs ++ spelling ls)) (sym f.is) ∙ found g' h p

number_solid : (g g' : State) (w : List ℕ) (ls : List Lexeme) (h : State) → next_number g w ≡ Some g' → parse g' (tokens_in ls) ≡ Some h → AreJoined Solid ls → Found ls → run (at g (InNumber w)) (spelling ls) ≡ whole h
number_solid g g' w [] h e p j found = ap (λ (o : Option State). o >>= whole) e ∙ same_whole g' h p
number_solid g g' w (l ∷ ls) h e p j found =
    let f = ended l g' h (tokens_in ls) j.0 p in
    ap (λ (bs : List ℕ). run (at g (InNumber w)) (bs ++ spelling ls)) f.is ∙ number_end g g' w f.byte (f.others ++ spelling ls) e f.apart
    ∙ ap (λ (bs : List ℕ). run (at g' Between) (bs ++ spelling ls)) (sym f.is) ∙ found g' h p

word_then : (g : State) (w : List ℕ) (ls : List Lexeme) (h : State) → Found ls → IsToken (Word w) → AreJoined Solid ls → (next_word g w >>= λ g'. parse g' (tokens_in ls)) ≡ Some h → run (at g Between) (w ++ spelling ls) ≡ whole h
word_then g [] ls h found is j = absurd cc
word_then g (b ∷ w) ls h found is j = go (next_word g (b ∷ w)) refl
  where
    go : (o : Option State) → next_word g (b ∷ w) ≡ o → (o >>= λ g'. parse g' (tokens_in ls)) ≡ Some h → run (at g Between) (b ∷ (w ++ spelling ls)) ≡ whole h
    go None e p = absurd cc
    go (Some g') e p =
        let parts = and_parts (is_letter b) (list_all is_name_byte w) is in
        first (at g Between) (at g (InWord (b ∷ []))) b (w ++ spelling ls) (letter_step g b parts.0 (taken_front g (b ∷ w) (b ∷ []) w g' refl e))
        ∙ run_after (at g (InWord (b ∷ []))) (at g (InWord (b ∷ w))) w (spelling ls) (word_scanned g (b ∷ w) (λ u rest same. taken_front g (b ∷ w) u rest g' same e) (b ∷ []) w refl parts.1)
        ∙ word_solid g g' (b ∷ w) ls h e p j found

number_then : (g : State) (w : List ℕ) (ls : List Lexeme) (h : State) → Found ls → IsToken (Number w) → AreJoined Solid ls → (next_number g w >>= λ g'. parse g' (tokens_in ls)) ≡ Some h → run (at g Between) (w ++ spelling ls) ≡ whole h
number_then g [] ls h found is j = absurd cc
number_then g (b ∷ w) ls h found is j = go (next_number g (b ∷ w)) refl
  where
    go : (o : Option State) → next_number g (b ∷ w) ≡ o → (o >>= λ g'. parse g' (tokens_in ls)) ≡ Some h → run (at g Between) (b ∷ (w ++ spelling ls)) ≡ whole h
    go None e p = absurd cc
    go (Some g') e p =
        let parts = and_parts (is_ascii_digit b) (list_all is_ascii_digit w) is in
        first (at g Between) (at g (InNumber (b ∷ []))) b (w ++ spelling ls) (digit_step g b parts.0 (number_takes g (b ∷ w) g' e))
        ∙ number_run g (b ∷ []) w (spelling ls) parts.1 ∙ number_solid g g' (b ∷ w) ls h e p j found

line_begins : (g : State) (rest : List ℕ) → run (at g Between) (47 ∷ 47 ∷ rest) ≡ run (at g Line) rest
unfolding step_in between in_slash
line_begins g rest = refl

block_begins : (g : State) (rest : List ℕ) → run (at g Between) (47 ∷ 42 ∷ rest) ≡ run (at g (Block false)) rest
unfolding step_in between in_slash
block_begins g rest = refl

newline : (g : State) (b : ℕ) → b == 10 ≡ true → step (at g Line) b ≡ Some (at g Between)
unfolding step_in
newline g b e = ap (λ (t : Bool). if t then Some (at g Between) else Some (at g Line)) e

loosen : (ls : List Lexeme) → AreJoined Solid ls → AreJoined Clear ls
loosen [] j = tt
loosen (l ∷ ls) j = (record { lexeme = j.0.lexeme; follows = refl }, j.1)

-- lexemes that follow each other are scanned, and the script of their tokens is found
lexemes_found : (ls : List Lexeme) → AreJoined Clear ls → (g h : State) → parse g (tokens_in ls) ≡ Some h → run (at g Between) (spelling ls) ≡ whole h
lexemes_found [] j g h p = same_whole g h p
lexemes_found (Blank b ∷ ls) j g h p = first (at g Between) (at g Between) b (spelling ls) (blank_step g b j.0.lexeme) ∙ lexemes_found ls j.1 g h p
lexemes_found (LineComment bs ∷ []) j g h p = line_begins g (bs ++ []) ∙ line_run g bs [] j.0.lexeme ∙ same_whole g h p
lexemes_found (LineComment bs ∷ Blank b ∷ ls) j g h p =
    line_begins g (bs ++ b ∷ spelling ls) ∙ line_run g bs (b ∷ spelling ls) j.0.lexeme ∙ first (at g Line) (at g Between) b (spelling ls) (newline g b j.1.0.follows) ∙ lexemes_found ls j.1.1 g h p
lexemes_found (LineComment bs ∷ LineComment cs ∷ ls) j g h p = absurd (let f = j.1.0.follows in cc)
lexemes_found (LineComment bs ∷ BlockComment cs ∷ ls) j g h p = absurd (let f = j.1.0.follows in cc)
lexemes_found (LineComment bs ∷ Proper t ∷ ls) j g h p = absurd (let f = j.1.0.follows in cc)
lexemes_found (BlockComment bs ∷ ls) j g h p =
    block_begins g ((bs ++ 42 ∷ 47 ∷ []) ++ spelling ls) ∙ ap (run (at g (Block false))) (append_assoc bs (42 ∷ 47 ∷ []) (spelling ls)) ∙ block_run g false bs (spelling ls) j.0.lexeme ∙ lexemes_found ls j.1 g h p
lexemes_found (Proper (Word w) ∷ ls) j g h p = word_then g w ls h (lexemes_found ls (loosen ls j.1)) j.0.lexeme j.1 p
lexemes_found (Proper (Number w) ∷ ls) j g h p = number_then g w ls h (lexemes_found ls (loosen ls j.1)) j.0.lexeme j.1 p
lexemes_found (Proper (Text w) ∷ ls) j g h p = text_then g w ls h (lexemes_found ls j.1) j.0.lexeme p
lexemes_found (Proper (Symbol b) ∷ ls) j g h p = symbol_then g b ls h (lexemes_found ls j.1) p

-- each text's script is found
pub text_found : (s : Script) (bytes : List ℕ) → IsText s bytes → run start_scan bytes ≡ Some s
text_found s bytes h =
    let q = script_parsed s h.script in
    let t = h.spelled in
    ap (run start_scan) (sym t.spelled) ∙ lexemes_found t.lexemes t.joined start (After s q.0 Items) (ap (parse start) t.tokens ∙ q.1)
