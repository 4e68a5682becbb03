-- What was read, by the state of the scanner: each byte that it takes is added to it.
use Rattle.std.proofs.Common.{◌≡◌, ℕ, Bool, true, false, List, [], ◌∷◌, ◌++◌, Option, Some, None, if◌then◌else◌, sym, ap, ap₂, ◌∙◌, refl, subst, arith}
use Rattle.std.specs.Prelude.{not, ◌==◌, ◌&&◌, IfSome}
use Rattle.std.specs.List.{list_all}
use Rattle.std.specs.Char.{is_ascii_digit}
use Rattle.std.proofs.lemmas.Bool.{and_parts}
use Rattle.std.proofs.lemmas.Bool.Decides.{nat_tests}
use mathlib.Core.List.{append_assoc}
use Rattle.alg_core.specs.Names.{is_letter, is_name_byte}
use Rattle.finvar_text.specs.Syntax.{Token, Word, Number, Text, Symbol, Lexeme, Blank, LineComment, BlockComment, Proper, lexeme_bytes, Side, Clear, Solid, Commented, is_solid, side, may_follow, IsToken, is_number, is_string_byte, is_open, is_blank, is_word}
use Rattle.finvar_text.specs.Grammar.{State, next_symbol, next_word, next_number, next_text, takes_number, takes_text, word_front, ◌>>=◌}
use Rattle.finvar_text.specs.Scanning.{Mode, Between, Slash, Line, Block, InWord, InNumber, InText, Scan, at, between, in_slash, in_block, in_word, in_number, in_text, step_in, step}
use Rattle.finvar_text.proofs.TokenSteps.{read, Reads, next_adds}
use Rattle.finvar_text.proofs.Layouts.{Layout, layout_more, gap_more, all_more, last_star, last_star_more, open_more, star_split}

abbrev pub is_commented : Side → Bool
is_commented Clear = false
is_commented Solid = false
is_commented Commented = true

-- in a comment to the end of its line, and in one between `/*` and `*/`
pub record Lined (g : State) (bytes : List ℕ) : Type 0 where
  pub last : Side
  pub before : List ℕ
  pub layout : Layout last g before
  pub clear : is_commented last ≡ false
  pub inside : List ℕ
  pub all : list_all (λ b. not (b == 10)) inside ≡ true
  pub spelled : bytes ≡ before ++ 47 ∷ 47 ∷ inside

pub record Blocked (star : Bool) (g : State) (bytes : List ℕ) : Type 0 where
  pub last : Side
  pub before : List ℕ
  pub layout : Layout last g before
  pub clear : is_commented last ≡ false
  pub inside : List ℕ
  pub unclosed : is_open false inside ≡ true
  pub ends : last_star false inside ≡ star
  pub spelled : bytes ≡ before ++ 47 ∷ 42 ∷ inside

pub record Slashed (g : State) (bytes : List ℕ) : Type 0 where
  pub last : Side
  pub before : List ℕ
  pub layout : Layout last g before
  pub clear : is_commented last ≡ false
  pub spelled : bytes ≡ before ++ 47 ∷ []

-- in a token whose first bytes are w
pub record InToken (w : List ℕ) (g : State) (bytes : List ℕ) : Type 0 where
  pub before : List ℕ
  pub layout : Layout Clear g before
  pub spelled : bytes ≡ before ++ w

-- in a string whose first bytes are w
pub record Quoted (w : List ℕ) (g : State) (bytes : List ℕ) : Type 0 where
  pub last : Side
  pub before : List ℕ
  pub layout : Layout last g before
  pub clear : is_commented last ≡ false
  pub spelled : bytes ≡ before ++ 34 ∷ w

-- the scanner has read the bytes
abbrev pub IsReadIn : Mode → State → List ℕ → Type 0
IsReadIn Between g bytes = Layout Clear g bytes
IsReadIn Slash g bytes = Slashed g bytes
IsReadIn Line g bytes = Lined g bytes
IsReadIn (Block star) g bytes = Blocked star g bytes
IsReadIn (InWord w) g bytes = InToken w g bytes × (is_word w ≡ true) × (word_front g w ≡ true)
IsReadIn (InNumber w) g bytes = InToken w g bytes × (is_number w ≡ true) × (takes_number g ≡ true)
IsReadIn (InText w) g bytes = Quoted w g bytes × (list_all is_string_byte w ≡ true) × (takes_text g ≡ true)

abbrev pub IsRead : List ℕ → Scan → Type 0
IsRead bytes s = IsReadIn s.mode s.state bytes

pub if_some : {A : Type 0} (P : A → Type 0) (t : Bool) (x y : Option A) → (t ≡ true → IfSome x P) → (t ≡ false → IfSome y P) → IfSome (if t then x else y) P
if_some P true x y f g = f refl
if_some P false x y f g = g refl

pub bind_some : {A B : Type 0} (Q : A → Type 0) (P : B → Type 0) (o : Option A) (h : A → Option B) → IfSome o Q → ((x : A) → Q x → IfSome (h x) P) → IfSome (o >>= h) P
bind_some Q P None h q f = tt
bind_some Q P (Some x) h q f = f x q

-- after what is no comment to the end of a line, each lexeme that is no word and no number may follow
pub loose : (p : Side) (l : Lexeme) → is_commented p ≡ false → is_solid (side l) ≡ false → may_follow p l ≡ true
loose Clear l h e = refl
loose Solid l h e = ap not e
loose Commented l h e = absurd cc

-- and where no word and no number stands before, these too
loose_clear : (p : Side) (t : Token) → is_commented p ≡ false → is_solid p ≡ false → may_follow p (Proper t) ≡ true
loose_clear Clear t h e = refl
loose_clear Solid t h e = absurd cc
loose_clear Commented t h e = absurd cc

clear_side : (p : Side) → is_commented p ≡ false → is_solid p ≡ false → p ≡ Clear
clear_side Clear h e = refl
clear_side Solid h e = absurd cc
clear_side Commented h e = absurd cc

module _ (p : Side) (g : State) (a : List ℕ) (h : Layout p g a) (clear : is_commented p ≡ false) where
  -- a byte where nothing is open; after a word or a number it is no letter and no digit
  pub between_reads : (b : ℕ) → (is_letter b ≡ true → is_solid p ≡ false) → (is_ascii_digit b ≡ true → is_solid p ≡ false) → IfSome (between g b) (IsRead (a ++ b ∷ []))
  unfolding between
  between_reads b letter digit =
      let P = IsRead (a ++ b ∷ []) in
      if_some P (is_blank b) _ _ (λ e. gap_more p g a (Blank b) h (record { lexeme = e; follows = loose p (Blank b) clear refl }) refl)
      (λ _. if_some P (b == 47) _ _ (λ e. record { last = p; before = a; layout = h; clear = clear; spelled = ap (λ (x : ℕ). a ++ x ∷ []) (slash b e) })
      (λ _. if_some P (b == 34) _ _ (λ e. if_some P (takes_text g) _ _ (λ t. (record { last = p; before = a; layout = h; clear = clear; spelled = ap (λ (x : ℕ). a ++ x ∷ []) (quote b e) }, refl, t)) (λ _. tt))
      (λ _. if_some P (is_letter b) _ _ (λ e. if_some P (word_front g (b ∷ [])) _ _ (λ t. (record { before = a; layout = here (letter e); spelled = refl }, ap (λ (u : Bool). u && true) e, t)) (λ _. tt))
      (λ _. if_some P (is_ascii_digit b) _ _ (λ e. if_some P (takes_number g) _ _ (λ t. (record { before = a; layout = here (digit e); spelled = refl }, ap (λ (u : Bool). u && true) e, t)) (λ _. tt))
      (λ _. bind_some (Reads (read g ++ Symbol b ∷ [])) P (next_symbol g b) (λ g'. Some (at g' Between)) (next_adds g (Symbol b) h.state tt)
      (λ g' r. layout_more p g g' a (Proper (Symbol b)) h (record { lexeme = tt; follows = loose p (Proper (Symbol b)) clear refl }) r))))))
    where
      slash : (b : ℕ) → b == 47 ≡ true → b ≡ 47
      slash b e = grind (arith, nat_tests)

      quote : (b : ℕ) → b == 34 ≡ true → b ≡ 34
      quote b e = grind (arith, nat_tests)

      here : is_solid p ≡ false → Layout Clear g a
      here e = subst (λ (q : Side). Layout q g a) (clear_side p clear e) h

-- a byte that is no letter and no digit after a word or a number
after_token : (p : Side) (g : State) (a : List ℕ) (b : ℕ) → Layout p g a → is_commented p ≡ false → is_letter b ≡ false → is_ascii_digit b ≡ false → IfSome (between g b) (IsRead (a ++ b ∷ []))
after_token p g a b h clear letter digit = between_reads p g a h clear b (λ e. absurd (let f = sym e ∙ letter in cc)) (λ e. absurd (let f = sym e ∙ digit in cc))

in_slash_reads : (g : State) (b : ℕ) (bytes : List ℕ) → Slashed g bytes → IfSome (in_slash g b) (IsRead (bytes ++ b ∷ []))
unfolding in_slash
in_slash_reads g b bytes h =
    let P = IsRead (bytes ++ b ∷ []) in
    if_some P (b == 47) _ _ (λ e. record { last = h.last; before = h.before; layout = h.layout; clear = h.clear; inside = []; all = refl; spelled = text 47 (grind (arith, nat_tests)) })
    (λ _. if_some P (b == 42) _ _ (λ e. record { last = h.last; before = h.before; layout = h.layout; clear = h.clear; inside = []; unclosed = refl; ends = refl; spelled = text 42 (grind (arith, nat_tests)) }) (λ _. tt))
  where
    text : (x : ℕ) → b ≡ x → bytes ++ b ∷ [] ≡ h.before ++ 47 ∷ x ∷ []
    text x e = ap (λ (l : List ℕ). l ++ b ∷ []) h.spelled ∙ append_assoc h.before (47 ∷ []) (b ∷ []) ∙ ap (λ (y : ℕ). h.before ++ 47 ∷ y ∷ []) e

in_line_reads : (g : State) (b : ℕ) (bytes : List ℕ) → Lined g bytes → IfSome (if b == 10 then Some (at g Between) else Some (at g Line)) (IsRead (bytes ++ b ∷ []))
in_line_reads g b bytes h =
    let P = IsRead (bytes ++ b ∷ []) in
    if_some P (b == 10) _ _ (λ e. subst (Layout Clear g) (ap (λ (l : List ℕ). l ++ b ∷ []) (sym h.spelled)) (ended e))
    (λ e. record {
      last = h.last;
      before = h.before;
      layout = h.layout;
      clear = h.clear;
      inside = h.inside ++ b ∷ [];
      all = all_more (λ b. not (b == 10)) h.inside b h.all (ap not e);
      spelled = ap (λ (l : List ℕ). l ++ b ∷ []) h.spelled ∙ append_assoc h.before (47 ∷ 47 ∷ h.inside) (b ∷ []);
    })
  where
    ended : b == 10 ≡ true → Layout Clear g ((h.before ++ 47 ∷ 47 ∷ h.inside) ++ b ∷ [])
    ended e =
        let newline : b ≡ 10 = grind (arith, nat_tests) in
        gap_more Commented g (h.before ++ 47 ∷ 47 ∷ h.inside) (Blank b)
        (gap_more h.last g h.before (LineComment h.inside) h.layout (record { lexeme = h.all; follows = loose h.last (LineComment h.inside) h.clear refl }) refl)
        (record { lexeme = ap is_blank newline; follows = e }) refl

in_block_reads : (star : Bool) (g : State) (b : ℕ) (bytes : List ℕ) → Blocked star g bytes → IfSome (in_block star g b) (IsRead (bytes ++ b ∷ []))
unfolding in_block
in_block_reads star g b bytes h =
    let P = IsRead (bytes ++ b ∷ []) in
    if_some P (star && b == 47) _ _ (λ e. subst (Layout Clear g) (ap (λ (l : List ℕ). l ++ b ∷ []) (sym h.spelled)) (ended h.inside h.unclosed e h.ends))
    (λ e. record {
      last = h.last;
      before = h.before;
      layout = h.layout;
      clear = h.clear;
      inside = h.inside ++ b ∷ [];
      unclosed = open_more false h.inside b h.unclosed (ap (λ (t : Bool). t && b == 47) h.ends ∙ e);
      ends = last_star_more false h.inside b;
      spelled = ap (λ (l : List ℕ). l ++ b ∷ []) h.spelled ∙ append_assoc h.before (47 ∷ 42 ∷ h.inside) (b ∷ []);
    })
  where
    ended : (inside : List ℕ) → is_open false inside ≡ true → star && b == 47 ≡ true → last_star false inside ≡ star → Layout Clear g ((h.before ++ 47 ∷ 42 ∷ inside) ++ b ∷ [])
    ended [] whole e is = absurd (let parts = and_parts star (b == 47) e in let f = is ∙ parts.0 in cc)
    ended (c ∷ inside) whole e is =
        let parts = and_parts star (b == 47) e in
        let r = star_split false c inside whole (is ∙ parts.0) in
        let slash : b ≡ 47 = grind (arith, nat_tests) in
        subst (Layout Clear g) (ap (λ (l : List ℕ). h.before ++ 47 ∷ 42 ∷ l) (sym (append_assoc r.others (42 ∷ []) (47 ∷ [])) ∙ ap₂ (λ (l : List ℕ) (x : ℕ). l ++ x ∷ []) (sym r.is) (sym slash)) ∙ sym (append_assoc h.before (47 ∷ 42 ∷ c ∷ inside) (b ∷ [])))
        (gap_more h.last g h.before (BlockComment r.others) h.layout (record { lexeme = r.unclosed; follows = loose h.last (BlockComment r.others) h.clear refl }) refl)

word_more : (w : List ℕ) (b : ℕ) → is_word w ≡ true → is_name_byte b ≡ true → is_word (w ++ b ∷ []) ≡ true
word_more [] b h e = absurd cc
word_more (c ∷ w) b h e =
    let parts = and_parts (is_letter c) (list_all is_name_byte w) h in
    ap₂ (λ (t u : Bool). t && u) parts.0 (all_more is_name_byte w b parts.1 e)

number_more : (w : List ℕ) (b : ℕ) → is_number w ≡ true → is_ascii_digit b ≡ true → is_number (w ++ b ∷ []) ≡ true
number_more [] b h e = absurd cc
number_more (c ∷ w) b h e = all_more is_ascii_digit (c ∷ w) b h e

token_more : (w : List ℕ) (g : State) (b : ℕ) (bytes : List ℕ) → InToken w g bytes → InToken (w ++ b ∷ []) g (bytes ++ b ∷ [])
token_more w g b bytes h = record { before = h.before; layout = h.layout; spelled = ap (λ (l : List ℕ). l ++ b ∷ []) h.spelled ∙ append_assoc h.before w (b ∷ []) }

-- a token that ended, and a byte that is no letter and no digit
token_ended : (t : Token) (w : List ℕ) (g g' : State) (b : ℕ) (bytes : List ℕ) → InToken w g bytes → lexeme_bytes (Proper t) ≡ w → IsToken t → is_commented (side (Proper t)) ≡ false → is_letter b ≡ false → is_ascii_digit b ≡ false → Reads (read g ++ t ∷ []) g'
    → IfSome (between g' b) (IsRead (bytes ++ b ∷ []))
token_ended t w g g' b bytes h is token clear letter digit r =
    subst (λ (l : List ℕ). IfSome (between g' b) (IsRead (l ++ b ∷ []))) (ap (λ (l : List ℕ). h.before ++ l) is ∙ sym h.spelled)
    (after_token (side (Proper t)) g' (h.before ++ lexeme_bytes (Proper t)) b (layout_more Clear g g' h.before (Proper t) h.layout (record { lexeme = token; follows = refl }) r) clear letter digit)

in_word_reads : (w : List ℕ) (g : State) (b : ℕ) (bytes : List ℕ) → IsReadIn (InWord w) g bytes → IfSome (in_word w g b) (IsRead (bytes ++ b ∷ []))
unfolding in_word
in_word_reads w g b bytes h =
    let P = IsRead (bytes ++ b ∷ []) in
    if_some P (is_name_byte b) _ _ (λ e. if_some P (word_front g (w ++ b ∷ [])) _ _ (λ t. (token_more w g b bytes h.0, word_more w b h.1 e, t)) (λ _. tt))
    (λ e. bind_some (Reads (read g ++ Word w ∷ [])) P (next_word g w) (λ g'. between g' b) (next_adds g (Word w) h.0.layout.state h.1)
    (λ g' r. token_ended (Word w) w g g' b bytes h.0 refl h.1 refl (grind (arith, nat_tests)) (grind (arith, nat_tests)) r))

in_number_reads : (w : List ℕ) (g : State) (b : ℕ) (bytes : List ℕ) → IsReadIn (InNumber w) g bytes → IfSome (in_number w g b) (IsRead (bytes ++ b ∷ []))
unfolding in_number
in_number_reads w g b bytes h =
    let P = IsRead (bytes ++ b ∷ []) in
    if_some P (is_ascii_digit b) _ _ (λ e. (token_more w g b bytes h.0, number_more w b h.1 e, h.2))
    (λ digit. if_some P (is_letter b) _ _ (λ _. tt)
    (λ letter. bind_some (Reads (read g ++ Number w ∷ [])) P (next_number g w) (λ g'. between g' b) (next_adds g (Number w) h.0.layout.state h.1)
    (λ g' r. token_ended (Number w) w g g' b bytes h.0 refl h.1 refl letter digit r)))

in_text_reads : (w : List ℕ) (g : State) (b : ℕ) (bytes : List ℕ) → IsReadIn (InText w) g bytes → IfSome (in_text w g b) (IsRead (bytes ++ b ∷ []))
unfolding in_text
in_text_reads w g b bytes h =
    let P = IsRead (bytes ++ b ∷ []) in
    let q = h.0 in
    if_some P (b == 34) _ _ (λ e. bind_some (Reads (read g ++ Text w ∷ [])) P (next_text g w) (λ g'. Some (at g' Between)) (next_adds g (Text w) q.layout.state h.1)
    (λ g' r. subst (Layout Clear g') (ap (λ (x : ℕ). q.before ++ 34 ∷ (w ++ x ∷ [])) (quote b e) ∙ more q b)
    (layout_more q.last g g' q.before (Proper (Text w)) q.layout (record { lexeme = h.1; follows = loose q.last (Proper (Text w)) q.clear refl }) r)))
    (λ quoted. if_some P (b == 10) _ _ (λ _. tt) (λ e. (
      record { last = q.last; before = q.before; layout = q.layout; clear = q.clear; spelled = sym (more q b) },
      all_more is_string_byte w b h.1 (ap₂ (λ (t u : Bool). not t && not u) quoted e),
      h.2,
    )))
  where
    quote : (b : ℕ) → b == 34 ≡ true → 34 ≡ b
    quote b e = grind (arith, nat_tests)

    more : (q : Quoted w g bytes) (b : ℕ) → q.before ++ 34 ∷ (w ++ b ∷ []) ≡ bytes ++ b ∷ []
    more q b = sym (append_assoc q.before (34 ∷ w) (b ∷ [])) ∙ ap (λ (l : List ℕ). l ++ b ∷ []) (sym q.spelled)

step_adds_in : (m : Mode) (g : State) (b : ℕ) (bytes : List ℕ) → IsReadIn m g bytes → IfSome (step_in m g b) (IsRead (bytes ++ b ∷ []))
unfolding step_in
step_adds_in Between g b bytes h = between_reads Clear g bytes h refl b (λ e. refl) (λ e. refl)
step_adds_in Slash g b bytes h = in_slash_reads g b bytes h
step_adds_in Line g b bytes h = in_line_reads g b bytes h
step_adds_in (Block star) g b bytes h = in_block_reads star g b bytes h
step_adds_in (InWord w) g b bytes h = in_word_reads w g b bytes h
step_adds_in (InNumber w) g b bytes h = in_number_reads w g b bytes h
step_adds_in (InText w) g b bytes h = in_text_reads w g b bytes h

-- one byte more
pub step_adds : (s : Scan) (b : ℕ) (bytes : List ℕ) → IsRead bytes s → IfSome (step s b) (IsRead (bytes ++ b ∷ []))
step_adds s b bytes h = step_adds_in s.mode s.state b bytes h
