-- Where a script may end, and that each state of the scanner is that of the front of a text.
use Rattle.std.proofs.Common.{◌≡◌, ℕ, Bool, true, false, List, [], ◌∷◌, ◌++◌, Option, Some, None, sym, ap, ◌∙◌, refl, subst}
use Rattle.std.specs.Prelude.{codes, IfSome}
use mathlib.Core.List.{append_assoc, append-nil}
use Rattle.finvar_text.specs.Syntax.{Entry, Script, Lib, Declared, Printed, Called, Token, Word, Number, LineComment, Proper, lexeme_bytes, Side, Clear, Commented, side, IsToken, IsText}
use Rattle.finvar_text.specs.Grammar.{Opening, Libs, LibText, LibEnd, RingName, RingEquals, Characteristic, CharacteristicEnd, Variables, Variable, VariableEnd, VariablesEnd, Order, RingEnd, Matrix, Rows, RowsEnd, ColsStart, Cols, ColsEnd, MatrixEquals, EntryStart, Digits, EntryEnd, Call, Second, SecondEnd, Third, ThirdEnd, InvariantRing, CallOpen, Argument, ArgumentEnd, CallEnd, Printing, PrintOpen, PrintName, PrintClose, PrintEnd, Body, Items, ItemText, ItemTextEnd, MatrixName, MatrixNamed, InMatrix, InCall, InPrint, State, Before, After, opening_symbol, matrix_symbol, call_symbol, print_symbol, body_symbol, next_symbol, opening_word, call_word, printing_word, body_word, next_word, matrix_number, opening_number, body_number, next_number, opening_text, body_text, next_text, with_item, whole, ◌>>=◌}
use Rattle.finvar_text.specs.Scanning.{Mode, Between, Slash, Line, Block, InWord, InNumber, InText, Scan, at, between, in_word, in_number, in_text, step_in, step, scan, finish, finish_in}
use Rattle.finvar_text.proofs.TokenSteps.{read, Reads, next_adds}
use Rattle.finvar_text.proofs.TokenTexts.{Ends, whole_script}
use Rattle.finvar_text.proofs.Layouts.{Layout, layout_more, gap_more}
use Rattle.finvar_text.proofs.ByteSteps.{IsRead, IsReadIn, InToken, bind_some, loose, step_adds}

-- the bytes are a text with this script
abbrev pub Finds : List ℕ → Script → Type 0
Finds bytes t = IsText t bytes

layout_ends : (p : Side) (g : State) (bytes : List ℕ) → Layout p g bytes → IfSome (whole g) (Finds bytes)
layout_ends p g bytes h = go (whole g) (whole_script g h.state)
  where
    go : (o : Option Script) → IfSome o (Ends g) → IfSome o (Finds bytes)
    go None e = tt
    go (Some t) e = record { script = e.0; spelled = record { lexemes = h.lexemes; joined = h.joined; tokens = sym h.tokens ∙ e.1; spelled = h.spelled } }

token_ends : (t : Token) (w : List ℕ) (g g' : State) (bytes : List ℕ) → InToken w g bytes → lexeme_bytes (Proper t) ≡ w → IsToken t → Reads (read g ++ t ∷ []) g' → IfSome (whole g') (Finds bytes)
token_ends t w g g' bytes h is token r =
    layout_ends (side (Proper t)) g' bytes (subst (Layout (side (Proper t)) g') (ap (λ (l : List ℕ). h.before ++ l) is ∙ sym h.spelled)
    (layout_more Clear g g' h.before (Proper t) h.layout (record { lexeme = token; follows = refl }) r))

finish_text_in : (m : Mode) (g : State) (bytes : List ℕ) → IsReadIn m g bytes → IfSome (finish_in m g) (Finds bytes)
finish_text_in Between g bytes h = layout_ends Clear g bytes h
finish_text_in Slash g bytes h = tt
finish_text_in Line g bytes h = layout_ends Commented g bytes (subst (Layout Commented g) (sym h.spelled) (gap_more h.last g h.before (LineComment h.inside) h.layout (record { lexeme = h.all; follows = loose h.last (LineComment h.inside) h.clear refl }) refl))
finish_text_in (Block star) g bytes h = tt
finish_text_in (InWord w) g bytes h = bind_some (Reads (read g ++ Word w ∷ [])) (Finds bytes) (next_word g w) whole (next_adds g (Word w) h.0.layout.state h.1) (λ g' r. token_ends (Word w) w g g' bytes h.0 refl h.1 r)
finish_text_in (InNumber w) g bytes h = bind_some (Reads (read g ++ Number w ∷ [])) (Finds bytes) (next_number g w) whole (next_adds g (Number w) h.0.layout.state h.1) (λ g' r. token_ends (Number w) w g g' bytes h.0 refl h.1 r)
finish_text_in (InText w) g bytes h = tt

-- where the scanner may stop, the script is that of what it read
pub finish_text : (s : Scan) (bytes : List ℕ) → IsRead bytes s → IfSome (finish s) (Finds bytes)
finish_text s bytes h = finish_text_in s.mode s.state bytes h

-- the script of these bytes and what was read before
abbrev pub run : Scan → List ℕ → Option Script
run s [] = finish s
run s (b ∷ bs) = step s b >>= λ s'. run s' bs

pub run_text : (s : Scan) (bytes rest : List ℕ) → IsRead bytes s → IfSome (run s rest) (Finds (bytes ++ rest))
run_text s bytes [] h = subst (λ (l : List ℕ). IfSome (finish s) (Finds l)) (sym (append-nil bytes)) (finish_text s bytes h)
run_text s bytes (b ∷ rest) h =
    bind_some (IsRead (bytes ++ b ∷ [])) (Finds (bytes ++ b ∷ rest)) (step s b) (λ s'. run s' rest) (step_adds s b bytes h)
    (λ s' r. subst (λ (l : List ℕ). IfSome (run s' rest) (Finds l)) (append_assoc bytes (b ∷ []) rest) (run_text s' (bytes ++ b ∷ []) rest r))

then_run : (o : Option Scan) (a b : List ℕ) → ((s : Scan) → run s (a ++ b) ≡ (scan s a >>= λ t. run t b)) → (o >>= λ s. run s (a ++ b)) ≡ ((o >>= λ s. scan s a) >>= λ t. run t b)
then_run None a b h = refl
then_run (Some s) a b h = h s

pub run_append : (s : Scan) (a b : List ℕ) → run s (a ++ b) ≡ (scan s a >>= λ t. run t b)
run_append s [] b = refl
run_append s (x ∷ a) b = then_run (step s x) a b (λ s'. run_append s' a b)

pub run_after : (s t : Scan) (a b : List ℕ) → scan s a ≡ Some t → run s (a ++ b) ≡ run t b
run_after s t a b e = run_append s a b ∙ ap (λ (o : Option Scan). o >>= λ t. run t b) e

-- a script may be reached
pub record Completes (s : Scan) : Type 0 where
  pub rest : List ℕ
  pub script : Script
  pub found : run s rest ≡ Some script

pub by_way : (s t : Scan) (a : List ℕ) → scan s a ≡ Some t → Completes t → Completes s
by_way s t a e h = record { rest = a ++ h.rest; script = h.script; found = run_after s t a h.rest e ∙ h.found }

-- a state where nothing is open completes
abbrev pub Done : State → Type 0
Done g = Completes (at g Between)

whole_done : (s : Script) (k : Bool) → Done (After s k Items)
whole_done s k = record { rest = []; script = s; found = refl }

module _ (s : Script) (k : Bool) where
  print_end : (n : List ℕ) → (word : Bool) → Done (After s k (InPrint (PrintEnd n word)))
  unfolding step_in between in_word in_number in_text opening_symbol matrix_symbol call_symbol print_symbol body_symbol next_symbol opening_word call_word printing_word body_word next_word matrix_number opening_number body_number next_number opening_text body_text next_text
  print_end n word = by_way (at (After s k (InPrint (PrintEnd n word))) Between) (at (After (with_item s (Printed n word)) k Items) Between) (codes ";") refl (whole_done (with_item s (Printed n word)) k)

  print_close : (n : List ℕ) → Done (After s k (InPrint (PrintClose n)))
  unfolding step_in between in_word in_number in_text opening_symbol matrix_symbol call_symbol print_symbol body_symbol next_symbol opening_word call_word printing_word body_word next_word matrix_number opening_number body_number next_number opening_text body_text next_text
  print_close n = by_way (at (After s k (InPrint (PrintClose n))) Between) (at (After s k (InPrint (PrintEnd n true))) Between) (codes ")") refl (print_end n true)

  print_name : Done (After s k (InPrint PrintName))
  unfolding step_in between in_word in_number in_text opening_symbol matrix_symbol call_symbol print_symbol body_symbol next_symbol opening_word call_word printing_word body_word next_word matrix_number opening_number body_number next_number opening_text body_text next_text
  print_name = by_way (at (After s k (InPrint PrintName)) Between) (at (After s k (InPrint (PrintClose (97 ∷ [])))) Between) (codes "a ") refl (print_close (97 ∷ []))

  print_open : Done (After s k (InPrint PrintOpen))
  unfolding step_in between in_word in_number in_text opening_symbol matrix_symbol call_symbol print_symbol body_symbol next_symbol opening_word call_word printing_word body_word next_word matrix_number opening_number body_number next_number opening_text body_text next_text
  print_open = by_way (at (After s k (InPrint PrintOpen)) Between) (at (After s k (InPrint PrintName)) Between) (codes "(") refl (print_name)

  entry_end : (n : List ℕ) → (r : List ℕ) → (c : List ℕ) → (es : List Entry) → Done (After s k (InMatrix (EntryEnd n r c es)))
  unfolding step_in between in_word in_number in_text opening_symbol matrix_symbol call_symbol print_symbol body_symbol next_symbol opening_word call_word printing_word body_word next_word matrix_number opening_number body_number next_number opening_text body_text next_text
  entry_end n r c es = by_way (at (After s k (InMatrix (EntryEnd n r c es))) Between) (at (After (with_item s (Declared (record { name = n; rows = r; cols = c; entries = es }))) k Items) Between) (codes ";") refl (whole_done (with_item s (Declared (record { name = n; rows = r; cols = c; entries = es }))) k)

  digits : (n : List ℕ) → (r : List ℕ) → (c : List ℕ) → (es : List Entry) → Done (After s k (InMatrix (Digits n r c es)))
  unfolding step_in between in_word in_number in_text opening_symbol matrix_symbol call_symbol print_symbol body_symbol next_symbol opening_word call_word printing_word body_word next_word matrix_number opening_number body_number next_number opening_text body_text next_text
  digits n r c es = by_way (at (After s k (InMatrix (Digits n r c es))) Between) (at (After s k (InMatrix (EntryEnd n r c (es ++ record { is_negative = true; digits = 49 ∷ [] } ∷ [])))) Between) (codes "1 ") refl (entry_end n r c (es ++ record { is_negative = true; digits = 49 ∷ [] } ∷ []))

  entry_start : (n : List ℕ) → (r : List ℕ) → (c : List ℕ) → (es : List Entry) → Done (After s k (InMatrix (EntryStart n r c es)))
  unfolding step_in between in_word in_number in_text opening_symbol matrix_symbol call_symbol print_symbol body_symbol next_symbol opening_word call_word printing_word body_word next_word matrix_number opening_number body_number next_number opening_text body_text next_text
  entry_start n r c es = by_way (at (After s k (InMatrix (EntryStart n r c es))) Between) (at (After s k (InMatrix (EntryEnd n r c (es ++ record { is_negative = false; digits = 49 ∷ [] } ∷ [])))) Between) (codes "1 ") refl (entry_end n r c (es ++ record { is_negative = false; digits = 49 ∷ [] } ∷ []))

  matrix_equals : (n : List ℕ) → (r : List ℕ) → (c : List ℕ) → Done (After s k (InMatrix (MatrixEquals n r c)))
  unfolding step_in between in_word in_number in_text opening_symbol matrix_symbol call_symbol print_symbol body_symbol next_symbol opening_word call_word printing_word body_word next_word matrix_number opening_number body_number next_number opening_text body_text next_text
  matrix_equals n r c = by_way (at (After s k (InMatrix (MatrixEquals n r c))) Between) (at (After s k (InMatrix (EntryStart n r c []))) Between) (codes "=") refl (entry_start n r c [])

  cols_end : (n : List ℕ) → (r : List ℕ) → (c : List ℕ) → Done (After s k (InMatrix (ColsEnd n r c)))
  unfolding step_in between in_word in_number in_text opening_symbol matrix_symbol call_symbol print_symbol body_symbol next_symbol opening_word call_word printing_word body_word next_word matrix_number opening_number body_number next_number opening_text body_text next_text
  cols_end n r c = by_way (at (After s k (InMatrix (ColsEnd n r c))) Between) (at (After s k (InMatrix (MatrixEquals n r c))) Between) (codes "]") refl (matrix_equals n r c)

  cols : (n : List ℕ) → (r : List ℕ) → Done (After s k (InMatrix (Cols n r)))
  unfolding step_in between in_word in_number in_text opening_symbol matrix_symbol call_symbol print_symbol body_symbol next_symbol opening_word call_word printing_word body_word next_word matrix_number opening_number body_number next_number opening_text body_text next_text
  cols n r = by_way (at (After s k (InMatrix (Cols n r))) Between) (at (After s k (InMatrix (ColsEnd n r (49 ∷ [])))) Between) (codes "1 ") refl (cols_end n r (49 ∷ []))

  cols_start : (n : List ℕ) → (r : List ℕ) → Done (After s k (InMatrix (ColsStart n r)))
  unfolding step_in between in_word in_number in_text opening_symbol matrix_symbol call_symbol print_symbol body_symbol next_symbol opening_word call_word printing_word body_word next_word matrix_number opening_number body_number next_number opening_text body_text next_text
  cols_start n r = by_way (at (After s k (InMatrix (ColsStart n r))) Between) (at (After s k (InMatrix (Cols n r))) Between) (codes "[") refl (cols n r)

  rows_end : (n : List ℕ) → (r : List ℕ) → Done (After s k (InMatrix (RowsEnd n r)))
  unfolding step_in between in_word in_number in_text opening_symbol matrix_symbol call_symbol print_symbol body_symbol next_symbol opening_word call_word printing_word body_word next_word matrix_number opening_number body_number next_number opening_text body_text next_text
  rows_end n r = by_way (at (After s k (InMatrix (RowsEnd n r))) Between) (at (After s k (InMatrix (ColsStart n r))) Between) (codes "]") refl (cols_start n r)

  rows : (n : List ℕ) → Done (After s k (InMatrix (Rows n)))
  unfolding step_in between in_word in_number in_text opening_symbol matrix_symbol call_symbol print_symbol body_symbol next_symbol opening_word call_word printing_word body_word next_word matrix_number opening_number body_number next_number opening_text body_text next_text
  rows n = by_way (at (After s k (InMatrix (Rows n))) Between) (at (After s k (InMatrix (RowsEnd n (49 ∷ [])))) Between) (codes "1 ") refl (rows_end n (49 ∷ []))

  call_end : (x : List ℕ) → (y : List ℕ) → (z : List ℕ) → (ws : List (List ℕ)) → Done (After s k (InCall (CallEnd x y z ws)))
  unfolding step_in between in_word in_number in_text opening_symbol matrix_symbol call_symbol print_symbol body_symbol next_symbol opening_word call_word printing_word body_word next_word matrix_number opening_number body_number next_number opening_text body_text next_text
  call_end x y z ws = by_way (at (After s k (InCall (CallEnd x y z ws))) Between) (at (After (with_item s (Called (record { first = x; second = y; third = z; arguments = ws }))) true Items) Between) (codes ";") refl (whole_done (with_item s (Called (record { first = x; second = y; third = z; arguments = ws }))) true)

  argument_end : (x : List ℕ) → (y : List ℕ) → (z : List ℕ) → (ws : List (List ℕ)) → Done (After s k (InCall (ArgumentEnd x y z ws)))
  unfolding step_in between in_word in_number in_text opening_symbol matrix_symbol call_symbol print_symbol body_symbol next_symbol opening_word call_word printing_word body_word next_word matrix_number opening_number body_number next_number opening_text body_text next_text
  argument_end x y z ws = by_way (at (After s k (InCall (ArgumentEnd x y z ws))) Between) (at (After s k (InCall (CallEnd x y z ws))) Between) (codes ")") refl (call_end x y z ws)

  argument : (x : List ℕ) → (y : List ℕ) → (z : List ℕ) → (ws : List (List ℕ)) → Done (After s k (InCall (Argument x y z ws)))
  unfolding step_in between in_word in_number in_text opening_symbol matrix_symbol call_symbol print_symbol body_symbol next_symbol opening_word call_word printing_word body_word next_word matrix_number opening_number body_number next_number opening_text body_text next_text
  argument x y z ws = by_way (at (After s k (InCall (Argument x y z ws))) Between) (at (After s k (InCall (ArgumentEnd x y z (ws ++ (97 ∷ []) ∷ [])))) Between) (codes "a ") refl (argument_end x y z (ws ++ (97 ∷ []) ∷ []))

  pub call_open : (x : List ℕ) → (y : List ℕ) → (z : List ℕ) → Done (After s k (InCall (CallOpen x y z)))
  unfolding step_in between in_word in_number in_text opening_symbol matrix_symbol call_symbol print_symbol body_symbol next_symbol opening_word call_word printing_word body_word next_word matrix_number opening_number body_number next_number opening_text body_text next_text
  call_open x y z = by_way (at (After s k (InCall (CallOpen x y z))) Between) (at (After s k (InCall (Argument x y z []))) Between) (codes "(") refl (argument x y z [])

  invariant_ring : (x : List ℕ) → (y : List ℕ) → (z : List ℕ) → Done (After s k (InCall (InvariantRing x y z)))
  unfolding step_in between in_word in_number in_text opening_symbol matrix_symbol call_symbol print_symbol body_symbol next_symbol opening_word call_word printing_word body_word next_word matrix_number opening_number body_number next_number opening_text body_text next_text
  invariant_ring x y z = by_way (at (After s k (InCall (InvariantRing x y z))) Between) (at (After s k (InCall (CallOpen x y z))) Between) (codes "invariant_ring ") refl (call_open x y z)

  third_end : (x : List ℕ) → (y : List ℕ) → (z : List ℕ) → Done (After s k (InCall (ThirdEnd x y z)))
  unfolding step_in between in_word in_number in_text opening_symbol matrix_symbol call_symbol print_symbol body_symbol next_symbol opening_word call_word printing_word body_word next_word matrix_number opening_number body_number next_number opening_text body_text next_text
  third_end x y z = by_way (at (After s k (InCall (ThirdEnd x y z))) Between) (at (After s k (InCall (InvariantRing x y z))) Between) (codes "=") refl (invariant_ring x y z)

  third : (x : List ℕ) → (y : List ℕ) → Done (After s k (InCall (Third x y)))
  unfolding step_in between in_word in_number in_text opening_symbol matrix_symbol call_symbol print_symbol body_symbol next_symbol opening_word call_word printing_word body_word next_word matrix_number opening_number body_number next_number opening_text body_text next_text
  third x y = by_way (at (After s k (InCall (Third x y))) Between) (at (After s k (InCall (ThirdEnd x y (97 ∷ [])))) Between) (codes "a ") refl (third_end x y (97 ∷ []))

  second_end : (x : List ℕ) → (y : List ℕ) → Done (After s k (InCall (SecondEnd x y)))
  unfolding step_in between in_word in_number in_text opening_symbol matrix_symbol call_symbol print_symbol body_symbol next_symbol opening_word call_word printing_word body_word next_word matrix_number opening_number body_number next_number opening_text body_text next_text
  second_end x y = by_way (at (After s k (InCall (SecondEnd x y))) Between) (at (After s k (InCall (Third x y))) Between) (codes ",") refl (third x y)

  second : (x : List ℕ) → Done (After s k (InCall (Second x)))
  unfolding step_in between in_word in_number in_text opening_symbol matrix_symbol call_symbol print_symbol body_symbol next_symbol opening_word call_word printing_word body_word next_word matrix_number opening_number body_number next_number opening_text body_text next_text
  second x = by_way (at (After s k (InCall (Second x))) Between) (at (After s k (InCall (SecondEnd x (97 ∷ [])))) Between) (codes "a ") refl (second_end x (97 ∷ []))

  matrix_named : (n : List ℕ) → Done (After s k ((MatrixNamed n)))
  unfolding step_in between in_word in_number in_text opening_symbol matrix_symbol call_symbol print_symbol body_symbol next_symbol opening_word call_word printing_word body_word next_word matrix_number opening_number body_number next_number opening_text body_text next_text
  matrix_named n = by_way (at (After s k ((MatrixNamed n))) Between) (at (After s k (InMatrix (Rows n))) Between) (codes "[") refl (rows n)

  matrix_name : Done (After s k (MatrixName))
  unfolding step_in between in_word in_number in_text opening_symbol matrix_symbol call_symbol print_symbol body_symbol next_symbol opening_word call_word printing_word body_word next_word matrix_number opening_number body_number next_number opening_text body_text next_text
  matrix_name = by_way (at (After s k (MatrixName)) Between) (at (After s k ((MatrixNamed (97 ∷ [])))) Between) (codes "a ") refl (matrix_named (97 ∷ []))

  item_text_end : (w : List ℕ) → Done (After s k ((ItemTextEnd w)))
  unfolding step_in between in_word in_number in_text opening_symbol matrix_symbol call_symbol print_symbol body_symbol next_symbol opening_word call_word printing_word body_word next_word matrix_number opening_number body_number next_number opening_text body_text next_text
  item_text_end w = by_way (at (After s k ((ItemTextEnd w))) Between) (at (After (with_item s (Lib w)) k Items) Between) (codes ";") refl (whole_done (with_item s (Lib w)) k)

  item_text : Done (After s k (ItemText))
  unfolding step_in between in_word in_number in_text opening_symbol matrix_symbol call_symbol print_symbol body_symbol next_symbol opening_word call_word printing_word body_word next_word matrix_number opening_number body_number next_number opening_text body_text next_text
  item_text = by_way (at (After s k (ItemText)) Between) (at (After s k ((ItemTextEnd []))) Between) (codes "\"\"") refl (item_text_end [])

  matrix_done : (m : Matrix) → Done (After s k (InMatrix m))
  matrix_done (Rows n) = rows n
  matrix_done (RowsEnd n r) = rows_end n r
  matrix_done (ColsStart n r) = cols_start n r
  matrix_done (Cols n r) = cols n r
  matrix_done (ColsEnd n r c) = cols_end n r c
  matrix_done (MatrixEquals n r c) = matrix_equals n r c
  matrix_done (EntryStart n r c es) = entry_start n r c es
  matrix_done (Digits n r c es) = digits n r c es
  matrix_done (EntryEnd n r c es) = entry_end n r c es

  call_done : (c : Call) → Done (After s k (InCall c))
  call_done (Second x) = second x
  call_done (SecondEnd x y) = second_end x y
  call_done (Third x y) = third x y
  call_done (ThirdEnd x y z) = third_end x y z
  call_done (InvariantRing x y z) = invariant_ring x y z
  call_done (CallOpen x y z) = call_open x y z
  call_done (Argument x y z ws) = argument x y z ws
  call_done (ArgumentEnd x y z ws) = argument_end x y z ws
  call_done (CallEnd x y z ws) = call_end x y z ws

  print_done : (p : Printing) → Done (After s k (InPrint p))
  print_done PrintOpen = print_open
  print_done PrintName = print_name
  print_done (PrintClose n) = print_close n
  print_done (PrintEnd n word) = print_end n word

  body_done : (body : Body) → Done (After s k body)
  body_done Items = whole_done s k
  body_done ItemText = item_text
  body_done (ItemTextEnd w) = item_text_end w
  body_done MatrixName = matrix_name
  body_done (MatrixNamed n) = matrix_named n
  body_done (InMatrix m) = matrix_done m
  body_done (InCall c) = call_done c
  body_done (InPrint p) = print_done p

module _ (libs : List (List ℕ)) where
  pub ring_end : (r : List ℕ) → (c : List ℕ) → (p : Bool) → (vs : List (List ℕ)) → Done (Before libs (RingEnd r c p vs))
  unfolding step_in between in_word in_number in_text opening_symbol matrix_symbol call_symbol print_symbol body_symbol next_symbol opening_word call_word printing_word body_word next_word matrix_number opening_number body_number next_number opening_text body_text next_text
  ring_end r c p vs = by_way (at (Before libs (RingEnd r c p vs)) Between) (at (After (record { libs = libs; ring = r; characteristic = c; in_parentheses = p; variables = vs; items = [] }) false Items) Between) (codes ";") refl (whole_done (record { libs = libs; ring = r; characteristic = c; in_parentheses = p; variables = vs; items = [] }) false)

  order : (r : List ℕ) → (c : List ℕ) → (p : Bool) → (vs : List (List ℕ)) → Done (Before libs (Order r c p vs))
  unfolding step_in between in_word in_number in_text opening_symbol matrix_symbol call_symbol print_symbol body_symbol next_symbol opening_word call_word printing_word body_word next_word matrix_number opening_number body_number next_number opening_text body_text next_text
  order r c p vs = by_way (at (Before libs (Order r c p vs)) Between) (at (Before libs (RingEnd r c p vs)) Between) (codes "dp ") refl (ring_end r c p vs)

  variables_end : (r : List ℕ) → (c : List ℕ) → (p : Bool) → (vs : List (List ℕ)) → Done (Before libs (VariablesEnd r c p vs))
  unfolding step_in between in_word in_number in_text opening_symbol matrix_symbol call_symbol print_symbol body_symbol next_symbol opening_word call_word printing_word body_word next_word matrix_number opening_number body_number next_number opening_text body_text next_text
  variables_end r c p vs = by_way (at (Before libs (VariablesEnd r c p vs)) Between) (at (Before libs (Order r c p vs)) Between) (codes ",") refl (order r c p vs)

  variable_end : (r : List ℕ) → (c : List ℕ) → (vs : List (List ℕ)) → Done (Before libs (VariableEnd r c vs))
  unfolding step_in between in_word in_number in_text opening_symbol matrix_symbol call_symbol print_symbol body_symbol next_symbol opening_word call_word printing_word body_word next_word matrix_number opening_number body_number next_number opening_text body_text next_text
  variable_end r c vs = by_way (at (Before libs (VariableEnd r c vs)) Between) (at (Before libs (VariablesEnd r c true vs)) Between) (codes ")") refl (variables_end r c true vs)

  variable : (r : List ℕ) → (c : List ℕ) → (vs : List (List ℕ)) → Done (Before libs (Variable r c vs))
  unfolding step_in between in_word in_number in_text opening_symbol matrix_symbol call_symbol print_symbol body_symbol next_symbol opening_word call_word printing_word body_word next_word matrix_number opening_number body_number next_number opening_text body_text next_text
  variable r c vs = by_way (at (Before libs (Variable r c vs)) Between) (at (Before libs (VariableEnd r c (vs ++ (97 ∷ []) ∷ []))) Between) (codes "a ") refl (variable_end r c (vs ++ (97 ∷ []) ∷ []))

  variables : (r : List ℕ) → (c : List ℕ) → Done (Before libs (Variables r c))
  unfolding step_in between in_word in_number in_text opening_symbol matrix_symbol call_symbol print_symbol body_symbol next_symbol opening_word call_word printing_word body_word next_word matrix_number opening_number body_number next_number opening_text body_text next_text
  variables r c = by_way (at (Before libs (Variables r c)) Between) (at (Before libs (Variable r c [])) Between) (codes "(") refl (variable r c [])

  characteristic_end : (r : List ℕ) → (c : List ℕ) → Done (Before libs (CharacteristicEnd r c))
  unfolding step_in between in_word in_number in_text opening_symbol matrix_symbol call_symbol print_symbol body_symbol next_symbol opening_word call_word printing_word body_word next_word matrix_number opening_number body_number next_number opening_text body_text next_text
  characteristic_end r c = by_way (at (Before libs (CharacteristicEnd r c)) Between) (at (Before libs (Variables r c)) Between) (codes ",") refl (variables r c)

  characteristic : (r : List ℕ) → Done (Before libs (Characteristic r))
  unfolding step_in between in_word in_number in_text opening_symbol matrix_symbol call_symbol print_symbol body_symbol next_symbol opening_word call_word printing_word body_word next_word matrix_number opening_number body_number next_number opening_text body_text next_text
  characteristic r = by_way (at (Before libs (Characteristic r)) Between) (at (Before libs (CharacteristicEnd r (50 ∷ []))) Between) (codes "2 ") refl (characteristic_end r (50 ∷ []))

  ring_equals : (r : List ℕ) → Done (Before libs (RingEquals r))
  unfolding step_in between in_word in_number in_text opening_symbol matrix_symbol call_symbol print_symbol body_symbol next_symbol opening_word call_word printing_word body_word next_word matrix_number opening_number body_number next_number opening_text body_text next_text
  ring_equals r = by_way (at (Before libs (RingEquals r)) Between) (at (Before libs (Characteristic r)) Between) (codes "=") refl (characteristic r)

  pub ring_name : Done (Before libs RingName)
  unfolding step_in between in_word in_number in_text opening_symbol matrix_symbol call_symbol print_symbol body_symbol next_symbol opening_word call_word printing_word body_word next_word matrix_number opening_number body_number next_number opening_text body_text next_text
  ring_name = by_way (at (Before libs RingName) Between) (at (Before libs (RingEquals (97 ∷ []))) Between) (codes "a ") refl (ring_equals (97 ∷ []))

pub libs_done : (libs : List (List ℕ)) → Done (Before libs Libs)
unfolding step_in between in_word in_number in_text opening_symbol matrix_symbol call_symbol print_symbol body_symbol next_symbol opening_word call_word printing_word body_word next_word matrix_number opening_number body_number next_number opening_text body_text next_text
libs_done libs = by_way (at (Before libs Libs) Between) (at (Before libs RingName) Between) (codes "ring ") refl (ring_name libs)

lib_end : (libs : List (List ℕ)) (w : List ℕ) → Done (Before libs (LibEnd w))
unfolding step_in between in_word in_number in_text opening_symbol matrix_symbol call_symbol print_symbol body_symbol next_symbol opening_word call_word printing_word body_word next_word matrix_number opening_number body_number next_number opening_text body_text next_text
lib_end libs w = by_way (at (Before libs (LibEnd w)) Between) (at (Before (libs ++ w ∷ []) Libs) Between) (codes ";") refl (libs_done (libs ++ w ∷ []))

pub lib_text : (libs : List (List ℕ)) → Done (Before libs LibText)
unfolding step_in between in_word in_number in_text opening_symbol matrix_symbol call_symbol print_symbol body_symbol next_symbol opening_word call_word printing_word body_word next_word matrix_number opening_number body_number next_number opening_text body_text next_text
lib_text libs = by_way (at (Before libs LibText) Between) (at (Before libs (LibEnd [])) Between) (codes "\"\"") refl (lib_end libs [])

opening_done : (libs : List (List ℕ)) (o : Opening) → Done (Before libs o)
opening_done libs Libs = libs_done libs
opening_done libs LibText = lib_text libs
opening_done libs (LibEnd w) = lib_end libs w
opening_done libs RingName = ring_name libs
opening_done libs (RingEquals r) = ring_equals libs r
opening_done libs (Characteristic r) = characteristic libs r
opening_done libs (CharacteristicEnd r c) = characteristic_end libs r c
opening_done libs (Variables r c) = variables libs r c
opening_done libs (Variable r c vs) = variable libs r c vs
opening_done libs (VariableEnd r c vs) = variable_end libs r c vs
opening_done libs (VariablesEnd r c p vs) = variables_end libs r c p vs
opening_done libs (Order r c p vs) = order libs r c p vs
opening_done libs (RingEnd r c p vs) = ring_end libs r c p vs

-- from each state of the tokens a script may be reached
pub state_done : (g : State) → Done g
state_done (Before libs o) = opening_done libs o
state_done (After s k body) = body_done s k body
