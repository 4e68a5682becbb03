-- Each state of the scanner is that of the front of a text.
use Rattle.std.proofs.Common.{◌≡◌, ℕ, Bool, true, false, List, [], ◌∷◌, ◌++◌, length, get_or, Option, Some, None, if◌then◌else◌, sym, ap, ap₂, ◌∙◌, refl, subst, arith}
use Rattle.std.specs.Prelude.{codes, ◌==◌, ◌&&◌, ◌||◌, IfSome}
use Rattle.std.specs.List.{list_all}
use Rattle.std.specs.Bool.{Decides}
use Rattle.std.specs.Str.{bytes_eq}
use Rattle.std.proofs.lemmas.Slice.Eq.{bytes_eq-Decides}
use Rattle.std.proofs.Math.Seq.{get_or-append_seam}
use Rattle.std.proofs.lemmas.Bool.{and_parts}
use Rattle.std.proofs.lemmas.Bool.Decides.{nat_tests}
use Rattle.std.proofs.lemmas.List.{length-append}
use mathlib.Core.List.{append_assoc, append-nil}
use Rattle.alg_core.specs.Names.{is_name_byte, is_reserved}
use Rattle.finvar_text.specs.Syntax.{Script, IsFront}
use Rattle.finvar_text.specs.Grammar.{Opening, Libs, LibText, LibEnd, RingName, RingEquals, Characteristic, CharacteristicEnd, Variables, Variable, VariableEnd, VariablesEnd, Order, RingEnd, Matrix, Rows, RowsEnd, ColsStart, Cols, ColsEnd, MatrixEquals, EntryStart, Digits, EntryEnd, Call, Second, SecondEnd, Third, ThirdEnd, InvariantRing, CallOpen, Argument, ArgumentEnd, CallEnd, Printing, PrintOpen, PrintName, PrintClose, PrintEnd, Body, Items, ItemText, ItemTextEnd, MatrixName, MatrixNamed, InMatrix, InCall, InPrint, State, Before, After, opening_word, call_word, printing_word, body_word, next_word, matrix_number, opening_number, body_number, next_number, opening_text, body_text, next_text, begins, word_front, opening_front, body_front, call_front, print_front, takes_number, takes_text, ◌>>=◌}
use Rattle.finvar_text.specs.Scanning.{Mode, Between, Slash, Line, Block, InWord, InNumber, InText, Scan, at, between, in_slash, in_block, in_word, in_number, in_text, step_in, scan}
use Rattle.finvar_text.proofs.ByteSteps.{IsRead, IsReadIn}
use Rattle.finvar_text.proofs.Endings.{Finds, run_text, Completes, by_way, state_done, lib_text, ring_name, ring_end, call_open}

begins_append : (w rest : List ℕ) → begins w (w ++ rest) ≡ true
begins_append [] rest = refl
begins_append (b ∷ w) rest = ap₂ (λ (t u : Bool). t && u) (same b) (begins_append w rest)
  where
    same : (b : ℕ) → b == b ≡ true
    same b = grind (arith, nat_tests)

-- the bytes that a beginning lacks
pub begins_split : (w k : List ℕ) → begins w k ≡ true → (rest : List ℕ) × (w ++ rest ≡ k)
begins_split [] k h = (k, refl)
begins_split (b ∷ w) [] h = absurd cc
begins_split (b ∷ w) (c ∷ k) h =
    let parts = and_parts (b == c) (begins w k) h in
    let r = begins_split w k parts.1 in
    let same : b ≡ c = grind (arith, nat_tests) in
    (r.0, ap₂ (λ (x : ℕ) (l : List ℕ). x ∷ l) same r.1)

pub begins_word : (u rest k : List ℕ) → u ++ rest ≡ k → begins u k ≡ true
begins_word u rest k e = subst (λ (l : List ℕ). begins u l ≡ true) e (begins_append u rest)

-- a word goes on with the bytes that some word has
pub word_scanned : (g : State) (w : List ℕ) → ((u rest : List ℕ) → u ++ rest ≡ w → word_front g u ≡ true) → (u rest : List ℕ) → u ++ rest ≡ w → list_all is_name_byte rest ≡ true → scan (at g (InWord u)) rest ≡ Some (at g (InWord w))
unfolding step_in in_word
word_scanned g w front u [] e h = ap (λ (l : List ℕ). Some (at g (InWord l))) (sym (append-nil u) ∙ e)
word_scanned g w front u (b ∷ rest) e h =
    let parts = and_parts (is_name_byte b) (list_all is_name_byte rest) h in
    let longer : (u ++ b ∷ []) ++ rest ≡ w = append_assoc u (b ∷ []) rest ∙ e in
    ap₂ (λ (t f : Bool). (if t then (if f then Some (at g (InWord (u ++ b ∷ []))) else None) else (next_word g u >>= λ g'. between g' b)) >>= λ s'. scan s' rest) parts.0 (front (u ++ b ∷ []) rest longer)
    ∙ word_scanned g w front (u ++ b ∷ []) rest longer parts.1

all_of_append : (a b : List ℕ) → list_all is_name_byte (a ++ b) ≡ true → list_all is_name_byte b ≡ true
all_of_append [] b h = h
all_of_append (x ∷ a) b h = let parts = and_parts (is_name_byte x) (list_all is_name_byte (a ++ b)) h in all_of_append a b parts.1

-- a beginning of a word that may follow
keyword_done : (g : State) (k w : List ℕ) → ((u : List ℕ) → begins u k ≡ true → word_front g u ≡ true) → list_all is_name_byte k ≡ true → Completes (at g (InWord k)) → begins w k ≡ true → Completes (at g (InWord w))
keyword_done g k w front names after h =
    let r = begins_split w k h in
    by_way (at g (InWord w)) (at g (InWord k)) r.0
    (word_scanned g k (λ u rest e. front u (begins_word u rest k e)) w r.0 r.1 (all_of_append w r.0 (subst (λ (l : List ℕ). list_all is_name_byte l ≡ true) (sym r.1) names)))
    after

-- a word that ends in another byte is another word
ends_apart : (w l : List ℕ) (b x : ℕ) → ¬ (b ≡ x) → bytes_eq (w ++ b ∷ []) (l ++ x ∷ []) ≡ false
ends_apart w l b x n = go (bytes_eq (w ++ b ∷ []) (l ++ x ∷ [])) (bytes_eq-Decides (w ++ b ∷ []) (l ++ x ∷ []))
  where
    same : w ++ b ∷ [] ≡ l ++ x ∷ [] → b ≡ x
    same e =
        let lengths : length w ≡ length l = omega (arith, ap length e, length-append w (b ∷ []), length-append l (x ∷ [])) in
        sym (get_or-append_seam w b [] 0) ∙ ap₂ (λ (m : List ℕ) (i : ℕ). get_or m i 0) e lengths ∙ get_or-append_seam l x [] 0

    go : (t : Bool) → Decides t (w ++ b ∷ [] ≡ l ++ x ∷ []) → t ≡ false
    go false d = refl
    go true d = absurd (n (same (d.0 refl)))

-- no reserved word ends in a digit
lib_longer : (w : List ℕ) → bytes_eq (w ++ 48 ∷ []) (codes "LIB") ≡ false
lib_longer w = ends_apart w (codes "LI") 48 66 (λ e. omega (arith, e))

matrix_longer : (w : List ℕ) → bytes_eq (w ++ 48 ∷ []) (codes "matrix") ≡ false
matrix_longer w = ends_apart w (codes "matri") 48 120 (λ e. omega (arith, e))

print_longer : (w : List ℕ) → bytes_eq (w ++ 48 ∷ []) (codes "print") ≡ false
print_longer w = ends_apart w (codes "prin") 48 116 (λ e. omega (arith, e))

reserved_longer : (w : List ℕ) → is_reserved (w ++ 48 ∷ []) ≡ false
reserved_longer w =
    ap₂ (λ (t u : Bool). t || u) (lib_longer w)
    (ap₂ (λ (t u : Bool). t || u) (ends_apart w (codes "rin") 48 103 (λ e. omega (arith, e)))
    (ap₂ (λ (t u : Bool). t || u) (matrix_longer w)
    (ap₂ (λ (t u : Bool). t || u) (print_longer w)
    (ap₂ (λ (t u : Bool). t || u) (ends_apart w (codes "invariant_rin") 48 103 (λ e. omega (arith, e)))
    (ends_apart w (codes "d") 48 112 (λ e. omega (arith, e)))))))

-- a word that may go on with a digit
longer_done : (g g' : State) (w : List ℕ) → word_front g (w ++ 48 ∷ []) ≡ true → next_word g (w ++ 48 ∷ []) ≡ Some g' → Completes (at g (InWord w))
unfolding step_in in_word between
longer_done g g' w front taken =
    by_way (at g (InWord w)) (at g (InWord (w ++ 48 ∷ []))) (48 ∷ []) (ap (λ (t : Bool). (if t then Some (at g (InWord (w ++ 48 ∷ []))) else None) >>= λ s'. Some s') front)
    (by_way (at g (InWord (w ++ 48 ∷ []))) (at g' Between) (32 ∷ []) (ap (λ (o : Option State). (o >>= λ g'. between g' 32) >>= λ s'. Some s') taken) (state_done g'))

named_longer : (w : List ℕ) (g : State) → (if is_reserved (w ++ 48 ∷ []) then None else Some g) ≡ Some g
named_longer w g = ap (λ (t : Bool). if t then None else Some g) (reserved_longer w)

or_cases : {P : Type 0} (t u : Bool) → t || u ≡ true → (t ≡ true → P) → (u ≡ true → P) → P
or_cases true u h f g = f refl
or_cases false u h f g = g h

or_left : (t u : Bool) → t ≡ true → t || u ≡ true
or_left t u e = ap (λ (t : Bool). t || u) e

or_right : (t u : Bool) → u ≡ true → t || u ≡ true
or_right true u e = refl
or_right false u e = e

opening_word_done : (libs : List (List ℕ)) (o : Opening) (w : List ℕ) → opening_front o w ≡ true → Completes (at (Before libs o) (InWord w))
unfolding step_in in_word between next_word opening_word
opening_word_done libs Libs w h = or_cases (begins w (codes "LIB")) (begins w (codes "ring")) h
    (λ e. keyword_done (Before libs Libs) (codes "LIB") w (λ u b. or_left (begins u (codes "LIB")) (begins u (codes "ring")) b) refl (by_way (at (Before libs Libs) (InWord (codes "LIB"))) (at (Before libs LibText) Between) (32 ∷ []) refl (lib_text libs)) e)
    (λ e. keyword_done (Before libs Libs) (codes "ring") w (λ u b. or_right (begins u (codes "LIB")) (begins u (codes "ring")) b) refl (by_way (at (Before libs Libs) (InWord (codes "ring"))) (at (Before libs RingName) Between) (32 ∷ []) refl (ring_name libs)) e)
opening_word_done libs LibText w h = absurd cc
opening_word_done libs (LibEnd t) w h = absurd cc
opening_word_done libs RingName w h = longer_done (Before libs RingName) (Before libs (RingEquals (w ++ 48 ∷ []))) w refl (named_longer w _)
opening_word_done libs (RingEquals r) w h = absurd cc
opening_word_done libs (Characteristic r) w h = absurd cc
opening_word_done libs (CharacteristicEnd r c) w h = absurd cc
opening_word_done libs (Variables r c) w h = longer_done (Before libs (Variables r c)) (Before libs (VariablesEnd r c false ((w ++ 48 ∷ []) ∷ []))) w refl (named_longer w _)
opening_word_done libs (Variable r c vs) w h = longer_done (Before libs (Variable r c vs)) (Before libs (VariableEnd r c (vs ++ (w ++ 48 ∷ []) ∷ []))) w refl (named_longer w _)
opening_word_done libs (VariableEnd r c vs) w h = absurd cc
opening_word_done libs (VariablesEnd r c p vs) w h = absurd cc
opening_word_done libs (Order r c p vs) w h = keyword_done (Before libs (Order r c p vs)) (codes "dp") w (λ u b. b) refl (by_way (at (Before libs (Order r c p vs)) (InWord (codes "dp"))) (at (Before libs (RingEnd r c p vs)) Between) (32 ∷ []) refl (ring_end libs r c p vs)) h
opening_word_done libs (RingEnd r c p vs) w h = absurd cc

call_word_done : (s : Script) (k : Bool) (c : Call) (w : List ℕ) → call_front c w ≡ true → Completes (at (After s k (InCall c)) (InWord w))
unfolding step_in in_word between next_word body_word call_word
call_word_done s k (Second x) w h = longer_done (After s k (InCall (Second x))) (After s k (InCall (SecondEnd x (w ++ 48 ∷ [])))) w refl (named_longer w _)
call_word_done s k (SecondEnd x y) w h = absurd cc
call_word_done s k (Third x y) w h = longer_done (After s k (InCall (Third x y))) (After s k (InCall (ThirdEnd x y (w ++ 48 ∷ [])))) w refl (named_longer w _)
call_word_done s k (ThirdEnd x y z) w h = absurd cc
call_word_done s k (InvariantRing x y z) w h = keyword_done (After s k (InCall (InvariantRing x y z))) (codes "invariant_ring") w (λ u b. b) refl (by_way (at (After s k (InCall (InvariantRing x y z))) (InWord (codes "invariant_ring"))) (at (After s k (InCall (CallOpen x y z))) Between) (32 ∷ []) refl (call_open s k x y z)) h
call_word_done s k (CallOpen x y z) w h = absurd cc
call_word_done s k (Argument x y z ws) w h = longer_done (After s k (InCall (Argument x y z ws))) (After s k (InCall (ArgumentEnd x y z (ws ++ (w ++ 48 ∷ []) ∷ [])))) w refl (named_longer w _)
call_word_done s k (ArgumentEnd x y z ws) w h = absurd cc
call_word_done s k (CallEnd x y z ws) w h = absurd cc

print_word_done : (s : Script) (k : Bool) (p : Printing) (w : List ℕ) → print_front p w ≡ true → Completes (at (After s k (InPrint p)) (InWord w))
unfolding next_word body_word printing_word
print_word_done s k PrintOpen w h = absurd cc
print_word_done s k PrintName w h = longer_done (After s k (InPrint PrintName)) (After s k (InPrint (PrintClose (w ++ 48 ∷ [])))) w refl (named_longer w _)
print_word_done s k (PrintClose n) w h = absurd cc
print_word_done s k (PrintEnd n word) w h = absurd cc

body_word_done : (s : Script) (k : Bool) (body : Body) (w : List ℕ) → body_front body w ≡ true → Completes (at (After s k body) (InWord w))
unfolding next_word body_word
body_word_done s k Items w h = longer_done (After s k Items) (After s k (InPrint (PrintEnd (w ++ 48 ∷ []) false))) w refl (
    ap (λ (t : Bool). if t then Some (After s k ItemText) else if bytes_eq (w ++ 48 ∷ []) (codes "matrix") then Some (After s k MatrixName) else if bytes_eq (w ++ 48 ∷ []) (codes "print") then Some (After s k (InPrint PrintOpen)) else if is_reserved (w ++ 48 ∷ []) then None else Some (After s k (InPrint (PrintEnd (w ++ 48 ∷ []) false)))) (lib_longer w)
    ∙ ap (λ (t : Bool). if t then Some (After s k MatrixName) else if bytes_eq (w ++ 48 ∷ []) (codes "print") then Some (After s k (InPrint PrintOpen)) else if is_reserved (w ++ 48 ∷ []) then None else Some (After s k (InPrint (PrintEnd (w ++ 48 ∷ []) false)))) (matrix_longer w)
    ∙ ap (λ (t : Bool). if t then Some (After s k (InPrint PrintOpen)) else if is_reserved (w ++ 48 ∷ []) then None else Some (After s k (InPrint (PrintEnd (w ++ 48 ∷ []) false)))) (print_longer w)
    ∙ named_longer w _)
body_word_done s k ItemText w h = absurd cc
body_word_done s k (ItemTextEnd t) w h = absurd cc
body_word_done s k MatrixName w h = longer_done (After s k MatrixName) (After s k (MatrixNamed (w ++ 48 ∷ []))) w refl (named_longer w _)
body_word_done s k (MatrixNamed n) w h = absurd cc
body_word_done s k (InMatrix m) w h = absurd cc
body_word_done s k (InCall c) w h = call_word_done s k c w h
body_word_done s k (InPrint p) w h = print_word_done s k p w h

word_done : (g : State) (w : List ℕ) → word_front g w ≡ true → Completes (at g (InWord w))
word_done (Before libs o) w h = opening_word_done libs o w h
word_done (After s k body) w h = body_word_done s k body w h

-- one number or string is taken as any other
matrix_number_taken : (s : Script) (k : Bool) (m : Matrix) (w : List ℕ) → takes_number (After s k (InMatrix m)) ≡ true → (g : State) × (next_number (After s k (InMatrix m)) w ≡ Some g)
unfolding next_number body_number matrix_number
matrix_number_taken s k (Rows n) w h = (_, refl)
matrix_number_taken s k (RowsEnd n r) w h = absurd cc
matrix_number_taken s k (ColsStart n r) w h = absurd cc
matrix_number_taken s k (Cols n r) w h = (_, refl)
matrix_number_taken s k (ColsEnd n r c) w h = absurd cc
matrix_number_taken s k (MatrixEquals n r c) w h = absurd cc
matrix_number_taken s k (EntryStart n r c es) w h = (_, refl)
matrix_number_taken s k (Digits n r c es) w h = (_, refl)
matrix_number_taken s k (EntryEnd n r c es) w h = absurd cc

number_taken : (g : State) (w : List ℕ) → takes_number g ≡ true → (g' : State) × (next_number g w ≡ Some g')
unfolding next_number body_number opening_number
number_taken (Before libs (Characteristic r)) w h = (_, refl)
number_taken (After s k (InMatrix m)) w h = matrix_number_taken s k m w h
number_taken g w h = absurd cc

text_taken : (g : State) (w : List ℕ) → takes_text g ≡ true → (g' : State) × (next_text g w ≡ Some g')
unfolding next_text body_text opening_text
text_taken (Before libs LibText) w h = (_, refl)
text_taken (After s k ItemText) w h = (_, refl)
text_taken g w h = absurd cc

block_done : (star : Bool) (g : State) → Completes (at g (Block star))
unfolding step_in in_block
block_done true g = by_way (at g (Block true)) (at g Between) (42 ∷ 47 ∷ []) refl (state_done g)
block_done false g = by_way (at g (Block false)) (at g Between) (42 ∷ 47 ∷ []) refl (state_done g)

mode_done : (m : Mode) (g : State) (bytes : List ℕ) → IsReadIn m g bytes → Completes (at g m)
unfolding step_in in_slash in_number in_text between
mode_done Between g bytes h = state_done g
mode_done Slash g bytes h = by_way (at g Slash) (at g Between) (47 ∷ 10 ∷ []) refl (state_done g)
mode_done Line g bytes h = by_way (at g Line) (at g Between) (10 ∷ []) refl (state_done g)
mode_done (Block star) g bytes h = block_done star g
mode_done (InWord w) g bytes h = word_done g w h.2
mode_done (InNumber w) g bytes h =
    let r = number_taken g w h.2 in
    by_way (at g (InNumber w)) (at r.0 Between) (32 ∷ []) (ap (λ (o : Option State). (o >>= λ g'. between g' 32) >>= λ s'. Some s') r.1) (state_done r.0)
mode_done (InText w) g bytes h =
    let r = text_taken g w h.2 in
    by_way (at g (InText w)) (at r.0 Between) (34 ∷ []) (ap (λ (o : Option State). (o >>= λ g'. Some (at g' Between)) >>= λ s'. Some s') r.1) (state_done r.0)

-- each state of the scanner is that of the front of a text
pub scan_front : (s : Scan) (bytes : List ℕ) → IsRead bytes s → IsFront bytes
scan_front s bytes h =
    let c = mode_done s.mode s.state bytes h in
    (c.rest, c.script, subst (λ (o : Option Script). IfSome o (Finds (bytes ++ c.rest))) c.found (run_text s bytes c.rest h))
