-- The tokens of a script are read, and the script is found.
use Rattle.std.proofs.Common.{◌≡◌, ℕ, ◌+◌, ◌≤◌, Bool, true, false, List, [], ◌∷◌, ◌++◌, length, All, Option, Some, None, if◌then◌else◌, sym, ap, ◌∙◌, refl, arith}
use Rattle.std.specs.Prelude.{codes, not, ◌&&◌, ◌||◌, IfSome}
use Rattle.std.specs.List.{list_all, AllByRecursion}
use Rattle.std.specs.Str.{bytes_eq}
use Rattle.std.specs.Bool.{Decides}
use Rattle.std.proofs.lemmas.Slice.Eq.{bytes_eq-Decides}
use Rattle.std.proofs.lemmas.Bool.{and_parts, not-true}
use Rattle.std.proofs.lemmas.List.Elements.{recursion_from_All}
use mathlib.Core.List.{append_assoc, append-nil}
use Rattle.alg_core.specs.Names.{is_letter, is_name_byte, is_reserved}
use Rattle.finvar_text.specs.Syntax.{Entry, Item, Lib, Declared, Printed, Called, Script, Token, Word, Number, invariant_ring_word, dp_word, comma, semicolon, equals, opens, closes, opens_square, closes_square, further, listed, word_tokens, lib_tokens, entry_tokens, matrix_tokens, call_tokens, print_tokens, item_tokens, joined, variables_tokens, ring_tokens, tokens, IsName, IsEntry, IsSome, IsItem, IsScript, calls}
use Rattle.finvar_text.specs.Grammar.{Libs, RingEquals, Variables, Variable, VariableEnd, VariablesEnd, EntryStart, EntryEnd, SecondEnd, ThirdEnd, Argument, ArgumentEnd, PrintOpen, PrintClose, PrintEnd, Body, Items, ItemText, ItemTextEnd, MatrixName, MatrixNamed, InMatrix, InCall, InPrint, State, Before, After, start, opening_symbol, matrix_symbol, call_symbol, print_symbol, body_symbol, next_symbol, opening_word, call_word, printing_word, body_word, next_word, matrix_number, opening_number, body_number, next_number, opening_text, body_text, next_text, next, with_item, whole, body_whole, parse, ◌>>=◌}
use Rattle.finvar_text.proofs.TokenSteps.{read, IsState}

-- where a script may end
abbrev pub Ends : State → Script → Type 0
Ends s t = IsScript t × (read s ≡ tokens t)

whole_body : (s : Script) (k : Bool) (body : Body) → IsState (After s k body) → IfSome (body_whole s body) (Ends (After s k body))
whole_body s k Items h = (h.0.script, append-nil (tokens s))
whole_body s k ItemText h = tt
whole_body s k (ItemTextEnd w) h = tt
whole_body s k MatrixName h = tt
whole_body s k (MatrixNamed n) h = tt
whole_body s k (InMatrix m) h = tt
whole_body s k (InCall c) h = tt
whole_body s k (InPrint q) h = tt

-- where it may end, it is the one whose tokens were read
pub whole_script : (s : State) → IsState s → IfSome (whole s) (Ends s)
whole_script (Before libs o) h = tt
whole_script (After s k body) h = whole_body s k body h

then_parse : (o : Option State) (a b : List Token) → ((s' : State) → parse s' (a ++ b) ≡ (parse s' a >>= λ t. parse t b)) → (o >>= λ s'. parse s' (a ++ b)) ≡ ((o >>= λ s'. parse s' a) >>= λ t. parse t b)
then_parse None a b h = refl
then_parse (Some s) a b h = h s

-- tokens after tokens
pub parse_append : (s : State) (a b : List Token) → parse s (a ++ b) ≡ (parse s a >>= λ s'. parse s' b)
parse_append s [] b = refl
parse_append s (x ∷ a) b = then_parse (next s x) a b (λ s'. parse_append s' a b)

pub parse_after : (s t : State) (a b : List Token) → parse s a ≡ Some t → parse s (a ++ b) ≡ parse t b
parse_after s t a b e = parse_append s a b ∙ ap (λ (o : Option State). o >>= λ s'. parse s' b) e

pub name_free : (w : List ℕ) → IsName w → is_reserved w ≡ false
name_free [] h = absurd cc
name_free (b ∷ bs) h =
    let parts = and_parts (is_letter b) (list_all is_name_byte bs && not (is_reserved (b ∷ bs))) h in
    let bytes = and_parts (list_all is_name_byte bs) (not (is_reserved (b ∷ bs))) parts.1 in
    not-true (is_reserved (b ∷ bs)) bytes.1

-- a name, then other tokens
named_then : (w : List ℕ) (s : State) (ts : List Token) → IsName w → ((if is_reserved w then None else Some s) >>= λ s'. parse s' ts) ≡ parse s ts
named_then w s ts h = ap (λ (t : Bool). (if t then None else Some s) >>= λ s'. parse s' ts) (name_free w h)

-- A list with commas: `from us` stands before a member, and `to us` after one; us are the members before.
module _ {A : Type 0} (f : A → List Token) (P : A → Type 0) (from to : List A → State)
    (member : (us : List A) (x : A) → P x → parse (from us) (f x) ≡ Some (to (us ++ x ∷ [])))
    (more : (us : List A) (ts : List Token) → parse (to us) (comma ∷ ts) ≡ parse (from us) ts) where
  further_parsed : (us xs : List A) → AllByRecursion P xs → parse (to us) (further f xs) ≡ Some (to (us ++ xs))
  further_parsed us [] h = ap (λ (l : List A). Some (to l)) (sym (append-nil us))
  further_parsed us (x ∷ xs) h =
      more us (f x ++ further f xs) ∙ parse_after (from us) (to (us ++ x ∷ [])) (f x) (further f xs) (member us x h.0)
      ∙ further_parsed (us ++ x ∷ []) xs h.1 ∙ ap (λ (l : List A). Some (to l)) (append_assoc us (x ∷ []) xs)

  pub listed_parsed : (xs : List A) → All P xs → IsSome xs → parse (from []) (listed f xs) ≡ Some (to xs)
  listed_parsed [] h i = absurd i
  listed_parsed (x ∷ xs) h i =
      let r = recursion_from_All P (x ∷ xs) h in
      parse_after (from []) (to (x ∷ [])) (f x) (further f xs) (member [] x r.0) ∙ further_parsed (x ∷ []) xs r.1

module _ (libs : List (List ℕ)) (r c : List ℕ) where
  variables_parsed : (vs : List (List ℕ)) → All IsName vs → IsSome vs → parse (Before libs (Variable r c [])) (listed word_tokens vs) ≡ Some (Before libs (VariableEnd r c vs))
  unfolding next_word opening_word next_symbol opening_symbol
  variables_parsed = listed_parsed word_tokens IsName (λ us. Before libs (Variable r c us)) (λ us. Before libs (VariableEnd r c us))
      (λ us w h. named_then w (Before libs (VariableEnd r c (us ++ w ∷ []))) [] h) (λ us ts. refl)

  -- the variables, and what follows them
  names_then : (p : Bool) (vs : List (List ℕ)) (ts : List Token) → All IsName vs → IsSome vs → (p ≡ false → length vs ≡ 1) → parse (Before libs (Variables r c)) (variables_tokens p vs ++ ts) ≡ parse (Before libs (VariablesEnd r c p vs)) ts
  unfolding next_word opening_word next_symbol opening_symbol
  names_then true vs ts h i one =
      ap (parse (Before libs (Variable r c []))) (append_assoc (listed word_tokens vs) (closes ∷ []) ts)
      ∙ parse_after (Before libs (Variable r c [])) (Before libs (VariableEnd r c vs)) (listed word_tokens vs) (closes ∷ ts) (variables_parsed vs h i)
  names_then false [] ts h i one = absurd i
  names_then false (v ∷ []) ts h i one = let g = recursion_from_All IsName (v ∷ []) h in named_then v (Before libs (VariablesEnd r c false (v ∷ []))) ts g.0
  names_then false (v ∷ w ∷ vs) ts h i one = absurd (let e = one refl in omega (arith, e))

  ring_script : Bool → List (List ℕ) → Script
  ring_script p vs = record { libs = libs; ring = r; characteristic = c; in_parentheses = p; variables = vs; items = [] }

-- the ring, and what follows it
ring_then : (libs : List (List ℕ)) (r c : List ℕ) (p : Bool) (vs : List (List ℕ)) (ts : List Token) → IsName r → All IsName vs → IsSome vs → (p ≡ false → length vs ≡ 1)
    → parse (Before libs Libs) (ring_tokens r c p vs ++ ts) ≡ parse (After (record { libs = libs; ring = r; characteristic = c; in_parentheses = p; variables = vs; items = [] }) false Items) ts
unfolding next_word opening_word next_symbol opening_symbol next_number opening_number
ring_then libs r c p vs ts name h i one =
    named_then r (Before libs (RingEquals r)) (equals ∷ Number c ∷ comma ∷ ((variables_tokens p vs ++ comma ∷ dp_word ∷ semicolon ∷ []) ++ ts)) name
    ∙ ap (parse (Before libs (Variables r c))) (append_assoc (variables_tokens p vs) (comma ∷ dp_word ∷ semicolon ∷ []) ts)
    ∙ names_then libs r c p vs (comma ∷ dp_word ∷ semicolon ∷ ts) h i one

-- the libs before the ring, and what follows them
libs_then : (libs ws : List (List ℕ)) (ts : List Token) → parse (Before libs Libs) (joined lib_tokens ws ++ ts) ≡ parse (Before (libs ++ ws) Libs) ts
unfolding next_word opening_word next_symbol opening_symbol next_text opening_text
libs_then libs [] ts = ap (λ (l : List (List ℕ)). parse (Before l Libs) ts) (sym (append-nil libs))
libs_then libs (w ∷ ws) ts = libs_then (libs ++ w ∷ []) ws ts ∙ ap (λ (l : List (List ℕ)). parse (Before l Libs) ts) (append_assoc libs (w ∷ []) ws)

module _ (s : Script) (k : Bool) where
  entry_parsed : (n r c : List ℕ) (es : List Entry) (t : Bool) (w : List ℕ) → parse (After s k (InMatrix (EntryStart n r c es))) (entry_tokens (record { is_negative = t; digits = w })) ≡ Some (After s k (InMatrix (EntryEnd n r c (es ++ record { is_negative = t; digits = w } ∷ []))))
  unfolding next_symbol body_symbol matrix_symbol next_number body_number matrix_number
  entry_parsed n r c es true w = refl
  entry_parsed n r c es false w = refl

  entries_parsed : (n r c : List ℕ) (es : List Entry) → All IsEntry es → IsSome es → parse (After s k (InMatrix (EntryStart n r c []))) (listed entry_tokens es) ≡ Some (After s k (InMatrix (EntryEnd n r c es)))
  unfolding next_symbol body_symbol matrix_symbol
  entries_parsed n r c = listed_parsed entry_tokens IsEntry (λ es. After s k (InMatrix (EntryStart n r c es))) (λ es. After s k (InMatrix (EntryEnd n r c es)))
      (λ es e h. entry_parsed n r c es e.is_negative e.digits) (λ es ts. refl)

  arguments_parsed : (x y z : List ℕ) (ws : List (List ℕ)) → All IsName ws → IsSome ws → parse (After s k (InCall (Argument x y z []))) (listed word_tokens ws) ≡ Some (After s k (InCall (ArgumentEnd x y z ws)))
  unfolding next_word body_word call_word next_symbol body_symbol call_symbol
  arguments_parsed x y z = listed_parsed word_tokens IsName (λ us. After s k (InCall (Argument x y z us))) (λ us. After s k (InCall (ArgumentEnd x y z us)))
      (λ us w h. named_then w (After s k (InCall (ArgumentEnd x y z (us ++ w ∷ [])))) [] h) (λ us ts. refl)

  matrix_then : (n r c : List ℕ) (es : List Entry) (ts : List Token) → IsName n → All IsEntry es → IsSome es
      → parse (After s k Items) (matrix_tokens (record { name = n; rows = r; cols = c; entries = es }) ++ ts) ≡ parse (After (with_item s (Declared (record { name = n; rows = r; cols = c; entries = es }))) k Items) ts
  unfolding next_word body_word next_symbol body_symbol matrix_symbol next_number body_number matrix_number
  matrix_then n r c es ts name h i =
      named_then n (After s k (MatrixNamed n)) (opens_square ∷ Number r ∷ closes_square ∷ opens_square ∷ Number c ∷ closes_square ∷ equals ∷ ((listed entry_tokens es ++ semicolon ∷ []) ++ ts)) name
      ∙ ap (parse (After s k (InMatrix (EntryStart n r c [])))) (append_assoc (listed entry_tokens es) (semicolon ∷ []) ts)
      ∙ parse_after (After s k (InMatrix (EntryStart n r c []))) (After s k (InMatrix (EntryEnd n r c es))) (listed entry_tokens es) (semicolon ∷ ts) (entries_parsed n r c es h i)

-- no word of the script
apart : (w k : List ℕ) → is_reserved k ≡ true → IsName w → bytes_eq w k ≡ false
apart w k e h = go (bytes_eq w k) (bytes_eq-Decides w k)
  where
    go : (t : Bool) → Decides t (w ≡ k) → t ≡ false
    go false d = refl
    go true d = absurd (let same = sym e ∙ ap is_reserved (sym (d.0 refl)) ∙ name_free w h in cc)

print_then : (s : Script) (k : Bool) (n : List ℕ) (word : Bool) (ts : List Token) → IsName n → parse (After s k Items) (print_tokens n word ++ ts) ≡ parse (After (with_item s (Printed n word)) k Items) ts
unfolding next_word body_word printing_word next_symbol body_symbol print_symbol
print_then s k n true ts h = named_then n (After s k (InPrint (PrintClose n))) (closes ∷ semicolon ∷ ts) h
print_then s k n false ts h =
    let named_state : Option State = if is_reserved n then None else Some (After s k (InPrint (PrintEnd n false))) in
    ap (λ (t : Bool). (if t then Some (After s k ItemText) else if bytes_eq n (codes "matrix") then Some (After s k MatrixName) else if bytes_eq n (codes "print") then Some (After s k (InPrint PrintOpen)) else named_state) >>= λ s'. parse s' (semicolon ∷ ts)) (apart n (codes "LIB") refl h)
    ∙ ap (λ (t : Bool). (if t then Some (After s k MatrixName) else if bytes_eq n (codes "print") then Some (After s k (InPrint PrintOpen)) else named_state) >>= λ s'. parse s' (semicolon ∷ ts)) (apart n (codes "matrix") refl h)
    ∙ ap (λ (t : Bool). (if t then Some (After s k (InPrint PrintOpen)) else named_state) >>= λ s'. parse s' (semicolon ∷ ts)) (apart n (codes "print") refl h)
    ∙ named_then n (After s k (InPrint (PrintEnd n false))) (semicolon ∷ ts) h

call_then : (s : Script) (x y z : List ℕ) (ws : List (List ℕ)) (ts : List Token) → IsName x → IsName y → IsName z → All IsName ws → IsSome ws
    → parse (After s false Items) (call_tokens (record { first = x; second = y; third = z; arguments = ws }) ++ ts) ≡ parse (After (with_item s (Called (record { first = x; second = y; third = z; arguments = ws }))) true Items) ts
unfolding next_word body_word call_word next_symbol body_symbol call_symbol
call_then s x y z ws ts hx hy hz h i =
    let rest : List Token = (listed word_tokens ws ++ closes ∷ semicolon ∷ []) ++ ts in
    named_then x (After s false (MatrixNamed x)) (comma ∷ Word y ∷ comma ∷ Word z ∷ equals ∷ invariant_ring_word ∷ opens ∷ rest) hx
    ∙ named_then y (After s false (InCall (SecondEnd x y))) (comma ∷ Word z ∷ equals ∷ invariant_ring_word ∷ opens ∷ rest) hy
    ∙ named_then z (After s false (InCall (ThirdEnd x y z))) (equals ∷ invariant_ring_word ∷ opens ∷ rest) hz
    ∙ ap (parse (After s false (InCall (Argument x y z [])))) (append_assoc (listed word_tokens ws) (closes ∷ semicolon ∷ []) ts)
    ∙ parse_after (After s false (InCall (Argument x y z []))) (After s false (InCall (ArgumentEnd x y z ws))) (listed word_tokens ws) (closes ∷ semicolon ∷ ts) (arguments_parsed s false x y z ws h i)

abbrev is_call : Item → Bool
is_call (Lib w) = false
is_call (Declared m) = false
is_call (Printed n word) = false
is_call (Called c) = true

lib_then : (s : Script) (k : Bool) (w : List ℕ) (ts : List Token) → parse (After s k Items) (lib_tokens w ++ ts) ≡ parse (After (with_item s (Lib w)) k Items) ts
unfolding next_word body_word next_symbol body_symbol next_text body_text
lib_then s k w ts = refl

false_or : (k : Bool) → k || false ≡ k
false_or true = refl
false_or false = refl

-- an item, and what follows it
item_then : (s : Script) (k : Bool) (i : Item) (ts : List Token) → IsItem i → (is_call i ≡ true → k ≡ false) → parse (After s k Items) (item_tokens i ++ ts) ≡ parse (After (with_item s i) (k || is_call i) Items) ts
item_then s k (Lib w) ts h e = lib_then s k w ts ∙ ap (λ (t : Bool). parse (After (with_item s (Lib w)) t Items) ts) (sym (false_or k))
item_then s k (Declared m) ts h e = matrix_then s k m.name m.rows m.cols m.entries ts h.name h.entries h.some ∙ ap (λ (t : Bool). parse (After (with_item s (Declared m)) t Items) ts) (sym (false_or k))
item_then s k (Printed n word) ts h e = print_then s k n word ts h ∙ ap (λ (t : Bool). parse (After (with_item s (Printed n word)) t Items) ts) (sym (false_or k))
item_then s true (Called c) ts h e = absurd (let f = e refl in cc)
item_then s false (Called c) ts h e = call_then s c.first c.second c.third c.arguments ts h.first h.second h.third h.arguments h.some

abbrev count : Bool → ℕ
count true = 1
count false = 0

few_after : (k : Bool) (i : Item) (is : List Item) → count k + calls (i ∷ is) ≤ 1 → (is_call i ≡ true → k ≡ false) × (count (k || is_call i) + calls is ≤ 1)
few_after true (Lib w) is h = (λ e. absurd cc, h)
few_after true (Declared m) is h = (λ e. absurd cc, h)
few_after true (Printed n word) is h = (λ e. absurd cc, h)
few_after true (Called c) is h = absurd (omega (arith, h))
few_after false (Lib w) is h = (λ e. refl, h)
few_after false (Declared m) is h = (λ e. refl, h)
few_after false (Printed n word) is h = (λ e. refl, h)
few_after false (Called c) is h = (λ e. refl, omega (arith, h))

-- the items
items_parsed : (s : Script) (k : Bool) (is : List Item) → AllByRecursion IsItem is → count k + calls is ≤ 1 → (k' : Bool) × (parse (After s k Items) (joined item_tokens is) ≡ Some (After (record s { items = s.items ++ is }) k' Items))
items_parsed s k [] h few = (k, ap (λ (l : List Item). Some (After (record s { items = l }) k Items)) (sym (append-nil s.items)))
items_parsed s k (i ∷ is) h few =
    let f = few_after k i is few in
    let r = items_parsed (with_item s i) (k || is_call i) is h.1 f.1 in
    (r.0, item_then s k i (joined item_tokens is) h.0 f.0 ∙ r.1 ∙ ap (λ (l : List Item). Some (After (record s { items = l }) r.0 Items)) (append_assoc s.items (i ∷ []) is))

-- each script's tokens are read, and it is found
pub script_parsed : (s : Script) → IsScript s → (k : Bool) × (parse start (tokens s) ≡ Some (After s k Items))
script_parsed s h =
    let few = h.calls in
    let first : Script = record { libs = s.libs; ring = s.ring; characteristic = s.characteristic; in_parentheses = s.in_parentheses; variables = s.variables; items = [] } in
    let r = items_parsed first false s.items (recursion_from_All IsItem s.items h.items) (omega (arith, few)) in (
      r.0,
      libs_then [] s.libs (ring_tokens s.ring s.characteristic s.in_parentheses s.variables ++ joined item_tokens s.items)
          ∙ ring_then s.libs s.ring s.characteristic s.in_parentheses s.variables (joined item_tokens s.items) h.ring h.variables h.some h.single ∙ r.1,
    )
