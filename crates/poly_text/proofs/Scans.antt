-- The scanner decides the grammar: where it ends the tree is that of the text, and where it stops the fault is the first.
use Rattle.std.proofs.Common.{◌≡◌, ℕ, ◌+◌, ◌≤◌, ◌<◌, List, [], ◌∷◌, ◌++◌, length, take, drop, take-take, take-append-drop, get_or, Option, Some, None, sym, ap, ◌∙◌, refl, subst, arith}
use Rattle.std.specs.Prelude.{IfSome}
use Rattle.std.proofs.lemmas.List.{append_assoc, take_more}
use Rattle.std.proofs.lemmas.List.Elements.{All-nil}
use Rattle.std.proofs.Math.Seq.{take-length}
use mathlib.Core.List.{append-nil}
use native.Mathlib.Decide.{dec_le}
use Rattle.poly_text.specs.Syntax.{Term, IsText, IsFront, IsFirstFault, IsTerm, IsFactor}
use Rattle.poly_text.specs.Scanning.{State, start, step, scan, finish, ◌>>=◌}
use Rattle.poly_text.proofs.Steps.{IsState, read, Reads, Adds, step_adds}
use Rattle.poly_text.proofs.Endings.{finish_text, state_front}
use Rattle.poly_text.proofs.Completeness.{scan_append, scan_after, spelling_found}

start_state : IsState start
start_state = (record { terms = All-nil IsTerm; coefficient = (omega arith, omega arith); factors = All-nil IsFactor }, (refl, refl, refl, refl))

value_or : {A : Type 0} → A → Option A → A
value_or x None = x
value_or x (Some y) = y

some_injective : {A : Type 0} (x y : A) → Some x ≡ Some y → x ≡ y
unfolding value_or
some_injective x y e = ap (value_or x) e

none_some : {A : Type 0} (x : A) → ¬ (None ≡ Some x)
none_some x e = absurd cc

some_first : {A B : Type 0} (o : Option A) (f : A → Option B) (y : B) → (o >>= f) ≡ Some y → (x : A) × (o ≡ Some x) × (f x ≡ Some y)
some_first None f y e = absurd cc
some_first (Some x) f y e = (x, refl, e)

-- what is scanned is added to what was read
scan_adds : (bytes : List ℕ) (s s' : State) → IsState s → scan s bytes ≡ Some s' → Reads (read s ++ bytes) s'
scan_adds [] s s' h e = subst (Reads (read s ++ [])) (some_injective s s' e) (sym (append-nil (read s)), h)
scan_adds (b ∷ bytes) s s' h e =
    let p = some_first (step s b) (λ t. scan t bytes) s' e in
    let a = subst (λ (o : Option State). IfSome o (Adds s b)) p.1 (step_adds s h b) in
    let r = scan_adds bytes p.0 s' a.1 p.2 in
    (r.0 ∙ ap (λ (l : List ℕ). l ++ bytes) a.0 ∙ append_assoc (read s) (b ∷ []) bytes, r.1)

-- the bytes that lead to a state are those that it read
pub scanned_read : (bytes : List ℕ) (s : State) → scan start bytes ≡ Some s → Reads bytes s
scanned_read bytes s e = scan_adds bytes start s start_state e

-- where the scanner may stop at the end, the text has the tree
pub scanned_text : (bytes : List ℕ) (s : State) (ts : List Term) → scan start bytes ≡ Some s → finish s ≡ Some ts → IsText ts bytes
scanned_text bytes s ts e f =
    let r = scanned_read bytes s e in
    subst (IsText ts) r.0 (subst (λ (o : Option (List Term)). IfSome o (λ ts. IsText ts (read s))) f (finish_text s r.1))

-- what is scanned begins a text, and what begins a text is scanned
pub scanned_front : (bytes : List ℕ) (s : State) → scan start bytes ≡ Some s → IsFront bytes
scanned_front bytes s e = let r = scanned_read bytes s e in subst IsFront r.0 (state_front s r.1)

pub text_scanned : (bytes : List ℕ) (ts : List Term) → IsText ts bytes → (s : State) × (scan start bytes ≡ Some s) × (finish s ≡ Some ts)
text_scanned bytes ts h = let f = spelling_found ts h.terms in (f.state, ap (scan start) (sym h.spelled) ∙ f.scanned, f.ends)

pub front_scanned : (bytes : List ℕ) → IsFront bytes → (s : State) × (scan start bytes ≡ Some s)
front_scanned bytes f =
    let t = text_scanned (bytes ++ f.0) f.1 f.2 in
    let p = some_first (scan start bytes) (λ s. scan s f.0) t.0 (sym (scan_append start bytes f.0) ∙ t.1) in
    (p.0, p.1)

-- a text has one tree
pub text_unique : (bytes : List ℕ) (ts us : List Term) → IsText ts bytes → IsText us bytes → ts ≡ us
text_unique bytes ts us h j =
    let a = text_scanned bytes ts h in
    let b = text_scanned bytes us j in
    let same = some_injective a.0 b.0 (sym a.1 ∙ b.1) in
    some_injective ts us (sym a.2 ∙ ap finish same ∙ b.2)

-- a front of a front is one
front_take : (bytes : List ℕ) (i n : ℕ) → i ≤ n → IsFront (take n bytes) → IsFront (take i bytes)
front_take bytes i n h f =
    let parts : take i bytes ++ drop i (take n bytes) ≡ take n bytes = ap (λ (l : List ℕ). l ++ drop i (take n bytes)) (sym (take-take i n bytes h)) ∙ take-append-drop i (take n bytes) in
    (drop i (take n bytes) ++ f.0, f.1, subst (IsText f.1) (sym (sym (append_assoc (take i bytes) (drop i (take n bytes)) f.0) ∙ ap (λ (l : List ℕ). l ++ f.0) parts)) f.2)

-- the whole of a text is a front
text_front : (text : List ℕ) (ts : List Term) → IsText ts text → IsFront (take (length text) text)
text_front text ts h = ([], ts, subst (IsText ts) (sym (append-nil _ ∙ take-length text)) h)

-- the first byte that is not taken is the first fault
pub stopped_fault : (text : List ℕ) (n : ℕ) (s : State) → n < length text → scan start (take n text) ≡ Some s → step s (get_or text n 0) ≡ None → IsFirstFault text n
stopped_fault text n s within e stop = record {
  none = λ ts h. not_next (front_take text (n + 1) (length text) (omega arith) (text_front text ts h));
  within = omega arith;
  longest = λ i h. (λ f. below i f (dec_le i n), λ l. front_take text i n l (scanned_front (take n text) s e));
}
  where
    dead : scan start (take (n + 1) text) ≡ None
    dead = ap (scan start) (take_more text n 0 within) ∙ scan_after start s (take n text) (get_or text n 0 ∷ []) e ∙ ap (λ (o : Option State). o >>= λ t. Some t) stop

    not_next : ¬ IsFront (take (n + 1) text)
    not_next f = let p = front_scanned (take (n + 1) text) f in none_some p.0 (sym dead ∙ p.1)

    below : (i : ℕ) → IsFront (take i text) → Dec (i ≤ n) → i ≤ n
    below i f (yes l) = l
    below i f (no m) = absurd (not_next (front_take text (n + 1) i (omega arith) f))

-- where no text may end, the end is the fault
pub ended_fault : (text : List ℕ) (s : State) → scan start text ≡ Some s → finish s ≡ None → IsFirstFault text (length text)
ended_fault text s e none = record {
  none = λ ts h. let t = text_scanned text ts h in
      none_some ts (sym none ∙ ap finish (some_injective s t.0 (sym e ∙ t.1)) ∙ t.2);
  within = omega arith;
  longest = λ i h. (λ f. h, λ l. front_take text i (length text) l (subst IsFront (sym (take-length text)) (scanned_front text s e)));
}
