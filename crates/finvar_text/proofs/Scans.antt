-- The scanner decides the grammar: where it ends the script is that of the text, and where it stops the fault is the first.
use Rattle.std.proofs.Common.{◌≡◌, ℕ, ◌+◌, ◌≤◌, ◌<◌, List, [], ◌∷◌, ◌++◌, length, take, drop, take-take, take-append-drop, get_or, Option, Some, None, sym, ap, ◌∙◌, refl, subst, arith}
use Rattle.std.specs.Prelude.{IfSome}
use Rattle.std.proofs.lemmas.List.{append_assoc, take_more}
use Rattle.std.proofs.lemmas.List.Elements.{All-nil}
use Rattle.std.proofs.Math.Seq.{take-length}
use mathlib.Core.List.{append-nil}
use native.Mathlib.Decide.{dec_le}
use Rattle.finvar_text.specs.Syntax.{Script, IsString, IsText, IsFront, IsFirstFault}
use Rattle.finvar_text.specs.Grammar.{◌>>=◌}
use Rattle.finvar_text.specs.Scanning.{Scan, start_scan, step, scan, finish}
use Rattle.finvar_text.proofs.ByteSteps.{IsRead, step_adds}
use Rattle.finvar_text.proofs.Endings.{Finds, run, run_append, finish_text}
use Rattle.finvar_text.proofs.Fronts.{scan_front}
use Rattle.finvar_text.proofs.Completeness.{text_found}

then_scan : (o : Option Scan) (a b : List ℕ) → ((s' : Scan) → scan s' (a ++ b) ≡ (scan s' a >>= λ t. scan t b)) → (o >>= λ s'. scan s' (a ++ b)) ≡ ((o >>= λ s'. scan s' a) >>= λ t. scan t b)
then_scan None a b h = refl
then_scan (Some s) a b h = h s

-- bytes after bytes
scan_append : (s : Scan) (a b : List ℕ) → scan s (a ++ b) ≡ (scan s a >>= λ s'. scan s' b)
scan_append s [] b = refl
scan_append s (x ∷ a) b = then_scan (step s x) a b (λ s'. scan_append s' a b)

pub scan_after : (s t : Scan) (a b : List ℕ) → scan s a ≡ Some t → scan s (a ++ b) ≡ scan t b
scan_after s t a b e = scan_append s a b ∙ ap (λ (o : Option Scan). o >>= λ s'. scan s' b) e

start_read : IsRead [] start_scan
start_read = record { lexemes = []; joined = tt; tokens = refl; state = (All-nil IsString, tt); spelled = refl; last = refl }

value_or : {A : Type 0} → A → Option A → A
value_or x None = x
value_or x (Some y) = y

some_injective : {A : Type 0} (x y : A) → Some x ≡ Some y → x ≡ y
unfolding value_or
some_injective x y e = ap (value_or x) e

none_some : {A : Type 0} (x : A) → ¬ (None ≡ Some x)
none_some x e = absurd cc

some_first : {A B : Type 0} (o : Option A) (f : A → Option B) (y : B) → (o >>= f) ≡ Some y → (x : A) × (o ≡ Some x) × (f x ≡ Some y)
some_first None f y e = absurd cc
some_first (Some x) f y e = (x, refl, e)

-- what is scanned is added to what was read
scan_adds : (bytes rest : List ℕ) (s s' : Scan) → IsRead bytes s → scan s rest ≡ Some s' → IsRead (bytes ++ rest) s'
scan_adds bytes [] s s' h e = subst (IsRead (bytes ++ [])) (some_injective s s' e) (subst (λ (l : List ℕ). IsRead l s) (sym (append-nil bytes)) h)
scan_adds bytes (b ∷ rest) s s' h e =
    let p = some_first (step s b) (λ t. scan t rest) s' e in
    let a = subst (λ (o : Option Scan). IfSome o (IsRead (bytes ++ b ∷ []))) p.1 (step_adds s b bytes h) in
    subst (λ (l : List ℕ). IsRead l s') (append_assoc bytes (b ∷ []) rest) (scan_adds (bytes ++ b ∷ []) rest p.0 s' a p.2)

-- the bytes that lead to a state are those that it read
scanned_read : (bytes : List ℕ) (s : Scan) → scan start_scan bytes ≡ Some s → IsRead bytes s
scanned_read bytes s e = scan_adds [] bytes start_scan s start_read e

-- where the scanner may stop at the end, the text has the script
pub scanned_text : (bytes : List ℕ) (s : Scan) (t : Script) → scan start_scan bytes ≡ Some s → finish s ≡ Some t → IsText t bytes
scanned_text bytes s t e f = subst (λ (o : Option Script). IfSome o (Finds bytes)) f (finish_text s bytes (scanned_read bytes s e))

-- what is scanned begins a text, and what begins a text is scanned
scanned_front : (bytes : List ℕ) (s : Scan) → scan start_scan bytes ≡ Some s → IsFront bytes
scanned_front bytes s e = scan_front s bytes (scanned_read bytes s e)

text_scanned : (bytes : List ℕ) (t : Script) → IsText t bytes → (s : Scan) × (scan start_scan bytes ≡ Some s) × (finish s ≡ Some t)
text_scanned bytes t h = some_first (scan start_scan bytes) finish t (sym (run_append start_scan bytes []) ∙ ap (run start_scan) (append-nil bytes) ∙ text_found t bytes h)

front_scanned : (bytes : List ℕ) → IsFront bytes → (s : Scan) × (scan start_scan bytes ≡ Some s)
front_scanned bytes f =
    let t = text_scanned (bytes ++ f.0) f.1 f.2 in
    let p = some_first (scan start_scan bytes) (λ s. scan s f.0) t.0 (sym (scan_append start_scan bytes f.0) ∙ t.1) in
    (p.0, p.1)

-- a text has one script
pub text_unique : (bytes : List ℕ) (s t : Script) → IsText s bytes → IsText t bytes → s ≡ t
text_unique bytes s t h j = some_injective s t (sym (text_found s bytes h) ∙ text_found t bytes j)

-- a front of a front is one
front_take : (bytes : List ℕ) (i n : ℕ) → i ≤ n → IsFront (take n bytes) → IsFront (take i bytes)
front_take bytes i n h f =
    let parts : take i bytes ++ drop i (take n bytes) ≡ take n bytes = ap (λ (l : List ℕ). l ++ drop i (take n bytes)) (sym (take-take i n bytes h)) ∙ take-append-drop i (take n bytes) in
    (drop i (take n bytes) ++ f.0, f.1, subst (IsText f.1) (sym (sym (append_assoc (take i bytes) (drop i (take n bytes)) f.0) ∙ ap (λ (l : List ℕ). l ++ f.0) parts)) f.2)

-- the whole of a text is a front
text_front : (text : List ℕ) (t : Script) → IsText t text → IsFront (take (length text) text)
text_front text t h = ([], t, subst (IsText t) (sym (append-nil _ ∙ take-length text)) h)

-- the first byte that is not taken is the first fault
pub stopped_fault : (text : List ℕ) (n : ℕ) (s : Scan) → n < length text → scan start_scan (take n text) ≡ Some s → step s (get_or text n 0) ≡ None → IsFirstFault text n
stopped_fault text n s within e stop = record {
  none = λ t h. not_next (front_take text (n + 1) (length text) (omega arith) (text_front text t h));
  within = omega arith;
  longest = λ i h. (λ f. below i f (dec_le i n), λ l. front_take text i n l (scanned_front (take n text) s e));
}
  where
    dead : scan start_scan (take (n + 1) text) ≡ None
    dead = ap (scan start_scan) (take_more text n 0 within) ∙ scan_after start_scan s (take n text) (get_or text n 0 ∷ []) e ∙ ap (λ (o : Option Scan). o >>= λ t. Some t) stop

    not_next : ¬ IsFront (take (n + 1) text)
    not_next f = let p = front_scanned (take (n + 1) text) f in none_some p.0 (sym dead ∙ p.1)

    below : (i : ℕ) → IsFront (take i text) → Dec (i ≤ n) → i ≤ n
    below i f (yes l) = l
    below i f (no m) = absurd (not_next (front_take text (n + 1) i (omega arith) f))

-- where no text may end, the end is the fault
pub ended_fault : (text : List ℕ) (s : Scan) → scan start_scan text ≡ Some s → finish s ≡ None → IsFirstFault text (length text)
ended_fault text s e none = record {
  none = λ t h. let p = text_scanned text t h in
      none_some t (sym none ∙ ap finish (some_injective s p.0 (sym e ∙ p.1)) ∙ p.2);
  within = omega arith;
  longest = λ i h. (λ f. h, λ l. front_take text i (length text) l (subst IsFront (sym (take-length text)) (scanned_front text s e)));
}
