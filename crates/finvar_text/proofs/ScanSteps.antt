-- Steps of the scanner.
use Rattle.std.proofs.Common.{◌≡◌, ℕ, ◌+◌, ◌-◌, ◌<◌, ◌≤◌, Bool, true, false, List, [], ◌∷◌, ◌++◌, length, take, drop, get_or, Option, Some, None, if◌then◌else◌, sym, ap, ap₂, ◌∙◌, refl, arith}
use Rattle.std.specs.Prelude.{eqb, ◌==◌}
use Rattle.std.specs.Char.{is_ascii_digit}
use Rattle.std.specs.Cmp.Lexicographic.{pointwise}
use Rattle.std.proofs.lemmas.Bool.Decides.{Decides-eqb}
use Rattle.std.proofs.lemmas.Slice.Eq.{starts_is}
use Rattle.std.proofs.lemmas.List.{take_more, get_or-drop, length-drop}
use Rattle.std.proofs.Math.Seq.{take-length}
use Rattle.finvar_text.specs.declared.scan.Scanner.{Scanner}
use Rattle.finvar_text.specs.declared.scan.Mode.{Mode as CodeMode}
use Rattle.finvar_text.specs.declared.scan.Mode.TheVariants as modes
use Rattle.finvar_text.specs.declared.scan_tokens.ScanError.{ScanError}
use Rattle.finvar_text.specs.declared.scan_tokens.ScanError.TheVariants as errors
use Rattle.finvar_text.specs.Syntax.{Script, IsText}
use Rattle.alg_core.specs.Names.{is_letter, is_name_byte}
use Rattle.finvar_text.specs.Grammar.{State, begins, word_front, next_word, next_number, next_text, ◌>>=◌}
use Rattle.finvar_text.specs.Scanning.{Between, InWord, InNumber, InText, Scan, at, start_scan, between, in_word, in_number, in_text, step, scan, finish}
use Rattle.finvar_text.specs.Parsers.{state_of, Fails}
use Rattle.finvar_text.specs.Scanners.{mode_of, scan_of, IsOrdered, fault_at, IsSyntaxFault}
use Rattle.finvar_text.proofs.Scans.{scan_after, stopped_fault, ended_fault, scanned_text}
use Rattle.finvar_text.proofs.Fronts.{begins_split, begins_word}

-- the test of the program
pub prefix_is : (r : Bool) (w k : List ℕ) → r ≡ pointwise eqb w (take (length w) k) → r ≡ begins w k
prefix_is r w k e = go r (begins w k) refl (starts_is Decides-eqb k w r e)
  where
    go : (r t : Bool) → begins w k ≡ t → (r ≡ true → k ≡ w ++ drop (length w) k) × ((rest : List ℕ) → k ≡ w ++ rest → r ≡ true) → r ≡ begins w k
    go true t f p = sym (begins_word w (drop (length w) k) k (sym (p.0 refl)))
    go false false f p = sym f
    go false true f p = let q = begins_split w k f in p.1 q.0 (sym q.1) ∙ sym f

-- bytes from a place on, with one more
pub grown : (text : List ℕ) (from i : ℕ) → from ≤ i → i < length text → take (i - from) (drop from text) ++ get_or text i 0 ∷ [] ≡ take (i + 1 - from) (drop from text)
grown text from i h l =
    let inside : i - from < length (drop from text) = omega (arith, length-drop from text) in
    let there : from + (i - from) ≡ i = omega arith in
    let next : (i - from) + 1 ≡ i + 1 - from = omega arith in
    ap (λ (x : ℕ). take (i - from) (drop from text) ++ x ∷ []) (sym (get_or-drop from text (i - from) 0 ∙ ap (λ (j : ℕ). get_or text j 0) there))
    ∙ sym (take_more (drop from text) (i - from) 0 inside)
    ∙ ap (λ (n : ℕ). take n (drop from text)) next

-- the scanner has read the first i bytes
pub record IsScanned (text : List ℕ) (i : ℕ) (s : Scanner) : Type 0 where
  pub scanned : scan start_scan (take i text) ≡ Some (scan_of text i s)
  pub ordered : IsOrdered i s

pub scanned_next : (text : List ℕ) (i : ℕ) (s s' : Scanner) → i < length text → IsScanned text i s → step (scan_of text i s) (get_or text i 0) ≡ Some (scan_of text (i + 1) s') → IsOrdered (i + 1) s' → IsScanned text (i + 1) s'
scanned_next text i s s' l h e o = record {
  scanned = ap (scan start_scan) (take_more text i 0 l) ∙ scan_after start_scan (scan_of text i s) (take i text) (get_or text i 0 ∷ []) h.scanned ∙ ap (λ (p : Option Scan). p >>= λ t. Some t) e;
  ordered = o;
}

-- the byte that is not taken is the first fault
pub stop_fault : (text : List ℕ) (i : ℕ) (s : Scanner) (e : ScanError) → i < length text → IsScanned text i s → Fails e (step (scan_of text i s) (get_or text i 0)) → IsSyntaxFault text (fault_at e i)
stop_fault text i s errors.Unexpected l h f = stopped_fault text i (scan_of text i s) l h.scanned f
stop_fault text i s errors.Memory l h f = tt

module _ (text : List ℕ) (i : ℕ) (s : Scanner) (h : IsScanned text i s) (end : i ≡ length text) where
  whole_scanned : scan start_scan text ≡ Some (scan_of text i s)
  whole_scanned = ap (scan start_scan) (sym (take-length text) ∙ ap (λ (n : ℕ). take n text) (sym end)) ∙ h.scanned

  whole_state : scan_of text i s ≡ scan_of text (length text) s
  whole_state = ap (λ (n : ℕ). scan_of text n s) end

  -- where no text may end
  pub end_fault : (e : ScanError) → Fails e (finish (scan_of text (length text) s)) → IsSyntaxFault text (fault_at e (length text))
  end_fault errors.Unexpected f = ended_fault text (scan_of text i s) whole_scanned (ap finish whole_state ∙ f)
  end_fault errors.Memory f = tt

  -- and where one ends
  pub end_tree : (t : Script) → finish (scan_of text (length text) s) ≡ Some t → IsText t text
  end_tree t f = scanned_text text (scan_of text i s) t whole_scanned (ap finish whole_state ∙ f)

module _ (text : List ℕ) (from i : ℕ) (s : Scanner) (begins : from ≤ i) (within : i < length text) where
  abbrev byte : ℕ
  byte = get_or text i 0

  abbrev read : List ℕ
  read = take (i - from) (drop from text)

  abbrev longer : List ℕ
  longer = take (i + 1 - from) (drop from text)

  -- one byte more of a word, where one may begin so
  word_answer : (t : Bool) → is_name_byte byte ≡ true → word_front (state_of s.parser) longer ≡ t → in_word read (state_of s.parser) byte ≡ (if t then Some (at (state_of s.parser) (InWord longer)) else None)
  unfolding in_word
  word_answer t e f =
      let g : State = state_of s.parser in
      ap (λ (u : Bool). if u then (if word_front g (read ++ byte ∷ []) then Some (at g (InWord (read ++ byte ∷ []))) else None) else (next_word g read >>= λ g'. between g' byte)) e
      ∙ ap (λ (w : List ℕ). if word_front g w then Some (at g (InWord w)) else None) (grown text from i begins within)
      ∙ ap (λ (u : Bool). if u then Some (at g (InWord longer)) else None) f

  pub word_step : s.mode ≡ modes.Word from → is_name_byte byte ≡ true → word_front (state_of s.parser) longer ≡ true → in_word read (state_of s.parser) byte ≡ Some (scan_of text (i + 1) s)
  word_step m e f = word_answer true e f ∙ ap (λ (m : CodeMode). Some (at (state_of s.parser) (mode_of text (i + 1) m))) (sym m)

  pub word_stop : is_name_byte byte ≡ true → word_front (state_of s.parser) longer ≡ false → in_word read (state_of s.parser) byte ≡ None
  word_stop e f = word_answer false e f

  pub number_step : s.mode ≡ modes.Number from → is_ascii_digit byte ≡ true → in_number read (state_of s.parser) byte ≡ Some (scan_of text (i + 1) s)
  unfolding in_number
  number_step m e =
      let g : State = state_of s.parser in
      ap (λ (u : Bool). if u then Some (at g (InNumber (read ++ byte ∷ []))) else if is_letter byte then None else (next_number g read >>= λ g'. between g' byte)) e
      ∙ ap (λ (w : List ℕ). Some (at g (InNumber w))) (grown text from i begins within)
      ∙ ap (λ (m : CodeMode). Some (at g (mode_of text (i + 1) m))) (sym m)

  pub text_step : s.mode ≡ modes.Text from → byte == 34 ≡ false → byte == 10 ≡ false → in_text read (state_of s.parser) byte ≡ Some (scan_of text (i + 1) s)
  unfolding in_text
  text_step m e f =
      let g : State = state_of s.parser in
      ap₂ (λ (u v : Bool). if u then (next_text g read >>= λ g'. Some (at g' Between)) else if v then None else Some (at g (InText (read ++ byte ∷ [])))) e f
      ∙ ap (λ (w : List ℕ). Some (at g (InText w))) (grown text from i begins within)
      ∙ ap (λ (m : CodeMode). Some (at g (mode_of text (i + 1) m))) (sym m)
