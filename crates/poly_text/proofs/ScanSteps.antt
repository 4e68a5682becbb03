-- Steps of the scanner.
use Rattle.std.proofs.Common.{◌≡◌, ℕ, ◌+◌, ◌-◌, ◌<◌, Bool, true, List, [], ◌∷◌, ◌++◌, length, take, drop, get_or, Option, Some, None, if◌then◌else◌, sym, ap, ◌∙◌, arith}
use Rattle.std.proofs.Math.Seq.{take-length}
use Rattle.std.proofs.lemmas.List.{map-append, take_more, get_or-drop, length-drop}
use Rattle.alg_core.specs.Names.{is_name_byte, is_reserved}
use Rattle.poly_text.specs.declared.scan.Scanner.{Scanner}
use Rattle.poly_text.specs.declared.scan.Stage.TheVariants as stages
use Rattle.poly_text.specs.declared.syntax.FactorText.{FactorText}
use Rattle.poly_text.specs.declared.scan.ScanError.{ScanError}
use Rattle.poly_text.specs.declared.scan.ScanError.TheVariants as errors
use Rattle.poly_text.specs.Syntax.{Named, Term, IsText}
use Rattle.poly_text.specs.Trees.{factor_of, factors_of}
use Rattle.poly_text.specs.Scanning.{State, Stage, Name, in_name, in_stage, state_of, stage_of, after_variable, scan, start, step, IsOrdered, Fails, finish, ◌>>=◌}
use Rattle.poly_text.specs.Faults.{fault_at, IsSyntaxFault}
use Rattle.poly_text.proofs.Completeness.{scan_after}
use Rattle.poly_text.proofs.Scans.{stopped_fault, ended_fault, scanned_text}

name_grown : (text : List ℕ) (from i : ℕ) → from < i → i < length text → take (i - from) (drop from text) ++ get_or text i 0 ∷ [] ≡ take (i + 1 - from) (drop from text)
name_grown text from i h l =
    let inside : i - from < length (drop from text) = omega (arith, length-drop from text) in
    let there : from + (i - from) ≡ i = omega arith in
    let next : (i - from) + 1 ≡ i + 1 - from = omega arith in
    ap (λ (x : ℕ). take (i - from) (drop from text) ++ x ∷ []) (sym (get_or-drop from text (i - from) 0 ∙ ap (λ (j : ℕ). get_or text j 0) there))
    ∙ sym (take_more (drop from text) (i - from) 0 inside)
    ∙ ap (λ (n : ℕ). take n (drop from text)) next

-- one byte more of a name
pub name_step : (text : List ℕ) (from i : ℕ) (s : Scanner) → from < i → i < length text → s.stage ≡ stages.Name from → is_name_byte (get_or text i 0) ≡ true
    → in_name (take (i - from) (drop from text)) (state_of text i s) (get_or text i 0) ≡ Some (state_of text (i + 1) s)
unfolding in_name
name_step text from i s h l stage e =
    ap (λ (t : Bool). if t then Some (in_stage (state_of text i s) (Name (take (i - from) (drop from text) ++ get_or text i 0 ∷ [])))
    else if is_reserved (take (i - from) (drop from text)) then None
    else after_variable (state_of text i s) (Named (take (i - from) (drop from text))) (get_or text i 0)) e
    ∙ ap (λ (q : Stage). Some (in_stage (state_of text i s) q)) (ap Name (name_grown text from i h l) ∙ sym (ap (stage_of text (i + 1)) stage))

pub factors_more : (xs new : List FactorText) (x : FactorText) → new ≡ xs ++ x ∷ [] → factors_of xs ++ factor_of x ∷ [] ≡ factors_of new
factors_more xs new x e = sym (map-append factor_of xs (x ∷ [])) ∙ ap factors_of (sym e)

-- the scanner has read the first i bytes
pub record IsScanned (text : List ℕ) (i : ℕ) (s : Scanner) : Type 0 where
  pub scanned : scan start (take i text) ≡ Some (state_of text i s)
  pub ordered : IsOrdered i s

pub scanned_next : (text : List ℕ) (i : ℕ) (s s' : Scanner) → i < length text → IsScanned text i s → step (state_of text i s) (get_or text i 0) ≡ Some (state_of text (i + 1) s') → IsOrdered (i + 1) s' → IsScanned text (i + 1) s'
scanned_next text i s s' l h e o = record {
  scanned = ap (scan start) (take_more text i 0 l) ∙ scan_after start (state_of text i s) (take i text) (get_or text i 0 ∷ []) h.scanned ∙ ap (λ (p : Option State). p >>= λ t. Some t) e;
  ordered = o;
}

-- the byte that is not taken is the first fault
pub stop_fault : (text : List ℕ) (i : ℕ) (s : Scanner) (e : ScanError) → i < length text → IsScanned text i s → Fails e (step (state_of text i s) (get_or text i 0)) → IsSyntaxFault text (fault_at e i)
stop_fault text i s errors.Unexpected l h f = stopped_fault text i (state_of text i s) l h.scanned f
stop_fault text i s errors.Memory l h f = tt

module _ (text : List ℕ) (i : ℕ) (s : Scanner) (h : IsScanned text i s) (end : i ≡ length text) where
  whole : scan start text ≡ Some (state_of text i s)
  whole = ap (scan start) (sym (take-length text) ∙ ap (λ (n : ℕ). take n text) (sym end)) ∙ h.scanned

  whole_state : state_of text i s ≡ state_of text (length text) s
  whole_state = ap (λ (n : ℕ). state_of text n s) end

  -- where no text may end
  pub end_fault : (e : ScanError) → Fails e (finish (state_of text (length text) s)) → IsSyntaxFault text (fault_at e (length text))
  end_fault errors.Unexpected f = ended_fault text (state_of text i s) whole (ap finish whole_state ∙ f)
  end_fault errors.Memory f = tt

  -- and where one ends
  pub end_tree : (ts : List Term) → finish (state_of text (length text) s) ≡ Some ts → IsText ts text
  end_tree ts f = scanned_text text (state_of text i s) ts whole (ap finish whole_state ∙ f)
