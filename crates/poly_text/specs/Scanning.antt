-- Reading a text byte by byte: what was read so far, and which bytes may follow.
--
--   Stage                  what was read last
--   State                  the terms that were read whole; the sign, coefficient and factors of the one at hand; the stage
--   start                  nothing is read yet
--   is_first_digit b       a digit other than 0
--   first_digit b          its value
--   grown n b              the number with one more digit, where it has at most five
--   term_start, factor_start, next_term, after_factor, after_variable, in_start, in_coefficient, in_name, in_index, in_exponent, step   the state after one byte more, in the
--                          stages that their names tell, and in any stage; None where the byte may not follow
--   scan s bytes           the state after these bytes
--   finish s               the tree, where a text may end here
--   stage_of text i s, state_of text i s   the same of a scanner that stands before the byte i of the text
--   IsOrdered i s          the name that is being read begins before the byte i
--   Grows, Scans, Finishes  the result of a step of the program, seen by view, is that of a step here, unless memory was refused
use Rattle.std.specs.Prelude.{◌≡◌, ℕ, ◌+◌, ◌-◌, ◌*◌, ◌<◌, Bool, true, false, ◌&&◌, ◌==◌, nat_le, List, [], ◌∷◌, ◌++◌, take, drop, Option, Some, None, Result, Ok, Err, if◌then◌else◌}
use Rattle.std.specs.Global.{Vec}
use Rattle.std.specs.Char.{is_ascii_digit}
use Rattle.alg_core.specs.Names.{is_letter, is_name_byte, is_reserved}
use Rattle.poly_text.specs.declared.scan.Scanner.{Scanner}
use Rattle.poly_text.specs.declared.scan.Stage.{Stage as CodeStage}
use Rattle.poly_text.specs.declared.scan.Stage.TheVariants as stages
use Rattle.poly_text.specs.declared.scan.ScanError.{ScanError}
use Rattle.poly_text.specs.declared.scan.ScanError.TheVariants as errors
use Rattle.poly_text.specs.declared.syntax.Mark.{Mark}
use Rattle.poly_text.specs.declared.syntax.Mark.TheVariants.{Primary, Irreducible, Secondary}
use Rattle.poly_text.specs.Syntax.{Variable, Named, Marked, Factor, Term}
use Rattle.poly_text.specs.declared.syntax.TermText.{TermText}
use Rattle.poly_text.specs.Trees.{variable_of, factors_of, terms_of}

pub data Stage : Type 0 where
  Start : Stage
  Zero : Stage
  Signed : Stage
  Coefficient : Stage
  Starred : Stage
  Name : List ℕ → Stage
  Sign : Mark → Stage
  Index : Mark → ℕ → Stage
  Raised : Variable → Stage
  Exponent : Variable → ℕ → Stage

pub record State : Type 0 where
  pub terms : List Term
  pub is_negative : Bool
  pub coefficient : ℕ
  pub factors : List Factor
  pub stage : Stage

abbrev pub start : State
start = record { terms = []; is_negative = false; coefficient = 1; factors = []; stage = Start }

abbrev pub ◌>>=◌ : {A B : Type 0} → Option A → (A → Option B) → Option B
(Some x) >>= f = f x
None >>= f = None

infixl 10 ◌>>=◌
abbrev pub is_first_digit : ℕ → Bool
is_first_digit b = nat_le 49 b && nat_le b 57

abbrev pub first_digit : ℕ → Option ℕ
first_digit b = if is_first_digit b then Some (b - 48) else None

abbrev pub grown : ℕ → ℕ → Option ℕ
grown n b = if is_ascii_digit b && nat_le n 9999 then Some (10 * n + (b - 48)) else None

abbrev pub in_stage : State → Stage → State
in_stage s stage = record s { stage = stage }

unfoldable pub factor_start : State → ℕ → Option State
factor_start s b =
    if is_letter b then Some (in_stage s (Name (b ∷ [])))
    else if b == 64 then Some (in_stage s (Sign Primary))
    else if b == 36 then Some (in_stage s (Sign Irreducible))
    else if b == 37 then Some (in_stage s (Sign Secondary))
    else None

unfoldable pub term_start : State → ℕ → Option State
term_start s b = if is_first_digit b then Some (record s { coefficient = b - 48; stage = Coefficient }) else factor_start s b

-- the term at hand is whole, and a sign follows
abbrev pub closed : State → Bool → State
closed s sign = record {
  terms = s.terms ++ (record { is_negative = s.is_negative; coefficient = s.coefficient; factors = s.factors } ∷ []);
  is_negative = sign;
  coefficient = 1;
  factors = [];
  stage = Signed;
}

unfoldable pub next_term : State → ℕ → Option State
next_term s b = if b == 43 then Some (closed s false) else if b == 45 then Some (closed s true) else None

-- with one factor more
abbrev pub with_factor : State → Variable → ℕ → State
with_factor s v n = record s { factors = s.factors ++ (record { variable = v; exponent = n } ∷ []) }

unfoldable pub after_factor : State → ℕ → Option State
after_factor s b = if b == 42 then Some (in_stage s Starred) else next_term s b

unfoldable pub after_variable : State → Variable → ℕ → Option State
after_variable s v b = if b == 94 then Some (in_stage s (Raised v)) else after_factor (with_factor s v 1) b

unfoldable pub in_start : State → ℕ → Option State
in_start s b = if b == 48 then Some (in_stage s Zero) else if b == 45 then Some (record s { is_negative = true; stage = Signed }) else term_start s b

unfoldable pub in_coefficient : State → ℕ → Option State
in_coefficient s b =
    if is_ascii_digit b then (grown s.coefficient b >>= λ n. Some (record s { coefficient = n; stage = Coefficient }))
    else if b == 42 then (if s.coefficient == 1 then None else Some (in_stage s Starred))
    else next_term s b

unfoldable pub in_name : List ℕ → State → ℕ → Option State
in_name w s b =
    if is_name_byte b then Some (in_stage s (Name (w ++ (b ∷ []))))
    else if is_reserved w then None
    else after_variable s (Named w) b

unfoldable pub in_index : Mark → ℕ → State → ℕ → Option State
in_index m n s b = if is_ascii_digit b then (grown n b >>= λ n'. Some (in_stage s (Index m n'))) else after_variable s (Marked m n) b

unfoldable pub in_exponent : Variable → ℕ → State → ℕ → Option State
in_exponent v n s b =
    if is_ascii_digit b then (grown n b >>= λ n'. Some (in_stage s (Exponent v n')))
    else if n == 1 then None
    else after_factor (with_factor s v n) b

unfoldable pub step_in : Stage → State → ℕ → Option State
step_in Start s b = in_start s b
step_in Zero s b = None
step_in Signed s b = term_start s b
step_in Coefficient s b = in_coefficient s b
step_in Starred s b = factor_start s b
step_in (Name w) s b = in_name w s b
step_in (Sign m) s b = first_digit b >>= λ n. Some (in_stage s (Index m n))
step_in (Index m n) s b = in_index m n s b
step_in (Raised v) s b = first_digit b >>= λ n. Some (in_stage s (Exponent v n))
step_in (Exponent v n) s b = in_exponent v n s b

abbrev pub step : State → ℕ → Option State
step s b = step_in s.stage s b

abbrev pub scan : State → List ℕ → Option State
scan s [] = Some s
scan s (b ∷ bs) = step s b >>= λ s'. scan s' bs

abbrev pub finish_in : Stage → State → Option (List Term)
finish_in Start s = None
finish_in Zero s = Some s.terms
finish_in Signed s = None
finish_in Coefficient s = Some (closed s false).terms
finish_in Starred s = None
finish_in (Name w) s = if is_reserved w then None else Some (closed (with_factor s (Named w) 1) false).terms
finish_in (Sign m) s = None
finish_in (Index m n) s = Some (closed (with_factor s (Marked m n) 1) false).terms
finish_in (Raised v) s = None
finish_in (Exponent v n) s = if n == 1 then None else Some (closed (with_factor s v n) false).terms

abbrev pub finish : State → Option (List Term)
finish s = finish_in s.stage s

abbrev pub stage_of : List ℕ → ℕ → CodeStage → Stage
stage_of text i stages.Start = Start
stage_of text i stages.Zero = Zero
stage_of text i stages.Signed = Signed
stage_of text i stages.Coefficient = Coefficient
stage_of text i stages.Starred = Starred
stage_of text i (stages.Name from) = Name (take (i - from) (drop from text))
stage_of text i (stages.Sign m) = Sign m
stage_of text i (stages.Index m n) = Index m n
stage_of text i (stages.Raised v) = Raised (variable_of v)
stage_of text i (stages.Exponent v n) = Exponent (variable_of v) n

abbrev pub state_of : List ℕ → ℕ → Scanner → State
state_of text i s = record {
  terms = terms_of s.terms.items;
  is_negative = s.is_negative;
  coefficient = s.coefficient;
  factors = factors_of s.factors.items;
  stage = stage_of text i s.stage;
}

abbrev pub IsOrderedStage : ℕ → CodeStage → Type 0
IsOrderedStage i (stages.Name from) = from < i
IsOrderedStage i stages.Start = Unit {0}
IsOrderedStage i stages.Zero = Unit {0}
IsOrderedStage i stages.Signed = Unit {0}
IsOrderedStage i stages.Coefficient = Unit {0}
IsOrderedStage i stages.Starred = Unit {0}
IsOrderedStage i (stages.Sign m) = Unit {0}
IsOrderedStage i (stages.Index m n) = Unit {0}
IsOrderedStage i (stages.Raised v) = Unit {0}
IsOrderedStage i (stages.Exponent v n) = Unit {0}

abbrev pub IsOrdered : ℕ → Scanner → Type 0
IsOrdered i s = IsOrderedStage i s.stage

abbrev pub Fails : {A : Type 0} → ScanError → Option A → Type 0
Fails errors.Unexpected read = read ≡ None
Fails errors.Memory read = Unit {0}

abbrev pub Grows : Result ℕ ScanError → Option ℕ → Type 0
Grows (Ok n) read = read ≡ Some n
Grows (Err e) read = Fails e read

-- the result of a step of the program, which leaves the scanner after
abbrev pub Scans : {A : Type 0} → Result A ScanError → State → Option State → Type 0
Scans (Ok x) after read = read ≡ Some after
Scans (Err e) after read = Fails e read

abbrev pub Finishes : Result (Vec TermText) ScanError → Option (List Term) → Type 0
Finishes (Ok ts) found = found ≡ Some (terms_of ts.items)
Finishes (Err e) found = Fails e found
