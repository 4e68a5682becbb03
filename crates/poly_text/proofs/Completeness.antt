-- Each spelling is scanned, and its tree is found.
use Rattle.std.proofs.Common.{◌≡◌, ℕ, zero, suc, ◌+◌, ◌-◌, ◌*◌, ◌/◌, ◌%◌, ◌≤◌, ◌<◌, Bool, true, false, List, [], ◌∷◌, ◌++◌, All, Option, Some, None, IsTrue, if◌then◌else◌, sym, ap, ap₂, ◌∙◌, refl, subst, arith}
use Rattle.std.specs.Prelude.{decimal, not, ◌==◌, ◌&&◌, nat_le}
use Rattle.std.specs.Char.{is_ascii_digit}
use Rattle.std.specs.List.{list_all, AllByRecursion}
use Rattle.std.proofs.lemmas.Bool.{and_parts, not-true, ne_eqb}
use Rattle.std.proofs.lemmas.List.Elements.{recursion_from_All}
use Rattle.std.proofs.lemmas.Bool.Decides.{nat_tests}
use Rattle.std.proofs.lemmas.Fmt.{decimal_step, decimal_digit}
use Rattle.std.proofs.lemmas.List.{append_assoc}
use mathlib.Core.List.{append-nil}
use Rattle.alg_core.specs.Names.{is_letter, is_name_byte, is_reserved, is_name}
use Rattle.poly_text.specs.declared.syntax.Mark.{Mark}
use Rattle.poly_text.specs.declared.syntax.Mark.TheVariants.{Primary, Irreducible, Secondary}
use Rattle.poly_text.specs.Syntax.{Variable, Named, Marked, Factor, Term, mark_byte, variable_text, factor_text, starred, product_text, signed, spelling, IsShort, IsVariable, IsFactor, IsTerm}
use Rattle.poly_text.proofs.Fronts.{sign_byte}
use Rattle.poly_text.specs.Scanning.{State, Stage, Start, Zero, Signed, Coefficient, Starred, Name, Sign, Index, Raised, Exponent, start, in_stage, closed, with_factor, grown, is_first_digit, ◌>>=◌, factor_start, term_start, next_term, after_factor, after_variable, in_start, in_coefficient, in_name, in_index, in_exponent, step_in, step, scan, finish}

then_scan : (o : Option State) (a b : List ℕ) → ((s' : State) → scan s' (a ++ b) ≡ (scan s' a >>= λ t. scan t b)) → (o >>= λ s'. scan s' (a ++ b)) ≡ ((o >>= λ s'. scan s' a) >>= λ t. scan t b)
then_scan None a b h = refl
then_scan (Some s) a b h = h s

-- bytes after bytes
pub scan_append : (s : State) (a b : List ℕ) → scan s (a ++ b) ≡ (scan s a >>= λ s'. scan s' b)
scan_append s [] b = refl
scan_append s (x ∷ a) b = then_scan (step s x) a b (λ s'. scan_append s' a b)

pub scan_after : (s t : State) (a b : List ℕ) → scan s a ≡ Some t → scan s (a ++ b) ≡ scan t b
scan_after s t a b e = scan_append s a b ∙ ap (λ (o : Option State). o >>= λ s'. scan s' b) e

-- A number is read digit by digit: its first digit leads from the state s to that of a number, and each later one to that of
-- the number grown.
module _ (s : State) (of : ℕ → State)
    (first : (b : ℕ) → is_first_digit b ≡ true → step s b ≡ Some (of (b - 48)))
    (next : (n b : ℕ) → is_ascii_digit b ≡ true → n ≤ 9999 → step (of n) b ≡ Some (of (10 * n + (b - 48)))) where
  abbrev Scanned : ℕ → Type 0
  Scanned n = scan s (decimal n) ≡ Some (of n)

  one_digit : (n : ℕ) → 1 ≤ n → n ≤ 9 → Scanned n
  one_digit n low small =
      let first_byte : is_first_digit (48 + n) ≡ true = grind (arith, nat_tests) in
      ap (scan s) (decimal_digit n (omega arith)) ∙ ap (λ (o : Option State). o >>= λ s'. Some s') (first (48 + n) first_byte) ∙ ap (λ (m : ℕ). Some (of m)) (omega arith)

  more_digits : (n : ℕ) → 9 < n → n ≤ 99999 → Scanned (n / 10) → Scanned n
  more_digits n big high earlier =
      let is_digit : is_ascii_digit (48 + n % 10) ≡ true = last_digit (n % 10) (omega arith) in
      let value : 10 * (n / 10) + (48 + n % 10 - 48) ≡ n = omega arith in
      ap (scan s) (decimal_step n (omega arith) (omega arith))
      ∙ scan_after s (of (n / 10)) (decimal (n / 10)) ((48 + n % 10) ∷ []) earlier
      ∙ ap (λ (o : Option State). o >>= λ s'. Some s') (next (n / 10) (48 + n % 10) is_digit (omega arith)) ∙ ap (λ (m : ℕ). Some (of m)) value
    where
      last_digit : (d : ℕ) → d ≤ 9 → is_ascii_digit (48 + d) ≡ true
      last_digit d h = grind (arith, nat_tests)

  by_size : (n : ℕ) (t : Bool) → nat_le n 9 ≡ t → 1 ≤ n → n ≤ 99999 → (9 < n → Scanned (n / 10)) → Scanned n
  by_size n true e low high earlier = one_digit n low (grind (arith, nat_tests))
  by_size n false e low high earlier = let big : 9 < n = grind (arith, nat_tests) in more_digits n big high (earlier big)

  number_below : (k n : ℕ) → n < k → 1 ≤ n → n ≤ 99999 → Scanned n
  number_below zero n below low high = absurd (omega arith)
  number_below (suc k) n below low high = by_size n (nat_le n 9) refl low high (λ big. number_below k (n / 10) (omega arith) (omega arith) (omega arith))

  pub number_scanned : (n : ℕ) → IsShort n → scan s (decimal n) ≡ Some (of n)
  number_scanned n short = let low = short.0 in let high = short.1 in number_below (suc n) n (omega arith) low high

pub grown_some : (n b : ℕ) → is_ascii_digit b ≡ true → n ≤ 9999 → grown n b ≡ Some (10 * n + (b - 48))
grown_some n b e small =
    let fits : nat_le n 9999 ≡ true = grind (arith, nat_tests) in
    ap₂ (λ (t u : Bool). if t && u then Some (10 * n + (b - 48)) else None) e fits

-- the stage after a variable, and after a factor
abbrev variable_stage : Variable → Stage
variable_stage (Named w) = Name w
variable_stage (Marked m j) = Index m j

abbrev factor_stage : Factor → Stage
factor_stage f = if f.exponent == 1 then variable_stage f.variable else Exponent f.variable f.exponent

name_free : (w : List ℕ) → IsTrue (is_name w) → is_reserved w ≡ false
name_free [] h = absurd cc
name_free (b ∷ bs) h =
    let parts = and_parts (is_letter b) (list_all is_name_byte bs && not (is_reserved (b ∷ bs))) h in
    let bytes = and_parts (list_all is_name_byte bs) (not (is_reserved (b ∷ bs))) parts.1 in
    not-true (is_reserved (b ∷ bs)) bytes.1

-- the bytes of a name after its first ones
name_scanned : (s : State) (w bs : List ℕ) → list_all is_name_byte bs ≡ true → scan (in_stage s (Name w)) bs ≡ Some (in_stage s (Name (w ++ bs)))
unfolding step_in in_name
name_scanned s w [] h = ap (λ (l : List ℕ). Some (in_stage s (Name l))) (sym (append-nil w))
name_scanned s w (b ∷ bs) h =
    let parts = and_parts (is_name_byte b) (list_all is_name_byte bs) h in
    ap (λ (t : Bool). (if t then Some (in_stage s (Name (w ++ b ∷ []))) else (if is_reserved w then None else after_variable (in_stage s (Name w)) (Named w) b)) >>= λ s'. scan s' bs) parts.0
    ∙ name_scanned s (w ++ b ∷ []) bs parts.1
    ∙ ap (λ (l : List ℕ). Some (in_stage s (Name l))) (append_assoc w (b ∷ []) bs)

module _ (s : State) (starts : (b : ℕ) → is_ascii_digit b ≡ false → ¬ (b ≡ 45) → step s b ≡ factor_start s b) where
  letter_starts : (b : ℕ) → is_letter b ≡ true → step s b ≡ Some (in_stage s (Name (b ∷ [])))
  unfolding factor_start
  letter_starts b e = starts b (grind (arith, nat_tests)) (λ q. absurd (grind (arith, nat_tests))) ∙ ap (λ (t : Bool). if t then Some (in_stage s (Name (b ∷ []))) else (if b == 64 then Some (in_stage s (Sign Primary)) else if b == 36 then Some (in_stage s (Sign Irreducible)) else if b == 37 then Some (in_stage s (Sign Secondary)) else None)) e

  mark_starts : (m : Mark) → step s (mark_byte m) ≡ Some (in_stage s (Sign m))
  unfolding factor_start
  mark_starts Primary = starts 64 refl (λ q. omega (arith, q))
  mark_starts Irreducible = starts 36 refl (λ q. omega (arith, q))
  mark_starts Secondary = starts 37 refl (λ q. omega (arith, q))

  named_scanned : (w : List ℕ) → IsTrue (is_name w) → scan s w ≡ Some (in_stage s (Name w))
  named_scanned [] h = absurd cc
  named_scanned (b ∷ bs) h =
      let parts = and_parts (is_letter b) (list_all is_name_byte bs && not (is_reserved (b ∷ bs))) h in
      let bytes = and_parts (list_all is_name_byte bs) (not (is_reserved (b ∷ bs))) parts.1 in
      ap (λ (o : Option State). o >>= λ s'. scan s' bs) (letter_starts b parts.0) ∙ name_scanned s (b ∷ []) bs bytes.0

  marked_scanned : (m : Mark) (j : ℕ) → IsShort j → scan s (mark_byte m ∷ decimal j) ≡ Some (in_stage s (Index m j))
  unfolding step_in in_index
  marked_scanned m j short =
      ap (λ (o : Option State). o >>= λ s'. scan s' (decimal j)) (mark_starts m)
      ∙ number_scanned (in_stage s (Sign m)) (λ n. in_stage s (Index m n))
      (λ b e. ap (λ (t : Bool). (if t then Some (b - 48) else None) >>= λ n. Some (in_stage s (Index m n))) e)
      (λ n b e small. ap (λ (t : Bool). if t then (grown n b >>= λ n'. Some (in_stage s (Index m n'))) else after_variable (in_stage s (Index m n)) (Marked m n) b) e
      ∙ ap (λ (o : Option ℕ). o >>= λ n'. Some (in_stage s (Index m n'))) (grown_some n b e small))
      j short

  variable_scanned : (v : Variable) → IsVariable v → scan s (variable_text v) ≡ Some (in_stage s (variable_stage v))
  variable_scanned (Named w) h = named_scanned w h
  variable_scanned (Marked m j) h = marked_scanned m j h

  raised : (v : Variable) → IsVariable v → step (in_stage s (variable_stage v)) 94 ≡ Some (in_stage s (Raised v))
  unfolding step_in in_name in_index after_variable
  raised (Named w) h = ap (λ (t : Bool). if t then None else Some (in_stage s (Raised (Named w)))) (name_free w h)
  raised (Marked m j) h = refl

  exponent_scanned : (v : Variable) (n : ℕ) → IsShort n → scan (in_stage s (Raised v)) (decimal n) ≡ Some (in_stage s (Exponent v n))
  unfolding step_in in_exponent
  exponent_scanned v n short = number_scanned (in_stage s (Raised v)) (λ n. in_stage s (Exponent v n))
      (λ b e. ap (λ (t : Bool). (if t then Some (b - 48) else None) >>= λ n. Some (in_stage s (Exponent v n))) e)
      (λ n b e small. ap (λ (t : Bool). if t then (grown n b >>= λ n'. Some (in_stage s (Exponent v n'))) else (if n == 1 then None else after_factor (with_factor (in_stage s (Exponent v n)) v n) b)) e
      ∙ ap (λ (o : Option ℕ). o >>= λ n'. Some (in_stage s (Exponent v n'))) (grown_some n b e small))
      n short

  pub factor_scanned : (f : Factor) → IsFactor f → scan s (factor_text f) ≡ Some (in_stage s (factor_stage f))
  factor_scanned f h = go (f.exponent == 1)
    where
      go : (t : Bool) → scan s (variable_text f.variable ++ (if t then [] else 94 ∷ decimal f.exponent)) ≡ Some (in_stage s (if t then variable_stage f.variable else Exponent f.variable f.exponent))
      go true = ap (scan s) (append-nil (variable_text f.variable)) ∙ variable_scanned f.variable h.variable
      go false = scan_after s (in_stage s (variable_stage f.variable)) (variable_text f.variable) (94 ∷ decimal f.exponent) (variable_scanned f.variable h.variable)
          ∙ ap (λ (o : Option State). o >>= λ s'. scan s' (decimal f.exponent)) (raised f.variable h.variable)
          ∙ exponent_scanned f.variable f.exponent h.exponent

-- The term at hand is whole in the state q: it has the sign, coefficient and factors of s.
pub record Ended (q s : State) : Type 0 where
  pub sign : (minus : Bool) → step q (sign_byte minus) ≡ Some (closed s minus)
  pub ends : finish q ≡ Some (closed s false).terms

module _ (s : State) (f : Factor) (h : IsFactor f) where
  abbrev more : State
  more = with_factor s f.variable f.exponent

  after_plain : (v : Variable) → IsVariable v → (b : ℕ) → is_name_byte b ≡ false → is_ascii_digit b ≡ false → b == 94 ≡ false → step (in_stage s (variable_stage v)) b ≡ after_factor (with_factor (in_stage s (variable_stage v)) v 1) b
  unfolding step_in in_name in_index after_variable
  after_plain (Named w) is b letter digit hat =
      ap (λ (t : Bool). if t then Some (in_stage s (Name (w ++ b ∷ []))) else (if is_reserved w then None else (if b == 94 then Some (in_stage s (Raised (Named w))) else after_factor (with_factor (in_stage s (Name w)) (Named w) 1) b))) letter
      ∙ ap₂ (λ (t u : Bool). if t then None else (if u then Some (in_stage s (Raised (Named w))) else after_factor (with_factor (in_stage s (Name w)) (Named w) 1) b)) (name_free w is) hat
  after_plain (Marked m j) is b letter digit hat =
      ap₂ (λ (t u : Bool). if t then (grown j b >>= λ n'. Some (in_stage s (Index m n'))) else (if u then Some (in_stage s (Raised (Marked m j))) else after_factor (with_factor (in_stage s (Index m j)) (Marked m j) 1) b)) digit hat

  plain_ends : (v : Variable) → IsVariable v → finish (in_stage s (variable_stage v)) ≡ Some (closed (with_factor s v 1) false).terms
  plain_ends (Named w) is = ap (λ (t : Bool). if t then None else Some (closed (with_factor s (Named w) 1) false).terms) (name_free w is)
  plain_ends (Marked m j) is = refl

  after_exponent : (v : Variable) (n b : ℕ) → n == 1 ≡ false → is_ascii_digit b ≡ false → step (in_stage s (Exponent v n)) b ≡ after_factor (with_factor (in_stage s (Exponent v n)) v n) b
  unfolding step_in in_exponent
  after_exponent v n b one digit = ap₂ (λ (t u : Bool). if t then (grown n b >>= λ n'. Some (in_stage s (Exponent v n'))) else (if u then None else after_factor (with_factor (in_stage s (Exponent v n)) v n) b)) digit one

  -- in the stage after the factor, which an exponent 1 leaves as it is
  abbrev staged : Bool → State
  staged t = in_stage s (if t then variable_stage f.variable else Exponent f.variable f.exponent)

  one_is : f.exponent == 1 ≡ true → 1 ≡ f.exponent
  one_is e = grind (arith, nat_tests)

  pub star_after : step (in_stage s (factor_stage f)) 42 ≡ Some (in_stage more Starred)
  unfolding after_factor
  star_after = go (f.exponent == 1) refl
    where
      go : (t : Bool) → f.exponent == 1 ≡ t → step (staged t) 42 ≡ Some (in_stage more Starred)
      go true e = after_plain f.variable h.variable 42 refl refl refl ∙ ap (λ (n : ℕ). Some (in_stage (with_factor s f.variable n) Starred)) (one_is e)
      go false e = after_exponent f.variable f.exponent 42 e refl

  sign_after : (minus : Bool) → step (in_stage s (factor_stage f)) (sign_byte minus) ≡ Some (closed more minus)
  unfolding after_factor next_term
  sign_after minus = go minus (f.exponent == 1) refl
    where
      go : (minus t : Bool) → f.exponent == 1 ≡ t → step (staged t) (sign_byte minus) ≡ Some (closed more minus)
      go true true e = after_plain f.variable h.variable 45 refl refl refl ∙ ap (λ (n : ℕ). Some (closed (with_factor s f.variable n) true)) (one_is e)
      go false true e = after_plain f.variable h.variable 43 refl refl refl ∙ ap (λ (n : ℕ). Some (closed (with_factor s f.variable n) false)) (one_is e)
      go true false e = after_exponent f.variable f.exponent 45 e refl
      go false false e = after_exponent f.variable f.exponent 43 e refl

  factor_finish : finish (in_stage s (factor_stage f)) ≡ Some (closed more false).terms
  factor_finish = go (f.exponent == 1) refl
    where
      go : (t : Bool) → f.exponent == 1 ≡ t → finish (staged t) ≡ Some (closed more false).terms
      go true e = plain_ends f.variable h.variable ∙ ap (λ (n : ℕ). Some (closed (with_factor s f.variable n) false).terms) (one_is e)
      go false e = ap (λ (t : Bool). if t then None else Some (closed more false).terms) e

  pub factor_ended : Ended (in_stage s (factor_stage f)) more
  factor_ended = record { sign = sign_after; ends = factor_finish }

-- scanned to a state in which the term at hand is that of s
pub record ScannedTo (from : State) (bytes : List ℕ) (s : State) : Type 0 where
  pub state : State
  pub scanned : scan from bytes ≡ Some state
  pub ended : Ended state s

in_starred : (s : State) (b : ℕ) → is_ascii_digit b ≡ false → ¬ (b ≡ 45) → step (in_stage s Starred) b ≡ factor_start (in_stage s Starred) b
unfolding step_in
in_starred s b d n = refl

-- the factors after one that is scanned
starred_scanned : (fs : List Factor) (s : State) (f : Factor) → IsFactor f → AllByRecursion IsFactor fs → ScannedTo (in_stage s (factor_stage f)) (starred fs) (record s { factors = s.factors ++ f ∷ fs })
starred_scanned [] s f h hs = record { state = in_stage s (factor_stage f); scanned = refl; ended = factor_ended s f h }
starred_scanned (g ∷ fs) s f h hs =
    let s' = with_factor s f.variable f.exponent in
    let rest = starred_scanned fs s' g hs.0 hs.1 in
    record {
      state = rest.state;
      scanned = ap (λ (o : Option State). o >>= λ t. scan t (factor_text g ++ starred fs)) (star_after s f h)
          ∙ scan_after (in_stage s' Starred) (in_stage s' (factor_stage g)) (factor_text g) (starred fs) (factor_scanned (in_stage s' Starred) (in_starred s') g hs.0)
          ∙ rest.scanned;
      ended = subst (λ (l : List Factor). Ended rest.state (record s { factors = l })) (append_assoc s.factors (f ∷ []) (g ∷ fs)) rest.ended;
    }

-- at the first byte of a term
module _ (ts : List Term) (minus : Bool) (stage : Stage) where
  -- a term at hand with this coefficient and these factors
  abbrev with_parts : ℕ → List Factor → Stage → State
  with_parts c fs st = record { terms = ts; is_negative = minus; coefficient = c; factors = fs; stage = st }

  abbrev fresh : State
  fresh = with_parts 1 [] stage

  module _ (begins : (b : ℕ) → ¬ (b ≡ 48) → ¬ (b ≡ 45) → step fresh b ≡ term_start fresh b) where
    digits_scanned : (c : ℕ) → IsShort c → scan fresh (decimal c) ≡ Some (with_parts c [] Coefficient)
    unfolding step_in in_coefficient term_start
    digits_scanned c short = number_scanned fresh (λ n. with_parts n [] Coefficient)
        (λ b e. begins b (λ q. not_first 48 (λ r. omega (arith, r.0)) (subst (λ (x : ℕ). is_first_digit x ≡ true) q e)) (λ q. not_first 45 (λ r. omega (arith, r.0)) (subst (λ (x : ℕ). is_first_digit x ≡ true) q e))
        ∙ ap (λ (t : Bool). if t then Some (with_parts (b - 48) [] Coefficient) else factor_start fresh b) e)
        (λ n b e small. ap (λ (t : Bool). if t then (grown n b >>= λ n'. Some (with_parts n' [] Coefficient)) else (if b == 42 then (if n == 1 then None else Some (with_parts n [] Starred)) else next_term (with_parts n [] Coefficient) b)) e
        ∙ ap (λ (o : Option ℕ). o >>= λ n'. Some (with_parts n' [] Coefficient)) (grown_some n b e small))
        c short
      where
        not_first : (b : ℕ) → ((49 ≤ b) × (b ≤ 57) → ⊥) → is_first_digit b ≡ true → ⊥
        not_first b n e = n (grind (arith, nat_tests), grind (arith, nat_tests))

    factor_begins : (b : ℕ) → is_ascii_digit b ≡ false → ¬ (b ≡ 45) → step fresh b ≡ factor_start fresh b
    unfolding term_start
    factor_begins b digit n =
        let no : is_first_digit b ≡ false = grind (arith, nat_tests) in
        begins b (λ q. absurd (grind (arith, nat_tests))) n ∙ ap (λ (t : Bool). if t then Some (with_parts (b - 48) [] Coefficient) else factor_start fresh b) no

    coefficient_ended : (c : ℕ) → Ended (with_parts c [] Coefficient) (with_parts c [] stage)
    unfolding step_in in_coefficient next_term
    coefficient_ended c = record { sign = sign; ends = refl }
      where
        sign : (m : Bool) → step (with_parts c [] Coefficient) (sign_byte m) ≡ Some (closed (with_parts c [] stage) m)
        sign true = refl
        sign false = refl

    starred_begins : (c : ℕ) → c == 1 ≡ false → step (with_parts c [] Coefficient) 42 ≡ Some (with_parts c [] Starred)
    unfolding step_in in_coefficient
    starred_begins c e = ap (λ (t : Bool). if t then None else Some (with_parts c [] Starred)) e

    product_scanned : (c : ℕ) (fs : List Factor) → IsShort c → AllByRecursion IsFactor fs → ScannedTo fresh (product_text c fs) (with_parts c fs stage)
    product_scanned c [] short hs = record { state = with_parts c [] Coefficient; scanned = digits_scanned c short; ended = coefficient_ended c }
    product_scanned c (f ∷ fs) short hs = go (c == 1) refl
      where
        go : (t : Bool) → c == 1 ≡ t → ScannedTo fresh ((if t then factor_text f else decimal c ++ (42 ∷ factor_text f)) ++ starred fs) (with_parts c (f ∷ fs) stage)
        go true e =
            let one : 1 ≡ c = grind (arith, nat_tests) in
            let rest = starred_scanned fs fresh f hs.0 hs.1 in
            record {
              state = rest.state;
              scanned = scan_after fresh (in_stage fresh (factor_stage f)) (factor_text f) (starred fs) (factor_scanned fresh factor_begins f hs.0) ∙ rest.scanned;
              ended = subst (λ (n : ℕ). Ended rest.state (with_parts n (f ∷ fs) stage)) one rest.ended;
            }
        go false e =
            let s = with_parts c [] stage in
            let rest = starred_scanned fs s f hs.0 hs.1 in
            record {
              state = rest.state;
              scanned = scan_after fresh (in_stage s (factor_stage f)) (decimal c ++ (42 ∷ factor_text f)) (starred fs)
                  (scan_after fresh (with_parts c [] Coefficient) (decimal c) (42 ∷ factor_text f) (digits_scanned c short)
                  ∙ ap (λ (o : Option State). o >>= λ t. scan t (factor_text f)) (starred_begins c e)
                  ∙ factor_scanned (in_stage s Starred) (in_starred s) f hs.0)
                  ∙ rest.scanned;
              ended = rest.ended;
            }

signed_begins : (ts : List Term) (minus : Bool) (b : ℕ) → ¬ (b ≡ 48) → ¬ (b ≡ 45) → step (fresh ts minus Signed) b ≡ term_start (fresh ts minus Signed) b
unfolding step_in
signed_begins ts minus b m n = refl

start_begins : (b : ℕ) → ¬ (b ≡ 48) → ¬ (b ≡ 45) → step start b ≡ term_start start b
unfolding step_in in_start
start_begins b m n =
    let zero_no : b == 48 ≡ false = ne_eqb b 48 m in
    let minus_no : b == 45 ≡ false = ne_eqb b 45 n in
    ap₂ (λ (t u : Bool). if t then Some (in_stage start Zero) else (if u then Some (record start { is_negative = true; stage = Signed }) else term_start start b)) zero_no minus_no

-- the tree is found at the end
pub record Found (from : State) (bytes : List ℕ) (ts : List Term) : Type 0 where
  pub state : State
  pub scanned : scan from bytes ≡ Some state
  pub ends : finish state ≡ Some ts

-- the terms after one that is scanned
signed_scanned : (ts : List Term) (q s : State) → Ended q s → AllByRecursion IsTerm ts → Found q (signed ts) ((closed s false).terms ++ ts)
signed_scanned [] q s e h = record { state = q; scanned = refl; ends = e.ends ∙ ap Some (sym (append-nil _)) }
signed_scanned (t ∷ ts) q s e h =
    let before = (closed s false).terms in
    let product = product_scanned before t.is_negative Signed (signed_begins before t.is_negative) t.coefficient t.factors h.0.coefficient (recursion_from_All IsFactor t.factors h.0.factors) in
    let rest = signed_scanned ts product.state (with_parts before t.is_negative Signed t.coefficient t.factors Signed) product.ended h.1 in
    record {
      state = rest.state;
      scanned = ap (λ (o : Option State). o >>= λ s'. scan s' (product_text t.coefficient t.factors ++ signed ts)) (e.sign t.is_negative)
          ∙ scan_after (closed s t.is_negative) product.state (product_text t.coefficient t.factors) (signed ts) product.scanned
          ∙ rest.scanned;
      ends = rest.ends ∙ ap Some (append_assoc before (t ∷ []) ts);
    }

first_scanned : (minus : Bool) (stage : Stage) → ((b : ℕ) → ¬ (b ≡ 48) → ¬ (b ≡ 45) → step (fresh [] minus stage) b ≡ term_start (fresh [] minus stage) b)
    → (t : Term) (ts : List Term) → t.is_negative ≡ minus → IsTerm t → AllByRecursion IsTerm ts → Found (fresh [] minus stage) (product_text t.coefficient t.factors ++ signed ts) (t ∷ ts)
first_scanned minus stage begins t ts e h hs =
    let product = product_scanned [] minus stage begins t.coefficient t.factors h.coefficient (recursion_from_All IsFactor t.factors h.factors) in
    let rest = signed_scanned ts product.state (with_parts [] minus stage t.coefficient t.factors stage) product.ended hs in
    record {
      state = rest.state;
      scanned = scan_after (fresh [] minus stage) product.state (product_text t.coefficient t.factors) (signed ts) product.scanned ∙ rest.scanned;
      ends = rest.ends ∙ ap (λ (m : Bool). Some (record { is_negative = m; coefficient = t.coefficient; factors = t.factors } ∷ ts)) (sym e);
    }

-- each spelling is scanned, and its tree is found
pub spelling_found : (ts : List Term) → All IsTerm ts → Found start (spelling ts) ts
unfolding step_in in_start
spelling_found [] h = record { state = in_stage start Zero; scanned = refl; ends = refl }
spelling_found (t ∷ ts) h = go t.is_negative refl (recursion_from_All IsTerm (t ∷ ts) h)
  where
    go : (minus : Bool) → t.is_negative ≡ minus → AllByRecursion IsTerm (t ∷ ts) → Found start ((if minus then 45 ∷ [] else []) ++ (product_text t.coefficient t.factors ++ signed ts)) (t ∷ ts)
    go true e hs = let f = first_scanned true Signed (signed_begins [] true) t ts e hs.0 hs.1 in record { state = f.state; scanned = f.scanned; ends = f.ends }
    go false e hs = first_scanned false Start start_begins t ts e hs.0 hs.1
