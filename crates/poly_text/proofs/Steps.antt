-- What a scanner has read, by its state: each byte that it takes is added to it.
use Rattle.std.proofs.Common.{◌≡◌, ℕ, ◌+◌, ◌-◌, ◌*◌, ◌≤◌, Bool, true, false, List, [], ◌∷◌, ◌++◌, length, All, Option, Some, None, IsTrue, if◌then◌else◌, sym, ap, ap₂, ◌∙◌, refl, subst, arith}
use Rattle.std.specs.Prelude.{decimal, not, ◌==◌, ◌&&◌, IfSome, nat_le}
use Rattle.std.specs.List.{list_all}
use Rattle.std.specs.Char.{is_ascii_digit}
use Rattle.std.proofs.lemmas.Bool.Decides.{nat_tests}
use Rattle.std.proofs.lemmas.Bool.{and_parts}
use Rattle.std.proofs.lemmas.Fmt.{decimal_digit}
use Rattle.std.proofs.lemmas.List.Elements.{All-push, All-nil}
use Rattle.std.proofs.lemmas.List.{append_assoc, length-append}
use mathlib.Core.List.{append-nil}
use Rattle.alg_core.specs.Names.{is_letter, is_name_byte, is_reserved, is_name}
use Rattle.poly_text.specs.declared.syntax.Mark.{Mark}
use Rattle.poly_text.specs.declared.syntax.Mark.TheVariants.{Primary, Irreducible, Secondary}
use Rattle.poly_text.specs.Syntax.{Variable, Named, Marked, Factor, Term, mark_byte, variable_text, factor_text, product_text, IsShort, IsVariable, IsFactor, IsTerm}
use Rattle.poly_text.specs.Scanning.{State, Stage, Start, Zero, Signed, Coefficient, Starred, Name, Sign, Index, Raised, Exponent, in_stage, closed, with_factor, grown, first_digit, is_first_digit, ◌>>=◌, factor_start, term_start, next_term, after_factor, after_variable, in_start, in_coefficient, in_name, in_index, in_exponent, step_in, step}
use Rattle.poly_text.proofs.Fronts.{decimal_grown, before_factor, before_term, sign_byte, product_more, spelling_more, before_term_more}

-- a letter, and bytes that may stand in a name
pub record IsNameFront (w : List ℕ) : Type 0 where
  pub first : ℕ
  pub others : List ℕ
  pub is : w ≡ first ∷ others
  pub letter : is_letter first ≡ true
  pub bytes : list_all is_name_byte others ≡ true

all_more : (bs : List ℕ) (b : ℕ) → list_all is_name_byte bs ≡ true → is_name_byte b ≡ true → list_all is_name_byte (bs ++ b ∷ []) ≡ true
all_more [] b h e = ap (λ (t : Bool). t && true) e
all_more (c ∷ bs) b h e =
    let parts = and_parts (is_name_byte c) (list_all is_name_byte bs) h in
    ap₂ (λ (t u : Bool). t && u) parts.0 (all_more bs b parts.1 e)

-- what is no reserved word is a name
pub whole_name : (w : List ℕ) → IsNameFront w → is_reserved w ≡ false → IsTrue (is_name w)
whole_name w f e = subst (λ (l : List ℕ). IsTrue (is_name l)) (sym f.is)
    (ap₂ (λ (t u : Bool). t && u) f.letter (ap₂ (λ (t u : Bool). t && not u) f.bytes (ap is_reserved (sym f.is) ∙ e)))

-- what is read of the term at hand
abbrev pub read_in : Stage → ℕ → List Factor → List ℕ
read_in Start c fs = []
read_in Zero c fs = 48 ∷ []
read_in Signed c fs = []
read_in Coefficient c fs = decimal c
read_in Starred c fs = product_text c fs ++ 42 ∷ []
read_in (Name w) c fs = before_factor c fs ++ w
read_in (Sign m) c fs = before_factor c fs ++ mark_byte m ∷ []
read_in (Index m n) c fs = before_factor c fs ++ variable_text (Marked m n)
read_in (Raised v) c fs = before_factor c fs ++ (variable_text v ++ 94 ∷ [])
read_in (Exponent v n) c fs = before_factor c fs ++ (variable_text v ++ 94 ∷ decimal n)

-- the bytes that are read
abbrev pub read : State → List ℕ
read s = before_term s.terms s.is_negative ++ read_in s.stage s.coefficient s.factors

abbrev pub IsStage : Stage → State → Type 0
IsStage Start s = (s.terms ≡ []) × (s.is_negative ≡ false) × (s.coefficient ≡ 1) × (s.factors ≡ [])
IsStage Zero s = (s.terms ≡ []) × (s.is_negative ≡ false)
IsStage Signed s = (s.coefficient ≡ 1) × (s.factors ≡ [])
IsStage Coefficient s = s.factors ≡ []
IsStage Starred s = s.factors ≡ [] → s.coefficient == 1 ≡ false
IsStage (Name w) s = IsNameFront w
IsStage (Sign m) s = Unit {0}
IsStage (Index m n) s = IsShort n
IsStage (Raised v) s = IsVariable v
IsStage (Exponent v n) s = IsVariable v × IsShort n

-- the parts are as the grammar has them
pub record AreParts (ts : List Term) (c : ℕ) (fs : List Factor) : Type 0 where
  pub terms : All IsTerm ts
  pub coefficient : IsShort c
  pub factors : All IsFactor fs

abbrev pub IsWhole : State → Type 0
IsWhole s = AreParts s.terms s.coefficient s.factors

-- and so is the stage
abbrev pub IsState : State → Type 0
IsState s = IsWhole s × IsStage s.stage s

-- the state after the bytes
abbrev pub Reads : List ℕ → State → Type 0
Reads bytes s = (read s ≡ bytes) × IsState s

pub if_some : {A : Type 0} (P : A → Type 0) (t : Bool) (x y : Option A) → (t ≡ true → IfSome x P) → (t ≡ false → IfSome y P) → IfSome (if t then x else y) P
if_some P true x y f g = f refl
if_some P false x y f g = g refl

pub bind_some : {A B : Type 0} (Q : A → Type 0) (P : B → Type 0) (o : Option A) (h : A → Option B) → IfSome o Q → ((x : A) → Q x → IfSome (h x) P) → IfSome (o >>= h) P
bind_some Q P None h q f = tt
bind_some Q P (Some x) h q f = f x q

-- a number grown by one digit
abbrev Grown : ℕ → ℕ → ℕ → Type 0
Grown n b m = (decimal m ≡ decimal n ++ b ∷ []) × IsShort m

grown_digit : (n b : ℕ) → IsShort n → IfSome (grown n b) (Grown n b)
grown_digit n b h = if_some (Grown n b) (is_ascii_digit b && nat_le n 9999) _ _ (λ e. (text e, number e)) (λ e. tt)
  where
    bounds : is_ascii_digit b && nat_le n 9999 ≡ true → (48 ≤ b) × (b ≤ 57) × (n ≤ 9999)
    bounds e = (grind (arith, nat_tests), grind (arith, nat_tests), grind (arith, nat_tests))

    number : is_ascii_digit b && nat_le n 9999 ≡ true → IsShort (10 * n + (b - 48))
    number e = let q = bounds e in let low = h.0 in (omega (arith, q.0, q.1, q.2), omega (arith, q.0, q.1, q.2))

    text : is_ascii_digit b && nat_le n 9999 ≡ true → decimal (10 * n + (b - 48)) ≡ decimal n ++ b ∷ []
    text e =
        let q = bounds e in
        let back : 48 + (b - 48) ≡ b = omega (arith, q.0) in
        decimal_grown n (b - 48) h.0 q.2 (omega (arith, q.1)) ∙ ap (λ (x : ℕ). decimal n ++ x ∷ []) back

abbrev FirstDigit : ℕ → ℕ → Type 0
FirstDigit b m = (decimal m ≡ b ∷ []) × IsShort m

first_digit_bounds : (b : ℕ) → is_first_digit b ≡ true → (49 ≤ b) × (b ≤ 57)
first_digit_bounds b e = (grind (arith, nat_tests), grind (arith, nat_tests))

first_digit_number : (b : ℕ) → is_first_digit b ≡ true → FirstDigit b (b - 48)
first_digit_number b e =
    let q = first_digit_bounds b e in
    let back : 48 + (b - 48) ≡ b = omega (arith, q.0) in
    (decimal_digit (b - 48) (omega (arith, q.1)) ∙ ap (λ (x : ℕ). x ∷ []) back, (omega (arith, q.0), omega (arith, q.1)))

first_digit_value : (b : ℕ) → IfSome (first_digit b) (FirstDigit b)
first_digit_value b = if_some (FirstDigit b) (is_first_digit b) _ _ (first_digit_number b) (λ e. tt)

module _ (s : State) (h : IsWhole s) where
  front : List ℕ
  front = before_term s.terms s.is_negative

  -- one byte more at the end
  more : (a l : List ℕ) (b : ℕ) → a ++ (l ++ b ∷ []) ≡ (a ++ l) ++ b ∷ []
  more a l b = sym (append_assoc a l (b ∷ []))

  -- the first byte of a factor
  factor_start_reads : (b : ℕ) → IfSome (factor_start s b) (Reads (before_term s.terms s.is_negative ++ (before_factor s.coefficient s.factors ++ b ∷ [])))
  unfolding factor_start
  factor_start_reads b =
      let P = Reads (before_term s.terms s.is_negative ++ (before_factor s.coefficient s.factors ++ b ∷ [])) in
      if_some P (is_letter b) _ _ (λ e. (refl, state (Name (b ∷ [])) (record { first = b; others = []; is = refl; letter = e; bytes = refl })))
      (λ _. if_some P (b == 64) _ _ (λ e. (mark Primary b (grind (arith, nat_tests)), state (Sign Primary) tt))
      (λ _. if_some P (b == 36) _ _ (λ e. (mark Irreducible b (grind (arith, nat_tests)), state (Sign Irreducible) tt))
      (λ _. if_some P (b == 37) _ _ (λ e. (mark Secondary b (grind (arith, nat_tests)), state (Sign Secondary) tt)) (λ _. tt))))
    where
      state : (stage : Stage) → IsStage stage (in_stage s stage) → IsState (in_stage s stage)
      state stage i = (h, i)

      mark : (m : Mark) (b : ℕ) → mark_byte m ≡ b → before_term s.terms s.is_negative ++ (before_factor s.coefficient s.factors ++ mark_byte m ∷ []) ≡ before_term s.terms s.is_negative ++ (before_factor s.coefficient s.factors ++ b ∷ [])
      mark m b e = ap (λ (x : ℕ). before_term s.terms s.is_negative ++ (before_factor s.coefficient s.factors ++ x ∷ [])) e

  -- the first byte of a term
  term_start_reads : (b : ℕ) → s.coefficient ≡ 1 → s.factors ≡ [] → IfSome (term_start s b) (Reads (before_term s.terms s.is_negative ++ b ∷ []))
  unfolding term_start
  term_start_reads b one none =
      let P = Reads (before_term s.terms s.is_negative ++ b ∷ []) in
      if_some P (is_first_digit b) _ _
      (λ e. let d = first_digit_number b e in (ap (λ (l : List ℕ). before_term s.terms s.is_negative ++ l) d.0, (record { terms = h.terms; coefficient = d.1; factors = h.factors }, none)))
      (λ _. subst (λ (l : List ℕ). IfSome (factor_start s b) (Reads (before_term s.terms s.is_negative ++ (l ++ b ∷ [])))) nothing (factor_start_reads b))
    where
      nothing : before_factor s.coefficient s.factors ≡ []
      nothing = ap₂ before_factor one none

  -- the term at hand, whole
  abbrev term : Term
  term = record { is_negative = s.is_negative; coefficient = s.coefficient; factors = s.factors }

  closed_state : (sign : Bool) → IsState (closed s sign)
  closed_state sign = (
    record {
      terms = All-push IsTerm s.terms term h.terms (record { coefficient = h.coefficient; factors = h.factors });
      coefficient = (omega arith, omega arith);
      factors = All-nil IsFactor;
    },
    (refl, refl),
  )

  closed_read : (sign : Bool) → read (closed s sign) ≡ before_term s.terms s.is_negative ++ (product_text s.coefficient s.factors ++ sign_byte sign ∷ [])
  closed_read sign =
      append-nil _ ∙ before_term_more s.terms term sign ∙ ap (λ (l : List ℕ). l ++ sign_byte sign ∷ []) (spelling_more s.terms term)
      ∙ append_assoc (before_term s.terms s.is_negative) (product_text s.coefficient s.factors) (sign_byte sign ∷ [])

  next_term_reads : (b : ℕ) → IfSome (next_term s b) (Reads (before_term s.terms s.is_negative ++ (product_text s.coefficient s.factors ++ b ∷ [])))
  unfolding next_term
  next_term_reads b =
      let P = Reads (before_term s.terms s.is_negative ++ (product_text s.coefficient s.factors ++ b ∷ [])) in
      if_some P (b == 43) _ _ (λ e. (closed_read false ∙ same 43 b (grind (arith, nat_tests)), closed_state false))
      (λ _. if_some P (b == 45) _ _ (λ e. (closed_read true ∙ same 45 b (grind (arith, nat_tests)), closed_state true)) (λ _. tt))
    where
      same : (x b : ℕ) → x ≡ b → before_term s.terms s.is_negative ++ (product_text s.coefficient s.factors ++ x ∷ []) ≡ before_term s.terms s.is_negative ++ (product_text s.coefficient s.factors ++ b ∷ [])
      same x b e = ap (λ (y : ℕ). before_term s.terms s.is_negative ++ (product_text s.coefficient s.factors ++ y ∷ [])) e

module _ (s : State) (h : IsWhole s) (v : Variable) (is : IsVariable v) where
  with_factor_whole : (n : ℕ) → IsShort n → IsWhole (with_factor s v n)
  with_factor_whole n short = record {
    terms = h.terms;
    coefficient = h.coefficient;
    factors = All-push IsFactor s.factors (record { variable = v; exponent = n }) h.factors (record { variable = is; exponent = short });
  }

  -- after a factor that is whole
  after_factor_reads : (n b : ℕ) → IsShort n → IfSome (after_factor (with_factor s v n) b) (Reads (before_term s.terms s.is_negative ++ ((before_factor s.coefficient s.factors ++ factor_text (record { variable = v; exponent = n })) ++ b ∷ [])))
  unfolding after_factor
  after_factor_reads n b short =
      let f : Factor = record { variable = v; exponent = n } in
      subst (λ (l : List ℕ). IfSome (after_factor (with_factor s v n) b) (Reads (before_term s.terms s.is_negative ++ (l ++ b ∷ [])))) (product_more s.coefficient s.factors f)
      (if_some (Reads (before_term s.terms s.is_negative ++ (product_text s.coefficient (s.factors ++ f ∷ []) ++ b ∷ []))) (b == 42) _ _
      (λ e. (
        ap (λ (x : ℕ). before_term s.terms s.is_negative ++ (product_text s.coefficient (s.factors ++ f ∷ []) ++ x ∷ [])) (star e),
        (with_factor_whole n short, λ none. absurd (not_empty s.factors f none)),
      ))
      (λ _. next_term_reads (with_factor s v n) (with_factor_whole n short) b))
    where
      star : b == 42 ≡ true → 42 ≡ b
      star e = grind (arith, nat_tests)

      not_empty : (fs : List Factor) (f : Factor) → ¬ (fs ++ f ∷ [] ≡ [])
      not_empty fs f e = let l = length-append fs (f ∷ []) in let z = ap length e in omega (arith, l, z)

  -- after a variable
  after_variable_reads : (b : ℕ) → IfSome (after_variable s v b) (Reads (before_term s.terms s.is_negative ++ ((before_factor s.coefficient s.factors ++ variable_text v) ++ b ∷ [])))
  unfolding after_variable
  after_variable_reads b =
      if_some (Reads (before_term s.terms s.is_negative ++ ((before_factor s.coefficient s.factors ++ variable_text v) ++ b ∷ []))) (b == 94) _ _
      (λ e. (
        ap (λ (l : List ℕ). before_term s.terms s.is_negative ++ l) (ap (λ (x : ℕ). before_factor s.coefficient s.factors ++ (variable_text v ++ x ∷ [])) (hat e) ∙ sym (append_assoc (before_factor s.coefficient s.factors) (variable_text v) (b ∷ []))),
        (h, is),
      ))
      (λ _. subst (λ (l : List ℕ). IfSome (after_factor (with_factor s v 1) b) (Reads (before_term s.terms s.is_negative ++ ((before_factor s.coefficient s.factors ++ l) ++ b ∷ [])))) (append-nil (variable_text v)) (after_factor_reads 1 b (omega arith, omega arith)))
    where
      hat : b == 94 ≡ true → 94 ≡ b
      hat e = grind (arith, nat_tests)

-- one byte more
abbrev pub Adds : State → ℕ → State → Type 0
Adds s b s' = Reads (read s ++ b ∷ []) s'

-- the bytes before the term at hand and those of it
joined : (a l : List ℕ) (b : ℕ) (P : List ℕ → Type 0) → P (a ++ (l ++ b ∷ [])) → P ((a ++ l) ++ b ∷ [])
joined a l b P h = subst P (sym (append_assoc a l (b ∷ []))) h

module _ (s : State) (h : IsWhole s) where
  in_start_adds : IsStage Start s → (b : ℕ) → IfSome (in_start s b) (Reads (b ∷ []))
  unfolding in_start
  in_start_adds i b =
      if_some (Reads (b ∷ [])) (b == 48) _ _
      (λ e. (ap (λ (l : List ℕ). l ++ 48 ∷ []) nothing ∙ ap (λ (x : ℕ). x ∷ []) (grind (arith, nat_tests)), (h, (i.0, i.1))))
      (λ _. if_some (Reads (b ∷ [])) (b == 45) _ _
      (λ e. (append-nil _ ∙ ap (λ (l : List Term). before_term l true) i.0 ∙ ap (λ (x : ℕ). x ∷ []) (grind (arith, nat_tests)), (h, (i.2, i.3))))
      (λ _. subst (λ (l : List ℕ). IfSome (term_start s b) (Reads (l ++ b ∷ []))) nothing (term_start_reads s h b i.2 i.3)))
    where
      nothing : before_term s.terms s.is_negative ≡ []
      nothing = ap₂ before_term i.0 i.1

  in_coefficient_adds : IsStage Coefficient s → (b : ℕ) → IfSome (in_coefficient s b) (Reads (before_term s.terms s.is_negative ++ (decimal s.coefficient ++ b ∷ [])))
  unfolding in_coefficient
  in_coefficient_adds none b =
      let P = Reads (before_term s.terms s.is_negative ++ (decimal s.coefficient ++ b ∷ [])) in
      if_some P (is_ascii_digit b) _ _
      (λ _. bind_some (Grown s.coefficient b) P (grown s.coefficient b) (λ n. Some (record s { coefficient = n; stage = Coefficient })) (grown_digit s.coefficient b h.coefficient)
      (λ n g. (ap (λ (l : List ℕ). before_term s.terms s.is_negative ++ l) g.0, (record { terms = h.terms; coefficient = g.1; factors = h.factors }, none))))
      (λ _. if_some P (b == 42) _ _
      (λ e. if_some P (s.coefficient == 1) None (Some (in_stage s Starred)) (λ _. tt)
      (λ more. (ap (λ (l : List ℕ). before_term s.terms s.is_negative ++ l) (ap₂ (λ (l : List ℕ) (x : ℕ). l ++ x ∷ []) alone (star e)), (h, λ _. more))))
      (λ _. subst (λ (l : List ℕ). IfSome (next_term s b) (Reads (before_term s.terms s.is_negative ++ (l ++ b ∷ [])))) alone (next_term_reads s h b)))
    where
      alone : product_text s.coefficient s.factors ≡ decimal s.coefficient
      alone = ap (product_text s.coefficient) none

      star : b == 42 ≡ true → 42 ≡ b
      star e = grind (arith, nat_tests)

  in_name_adds : (w : List ℕ) → IsNameFront w → (b : ℕ) → IfSome (in_name w s b) (Reads (before_term s.terms s.is_negative ++ ((before_factor s.coefficient s.factors ++ w) ++ b ∷ [])))
  unfolding in_name
  in_name_adds w front b =
      let P = Reads (before_term s.terms s.is_negative ++ ((before_factor s.coefficient s.factors ++ w) ++ b ∷ [])) in
      if_some P (is_name_byte b) _ _
      (λ e. (ap (λ (l : List ℕ). before_term s.terms s.is_negative ++ l) (sym (append_assoc (before_factor s.coefficient s.factors) w (b ∷ []))), (h, longer e)))
      (λ _. if_some P (is_reserved w) _ _ (λ _. tt) (λ e. after_variable_reads s h (Named w) (name e) b))
    where
      longer : is_name_byte b ≡ true → IsNameFront (w ++ b ∷ [])
      longer e = record { first = front.first; others = front.others ++ b ∷ []; is = ap (λ (l : List ℕ). l ++ b ∷ []) front.is; letter = front.letter; bytes = all_more front.others b front.bytes e }

      name : is_reserved w ≡ false → IsTrue (is_name w)
      name e = whole_name w front e

  in_index_adds : (m : Mark) (n : ℕ) → IsShort n → (b : ℕ) → IfSome (in_index m n s b) (Reads (before_term s.terms s.is_negative ++ ((before_factor s.coefficient s.factors ++ variable_text (Marked m n)) ++ b ∷ [])))
  unfolding in_index
  in_index_adds m n short b =
      let P = Reads (before_term s.terms s.is_negative ++ ((before_factor s.coefficient s.factors ++ variable_text (Marked m n)) ++ b ∷ [])) in
      if_some P (is_ascii_digit b) _ _
      (λ _. bind_some (Grown n b) P (grown n b) (λ n'. Some (in_stage s (Index m n'))) (grown_digit n b short)
      (λ n' g. (ap (λ (l : List ℕ). before_term s.terms s.is_negative ++ l) (ap (λ (l : List ℕ). before_factor s.coefficient s.factors ++ mark_byte m ∷ l) g.0 ∙ sym (append_assoc (before_factor s.coefficient s.factors) (variable_text (Marked m n)) (b ∷ []))), (h, g.1))))
      (λ _. after_variable_reads s h (Marked m n) short b)

  in_exponent_adds : (v : Variable) (n : ℕ) → IsVariable v → IsShort n → (b : ℕ) → IfSome (in_exponent v n s b) (Reads (before_term s.terms s.is_negative ++ ((before_factor s.coefficient s.factors ++ (variable_text v ++ 94 ∷ decimal n)) ++ b ∷ [])))
  unfolding in_exponent
  in_exponent_adds v n is short b =
      let P = Reads (before_term s.terms s.is_negative ++ ((before_factor s.coefficient s.factors ++ (variable_text v ++ 94 ∷ decimal n)) ++ b ∷ [])) in
      if_some P (is_ascii_digit b) _ _
      (λ _. bind_some (Grown n b) P (grown n b) (λ n'. Some (in_stage s (Exponent v n'))) (grown_digit n b short)
      (λ n' g. (
        ap (λ (l : List ℕ). before_term s.terms s.is_negative ++ l)
            (ap (λ (l : List ℕ). before_factor s.coefficient s.factors ++ l) (ap (λ (l : List ℕ). variable_text v ++ 94 ∷ l) g.0 ∙ sym (append_assoc (variable_text v) (94 ∷ decimal n) (b ∷ [])))
            ∙ sym (append_assoc (before_factor s.coefficient s.factors) (variable_text v ++ 94 ∷ decimal n) (b ∷ []))),
        (h, (is, g.1)),
      )))
      (λ _. if_some P (n == 1) _ _ (λ _. tt)
      (λ e. subst (λ (l : List ℕ). IfSome (after_factor (with_factor s v n) b) (Reads (before_term s.terms s.is_negative ++ ((before_factor s.coefficient s.factors ++ (variable_text v ++ l)) ++ b ∷ [])))) (ap (λ (t : Bool). if t then [] else 94 ∷ decimal n) e) (after_factor_reads s h v is n b short)))

  in_starred_adds : IsStage Starred s → (b : ℕ) → IfSome (factor_start s b) (Reads (before_term s.terms s.is_negative ++ ((product_text s.coefficient s.factors ++ 42 ∷ []) ++ b ∷ [])))
  in_starred_adds more b = subst (λ (l : List ℕ). IfSome (factor_start s b) (Reads (before_term s.terms s.is_negative ++ (l ++ b ∷ [])))) (before s.coefficient s.factors more) (factor_start_reads s h b)
    where
      before : (c : ℕ) (fs : List Factor) → (fs ≡ [] → c == 1 ≡ false) → before_factor c fs ≡ product_text c fs ++ 42 ∷ []
      before c [] e = ap (λ (t : Bool). if t then [] else decimal c ++ 42 ∷ []) (e refl)
      before c (f ∷ fs) e = refl

  in_sign_adds : (m : Mark) (b : ℕ) → IfSome (first_digit b >>= λ n. Some (in_stage s (Index m n))) (Reads (before_term s.terms s.is_negative ++ ((before_factor s.coefficient s.factors ++ mark_byte m ∷ []) ++ b ∷ [])))
  in_sign_adds m b = bind_some (FirstDigit b) _ (first_digit b) (λ n. Some (in_stage s (Index m n))) (first_digit_value b)
      (λ n d. (ap (λ (l : List ℕ). before_term s.terms s.is_negative ++ l) (ap (λ (l : List ℕ). before_factor s.coefficient s.factors ++ mark_byte m ∷ l) d.0 ∙ sym (append_assoc (before_factor s.coefficient s.factors) (mark_byte m ∷ []) (b ∷ []))), (h, d.1)))

  in_raised_adds : (v : Variable) → IsVariable v → (b : ℕ) → IfSome (first_digit b >>= λ n. Some (in_stage s (Exponent v n))) (Reads (before_term s.terms s.is_negative ++ ((before_factor s.coefficient s.factors ++ (variable_text v ++ 94 ∷ [])) ++ b ∷ [])))
  in_raised_adds v is b = bind_some (FirstDigit b) _ (first_digit b) (λ n. Some (in_stage s (Exponent v n))) (first_digit_value b)
      (λ n d. (
        ap (λ (l : List ℕ). before_term s.terms s.is_negative ++ l)
            (ap (λ (l : List ℕ). before_factor s.coefficient s.factors ++ l) (ap (λ (l : List ℕ). variable_text v ++ 94 ∷ l) d.0 ∙ sym (append_assoc (variable_text v) (94 ∷ []) (b ∷ [])))
            ∙ sym (append_assoc (before_factor s.coefficient s.factors) (variable_text v ++ 94 ∷ []) (b ∷ []))),
        (h, (is, d.1)),
      ))

-- one byte more, in any stage
step_adds_in : (stage : Stage) (s : State) → IsWhole s → IsStage stage s → (b : ℕ) → IfSome (step_in stage s b) (Reads ((before_term s.terms s.is_negative ++ read_in stage s.coefficient s.factors) ++ b ∷ []))
unfolding step_in
step_adds_in Start s h i b = subst (λ (l : List ℕ). IfSome (in_start s b) (Reads ((l ++ []) ++ b ∷ []))) (sym (ap₂ before_term i.0 i.1)) (in_start_adds s h i b)
step_adds_in Zero s h i b = tt
step_adds_in Signed s h i b = subst (λ (l : List ℕ). IfSome (term_start s b) (Reads (l ++ b ∷ []))) (sym (append-nil _)) (term_start_reads s h b i.0 i.1)
step_adds_in Coefficient s h i b = joined _ _ b (λ l. IfSome (in_coefficient s b) (Reads l)) (in_coefficient_adds s h i b)
step_adds_in Starred s h i b = joined _ _ b (λ l. IfSome (factor_start s b) (Reads l)) (in_starred_adds s h i b)
step_adds_in (Name w) s h i b = joined _ _ b (λ l. IfSome (in_name w s b) (Reads l)) (in_name_adds s h w i b)
step_adds_in (Sign m) s h i b = joined _ _ b (λ l. IfSome (first_digit b >>= λ n. Some (in_stage s (Index m n))) (Reads l)) (in_sign_adds s h m b)
step_adds_in (Index m n) s h i b = joined _ _ b (λ l. IfSome (in_index m n s b) (Reads l)) (in_index_adds s h m n i b)
step_adds_in (Raised v) s h i b = joined _ _ b (λ l. IfSome (first_digit b >>= λ n. Some (in_stage s (Exponent v n))) (Reads l)) (in_raised_adds s h v i b)
step_adds_in (Exponent v n) s h i b = joined _ _ b (λ l. IfSome (in_exponent v n s b) (Reads l)) (in_exponent_adds s h v n i.0 i.1 b)

pub step_adds : (s : State) → IsState s → (b : ℕ) → IfSome (step s b) (Adds s b)
step_adds s h b = step_adds_in s.stage s h.0 h.1 b
