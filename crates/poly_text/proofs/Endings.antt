-- Where a text may end, and that each state is that of the front of a text.
use Rattle.std.proofs.Common.{◌≡◌, ℕ, Bool, true, false, List, [], ◌∷◌, ◌++◌, length, get_or, Option, Some, None, if◌then◌else◌, sym, ap, ap₂, ◌∙◌, refl, subst, arith}
use Rattle.std.specs.Prelude.{decimal, ◌==◌, ◌||◌, IfSome}
use Rattle.std.specs.Bool.{Decides}
use Rattle.std.specs.Str.{bytes_eq}
use Rattle.std.proofs.lemmas.Slice.Eq.{bytes_eq-Decides}
use Rattle.std.proofs.Math.Seq.{get_or-append_seam}
use Rattle.std.proofs.lemmas.Bool.Decides.{nat_tests}
use Rattle.std.proofs.lemmas.List.Elements.{All-push, All-nil}
use Rattle.std.proofs.lemmas.List.{append_assoc, length-append}
use mathlib.Core.List.{append-nil}
use Rattle.alg_core.specs.Names.{is_reserved}
use Rattle.poly_text.specs.Syntax.{Variable, Named, Marked, Factor, Term, variable_text, factor_text, product_text, IsShort, IsVariable, IsFactor, IsTerm, IsText, IsFront}
use Rattle.poly_text.specs.Scanning.{State, Stage, Start, Zero, Signed, Coefficient, Starred, Name, Sign, Index, Raised, Exponent, closed, with_factor, in_start, in_name, in_exponent, term_start, factor_start, step_in, step, finish, finish_in}
use Rattle.poly_text.proofs.Fronts.{before_factor, before_term, product_more, spelling_more}
use Rattle.poly_text.proofs.Steps.{IsWhole, IsStage, IsState, read, read_in, Adds, if_some, whole_name, step_adds}

-- the tree of the bytes
abbrev Ends : List ℕ → List Term → Type 0
Ends bytes ts = IsText ts bytes

module _ (s : State) (h : IsWhole s) where
  -- the terms with the one at hand
  pub closed_text : IsText (closed s false).terms (before_term s.terms s.is_negative ++ product_text s.coefficient s.factors)
  closed_text = record {
    terms = All-push IsTerm s.terms (record { is_negative = s.is_negative; coefficient = s.coefficient; factors = s.factors }) h.terms (record { coefficient = h.coefficient; factors = h.factors });
    spelled = spelling_more s.terms (record { is_negative = s.is_negative; coefficient = s.coefficient; factors = s.factors });
  }

module _ (s : State) (h : IsWhole s) (v : Variable) (n : ℕ) (is : IsVariable v) (short : IsShort n) where
  -- with a factor more
  factor_ends : IsText (closed (with_factor s v n) false).terms (before_term s.terms s.is_negative ++ (before_factor s.coefficient s.factors ++ factor_text (record { variable = v; exponent = n })))
  factor_ends = subst (λ (l : List ℕ). IsText (closed (with_factor s v n) false).terms (before_term s.terms s.is_negative ++ l)) (product_more s.coefficient s.factors (record { variable = v; exponent = n }))
      (closed_text (with_factor s v n) (record {
        terms = h.terms;
        coefficient = h.coefficient;
        factors = All-push IsFactor s.factors (record { variable = v; exponent = n }) h.factors (record { variable = is; exponent = short });
      }))

one_short : IsShort 1
one_short = (omega arith, omega arith)

-- an exponent 1 is not written
plain_ends : (s : State) → IsWhole s → (v : Variable) → IsVariable v → IsText (closed (with_factor s v 1) false).terms (before_term s.terms s.is_negative ++ (before_factor s.coefficient s.factors ++ variable_text v))
plain_ends s h v is = subst (λ (l : List ℕ). IsText (closed (with_factor s v 1) false).terms (before_term s.terms s.is_negative ++ (before_factor s.coefficient s.factors ++ l))) (append-nil (variable_text v)) (factor_ends s h v 1 is one_short)

finish_text_in : (stage : Stage) (s : State) → IsWhole s → IsStage stage s → IfSome (finish_in stage s) (Ends (before_term s.terms s.is_negative ++ read_in stage s.coefficient s.factors))
finish_text_in Start s h i = tt
finish_text_in Zero s h i = subst (λ (l : List Term). IsText l (before_term s.terms s.is_negative ++ 48 ∷ [])) (sym i.0) (subst (λ (l : List ℕ). IsText [] (l ++ 48 ∷ [])) (sym (ap₂ before_term i.0 i.1)) (record { terms = All-nil IsTerm; spelled = refl }))
finish_text_in Signed s h i = tt
finish_text_in Coefficient s h i = subst (λ (l : List ℕ). IsText (closed s false).terms (before_term s.terms s.is_negative ++ l)) (ap (product_text s.coefficient) i) (closed_text s h)
finish_text_in Starred s h i = tt
finish_text_in (Name w) s h i = if_some (Ends (before_term s.terms s.is_negative ++ (before_factor s.coefficient s.factors ++ w))) (is_reserved w) _ _ (λ _. tt) (λ e. plain_ends s h (Named w) (whole_name w i e))
finish_text_in (Sign m) s h i = tt
finish_text_in (Index m n) s h i = plain_ends s h (Marked m n) i
finish_text_in (Raised v) s h i = tt
finish_text_in (Exponent v n) s h i = if_some (Ends (before_term s.terms s.is_negative ++ (before_factor s.coefficient s.factors ++ (variable_text v ++ 94 ∷ decimal n)))) (n == 1) _ _ (λ _. tt)
    (λ e. subst (λ (l : List ℕ). IsText (closed (with_factor s v n) false).terms (before_term s.terms s.is_negative ++ (before_factor s.coefficient s.factors ++ (variable_text v ++ l)))) (ap (λ (t : Bool). if t then [] else 94 ∷ decimal n) e) (factor_ends s h v n i.0 i.1))

-- where the scanner may stop, the tree is that of what it read
pub finish_text : (s : State) → IsState s → IfSome (finish s) (Ends (read s))
finish_text s h = finish_text_in s.stage s h.0 h.1

-- the front of a text
front_finished : (s : State) → IsState s → (ts : List Term) → finish s ≡ Some ts → IsFront (read s)
front_finished s h ts e =
    let t = subst (λ (o : Option (List Term)). IfSome o (Ends (read s))) e (finish_text s h) in
    ([], ts, subst (IsText ts) (sym (append-nil (read s))) t)

-- a front after one byte more is one before it
front_before : (s : State) → IsState s → (b : ℕ) (s' : State) → step s b ≡ Some s' → (IsState s' → IsFront (read s')) → IsFront (read s)
front_before s h b s' e after =
    let a = subst (λ (o : Option State). IfSome o (Adds s b)) e (step_adds s h b) in
    let f = after a.1 in
    (b ∷ f.0, f.1, subst (IsText f.1) (ap (λ (l : List ℕ). l ++ f.0) a.0 ∙ append_assoc (read s) (b ∷ []) f.0) f.2)

-- a word that ends in another byte is another word
ends_apart : (w l : List ℕ) (b x : ℕ) → ¬ (b ≡ x) → bytes_eq (w ++ b ∷ []) (l ++ x ∷ []) ≡ false
ends_apart w l b x n = go (bytes_eq (w ++ b ∷ []) (l ++ x ∷ [])) (bytes_eq-Decides (w ++ b ∷ []) (l ++ x ∷ []))
  where
    same : w ++ b ∷ [] ≡ l ++ x ∷ [] → b ≡ x
    same e =
        let lengths : length w ≡ length l = omega (arith, ap length e, length-append w (b ∷ []), length-append l (x ∷ [])) in
        sym (get_or-append_seam w b [] 0) ∙ ap₂ (λ (m : List ℕ) (i : ℕ). get_or m i 0) e lengths ∙ get_or-append_seam l x [] 0

    go : (t : Bool) → Decides t (w ++ b ∷ [] ≡ l ++ x ∷ []) → t ≡ false
    go false d = refl
    go true d = absurd (n (same (d.0 refl)))

-- no reserved word ends in a digit
reserved_longer : (w : List ℕ) → is_reserved (w ++ 48 ∷ []) ≡ false
reserved_longer w =
    ap₂ (λ (t u : Bool). t || u) (ends_apart w (76 ∷ 73 ∷ []) 48 66 (λ e. omega (arith, e)))
    (ap₂ (λ (t u : Bool). t || u) (ends_apart w (114 ∷ 105 ∷ 110 ∷ []) 48 103 (λ e. omega (arith, e)))
    (ap₂ (λ (t u : Bool). t || u) (ends_apart w (109 ∷ 97 ∷ 116 ∷ 114 ∷ 105 ∷ []) 48 120 (λ e. omega (arith, e)))
    (ap₂ (λ (t u : Bool). t || u) (ends_apart w (112 ∷ 114 ∷ 105 ∷ 110 ∷ []) 48 116 (λ e. omega (arith, e)))
    (ap₂ (λ (t u : Bool). t || u) (ends_apart w (105 ∷ 110 ∷ 118 ∷ 97 ∷ 114 ∷ 105 ∷ 97 ∷ 110 ∷ 116 ∷ 95 ∷ 114 ∷ 105 ∷ 110 ∷ []) 48 103 (λ e. omega (arith, e)))
    (ends_apart w (100 ∷ []) 48 112 (λ e. omega (arith, e)))))))

module _ (ts : List Term) (sign : Bool) (c : ℕ) (fs : List Factor) where
  -- in a stage
  abbrev at : Stage → State
  at stage = record { terms = ts; is_negative = sign; coefficient = c; factors = fs; stage = stage }

  name_front : (w : List ℕ) → IsState (at (Name w)) → (t : Bool) → is_reserved w ≡ t → IsFront (read (at (Name w)))
  unfolding step_in in_name
  name_front w i false e = front_finished (at (Name w)) i _ (ap (λ (t : Bool). if t then None else Some (closed (with_factor (at (Name w)) (Named w) 1) false).terms) e)
  name_front w i true e = front_before (at (Name w)) i 48 (at (Name (w ++ 48 ∷ []))) refl
      (λ j. front_finished (at (Name (w ++ 48 ∷ []))) j _ (ap (λ (t : Bool). if t then None else Some (closed (with_factor (at (Name (w ++ 48 ∷ []))) (Named (w ++ 48 ∷ [])) 1) false).terms) (reserved_longer w)))

  exponent_front : (v : Variable) (n : ℕ) → IsState (at (Exponent v n)) → (t : Bool) → n == 1 ≡ t → IsFront (read (at (Exponent v n)))
  unfolding step_in in_exponent
  exponent_front v n i false e = front_finished (at (Exponent v n)) i _ (ap (λ (t : Bool). if t then None else Some (closed (with_factor (at (Exponent v n)) v n) false).terms) e)
  exponent_front v n i true e =
      let one : 1 ≡ n = grind (arith, nat_tests) in
      subst (λ (m : ℕ). IsState (at (Exponent v m)) → IsFront (read (at (Exponent v m)))) one
      (λ j. front_before (at (Exponent v 1)) j 48 (at (Exponent v 10)) refl (λ k. front_finished (at (Exponent v 10)) k _ refl)) i

  front_in : (stage : Stage) → IsState (at stage) → IsFront (read (at stage))
  unfolding step_in in_start term_start factor_start
  front_in Start i = front_before (at Start) i 48 (at Zero) refl (λ j. front_finished (at Zero) j _ refl)
  front_in Zero i = front_finished (at Zero) i _ refl
  front_in Signed i = front_before (at Signed) i 49 (record (at Coefficient) { coefficient = 1 }) refl (λ j. front_finished (record (at Coefficient) { coefficient = 1 }) j _ refl)
  front_in Coefficient i = front_finished (at Coefficient) i _ refl
  front_in Starred i = front_before (at Starred) i 97 (at (Name (97 ∷ []))) refl (λ j. front_finished (at (Name (97 ∷ []))) j _ refl)
  front_in (Name w) i = name_front w i (is_reserved w) refl
  front_in (Sign m) i = front_before (at (Sign m)) i 49 (at (Index m 1)) refl (λ j. front_finished (at (Index m 1)) j _ refl)
  front_in (Index m n) i = front_finished (at (Index m n)) i _ refl
  front_in (Raised v) i = front_before (at (Raised v)) i 50 (at (Exponent v 2)) refl (λ j. front_finished (at (Exponent v 2)) j _ refl)
  front_in (Exponent v n) i = exponent_front v n i (n == 1) refl

-- each state is that of the front of a text
pub state_front : (s : State) → IsState s → IsFront (read s)
state_front s i = front_in s.terms s.is_negative s.coefficient s.factors s.stage i
