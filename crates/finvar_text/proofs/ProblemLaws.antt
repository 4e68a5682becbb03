-- What the program makes of a tree is sound, and has the tree's problem; bytes set one problem, or have one fault.
use Rattle.std.proofs.Common.{◌≡◌, ◌∙◌, ℕ, ◌<◌, ◌≤◌, true, List, [], ◌∷◌, length, map, Some, None, refl, sym, ap, subst, inl, inr, arith}
use Rattle.std.specs.Prelude.{All, Option, nat_le}
use Rattle.std.proofs.lemmas.Bool.{leb-true}
use Rattle.std.proofs.lemmas.List.{length-map}
use Rattle.std.proofs.lemmas.List.Elements.{All-nil, All-cons, All-head, All-tail}
use Rattle.std.proofs.lemmas.Option.{same_Some}
use Rattle.alg_core.specs.declared.input_fault.InputFault.{InputFault}
use Rattle.lin_algebra.specs.declared.matrix.Matrix as lin
use Rattle.prime_field.specs.ListedPrimes.{is_listed}
use Rattle.finvar_text.specs.Conditions.{value, cells, generators, some_matrix, value_conditions, first_of, FirstSingular, FaultFrom, HasFault}
use Rattle.finvar_text.specs.Problems.{Problem, problem_of, problem_in, IsProblemText, IsGenerator, IsSound}
use Rattle.finvar_text.specs.Scripts.{most_bytes, generator, sized_cells, IsInvertible, IsInputFault, IsScriptOf}
use Rattle.finvar_text.specs.Syntax.{Matrix, Script as Tree, IsSome, IsScript, IsText, IsFirstFault}
use Rattle.finvar_text.specs.declared.script.Script.{Script}
use Rattle.finvar_text.proofs.Scans.{text_unique}
use Rattle.finvar_text.proofs.ScriptSteps.{or_none}
use Rattle.finvar_text.proofs.SingularSteps.{fault_none}

-- where no fault is told, no condition on the values fails

no_first : (o : Option InputFault) (t : Tree) → FaultFrom o t None → o ≡ None
no_first None t h = refl
no_first (Some f) t h = absurd cc

nones : (fs : List (Option InputFault)) → first_of fs ≡ None → All (λ f. f ≡ None) fs
nones [] e = All-nil (λ f. f ≡ None)
nones (f ∷ fs) e = let parts = or_none f (first_of fs) e in All-cons (λ f. f ≡ None) f fs parts.0 (nones fs parts.1)

no_fault : (t : Tree) → HasFault t None → All (λ f. f ≡ None) (value_conditions t)
no_fault t fault = nones (value_conditions t) (no_first (first_of (value_conditions t)) t fault)

some_length : {A : Type 0} (xs : List A) → IsSome xs → 1 ≤ length xs
some_length [] h = absurd h
some_length (x ∷ xs) h = omega arith

some_matrix-some : (ms : List Matrix) → some_matrix ms ≡ None → 0 < length ms
some_matrix-some [] e = absurd cc
some_matrix-some (m ∷ ms) e = omega arith

-- the matrices of the program and those of the tree

gens_are : (p n : ℕ) (gs : List (lin.Matrix ℕ)) (ms : List Matrix) → map sized_cells gs ≡ map (generator p n) ms → All (IsInvertible p) gs → All (IsGenerator p n) gs
gens_are p n [] ms same over = All-nil (IsGenerator p n)
gens_are p n (g ∷ gs) [] same over = absurd cc
gens_are p n (g ∷ gs) (m ∷ ms) same over =
    let first : sized_cells g ≡ generator p n m = cc in
    let rest : map sized_cells gs ≡ map (generator p n) ms = cc in
    All-cons (IsGenerator p n) g gs (record { rows = ap (λ (x : ℕ × ℕ × List ℕ). x.0) first; invertible = All-head (IsInvertible p) g gs over }) (gens_are p n gs ms rest (All-tail (IsInvertible p) g gs over))

cells_are : (p n : ℕ) (gs : List (lin.Matrix ℕ)) (ms : List Matrix) → map sized_cells gs ≡ map (generator p n) ms → map (λ (g : lin.Matrix ℕ). g.cells.items) gs ≡ map (cells p) ms
cells_are p n [] [] same = refl
cells_are p n [] (m ∷ ms) same = absurd cc
cells_are p n (g ∷ gs) [] same = absurd cc
cells_are p n (g ∷ gs) (m ∷ ms) same =
    let first : sized_cells g ≡ generator p n m = cc in
    let rest : map sized_cells gs ≡ map (generator p n) ms = cc in
    let here : g.cells.items ≡ cells p m = ap (λ (x : ℕ × ℕ × List ℕ). x.2) first in
    let more = cells_are p n gs ms rest in
    cc

pub problem_is : (t : Tree) (r : Script) → IsScriptOf t r → problem_in r ≡ problem_of t
problem_is t r is =
    let cells_same = cells_are (value t.characteristic) (length t.variables) r.gens.items (generators t) is.gens in
    λ i. record { characteristic = is.characteristic i; variables = is.names i; generators = cells_same i }

pub sound_is : (t : Tree) (r : Script) → IsScript t → HasFault t None → IsScriptOf t r → All (IsInvertible r.characteristic) r.gens.items → IsSound r
sound_is t r tree fault is over =
    let none = no_fault t fault in
    let many : length r.names.items ≡ length t.variables = ap length is.names in
    let listed : is_listed (value t.characteristic) ≡ true = fault_none (is_listed (value t.characteristic)) _ (none 1 None (omega arith)) in
    let few : length t.variables ≤ 8 = leb-true _ _ (fault_none (nat_le (length t.variables) 8) _ (none 2 None (omega arith))) in
    let some : 1 ≤ length t.variables = some_length t.variables tree.some in
    let generated : 0 < length (generators t) = some_matrix-some (generators t) (none 6 None (omega arith)) in
    let sized : map sized_cells r.gens.items ≡ map (generator r.characteristic (length r.names.items)) (generators t) =
    is.gens ∙ ap (λ (p : ℕ). map (generator p (length t.variables)) (generators t)) (sym is.characteristic) ∙ ap (λ (n : ℕ). map (generator r.characteristic n) (generators t)) (sym many) in
    record {
      listed = subst (λ (p : ℕ). is_listed p ≡ true) (sym is.characteristic) listed;
      some = subst (λ (n : ℕ). 1 ≤ n) (sym many) some;
      few = subst (λ (n : ℕ). n ≤ 8) (sym many) few;
      generated = omega (arith, generated, ap length is.gens, length-map r.gens.items sized_cells, length-map (generators t) (generator (value t.characteristic) (length t.variables)));
      gens = gens_are r.characteristic (length r.names.items) r.gens.items (generators t) sized over;
    }

-- a tree has one first fault

first_singular : (p n : ℕ) (ms : List Matrix) (f g : Option InputFault) → FirstSingular p n ms f → FirstSingular p n ms g → f ≡ g
first_singular p n [] f g h k = h ∙ sym k
first_singular p n (m ∷ ms) f g (inl h) (inl k) = first_singular p n ms f g h.1 k.1
first_singular p n (m ∷ ms) f g (inl h) (inr k) = absurd (k.0 h.0)
first_singular p n (m ∷ ms) f g (inr h) (inl k) = absurd (h.0 k.0)
first_singular p n (m ∷ ms) f g (inr h) (inr k) = h.1 ∙ sym k.1

fault_from : (o : Option InputFault) (t : Tree) (f g : Option InputFault) → FaultFrom o t f → FaultFrom o t g → f ≡ g
fault_from (Some e) t f g h k = h ∙ sym k
fault_from None t f g h k = first_singular (value t.characteristic) (length t.variables) (generators t) f g h k

pub fault_unique : (t : Tree) (f g : Option InputFault) → HasFault t f → HasFault t g → f ≡ g
fault_unique t f g h k = fault_from (first_of (value_conditions t)) t f g h k

fault_in : (bytes : List ℕ) (s t : Tree) (f g : Option InputFault) → IsText s bytes → HasFault s f → IsText t bytes → HasFault t g → f ≡ g
fault_in bytes s t f g first h second k = fault_unique t f g (subst (λ (x : Tree). HasFault x f) (text_unique bytes s t first second) h) k

-- bytes set one problem, or have one fault

pub problem_unique : (bytes : List ℕ) (q r : Problem) → IsProblemText bytes q → IsProblemText bytes r → q ≡ r
problem_unique bytes q r h k = h.problem ∙ ap problem_of (text_unique bytes h.tree k.tree h.text k.text) ∙ sym k.problem

pub place_unique : (bytes : List ℕ) (m n : ℕ) → IsFirstFault bytes m → IsFirstFault bytes n → m ≡ n
place_unique bytes m n h k =
    let up = (h.longest n k.within).0 ((k.longest n k.within).1 (omega arith)) in
    let down = (k.longest m h.within).0 ((h.longest m h.within).1 (omega arith)) in
    omega (arith, up, down)

pub input_unique : (bytes : List ℕ) (f g : InputFault) → IsInputFault bytes f → IsInputFault bytes g → f ≡ g
input_unique bytes f g (inl h) (inl k) = h.1 ∙ sym k.1
input_unique bytes f g (inl h) (inr k) = let long = h.0 in let short = k.0 in absurd (omega arith)
input_unique bytes f g (inr h) (inl k) = let long = k.0 in let short = h.0 in absurd (omega arith)
input_unique bytes f g (inr h) (inr k) = same_Some f g (fault_in bytes h.1 k.1 (Some f) (Some g) h.2 h.3 k.2 k.3)

pub input_no_problem : (bytes : List ℕ) (f : InputFault) (q : Problem) → IsInputFault bytes f → IsProblemText bytes q → ⊥
input_no_problem bytes f q (inl h) k = let long = h.0 in let short = k.short in omega arith
input_no_problem bytes f q (inr h) k = let same = fault_in bytes h.1 k.tree (Some f) None h.2 h.3 k.text k.values in absurd cc

pub input_no_place : (bytes : List ℕ) (f : InputFault) (n : ℕ) → length bytes ≤ most_bytes → IsInputFault bytes f → IsFirstFault bytes n → ⊥
input_no_place bytes f n short (inl h) k = let long = h.0 in omega arith
input_no_place bytes f n short (inr h) k = k.none h.1 h.2
