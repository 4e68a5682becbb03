-- The generators have names, the size that is wanted, and small numbers, and the first of them that has no inverse.
use Rattle.std.proofs.Common.{◌≡◌, ◌∙◌, ℕ, ◌+◌, ◌*◌, ◌<◌, Bool, true, false, ◌&&◌, List, [], ◌∷◌, ◌++◌, length, take, drop, map, get_or, Option, Some, None, cond, sym, ap, subst, refl, inl, inr, arith}
use Rattle.std.specs.Prelude.{All, IfSome}
use Rattle.std.specs.Borrow.{Bor}
use Rattle.std.specs.List.{flat_map, list_all}
use Rattle.std.specs.Option.{option_map, option_or}
use Rattle.std.specs.Str.{bytes_eq}
use Rattle.std.proofs.lemmas.Bool.Decides.{nat_tests}
use Rattle.std.proofs.lemmas.List.{get_or-map, length-map, drop_more, take_more, map-append}
use Rattle.std.proofs.lemmas.List.Elements.{All-nil, All-cons, All-tail}
use Rattle.alg_core.specs.declared.input_fault.InputFault.{InputFault}
use Rattle.alg_core.specs.declared.input_fault.InputFault.TheVariants as faults
use Rattle.finvar_text.specs.declared.syntax.EntryText.{EntryText}
use Rattle.finvar_text.specs.declared.syntax.MatrixText.{MatrixText}
use Rattle.finvar_text.specs.Conditions.{is_small, is_small_matrix, is_small_item, number_fault, size_fault, cells, has_size, first_misfit, matrices_of, matrices, named, put_first, select, generators, generators_by, the_call, IsNonsingularModulo, FirstSingular}
use Rattle.finvar_text.specs.Scripts.{generator, IsFitting}
use Rattle.finvar_text.specs.Syntax.{Call, Item, Lib, Declared, Printed, Called, Entry, Matrix, Script, IsItem, IsScript}
use Rattle.finvar_text.specs.Trees.{entry_of, entries_of, matrix_of, matrices_at}

passes : {A : Type 0} (b : Bool) (o : Option A) (x : A) → cond b o (Some x) ≡ None → (b ≡ true) × (o ≡ None)
passes true o x h = (refl, h)
passes false o x h = absurd cc

both : (a b : Bool) → (a && b) ≡ true → (a ≡ true) × (b ≡ true)
both true b h = (refl, h)
both false b h = absurd cc

all_small : (es : List Entry) → list_all (λ (e : Entry). is_small e.digits) es ≡ true → All (λ (e : Entry). is_small e.digits ≡ true) es
all_small [] h = All-nil (λ (e : Entry). is_small e.digits ≡ true)
all_small (e ∷ es) h =
    let parts = both (is_small e.digits) (list_all (λ (x : Entry). is_small x.digits) es) h in
    All-cons (λ (x : Entry). is_small x.digits ≡ true) e es parts.0 (all_small es parts.1)

-- the entry at a place
pub small_at : (es : List EntryText) (i : ℕ) (d : EntryText) → All (λ (e : Entry). is_small e.digits ≡ true) (entries_of es) → i < length es → is_small (get_or es i d).number.digits.now ≡ true
small_at es i d all below =
    let within : i < length (entries_of es) = subst (λ k. i < k) (sym (length-map es entry_of)) below in
    subst (λ (e : Entry). is_small e.digits ≡ true) (get_or-map entry_of es i d (entry_of d) below) (all i (entry_of d) within)

fitting_matrices : (n : ℕ) (is : List Item) → All IsItem is → list_all is_small_item is ≡ true → first_misfit n (flat_map matrices_of is) ≡ None → All (IsFitting n) (flat_map matrices_of is)
fitting_matrices n [] all small h = All-nil (IsFitting n)
fitting_matrices n (Lib w ∷ is) all small h = fitting_matrices n is (All-tail IsItem (Lib w) is all) small h
fitting_matrices n (Declared m ∷ is) all small h =
    let p = passes (has_size n m) (first_misfit n (flat_map matrices_of is)) m.name h in
    let q = both (is_small_matrix m) (list_all is_small_item is) small in
    let r = both (is_small m.rows) (is_small m.cols && list_all (λ (e : Entry). is_small e.digits) m.entries) q.0 in
    let t = both (is_small m.cols) (list_all (λ (e : Entry). is_small e.digits) m.entries) r.1 in
    All-cons (IsFitting n) m (flat_map matrices_of is) (record { name = (all 0 (Declared m) (omega arith)).name; size = p.0; small = all_small m.entries t.1 })
    (fitting_matrices n is (All-tail IsItem (Declared m) is all) q.1 p.1)
fitting_matrices n (Printed name word ∷ is) all small h = fitting_matrices n is (All-tail IsItem (Printed name word) is all) small h
fitting_matrices n (Called c ∷ is) all small h = fitting_matrices n is (All-tail IsItem (Called c) is all) small h

module _ (P : Matrix → Type 0) where
  either : (o p : Option Matrix) → IfSome o P → IfSome p P → IfSome (option_or o p) P
  either None p h k = k
  either (Some m) p h k = h

  where_true : (b : Bool) (m : Matrix) → P m → IfSome (cond b (Some m) None) P
  where_true true m h = h
  where_true false m h = tt

  named_has : (ms : List Matrix) (w : List ℕ) → All P ms → IfSome (named ms w) P
  named_has [] w all = tt
  named_has (m ∷ ms) w all = either (named ms w) (cond (bytes_eq m.name w) (Some m) None) (named_has ms w (All-tail P m ms all)) (where_true (bytes_eq m.name w) m (all 0 m (omega arith)))

  put_has : (o : Option Matrix) (ms : List Matrix) → IfSome o P → All P ms → All P (put_first o ms)
  put_has None ms h all = all
  put_has (Some m) ms h all = All-cons P m ms h all

  select_has : (ms : List Matrix) (ws : List (List ℕ)) → All P ms → All P (select ms ws)
  select_has ms [] all = All-nil P
  select_has ms (w ∷ ws) all = put_has (named ms w) (select ms ws) (named_has ms w all) (select_has ms ws all)

  by_has : (o : Option Call) (ms : List Matrix) → All P ms → All P (generators_by o ms)
  by_has None ms all = all
  by_has (Some c) ms all = select_has ms c.arguments all

pub fault_none : (b : Bool) (f : InputFault) → cond b None (Some f) ≡ None → b ≡ true
fault_none true f e = refl
fault_none false f e = absurd cc

name_none : (o : Option (List ℕ)) (f : List ℕ → InputFault) → option_map f o ≡ None → o ≡ None
name_none None f e = refl
name_none (Some w) f e = absurd cc

pub generators_fitting : (s : Script) → IsScript s → number_fault s ≡ None → size_fault s ≡ None → All (IsFitting (length s.variables)) (generators s)
unfolding generators
generators_fitting s is numbers sizes =
    let small = both (is_small s.characteristic) (list_all is_small_item s.items) (fault_none _ faults.Number numbers) in
    by_has (IsFitting (length s.variables)) (the_call s.items) (matrices s)
    (fitting_matrices (length s.variables) s.items is.items small.1 (name_none _ (λ w. faults.Size w) sizes))

-- the generator at a place
pub fitting_at : (n : ℕ) (xs : List (Bor MatrixText)) (i : ℕ) (d : Bor MatrixText) → All (IsFitting n) (matrices_at xs) → i < length xs → IsFitting n (matrix_of (get_or xs i d).now)
fitting_at n xs i d all below =
    let within : i < length (matrices_at xs) = subst (λ k. i < k) (sym (length-map xs (λ (m : Bor MatrixText). matrix_of m.now))) below in
    subst (IsFitting n) (get_or-map (λ (m : Bor MatrixText). matrix_of m.now) xs i d (matrix_of d.now) below) (all i (matrix_of d.now) within)

pub size_entries : (n : ℕ) (m : MatrixText) → IsFitting n (matrix_of m) → length m.entries.items ≡ n * n
size_entries n m h =
    let size = h.size in
    let long : length (matrix_of m).entries ≡ n * n = grind (arith, nat_tests) in
    sym (length-map m.entries.items _) ∙ long

-- one generator more
singular_here : (p n : ℕ) (xs : List (Bor MatrixText)) (i : ℕ) (d : Bor MatrixText) (fault : Option InputFault) → i < length xs
    → FirstSingular p n (matrix_of (get_or xs i d).now ∷ matrices_at (drop (i + 1) xs)) fault → FirstSingular p n (matrices_at (drop i xs)) fault
singular_here p n xs i d fault below h = subst (λ l. FirstSingular p n (matrices_at l) fault) (sym (drop_more xs i d below)) h

pub singular_step : (p n : ℕ) (xs : List (Bor MatrixText)) (i : ℕ) (d : Bor MatrixText) (fault : Option InputFault) → i < length xs
    → IsNonsingularModulo p n (cells p (matrix_of (get_or xs i d).now)) → FirstSingular p n (matrices_at (drop (i + 1) xs)) fault → FirstSingular p n (matrices_at (drop i xs)) fault
singular_step p n xs i d fault below has rest = singular_here p n xs i d fault below (inl (has, rest))

pub singular_found : (p n : ℕ) (xs : List (Bor MatrixText)) (i : ℕ) (d : Bor MatrixText) (w : List ℕ) → i < length xs
    → (¬ IsNonsingularModulo p n (cells p (matrix_of (get_or xs i d).now))) → w ≡ (get_or xs i d).now.name.now → FirstSingular p n (matrices_at (drop i xs)) (Some (faults.Singular w))
singular_found p n xs i d w below none name = singular_here p n xs i d (Some (faults.Singular w)) below (inr (none, ap (λ v. Some (faults.Singular v)) name))

pub generators_more : (p n : ℕ) (xs : List (Bor MatrixText)) (i : ℕ) (d : Bor MatrixText) → i < length xs
    → map (generator p n) (matrices_at (take (i + 1) xs)) ≡ map (generator p n) (matrices_at (take i xs)) ++ generator p n (matrix_of (get_or xs i d).now) ∷ []
generators_more p n xs i d below =
    ap (λ l. map (generator p n) (matrices_at l)) (take_more xs i d below)
    ∙ ap (map (generator p n)) (map-append (λ (m : Bor MatrixText). matrix_of m.now) (take i xs) (get_or xs i d ∷ []))
    ∙ map-append (generator p n) (matrices_at (take i xs)) (matrix_of (get_or xs i d).now ∷ [])
