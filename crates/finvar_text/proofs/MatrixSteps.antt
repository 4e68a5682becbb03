-- One matrix more, and one name more: which matrix a name has, and which matrices the names select.
use Rattle.std.proofs.Common.{◌≡◌, ◌∙◌, ℕ, ◌+◌, ◌<◌, Bool, true, false, ◌||◌, List, [], ◌∷◌, ◌++◌, length, take, get_or, Option, Some, None, cond, sym, ap, ap₂, refl}
use Rattle.std.specs.Borrow.{Bor}
use Rattle.std.specs.Map.{lookup}
use Rattle.std.specs.Option.{is_some, option_map, option_or}
use Rattle.std.specs.Str.{bytes_eq}
use Rattle.std.proofs.lemmas.List.{map-append, append-nil}
use Rattle.finvar_text.specs.declared.syntax.MatrixText.{MatrixText}
use Rattle.finvar_text.specs.Conditions.{is_among, named, select, put_first}
use Rattle.finvar_text.specs.Declarations.{MapsNames, names_in}
use Rattle.finvar_text.specs.Syntax.{Matrix}
use Rattle.finvar_text.specs.Trees.{bytes_of, matrix_of, matrices_at}
use Rattle.finvar_text.proofs.DeclarationSteps.{bytes_same, or_choice, words_more}

-- the last matrix
named_more : (ms : List Matrix) (m : Matrix) (w : List ℕ) → named (ms ++ m ∷ []) w ≡ cond (bytes_eq m.name w) (Some m) (named ms w)
named_more [] m w = refl
named_more (x ∷ ms) m w = ap (λ o. option_or o (cond (bytes_eq x.name w) (Some x) None)) (named_more ms m w) ∙ or_choice (bytes_eq m.name w) m (named ms w) (cond (bytes_eq x.name w) (Some x) None)

view_cond : (b : Bool) (m : Bor MatrixText) (o : Option (Bor MatrixText)) → option_map (λ (x : Bor MatrixText). matrix_of x.now) (cond b (Some m) o) ≡ cond b (Some (matrix_of m.now)) (option_map (λ (x : Bor MatrixText). matrix_of x.now) o)
view_cond true m o = refl
view_cond false m o = refl

some_or : {A : Type 0} (o : Option A) (b : Bool) (x : A) → is_some (option_or o (cond b (Some x) None)) ≡ (b || is_some o)
some_or None true x = refl
some_or None false x = refl
some_or (Some y) true x = refl
some_or (Some y) false x = refl

-- a matrix of this name
named_some : (ms : List Matrix) (w : List ℕ) → is_some (named ms w) ≡ is_among w (names_in ms)
named_some [] w = refl
named_some (m ∷ ms) w = some_or (named ms w) (bytes_eq m.name w) m ∙ ap₂ (λ a b. a || b) (bytes_same m.name w) (named_some ms w)

map_some : {A B : Type 0} (f : A → B) (o : Option A) → is_some (option_map f o) ≡ is_some o
map_some f None = refl
map_some f (Some x) = refl

pub maps_among : (entries : List (Bor (List ℕ) × Bor MatrixText)) (ms : List Matrix) (w : Bor (List ℕ)) → MapsNames entries ms
    → is_some (lookup (λ (x : Bor (List ℕ)). bytes_eq w.now x.now) entries) ≡ is_among w.now (names_in ms)
maps_among entries ms w maps = sym (map_some (λ (m : Bor MatrixText). matrix_of m.now) _) ∙ ap is_some (maps w) ∙ named_some ms w.now

pub maps_none : (entries : List (Bor (List ℕ) × Bor MatrixText)) → entries ≡ [] → MapsNames entries []
maps_none entries empty w = ap (λ (l : List (Bor (List ℕ) × Bor MatrixText)). option_map (λ (x : Bor MatrixText). matrix_of x.now) (lookup (λ (x : Bor (List ℕ)). bytes_eq w.now x.now) l)) empty

pub maps_more : (entries more : List (Bor (List ℕ) × Bor MatrixText)) (ms : List Matrix) (m : Bor MatrixText)
    → ((w : Bor (List ℕ)) → lookup (λ (x : Bor (List ℕ)). bytes_eq w.now x.now) more ≡ cond (bytes_eq m.now.name.now w.now) (Some m) (lookup (λ (x : Bor (List ℕ)). bytes_eq w.now x.now) entries))
    → MapsNames entries ms → MapsNames more (ms ++ matrix_of m.now ∷ [])
maps_more entries more ms m updates was w =
    let b = bytes_eq m.now.name.now w.now in
    let old = lookup (λ (x : Bor (List ℕ)). bytes_eq w.now x.now) entries in
    ap (λ o. option_map (λ (x : Bor MatrixText). matrix_of x.now) o) (updates w) ∙ view_cond b m old ∙ ap (cond b (Some (matrix_of m.now))) (was w) ∙ sym (named_more ms (matrix_of m.now) w.now)

put_append : (o : Option Matrix) (ms ns : List Matrix) → put_first o (ms ++ ns) ≡ put_first o ms ++ ns
put_append None ms ns = refl
put_append (Some m) ms ns = refl

-- the last name
pub select_more : (ms : List Matrix) (ws : List (List ℕ)) (w : List ℕ) → select ms (ws ++ w ∷ []) ≡ select ms ws ++ put_first (named ms w) []
select_more ms [] w = refl
select_more ms (x ∷ ws) w = ap (put_first (named ms x)) (select_more ms ws w) ∙ put_append (named ms x) (select ms ws) (put_first (named ms w) [])

pub selected_found : (ms : List Matrix) (selected more : List (Bor MatrixText)) (names : List (Bor (List ℕ))) (i : ℕ) (d : Bor (List ℕ)) (m : Bor MatrixText) → i < length names
    → more ≡ selected ++ m ∷ [] → named ms (get_or names i d).now ≡ Some (matrix_of m.now) → matrices_at selected ≡ select ms (bytes_of (take i names)) → matrices_at more ≡ select ms (bytes_of (take (i + 1) names))
selected_found ms selected more names i d m below push found was =
    ap matrices_at push ∙ map-append (λ (x : Bor MatrixText). matrix_of x.now) selected (m ∷ [])
    ∙ ap (λ l. l ++ matrix_of m.now ∷ []) was
    ∙ sym (ap (select ms) (words_more names i d below) ∙ select_more ms (bytes_of (take i names)) (get_or names i d).now ∙ ap (λ o. select ms (bytes_of (take i names)) ++ put_first o []) found)

pub selected_none : (ms : List Matrix) (selected : List (Bor MatrixText)) (names : List (Bor (List ℕ))) (i : ℕ) (d : Bor (List ℕ)) → i < length names
    → named ms (get_or names i d).now ≡ None → matrices_at selected ≡ select ms (bytes_of (take i names)) → matrices_at selected ≡ select ms (bytes_of (take (i + 1) names))
selected_none ms selected names i d below found was =
    was ∙ sym (append-nil _)
    ∙ sym (ap (select ms) (words_more names i d below) ∙ select_more ms (bytes_of (take i names)) (get_or names i d).now ∙ ap (λ o. select ms (bytes_of (take i names)) ++ put_first o []) found)
