-- A line that is written in pieces.
use Rattle.std.proofs.Common.{◌≡◌, ℕ, ◌+◌, ◌<◌, ◌≤◌, List, [], ◌∷◌, ◌++◌, length, get_or, take, drop, map, refl, sym, ap, subst, ◌∙◌, append_assoc, append-nil, length-append, arith}
use Rattle.std.specs.Prelude.{Option, Result, Ok, Err, OnOk, OnErr}
use Rattle.std.specs.List.{concat}
use Rattle.std.proofs.Math.Seq.{take-append-add}
use Rattle.std.proofs.lemmas.List.{take-append-drop, take-append-le, take_all, take_more, drop_more, map-append}
use Rattle.inv_outside.specs.Outside.{Took}
use Rattle.inv_outside.proofs.Told.{Took-append}
use Rattle.invring_app.specs.ErrorLines.{piece_text, line_of}
use Rattle.invring_app.specs.declared.error_line.Piece.{Piece}

concat-push : (ps : List (List ℕ)) (p : List ℕ) → concat (ps ++ p ∷ []) ≡ concat ps ++ p
concat-push [] p = append-nil p
concat-push (x ∷ ps) p = ap (λ (t : List ℕ). x ++ t) (concat-push ps p) ∙ sym (append_assoc x (concat ps) p)

line_of-append : (ps qs : List (List ℕ)) → line_of (ps ++ qs) ≡ concat ps ++ line_of qs
line_of-append [] qs = refl
line_of-append (x ∷ ps) qs = ap (λ (t : List ℕ). x ++ t) (line_of-append ps qs) ∙ sym (append_assoc x (concat ps) (line_of qs))

-- a front, and the front of a piece behind it
pub front-of-line : (a b c : Option (List ℕ)) (line front piece rest : List ℕ) (k : ℕ) → line ≡ front ++ (piece ++ rest) → k ≤ length piece → Took a front b → Took b (take k piece) c
    → (m : ℕ) × (m ≤ length line) × Took a (take m line) c
front-of-line a b c line front piece rest k is within first second =
    let long : length line ≡ length front + (length piece + length rest) = ap length is ∙ length-append front (piece ++ rest) ∙ ap (λ (n : ℕ). length front + n) (length-append piece rest) in
    let same : take (length front + k) line ≡ front ++ take k piece = ap (take (length front + k)) is ∙ take-append-add front (piece ++ rest) k ∙ ap (λ (t : List ℕ). front ++ t) (take-append-le k piece rest within) in
    (length front + k, omega arith, subst (λ (t : List ℕ). Took a t c) (sym same) (Took-append a b c front (take k piece) first second))

-- the pieces before a place, the piece there and the rest of the line
pub line_of-split : {X : Type 0} (f : X → List ℕ) (ps : List X) (i : ℕ) (d : X) → i < length ps → line_of (map f ps) ≡ concat (map f (take i ps)) ++ (f (get_or ps i d) ++ line_of (map f (drop (i + 1) ps)))
line_of-split f ps i d within =
    let parts : ps ≡ take i ps ++ (get_or ps i d ∷ drop (i + 1) ps) = sym (take-append-drop i ps) ∙ ap (λ t. take i ps ++ t) (drop_more ps i d within) in
    ap (λ t. line_of (map f t)) parts
    ∙ ap line_of (map-append f (take i ps) (get_or ps i d ∷ drop (i + 1) ps))
    ∙ line_of-append (map f (take i ps)) (map f (get_or ps i d ∷ drop (i + 1) ps))

pub concat-more : {X : Type 0} (f : X → List ℕ) (ps : List X) (i : ℕ) (d : X) → i < length ps → concat (map f (take (i + 1) ps)) ≡ concat (map f (take i ps)) ++ f (get_or ps i d)
concat-more f ps i d within =
    ap (λ t. concat (map f t)) (take_more ps i d within)
    ∙ ap concat (map-append f (take i ps) (get_or ps i d ∷ []))
    ∙ concat-push (map f (take i ps)) (f (get_or ps i d))

-- all the pieces, and the newline
pub line_of-end : {X : Type 0} (f : X → List ℕ) (ps : List X) (i : ℕ) → length ps ≤ i → line_of (map f ps) ≡ concat (map f (take i ps)) ++ (10 ∷ [])
line_of-end f ps i past =
    let all : take i ps ≡ ps = take_all i ps past in
    ap line_of (sym (append-nil (map f ps))) ∙ line_of-append (map f ps) [] ∙ ap (λ t. concat (map f t) ++ (10 ∷ [])) (sym all)

-- the texts of pieces
abbrev texts : List Piece → List (List ℕ)
texts ps = map piece_text ps

-- one piece more was taken
pub pieces-more : (ps : List Piece) (i : ℕ) (d : Piece) (a b c : Option (List ℕ)) → i < length ps → Took a (concat (texts (take i ps))) b → Took b (piece_text (get_or ps i d)) c → Took a (concat (texts (take (i + 1) ps))) c
pieces-more ps i d a b c within first second =
    subst (λ (t : List ℕ). Took a t c) (sym (concat-more piece_text ps i d within)) (Took-append a b c _ _ first second)

-- the front of a piece was taken
pub pieces-front : {T E : Type 0} (r : Result T E) (ps : List Piece) (i : ℕ) (d : Piece) (a b c : Option (List ℕ)) → i < length ps → Took a (concat (texts (take i ps))) b
    → (k : ℕ) × (k < length (piece_text (get_or ps i d))) × Took b (take k (piece_text (get_or ps i d))) c → OnErr r ((m : ℕ) × (m ≤ length (line_of (texts ps))) × Took a (take m (line_of (texts ps))) c)
pieces-front (Ok _) ps i d a b c within first front = tt
pieces-front (Err _) ps i d a b c within first front =
    front-of-line a b c _ _ (piece_text (get_or ps i d)) (line_of (texts (drop (i + 1) ps))) front.0 (line_of-split piece_text ps i d within) (omega (arith, front.1)) first front.2

-- all was taken
pub pieces-all : {T E : Type 0} (r : Result T E) (ps : List Piece) (i : ℕ) (a b c : Option (List ℕ)) → length ps ≤ i → Took a (concat (texts (take i ps))) b → OnOk r (Took b (10 ∷ []) c) → OnOk r (Took a (line_of (texts ps)) c)
pieces-all (Ok _) ps i a b c past first newline =
    subst (λ (t : List ℕ). Took a t c) (sym (line_of-end piece_text ps i past)) (Took-append a b c _ _ first newline)
pieces-all (Err _) ps i a b c past first newline = tt

-- all but the newline was taken
pub pieces-newline : {T E : Type 0} (r : Result T E) (ps : List Piece) (i : ℕ) (a b c : Option (List ℕ)) → length ps ≤ i → Took a (concat (texts (take i ps))) b → OnErr r ((k : ℕ) × (k < 1) × Took b (take k (10 ∷ [])) c)
    → OnErr r ((m : ℕ) × (m ≤ length (line_of (texts ps))) × Took a (take m (line_of (texts ps))) c)
pieces-newline (Ok _) ps i a b c past first newline = tt
pieces-newline (Err _) ps i a b c past first newline =
    front-of-line a b c _ _ (10 ∷ []) [] newline.0 (line_of-end piece_text ps i past) (omega (arith, newline.1)) first newline.2

-- what was taken, whatever came of it

pub line-front : {T E : Type 0} (r : Result T E) (a c : Option (List ℕ)) (line : List ℕ) → OnOk r (Took a line c) → OnErr r ((k : ℕ) × (k ≤ length line) × Took a (take k line) c) → (k : ℕ) × (k ≤ length line) × Took a (take k line) c
line-front (Ok _) a c line all front = (length line, omega arith, subst (λ (t : List ℕ). Took a t c) (sym (take_all (length line) line (omega arith))) all)
line-front (Err _) a c line all front = front
