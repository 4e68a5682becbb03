-- Lines and words that are put one after another.
use Rattle.std.proofs.Common.{◌≡◌, ℕ, zero, suc, ◌+◌, ◌<◌, ◌≤◌, List, [], ◌∷◌, ◌++◌, length, get_or, take, map, refl, subst, sym, ap, ap₂, ◌∙◌, append_assoc, append-nil, arith}
use Rattle.std.proofs.lemmas.List.{take_all, map_more}
use Rattle.std.specs.Prelude.{All, min}
use Rattle.std.specs.List.{zip}
use Rattle.std.proofs.lemmas.Slice.Zip.{get_or-zip, length-zip}
use Rattle.std.proofs.lemmas.List.Elements.{All-map, All-nil, All-cons, All-head, All-tail}
use Rattle.alg_core.specs.declared.term.Term.{Term}
use Rattle.alg_core.specs.Spaces.{entry, entries}
use Rattle.alg_core.specs.Vectors.{Entry}
use Rattle.certificate_io.specs.Texts.{ended, spaced}

pub ended_append : (ls ms : List (List ℕ)) → ended (ls ++ ms) ≡ ended ls ++ ended ms
ended_append [] ms = refl
ended_append (l ∷ ls) ms = ap (λ x. l ++ (10 ∷ x)) (ended_append ls ms) ∙ sym (append_assoc l (10 ∷ ended ls) (ended ms))

spaced_append : (vs ws : List (List ℕ)) → spaced (vs ++ ws) ≡ spaced vs ++ spaced ws
spaced_append [] ws = refl
spaced_append (v ∷ vs) ws = ap (λ x. 32 ∷ (v ++ x)) (spaced_append vs ws) ∙ ap (λ x. 32 ∷ x) (sym (append_assoc v (spaced vs) (spaced ws)))

-- a line more
pub ended_step : {X : Type 0} (F : X → List ℕ) (xs : List X) (i : ℕ) (x : X) (w : List ℕ) → i < length xs → x ≡ get_or xs i x
    → (w ++ ended (map F (take i xs))) ++ ended (F x ∷ []) ≡ w ++ ended (map F (take (i + 1) xs))
ended_step F xs i x w h read =
    append_assoc w (ended (map F (take i xs))) (ended (F x ∷ [])) ∙ ap (λ l. w ++ l) (sym (ended_append (map F (take i xs)) (F x ∷ [])))
    ∙ ap (λ l. w ++ ended l) (ap (λ y. map F (take i xs) ++ F y ∷ []) read ∙ sym (map_more F xs i x h))

-- a word more
pub spaced_step : {X : Type 0} (F : X → List ℕ) (xs : List X) (i : ℕ) (x : X) (w : List ℕ) → i < length xs → x ≡ get_or xs i x
    → ((w ++ spaced (map F (take i xs))) ++ (32 ∷ [])) ++ F x ≡ w ++ spaced (map F (take (i + 1) xs))
spaced_step F xs i x w h read =
    regroup w (spaced (map F (take i xs))) (32 ∷ []) (F x) ∙ ap (λ l. w ++ (spaced (map F (take i xs)) ++ (32 ∷ l))) (sym (append-nil (F x)))
    ∙ ap (λ l. w ++ l) (sym (spaced_append (map F (take i xs)) (F x ∷ [])))
    ∙ ap (λ l. w ++ spaced l) (ap (λ y. map F (take i xs) ++ F y ∷ []) read ∙ sym (map_more F xs i x h))
  where
    regroup : (a x y z : List ℕ) → ((a ++ x) ++ y) ++ z ≡ a ++ (x ++ (y ++ z))
    regroup a x y z = simp append_assoc

-- all of them
pub ended_all : {X : Type 0} (F : X → List ℕ) (xs : List X) (i : ℕ) (w : List ℕ) → length xs ≤ i → w ++ ended (map F (take i xs)) ≡ w ++ ended (map F xs)
ended_all F xs i w h = ap (λ l. w ++ ended (map F l)) (take_all i xs h)

pub spaced_all : {X : Type 0} (F : X → List ℕ) (xs : List X) (i : ℕ) (w : List ℕ) → length xs ≤ i → w ++ spaced (map F (take i xs)) ≡ w ++ spaced (map F xs)
spaced_all F xs i w h = ap (λ l. w ++ spaced (map F l)) (take_all i xs h)

-- the pieces of a line
pub line_of_two : (w a b e : List ℕ) → ((w ++ a) ++ b) ++ e ≡ w ++ ((a ++ b) ++ e)
line_of_two w a b e = simp append_assoc

pub line_of_three : (w a b c e : List ℕ) → (((w ++ a) ++ b) ++ c) ++ e ≡ w ++ ((a ++ (b ++ c)) ++ e)
line_of_three w a b c e = simp append_assoc

pub words_of_two : (w a b c s e : List ℕ) → ((((w ++ a) ++ b) ++ s) ++ c) ++ e ≡ w ++ ((a ++ (b ++ (s ++ (c ++ [])))) ++ e)
words_of_two w a b c s e = ap (λ l. ((((w ++ a) ++ b) ++ s) ++ l) ++ e) (sym (append-nil c)) ∙ regroup w a b s (c ++ []) e
  where
    regroup : (w a b s c e : List ℕ) → ((((w ++ a) ++ b) ++ s) ++ c) ++ e ≡ w ++ ((a ++ (b ++ (s ++ c))) ++ e)
    regroup w a b s c e = simp append_assoc

pub words_of_three : (w a b c d s e : List ℕ) → ((((((w ++ a) ++ b) ++ s) ++ c) ++ s) ++ d) ++ e ≡ w ++ ((a ++ (b ++ (s ++ (c ++ (s ++ (d ++ [])))))) ++ e)
words_of_three w a b c d s e = ap (λ l. ((((((w ++ a) ++ b) ++ s) ++ c) ++ s) ++ l) ++ e) (sym (append-nil d)) ∙ regroup w a b s c s (d ++ []) e
  where
    regroup : (w a b s c t d e : List ℕ) → ((((((w ++ a) ++ b) ++ s) ++ c) ++ t) ++ d) ++ e ≡ w ++ ((a ++ (b ++ (s ++ (c ++ (t ++ d))))) ++ e)
    regroup w a b s c t d e = simp append_assoc

pub two_words : (w a b c s : List ℕ) → (((w ++ a) ++ b) ++ s) ++ c ≡ w ++ (a ++ (b ++ (s ++ (c ++ []))))
two_words w a b c s = ap (λ l. (((w ++ a) ++ b) ++ s) ++ l) (sym (append-nil c)) ∙ regroup w a b s (c ++ [])
  where
    regroup : (w a b s c : List ℕ) → (((w ++ a) ++ b) ++ s) ++ c ≡ w ++ (a ++ (b ++ (s ++ c)))
    regroup w a b s c = simp append_assoc

-- lines after lines
pub lines_of_two : (w : List ℕ) (a b : List (List ℕ)) → (w ++ ended a) ++ ended b ≡ w ++ ended (a ++ b)
lines_of_two w a b = append_assoc w (ended a) (ended b) ∙ ap (λ l. w ++ l) (sym (ended_append a b))

pub lines_of_three : (w : List ℕ) (a b c : List (List ℕ)) → ((w ++ ended a) ++ ended b) ++ ended c ≡ w ++ ended ((a ++ b) ++ c)
lines_of_three w a b c = ap (λ l. l ++ ended c) (lines_of_two w a b) ∙ lines_of_two w (a ++ b) c

pub lines_of_four : (w : List ℕ) (a b c d : List (List ℕ)) → (((w ++ ended a) ++ ended b) ++ ended c) ++ ended d ≡ w ++ ended (((a ++ b) ++ c) ++ d)
lines_of_four w a b c d = ap (λ l. l ++ ended d) (lines_of_three w a b c) ∙ lines_of_two w ((a ++ b) ++ c) d

pub lines_of_five : (w : List ℕ) (a b c d e : List (List ℕ)) → ((((w ++ ended a) ++ ended b) ++ ended c) ++ ended d) ++ ended e ≡ w ++ ended ((((a ++ b) ++ c) ++ d) ++ e)
lines_of_five w a b c d e = ap (λ l. l ++ ended e) (lines_of_four w a b c d) ∙ lines_of_two w (((a ++ b) ++ c) ++ d) e

-- what holds of all holds of the one that is read
pub all_here : {X : Type 0} (P : X → Type 0) (xs : List X) (i : ℕ) (x : X) → All P xs → i < length xs → x ≡ get_or xs i x → P x
all_here P xs i x all h read = subst P (sym read) (all i x h)

-- the positions of the terms are those of the entries
pub positions_below : (m : ℕ) (ts : List (Term ℕ (List ℕ))) → All (λ t. t.at.pos < m) ts → All (λ e. e.0.0 < m) (entries (λ a. a) ts)
positions_below m ts below = All-map (λ (e : Entry ℕ). e.0.0 < m) (entry (λ (a : List ℕ). a)) ts below

-- the pair that is read from two lists
pub pair_here : {A B : Type 0} (xs : List A) (ys : List B) (i : ℕ) (x : A) (y : B) → i < length xs → i < length ys → x ≡ get_or xs i x → y ≡ get_or ys i y → (x, y) ≡ get_or (zip xs ys) i (x, y)
pair_here xs ys i x y h k at on = ap₂ (λ a b. (a, b)) at on ∙ sym (get_or-zip xs ys i (x, y) h k)

pub pairs : {A B : Type 0} (xs : List A) (ys : List B) → length ys ≡ length xs → length (zip xs ys) ≡ length ys
pairs xs ys same = length-zip xs ys ∙ least (length xs) (length ys) same
  where
    least : (a b : ℕ) → b ≡ a → min a b ≡ b
    least a b e = omega arith

-- a number that is read, whatever stands past the end
pub number_here : (xs : List ℕ) (i d : ℕ) → i < length xs → get_or xs i d ≡ get_or xs i (get_or xs i d)
number_here [] i d h = absurd (omega arith)
number_here (x ∷ xs) zero d h = refl
number_here (x ∷ xs) (suc i) d h = number_here xs i d (omega arith)

-- what holds of all images
pub all_of_map : {X Y : Type 0} (P : Y → Type 0) (f : X → Y) (xs : List X) → All P (map f xs) → All (λ x. P (f x)) xs
all_of_map P f [] all = All-nil (λ x. P (f x))
all_of_map P f (x ∷ xs) all = All-cons (λ x. P (f x)) x xs (All-head P (f x) (map f xs) all) (all_of_map P f xs (All-tail P (f x) (map f xs) all))
