-- One name more: which names are among those before it, which is the first that stands twice, and which the first that is unknown.
use Rattle.std.proofs.Common.{◌≡◌, ◌∙◌, ℕ, ◌+◌, ◌<◌, Bool, true, false, not, ◌||◌, List, [], ◌∷◌, ◌++◌, length, take, drop, get_or, Option, Some, None, cond, sym, ap, ap₂, subst, refl}
use Rattle.std.specs.Borrow.{Bor}
use Rattle.std.specs.List.{flat_map, list_any}
use Rattle.std.specs.Option.{option_or}
use Rattle.std.specs.Str.{bytes_eq}
use Rattle.std.proofs.lemmas.Cmp.{nat_list_eq_equiv}
use Rattle.std.proofs.lemmas.List.{take_more, drop_more, map-append, append-nil, append_assoc}
use Rattle.finvar_text.specs.Conditions.{is_among, first_twice, first_other, unknown_in, first_unknown, name_of, names_of, matrices_of}
use Rattle.finvar_text.specs.Declarations.{has, Holds, AreDeclared, names_in}
use Rattle.finvar_text.specs.declared.values_names.Declarations.{Declarations}
use Rattle.finvar_text.specs.Syntax.{Item, Matrix}
use Rattle.finvar_text.specs.Trees.{bytes_of, word_of, item_of, items_of}
use Rattle.finvar_text.specs.declared.syntax.ItemText.{ItemText}

pub bytes_same : (v w : List ℕ) → bytes_eq v w ≡ bytes_eq w v
bytes_same v w = nat_list_eq_equiv.symm v w

or_cond : (a b : Bool) → (a || b) ≡ cond a true b
or_cond true b = refl
or_cond false b = refl

or_swap : (a b c : Bool) → (a || cond b true c) ≡ cond b true (a || c)
or_swap true true c = refl
or_swap true false c = refl
or_swap false true c = refl
or_swap false false c = refl

-- one name more
among_more : (q w : List ℕ) (ws : List (List ℕ)) → is_among q (ws ++ w ∷ []) ≡ cond (bytes_eq w q) true (is_among q ws)
among_more q w [] = or_cond (bytes_eq q w) false ∙ ap (λ b. cond b true false) (bytes_same q w)
among_more q w (x ∷ ws) = ap (λ b. bytes_eq q x || b) (among_more q w ws) ∙ or_swap (bytes_eq q x) (bytes_eq w q) (is_among q ws)

pub words_more : (xs : List (Bor (List ℕ))) (i : ℕ) (d : Bor (List ℕ)) → i < length xs → bytes_of (take (i + 1) xs) ≡ bytes_of (take i xs) ++ (get_or xs i d).now ∷ []
words_more xs i d below = ap bytes_of (take_more xs i d below) ∙ map-append (λ (w : Bor (List ℕ)). w.now) (take i xs) (get_or xs i d ∷ [])

-- whether a name was there, as its insertion tells
pub was_among : (added was b among : Bool) → added ≡ not was → added ≡ not b → was ≡ among → among ≡ b
was_among added true true among a n e = sym e
was_among added true false among a n e = absurd cc
was_among added false true among a n e = absurd cc
was_among added false false among a n e = sym e

pub holds_none : (keys : List (Bor (List ℕ))) → keys ≡ [] → Holds keys []
holds_none keys empty q = ap (list_any (λ (y : Bor (List ℕ)). bytes_eq q.now y.now)) empty

pub holds_more : (keys more : List (Bor (List ℕ))) (w : List ℕ) (ws : List (List ℕ)) → ((q : Bor (List ℕ)) → has more q ≡ cond (bytes_eq w q.now) true (has keys q)) → Holds keys ws → Holds more (ws ++ w ∷ [])
holds_more keys more w ws updates was q = updates q ∙ ap (cond (bytes_eq w q.now) true) (was q) ∙ sym (among_more q.now w ws)

pub three_more : (ws : List (List ℕ)) (a b c : List ℕ) → ((ws ++ a ∷ []) ++ b ∷ []) ++ c ∷ [] ≡ ws ++ a ∷ b ∷ c ∷ []
three_more ws a b c = append_assoc (ws ++ a ∷ []) (b ∷ []) (c ∷ []) ∙ append_assoc ws (a ∷ []) (b ∷ c ∷ [])

-- the next of the names is one of the matrices, or the first that is none
other_more : (ms : List (List ℕ)) (xs : List (Bor (List ℕ))) (i : ℕ) (d : Bor (List ℕ)) → i < length xs
    → first_other ms (bytes_of (drop i xs)) ≡ cond (is_among (get_or xs i d).now ms) (first_other ms (bytes_of (drop (i + 1) xs))) (Some (get_or xs i d).now)
other_more ms xs i d below = ap (λ l. first_other ms (bytes_of l)) (drop_more xs i d below)

pub other_known : (ms : List (List ℕ)) (xs : List (Bor (List ℕ))) (i : ℕ) (d : Bor (List ℕ)) → i < length xs → is_among (get_or xs i d).now ms ≡ true
    → first_other ms (bytes_of (drop (i + 1) xs)) ≡ first_other ms (bytes_of (drop i xs))
other_known ms xs i d below known = sym (other_more ms xs i d below ∙ ap (λ b. cond b (first_other ms (bytes_of (drop (i + 1) xs))) (Some (get_or xs i d).now)) known)

pub other_found : (ms : List (List ℕ)) (xs : List (Bor (List ℕ))) (i : ℕ) (d : Bor (List ℕ)) → i < length xs → is_among (get_or xs i d).now ms ≡ false
    → Some (get_or xs i d).now ≡ first_other ms (bytes_of (drop i xs))
other_found ms xs i d below known = sym (other_more ms xs i d below ∙ ap (λ b. cond b (first_other ms (bytes_of (drop (i + 1) xs))) (Some (get_or xs i d).now)) known)

-- what the items give, one item more
pub flat_more : {A : Type 0} (f : Item → List A) (xs : List ItemText) (i : ℕ) (d : ItemText) → i < length xs → flat_map f (items_of (take (i + 1) xs)) ≡ flat_map f (items_of (take i xs)) ++ f (item_of (get_or xs i d))
flat_more f xs i d below = ap (λ l. flat_map f (items_of l)) (take_more xs i d below) ∙ ap (flat_map f) (map-append item_of (take i xs) (get_or xs i d ∷ []))
    ∙ flat_last f (items_of (take i xs)) (item_of (get_or xs i d))
  where
    flat_last : {A : Type 0} (f : Item → List A) (is : List Item) (i : Item) → flat_map f (is ++ i ∷ []) ≡ flat_map f is ++ f i
    flat_last f [] i = append-nil (f i)
    flat_last f (j ∷ is) i = ap (λ l. f j ++ l) (flat_last f is i) ∙ sym (append_assoc (f j) (flat_map f is) (f i))

or_none : {A : Type 0} (o : Option A) → option_or o None ≡ o
or_none None = refl
or_none (Some x) = refl

or_or : {A : Type 0} (o p q : Option A) → option_or (option_or o p) q ≡ option_or o (option_or p q)
or_or None p q = refl
or_or (Some x) p q = refl

pub or_choice : {A : Type 0} (b : Bool) (x : A) (o p : Option A) → option_or (cond b (Some x) o) p ≡ cond b (Some x) (option_or o p)
or_choice true x o p = refl
or_choice false x o p = refl

-- the first name that stands twice, one name more
twice_more : (vs ws : List (List ℕ)) (w : List ℕ) → first_twice vs (ws ++ w ∷ []) ≡ option_or (first_twice vs ws) (cond (is_among w (vs ++ ws)) (Some w) None)
twice_more vs [] w = ap (λ l. cond (is_among w l) (Some w) None) (sym (append-nil vs))
twice_more vs (x ∷ ws) w =
    ap (cond (is_among x vs) (Some x)) (twice_more (vs ++ x ∷ []) ws w ∙ ap (λ l. option_or (first_twice (vs ++ x ∷ []) ws) (cond (is_among w l) (Some w) None)) (append_assoc vs (x ∷ []) ws))
    ∙ sym (or_choice (is_among x vs) x (first_twice (vs ++ x ∷ []) ws) (cond (is_among w (vs ++ x ∷ ws)) (Some w) None))

word_or : (o p : Option (Bor (List ℕ))) → word_of (option_or o p) ≡ option_or (word_of o) (word_of p)
word_or None p = refl
word_or (Some w) p = refl

pub twice_again : (old new : Option (Bor (List ℕ))) (w : Bor (List ℕ)) (ws : List (List ℕ)) → is_among w.now ws ≡ true → new ≡ option_or old (Some w) → word_of old ≡ first_twice [] ws
    → word_of new ≡ first_twice [] (ws ++ w.now ∷ [])
twice_again old new w ws there is was =
    ap word_of is ∙ word_or old (Some w) ∙ ap₂ option_or was (ap (λ b. cond b (Some w.now) None) (sym there)) ∙ sym (twice_more [] ws w.now)

pub twice_new : (old : Option (Bor (List ℕ))) (w : List ℕ) (ws : List (List ℕ)) → is_among w ws ≡ false → word_of old ≡ first_twice [] ws → word_of old ≡ first_twice [] (ws ++ w ∷ [])
twice_new old w ws new was =
    was ∙ sym (or_none (first_twice [] ws)) ∙ ap (λ b. option_or (first_twice [] ws) (cond b (Some w) None)) (sym new) ∙ sym (twice_more [] ws w)

-- the first unknown name, one item more
unknown_more : (ms ws : List (List ℕ)) (is : List Item) (i : Item)
    → first_unknown ms ws (is ++ i ∷ []) ≡ option_or (first_unknown ms ws is) (unknown_in (ms ++ flat_map name_of is) (ws ++ flat_map names_of is) i)
unknown_more ms ws [] i = or_none (unknown_in ms ws i) ∙ ap₂ (λ l k. unknown_in l k i) (sym (append-nil ms)) (sym (append-nil ws))
unknown_more ms ws (j ∷ is) i =
    ap (option_or (unknown_in ms ws j))
    (unknown_more (ms ++ name_of j) (ws ++ names_of j) is i
    ∙ ap₂ (λ l k. option_or (first_unknown (ms ++ name_of j) (ws ++ names_of j) is) (unknown_in l k i)) (append_assoc ms (name_of j) (flat_map name_of is)) (append_assoc ws (names_of j) (flat_map names_of is)))
    ∙ sym (or_or (unknown_in ms ws j) _ _)

names_flat : (is : List Item) → names_in (flat_map matrices_of is) ≡ flat_map name_of is
names_flat [] = refl
names_flat (i ∷ is) = map-append (λ (m : Matrix). m.name) (matrices_of i) (flat_map matrices_of is) ∙ ap (λ l. name_of i ++ l) (names_flat is)

pub unknown_step : (first : List (List ℕ)) (xs : List ItemText) (i : ℕ) (d : ItemText) (old new found : Option (Bor (List ℕ))) → i < length xs
    → word_of found ≡ unknown_in (names_in (flat_map matrices_of (items_of (take i xs)))) (first ++ flat_map names_of (items_of (take i xs))) (item_of (get_or xs i d))
    → new ≡ option_or old found → word_of old ≡ first_unknown [] first (items_of (take i xs)) → word_of new ≡ first_unknown [] first (items_of (take (i + 1) xs))
unknown_step first xs i d old new found below here is was =
    let before = items_of (take i xs) in
    let x = item_of (get_or xs i d) in
    ap word_of is ∙ word_or old found ∙ ap₂ option_or was (here ∙ ap (λ l. unknown_in l (first ++ flat_map names_of before) x) (names_flat before))
    ∙ sym (ap (first_unknown [] first) (ap items_of (take_more xs i d below) ∙ map-append item_of (take i xs) (get_or xs i d ∷ [])) ∙ unknown_more [] first before x)

pub declared_step : (d : Declarations) (first : List (List ℕ)) (xs : List ItemText) (i : ℕ) (e : ItemText) → i < length xs
    → AreDeclared d ((first ++ flat_map names_of (items_of (take i xs))) ++ names_of (item_of (get_or xs i e))) (flat_map matrices_of (items_of (take i xs)) ++ matrices_of (item_of (get_or xs i e)))
    → AreDeclared d (first ++ flat_map names_of (items_of (take (i + 1) xs))) (flat_map matrices_of (items_of (take (i + 1) xs)))
declared_step d first xs i e below h =
    subst (AreDeclared d (first ++ flat_map names_of (items_of (take (i + 1) xs)))) (sym (flat_more matrices_of xs i e below))
    (subst (λ l. AreDeclared d l (flat_map matrices_of (items_of (take i xs)) ++ matrices_of (item_of (get_or xs i e)))) (append_assoc first (flat_map names_of (items_of (take i xs))) (names_of (item_of (get_or xs i e))) ∙ ap (λ l. first ++ l) (sym (flat_more names_of xs i e below))) h)
