-- The names that faults tell are names.
use Rattle.std.proofs.Common.{◌≡◌, ℕ, Bool, true, false, List, [], ◌∷◌, ◌++◌, Option, Some, None, cond, sym, subst, arith}
use Rattle.std.specs.Prelude.{All, IfSome}
use Rattle.std.specs.Borrow.{Bor}
use Rattle.std.specs.List.{flat_map}
use Rattle.std.specs.Option.{option_or}
use Rattle.std.proofs.lemmas.List.Elements.{All-nil, All-cons, All-tail, All-append}
use Rattle.finvar_text.specs.Conditions.{is_among, first_twice, first_other, unknown_in, first_unknown, name_of, names_of, first_misfit, has_size, matrices_of, declared_names, matrices}
use Rattle.finvar_text.specs.Syntax.{Item, Lib, Declared, Printed, Called, Script, IsItem, IsName, IsScript}
use Rattle.finvar_text.specs.Trees.{word_of}

one : (b : Bool) (w : List ℕ) (o : Option (List ℕ)) → IsName w → IfSome o IsName → IfSome (cond b (Some w) o) IsName
one true w o h k = h
one false w o h k = k

other : (b : Bool) (w : List ℕ) (o : Option (List ℕ)) → IsName w → IfSome o IsName → IfSome (cond b o (Some w)) IsName
other true w o h k = k
other false w o h k = h

either : (o p : Option (List ℕ)) → IfSome o IsName → IfSome p IsName → IfSome (option_or o p) IsName
either None p h k = k
either (Some w) p h k = h

twice_name : (ws rest : List (List ℕ)) → All IsName rest → IfSome (first_twice ws rest) IsName
twice_name ws [] all = tt
twice_name ws (w ∷ rest) all = one (is_among w ws) w (first_twice (ws ++ w ∷ []) rest) (all 0 w (omega arith)) (twice_name (ws ++ w ∷ []) rest (All-tail IsName w rest all))

other_name : (ms ws : List (List ℕ)) → All IsName ws → IfSome (first_other ms ws) IsName
other_name ms [] all = tt
other_name ms (w ∷ ws) all = other (is_among w ms) w (first_other ms ws) (all 0 w (omega arith)) (other_name ms ws (All-tail IsName w ws all))

item_name : (ms ws : List (List ℕ)) (i : Item) → IsItem i → IfSome (unknown_in ms ws i) IsName
item_name ms ws (Lib w) h = tt
item_name ms ws (Declared m) h = tt
item_name ms ws (Printed name word) h = other (is_among name ws) name None h tt
item_name ms ws (Called c) h = other_name ms c.arguments h.arguments

unknown_name : (ms ws : List (List ℕ)) (is : List Item) → All IsItem is → IfSome (first_unknown ms ws is) IsName
unknown_name ms ws [] all = tt
unknown_name ms ws (i ∷ is) all = either (unknown_in ms ws i) (first_unknown (ms ++ name_of i) (ws ++ names_of i) is) (item_name ms ws i (all 0 i (omega arith))) (unknown_name (ms ++ name_of i) (ws ++ names_of i) is (All-tail IsItem i is all))

misfit_name : (n : ℕ) (is : List Item) → All IsItem is → IfSome (first_misfit n (flat_map matrices_of is)) IsName
misfit_name n [] all = tt
misfit_name n (Lib w ∷ is) all = misfit_name n is (All-tail IsItem (Lib w) is all)
misfit_name n (Declared m ∷ is) all = other (has_size n m) m.name (first_misfit n (flat_map matrices_of is)) ((all 0 (Declared m) (omega arith)).name) (misfit_name n is (All-tail IsItem (Declared m) is all))
misfit_name n (Printed name word ∷ is) all = misfit_name n is (All-tail IsItem (Printed name word) is all)
misfit_name n (Called c ∷ is) all = misfit_name n is (All-tail IsItem (Called c) is all)

item_names : (i : Item) → IsItem i → All IsName (names_of i)
item_names (Lib w) h = All-nil IsName
item_names (Declared m) h = All-cons IsName m.name [] h.name (All-nil IsName)
item_names (Printed name word) h = All-nil IsName
item_names (Called c) h = All-cons IsName c.first (c.second ∷ c.third ∷ []) h.first (All-cons IsName c.second (c.third ∷ []) h.second (All-cons IsName c.third [] h.third (All-nil IsName)))

items_names : (is : List Item) → All IsItem is → All IsName (flat_map names_of is)
items_names [] all = All-nil IsName
items_names (i ∷ is) all = All-append IsName (names_of i) (flat_map names_of is) (item_names i (all 0 i (omega arith))) (items_names is (All-tail IsItem i is all))

-- the name that is found
found_name : (o : Option (Bor (List ℕ))) (p : Option (List ℕ)) (w : Bor (List ℕ)) → word_of o ≡ p → o ≡ Some w → IfSome p IsName → IsName w.now
found_name o p w is some h = subst (λ k. IfSome (word_of k) IsName) some (subst (λ k. IfSome k IsName) (sym is) h)

pub twice_is_name : (s : Script) (o : Option (Bor (List ℕ))) (w : Bor (List ℕ)) → IsScript s → word_of o ≡ first_twice [] (declared_names s) → o ≡ Some w → IsName w.now
twice_is_name s o w h is some =
    found_name o _ w is some (twice_name [] (declared_names s)
    (All-cons IsName s.ring (s.variables ++ flat_map names_of s.items) h.ring (All-append IsName s.variables (flat_map names_of s.items) h.variables (items_names s.items h.items))))

pub unknown_is_name : (s : Script) (o : Option (Bor (List ℕ))) (w : Bor (List ℕ)) → IsScript s → word_of o ≡ first_unknown [] (s.ring ∷ s.variables) s.items → o ≡ Some w → IsName w.now
unknown_is_name s o w h is some = found_name o _ w is some (unknown_name [] (s.ring ∷ s.variables) s.items h.items)

pub misfit_is_name : (s : Script) (n : ℕ) (o : Option (Bor (List ℕ))) (w : Bor (List ℕ)) → IsScript s → word_of o ≡ first_misfit n (matrices s) → o ≡ Some w → IsName w.now
misfit_is_name s n o w h is some = found_name o _ w is some (misfit_name n s.items h.items)
