-- Lists in which no member stands twice, and the test whether a member is found.
use Rattle.matrix_group.proofs.Common.{◌≡◌, ◌≢◌, ℕ, zero, suc, ◌+◌, ◌<◌, ◌≤◌, ◌⊎◌, inl, inr, Bool, true, false, cond, ◌||◌, List, [], ◌∷◌, ◌++◌, map, length, take, get_or, All, Contains, sym, ap, ◌∙◌, refl, subst, arith, true≢false, length-map, length-append, length_push, get_or_append_left, Contains-append_left, Contains-append_right, Contains-append_cases, Contains-get_or, Contains-push, Contains-push_cases, All-push, pointwise_decides, FieldOn, AreApart, is_yes, is_same, is_found, with_new, take-append-drop, drop, ⊎_elim}
use native.Mathlib.Decide.{map_dec}
use Rattle.alg_core.specs.Lists.{In, map_in}
use Rattle.alg_core.proofs.Members.{from_map, in_contains, contains_in}
use Rattle.std.proofs.lemmas.List.Kept.{AllPairs-cons}
use Rattle.std.proofs.lemmas.List.Quantifiers.{all_pairs_push}

dec_either : {A B : Type 0} → Dec A → Dec B → Dec (A ⊎ B)
dec_either (yes a) d = yes (inl a)
dec_either (no n) (yes b) = yes (inr b)
dec_either (no n) (no m) = no (⊎_elim n m)

-- whether a list has a member, where equality is decided
pub in_or_not : {X : Type 0} (same : (x y : X) → Dec (x ≡ y)) (y : X) (l : List X) → Dec (In y l)
in_or_not same y [] = no (λ i. i)
in_or_not same y (x ∷ l) = dec_either (same x y) (in_or_not same y l)

pub AreApart_nil : {X : Type 0} → AreApart {A = X} []
AreApart_nil i j d l h = absurd (omega arith)

pub AreApart_head : {X : Type 0} (x : X) (xs : List X) → AreApart (x ∷ xs) → ¬ Contains xs x
AreApart_head x xs a h = let inside = h.1 in a 0 (suc h.0) x (omega arith) (omega arith) (sym h.2)

pub AreApart_tail : {X : Type 0} (x : X) (xs : List X) → AreApart (x ∷ xs) → AreApart xs
AreApart_tail x xs a i j d l h = a (suc i) (suc j) d (omega arith) (omega arith)

pub AreApart_cons : {X : Type 0} (x : X) (xs : List X) → ¬ Contains xs x → AreApart xs → AreApart (x ∷ xs)
AreApart_cons x xs n a = AllPairs-cons (λ x y. x ≢ y) x xs (λ i d l e. n (subst (Contains xs) (sym e) (Contains-get_or xs i d l))) a

module _ {X : Type 0} where
  pub Contains_nil : (y : X) → ¬ Contains [] y
  Contains_nil y h = let none = h.1 in absurd (omega arith)

  pub Contains_head : (x : X) (xs : List X) → Contains (x ∷ xs) x
  Contains_head x xs = (0, omega arith, refl)

  pub Contains_tail : (x : X) (xs : List X) (y : X) → Contains xs y → Contains (x ∷ xs) y
  Contains_tail x xs y h = let inside = h.1 in (suc h.0, omega arith, h.2)

  pub Contains_cases : (x : X) (xs : List X) (y : X) → Contains (x ∷ xs) y → (x ≡ y) ⊎ Contains xs y
  Contains_cases x xs y (zero, inside, e) = inl e
  Contains_cases x xs y (suc i, inside, e) = inr (i, omega arith, e)

  pub Contains_take : (n : ℕ) (xs : List X) (y : X) → Contains (take n xs) y → Contains xs y
  Contains_take n xs y h = subst (λ l. Contains l y) (take-append-drop n xs) (Contains-append_left (take n xs) (drop n xs) y h)

  -- the list before a member and the list after it
  pub Contains_split : (xs : List X) (y : X) → Contains xs y → (before : List X) × (after : List X) × (xs ≡ before ++ y ∷ after)
  Contains_split [] y h = absurd (Contains_nil y h)
  Contains_split (x ∷ xs) y h = go (Contains_cases x xs y h) (Contains_split xs y)
    where
      go : (x ≡ y) ⊎ Contains xs y → (Contains xs y → (before : List X) × (after : List X) × (xs ≡ before ++ y ∷ after)) → (before : List X) × (after : List X) × (x ∷ xs ≡ before ++ y ∷ after)
      go (inl e) rest = ([], xs, ap (λ z. z ∷ xs) e)
      go (inr h) rest = let r = rest h in (x ∷ r.0, r.1, ap (λ l. x ∷ l) r.2)

  pub Contains_without : (before : List X) (x : X) (after : List X) (y : X) → Contains (before ++ x ∷ after) y → ¬ (x ≡ y) → Contains (before ++ after) y
  Contains_without before x after y h n = go (Contains-append_cases before (x ∷ after) y h)
    where
      in_rest : (x ≡ y) ⊎ Contains after y → Contains (before ++ after) y
      in_rest (inl e) = absurd (n e)
      in_rest (inr h) = Contains-append_right before after y h

      go : Contains before y ⊎ Contains (x ∷ after) y → Contains (before ++ after) y
      go (inl h) = Contains-append_left before after y h
      go (inr h) = in_rest (Contains_cases x after y h)

  pub Contains_map : {Y : Type 0} (f : X → Y) (xs : List X) (x : X) → Contains xs x → Contains (map f xs) (f x)
  Contains_map f xs x h = in_contains (f x) (map f xs) (map_in f x xs (contains_in x xs h))

  pub Contains_of_map : {Y : Type 0} (f : X → Y) (xs : List X) (y : Y) → Contains (map f xs) y → (x : X) × Contains xs x × (f x ≡ y)
  Contains_of_map f xs y h = let r = from_map f y xs (contains_in y (map f xs) h) in (r.0, in_contains r.0 xs r.1, r.2)

  pub AreApart_push : (xs : List X) (y : X) → AreApart xs → ¬ Contains xs y → AreApart (xs ++ y ∷ [])
  AreApart_push xs y a n = all_pairs_push (λ x z. x ≢ z) xs y a (λ i d l e. n (subst (Contains xs) e (Contains-get_or xs i d l)))

  pub AreApart_take : (n : ℕ) (xs : List X) → AreApart xs → AreApart (take n xs)
  AreApart_take zero xs a = AreApart_nil
  AreApart_take (suc n) [] a = AreApart_nil
  AreApart_take (suc n) (x ∷ xs) a = AreApart_cons x (take n xs) (λ h. AreApart_head x xs a (Contains_take n xs x h)) (AreApart_take n xs (AreApart_tail x xs a))

  pub AreApart_map : {Y : Type 0} (f : X → Y) (xs : List X) → ((x y : X) → Contains xs x → Contains xs y → f x ≡ f y → x ≡ y) → AreApart xs → AreApart (map f xs)
  AreApart_map f [] inj a = AreApart_nil
  AreApart_map f (x ∷ xs) inj a = AreApart_cons (f x) (map f xs)
      (λ h. let r = Contains_of_map f xs (f x) h in AreApart_head x xs a (subst (Contains xs) (inj r.0 x (Contains_tail x xs r.0 r.1) (Contains_head x xs) r.2) r.1))
      (AreApart_map f xs (λ y z p q. inj y z (Contains_tail x xs y p) (Contains_tail x xs z q)) (AreApart_tail x xs a))

  -- a list of different members is no longer than a list that has them all
  pub AreApart_length : (xs ys : List X) → AreApart xs → ((x : X) → Contains xs x → Contains ys x) → length xs ≤ length ys
  AreApart_length [] ys a h = omega arith
  AreApart_length (x ∷ xs) ys a h =
      let s = Contains_split ys x (h x (Contains_head x xs)) in
      let fewer : length xs ≤ length (s.0 ++ s.1) = AreApart_length xs (s.0 ++ s.1) (AreApart_tail x xs a)
      (λ y g. Contains_without s.0 x s.1 y (subst (λ l. Contains l y) s.2 (h y (Contains_tail x xs y g))) (λ e. AreApart_head x xs a (subst (Contains xs) (sym e) g))) in
      let all : length ys ≡ length (s.0 ++ x ∷ s.1) = ap length s.2 in
      omega (arith, length-append s.0 s.1, length-append s.0 (x ∷ s.1))

  pub AreApart_same_length : (xs ys : List X) → AreApart xs → AreApart ys → ((x : X) → Contains xs x → Contains ys x) → ((x : X) → Contains ys x → Contains xs x) → length xs ≡ length ys
  AreApart_same_length xs ys a b h g = let less = AreApart_length xs ys a h in let more = AreApart_length ys xs b g in omega arith

  module _ (same : (x y : X) → Dec (x ≡ y)) where
    -- and if it is as long, it has each member of that list
    pub AreApart_onto : (xs ys : List X) → AreApart xs → ((x : X) → Contains xs x → Contains ys x) → length ys ≤ length xs → (y : X) → Contains ys y → Contains xs y
    AreApart_onto xs ys a h le y g = go (map_dec (in_contains y xs) (contains_in y xs) (in_or_not same y xs))
      where
        there : (x : X) → (y ≡ x) ⊎ Contains xs x → Contains ys x
        there x (inl e) = subst (Contains ys) e g
        there x (inr p) = h x p

        go : Dec (Contains xs y) → Contains xs y
        go (yes p) = p
        go (no n) = let longer = AreApart_length (y ∷ xs) ys (AreApart_cons y xs n a) (λ x p. there x (Contains_cases y xs x p)) in absurd (omega arith)

    -- a map of different members into their list that keeps them apart reaches each
    pub AreApart_reached : (f : X → X) (xs : List X) → AreApart xs → ((x : X) → Contains xs x → Contains xs (f x)) → ((x y : X) → Contains xs x → Contains xs y → f x ≡ f y → x ≡ y)
        → (y : X) → Contains xs y → (x : X) × Contains xs x × (f x ≡ y)
    AreApart_reached f xs a into inj y h = Contains_of_map f xs y (AreApart_onto (map f xs) xs (AreApart_map f xs inj a)
        (λ z c. let r = Contains_of_map f xs z c in subst (Contains xs) r.2 (into r.0 r.1))
        (let same = length-map xs f in omega arith) y h)

module _ {E : Type 0} (k : FieldOn E) where
  same_value : (x y : E) → (is_yes (k.same x y) ≡ true → x ≡ y) × (x ≡ y → is_yes (k.same x y) ≡ true)
  same_value x y = (at (k.same x y), back (k.same x y))
    where
      at : (d : Dec (x ≡ y)) → is_yes d ≡ true → x ≡ y
      at (yes p) e = p
      at (no n) e = absurd (true≢false (sym e))

      back : (d : Dec (x ≡ y)) → x ≡ y → is_yes d ≡ true
      back (yes p) e = refl
      back (no n) e = absurd (n e)

  pub is_same_decides : (g h : List E) → (is_same k g h ≡ true → g ≡ h) × (g ≡ h → is_same k g h ≡ true)
  is_same_decides = pointwise_decides same_value

  pub cells_or_not : (g h : List E) → Dec (g ≡ h)
  cells_or_not g h = go (is_same k g h) refl
    where
      go : (b : Bool) → is_same k g h ≡ b → Dec (g ≡ h)
      go true e = yes ((is_same_decides g h).0 e)
      go false e = no (λ s. true≢false (sym ((is_same_decides g h).1 s) ∙ e))

  is_found_from : (gs : List (List E)) (g : List E) → is_found k gs g ≡ true → Contains gs g
  is_found_from [] g e = absurd (true≢false (sym e))
  is_found_from (h ∷ gs) g e = go (is_same k g h) refl e (is_found_from gs g)
    where
      go : (b : Bool) → is_same k g h ≡ b → (b || is_found k gs g) ≡ true → (is_found k gs g ≡ true → Contains gs g) → Contains (h ∷ gs) g
      go true s e rest = (0, omega arith, sym ((is_same_decides g h).0 s))
      go false s e rest = Contains_tail h gs g (rest e)

  is_found_of : (gs : List (List E)) (g : List E) → Contains gs g → is_found k gs g ≡ true
  is_found_of [] g h = absurd (Contains_nil g h)
  is_found_of (x ∷ gs) g h = go (is_same k g x) refl (Contains_cases x gs g h) (is_found_of gs g)
    where
      go : (b : Bool) → is_same k g x ≡ b → (x ≡ g) ⊎ Contains gs g → (Contains gs g → is_found k gs g ≡ true) → (b || is_found k gs g) ≡ true
      go true s c rest = refl
      go false s (inl e) rest = absurd (true≢false (sym ((is_same_decides g x).1 (sym e)) ∙ s))
      go false s (inr h) rest = rest h

  -- it is found exactly where the list has it
  pub is_found_decides : (gs : List (List E)) (g : List E) → (is_found k gs g ≡ true → Contains gs g) × (Contains gs g → is_found k gs g ≡ true)
  is_found_decides gs g = (is_found_from gs g, is_found_of gs g)

  module _ (gs : List (List E)) (g : List E) where
    -- the list is as it was, or has one member more
    pub with_new_by : (P : List (List E) → Type 0) → (Contains gs g → P gs) → (¬ Contains gs g → P (gs ++ g ∷ [])) → P (with_new k gs g)
    with_new_by P there new = go (is_found k gs g) refl
      where
        go : (b : Bool) → is_found k gs g ≡ b → P (cond b gs (gs ++ g ∷ []))
        go true e = there (is_found_from gs g e)
        go false e = new (λ h. true≢false (sym (is_found_of gs g h) ∙ e))

    pub with_new_found : is_found k gs g ≡ true → with_new k gs g ≡ gs
    with_new_found e = ap (λ b. cond b gs (gs ++ g ∷ [])) e

    pub with_new_not_found : is_found k gs g ≡ false → with_new k gs g ≡ gs ++ g ∷ []
    with_new_not_found e = ap (λ b. cond b gs (gs ++ g ∷ [])) e

    pub with_new_apart : AreApart gs → AreApart (with_new k gs g)
    with_new_apart a = with_new_by AreApart (λ _. a) (AreApart_push gs g a)

    pub with_new_old : (x : List E) → Contains gs x → Contains (with_new k gs g) x
    with_new_old x h = with_new_by (λ l. Contains l x) (λ _. h) (λ _. Contains-append_left gs (g ∷ []) x h)

    pub with_new_last : Contains (with_new k gs g) g
    with_new_last = with_new_by (λ l. Contains l g) (λ h. h) (λ _. Contains-push gs g)

    pub with_new_members : (x : List E) → Contains (with_new k gs g) x → Contains gs x ⊎ (g ≡ x)
    with_new_members x = with_new_by (λ l. Contains l x → Contains gs x ⊎ (g ≡ x)) (λ _ h. inl h) (λ _. Contains-push_cases gs g x)

    pub with_new_all : (P : List E → Type 0) → All P gs → P g → All P (with_new k gs g)
    with_new_all P a p = with_new_by (All P) (λ _. a) (λ _. All-push P gs g a p)

    pub length_with_new : (length (with_new k gs g) ≡ length gs) ⊎ (length (with_new k gs g) ≡ length gs + 1)
    length_with_new = with_new_by (λ l. (length l ≡ length gs) ⊎ (length l ≡ length gs + 1)) (λ _. inl refl) (λ _. inr (length_push gs g))

    pub with_new_longer : length gs ≤ length (with_new k gs g)
    with_new_longer = with_new_by (λ l. length gs ≤ length l) (λ _. omega arith) (λ _. let more = length_push gs g in omega arith)

    -- the list is its beginning
    pub with_new_start : (i : ℕ) (d : List E) → i < length gs → get_or (with_new k gs g) i d ≡ get_or gs i d
    with_new_start i d inside = with_new_by (λ l. get_or l i d ≡ get_or gs i d) (λ _. refl) (λ _. get_or_append_left gs (g ∷ []) d i inside)
