-- The grading of a space on all keys, and that each degree has finitely many keys.
--
--   AllPositive ws        no weight is 0
--   weight ws i a         the weighted degree of exponents, the first of which is that of variable i; a variable
--                         beyond the weights has its place, from 1, as weight
--   height ss q           the shift of a position; beyond the shifts it grows with the position
--   exponent_lists n d    all lists of n exponents that are at most d
--   degree S t            the degree of a key in the space S
--   rank S t              how many keys of the degree of t are smaller than t, where no weight is 0
use Rattle.std.proofs.Common.{◌≡◌, ℕ, zero, suc, ◌+◌, ◌*◌, ◌<◌, ◌≤◌, Bool, true, false, cond, List, [], ◌∷◌, length, sym, ap, ap₂, ◌∙◌, refl, subst, arith, inl, inr}
use Rattle.std.specs.declared.cmp.Ordering.{Ordering}
use Rattle.std.specs.declared.cmp.Ordering.TheVariants.{Less}
use Rattle.std.specs.Ordering.{is_lt}
use Rattle.std.proofs.lemmas.Cmp.{tied_itself}
use native.Mathlib.Nat.{le_refl}
use Rattle.alg_core.specs.Monomials.{Mon, monomials, mono, exponent, trimmed, trimmed_cons, added, exponent_added, exponent_mul, exponents, mono_exponents}
use Rattle.alg_core.specs.Keys.{Key, times_key}
use Rattle.alg_core.specs.Spaces.{SpaceOver}
use Rattle.alg_core.specs.SpaceOrder.{key_compare, key_total}
use Rattle.alg_core.specs.Lists.{In, pairs, in_pairs, numbers_below, in_numbers_below}

-- no weight is 0
abbrev pub AllPositive : List ℕ → Type 0
AllPositive [] = Unit {0}
AllPositive (w ∷ ws) = (0 < w) × AllPositive ws

-- the degree of a monomial: a variable past the weights, the i-th, has the weight i + 1
unfoldable pub weight : List ℕ → ℕ → List ℕ → ℕ
weight ws i [] = 0
weight [] i (x ∷ a) = suc i * x + weight [] (suc i) a
weight (w ∷ ws) i (x ∷ a) = w * x + weight ws (suc i) a

-- the degree of a position: past the shifts it grows
unfoldable pub height : List ℕ → ℕ → ℕ
height [] q = q
height (s ∷ ss) zero = s
height (s ∷ ss) (suc q) = height ss q

pub weight_ext : (ws : List ℕ) (i : ℕ) (a b : List ℕ) → ((j : ℕ) → exponent a j ≡ exponent b j) → weight ws i a ≡ weight ws i b
unfolding weight
weight_ext ws i [] [] e = refl
weight_ext [] i [] (y ∷ b) e = let h = weight_ext [] (suc i) [] b (λ j. e (suc j)) in let z : 0 ≡ y = e 0 in nothing (suc i) y _ z h
  where
    nothing : (k y r : ℕ) → 0 ≡ y → 0 ≡ r → 0 ≡ k * y + r
    nothing k zero r z h = omega arith
    nothing k (suc y) r z h = absurd (omega arith)
weight_ext (w ∷ ws) i [] (y ∷ b) e = let h = weight_ext ws (suc i) [] b (λ j. e (suc j)) in let z : 0 ≡ y = e 0 in nothing w y _ z h
  where
    nothing : (k y r : ℕ) → 0 ≡ y → 0 ≡ r → 0 ≡ k * y + r
    nothing k zero r z h = omega arith
    nothing k (suc y) r z h = absurd (omega arith)
weight_ext [] i (x ∷ a) [] e = let h = weight_ext [] (suc i) a [] (λ j. e (suc j)) in let z : x ≡ 0 = e 0 in nothing (suc i) x _ z h
  where
    nothing : (k y r : ℕ) → y ≡ 0 → r ≡ 0 → k * y + r ≡ 0
    nothing k zero r z h = omega arith
    nothing k (suc y) r z h = absurd (omega arith)
weight_ext (w ∷ ws) i (x ∷ a) [] e = let h = weight_ext ws (suc i) a [] (λ j. e (suc j)) in let z : x ≡ 0 = e 0 in nothing w x _ z h
  where
    nothing : (k y r : ℕ) → y ≡ 0 → r ≡ 0 → k * y + r ≡ 0
    nothing k zero r z h = omega arith
    nothing k (suc y) r z h = absurd (omega arith)
weight_ext [] i (x ∷ a) (y ∷ b) e = ap₂ (λ u v. suc i * u + v) (e 0) (weight_ext [] (suc i) a b (λ j. e (suc j)))
weight_ext (w ∷ ws) i (x ∷ a) (y ∷ b) e = ap₂ (λ u v. w * u + v) (e 0) (weight_ext ws (suc i) a b (λ j. e (suc j)))

weight_added : (ws : List ℕ) (i : ℕ) (a b : List ℕ) → weight ws i (added a b) ≡ weight ws i a + weight ws i b
unfolding weight added
weight_added ws i [] b = omega arith
weight_added [] i (x ∷ a) [] = omega arith
weight_added (w ∷ ws) i (x ∷ a) [] = omega arith
weight_added [] i (x ∷ a) (y ∷ b) = let h = weight_added [] (suc i) a b in omega arith
weight_added (w ∷ ws) i (x ∷ a) (y ∷ b) = let h = weight_added ws (suc i) a b in omega arith

pub weight_mul : (ws : List ℕ) (m a : Mon) → weight ws 0 (monomials.◌·◌ m a).0 ≡ weight ws 0 m.0 + weight ws 0 a.0
weight_mul ws m a = weight_ext ws 0 _ (added m.0 a.0) (λ i. exponent_mul m a i ∙ sym (exponent_added m.0 a.0 i)) ∙ weight_added ws 0 m.0 a.0

-- how long, how high, how far a key of a degree can be
mul_up : (w x : ℕ) → 0 < w → x ≤ w * x
mul_up zero x h = absurd (omega arith)
mul_up (suc w) x h = omega arith

Bounded : ℕ → List ℕ → Type 0
Bounded d [] = Unit {0}
Bounded d (x ∷ a) = (x ≤ d) × Bounded d a

bounded_more : (d e : ℕ) (a : List ℕ) → d ≤ e → Bounded d a → Bounded e a
unfolding Bounded
bounded_more d e [] h b = b
bounded_more d e (x ∷ a) h b = (omega (arith, b.0), bounded_more d e a h b.1)

bounded_weight : (ws : List ℕ) (i : ℕ) (a : List ℕ) → AllPositive ws → Bounded (weight ws i a) a
unfolding Bounded weight
bounded_weight ws i [] h = tt
bounded_weight [] i (x ∷ a) h = let m : x ≤ suc i * x = mul_up (suc i) x (omega arith) in (omega arith, bounded_more (weight [] (suc i) a) _ a (omega arith) (bounded_weight [] (suc i) a tt))
bounded_weight (w ∷ ws) i (x ∷ a) h = let m : x ≤ w * x = mul_up w x h.0 in (omega arith, bounded_more (weight ws (suc i) a) _ a (omega arith) (bounded_weight ws (suc i) a h.1))

-- a list with no zero at its end
Ends : List ℕ → Type 0
Ends [] = Unit {0}
Ends (x ∷ []) = 0 < x
Ends (x ∷ y ∷ l) = Ends (y ∷ l)

ends_trimmed_cons : (x : ℕ) (l : List ℕ) → Ends l → Ends (trimmed_cons x l)
unfolding Ends trimmed_cons
ends_trimmed_cons zero [] h = tt
ends_trimmed_cons zero (y ∷ l) h = h
ends_trimmed_cons (suc x) [] h = omega arith
ends_trimmed_cons (suc x) (y ∷ l) h = h

ends_trimmed : (a : List ℕ) → Ends (trimmed a)
unfolding Ends trimmed
ends_trimmed [] = tt
ends_trimmed (x ∷ a) = ends_trimmed_cons x (trimmed a) (ends_trimmed a)

long_past : (i : ℕ) (x : ℕ) (a : List ℕ) → Ends (x ∷ a) → i + length (x ∷ a) ≤ weight [] i (x ∷ a)
unfolding Ends weight
long_past i x [] h = let m : suc i ≤ suc i * x = at (suc i) x h in omega arith
  where
    at : (k x : ℕ) → 0 < x → k ≤ k * x
    at k zero h = absurd (omega arith)
    at k (suc x) h = omega arith
long_past i x (y ∷ l) h = let ih = long_past (suc i) y l h in omega arith

long : (ws : List ℕ) (i : ℕ) (a : List ℕ) → Ends a → length a ≤ length ws + weight ws i a
unfolding Ends weight
long ws i [] h = omega arith
long [] i (x ∷ a) h = let p = long_past i x a h in omega arith
long (w ∷ ws) i (x ∷ []) h = omega arith
long (w ∷ ws) i (x ∷ y ∷ l) h = let p = long ws (suc i) (y ∷ l) h in omega arith

far : (ss : List ℕ) (q : ℕ) → q ≤ length ss + height ss q
unfolding height
far [] q = omega arith
far (s ∷ ss) zero = omega arith
far (s ∷ ss) (suc q) = let h = far ss q in omega arith

-- all lists of n exponents that are at most d
unfoldable pub exponent_lists : ℕ → ℕ → List (List ℕ)
exponent_lists zero d = [] ∷ []
exponent_lists (suc n) d = pairs ◌∷◌ (numbers_below (suc d)) (exponent_lists n d)

in_exponent_lists : (n d : ℕ) (a : List ℕ) → Bounded d a → In (exponents n a) (exponent_lists n d)
unfolding exponent_lists Bounded exponents
in_exponent_lists zero d a h = inl refl
in_exponent_lists (suc n) d [] h = in_pairs ◌∷◌ 0 (exponents n []) (numbers_below (suc d)) (exponent_lists n d) (in_numbers_below 0 (suc d) (omega arith)) (in_exponent_lists n d [] tt)
in_exponent_lists (suc n) d (x ∷ a) h = in_pairs ◌∷◌ x (exponents n a) (numbers_below (suc d)) (exponent_lists n d) (in_numbers_below x (suc d) (let b = h.0 in omega arith)) (in_exponent_lists n d a h.1)

-- those that are no greater in degree
pub in_exponent_lists_degree : (ws : List ℕ) (n d : ℕ) (a : List ℕ) → AllPositive ws → weight ws 0 a ≤ d → In (exponents n a) (exponent_lists n d)
in_exponent_lists_degree ws n d a positive h = in_exponent_lists n d a (bounded_more (weight ws 0 a) d a h (bounded_weight ws 0 a positive))

-- how many members of a list pass
count : {A : Type 0} → (A → Bool) → List A → ℕ
count f [] = 0
count f (x ∷ l) = cond (f x) 1 0 + count f l

count_le : {A : Type 0} (f g : A → Bool) (l : List A) → ((x : A) → f x ≡ true → g x ≡ true) → count f l ≤ count g l
unfolding count
count_le f g [] h = le_refl 0
count_le f g (x ∷ l) h = at (f x) (g x) (h x) (count_le f g l h)
  where
    at : (a b : Bool) → (a ≡ true → b ≡ true) → count f l ≤ count g l → cond a 1 0 + count f l ≤ cond b 1 0 + count g l
    at a b h ih = grind arith

count_less : {A : Type 0} (f g : A → Bool) (l : List A) (x : A) → ((x : A) → f x ≡ true → g x ≡ true) → In x l → f x ≡ false → g x ≡ true → count f l < count g l
unfolding count
count_less f g [] x h i p q = absurd i
count_less f g (y ∷ l) x h (inl e) p q = at (f y) (g y) (ap f e ∙ p) (ap g e ∙ q) (count_le f g l h)
  where
    at : (a b : Bool) → a ≡ false → b ≡ true → count f l ≤ count g l → cond a 1 0 + count f l < cond b 1 0 + count g l
    at a b p q ih = grind arith
count_less f g (y ∷ l) x h (inr i) p q = at (f y) (g y) (h y) (count_less f g l x h i p q)
  where
    at : (a b : Bool) → (a ≡ true → b ≡ true) → count f l < count g l → cond a 1 0 + count f l < cond b 1 0 + count g l
    at a b h ih = grind arith

module _ {E : Type 0} (S : SpaceOver E) where
  -- the weighted degree of the monomial and the shift of the position
  unfoldable pub degree : Key → ℕ
  degree t = weight S.weights 0 t.1.0 + height S.shifts t.0

  pub degree_times_key : (m : Mon) (t : Key) → degree (times_key m t) ≡ weight S.weights 0 m.0 + degree t
  unfolding degree
  degree_times_key m t = let w = weight_mul S.weights m t.1 in omega arith

module _ {E : Type 0} (S : SpaceOver E) (positive : AllPositive S.weights) where
  abbrev order : Key → Key → Ordering
  order = key_compare (length S.weights) S.order

  below : Key → Key → Bool
  below t u = is_lt (order u t)

  all : ℕ → List Key
  all d = pairs (λ q l. (q, mono l)) (numbers_below (suc (length S.shifts + d))) (exponent_lists (length S.weights + d) d)

  in_all : (t : Key) → In t (all (degree S t))
  unfolding all degree
  in_all t =
      let d = weight S.weights 0 t.1.0 + height S.shifts t.0 in
      let n = length S.weights + d in
      let short : length t.1.0 ≤ n = let h = long S.weights 0 t.1.0 (subst Ends t.1.1 (ends_trimmed t.1.0)) in omega arith in
      let same : mono (exponents n t.1.0) ≡ t.1 = mono_exponents n t.1 short in
      let low : t.0 < suc (length S.shifts + d) = let h = far S.shifts t.0 in omega arith in
      let here = numbers_below (suc (length S.shifts + d)) in
      subst (λ m. In (t.0, m) (pairs (λ q l. (q, mono l)) here (exponent_lists n d))) same
      (in_pairs (λ q l. (q, mono l)) t.0 (exponents n t.1.0) here (exponent_lists n d) (in_numbers_below _ _ low) (in_exponent_lists_degree S.weights n d t.1.0 positive (omega arith)))

  is_less : (r : Ordering) → is_lt r ≡ true → r ≡ Less
  is_less r h = grind arith

  -- how many keys of its degree are smaller
  pub rank : Key → ℕ
  rank t = count (below t) (all (degree S t))

  pub rank_less : (s t : Key) → degree S s ≡ degree S t → order s t ≡ Less → rank s < rank t
  unfolding rank below
  rank_less s t e h = subst (λ d. count (below s) (all (degree S s)) < count (below t) (all d)) e
      (count_less (below s) (below t) (all (degree S s)) s (λ u q. ap is_lt ((key_total (length S.weights) S.order).trans u s t (is_less _ q) h)) (in_all s)
      (ap is_lt (tied_itself (key_total (length S.weights) S.order) s)) (ap is_lt h))
