-- The pairs of places of a list, as `itertools` gives them, and what the search for a bad pair keeps along them.
use Rattle.std.proofs.Common.{◌≡◌, ◌⊎◌, ℕ, zero, suc, ◌+◌, ◌-◌, ◌<◌, ◌≤◌, List, [], ◌∷◌, length, get_or, map, sym, ap, ◌∙◌, refl, subst, arith, inl, inr}
use Rattle.std.specs.Prelude.{flat_map}
use native.Mathlib.Decide.{ℕ_discrete}
use Rattle.std.specs.List.{range_with_len}
use Rattle.std.specs.Prelude.{Option, None, Result, Ok, MatchResult, ⊤}
use Rattle.std.specs.Iterator.Runs.{WholeRun, YieldsRun}
use Rattle.std.proofs.lemmas.List.{map-id}
use Rattle.std.proofs.lemmas.Iterator.{YieldsList}
use Rattle.std.proofs.lemmas.Iterator.Consumers.{YieldsList-end, YieldsList-at}
use Rattle.std.proofs.lemmas.List.FromFn.{get_or-range_with_len, length-range_with_len}
use Rattle.itertools.specs.Odometer.{ways, numbers}
use Rattle.itertools.specs.Pool.{ascending_low, ascending_high, ClonesAt, reads_tuple}
use Rattle.alg_core.specs.Lists.{In, map_in, in_left, in_right}
use Rattle.alg_core.specs.declared.term.Term.{Term}
use Rattle.alg_core.specs.Spaces.{SpaceOver}
use Rattle.alg_core.proofs.Members.{in_cases, from_map}
use Rattle.poly_module.specs.Modules.{listed}
use Rattle.poly_module.specs.SpaceVectors.{vectors_of}
use Rattle.module_groebner.specs.SVectors.{IsTreated}

in_flat_map : {A B : Type 0} (f : A → List B) (x : A) (y : B) (xs : List A) → In x xs → In y (f x) → In y (flat_map f xs)
in_flat_map f x y [] h g = absurd h
in_flat_map f x y (z ∷ xs) (inl e) g = in_left y (f z) (flat_map f xs) (subst (λ u. In y (f u)) (sym e) g)
in_flat_map f x y (z ∷ xs) (inr h) g = in_right y (f z) (flat_map f xs) (in_flat_map f x y xs h g)

from_flat_map : {A B : Type 0} (f : A → List B) (y : B) (xs : List A) → In y (flat_map f xs) → (x : A) × In x xs × In y (f x)
from_flat_map f y [] h = absurd h
from_flat_map {A} f y (z ∷ xs) h = go (in_cases y (f z) (flat_map f xs) h) (from_flat_map f y xs)
  where
    go : In y (f z) ⊎ In y (flat_map f xs) → (In y (flat_map f xs) → (x : A) × In x xs × In y (f x)) → (x : A) × In x (z ∷ xs) × In y (f x)
    go (inl p) rest = (z, inl refl, p)
    go (inr p) rest = let r = rest p in (r.0, inr r.1, r.2)

in_numbers : (a n x : ℕ) → a ≤ x → x < a + n → In x (numbers a n)
in_numbers a zero x low high = absurd (omega arith)
in_numbers a (suc n) x low high = go (ℕ_discrete a x) (in_numbers (a + 1) n x)
  where
    go : Dec (a ≡ x) → (a + 1 ≤ x → x < a + 1 + n → In x (numbers (a + 1) n)) → In x (numbers a (suc n))
    go (yes e) rest = inl e
    go (no d) rest = inr (rest (omega arith) (omega arith))

from_numbers : (a n x : ℕ) → In x (numbers a n) → (a ≤ x) × (x < a + n)
from_numbers a zero x h = absurd h
from_numbers a (suc n) x (inl e) = (omega arith, omega arith)
from_numbers a (suc n) x (inr h) = let r = from_numbers (a + 1) n x h in let low = r.0 in let high = r.1 in (omega arith, omega arith)

-- the items of a whole run of an iterator whose items are known
pub whole_run : {A S : Type 0} {steps : S → Option A → S → Type 0} {s : S} (items xs : List A) → YieldsList steps (λ x. x) s xs → WholeRun steps s (λ p. items ≡ p.items) → items ≡ xs
unfolding YieldsRun
whole_run items xs yields (p, from, whole, is) =
    let drains = p.gave.0 in
    let next = drains.2 whole in
    is ∙ sym (map-id p.items) ∙ (YieldsList-end (YieldsList-at from yields) p.items drains.0 drains.1 None next.0 refl next.1).0

-- the choices of two places
abbrev pub choices : ℕ → List (List ℕ)
choices n = ways ascending_low (ascending_high n 2) 2 []

abbrev seconds : ℕ → ℕ → List (List ℕ)
seconds n a = ways ascending_low (ascending_high n 2) 1 (a ∷ [])

-- two rising places of a list of n members
pub record IsRising (n : ℕ) (ds : List ℕ) : Type 0 where
  pub first : ℕ
  pub second : ℕ
  pub is : ds ≡ first ∷ second ∷ []
  pub rises : first < second
  pub inside : second < n

pub in_choices : (n a b : ℕ) → a < b → b < n → In (a ∷ b ∷ []) (choices n)
in_choices n a b rises inside =
    let last : In (b ∷ []) (seconds n a) = in_flat_map (λ e. map (λ ds. e ∷ ds) ([] ∷ [])) b (b ∷ []) (numbers (a + 1) (n + 1 + 1 - 2 - (a + 1))) (in_numbers (a + 1) (n + 1 + 1 - 2 - (a + 1)) b (omega arith) (omega arith)) (inl refl) in
    in_flat_map (λ d. map (λ ds. d ∷ ds) (seconds n d)) a (a ∷ b ∷ []) (numbers 0 (n + 1 + 0 - 2 - 0)) (in_numbers 0 (n + 1 + 0 - 2 - 0) a (omega arith) (omega arith)) (map_in (λ ds. a ∷ ds) (b ∷ []) (seconds n a) last)

pub from_choices : (n : ℕ) (ds : List ℕ) → In ds (choices n) → IsRising n ds
from_choices n ds h =
    let r = from_flat_map (λ d. map (λ ds. d ∷ ds) (seconds n d)) ds (numbers 0 (n + 1 + 0 - 2 - 0)) h in
    let s = from_map (λ es. r.0 ∷ es) ds (seconds n r.0) r.2 in
    let t = from_flat_map (λ e. map (λ ds. e ∷ ds) ([] ∷ [])) s.0 (numbers (r.0 + 1) (n + 1 + 1 - 2 - (r.0 + 1))) s.1 in
    let bounds = from_numbers (r.0 + 1) (n + 1 + 1 - 2 - (r.0 + 1)) t.0 t.1 in
    let low = bounds.0 in
    let high = bounds.1 in record {
      first = r.0;
      second = t.0;
      is = sym s.2 ∙ ap (λ l. r.0 ∷ l) (single t.0 s.0 t.2);
      rises = omega arith;
      inside = omega arith;
    }
  where
    single : (e : ℕ) (l : List ℕ) → In l ((e ∷ []) ∷ []) → l ≡ e ∷ []
    single e l (inl p) = sym p
    single e l (inr p) = absurd p

-- the two places that are read from a pool for a choice of its places
abbrev pub IsRead : List ℕ → List ℕ → ℕ × ℕ → Type 0
IsRead = reads_tuple (λ x y. y ≡ x) (λ (t : ℕ × ℕ). t.0 ∷ t.1 ∷ [])

-- the tuple that is read for two rising places of the numbers below n
pub read_rising : (n : ℕ) (ds : List ℕ) (p : ℕ × ℕ) → IsRising n ds → IsRead (range_with_len 0 n) ds p → (ds ≡ p.0 ∷ p.1 ∷ []) × (p.0 < p.1) × (p.1 < n)
read_rising n ds p r (vs, clones, rest, is) =
    at vs (subst (λ l. ClonesAt (λ x y. y ≡ x) (range_with_len 0 n) l vs) r.is clones) is
  where
    heads : {A : Type 0} (d x y : A) (xs ys : List A) → x ∷ xs ≡ y ∷ ys → x ≡ y
    heads d x y xs ys e = ap (λ l. get_or l 0 d) e

    tails : {A : Type 0} (d x y u v : A) (xs ys : List A) → x ∷ u ∷ xs ≡ y ∷ v ∷ ys → u ≡ v
    tails d x y u v xs ys e = ap (λ l. get_or l 1 d) e

    at : (vs : List ℕ) → ClonesAt (λ x y. y ≡ x) (range_with_len 0 n) (r.first ∷ r.second ∷ []) vs → vs ≡ p.0 ∷ p.1 ∷ rest → (ds ≡ p.0 ∷ p.1 ∷ []) × (p.0 < p.1) × (p.1 < n)
    at [] c e = absurd c
    at (x ∷ []) c e = absurd c.1
    at (x ∷ y ∷ z ∷ vs) c e = absurd c.1.1
    at (x ∷ y ∷ []) c e =
        let rises = r.rises in
        let inside = r.inside in
        let one : x ≡ p.0 = heads x x p.0 (y ∷ []) (p.1 ∷ rest) e in
        let two : y ≡ p.1 = tails x x p.0 y p.1 [] rest e in
        let first : x ≡ 0 + r.first = c.0 ∙ get_or-range_with_len 0 n r.first x (omega arith) in
        let second : y ≡ 0 + r.second = c.1.0 ∙ get_or-range_with_len 0 n r.second y (omega arith) in
        let p0 : r.first ≡ p.0 = omega arith in
        let p1 : r.second ≡ p.1 = omega arith in
        (r.is ∙ ap (λ u. u ∷ r.second ∷ []) p0 ∙ ap (λ u. p.0 ∷ u ∷ []) p1, omega arith, omega arith)

module _ {E M : Type 0} (S : SpaceOver E) (exps : M → List ℕ) (list : List (List (Term E M))) where
  -- the pairs that are left, of the numbers below the length of the list; every other pair is treated
  pub record PairsLeft (pool : List ℕ) (left : List (List ℕ)) : Type 0 where
    pub pool_is : pool ≡ range_with_len 0 (length list)
    pub rising : (ds : List ℕ) → In ds left → IsRising (length list) ds
    pub others : (a b : ℕ) → a < b → b < length list → IsTreated S (listed S.field (vectors_of S exps list)) a b ⊎ In (a ∷ b ∷ []) left

  pub pairs_start : (pool : List ℕ) → pool ≡ range_with_len 0 (length list) → (left : List (List ℕ)) → left ≡ choices (length pool) → PairsLeft pool left
  pairs_start pool is left all =
      let same : left ≡ choices (length list) = all ∙ ap choices (ap length is ∙ length-range_with_len 0 (length list)) in record {
        pool_is = is;
        rising = λ ds h. from_choices (length list) ds (subst (In ds) same h);
        others = λ a b rises inside. inr (subst (In (a ∷ b ∷ [])) (sym same) (in_choices (length list) a b rises inside));
      }

  module _ (pool : List ℕ) (left rest : List (List ℕ)) (ds : List ℕ) (p : ℕ × ℕ) (h : PairsLeft pool left) (next : left ≡ ds ∷ rest) (reads : IsRead pool ds p) where
    pub pair_is : (ds ≡ p.0 ∷ p.1 ∷ []) × (p.0 < p.1) × (p.1 < length list)
    pair_is = read_rising (length list) ds p (h.rising ds (subst (In ds) (sym next) (inl refl))) (subst (λ l. IsRead l ds p) h.pool_is reads)

    pub pairs_step : (after : List ℕ) → pool ≡ after → IsTreated S (listed S.field (vectors_of S exps list)) p.0 p.1 → PairsLeft after rest
    pairs_step after same t = record {
      pool_is = sym same ∙ h.pool_is;
      rising = λ es i. h.rising es (subst (In es) (sym next) (inr i));
      others = λ a b rises inside. go a b (h.others a b rises inside);
    }
      where
        there : (a b : ℕ) → In (a ∷ b ∷ []) (ds ∷ rest) → IsTreated S (listed S.field (vectors_of S exps list)) a b ⊎ In (a ∷ b ∷ []) rest
        there a b (inl e) =
            let both : p.0 ∷ p.1 ∷ [] ≡ a ∷ b ∷ [] = sym pair_is.0 ∙ e in
            inl (subst (λ u. IsTreated S (listed S.field (vectors_of S exps list)) a u) (ap (λ l. get_or l 1 0) both) (subst (λ u. IsTreated S (listed S.field (vectors_of S exps list)) u p.1) (ap (λ l. get_or l 0 0) both) t))
        there a b (inr i) = inr i

        go : (a b : ℕ) → IsTreated S (listed S.field (vectors_of S exps list)) a b ⊎ In (a ∷ b ∷ []) left → IsTreated S (listed S.field (vectors_of S exps list)) a b ⊎ In (a ∷ b ∷ []) rest
        go a b (inl u) = inl u
        go a b (inr i) = there a b (subst (In (a ∷ b ∷ [])) next i)

  -- a step that gives a pair: it rises, and once it is treated the others are left
  pub pair_step : {F : Type 0} (pool after : List ℕ) (left rest : List (List ℕ)) (pair : Result (ℕ × ℕ) F) (p : ℕ × ℕ) → PairsLeft pool left → pair ≡ Ok p
      → (pool ≡ after) × MatchResult pair (λ q. (ds : List ℕ) × (left ≡ ds ∷ rest) × IsRead pool ds q) (λ e. ⊤)
      → (p.0 < p.1) × (p.1 < length list) × (IsTreated S (listed S.field (vectors_of S exps list)) p.0 p.1 → PairsLeft after rest)
  pair_step {F} pool after left rest pair p h ok (same, step) =
      let (ds, next, read) = subst (λ (r : Result (ℕ × ℕ) F). MatchResult r (λ q. (es : List ℕ) × (left ≡ es ∷ rest) × IsRead pool es q) (λ e. ⊤)) ok step in
      let is = pair_is pool left rest ds p h next read in
      (is.1, is.2, pairs_step pool left rest ds p h next read after same)

  pub pairs_end : (pool : List ℕ) (left : List (List ℕ)) → left ≡ [] → PairsLeft pool left → (a b : ℕ) → a < b → b < length list → IsTreated S (listed S.field (vectors_of S exps list)) a b
  pairs_end pool left none h a b rises inside = go (h.others a b rises inside)
    where
      go : IsTreated S (listed S.field (vectors_of S exps list)) a b ⊎ In (a ∷ b ∷ []) left → IsTreated S (listed S.field (vectors_of S exps list)) a b
      go (inl t) = t
      go (inr i) = absurd (subst (In (a ∷ b ∷ [])) none i)
