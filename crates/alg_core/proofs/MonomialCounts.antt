-- How many keys of a degree there are where each variable has the weight 1: a binomial coefficient.
use Rattle.std.proofs.Common.{◌≡◌, ◌⊎◌, ℕ, zero, suc, ◌+◌, ◌-◌, ◌<◌, true, List, [], ◌∷◌, ◌++◌, length, map, replicate, sym, ap, ap₂, ◌∙◌, refl, subst, arith, inl, inr}
use Rattle.std.proofs.lemmas.List.{length-map, length-append}
use Rattle.alg_core.specs.Binomials.{choose, monomials_of_degree}
use Rattle.alg_core.specs.Monomials.{mono, exponent_mono, exponents, length_exponents, mono_exponents, mono_injective}
use Rattle.alg_core.specs.Keys.{Key}
use Rattle.alg_core.specs.Lists.{In, map_in, in_left, in_right}
use Rattle.alg_core.specs.Spaces.{SpaceOver}
use Rattle.alg_core.specs.SpaceOrder.{key_order}
use Rattle.alg_core.specs.SpaceGrading.{AllPositive, weight, weight_ext, height, degree}
use Rattle.alg_core.specs.KeyLists.{keys_of_degree}
use Rattle.alg_core.proofs.Members.{in_cases, from_map, Apart, apart_append, apart_map, apart_no_longer}
use Rattle.alg_core.proofs.MonomialLists.{length_mono}
use Rattle.alg_core.proofs.KeyLists.{falls_apart, falls_keys_of_degree, keys_of_degree_exact}

total : List ℕ → ℕ
total [] = 0
total (x ∷ a) = x + total a

bumped : List ℕ → List ℕ
bumped [] = []
bumped (x ∷ a) = suc x ∷ a

-- one exponent more in front, from the lists for the others by their sum
widened : (ℕ → List (List ℕ)) → ℕ → List (List ℕ)
widened f zero = map (λ a. 0 ∷ a) (f 0)
widened f (suc d) = map (λ a. 0 ∷ a) (f (suc d)) ++ map bumped (widened f d)

-- the lists of n exponents of sum d
level : ℕ → ℕ → List (List ℕ)
level zero zero = [] ∷ []
level zero (suc d) = []
level (suc n) d = widened (level n) d

in_widened : (f : ℕ → List (List ℕ)) (x e d : ℕ) (a : List ℕ) → In a (f e) → x + e ≡ d → In (x ∷ a) (widened f d)
unfolding widened bumped
in_widened f zero e zero a h p = map_in (λ a. 0 ∷ a) a (f 0) (subst (λ n. In a (f n)) (omega arith) h)
in_widened f zero e (suc d) a h p = in_left (0 ∷ a) (map (λ a. 0 ∷ a) (f (suc d))) (map bumped (widened f d)) (map_in (λ a. 0 ∷ a) a (f (suc d)) (subst (λ n. In a (f n)) (omega arith) h))
in_widened f (suc x) e zero a h p = absurd (omega arith)
in_widened f (suc x) e (suc d) a h p = in_right (suc x ∷ a) (map (λ a. 0 ∷ a) (f (suc d))) (map bumped (widened f d)) (map_in bumped (x ∷ a) (widened f d) (in_widened f x e d a h (omega arith)))

-- an exponent and a list of the others
Split : (ℕ → List (List ℕ)) → ℕ → List ℕ → Type 0
Split f d b = (x : ℕ) × (e : ℕ) × (a : List ℕ) × In a (f e) × (x + e ≡ d) × (x ∷ a ≡ b)

from_widened : (f : ℕ → List (List ℕ)) (d : ℕ) (b : List ℕ) → In b (widened f d) → Split f d b
unfolding widened bumped Split
from_widened f zero b h = let r = from_map (λ a. 0 ∷ a) b (f 0) h in (0, 0, r.0, r.1, omega arith, r.2)
from_widened f (suc d) b h = go (from_widened f d) (in_cases b (map (λ a. 0 ∷ a) (f (suc d))) (map bumped (widened f d)) h)
  where
    go : ((c : List ℕ) → In c (widened f d) → Split f d c) → In b (map (λ a. 0 ∷ a) (f (suc d))) ⊎ In b (map bumped (widened f d)) → Split f (suc d) b
    go rest (inl i) = let r = from_map (λ a. 0 ∷ a) b (f (suc d)) i in (0, suc d, r.0, r.1, omega arith, r.2)
    go rest (inr i) = let r = from_map bumped b (widened f d) i in let s = rest r.0 r.1 in (suc s.0, s.1, s.2, s.3, (let e = s.4 in omega arith), ap bumped s.5 ∙ r.2)

in_level : (n d : ℕ) (a : List ℕ) → length a ≡ n → total a ≡ d → In a (level n d)
unfolding level total
in_level zero zero [] l t = inl refl
in_level zero (suc d) [] l t = absurd (omega arith)
in_level zero d (x ∷ a) l t = absurd (omega arith)
in_level (suc n) d [] l t = absurd (omega arith)
in_level (suc n) d (x ∷ a) l t = in_widened (level n) x (total a) d a (in_level n (total a) a (omega arith) refl) t

from_level : (n d : ℕ) (a : List ℕ) → In a (level n d) → (length a ≡ n) × (total a ≡ d)
unfolding level total Split
from_level zero zero a (inl e) = (ap length (sym e), ap total (sym e))
from_level zero zero a (inr h) = absurd h
from_level zero (suc d) a h = absurd h
from_level (suc n) d a h =
    let r = from_widened (level n) d a h in
    let s = from_level n r.1 r.2 r.3 in
    (ap length (sym r.5) ∙ ap suc s.0, ap total (sym r.5) ∙ (let t = s.1 in let p = r.4 in omega arith))

apart_widened : (f : ℕ → List (List ℕ)) → ((d : ℕ) → Apart (f d)) → (d : ℕ) → Apart (widened f d)
unfolding widened bumped Split
apart_widened f h zero = apart_map (λ a. 0 ∷ a) (f 0) (λ x y i j e. cc) (h 0)
apart_widened f h (suc d) = apart_append (map (λ a. 0 ∷ a) (f (suc d))) (map bumped (widened f d))
    (apart_map (λ a. 0 ∷ a) (f (suc d)) (λ x y i j e. cc) (h (suc d)))
    (apart_map bumped (widened f d) (λ x y i j e. same x y (from_widened f d x i) (from_widened f d y j) e) (apart_widened f h d))
    differ
  where
    same : (x y : List ℕ) → Split f d x → Split f d y → bumped x ≡ bumped y → x ≡ y
    same x y r s e = sym r.5 ∙ equal r.0 s.0 r.2 s.2 (ap bumped r.5 ∙ e ∙ sym (ap bumped s.5)) ∙ s.5
      where
        equal : (x y : ℕ) (a b : List ℕ) → suc x ∷ a ≡ suc y ∷ b → x ∷ a ≡ y ∷ b
        equal x y a b e = cc

    differ : (x : List ℕ) → In x (map (λ a. 0 ∷ a) (f (suc d))) → ¬ In x (map bumped (widened f d))
    differ x i j = let r = from_map (λ a. 0 ∷ a) x (f (suc d)) i in let s = from_map bumped x (widened f d) j in let t = from_widened f d s.0 s.1 in unequal t.0 r.0 t.2 (r.2 ∙ sym s.2 ∙ sym (ap bumped t.5))
      where
        unequal : (y : ℕ) (a b : List ℕ) → ¬ (0 ∷ a ≡ suc y ∷ b)
        unequal y a b e = cc

apart_level : (n d : ℕ) → Apart (level n d)
unfolding level
apart_level zero zero = (λ y h. absurd h, tt)
apart_level zero (suc d) = tt
apart_level (suc n) d = apart_widened (level n) (apart_level n) d

choose_past : (n k : ℕ) → n < k → choose n k ≡ 0
unfolding choose
choose_past n zero h = absurd (omega arith)
choose_past zero (suc k) h = refl
choose_past (suc n) (suc k) h = let p = choose_past n k (omega arith) in let q = choose_past n (suc k) (omega arith) in omega arith

choose_pascal : (n k : ℕ) → choose (suc n) (suc k) ≡ choose n k + choose n (suc k)
unfolding choose
choose_pascal n k = refl

choose_none : (n : ℕ) → choose n 0 ≡ 1
unfolding choose
choose_none zero = refl
choose_none (suc n) = refl

length_widened : (f : ℕ → List (List ℕ)) (d : ℕ) → length (widened f (suc d)) ≡ length (f (suc d)) + length (widened f d)
unfolding widened
length_widened f d = length-append (map (λ a. 0 ∷ a) (f (suc d))) (map bumped (widened f d)) ∙ ap₂ ◌+◌ (length-map (f (suc d)) (λ a. 0 ∷ a)) (length-map (widened f d) bumped)

level_next : (n d : ℕ) → length (level (suc n) (suc d)) ≡ length (level n (suc d)) + length (level (suc n) d)
unfolding level
level_next n d = length_widened (level n) d

level_start : (n : ℕ) → length (level (suc n) 0) ≡ length (level n 0)
unfolding level widened
level_start n = length-map (level n 0) (λ a. 0 ∷ a)

level_one : (d : ℕ) → length (level 1 d) ≡ 1
unfolding level widened
level_one zero = refl
level_one (suc d) = let p = length_widened (level 0) d in let q = level_one d in omega arith

length_level : (n d : ℕ) → length (level (suc n) d) ≡ choose (n + d) n
length_level zero d = level_one d ∙ sym (choose_none (0 + d))
length_level (suc n) zero =
    let p = choose_pascal (n + 0) n in
    let q = choose_past (n + 0) (suc n) (omega arith) in
    let e : suc n + 0 ≡ suc (n + 0) = omega arith in
    let r = ap (λ m. choose m (suc n)) e in
    let s = level_start (suc n) in
    let t = length_level n 0 in
    omega arith
length_level (suc n) (suc d) =
    let p = choose_pascal (n + suc d) n in
    let e : suc n + d ≡ n + suc d = omega arith in
    let f : suc n + suc d ≡ suc (n + suc d) = omega arith in
    let r = ap (λ m. choose m (suc n)) e in
    let s = ap (λ m. choose m (suc n)) f in
    let t = level_next (suc n) d in
    let u = length_level n (suc d) in
    let v = length_level (suc n) d in
    omega arith

weight_ones : (n i : ℕ) (a : List ℕ) → length a ≡ n → weight (replicate n 1) i a ≡ total a
unfolding weight total
weight_ones zero i [] e = refl
weight_ones zero i (x ∷ a) e = absurd (omega arith)
weight_ones (suc n) i [] e = absurd (omega arith)
weight_ones (suc n) i (x ∷ a) e = let h = weight_ones n (suc i) a (omega arith) in omega arith

pub positive_ones : (n : ℕ) → AllPositive (replicate n 1)
positive_ones zero = tt
positive_ones (suc n) = (omega arith, positive_ones n)

module _ {E : Type 0} (S : SpaceOver E) (d : ℕ) (ones : S.weights ≡ replicate (length S.weights) 1) (one : S.shifts ≡ 0 ∷ []) (fits : S.order.fits 0 (length S.weights) ≡ true) where
  abbrev n : ℕ
  n = length S.weights

  monomial_keys : List Key
  monomial_keys = map (λ a. (0, mono a)) (level n d)

  apart_keys : Apart monomial_keys
  unfolding monomial_keys
  apart_keys = apart_map (λ a. (0, mono a)) (level n d)
      (λ x y i j e. mono_injective x y ((from_level n d x i).0 ∙ sym (from_level n d y j).0) (ap (λ (u : Key). u.1) e))
      (apart_level n d)

  weight_total : (a : List ℕ) → length a ≡ n → weight S.weights 0 a ≡ total a
  weight_total a l = ap (λ ws. weight ws 0 a) ones ∙ weight_ones n 0 a l

  height_first : height S.shifts 0 ≡ 0
  unfolding height
  height_first = ap (λ ss. height ss 0) one

  into : (t : Key) → In t (keys_of_degree S d) → In t monomial_keys
  unfolding monomial_keys degree
  into t h =
      let r = (keys_of_degree_exact S (subst AllPositive (sym ones) (positive_ones n)) d t).0 h in
      let same : mono (exponents n t.1.0) ≡ t.1 = mono_exponents n t.1 r.0.variables in
      let many = length_exponents n t.1.0 in
      let first : t.0 ≡ 0 = let p = r.0.position in let q = ap length one in omega arith in
      let zero_height : height S.shifts t.0 ≡ 0 = ap (height S.shifts) first ∙ height_first in
      let equal : weight S.weights 0 (exponents n t.1.0) ≡ weight S.weights 0 t.1.0 = sym (weight_ext S.weights 0 (mono (exponents n t.1.0)).0 (exponents n t.1.0) (exponent_mono (exponents n t.1.0))) ∙ ap (λ m. weight S.weights 0 m.0) same in
      let sum = weight_total (exponents n t.1.0) many in
      subst (λ u. In u (map (λ a. (0, mono a)) (level n d))) (ap₂ (λ q m. (q, m)) (sym first) same)
      (map_in (λ a. (0, mono a)) (exponents n t.1.0) (level n d) (in_level n d (exponents n t.1.0) many (let e = r.1 in omega arith)))

  out : (t : Key) → In t monomial_keys → In t (keys_of_degree S d)
  unfolding monomial_keys degree
  out t h =
      let r = from_map (λ a. (0, mono a)) t (level n d) h in
      let s = from_level n d r.0 r.1 in
      let short = length_mono r.0 in
      let flat = height_first in
      let heavy = weight_ext S.weights 0 (mono r.0).0 r.0 (exponent_mono r.0) in
      let sum = weight_total r.0 s.0 in
      let many = ap length one in
      subst (λ u. In u (keys_of_degree S d)) r.2
      ((keys_of_degree_exact S (subst AllPositive (sym ones) (positive_ones n)) d (0, mono r.0)).1
      (record { fits = fits; variables = let l = s.0 in omega arith; position = omega arith }, let t = s.1 in omega arith))

  -- as many keys of degree d as the binomial coefficient says
  pub length_keys_of_degree : 0 < length S.weights → length (keys_of_degree S d) ≡ monomials_of_degree (length S.weights) d
  unfolding monomial_keys
  length_keys_of_degree some =
      let p = apart_no_longer (keys_of_degree S d) monomial_keys (falls_apart (key_order S) _ (falls_keys_of_degree S d)) into in
      let q = apart_no_longer monomial_keys (keys_of_degree S d) apart_keys out in
      let r : length monomial_keys ≡ length (level n d) = length-map (level n d) (λ a. (0, mono a)) in
      let m : n ≡ suc (n - 1) = omega arith in
      let count : length (level n d) ≡ choose (n - 1 + d) (n - 1) = ap (λ j. length (level j d)) m ∙ length_level (n - 1) d in
      let same : n - 1 + d ≡ n + d - 1 = omega arith in
      let bound = ap (λ j. choose j (n - 1)) same in
      omega arith
