-- From the monomials of a degree that no lead divides to those of the next.
use Rattle.std.proofs.Common.{◌≡◌, ◌⊎◌, ◌∙◌, ◌+◌, ◌-◌, ◌<◌, ◌≤◌, ◌==◌, ℕ, zero, suc, Bool, true, false, not, cond, ◌&&◌, List, [], ◌∷◌, ◌++◌, length, replicate, refl, sym, ap, ap₂, subst, inl, inr, arith}
use Rattle.std.specs.Prelude.{All, nat_le}
use Rattle.std.proofs.lemmas.Bool.Decides.{nat_tests}
use native.Mathlib.Decide.{ℕ_discrete}
use Rattle.alg_core.specs.DpOrder.{dp_kept}
use Rattle.alg_core.specs.ExponentLists.{product, divides}
use Rattle.alg_core.specs.Lists.{In, in_left, in_right}
use Rattle.alg_core.specs.Monomials.{exponent}
use Rattle.alg_core.proofs.ExponentSteps.{length_merged}
use Rattle.alg_core.proofs.Members.{in_cases}
use Rattle.poly_module.specs.GreatestExponents.{total}
use Rattle.module_groebner.proofs.Families.{all_in, in_all}
use Rattle.finite_certificate.specs.StandardMonomials.{Rise}
use Rattle.primary_module.specs.UndividedMonomials.{is_undivided, is_zero_from, variable_exponents, multiple_of, multiples_of, multiples_below}
use Rattle.primary_module.proofs.RisingMonomials.{last_smaller, degree_same, IsSmaller, rise_append}

length_zeros : (n : ℕ) → length {A = ℕ} (replicate n 0) ≡ n
length_zeros zero = refl
length_zeros (suc n) = ap suc (length_zeros n)

pub length_variable : (n j : ℕ) → length (variable_exponents n j) ≡ n
length_variable zero zero = refl
length_variable zero (suc j) = refl
length_variable (suc n) zero = ap suc (length_zeros n)
length_variable (suc n) (suc j) = ap suc (length_variable n j)

product_zeros : (n : ℕ) (a : List ℕ) → length a ≡ n → product (replicate n 0) a ≡ a
product_zeros zero [] l = refl
product_zeros zero (x ∷ a) l = absurd (omega arith)
product_zeros (suc n) [] l = absurd (omega arith)
product_zeros (suc n) (x ∷ a) l = ap₂ ◌∷◌ (omega arith) (product_zeros n a (omega arith))

pub length_product : (n j : ℕ) (a : List ℕ) → length a ≡ n → length (product (variable_exponents n j) a) ≡ n
length_product n j a l = length_merged (λ x y. x + y) (variable_exponents n j) a (length_variable n j ∙ sym l) ∙ length_variable n j

-- the degree of a multiple
pub total_product : (n j : ℕ) (a : List ℕ) → length a ≡ n → j < n → total (product (variable_exponents n j) a) ≡ suc (total a)
total_product zero j a l h = absurd (omega arith)
total_product (suc n) j [] l h = absurd (omega arith)
total_product (suc n) zero (x ∷ a) l h = let e = ap total (product_zeros n a (omega arith)) in omega arith
total_product (suc n) (suc j) (x ∷ a) l h = let e = total_product n j a (omega arith) (omega arith) in omega arith

-- what follows the variable is kept
zero_product : (n j : ℕ) (a : List ℕ) → length a ≡ n → is_zero_from (suc j) (product (variable_exponents n j) a) ≡ is_zero_from (suc j) a
zero_product zero zero [] l = refl
zero_product zero (suc j) [] l = refl
zero_product zero j (x ∷ a) l = absurd (omega arith)
zero_product (suc n) j [] l = absurd (omega arith)
zero_product (suc n) zero (x ∷ a) l = ap (is_zero_from 0) (product_zeros n a (omega arith))
zero_product (suc n) (suc j) (x ∷ a) l = zero_product n j a (omega arith)

own_product : (n j : ℕ) (a : List ℕ) → length a ≡ n → j < n → 0 < exponent (product (variable_exponents n j) a) j
own_product zero j a l h = absurd (omega arith)
own_product (suc n) j [] l h = absurd (omega arith)
own_product (suc n) zero (x ∷ a) l h = omega arith
own_product (suc n) (suc j) (x ∷ a) l h = own_product n j a (omega arith) (omega arith)

-- zeros from an earlier place on
zero_later : (i j : ℕ) (a : List ℕ) → i ≤ j → is_zero_from i a ≡ true → is_zero_from j a ≡ true
zero_later i j [] h z = refl
zero_later zero zero (x ∷ a) h z = z
zero_later zero (suc j) (x ∷ a) h z = zero_later zero j a (omega arith) (rest (x == 0) (is_zero_from 0 a) z)
  where
    rest : (p q : Bool) → (p && q) ≡ true → q ≡ true
    rest true q e = e
    rest false q e = absurd cc
zero_later (suc i) zero (x ∷ a) h z = absurd (omega arith)
zero_later (suc i) (suc j) (x ∷ a) h z = zero_later i j a (omega arith) z

zeros_of_total : (a : List ℕ) → total a ≡ 0 → is_zero_from 0 a ≡ true
zeros_of_total [] h = refl
zeros_of_total (x ∷ a) h = first x (omega arith) (zeros_of_total a (omega arith))
  where
    first : (x : ℕ) → x ≡ 0 → is_zero_from 0 a ≡ true → ((x == 0) && is_zero_from 0 a) ≡ true
    first zero e r = r
    first (suc x) e r = absurd (omega arith)

-- the last variable of a monomial, and the other factor
pub record HasLast (n : ℕ) (a : List ℕ) : Type 0 where
  pub place : ℕ
  pub within : place < n
  pub factor : List ℕ
  pub wide : length factor ≡ n
  pub is : product (variable_exponents n place) factor ≡ a
  pub last : is_zero_from (suc place) factor ≡ true

pub last_variable : (n : ℕ) (a : List ℕ) → length a ≡ n → 0 < total a → HasLast n a
last_variable zero [] l h = absurd (omega arith)
last_variable zero (x ∷ a) l h = absurd (omega arith)
last_variable (suc n) [] l h = absurd (omega arith)
last_variable (suc n) (x ∷ a) l h = go (ℕ_discrete (total a) 0) (last_variable n a (omega arith))
  where
    go : Dec (total a ≡ 0) → (0 < total a → HasLast n a) → HasLast (suc n) (x ∷ a)
    go (yes z) later = record {
      place = 0;
      within = omega arith;
      factor = (x - 1) ∷ a;
      wide = l;
      is = ap₂ ◌∷◌ (omega arith) (product_zeros n a (omega arith));
      last = zeros_of_total a z;
    }
    go (no z) later = let r = later (omega arith) in record {
      place = suc r.place;
      within = let w = r.within in omega arith;
      factor = x ∷ r.factor;
      wide = ap suc r.wide;
      is = ap₂ ◌∷◌ (omega arith) r.is;
      last = r.last;
    }

both : (x y z : ℕ) (p q : Bool) → (nat_le x y && p) ≡ true → (p ≡ true → q ≡ true) → (nat_le x (z + y) && q) ≡ true
both x y z p q h k = grind (arith, nat_tests)

-- a divisor of a multiple
divides_product : (l u b : List ℕ) → length u ≡ length b → divides l b ≡ true → divides l (product u b) ≡ true
divides_product [] u b e d = refl
divides_product (x ∷ l) [] [] e d = refl
divides_product (x ∷ l) [] (y ∷ b) e d = absurd (omega arith)
divides_product (x ∷ l) (z ∷ u) [] e d = absurd (omega arith)
divides_product (x ∷ l) (z ∷ u) (y ∷ b) e d = both x y z (divides l b) (divides l (product u b)) d (divides_product l u b (omega arith))

undivided_factor : (ls : List (List ℕ)) (u b : List ℕ) → length u ≡ length b → is_undivided ls (product u b) ≡ true → is_undivided ls b ≡ true
undivided_factor [] u b e h = refl
undivided_factor (l ∷ ls) u b e h = go (divides l (product u b)) (is_undivided ls (product u b)) (divides l b) h (divides_product l u b e) (undivided_factor ls u b e)
  where
    go : (p q r : Bool) → (not p && q) ≡ true → (r ≡ true → p ≡ true) → (q ≡ true → is_undivided ls b ≡ true) → (not r && is_undivided ls b) ≡ true
    go true q r h d rest = absurd cc
    go false q true h d rest = absurd (let x = d refl in cc)
    go false q false h d rest = rest h

module _ {A : Type 0} where
  from_cond : (p q : Bool) (x c : A) → In c (cond (p && q) (x ∷ []) []) → (x ≡ c) × (p ≡ true) × (q ≡ true)
  from_cond true true x c (inl e) = (e, refl, refl)
  from_cond true true x c (inr i) = absurd i
  from_cond true false x c i = absurd i
  from_cond false q x c i = absurd i

  to_cond : (p q : Bool) (x : A) → p ≡ true → q ≡ true → In x (cond (p && q) (x ∷ []) [])
  to_cond true true x e f = inl refl
  to_cond true false x e f = absurd cc
  to_cond false q x e f = absurd cc

rise_cond : (n : ℕ) (t : Bool) (x : List ℕ) → Rise n (cond t (x ∷ []) [])
rise_cond n true x = (λ b i. absurd i, tt)
rise_cond n false x = tt

module _ (ls : List (List ℕ)) (n : ℕ) where
  -- a multiple by variable j of a member of a list
  pub record IsMultiple (j : ℕ) (bs : List (List ℕ)) (c : List ℕ) : Type 0 where
    pub factor : List ℕ
    pub inside : In factor bs
    pub is : product (variable_exponents n j) factor ≡ c
    pub last : is_zero_from (suc j) factor ≡ true
    pub undivided : is_undivided ls c ≡ true

  single : (j : ℕ) (b : List ℕ) (bs : List (List ℕ)) (c : List ℕ) → In b bs → In c (multiple_of ls n j b) → IsMultiple j bs c
  single j b bs c i h =
      let r = from_cond (is_zero_from (suc j) b) (is_undivided ls (product (variable_exponents n j) b)) (product (variable_exponents n j) b) c h in
      record { factor = b; inside = i; is = r.0; last = r.1; undivided = subst (λ x. is_undivided ls x ≡ true) r.0 r.2 }

  from_multiples : (j : ℕ) (bs : List (List ℕ)) (c : List ℕ) → In c (multiples_of ls n j bs) → IsMultiple j bs c
  from_multiples j [] c h = absurd h
  from_multiples j (b ∷ bs) c h = go (in_cases c (multiple_of ls n j b) (multiples_of ls n j bs) h) (from_multiples j bs c)
    where
      go : In c (multiple_of ls n j b) ⊎ In c (multiples_of ls n j bs) → (In c (multiples_of ls n j bs) → IsMultiple j bs c) → IsMultiple j (b ∷ bs) c
      go (inl i) rest = single j b (b ∷ bs) c (inl refl) i
      go (inr i) rest = let r = rest i in record { factor = r.factor; inside = inr r.inside; is = r.is; last = r.last; undivided = r.undivided }

  to_multiples : (j : ℕ) (bs : List (List ℕ)) (b : List ℕ) → In b bs → is_zero_from (suc j) b ≡ true → is_undivided ls (product (variable_exponents n j) b) ≡ true
      → In (product (variable_exponents n j) b) (multiples_of ls n j bs)
  to_multiples j [] b i z u = absurd i
  to_multiples j (x ∷ bs) b (inl e) z u =
      in_left _ (multiple_of ls n j x) (multiples_of ls n j bs) (subst (λ y. In (product (variable_exponents n j) b) (multiple_of ls n j y)) (sym e)
      (to_cond (is_zero_from (suc j) b) (is_undivided ls (product (variable_exponents n j) b)) (product (variable_exponents n j) b) z u))
  to_multiples j (x ∷ bs) b (inr i) z u = in_right _ (multiple_of ls n j x) (multiples_of ls n j bs) (to_multiples j bs b i z u)

  from_below : (j : ℕ) (bs : List (List ℕ)) (c : List ℕ) → In c (multiples_below ls n j bs) → (i : ℕ) × (i < j) × IsMultiple i bs c
  from_below zero bs c h = absurd h
  from_below (suc j) bs c h = go (in_cases c (multiples_of ls n j bs) (multiples_below ls n j bs) h) (from_below j bs c)
    where
      go : In c (multiples_of ls n j bs) ⊎ In c (multiples_below ls n j bs) → (In c (multiples_below ls n j bs) → (i : ℕ) × (i < j) × IsMultiple i bs c) → (i : ℕ) × (i < suc j) × IsMultiple i bs c
      go (inl i) rest = (j, omega arith, from_multiples j bs c i)
      go (inr i) rest = let r = rest i in (r.0, let w = r.1 in omega arith, r.2)

  to_below : (i j : ℕ) (bs : List (List ℕ)) (c : List ℕ) → i < j → In c (multiples_of ls n i bs) → In c (multiples_below ls n j bs)
  to_below i zero bs c h m = absurd (omega arith)
  to_below i (suc j) bs c h m = go (ℕ_discrete i j) (to_below i j bs c)
    where
      go : Dec (i ≡ j) → (i < j → In c (multiples_of ls n i bs) → In c (multiples_below ls n j bs)) → In c (multiples_of ls n j bs ++ multiples_below ls n j bs)
      go (yes e) rest = in_left c (multiples_of ls n j bs) (multiples_below ls n j bs) (subst (λ k. In c (multiples_of ls n k bs)) e m)
      go (no e) rest = in_right c (multiples_of ls n j bs) (multiples_below ls n j bs) (rest (omega arith) m)

  -- multiples by one variable stand as their factors do
  rise_multiples : (j : ℕ) (bs : List (List ℕ)) → ((b : List ℕ) → In b bs → length b ≡ n) → Rise n bs → Rise n (multiples_of ls n j bs)
  rise_multiples j [] wide r = tt
  rise_multiples j (b ∷ bs) wide r =
      rise_append n (multiple_of ls n j b) (multiples_of ls n j bs) (rise_cond n (is_zero_from (suc j) b && is_undivided ls (product (variable_exponents n j) b)) (product (variable_exponents n j) b))
      (rise_multiples j bs (λ c i. wide c (inr i)) r.1)
      (λ x y p q.
      let u = from_cond (is_zero_from (suc j) b) (is_undivided ls (product (variable_exponents n j) b)) (product (variable_exponents n j) b) x p in
      let m = from_multiples j bs y q in
      subst (λ z. IsSmaller n z y) u.0 (subst (IsSmaller n (product (variable_exponents n j) b)) m.is
      (dp_kept (replicate n 1) (variable_exponents n j) (0, b) (0, m.factor) (length_variable n j ∙ sym (wide b (inl refl))) (length_variable n j ∙ sym (wide m.factor (inr m.inside)))
      ∙ r.0 m.factor m.inside)))

  module _ (d : ℕ) (bs : List (List ℕ)) (wide : (b : List ℕ) → In b bs → length b ≡ n) (degree : (b : List ℕ) → In b bs → total b ≡ d) where
    multiple_wide : (j : ℕ) (c : List ℕ) → IsMultiple j bs c → length c ≡ n
    multiple_wide j c m = subst (λ x. length x ≡ n) m.is (length_product n j m.factor (wide m.factor m.inside))

    multiple_degree : (j : ℕ) (c : List ℕ) → j < n → IsMultiple j bs c → total c ≡ suc d
    multiple_degree j c h m = subst (λ x. total x ≡ suc d) m.is (total_product n j m.factor (wide m.factor m.inside) h ∙ ap suc (degree m.factor m.inside))

    multiple_last : (j : ℕ) (c : List ℕ) → IsMultiple j bs c → is_zero_from (suc j) c ≡ true
    multiple_last j c m = subst (λ x. is_zero_from (suc j) x ≡ true) m.is (zero_product n j m.factor (wide m.factor m.inside) ∙ m.last)

    multiple_own : (j : ℕ) (c : List ℕ) → j < n → IsMultiple j bs c → 0 < exponent c j
    multiple_own j c h m = subst (λ x. 0 < exponent x j) m.is (own_product n j m.factor (wide m.factor m.inside) h)

    rise_below : (j : ℕ) → j ≤ n → Rise n bs → Rise n (multiples_below ls n j bs)
    rise_below zero h r = tt
    rise_below (suc j) h r = rise_append n (multiples_of ls n j bs) (multiples_below ls n j bs) (rise_multiples j bs wide r) (rise_below j (omega arith) r) (λ x y p q.
        let m = from_multiples j bs x p in
        let k = from_below j bs y q in
        let low : k.0 < n = let w = k.1 in omega arith in
        let p1 = multiple_wide j x m in
        let q1 = multiple_wide k.0 y k.2 in
        degree_same n x y p1 q1 (multiple_degree j x (omega arith) m ∙ sym (multiple_degree k.0 y low k.2))
        (last_smaller j x y (p1 ∙ sym q1) (multiple_last j x m) (multiple_own j x (omega arith) m) (zero_later (suc k.0) j y (let w = k.1 in omega arith) (multiple_last k.0 y k.2))))

  -- the exponents of one degree that no member of the list divides
  pub record IsDegree (d : ℕ) (bs : List (List ℕ)) : Type 0 where
    pub wide : All (λ a. length a ≡ n) bs
    pub degree : All (λ a. total a ≡ d) bs
    pub rising : Rise n bs
    pub undivided : All (λ a. is_undivided ls a ≡ true) bs
    pub all : (a : List ℕ) → length a ≡ n → total a ≡ d → is_undivided ls a ≡ true → In a bs

  pub next_degree : (d : ℕ) (bs : List (List ℕ)) → IsDegree d bs → IsDegree (suc d) (multiples_below ls n n bs)
  next_degree d bs h = record {
    wide = in_all (λ a. length a ≡ n) next (λ c i. let m = from_below n bs c i in multiple_wide d bs wide degree m.0 c m.2);
    degree = in_all (λ a. total a ≡ suc d) next (λ c i. let m = from_below n bs c i in multiple_degree d bs wide degree m.0 c m.1 m.2);
    rising = rise_below d bs wide degree n (omega arith) h.rising;
    undivided = in_all (λ a. is_undivided ls a ≡ true) next (λ c i. let m = from_below n bs c i in m.2.undivided);
    all = λ a l t u. all a t u (last_variable n a l (omega arith));
  }
    where
      next : List (List ℕ)
      next = multiples_below ls n n bs

      wide : (b : List ℕ) → In b bs → length b ≡ n
      wide = all_in (λ a. length a ≡ n) bs h.wide

      degree : (b : List ℕ) → In b bs → total b ≡ d
      degree = all_in (λ a. total a ≡ d) bs h.degree

      all : (a : List ℕ) → total a ≡ suc d → is_undivided ls a ≡ true → HasLast n a → In a (multiples_below ls n n bs)
      all a t u r =
          let more = total_product n r.place r.factor r.wide r.within in
          let same : total (product (variable_exponents n r.place) r.factor) ≡ total a = ap total r.is in
          let v : is_undivided ls (product (variable_exponents n r.place) r.factor) ≡ true = subst (λ x. is_undivided ls x ≡ true) (sym r.is) u in
          let i : In r.factor bs = h.all r.factor r.wide (omega arith) (undivided_factor ls (variable_exponents n r.place) r.factor (length_variable n r.place ∙ sym r.wide) v) in
          subst (λ x. In x (multiples_below ls n n bs)) r.is (to_below r.place n bs (product (variable_exponents n r.place) r.factor) r.within (to_multiples r.place bs r.factor i r.last v))
