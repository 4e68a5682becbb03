-- Vectors with position 0 alone and bounded exponents: their products, powers and values of monomials.
use Rattle.std.proofs.Common.{◌≡◌, ◌≤◌, ◌+◌, ◌*◌, ℕ, zero, suc, List, [], ◌∷◌, get_or, refl, sym, subst, ◌∙◌, arith, inl, inr}
use Rattle.std.specs.Prelude.{All}
use native.Mathlib.Decide.{ℕ_discrete, dec_le}
use Rattle.alg_core.specs.ExponentLists.{product as list_product, Within}
use Rattle.alg_core.specs.Fields.{FieldOn, Scalar, scalar}
use Rattle.alg_core.specs.Monomials.{monomials, mono, exponent, exponent_mul, exponent_mono, exponent_one}
use Rattle.alg_core.specs.Keys.{Key, key, keys}
use Rattle.alg_core.specs.Lists.{In}
use Rattle.alg_core.specs.Vectors.{Entry, Vect, formal_sum, vec, scale}
use Rattle.alg_core.specs.Spaces.{SpaceOver, Fits}
use Rattle.alg_core.specs.SpaceOrder.{key_order}
use Rattle.alg_core.proofs.FittingLists.{terms_vec}
use Rattle.alg_core.proofs.VectorLaws.{vec_cons, vec_nothing, vec_single}
use Rattle.poly_module.specs.Polynomials.{single_vector, vector_ring}
use Rattle.poly_module.specs.Products.{one_vector_single, ring_product, ring_one}
use Rattle.poly_module.specs.Substitutions.{power, monomial_value}
use Rattle.poly_module.specs.Parts.{Supp, supp_zero, supp_plus, supp_scale, supp_single, supp_weaken, supp_product}
use Rattle.poly_module.specs.GreatestExponents.{total, greatest, peak}
use Rattle.poly_module.proofs.ModuleElements.{terms_supp}

pub greatest_exponent : (l : List ℕ) (i : ℕ) → exponent l i ≤ greatest l
greatest_exponent [] i = omega arith
greatest_exponent (x ∷ l) zero = omega arith
greatest_exponent (x ∷ l) (suc i) = let h = greatest_exponent l i in omega arith

pub greatest_least : (l : List ℕ) (b : ℕ) → ((i : ℕ) → exponent l i ≤ b) → greatest l ≤ b
greatest_least [] b h = omega arith
greatest_least (x ∷ l) b h = let p = greatest_least l b (λ i. h (suc i)) in let q = h 0 in omega arith

pub greatest_mono : (a : List ℕ) → greatest (mono a).0 ≡ greatest a
greatest_mono a =
    let p = greatest_least (mono a).0 (greatest a) (λ i. let e = exponent_mono a i in let g = greatest_exponent a i in omega arith) in
    let q = greatest_least a (greatest (mono a).0) (λ i. let e = exponent_mono a i in let g = greatest_exponent (mono a).0 i in omega arith) in
    omega arith

-- position 0 and no exponent beyond b
abbrev pub Bounded : ℕ → Key → Type 0
Bounded b t = (t.0 ≡ 0) × (greatest t.1.0 ≤ b)

bounded_test : (b : ℕ) (t : Key) → Dec (Bounded b t)
bounded_test b t = go (ℕ_discrete t.0 0) (dec_le (greatest t.1.0) b)
  where
    go : Dec (t.0 ≡ 0) → Dec (greatest t.1.0 ≤ b) → Dec (Bounded b t)
    go (yes p) (yes q) = yes (p, q)
    go (yes p) (no q) = no (λ h. q h.1)
    go (no p) q = no (λ h. p h.0)

bounded_mul : (a b c : ℕ) → c ≡ a + b → (s t : Key) → Bounded a s → Bounded b t → Bounded c (keys.◌·◌ s t)
unfolding keys
bounded_mul a b c e s t h g = (
  omega (arith, h.0, g.0),
  greatest_least _ c (λ i.
      let m = exponent_mul s.1 t.1 i in
      let x = greatest_exponent s.1.0 i in
      let y = greatest_exponent t.1.0 i in
      omega (arith, h.1, g.1)),
)

bounded_one : (b : ℕ) → Bounded b (0, monomials.one)
bounded_one b = (refl, greatest_least _ b (λ i. let e = exponent_one i in omega arith))

-- exponents of two lists add
pub within_product : (cap : ℕ) (a b : List ℕ) → greatest a + greatest b ≤ cap → Within cap (list_product a b)
within_product cap [] b h i d w = absurd (omega arith)
within_product cap (x ∷ a) [] h i d w = absurd (omega arith)
within_product cap (x ∷ a) (y ∷ b) h zero d w = omega arith
within_product cap (x ∷ a) (y ∷ b) h (suc i) d w = within_product cap a b (omega arith) i d (omega arith)

module _ {E : Type 0} (k : FieldOn E) where
  pub supp_one : (b : ℕ) → Supp k (Bounded b) (vector_ring k).one
  supp_one b = subst (Supp k (Bounded b)) (sym (ring_one k ∙ one_vector_single k)) (supp_single k (Bounded b) (0, monomials.one) (bounded_one b))

  supp_mul : (a b c : ℕ) → c ≡ a + b → (u v : Vect k) → Supp k (Bounded a) u → Supp k (Bounded b) v → Supp k (Bounded c) ((vector_ring k).◌*◌ u v)
  supp_mul a b c e u v h g = subst (Supp k (Bounded c)) (sym (ring_product k u v)) (supp_product k (Bounded a) (Bounded b) (Bounded c) (bounded_test c) (bounded_mul a b c e) u v h g)

  pub supp_power : (b : ℕ) (x : Vect k) → Supp k (Bounded b) x → (n : ℕ) → Supp k (Bounded (n * b)) (power (vector_ring k) x n)
  supp_power b x h zero = supp_one (0 * b)
  supp_power b x h (suc n) = supp_mul b (n * b) (suc n * b) (omega arith) x (power (vector_ring k) x n) h (supp_power b x h n)

  pub supp_monomial_value : (b : ℕ) (xs : List (Vect k)) → ((x : Vect k) → In x xs → Supp k (Bounded b) x) → (a : List ℕ) → Supp k (Bounded (total a * b)) (monomial_value (vector_ring k) xs a)
  supp_monomial_value b [] h a = supp_one (total a * b)
  supp_monomial_value b (x ∷ xs) h [] = supp_one (0 * b)
  supp_monomial_value b (x ∷ xs) h (e ∷ a) = supp_mul (e * b) (total a * b) ((e + total a) * b) (omega arith) _ _ (supp_power b x (h x (inl refl)) e) (supp_monomial_value b xs (λ y i. h y (inr i)) a)

  pub supp_bound : (a b : ℕ) → a ≤ b → (v : Vect k) → Supp k (Bounded a) v → Supp k (Bounded b) v
  supp_bound a b le v = supp_weaken k (Bounded a) (Bounded b) (λ t h. (h.0, omega (arith, h.1))) v

  pub vec_scaled : (e : Entry E) → vec k (e ∷ []) ≡ scale k e.1 (single_vector k (key e.0))
  unfolding scale single_vector
  vec_scaled e = vec_single k e

  entry_supp : (Q : Key → Type 0) (e : Entry E) → Q (key e.0) → Supp k Q (vec k (e ∷ []))
  entry_supp Q e q = subst (Supp k Q) (sym (vec_scaled e)) (supp_scale k Q e.1 _ (supp_single k Q (key e.0) q))

  -- a property of the keys of entries
  pub vec_supp : (Q : Key → Type 0) (es : List (Entry E)) → All (λ e. Q (key e.0)) es → Supp k Q (vec k es)
  vec_supp Q [] h = subst (Supp k Q) (sym (vec_nothing k)) (supp_zero k Q)
  vec_supp Q (e ∷ es) h = subst (Supp k Q) (sym (vec_cons k e es)) (supp_plus k Q (vec k (e ∷ [])) (vec k es) (entry_supp Q e (h 0 e (omega arith))) (vec_supp Q es (λ i d w. h (suc i) d (omega arith))))

module _ {E : Type 0} (S : SpaceOver E) where
  each : (Q : Key → Type 0) (es : List (Entry E)) → ((e : Key × Scalar S.field) → In e (formal_sum S.field es) → Q e.0) → All (λ e. Q (key e.0)) es
  each Q [] h i d w = absurd (omega arith)
  each Q (e ∷ es) h zero d w = h (key e.0, scalar S.field e.1) (inl refl)
  each Q (e ∷ es) h (suc i) d w = each Q es (λ f m. h f (inr m)) i d (omega arith)

  -- and of the entries of a list that fits, by the vector
  pub fits_keys : (Q : Key → Type 0) (es : List (Entry E)) → Fits S es → Supp S.field Q (vec S.field es) → All (λ e. Q (key e.0)) es
  fits_keys Q es f h = each Q es (λ e m. terms_supp S.field (key_order S) Q (vec S.field es) h e (subst (In e) (sym (terms_vec S es f)) m))

-- the bound of an entry
bounded_entry : (b : ℕ) (p : ℕ × List ℕ) → Bounded b (key p) → greatest p.1 ≤ b
unfolding key
bounded_entry b p h = let e = greatest_mono p.1 in omega (arith, h.1)

entry_bounded : (b : ℕ) (p : ℕ × List ℕ) → p.0 ≡ 0 → greatest p.1 ≤ b → Bounded b (key p)
unfolding key
entry_bounded b p z h = (z, let e = greatest_mono p.1 in omega arith)

module _ {E : Type 0} where
  -- the entries of a polynomial are bounded by its peak
  pub polynomial_bounded : (b : ℕ) (es : List (Entry E)) → peak es ≤ b → All (λ e. e.0.0 ≡ 0) es → All (λ e. Bounded b (key e.0)) es
  polynomial_bounded b [] h z i d w = absurd (omega arith)
  polynomial_bounded b (e ∷ es) h z zero d w = entry_bounded b e.0 (z 0 e (omega arith)) (omega arith)
  polynomial_bounded b (e ∷ es) h z (suc i) d w = polynomial_bounded b es (omega arith) (λ j f v. z (suc j) f (omega arith)) i d (omega arith)

  -- products of bounded entries stay below a cap
  pub bounded_products : (cap a b : ℕ) → a + b ≤ cap → (es fs : List (Entry E)) → All (λ e. Bounded a (key e.0)) es → All (λ t. Bounded b (key t.0)) fs → All (λ e. All (λ t. Within cap (list_product e.0.1 t.0.1)) fs) es
  bounded_products cap a b le es fs h g i d w j f v =
      let x = bounded_entry a (get_or es i d).0 (h i d w) in
      let y = bounded_entry b (get_or fs j f).0 (g j f v) in
      within_product cap _ _ (omega arith)

pub mul_mono : (a b p : ℕ) → a ≤ b → a * p ≤ b * p
mul_mono zero b p h = omega arith
mul_mono (suc a) zero p h = absurd (omega arith)
mul_mono (suc a) (suc b) p h = let r = mul_mono a b p (omega arith) in omega arith
