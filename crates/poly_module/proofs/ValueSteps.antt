-- The value of a monomial, from its last variable to the first; and sums of values.
use Rattle.std.proofs.Common.{◌≡◌, ◌<◌, ◌≤◌, ◌+◌, ◌*◌, ℕ, zero, suc, List, [], ◌∷◌, map, length, get_or, drop, refl, sym, ap, ap₂, subst, ◌∙◌, arith, inl, inr}
use Rattle.std.specs.Prelude.{All}
use Rattle.alg_core.specs.Lists.{In}
use Rattle.alg_core.specs.ExponentLists.{product as list_product, Within}
use Rattle.alg_core.specs.Keys.{key}
use Rattle.alg_core.specs.Vectors.{Vect, vec}
use Rattle.alg_core.specs.declared.term.Term.{Term}
use Rattle.alg_core.specs.Spaces.{SpaceOver, entries, Fits}
use Rattle.poly_module.specs.Polynomials.{product, one_vector, vector_ring}
use Rattle.poly_module.specs.Products.{ring_product, ring_one, one_product}
use Rattle.poly_module.specs.Substitutions.{power, monomial_value, monomial_value_nothing, substitute}
use Rattle.poly_module.specs.Variables.{substitute_polynomial}
use Rattle.poly_module.specs.Parts.{Supp, IsPolynomial, supp_weaken}
use Rattle.poly_module.specs.GreatestExponents.{total, highest}
use Rattle.poly_module.specs.SpaceVectors.{vectors_of, ArePolys, IsVectorOf}
use Rattle.poly_module.proofs.SpaceVectorLaws.{vector_given}
use Rattle.poly_module.specs.PowerTables.{value_of}
use Rattle.poly_module.proofs.ExponentBounds.{Bounded, supp_power, supp_monomial_value, vec_supp, fits_keys, polynomial_bounded, bounded_products, mul_mono}
use Rattle.poly_module.proofs.TableSteps.{drop_get, drop_none, in_drop, get_drop_total}

module _ {E M : Type 0} (S : SpaceOver E) (exps : M → List ℕ) where
  abbrev Terms : Type 0
  Terms = List (Term E M)

  abbrev ArePolynomials : List Terms → Type 0
  ArePolynomials images = All (λ p. All (λ e. e.0.0 ≡ 0) (entries exps p)) images

  pub positions : (images : List Terms) → ArePolys S exps images → ArePolynomials images
  positions images h = λ k d w. (h k d w).position

  images_bounded : (b : ℕ) (images : List Terms) → highest (map (entries exps) images) ≤ b → ArePolynomials images → (x : Vect S.field) → In x (vectors_of S exps images) → Supp S.field (Bounded b) x
  images_bounded b [] h z x i = absurd i
  images_bounded b (y ∷ images) h z x (inl e) = subst (Supp S.field (Bounded b)) e (vec_supp S.field (Bounded b) (entries exps y) (polynomial_bounded b (entries exps y) (omega arith) (z 0 y (omega arith))))
  images_bounded b (y ∷ images) h z x (inr i) = images_bounded b images (omega arith) (λ k d w. z (suc k) d (omega arith)) x i

  value_in : (images : List Terms) (i : ℕ) → i < length images → In (value_of S exps images i) (vectors_of S exps images)
  value_in [] i w = absurd (omega arith)
  value_in (y ∷ images) zero w = inl refl
  value_in (y ∷ images) (suc i) w = inr (value_in images i (omega arith))

  drop_values : (images : List Terms) (i : ℕ) → i < length images → drop i (vectors_of S exps images) ≡ value_of S exps images i ∷ drop (suc i) (vectors_of S exps images)
  drop_values [] i w = absurd (omega arith)
  drop_values (y ∷ images) zero w = refl
  drop_values (y ∷ images) (suc i) w = drop_values images i (omega arith)

  -- the value of the variables from i on
  abbrev pub from : List Terms → List ℕ → ℕ → Vect S.field
  from images a i = monomial_value (vector_ring S.field) (drop i (vectors_of S exps images)) (drop i a)

  from_split : (images : List Terms) (a : List ℕ) (i : ℕ) → i < length images → length a ≡ length images → from images a i ≡ product S.field (power (vector_ring S.field) (value_of S exps images i) (get_or a i 0)) (from images a (suc i))
  from_split images a i w same =
      ap₂ (monomial_value (vector_ring S.field)) (drop_values images i w) (drop_get a i (omega arith)) ∙ ring_product S.field _ _

  pub from_end : (images : List Terms) (a : List ℕ) (n : ℕ) → length images ≤ n → length a ≡ length images → from images a n ≡ one_vector S.field
  from_end images a n low same =
      ap (monomial_value (vector_ring S.field) (drop n (vectors_of S exps images))) (drop_none a n (omega arith)) ∙ monomial_value_nothing (vector_ring S.field) _ ∙ ring_one S.field

  pub start : (images : List Terms) (a : List ℕ) (n : ℕ) (v one : Terms) → n ≡ length images → length a ≡ length images → entries exps v ≡ entries exps one → IsVectorOf S exps (one_vector S.field) one
      → IsVectorOf S exps (from images a n) v
  start images a n v one all same copy is = vector_given S exps _ v (subst (Fits S) (sym copy) is.fits) (ap (vec S.field) copy ∙ is.is ∙ sym (from_end images a n (omega arith) same))

  at_whole : (images : List Terms) (a : List ℕ) (m i : ℕ) (v : Terms) → m ≡ i → IsVectorOf S exps (from images a m) v → IsVectorOf S exps (from images a i) v
  at_whole images a m i v e h = subst (λ n. IsVectorOf S exps (from images a n) v) e h

  -- a variable that does not occur
  pub skip : (images : List Terms) (a : List ℕ) (m i n : ℕ) (v : Terms) → m ≡ suc i → i < length images → length a ≡ length images → n ≡ get_or a i 0 → n ≡ 0 → IsVectorOf S exps (from images a m) v → IsVectorOf S exps (from images a i) v
  skip images a m i n v next w same read none h =
      let here = at_whole images a m (suc i) v next h in
      vector_given S exps _ v here.fits (here.is ∙ sym (from_split images a i w same ∙ ap (λ e. product S.field (power (vector_ring S.field) (value_of S exps images i) e) (from images a (suc i))) (sym read ∙ none) ∙ ap (λ u. product S.field u (from images a (suc i))) (ring_one S.field) ∙ one_product S.field _))

  -- one that occurs: its power times the value
  pub step : (images : List Terms) (a : List ℕ) (m i n : ℕ) (p v next : Terms) → m ≡ suc i → i < length images → length a ≡ length images → n ≡ get_or a i 0
      → IsVectorOf S exps (power (vector_ring S.field) (value_of S exps images i) n) p → IsVectorOf S exps (from images a m) v
      → Fits S (entries exps next) → vec S.field (entries exps next) ≡ product S.field (vec S.field (entries exps p)) (vec S.field (entries exps v)) → IsVectorOf S exps (from images a i) next
  step images a m i n p v next up w same read power_is h fits is =
      let here = at_whole images a m (suc i) v up h in
      vector_given S exps _ next fits (is ∙ ap₂ (product S.field) (power_is.is ∙ ap (power (vector_ring S.field) (value_of S exps images i)) read) here.is ∙ sym (from_split images a i w same))

  power_keys : (images : List Terms) (i n : ℕ) (p : Terms) → i < length images → ArePolynomials images → IsVectorOf S exps (power (vector_ring S.field) (value_of S exps images i) n) p → All (λ e. Bounded (n * highest (map (entries exps) images)) (key e.0)) (entries exps p)
  power_keys images i n p w z is =
      let b = highest (map (entries exps) images) in
      fits_keys S (Bounded (n * b)) (entries exps p) is.fits (subst (Supp S.field (Bounded (n * b))) (sym is.is) (supp_power S.field b (value_of S exps images i) (images_bounded b images (omega arith) z _ (value_in images i w)) n))

  -- its power is a polynomial
  pub power_zeros : (images : List Terms) (i n : ℕ) (p : Terms) → i < length images → ArePolynomials images → IsVectorOf S exps (power (vector_ring S.field) (value_of S exps images i) n) p → All (λ e. e.0.0 ≡ 0) (entries exps p)
  unfolding key
  power_zeros images i n p w z is k d v = (power_keys images i n p w z is k d v).0

  -- and the product stays below the cap
  pub step_small : (cap : ℕ) (images : List Terms) (a : List ℕ) (m i n : ℕ) (p v : Terms) → m ≡ suc i → i < length images → n ≡ get_or a i 0 → ArePolynomials images → total a * highest (map (entries exps) images) ≤ cap
      → IsVectorOf S exps (power (vector_ring S.field) (value_of S exps images i) n) p → IsVectorOf S exps (from images a m) v
      → All (λ e. All (λ t. Within cap (list_product e.0.1 t.0.1)) (entries exps v)) (entries exps p)
  step_small cap images a m i n p v up w read z small power_is h =
      let b = highest (map (entries exps) images) in
      let rest = total (drop (suc i) a) in
      let here = at_whole images a m (suc i) v up h in
      let there : Supp S.field (Bounded (rest * b)) (from images a (suc i)) = supp_monomial_value S.field b (drop (suc i) (vectors_of S exps images)) (λ x j. images_bounded b images (omega arith) z x (in_drop x _ (suc i) j)) (drop (suc i) a) in
      let below : (n + rest) * b ≤ total a * b = let t = get_drop_total a i in mul_mono (n + rest) (total a) b (omega arith) in
      bounded_products cap (n * b) (rest * b) (omega arith) (entries exps p) (entries exps v) (power_keys images i n p w z power_is)
      (fits_keys S (Bounded (rest * b)) (entries exps v) here.fits (subst (Supp S.field (Bounded (rest * b))) (sym here.is) there))

  -- polynomials for the variables give polynomials
  pub value_zeros : (images : List Terms) (u : Vect S.field) (v : Terms) → ArePolynomials images → Fits S (entries exps v) → vec S.field (entries exps v) ≡ substitute S.field (vectors_of S exps images) u → All (λ e. e.0.0 ≡ 0) (entries exps v)
  unfolding key
  value_zeros images u v z fits is =
      let b = highest (map (entries exps) images) in
      let each : (x : Vect S.field) → In x (vectors_of S exps images) → IsPolynomial S.field x = λ x i. supp_weaken S.field (Bounded b) (λ t. t.0 ≡ 0) (λ t h. h.0) x (images_bounded b images (omega arith) z x i) in
      fits_keys S (λ t. t.0 ≡ 0) (entries exps v) fits (subst (IsPolynomial S.field) (sym is) (substitute_polynomial S.field (vectors_of S exps images) each u))
