-- Polynomials in given polynomials are combinations of 1 over these: sums, multiples, members, longer lists.
use Rattle.std.proofs.Common.{◌≡◌, ℕ, zero, suc, ◌+◌, ◌<◌, ◌≤◌, List, [], ◌∷◌, ◌++◌, length, sym, ap, ◌∙◌, refl, subst, arith}
use Rattle.std.proofs.lemmas.List.{length-append}
use Rattle.alg_core.specs.Fields.{FieldOn}
use Rattle.alg_core.specs.Keys.{Key}
use Rattle.alg_core.specs.Vectors.{Vect, vectors}
use Rattle.alg_core.proofs.MonomialLists.{length_mono}
use Rattle.poly_module.specs.Combinations.{Over, term_value, combination_value, IsCombination}
use Rattle.poly_module.specs.Modules.{listed}
use Rattle.poly_module.specs.MonomialVariables.{variable, after_zeros}
use Rattle.poly_module.specs.Parts.{IsPolynomial, supp_single, supp_weaken, linear_unique_supp}
use Rattle.poly_module.specs.Polynomials.{one_vector, product, vector_ring, single_vector}
use Rattle.poly_module.specs.Products.{product_one}
use Rattle.poly_module.specs.Substitutions.{image, monomial_value, monomial_value_variable, substitute, substitute_single}
use Rattle.poly_module.specs.Variables.{monomial_value_agree, substitute_linear}
use Rattle.poly_module.proofs.CombinationLaws.{combination_value_linear, combination_value_single, over_member, over_within}
use Rattle.irreducible_gens.specs.Algebras.{IsPolynomialIn}

zeros_length : (j : ℕ) → length (after_zeros j (1 ∷ [])) ≡ suc j
unfolding after_zeros
zeros_length zero = refl
zeros_length (suc j) = ap suc (zeros_length j)

-- the length of a variable
pub length_variable : (j : ℕ) → length (variable j).0 ≤ suc j
unfolding variable
length_variable j = let a = length_mono (after_zeros j (1 ∷ [])) in let b = zeros_length j in omega arith

module _ {E : Type 0} (k : FieldOn E) where
  abbrev pub unit : List (Vect k)
  unit = one_vector k ∷ []

  -- the images of the variables are the members
  pub image_listed : (G : List (Vect k)) (i : ℕ) → i < length G → image (vector_ring k) G i ≡ listed k G i
  image_listed [] i h = absurd (omega arith)
  image_listed (g ∷ G) zero h = refl
  image_listed (g ∷ G) (suc i) h = image_listed G i (omega arith)

  image_front : (G U : List (Vect k)) (i : ℕ) → i < length G → image (vector_ring k) (G ++ U) i ≡ image (vector_ring k) G i
  image_front [] U i h = absurd (omega arith)
  image_front (g ∷ G) U zero h = refl
  image_front (g ∷ G) U (suc i) h = image_front G U i (omega arith)

  pub listed_back : (G U : List (Vect k)) (j : ℕ) → listed k (G ++ U) (length G + j) ≡ listed k U j
  listed_back [] U j = let q : 0 + j ≡ j = omega arith in ap (listed k U) q
  listed_back (g ∷ G) U j = let q : suc (length G) + j ≡ suc (length G + j) = omega arith in ap (listed k (g ∷ (G ++ U))) q ∙ listed_back G U j

  pub value_front : (G U : List (Vect k)) (a : List ℕ) → length a ≤ length G → monomial_value (vector_ring k) (G ++ U) a ≡ monomial_value (vector_ring k) G a
  value_front G U a l = monomial_value_agree (vector_ring k) (G ++ U) G a (λ i h. image_front G U i (omega arith))

  -- a combination of 1 is the value of a polynomial
  pub unit_term : (G : List (Vect k)) (t : Key) → t.0 ≡ 0 → term_value k G unit t ≡ monomial_value (vector_ring k) G t.1.0
  unit_term G t z = ap (λ j. product k (monomial_value (vector_ring k) G t.1.0) (listed k unit j)) z ∙ product_one k _

  pub unit_value : (G : List (Vect k)) (u : Vect k) → IsPolynomial k u → combination_value k G unit u ≡ substitute k G u
  unit_value G u p = linear_unique_supp k (vectors k) (combination_value k G unit) (substitute k G) (combination_value_linear k G unit) (substitute_linear k G) (λ t. t.0 ≡ 0)
      (λ t z. combination_value_single k G unit t ∙ unit_term G t z ∙ sym (substitute_single k G t)) u p

  pub unit_polynomial : (m : ℕ) (c : Vect k) → IsCombination k m 1 c → IsPolynomial k c
  unit_polynomial m c s t n = let q = (s t n).1 in omega arith

  pub over_polynomial : (G : List (Vect k)) (f : Vect k) → Over k G unit f → IsPolynomialIn k G f
  over_polynomial G f a = (a.0, record { polynomial = unit_polynomial (length G) a.0 a.1; variables = λ t n. (a.1 t n).0 }, sym (unit_value G a.0 (unit_polynomial (length G) a.0 a.1)) ∙ a.2)

  pub polynomial_over : (G : List (Vect k)) (f : Vect k) → IsPolynomialIn k G f → Over k G unit f
  polynomial_over G f a = (a.0, λ t n. (a.1.variables t n, let q = a.1.polynomial t n in omega arith), unit_value G a.0 a.1.polynomial ∙ a.2)

  -- more generators keep what is a combination
  pub over_wider : (G U S : List (Vect k)) (f : Vect k) → Over k G S f → Over k (G ++ U) S f
  over_wider G U S f a = (a.0, supp_weaken k (λ t. (length t.1.0 ≤ length G) × (t.0 < length S)) (λ t. (length t.1.0 ≤ length (G ++ U)) × (t.0 < length S)) (λ t p. (let l = length-append G U in let q = p.0 in omega arith, p.1)) a.0 a.1, same a.0 a.1 ∙ a.2)
    where
      same : (c : Vect k) → IsCombination k (length G) (length S) c → combination_value k (G ++ U) S c ≡ combination_value k G S c
      same = linear_unique_supp k (vectors k) (combination_value k (G ++ U) S) (combination_value k G S) (combination_value_linear k (G ++ U) S) (combination_value_linear k G S) (λ t. (length t.1.0 ≤ length G) × (t.0 < length S))
          (λ t p. combination_value_single k (G ++ U) S t ∙ ap (λ w. product k w (listed k S t.0)) (value_front G U t.1.0 p.0) ∙ sym (combination_value_single k G S t))

  -- the generators themselves
  pub over_generator : (G : List (Vect k)) (j : ℕ) → j < length G → Over k G unit (listed k G j)
  over_generator G j h = (
    single_vector k (0, variable j),
    supp_single k (λ t. (length t.1.0 ≤ length G) × (t.0 < 1)) (0, variable j) (let l = length_variable j in omega arith, omega arith),
    combination_value_single k G unit (0, variable j) ∙ unit_term G (0, variable j) refl ∙ monomial_value_variable (vector_ring k) G j ∙ image_listed G j h,
  )

  -- a combination of 1 and of further generators
  pub mixed_over : (G T : List (Vect k)) (f : Vect k) → Over k G (one_vector k ∷ T) f → Over k (G ++ T) unit f
  mixed_over G T f a = over_within k (G ++ T) (one_vector k ∷ T) unit each f (over_wider G T (one_vector k ∷ T) f a)
    where
      each : (j : ℕ) → j < length (one_vector k ∷ T) → Over k (G ++ T) unit (listed k (one_vector k ∷ T) j)
      each zero h = over_member k (G ++ T) unit 0 (omega arith)
      each (suc j) h = subst (Over k (G ++ T) unit) (listed_back G T j) (over_generator (G ++ T) (length G + j) (let l = length-append G T in omega arith))
