-- The degree of a monomial, by its exponents.
use Rattle.std.proofs.Common.{◌≡◌, ℕ, zero, suc, ◌+◌, ◌<◌, ◌≤◌, List, [], ◌∷◌, length, replicate, refl, sym, ap, ap₂, subst, ◌∙◌, arith, length-set}
use Rattle.std.proofs.lemmas.List.{length-replicate}
use native.Mathlib.Decide.{ℕ_discrete, dec_le}
use Rattle.alg_core.specs.ExponentLists.{product, Within}
use Rattle.alg_core.specs.Keys.{Key, key, keys}
use Rattle.alg_core.specs.Monomials.{Mon, monomials, mono, exponents, exponent_mono, length_exponents, mono_exponents}
use Rattle.alg_core.specs.SpaceGrading.{weight, weight_ext, weight_mul}
use Rattle.alg_core.proofs.MonomialLists.{mono_product}
use Rattle.poly_module.specs.Forms.{key_weight}
use Rattle.poly_module.specs.GreatestExponents.{total, greatest}
use Rattle.poly_module.specs.MonomialVariables.{variable}
use Rattle.poly_module.specs.Variables.{exponent_past, length_mon, length_mul}
use Rattle.poly_module.proofs.ExponentBounds.{Bounded, greatest_mono, within_product}
use Rattle.poly_module.proofs.ConstantSteps.{mono_set}
use Rattle.matrix_group.proofs.ActionSteps.{key_variable}
use Rattle.invariant_space.specs.InvariantSpaces.{IsOfDegree}
use Rattle.secondary_gens.specs.Images.{unit_exponents}

weight_total : (n i : ℕ) (a : List ℕ) → length a ≡ n → weight (replicate n 1) i a ≡ total a
unfolding weight
weight_total zero i [] e = refl
weight_total zero i (x ∷ a) e = absurd (omega arith)
weight_total (suc n) i [] e = absurd (omega arith)
weight_total (suc n) i (x ∷ a) e = let r = weight_total n (suc i) a (omega arith) in omega arith

-- the monomial with these exponents has their sum as degree
pub of_exponents : (n : ℕ) (a : List ℕ) → length a ≡ n → IsOfDegree n (total a) (key (0, a))
unfolding key
of_exponents n a e = record {
  position = refl;
  variables = length_mon n (mono a) (λ i l. exponent_mono a i ∙ exponent_past a i (omega arith));
  degree = weight_ext (replicate n 1) 0 (mono a).0 a (exponent_mono a) ∙ weight_total n 0 a e;
}

-- a monomial of a degree has exponents with that sum
pub exponents_of : (n d : ℕ) (t : Key) → IsOfDegree n d t → (a : List ℕ) × (length a ≡ n) × (total a ≡ d) × (key (0, a) ≡ t)
unfolding key
exponents_of n d t h = (
  exponents n t.1.0,
  length_exponents n t.1.0,
  sym (of_exponents n (exponents n t.1.0) (length_exponents n t.1.0)).degree ∙ ap (key_weight (replicate n 1)) same ∙ h.degree,
  same,
)
  where
    same : key (0, exponents n t.1.0) ≡ t
    same = ap₂ (λ (i : ℕ) (m : Mon). (i, m)) (sym h.position) (mono_exponents n t.1 h.variables)

pub of_degree : (n d : ℕ) (t : Key) → Dec (IsOfDegree n d t)
of_degree n d t = go (ℕ_discrete t.0 0) (dec_le (length t.1.0) n) (ℕ_discrete (key_weight (replicate n 1) t) d)
  where
    go : Dec (t.0 ≡ 0) → Dec (length t.1.0 ≤ n) → Dec (key_weight (replicate n 1) t ≡ d) → Dec (IsOfDegree n d t)
    go (yes p) (yes q) (yes r) = yes (record { position = p; variables = q; degree = r })
    go (no p) q r = no (λ h. p h.position)
    go (yes p) (no q) r = no (λ h. q h.variables)
    go (yes p) (yes q) (no r) = no (λ h. r h.degree)

-- degrees add
pub of_degree_times : (n d e : ℕ) (s t : Key) → IsOfDegree n d s → IsOfDegree n e t → IsOfDegree n (d + e) (keys.◌·◌ s t)
unfolding keys
of_degree_times n d e s t h g = record {
  position = omega (arith, h.position, g.position);
  variables = length_mul n s.1 t.1 h.variables g.variables;
  degree = let w = weight_mul (replicate n 1) s.1 t.1 in omega (arith, w, h.degree, g.degree);
}

greatest_total : (a : List ℕ) → greatest a ≤ total a
greatest_total [] = omega arith
greatest_total (x ∷ a) = let h = greatest_total a in omega arith

-- no exponent is above the degree
pub bounded_of_degree : (n d : ℕ) (t : Key) → IsOfDegree n d t → Bounded d t
unfolding key
bounded_of_degree n d t h =
    let p = exponents_of n d t h in
    let same = greatest_mono p.0 in
    let low = greatest_total p.0 in
    subst (Bounded d) p.3 (refl, omega (arith, same, low, p.2))

-- the monomial 1 has degree 0
pub total_constant : (n : ℕ) → total (replicate n 0) ≡ 0
total_constant zero = refl
total_constant (suc n) = let h = total_constant n in omega arith

pub total_unit : (n i : ℕ) → i < n → total (unit_exponents n i) ≡ 1
total_unit zero i h = absurd (omega arith)
total_unit (suc n) zero h = let z = total_constant n in omega arith
total_unit (suc n) (suc i) h = let r = total_unit n i (omega arith) in omega arith

pub length_unit : (n i : ℕ) → length (unit_exponents n i) ≡ n
length_unit n i = simp (length-set, length-replicate)

total_sum : (a b : List ℕ) → length a ≡ length b → total (product a b) ≡ total a + total b
total_sum [] [] e = refl
total_sum [] (y ∷ b) e = absurd (omega arith)
total_sum (x ∷ a) [] e = absurd (omega arith)
total_sum (x ∷ a) (y ∷ b) e = let r = total_sum a b (omega arith) in omega arith

pub length_sum : (a b : List ℕ) → length a ≡ length b → length (product a b) ≡ length a
length_sum [] [] e = refl
length_sum [] (y ∷ b) e = absurd (omega arith)
length_sum (x ∷ a) [] e = absurd (omega arith)
length_sum (x ∷ a) (y ∷ b) e = let r = length_sum a b (omega arith) in omega arith

-- a variable times a monomial
pub total_times : (n i : ℕ) (a : List ℕ) → i < n → length a ≡ n → total (product a (unit_exponents n i)) ≡ total a + 1
total_times n i a h e = total_sum a (unit_exponents n i) (e ∙ sym (length_unit n i)) ∙ ap (λ d. total a + d) (total_unit n i h)

pub length_times : (n i : ℕ) (a : List ℕ) → length a ≡ n → length (product a (unit_exponents n i)) ≡ n
length_times n i a e = length_sum a (unit_exponents n i) (e ∙ sym (length_unit n i)) ∙ e

pub key_unit : (n i : ℕ) → i < n → key (0, unit_exponents n i) ≡ (0, variable i)
key_unit n i h = key_variable (unit_exponents n i) (unit_exponents n i) i refl (mono_set n i h)

pub variable_degree : (n i : ℕ) → i < n → IsOfDegree n 1 (0, variable i)
variable_degree n i h = subst (IsOfDegree n 1) (key_unit n i h) (subst (λ d. IsOfDegree n d (key (0, unit_exponents n i))) (total_unit n i h) (of_exponents n (unit_exponents n i) (length_unit n i)))

pub key_times : (n i : ℕ) (a : List ℕ) → i < n → length a ≡ n → key (0, product a (unit_exponents n i)) ≡ keys.◌·◌ (0, variable i) (key (0, a))
unfolding key keys
key_times n i a h e = ap (λ (m : Mon). (0, m)) (mono_product a (unit_exponents n i) (e ∙ sym (length_unit n i)) ∙ monomials.comm _ _ ∙ ap (λ x. monomials.◌·◌ x (mono a)) (mono_set n i h))

-- the exponents of a variable times a monomial are small
pub exponents_small : (n i : ℕ) (a : List ℕ) (cap : ℕ) → total a + 1 ≤ cap → i < n → length a ≡ n → Within cap (product a (unit_exponents n i))
exponents_small n i a cap le h e = within_product cap a (unit_exponents n i)
    (let p = greatest_total a in let q = greatest_total (unit_exponents n i) in let r = total_unit n i h in omega arith)
