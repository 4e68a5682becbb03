-- The degree of a standard monomial is smaller than the number of all of them, and is the total of its exponents.
use Rattle.std.proofs.Common.{◌≡◌, ◌∙◌, ◌+◌, ◌<◌, ◌≤◌, ℕ, zero, suc, true, List, [], ◌∷◌, ◌++◌, length, replicate, refl, sym, ap, subst, inl, inr, arith}
use Rattle.alg_core.specs.ExponentLists.{quotient, divides}
use Rattle.alg_core.specs.Fields.{FieldOn}
use Rattle.alg_core.specs.Keys.{Key}
use Rattle.alg_core.specs.CommonMultiples.{exponents_divide}
use Rattle.alg_core.specs.Lists.{In}
use Rattle.alg_core.specs.Monomials.{Mon, monomials, mono, exponent, exponent_mono, exponents, exponents_mono}
use Rattle.alg_core.specs.SpaceGrading.{weight, weight_ext, weight_mul}
use Rattle.alg_core.specs.Spaces.{SpaceOver}
use Rattle.alg_core.specs.Vectors.{Vect}
use Rattle.alg_core.proofs.Members.{Apart, apart_no_longer}
use Rattle.alg_core.proofs.MonomialLists.{exponent_past, length_mon, mono_quotient}
use Rattle.poly_module.specs.Polynomials.{single_vector}
use Rattle.poly_module.specs.Parts.{supp_single}
use Rattle.poly_module.specs.Degrees.{IsHomogeneous}
use Rattle.poly_module.specs.Forms.{IsForm, OfDegree, form_homogeneous}
use Rattle.poly_module.specs.GreatestExponents.{total}
use Rattle.matrix_group.proofs.FamilyLaws.{weight_ones}
use Rattle.module_groebner.proofs.Families.{all_in}
use Rattle.finite_certificate.specs.MarkSpaces.{IsMarkSpace}
use Rattle.finite_certificate.specs.StandardMonomials.{IsStandard, AreStandardMonomials}
use Rattle.finite_certificate.proofs.ModuleTerms.{weight_variables}
use Rattle.finite_certificate.proofs.StandardTests.{standard_divisor}

-- less by 1 in the first exponent that is not 0
lower : List ℕ → List ℕ
lower [] = []
lower (zero ∷ a) = zero ∷ lower a
lower (suc x ∷ a) = x ∷ a

length_lower : (a : List ℕ) → length (lower a) ≡ length a
unfolding lower
length_lower [] = refl
length_lower (zero ∷ a) = ap suc (length_lower a)
length_lower (suc x ∷ a) = refl

total_lower : (a : List ℕ) (d : ℕ) → total a ≡ suc d → total (lower a) ≡ d
unfolding lower
total_lower [] d e = absurd (omega arith)
total_lower (zero ∷ a) d e = let r = total_lower a d (omega arith) in omega arith
total_lower (suc x ∷ a) d e = omega arith

lower_less : (a : List ℕ) (j : ℕ) → exponent (lower a) j ≤ exponent a j
unfolding lower
lower_less [] j = omega arith
lower_less (zero ∷ a) zero = omega arith
lower_less (zero ∷ a) (suc j) = lower_less a j
lower_less (suc x ∷ a) zero = omega arith
lower_less (suc x ∷ a) (suc j) = omega arith

-- down to 1
chain : ℕ → List ℕ → List (List ℕ)
chain zero a = a ∷ []
chain (suc d) a = a ∷ chain d (lower a)

chain_length : (d : ℕ) (a : List ℕ) → length (chain d a) ≡ suc d
unfolding chain
chain_length zero a = refl
chain_length (suc d) a = ap suc (chain_length d (lower a))

chain_totals : (d : ℕ) (a : List ℕ) → total a ≡ d → (b : List ℕ) → In b (chain d a) → total b ≤ d
unfolding chain
chain_totals zero a e b (inl i) = let same = ap total i in omega arith
chain_totals zero a e b (inr i) = absurd i
chain_totals (suc d) a e b (inl i) = let same = ap total i in omega arith
chain_totals (suc d) a e b (inr i) = let r = chain_totals d (lower a) (total_lower a d e) b i in omega arith

chain_apart : (d : ℕ) (a : List ℕ) → total a ≡ d → Apart (chain d a)
unfolding chain
chain_apart zero a e = (λ y i. absurd i, tt)
chain_apart (suc d) a e = (λ y i same. let r = chain_totals d (lower a) (total_lower a d e) y i in let t = ap total same in absurd (omega arith), chain_apart d (lower a) (total_lower a d e))

module _ {E : Type 0} (k : FieldOn E) (n : ℕ) (θ : List (Vect k)) (B : List (List ℕ)) (standard : AreStandardMonomials k n θ B) where
  pub standard_wide : (a : List ℕ) → In a B → length a ≡ n
  standard_wide = all_in (λ a. length a ≡ n) B standard.wide

  lower_in : (a : List ℕ) → In a B → In (lower a) B
  lower_in a i =
      let wide : length (lower a) ≡ n = length_lower a ∙ standard_wide a i in
      let d = exponents_divide (mono (lower a)) (mono a) (λ j. let p = exponent_mono (lower a) j in let q = exponent_mono a j in let l = lower_less a j in omega arith) in
      let divisor = standard_divisor k n θ (mono (lower a)) (mono a) (d.0, ap (λ (m : Mon). (0, m)) (monomials.comm d.0 (mono (lower a)) ∙ d.1)) (all_in (λ b. IsStandard k n θ (mono b)) B standard.standard a i) in
      subst (λ b. In b B) (exponents_mono n (lower a) wide)
      (standard.all (mono (lower a)) (length_mon n (mono (lower a)) (λ j past. exponent_mono (lower a) j ∙ exponent_past (lower a) j (omega arith))) divisor)

  chain_in : (d : ℕ) (a : List ℕ) → In a B → (b : List ℕ) → In b (chain d a) → In b B
  unfolding chain
  chain_in zero a h b (inl i) = subst (λ c. In c B) i h
  chain_in zero a h b (inr i) = absurd i
  chain_in (suc d) a h b (inl i) = subst (λ c. In c B) i h
  chain_in (suc d) a h b (inr i) = chain_in d (lower a) (lower_in a h) b i

  -- so many divisors it has
  pub total_below : (a : List ℕ) → In a B → total a < length B
  total_below a i =
      let r = apart_no_longer (chain (total a) a) B (chain_apart (total a) a refl) (chain_in (total a) a i) in
      let l = chain_length (total a) a in
      omega arith

-- the degree where each variable has the degree 1
pub total_weight : (n : ℕ) (a : List ℕ) → length a ≤ n → weight (replicate n 1) 0 (mono a).0 ≡ total a
total_weight n a h = weight_ext (replicate n 1) 0 (mono a).0 a (exponent_mono a) ∙ weight_ones n 0 a h

pub total_quotient : (n : ℕ) (b a : List ℕ) → length b ≡ n → length a ≡ n → length (quotient b a) ≡ n → divides a b ≡ true → total (quotient b a) + total a ≡ total b
total_quotient n b a wb wa wq d =
    let whole = ap (λ (m : Mon). weight (replicate n 1) 0 m.0) (mono_quotient b a (wb ∙ sym wa) d) in
    let sum = weight_mul (replicate n 1) (mono a) (mono (quotient b a)) in
    let p = total_weight n a (omega arith) in
    let q = total_weight n (quotient b a) (omega arith) in
    let r = total_weight n b (omega arith) in
    omega arith

pub length_quotient : (n : ℕ) (b a : List ℕ) → length b ≡ n → length a ≡ n → length (quotient b a) ≡ n
length_quotient n [] a wb wa = wb
length_quotient n (y ∷ b) [] wb wa = absurd (omega arith)
length_quotient zero (y ∷ b) (x ∷ a) wb wa = absurd (omega arith)
length_quotient (suc n) (y ∷ b) (x ∷ a) wb wa = ap suc (length_quotient n b a (omega arith) (omega arith))

-- a monomial in the variables as a polynomial in variables and marks
module _ {E : Type 0} (S : SpaceOver E) (n : ℕ) (ds : List ℕ) (space : IsMarkSpace S n ds) (a : List ℕ) (wide : length a ≡ n) where
  pub monomial_short : length (mono a).0 ≤ n
  monomial_short = length_mon n (mono a) (λ j past. exponent_mono a j ∙ exponent_past a j (omega arith))

  pub monomial_form : IsForm S.field S.weights (total a) (single_vector S.field (0, mono a))
  monomial_form = supp_single S.field (OfDegree S.field S.weights (total a)) (0, mono a)
      (refl, ap (λ (ws : List ℕ). weight ws 0 (mono a).0) space.weights ∙ weight_variables n ds 0 (mono a).0 monomial_short ∙ total_weight n a (omega arith))

  pub monomial_homogeneous : IsHomogeneous S (total a) (single_vector S.field (0, mono a))
  monomial_homogeneous = form_homogeneous S space.shift (total a) (single_vector S.field (0, mono a)) monomial_form
