-- The search for the least power of each variable: one division, and the list of the powers that were found.
use Rattle.std.proofs.Common.{◌≡◌, ◌∙◌, ◌+◌, ◌*◌, ◌<◌, ◌≤◌, ℕ, zero, suc, List, [], ◌∷◌, ◌++◌, length, refl, sym, ap, subst, arith}
use Rattle.std.specs.Prelude.{slice_index_or}
use native.Mathlib.Decide.{ℕ_discrete}
use Rattle.alg_core.specs.Spaces.{SpaceOver}
use Rattle.alg_core.specs.Vectors.{Vect, zero_vector}
use Rattle.alg_core.specs.declared.term.Term.{Term}
use Rattle.poly_module.specs.Degrees.{IsHomogeneous}
use Rattle.poly_module.specs.Modules.{listed}
use Rattle.poly_module.specs.Parts.{Supp}
use Rattle.poly_module.specs.SpaceVectors.{IsVector, IsPoly, IsPolyOf, IsUpTo, vector_of, vectors_of}
use Rattle.poly_module.proofs.SpaceVectorLaws.{vector_given}
use Rattle.module_groebner.specs.HomogeneousLists.{degree_limit as division_limit}
use Rattle.module_groebner.specs.Remainders.{IsRemainder, KeepsDegrees}
use Rattle.module_groebner.proofs.Families.{map_append}
use Rattle.finite_certificate.specs.declared.power.Power.{Power}
use Rattle.finite_certificate.specs.Finiteness.{IsPower, FiniteBy, powers_of}
use Rattle.finite_certificate.specs.Ideals.{Ended, variable_power}
use Rattle.finite_certificate.specs.MarkSpaces.{IsMarkSpace, HasMark, ArePositiveForms, degree_limit}
use Rattle.groebner_hom.specs.Lifts.{AreUnmarkedLifts, IsLeastPower, AreLeastPowers}
use Rattle.groebner_hom.proofs.ExponentSteps.{NoSmaller, smaller-more}
use Rattle.groebner_hom.proofs.LeastPowers.{power_homogeneous, polynomial, marks_exact, least_power, is_power, exponent_low_enough}

-- the terms of the power of a variable have its degree
pub power_low : {E : Type 0} (S : SpaceOver E) (n : ℕ) (ds : List ℕ) (space : IsMarkSpace S n ds) (i e : ℕ) → i < n → (p : List (Term E (List ℕ))) → IsPolyOf S (λ m. m) (variable_power S.field i e) p
    → e ≤ division_limit → IsUpTo S division_limit (vector_of S (λ m. m) p)
power_low S n ds space i e within p power low = subst (IsUpTo S division_limit) (sym power.is) (λ t c. let d = power_homogeneous S n ds space i e within t c in omega arith)

-- one division
module _ {E : Type 0} (S : SpaceOver E) (n : ℕ) (ds : List ℕ) (space : IsMarkSpace S n ds) (θ : List (Vect S.field)) (primaries : ArePositiveForms S.field n ds θ)
    (ls : List (List (Term E (List ℕ)))) (lifts : AreUnmarkedLifts S n θ ls) (i e : ℕ) (within : i < n) (p : List (Term E (List ℕ))) (power : IsPolyOf S (λ m. m) (variable_power S.field i e) p)
    (r : List (Term E (List ℕ))) (fits : IsVector S (λ m. m) r) (divided : IsRemainder S (listed S.field (vectors_of S (λ m. m) ls)) (vector_of S (λ m. m) p) (vector_of S (λ m. m) r)) where
  rest : IsRemainder S (listed S.field (vectors_of S (λ m. m) ls)) (variable_power S.field i e) (vector_of S (λ m. m) r)
  rest = subst (λ v. IsRemainder S (listed S.field (vectors_of S (λ m. m) ls)) v (vector_of S (λ m. m) r)) power.is divided

  pub form_poly : IsPoly S (λ m. m) r
  form_poly = record { fits = fits; position = (vector_given S (λ m. m) (vector_of S (λ m. m) r) r fits refl).position (polynomial S n ds space θ primaries ls lifts i e within r fits rest) }

  pub form_degree : KeepsDegrees S (vector_of S (λ m. m) p) (vector_of S (λ m. m) r) → (d : ℕ) × IsHomogeneous S d (vector_of S (λ m. m) r)
  form_degree kept = (e, kept.homogeneous e (subst (IsHomogeneous S e) (sym power.is) (power_homogeneous S n ds space i e within)))

  pub found_least : NoSmaller S.field θ i e → Supp S.field (HasMark n) (vector_of S (λ m. m) r) → IsLeastPower S.field n θ i (e, vector_of S (λ m. m) r)
  found_least = least_power S n ds space θ primaries ls lifts i e within r fits rest

  pub found_power : Supp S.field (HasMark n) (vector_of S (λ m. m) r) → IsPower S.field n θ i (e, vector_of S (λ m. m) r)
  found_power = is_power S n ds space θ primaries ls lifts i e within r fits rest

  pub none_smaller : NoSmaller S.field θ i e → ¬ Supp S.field (HasMark n) (vector_of S (λ m. m) r) → NoSmaller S.field θ i (e + 1)
  none_smaller none some = smaller-more S.field θ i e none (λ inside. some ((marks_exact S n ds space θ primaries ls lifts i e within r fits rest).1 inside))

  pub low_enough : KeepsDegrees S (vector_of S (λ m. m) p) (vector_of S (λ m. m) r) → Ended S.field n θ → ¬ Supp S.field (HasMark n) (vector_of S (λ m. m) r) → e ≤ n * degree_limit
  low_enough kept = exponent_low_enough S n ds space θ primaries ls lifts i e within r fits rest (subst (λ v. KeepsDegrees S v (vector_of S (λ m. m) r)) power.is kept)

-- what belongs at each place of a list
module _ {A : Type 0} (P : ℕ → A → Type 0) (d : A) where
  at-front : (xs : List A) (x : A) (i : ℕ) → i < length xs → slice_index_or (xs ++ x ∷ []) i d ≡ slice_index_or xs i d
  at-front [] x i h = absurd (omega arith)
  at-front (y ∷ xs) x zero h = refl
  at-front (y ∷ xs) x (suc i) h = at-front xs x i (omega arith)

  at-end : (xs : List A) (x : A) → slice_index_or (xs ++ x ∷ []) (length xs) d ≡ x
  at-end [] x = refl
  at-end (y ∷ xs) x = at-end xs x

  length-more : (xs : List A) (x : A) → length (xs ++ x ∷ []) ≡ length xs + 1
  length-more [] x = refl
  length-more (y ∷ xs) x = let r = length-more xs x in omega arith

  pub record ArePlaced (m : ℕ) (xs : List A) : Type 0 where
    pub count : length xs ≡ m
    pub each : (i : ℕ) → i < m → P i (slice_index_or xs i d)

  pub placed-more : (m : ℕ) (x : A) (xs : List A) → ArePlaced m xs → P m x → ArePlaced (m + 1) (xs ++ x ∷ [])
  placed-more m x xs placed here = record {
    count = let c = placed.count in let l = length-more xs x in omega arith;
    each = λ i h. at i h (ℕ_discrete i m);
  }
    where
      at : (i : ℕ) → i < m + 1 → Dec (i ≡ m) → P i (slice_index_or (xs ++ x ∷ []) i d)
      at i h (yes same) =
          let read : slice_index_or (xs ++ x ∷ []) i d ≡ x = ap (λ (j : ℕ). slice_index_or (xs ++ x ∷ []) j d) (same ∙ sym placed.count) ∙ at-end xs x in
          subst (P i) (sym read) (subst (λ (j : ℕ). P j x) (sym same) here)
      at i h (no other) =
          let low : i < m = omega arith in
          let inside : i < length xs = let c = placed.count in omega arith in
          subst (P i) (sym (at-front xs x i inside)) (placed.each i low)

-- the powers of the first variables
module _ {E : Type 0} (S : SpaceOver E) (n : ℕ) (θ : List (Vect S.field)) where
  abbrev pub IsFound : ℕ → ℕ × Vect S.field → Type 0
  IsFound i p = IsLeastPower S.field n θ i p × IsPower S.field n θ i p

  abbrev pub AreFound : ℕ → List (Power E) → Type 0
  AreFound m ps = ArePlaced IsFound (0, zero_vector S.field) m (powers_of S ps)

  pub found-none : (ps : List (Power E)) → ps ≡ [] → AreFound 0 ps
  found-none ps none = subst (AreFound 0) (sym none) (record { count = refl; each = λ i h. absurd (omega arith) })

  pub found-more : (m : ℕ) (p : Power E) (ps new : List (Power E)) → AreFound m ps → IsFound m (p.exponent, vector_of S (λ m. m) p.form) → new ≡ ps ++ p ∷ [] → AreFound (m + 1) new
  found-more m p ps new found here is = subst (ArePlaced IsFound (0, zero_vector S.field) (m + 1)) (sym (ap (powers_of S) is ∙ map_append (λ (q : Power E). (q.exponent, vector_of S (λ m. m) q.form)) ps (p ∷ [])))
      (placed-more IsFound (0, zero_vector S.field) m (p.exponent, vector_of S (λ m. m) p.form) (powers_of S ps) found here)

  pub found-least : (m : ℕ) (ps : List (Power E)) → AreFound m ps → m ≡ n → AreLeastPowers S.field n θ (powers_of S ps)
  found-least m ps found same = record { count = found.count ∙ same; each = λ i h. (found.each i (omega arith)).0 }

  pub found-finite : (m : ℕ) (ps : List (Power E)) → AreFound m ps → m ≡ n → FiniteBy S.field n θ (powers_of S ps)
  found-finite m ps found same = record { count = found.count ∙ same; powers = λ i h. (found.each i (omega arith)).1 }
