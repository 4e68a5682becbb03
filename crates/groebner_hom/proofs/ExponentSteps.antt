-- The search for the least exponent of each variable.
use Rattle.std.proofs.Common.{◌≡◌, ◌∙◌, ◌+◌, ◌*◌, ◌<◌, ◌≤◌, ℕ, zero, suc, Bool, true, false, List, [], ◌∷◌, ◌++◌, length, refl, sym, ap, subst, arith}
use Rattle.std.proofs.lemmas.Bool.Decides.{nat_tests}
use Rattle.std.specs.Prelude.{IsTrue, ◌↔◌, ◌==◌, slice_index_or}
use native.Mathlib.Decide.{dec_le, ℕ_discrete}
use Rattle.alg_core.specs.Fields.{FieldOn}
use Rattle.alg_core.specs.Spaces.{SpaceOver}
use Rattle.alg_core.specs.SpaceOrder.{key_order}
use Rattle.alg_core.specs.Vectors.{Vect}
use Rattle.alg_core.specs.declared.term.Term.{Term}
use Rattle.poly_module.specs.Degrees.{IsHomogeneous}
use Rattle.poly_module.specs.Modules.{listed}
use Rattle.poly_module.specs.SpaceVectors.{IsPositive, IsVector, IsPolyOf, IsUpTo, vector_of, vectors_of}
use Rattle.poly_module.specs.ReducedLists.{IsReducedBasisOf}
use Rattle.poly_module.proofs.Reduced.{reduced_is_basis}
use Rattle.module_groebner.specs.HomogeneousLists.{degree_limit}
use Rattle.module_groebner.specs.Remainders.{IsRemainder, KeepsDegrees}
use Rattle.finite_certificate.specs.Ideals.{InIdeal, Ended, variable_power}
use Rattle.groebner_hom.specs.Exponents.{exponent_cap, IsLeastExponent, AreLeastExponents, HasUnitDegrees, IsEndedBasis}
use Rattle.groebner_hom.specs.IdealBases.{AreHomogeneousPolys}
use Rattle.groebner_hom.proofs.NonzerodivisorSteps.{polys_weaken}
use Rattle.groebner_hom.proofs.PolynomialLists.{member_exact, members_nonzero, same_ideal}
use Rattle.groebner_hom.proofs.PowerBounds.{power_homogeneous, power_bound}

at-front : (xs : List ℕ) (x i : ℕ) → i < length xs → slice_index_or (xs ++ x ∷ []) i 0 ≡ slice_index_or xs i 0
at-front [] x i h = absurd (omega arith)
at-front (y ∷ xs) x zero h = refl
at-front (y ∷ xs) x (suc i) h = at-front xs x i (omega arith)

at-end : (xs : List ℕ) (x : ℕ) → slice_index_or (xs ++ x ∷ []) (length xs) 0 ≡ x
at-end [] x = refl
at-end (y ∷ xs) x = at-end xs x

length-more : (xs : List ℕ) (x : ℕ) → length (xs ++ x ∷ []) ≡ length xs + 1
length-more [] x = refl
length-more (y ∷ xs) x = let r = length-more xs x in omega arith

module _ {E : Type 0} (k : FieldOn E) (θ : List (Vect k)) where
  -- no smaller exponent will do
  abbrev pub NoSmaller : ℕ → ℕ → Type 0
  NoSmaller i e = (d : ℕ) → d < e → ¬ InIdeal k θ (variable_power k i d)

  pub smaller-more : (i e : ℕ) → NoSmaller i e → ¬ InIdeal k θ (variable_power k i e) → NoSmaller i (e + 1)
  smaller-more i e none outside d h inside = at (ℕ_discrete d e)
    where
      at : Dec (d ≡ e) → ⊥
      at (yes same) = outside (subst (λ x. InIdeal k θ (variable_power k i x)) same inside)
      at (no other) = none d (omega arith) inside

  pub least-from : (i e : ℕ) → NoSmaller i e → InIdeal k θ (variable_power k i e) → IsLeastExponent k θ i e
  least-from i e none inside = record { inside = inside; least = λ d there. at d there (dec_le e d) }
    where
      at : (d : ℕ) → InIdeal k θ (variable_power k i d) → Dec (e ≤ d) → e ≤ d
      at d there (yes low) = low
      at d there (no high) = absurd (none d (omega arith) there)

  -- the first variables have theirs
  pub record AreFirst (m : ℕ) (es : List ℕ) : Type 0 where
    pub count : length es ≡ m
    pub each : (i : ℕ) → i < m → IsLeastExponent k θ i (slice_index_or es i 0)

  pub first-none : (es : List ℕ) → es ≡ [] → AreFirst 0 es
  first-none es none = record { count = ap length none; each = λ i h. absurd (omega arith) }

  pub first-more : (m e : ℕ) (es new : List ℕ) → AreFirst m es → IsLeastExponent k θ m e → new ≡ es ++ e ∷ [] → AreFirst (m + 1) new
  first-more m e es new first least is = subst (AreFirst (m + 1)) (sym is) (record {
    count = let c = first.count in let l = length-more es e in omega arith;
    each = λ i h. at i h (ℕ_discrete i m);
  })
    where
      at : (i : ℕ) → i < m + 1 → Dec (i ≡ m) → IsLeastExponent k θ i (slice_index_or (es ++ e ∷ []) i 0)
      at i h (yes same) =
          let here : slice_index_or (es ++ e ∷ []) i 0 ≡ e = ap (λ j. slice_index_or (es ++ e ∷ []) j 0) (same ∙ sym first.count) ∙ at-end es e in
          subst (λ x. IsLeastExponent k θ i x) (sym here) (subst (λ j. IsLeastExponent k θ j e) (sym same) least)
      at i h (no other) =
          let low : i < m = omega arith in
          let inside : i < length es = let c = first.count in omega arith in
          subst (λ x. IsLeastExponent k θ i x) (sym (at-front es e i inside)) (first.each i low)

  pub first-all : (n m : ℕ) (es : List ℕ) → AreFirst m es → m ≡ n → AreLeastExponents k n θ es
  first-all n m es first same = subst (λ x. AreLeastExponents k x θ es) same (record { count = first.count; each = first.each })

-- lists with one ideal have the same least exponents
pub least-same : {E : Type 0} (k : FieldOn E) (θ η : List (Vect k)) → ((v : Vect k) → InIdeal k θ v ↔ InIdeal k η v) → (i e : ℕ) → IsLeastExponent k θ i e → IsLeastExponent k η i e
least-same k θ η same i e l = record { inside = (same (variable_power k i e)).0 l.inside; least = λ d there. l.least d ((same (variable_power k i d)).1 there) }

module _ {E : Type 0} (S : SpaceOver E) (positive : IsPositive S) (unit : HasUnitDegrees S) where
  abbrev Terms : Type 0
  Terms = List (Term E (List ℕ))

  module _ (i e : ℕ) (within : i < length S.weights) (p : List (Term E (List ℕ))) (power : IsPolyOf S (λ m. m) (variable_power S.field i e) p) where
    pub power_low : e ≤ degree_limit → IsUpTo S degree_limit (vector_of S (λ m. m) p)
    power_low low = subst (IsUpTo S degree_limit) (sym power.is) (λ t c. let d = power_homogeneous S positive unit i e within t c in omega arith)

    module _ (ps : List (List (Term E (List ℕ)))) (basis : IsEndedBasis S ps) (r seen : List (Term E (List ℕ))) (b : Bool) (fits : IsVector S (λ m. m) r)
        (rest : IsRemainder S (listed S.field (vectors_of S (λ m. m) ps)) (vector_of S (λ m. m) p) (vector_of S (λ m. m) r)) (same : seen ≡ r) (is : b ≡ (length seen == 0)) where
      pub empty_exact : IsTrue b ↔ InIdeal S.field (vectors_of S (λ m. m) ps) (variable_power S.field i e)
      empty_exact = subst (λ v. IsTrue b ↔ InIdeal S.field (vectors_of S (λ m. m) ps) v) power.is
          (member_exact S (listed S.field (vectors_of S (λ m. m) ps)) (vector_of S (λ m. m) p) r seen b basis.basis fits rest same is)

      pub rest_bound : KeepsDegrees S (vector_of S (λ m. m) p) (vector_of S (λ m. m) r) → b ≡ false → e ≤ length S.weights * exponent_cap
      rest_bound degrees other =
          power_bound S positive unit ps basis i e within r fits
          (subst (λ v. IsRemainder S (listed S.field (vectors_of S (λ m. m) ps)) v (vector_of S (λ m. m) r)) power.is rest)
          (subst (λ v. KeepsDegrees S v (vector_of S (λ m. m) r)) power.is degrees) (some r seen same (sym is ∙ other))
        where
          some : (r seen : List (Term E (List ℕ))) → seen ≡ r → (length seen == 0) ≡ false → 0 < length r
          some [] seen e n = let l = ap length e in absurd (grind (arith, nat_tests))
          some (x ∷ r) seen e n = omega arith

  -- the reduced basis of an ideal in which each variable has a power
  pub ended_basis : (cap : ℕ) (θ : List (Vect S.field)) (ps seen : List (List (Term E (List ℕ)))) → cap ≤ exponent_cap → AreHomogeneousPolys S cap ps → IsReducedBasisOf S (InIdeal S.field θ) (vectors_of S (λ m. m) ps)
      → Ended S.field (length S.weights) θ → seen ≡ ps → IsEndedBasis S seen
  ended_basis cap θ ps seen low polys reduced ended is = subst (IsEndedBasis S) (sym is) (record {
    polynomials = polys_weaken S cap exponent_cap ps low polys;
    nonzero = members_nonzero S (InIdeal S.field θ) (vectors_of S (λ m. m) ps) reduced;
    basis = reduced_is_basis S (listed S.field θ) (vectors_of S (λ m. m) ps) reduced;
    ended = λ i h. let x = ended i h in (x.0, (same_ideal S θ (vectors_of S (λ m. m) ps) reduced (variable_power S.field i x.0)).1 x.1);
  })
