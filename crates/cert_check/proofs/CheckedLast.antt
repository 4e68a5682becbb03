-- The last conditions of a check, by the first member that is superfluous.
use Rattle.std.proofs.Common.{◌≡◌, ℕ, ◌+◌, ◌-◌, ◌<◌, List, length, refl, sym, subst, arith}
use Rattle.alg_core.specs.Fields.{FieldOn}
use Rattle.alg_core.specs.Spaces.{SpaceOver}
use Rattle.alg_core.specs.declared.limits.Limits.{Limits}
use Rattle.lin_algebra.specs.declared.matrix.Matrix.{Matrix}
use Rattle.secondary_gens.specs.Secondaries.{IsRedundant, IsIrredundant, IsFirstRedundant}
use Rattle.irreducible_gens.specs.Irreducibles.{IsReducible, AreNeeded, IsFirstReducible}
use Rattle.certificate_io.specs.Certificates.{CertificateOf}
use Rattle.cert_check.specs.Conditions.{Condition, Redundance, Words, Reducibility, number}
use Rattle.cert_check.specs.Endings.{IsGiven, IsTold}
use Rattle.cert_check.specs.Parts.{At, primaries, secondaries, irreducibles}
use Rattle.cert_check.specs.Work.{Reached, Passes, Fails}
use Rattle.cert_check.specs.declared.ending.Ending.TheVariants.{Rejected}
use Rattle.cert_check.proofs.GivenParts.{given_well}
use Rattle.cert_check.proofs.MadeLists.{place_there}
use Rattle.cert_check.proofs.MadePlaces.{place_within}
use Rattle.cert_check.proofs.WorkSteps.{redundance_fails, redundance_passed, plain_fails, all_passed}

-- the failing of a condition is told
pub rejected : (S : SpaceOver ℕ) (gens : List (Matrix ℕ)) (c : CertificateOf ℕ) (l : Limits) (a : Condition) (i : ℕ) → IsGiven S gens c
    → Fails S.field gens c l a i → IsTold c l (Rejected (number a) i)
rejected S gens c l a i given fails = (a, refl, record { field = S.field; matrices = gens; well_formed = given_well S gens c given; fails = fails })

-- what holds of no place, from 0, and of the first place of which it does, for items from 1
module _ {A : Type 0} (P : ℕ → Type 0) (xs : List A) where
  abbrev Misses : ℕ → Type 0
  Misses i = (x : A) → At xs i x → ¬ P (i - 1)

  less_one : (i j : ℕ) → i ≡ j + 1 → i - 1 ≡ j
  less_one i j e = omega arith

  pub all_miss : ((j : ℕ) → j < length xs → ¬ P j) → (i : ℕ) → Misses i
  all_miss h i x at = subst (λ n. ¬ P n) (sym (less_one i at.0 at.1)) (h at.0 (place_within xs at.0 x at.2))

  pub before_miss : (p : ℕ) → ((j : ℕ) → j < p → ¬ P j) → (i : ℕ) → i < p + 1 → Misses i
  before_miss p h i l x at = let e = at.1 in subst (λ n. ¬ P n) (sym (less_one i at.0 at.1)) (h at.0 (omega arith))

  pub item_hits : (p : ℕ) → p < length xs → P p → ¬ Misses (p + 1)
  item_hits p h is misses =
      let x = place_there xs p h in
      misses x.0 (p, refl, x.1) (subst P (sym (less_one (p + 1) p refl)) is)

module _ (S : SpaceOver ℕ) (gens : List (Matrix ℕ)) (c : CertificateOf ℕ) (l : Limits) (given : IsGiven S gens c) where
  abbrev k : FieldOn ℕ
  k = S.field

  pub redundance_holds : Reached S.field gens c l (Redundance, 1) → IsIrredundant S.field (primaries S.field c) (secondaries S.field c)
      → Reached S.field gens c l (Words, 0)
  redundance_holds r h = redundance_passed k gens c l r (all_miss (IsRedundant k (primaries k c) (secondaries k c)) (secondaries k c) h)

  pub redundance_told : (i : ℕ) → Reached S.field gens c l (Redundance, 1) → IsFirstRedundant S.field (primaries S.field c) (secondaries S.field c) i
      → IsTold c l (Rejected 9 i)
  redundance_told i r h =
      let P = IsRedundant k (primaries k c) (secondaries k c) in
      rejected S gens c l Redundance i given (subst (Fails k gens c l Redundance) (sym h.counted)
      (redundance_fails k gens c l (h.place + 1) r (before_miss P (secondaries k c) h.place h.first) (item_hits P (secondaries k c) h.place h.within h.redundant)))

  pub reducibility_holds : Reached S.field gens c l (Reducibility, 0) → AreNeeded S.field (primaries S.field c) (irreducibles S.field c)
      → Passes S.field gens c l
  reducibility_holds r h = all_passed k gens c l r (all_miss (IsReducible k (primaries k c) (irreducibles k c)) (irreducibles k c) h)

  pub reducibility_told : (i : ℕ) → Reached S.field gens c l (Reducibility, 0) → IsFirstReducible S.field (primaries S.field c) (irreducibles S.field c) i
      → IsTold c l (Rejected 11 i)
  reducibility_told i r h =
      let P = IsReducible k (primaries k c) (irreducibles k c) in
      rejected S gens c l Reducibility i given (subst (Fails k gens c l Reducibility) (sym h.counted)
      (plain_fails k gens c l Reducibility (h.place + 1) (λ e. omega (arith, e)) (λ e. omega (arith, e)) (λ e. omega (arith, e)) r
      (before_miss P (irreducibles k c) h.place h.first) (item_hits P (irreducibles k c) h.place h.within h.reducible)))
