-- The laws of remainders, of the criterion, of elements above a cap and of elimination, for lists of homogeneous vectors.
use Rattle.std.proofs.Common.{◌≡◌, ◌⊎◌, ℕ, ◌<◌, ◌≤◌, List, length}
use Rattle.std.specs.Prelude.{◌↔◌}
use Rattle.alg_core.specs.Fields.{FieldOn}
use Rattle.alg_core.specs.Keys.{Key}
use Rattle.alg_core.specs.Lists.{In}
use Rattle.alg_core.specs.Spaces.{SpaceOver}
use Rattle.alg_core.specs.SpaceOrder.{key_order}
use Rattle.alg_core.specs.SpaceGrading.{degree}
use Rattle.alg_core.specs.EliminationOrder.{elimination_order}
use Rattle.alg_core.specs.Vectors.{Vect, zero_vector}
use Rattle.poly_module.specs.Parts.{Supp, InVariables, supp_zero}
use Rattle.poly_module.specs.Degrees.{IsHomogeneous}
use Rattle.poly_module.specs.Modules.{LeadBy, InModule, IsGroebnerBasis, listed}
use Rattle.poly_module.specs.ReducedLists.{LeadsFall, FitsOrder, IsReducedBasis, IsReducedBasisOf}
use Rattle.poly_module.specs.SpaceVectors.{IsPositive}
use Rattle.poly_module.specs.Caps.{IsAboveCap}
use Rattle.poly_module.proofs.Reduced.{listed_has, reduced_homogeneous}
use Rattle.module_groebner.specs.HomogeneousLists.{AreHomogeneous}
use Rattle.module_groebner.specs.Remainders.{IsRemainder, KeepsDegrees}
use Rattle.module_groebner.specs.SVectors.{IsSVector, IsTreated}
use Rattle.module_groebner.specs.BasisBounds.{SomeAbove, NothingAbove}
use Rattle.module_groebner.specs.Eliminations.{IsEliminated, AreEliminated}
use Rattle.module_groebner.proofs.Remainders.{remainder_exists}
use Rattle.module_groebner.proofs.Families.{all_in, homogeneous_each}
use Rattle.module_groebner.proofs.BasisLaws.{treated_basis, zero_basis, basis_treated, member_above, above_member}
use Rattle.module_groebner.proofs.Eliminations.{elimination_generates, elimination_reduced}
use Rattle.module_groebner.proofs.Existence.{basis_or_above}

module _ {E : Type 0} (S : SpaceOver E) where
  -- each of a list has a degree
  pub each_homogeneous : (vs : List (Vect S.field)) → AreHomogeneous S vs → (w : Vect S.field) → In w vs → (d : ℕ) × IsHomogeneous S d w
  each_homogeneous vs h = all_in (λ w. (d : ℕ) × IsHomogeneous S d w) vs h

  pub family : (vs : List (Vect S.field)) → AreHomogeneous S vs → (i : ℕ) → (d : ℕ) × IsHomogeneous S d (listed S.field vs i)
  family vs h = homogeneous_each S vs (each_homogeneous vs h)

  pub fitting : (vs : List (Vect S.field)) → ((w : Vect S.field) → In w vs → Supp S.field (FitsOrder S) w) → (i : ℕ) → Supp S.field (FitsOrder S) (listed S.field vs i)
  fitting = listed_has S.field (Supp S.field (FitsOrder S)) (supp_zero S.field (FitsOrder S))

  pub remainder_of : IsPositive S → (vs : List (Vect S.field)) → AreHomogeneous S vs → (v : Vect S.field) (d : ℕ) → IsHomogeneous S d v → (r : Vect S.field) × IsRemainder S (listed S.field vs) v r × KeepsDegrees S v r
  remainder_of p vs h v d hv = remainder_exists S p.weights vs (family vs h) v d hv

  pub criterion_treated : IsPositive S → (vs : List (Vect S.field)) → AreHomogeneous S vs → IsGroebnerBasis S.field (listed S.field vs) (key_order S) ↔ ((i j : ℕ) → i < j → IsTreated S (listed S.field vs) i j)
  criterion_treated p vs h = (λ b i j less. basis_treated S p.weights vs (family vs h) b i j, treated_basis S p.weights (listed S.field vs) (family vs h))

  pub criterion_remainder : IsPositive S → (vs : List (Vect S.field)) → AreHomogeneous S vs
      → ((i j : ℕ) → i < j → (v : Vect S.field) → IsSVector S (listed S.field vs i) (listed S.field vs j) v → IsRemainder S (listed S.field vs) v (zero_vector S.field)) → IsGroebnerBasis S.field (listed S.field vs) (key_order S)
  criterion_remainder p vs h = zero_basis S p.weights (listed S.field vs) (family vs h)

  pub exists_or_above : IsPositive S → (vs : List (Vect S.field)) → AreHomogeneous S vs → (cap : ℕ)
      → ((ws : List (Vect S.field)) × IsReducedBasisOf S (InModule S.field (listed S.field vs)) ws × NothingAbove S (InModule S.field (listed S.field vs)) cap) ⊎ SomeAbove S (InModule S.field (listed S.field vs)) cap
  exists_or_above p vs h = basis_or_above S p.weights vs (each_homogeneous vs h)

  module _ (p : IsPositive S) (vs ws : List (Vect S.field)) (h : AreHomogeneous S vs) (fits : (w : Vect S.field) → In w vs → Supp S.field (FitsOrder S) w) (a : IsReducedBasis S (listed S.field vs) ws) where
    pub basis_homogeneous : (v : Vect S.field) (t : Key) → In v ws → LeadBy S.field (key_order S) v t → IsHomogeneous S (degree S t) v
    basis_homogeneous = reduced_homogeneous S (listed S.field vs) (λ i. (family vs h i).0) (λ i. (family vs h i).1) p.order (fitting vs fits) ws a

    pub over_above : (cap : ℕ) (w : Vect S.field) (t : Key) → In w ws → LeadBy S.field (key_order S) w t → cap < degree S t → IsAboveCap S (InModule S.field (listed S.field vs)) cap w t
    over_above cap = member_above S (InModule S.field (listed S.field vs)) cap ws a basis_homogeneous

    pub above_over : (cap : ℕ) (v : Vect S.field) (t : Key) → IsAboveCap S (InModule S.field (listed S.field vs)) cap v t → (w : Vect S.field) × (s : Key) × In w ws × LeadBy S.field (key_order S) w s × (cap < degree S s)
    above_over cap = above_member S (InModule S.field (listed S.field vs)) cap ws a basis_homogeneous

module _ {E : Type 0} (k : FieldOn E) (first : ℕ) (os ws ss : List ℕ) where
  abbrev S : SpaceOver E
  S = record { field = k; order = elimination_order first os; weights = ws; shifts = ss }

  pub eliminated_generate : length os ≡ length ws → IsPositive S → (vs fs : List (Vect k)) → AreHomogeneous S vs → ((w : Vect k) → In w vs → InVariables k (length ws) w)
      → IsGroebnerBasis k (listed k vs) (key_order S) → AreEliminated k first vs fs → (v : Vect k) → InModule k (listed k vs) v → IsEliminated k first v → InModule k (listed k fs) v
  eliminated_generate many p vs fs h variables basis chosen = elimination_generates k first os ws ss many p.weights vs fs basis (each_homogeneous S vs h) variables chosen

  pub eliminated_reduced : length os ≡ length ws → IsPositive S → (vs us fs : List (Vect k)) → AreHomogeneous S vs → ((w : Vect k) → In w vs → InVariables k (length ws) w)
      → ((w : Vect k) → In w vs → Supp k (FitsOrder S) w) → IsReducedBasis S (listed k vs) us → AreEliminated k first us fs → LeadsFall k (key_order S) fs
      → IsReducedBasisOf S (λ v. InModule k (listed k vs) v × IsEliminated k first v) fs
  eliminated_reduced many p vs us fs h variables fits a chosen falling = elimination_reduced k first os ws ss many p.weights (listed k vs) (family S vs h)
      (listed_has k (InVariables k (length ws)) (supp_zero k (λ t. length t.1.0 ≤ length ws)) vs variables) p.order (fitting S vs fits) us fs a chosen falling
