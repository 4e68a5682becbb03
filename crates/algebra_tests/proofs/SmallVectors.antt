-- Positive weights, and homogeneous vectors of a small degree.
use Rattle.std.proofs.Common.{◌≡◌, ℕ, suc, ◌<◌, ◌≤◌, List, [], ◌∷◌, length, get_or, sym, subst, arith, inl, inr}
use Rattle.std.specs.Prelude.{Bool, false, not, Option, IsNone}
use Rattle.std.specs.Option.{is_some}
use Rattle.std.proofs.lemmas.List.Elements.{All-weaker}
use Rattle.alg_core.specs.SpaceGrading.{AllPositive, degree}
use Rattle.alg_core.specs.Spaces.{SpaceOver}
use Rattle.alg_core.specs.Vectors.{Vect}
use Rattle.poly_module.specs.Degrees.{IsHomogeneous, HasDegree, has_degree}
use Rattle.poly_module.specs.Parts.{supp_zero}
use Rattle.poly_module.specs.SpaceVectors.{IsUpTo}
use Rattle.module_groebner.specs.HomogeneousLists.{degree_limit, cap_limit, IsHomogeneousUpTo, AreHomogeneous, AreHomogeneousUpTo, AreUpTo}

-- each weight in turn is positive
pub all_positive : (ws : List ℕ) → ((k : ℕ) → k < length ws → 0 < get_or ws k 0) → AllPositive ws
all_positive [] h = tt
all_positive (w ∷ ws) h = (h 0 (omega arith), all_positive ws (λ k b. h (suc k) (omega arith)))

module _ {E : Type 0} (S : SpaceOver E) where
  -- homogeneous of some degree, with no key of a degree over the bound
  pub bounded_form : (most : ℕ) (v : Vect S.field) → (d : ℕ) × IsHomogeneous S d v → IsUpTo S most v → IsHomogeneousUpTo S most v
  bounded_form most v (d, homogeneous) low = go (has_degree S v)
    where
      go : HasDegree S v → IsHomogeneousUpTo S most v
      go (inl zero) = (0, omega arith, subst (IsHomogeneous S 0) (sym zero) (supp_zero S.field (λ t. degree S t ≡ 0)))
      go (inr (e, is)) =
          let t = is.reached.0 in
          let same : degree S t ≡ d = homogeneous t is.reached.2 in
          let few : degree S t ≤ most = low t is.reached.2 in
          (d, omega arith, homogeneous)

  -- members of a basis may be divided
  pub as_divided : (vs : List (Vect S.field)) → AreHomogeneousUpTo S cap_limit vs → AreHomogeneousUpTo S degree_limit vs
  as_divided vs = All-weaker (IsHomogeneousUpTo S cap_limit) (IsHomogeneousUpTo S degree_limit) (λ v h. let few = h.1 in (h.0, omega arith, h.2)) vs

  -- no key of a member has a degree over the cap
  pub low_members : (vs : List (Vect S.field)) → AreHomogeneousUpTo S cap_limit vs → AreUpTo S cap_limit vs
  low_members vs = All-weaker (IsHomogeneousUpTo S cap_limit) (IsUpTo S cap_limit) (λ v h t there. let few = h.1 in let same = h.2 t there in omega arith) vs

  -- each member is homogeneous
  pub some_degrees : (vs : List (Vect S.field)) → AreHomogeneousUpTo S cap_limit vs → AreHomogeneous S vs
  some_degrees vs = All-weaker (IsHomogeneousUpTo S cap_limit) (λ v. (d : ℕ) × IsHomogeneous S d v) (λ v h. (h.0, h.2)) vs

pub not_none : {A : Type 0} (o : Option A) (b : Bool) → is_some o ≡ not b → b ≡ false → IsNone o → ⊥
not_none o b told is none = grind arith
