-- Degrees of the vector of a list that fits, by the degrees of its terms; and the coefficient at its first term.
use Rattle.std.proofs.Common.{◌≡◌, ◌<◌, ◌≤◌, ◌-◌, ◌^◌, ℕ, List, get_or, Some, None, subst, arith}
use Rattle.std.specs.Prelude.{All, Option, IfSome, ◌↔◌}
use Rattle.alg_core.specs.Fields.{scalars}
use Rattle.alg_core.specs.Keys.{key}
use Rattle.alg_core.specs.Vectors.{Entry, coef_at}
use Rattle.alg_core.specs.declared.term.Term.{Term}
use Rattle.alg_core.specs.Spaces.{SpaceOver, entries}
use Rattle.alg_core.specs.SpaceGrading.{degree}
use Rattle.poly_module.specs.Degrees.{IsDegree, IsHomogeneous}
use Rattle.poly_module.specs.SpaceVectors.{vector_of, IsVector, IsUpTo}
use Rattle.poly_module.proofs.ExponentBounds.{vec_supp, fits_keys}
use Rattle.poly_module.proofs.GreatestValues.{GreatestOn}
use Rattle.poly_module.proofs.EntryCoefficients.{entry_coefficient}

module _ {E M : Type 0} (S : SpaceOver E) (exps : M → List ℕ) where
  pub small_degrees : (a : List (Term E M)) → IsVector S exps a → IsUpTo S (2 ^ 64 - 1) (vector_of S exps a) → All (λ e. degree S (key e.0) < 2 ^ 64) (entries exps a)
  small_degrees a fits small k d w = let low : degree S (key (get_or (entries exps a) k d).0) ≤ 2 ^ 64 - 1 = fits_keys S (λ t. degree S t ≤ 2 ^ 64 - 1) (entries exps a) fits small k d w in omega arith

  pub greatest_is_degree : (a : List (Term E M)) (r : Option ℕ) → IsVector S exps a → GreatestOn (λ e. degree S (key e.0)) (entries exps a) r → IfSome r (IsDegree S (vector_of S exps a))
  greatest_is_degree a None fits h = tt
  greatest_is_degree a (Some d) fits h =
      let e = h.0.1 in
      record {
        reached = (key e.0, h.0.4, subst (λ (t : Entry E). ¬ (coef_at S.field (vector_of S exps a) (key t.0) ≡ (scalars S.field).zero)) h.0.3 (entry_coefficient S (entries exps a) h.0.0 e h.0.2 fits));
        most = vec_supp S.field (λ t. degree S t ≤ d) (entries exps a) h.1;
      }

  -- one degree of all terms is that of the vector
  pub homogeneous_exactly : (a : List (Term E M)) (d : ℕ) → IsVector S exps a → All (λ e. degree S (key e.0) ≡ d) (entries exps a) ↔ IsHomogeneous S d (vector_of S exps a)
  homogeneous_exactly a d fits = (vec_supp S.field (λ t. degree S t ≡ d) (entries exps a), fits_keys S (λ t. degree S t ≡ d) (entries exps a) fits)

  -- of some degree
  pub homogeneous_of : {R : Type 0} (a : List (Term E M)) → IsVector S exps a → R ↔ ((d : ℕ) × All (λ e. degree S (key e.0) ≡ d) (entries exps a)) → R ↔ ((d : ℕ) × IsHomogeneous S d (vector_of S exps a))
  homogeneous_of a fits h = (λ r. let d = h.0 r in (d.0, (homogeneous_exactly a d.0 fits).0 d.1), λ d. h.1 (d.0, (homogeneous_exactly a d.0 fits).1 d.1))
