-- The primary invariants of a script, and the polynomials as a free module over them.
--
--   IsScriptSpace s S               S is the space of the polynomials in the variables of the script s
--   IsRankedOver s l S θ M n ds P ps   θ are the primary invariants with which the search ends over the space S of the script s under the
--                                   limits l; in the space M, with a mark for each, P is the free module over them, by no more standard
--                                   monomials than the limit allows, and ps are the least powers of the variables with their coordinates
use Rattle.std.specs.Prelude.{◌≡◌, ◌≤◌, ℕ, List, length}
use Rattle.alg_core.specs.Spaces.{SpaceOver}
use Rattle.alg_core.specs.declared.limits.Limits.{Limits}
use Rattle.alg_core.specs.declared.term.Term.{Term}
use Rattle.prime_field.specs.PrimeFields.{IsPrimeField}
use Rattle.poly_module.specs.SpaceVectors.{vectors_of}
use Rattle.finvar_text.specs.declared.script.Script.{Script}
use Rattle.finite_certificate.specs.declared.power.Power.{Power}
use Rattle.primary_module.specs.PrimaryModules.{Primaries}
use Rattle.primary_search.specs.Searches.{IsEnd}
use Rattle.primary_search.specs.Walks.{FirstPrimaries}
use Rattle.invring_app.specs.FoundPrimaries.{IsPlain, AreFound, IsOver, IsFreeOver}

pub record IsScriptSpace (script : Script) (S : SpaceOver ℕ) : Type 0 where
  pub plain : IsPlain S
  pub many : length S.weights ≡ length script.names.items
  pub field : IsPrimeField script.characteristic S.field

pub record IsRankedOver (script : Script) (l : Limits) (S : SpaceOver ℕ) (θ : List (List (Term ℕ (List ℕ)))) (M : SpaceOver ℕ) (n : ℕ) (ds : List ℕ) (P : Primaries ℕ) (ps : List (Power ℕ)) : Type 0 where
  pub ground : IsScriptSpace script S
  pub found : AreFound S l.max_basis θ
  pub first : FirstPrimaries S script.gens.items l.tries (vectors_of S (λ m. m) θ)
  pub end : IsEnd S script.gens.items l (vectors_of S (λ m. m) θ)
  pub over : IsOver S θ P.monomials P.lifts ps
  pub free : IsFreeOver S M n ds θ P
  pub few : length P.monomials ≤ l.max_rank
