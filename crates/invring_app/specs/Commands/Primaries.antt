-- How `primary` ends at a problem.
--
--   IsGroundOf q S ms        S is the space of the polynomials of the problem q, and ms are its generators
--   KeepsOrder l q           the generators generate a group of no more elements than the limit allows
--   IsBasisStop S ms l b     the search for the first primary invariants ends at the basis of a colon module or of an ideal, as b names it
--   IsSearchStop S ms l f    f names the bound at which the search for the first primary invariants ends, and what the search met there
--   IsSearchBound l q f      the search of q ends at the bound f
--   IsSearchTold l q e       e is the fault of that search, or want of memory
--   IsPrimaryBound l q f     the group has more elements than the limit allows, or else the search ends at a bound, as f names it
--   IsPrimaryText q l text   the lines of the first primary invariants of q, which the search finds under the limits l, and then of the
--                            least exponent of each variable with which it has a power in their ideal
--   IsPrimaryAnswer l q text the group is no larger than the limit allows, and the text is that
use Rattle.std.specs.Prelude.{◌≡◌, ◌⊎◌, ℕ, ◌≤◌, List, ◌++◌, length, map, codes}
use Rattle.alg_core.specs.Spaces.{SpaceOver, entries}
use Rattle.alg_core.specs.declared.limits.Limits.{Limits}
use Rattle.alg_core.specs.declared.term.Term.{Term}
use Rattle.poly_module.specs.SpaceVectors.{ArePolys, vectors_of}
use Rattle.lin_algebra.specs.declared.matrix.Matrix.{Matrix}
use Rattle.poly_text.specs.declared.names.Names.{Names}
use Rattle.finvar_text.specs.Problems.{Problem}
use Rattle.module_groebner.specs.declared.bound.BasisBound.{BasisBound}
use Rattle.groebner_hom.specs.Exponents.{AreLeastExponents}
use Rattle.primary_search.specs.Searches.{IsNoPrimary, IsTermBound, IsColonStop, IsIdealStop, IsEnd}
use Rattle.primary_search.specs.Walks.{FirstPrimaries}
use Rattle.primary_search.specs.declared.fault.SearchFault.{SearchFault}
use Rattle.primary_search.specs.declared.fault.SearchFault.TheVariants as searches
use Rattle.invring_app.specs.declared.status.BoundFault as bounds
use Rattle.invring_app.specs.declared.status.BoundFault.TheVariants as stops
use Rattle.invring_app.specs.Lines.{polynomial_lines, power_lines}
use Rattle.invring_app.specs.Commands.Bases.{IsSpaceOf, AreMatricesOf, AreNamesOf}
use Rattle.invring_app.specs.Commands.Orders.{IsOrderOf, IsOrderBound}

pub record IsGroundOf (q : Problem) (S : SpaceOver ℕ) (ms : List (Matrix ℕ)) : Type 0 where
  pub space : IsSpaceOf q S
  pub matrices : AreMatricesOf q ms

abbrev pub KeepsOrder : Limits → Problem → Type 0
KeepsOrder l q = (N : ℕ) × IsOrderOf q N × (N ≤ l.max_order)

module _ (S : SpaceOver ℕ) (ms : List (Matrix ℕ)) (l : Limits) where
  abbrev pub IsBasisStop : BasisBound ℕ → Type 0
  IsBasisStop b = IsColonStop S ms l b ⊎ IsIdealStop S ms l b

  abbrev pub IsSearchStop : bounds.BoundFault → Type 0
  IsSearchStop (stops.TermBound d count) = IsTermBound S ms l d count
  IsSearchStop (stops.GroupBound counted) = ⊥
  IsSearchStop (stops.NoPrimary found d) = ArePolys S (λ m. m) found.items × IsNoPrimary S ms l (vectors_of S (λ m. m) found.items) d
  IsSearchStop (stops.BasisBound which vector degree) = IsBasisStop (record { vector = vector; degree = degree; which = which })
  IsSearchStop (stops.RankBound counted) = ⊥
  IsSearchStop (stops.TextBound bytes) = ⊥

pub record IsSearchBound (l : Limits) (q : Problem) (f : bounds.BoundFault) : Type 0 where
  pub space : SpaceOver ℕ
  pub matrices : List (Matrix ℕ)
  pub ground : IsGroundOf q space matrices
  pub stop : IsSearchStop space matrices l f

abbrev pub IsPrimaryBound : Limits → Problem → bounds.BoundFault → Type 0
IsPrimaryBound l q f = IsOrderBound l q f ⊎ (KeepsOrder l q × IsSearchBound l q f)

pub record IsPrimaryText (q : Problem) (l : Limits) (text : List ℕ) : Type 0 where
  pub space : SpaceOver ℕ
  pub matrices : List (Matrix ℕ)
  pub ground : IsGroundOf q space matrices
  pub names : Names
  pub are_names : AreNamesOf q names
  pub primaries : List (List (Term ℕ (List ℕ)))
  pub polynomials : ArePolys space (λ m. m) primaries
  pub first : FirstPrimaries space matrices l.tries (vectors_of space (λ m. m) primaries)
  pub end : IsEnd space matrices l (vectors_of space (λ m. m) primaries)
  pub exponents : List ℕ
  pub least : AreLeastExponents space.field (length space.weights) (vectors_of space (λ m. m) primaries) exponents
  pub is_text : text ≡ polynomial_lines (codes "primary ") space names (map (entries (λ m. m)) primaries) ++ power_lines q.variables exponents

abbrev pub IsPrimaryAnswer : Limits → Problem → List ℕ → Type 0
IsPrimaryAnswer l q text = KeepsOrder l q × IsPrimaryText q l text

-- what the fault of a search tells
abbrev pub IsSearchTold : Limits → Problem → SearchFault ℕ → Type 0
IsSearchTold l q searches.Memory = Unit {0}
IsSearchTold l q (searches.NoPrimary found d) = IsSearchBound l q (stops.NoPrimary found d)
IsSearchTold l q (searches.TermBound d count) = IsSearchBound l q (stops.TermBound d count)
IsSearchTold l q (searches.Basis b) = IsSearchBound l q (stops.BasisBound b.which b.vector b.degree)
