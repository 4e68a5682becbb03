-- Whether the generators of a colon ideal lie in the ideal.
use Rattle.std.proofs.Common.{◌≡◌, ◌<◌, ◌≤◌, ℕ, Bool, List, length, get_or, sym, subst, arith}
use Rattle.std.specs.Prelude.{All, IsTrue, ◌↔◌}
use Rattle.alg_core.specs.Fields.{FieldOn}
use Rattle.alg_core.specs.Lists.{In, map_in}
use Rattle.alg_core.specs.declared.term.Term.{Term}
use Rattle.alg_core.specs.Spaces.{SpaceOver}
use Rattle.alg_core.specs.Vectors.{Vect}
use Rattle.alg_core.proofs.Members.{from_map}
use Rattle.poly_module.specs.Parts.{IsPolynomial}
use Rattle.poly_module.specs.SpaceVectors.{IsPoly, ArePolys, IsUpTo, vector_of, vectors_of}
use Rattle.poly_module.proofs.SpaceVectorLaws.{is_polynomial}
use Rattle.module_groebner.specs.HomogeneousLists.{AreUpTo}
use Rattle.module_groebner.proofs.Families.{all_in, in_all, in_get}
use Rattle.finite_certificate.specs.Ideals.{InIdeal, Nonzerodivisor}
use Rattle.groebner_hom.specs.Colons.{IsColonIdeal}
use Rattle.groebner_hom.specs.IdealBases.{IsHomogeneousPoly, AreHomogeneousPolys}
use Rattle.groebner_hom.proofs.ColonModules.{nonzerodivisor_where, nonzerodivisor_only}
use Rattle.groebner_hom.proofs.PolynomialLists.{all_weaken}

module _ {E : Type 0} (S : SpaceOver E) where
  abbrev Terms : Type 0
  Terms = List (Term E (List ℕ))

  -- a greater bound on the degrees
  pub polys_weaken : (d e : ℕ) (ps : List Terms) → d ≤ e → AreHomogeneousPolys S d ps → AreHomogeneousPolys S e ps
  polys_weaken d e ps low = all_weaken (IsHomogeneousPoly S d) (IsHomogeneousPoly S e) (λ p h. record { polynomial = h.polynomial; homogeneous = let x = h.homogeneous in let y = x.1 in (x.0, omega arith, x.2) }) ps

  module _ (θ : List (Vect S.field)) (hs : List Terms) where
    -- a member at a place
    member_in : (i : ℕ) (h : Terms) → i < length hs → h ≡ get_or hs i h → In h hs
    member_in i h below read = subst (λ x. In x hs) (sym read) (in_get h hs i below)

    pub member_small : (d i : ℕ) (h : Terms) → i < length hs → h ≡ get_or hs i h → AreUpTo S d (vectors_of S (λ m. m) hs) → IsUpTo S d (vector_of S (λ m. m) h)
    member_small d i h below read a = all_in (IsUpTo S d) (vectors_of S (λ m. m) hs) a (vector_of S (λ m. m) h) (map_in (vector_of S (λ m. m)) h hs (member_in i h below read))

    -- a member outside the ideal
    pub one_outside : (i : ℕ) (h : Terms) → i < length hs → h ≡ get_or hs i h → ¬ InIdeal S.field θ (vector_of S (λ m. m) h) → ¬ All (InIdeal S.field θ) (vectors_of S (λ m. m) hs)
    one_outside i h below read out all = out (all_in (InIdeal S.field θ) (vectors_of S (λ m. m) hs) all (vector_of S (λ m. m) h) (map_in (vector_of S (λ m. m)) h hs (member_in i h below read)))

-- a nonzerodivisor is one whose colon ideal lies in the ideal, of which bs are other generators
pub told_by_members : {E : Type 0} (k : FieldOn E) (θ bs hs : List (Vect k)) (f : Vect k) (b : Bool) → IsColonIdeal k θ f hs → ((h : Vect k) → In h hs → IsPolynomial k h)
    → ((h : Vect k) → InIdeal k bs h ↔ InIdeal k θ h) → IsTrue b ↔ All (InIdeal k bs) hs → IsTrue b ↔ Nonzerodivisor k θ f
told_by_members k θ bs hs f b colon_ideal polys same exact = (
  λ t. nonzerodivisor_where k θ hs f colon_ideal (λ h i. (same h).0 (all_in (InIdeal k bs) hs (exact.0 t) h i)),
  λ n. exact.1 (in_all (InIdeal k bs) hs (λ h i. (same h).1 (nonzerodivisor_only k θ hs f colon_ideal polys n h i))),
)

pub polys_in : {E : Type 0} (S : SpaceOver E) (hs : List (List (Term E (List ℕ)))) → ArePolys S (λ m. m) hs → (v : Vect S.field) → In v (vectors_of S (λ m. m) hs) → IsPolynomial S.field v
polys_in S hs polys v j = let x = from_map (vector_of S (λ m. m)) v hs j in subst (IsPolynomial S.field) x.2 (is_polynomial S (λ m. m) x.0 (all_in (IsPoly S (λ m. m)) hs polys x.0 x.1))
