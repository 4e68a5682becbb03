-- What `ring` keeps of a problem, beside its certificate: the primary invariants and the standard monomials are those of the certificate.
use Rattle.std.proofs.Common.{◌≡◌, ◌∙◌, ℕ, ◌<◌, List, length, map, replicate, refl, sym, ap, subst}
use Rattle.alg_core.specs.BlockOrder.{length_ones}
use Rattle.alg_core.specs.DpOrder.{dp_order}
use Rattle.alg_core.specs.Fields.{FieldOn}
use Rattle.alg_core.specs.Spaces.{SpaceOver}
use Rattle.alg_core.specs.Vectors.{Vect}
use Rattle.alg_core.specs.declared.limits.Limits.{Limits}
use Rattle.alg_core.specs.declared.term.Term.{Term}
use Rattle.prime_field.specs.PrimeFields.{IsPrimeField}
use Rattle.lin_algebra.specs.declared.matrix.Matrix.{Matrix}
use Rattle.finite_certificate.specs.StandardMonomials.{AreStandardMonomials}
use Rattle.finvar_text.specs.Problems.{Problem, variable_count}
use Rattle.primary_search.specs.Walks.{FirstPrimaries}
use Rattle.primary_search.proofs.FirstLaws.{end_first}
use Rattle.primary_search.proofs.UniqueLaws.{one_first}
use Rattle.secondary_gens.specs.Secondaries.{IsPastBound}
use Rattle.certificate_io.specs.Certificates.{CertificateOf}
use Rattle.cert_check.specs.Makings.{IsMade}
use Rattle.cert_check.specs.Parts.{size, primaries}
use Rattle.cert_check.specs.WellFormed.{IsWellFormed, plain}
use Rattle.cert_check.proofs.MadeLists.{one_standard}
use Rattle.invring_app.specs.Commands.Bases.{IsSpaceOf, AreMatricesOf}
use Rattle.invring_app.specs.Commands.Rings.{IsCertificateOf, AreImages, IsKept, IsRingAnswer}
use Rattle.invring_app.proofs.EndingLaws.{shape, space-one}
use Rattle.invring_app.proofs.SameCells.{made-by, formed-by}

abbrev Terms : Type 0
Terms = List (Term ℕ (List ℕ))

-- over the field and the matrices of the certificate
pub record IsOwn (q : Problem) (l : Limits) (c : CertificateOf ℕ) (k : FieldOn ℕ) (ms : List (Matrix ℕ)) : Type 0 where
  pub characteristic : c.characteristic ≡ q.characteristic
  pub names : c.names ≡ q.variables
  pub matrices : AreMatricesOf q ms
  pub well : IsWellFormed k c ms
  pub made : IsMade k ms c l.tries
  pub images : List Terms
  pub are_images : AreImages q l (plain k c) ms (primaries k c) made.basis images
  pub none : (d : ℕ) → ¬ IsPastBound (plain k c) images l.max_terms d

-- the same over a space that is found
record KeptAt (q : Problem) (l : Limits) (S : SpaceOver ℕ) : Type 0 where
  matrices : List (Matrix ℕ)
  primaries : List (Vect S.field)
  monomials : List (List ℕ)
  images : List Terms
  are_images : AreImages q l S matrices primaries monomials images
  none : (d : ℕ) → ¬ IsPastBound S images l.max_terms d

kept-at : (q : Problem) (l : Limits) (T : SpaceOver ℕ) (a : IsKept q l) → a.space ≡ T → KeptAt q l T
kept-at q l T a e = subst (KeptAt q l) e (record {
  matrices = a.matrices;
  primaries = a.primaries;
  monomials = a.monomials;
  images = a.images;
  are_images = a.are_images;
  none = a.none;
})

module _ (q : Problem) (l : Limits) (c : CertificateOf ℕ) (o : IsCertificateOf q l.tries c) where
  many : size c ≡ variable_count q
  many = ap length o.names

  plain-of : IsSpaceOf q (plain o.field c)
  plain-of = record {
    field = subst (λ (p : ℕ). IsPrimeField p o.field) o.characteristic o.well_formed.field;
    order = ap (λ (n : ℕ). dp_order (replicate n 1)) many;
    weights = ap (λ (n : ℕ). replicate n 1) many;
    shifts = refl;
  }

  module _ (h : KeptAt q l (plain o.field c)) where
    abbrev k : FieldOn ℕ
    k = o.field

    abbrev U : SpaceOver ℕ
    U = plain o.field c

    abbrev ms : List (Matrix ℕ)
    ms = h.matrices

    matrices-are : AreMatricesOf q h.matrices
    matrices-are = h.are_images.ranked.found.ground.matrices

    shapes : map shape o.matrices ≡ map shape h.matrices
    shapes = o.are_matrices ∙ sym matrices-are

    well : IsWellFormed o.field c h.matrices
    well = formed-by o.matrices ms shapes k c o.well_formed

    made : IsMade o.field h.matrices c l.tries
    made = made-by o.matrices ms shapes k c l.tries o.made

    wide : length U.weights ≡ size c
    wide = length_ones (size c)

    first : FirstPrimaries U h.matrices l.tries h.primaries
    first = end_first U ms l (subst (λ (n : ℕ). 0 < n) (sym wide) well.variables) h.primaries h.are_images.ranked.found.end

    same-primaries : h.primaries ≡ primaries k c
    same-primaries = one_first U ms l.tries h.primaries (primaries k c) first made.first_primaries

    same-monomials : h.monomials ≡ made.basis
    same-monomials =
        one_standard k (size c) (primaries k c) h.monomials made.basis
        (subst (λ (θ : List (Vect k)). AreStandardMonomials k (size c) θ h.monomials) same-primaries
        (subst (λ (n : ℕ). AreStandardMonomials k n h.primaries h.monomials) wide h.are_images.ranked.standard)) made.standard

    is-own : IsOwn q l c o.field h.matrices
    is-own = record {
      characteristic = o.characteristic;
      names = o.names;
      matrices = matrices-are;
      well = well;
      made = made;
      images = h.images;
      are_images = subst (λ (B : List (List ℕ)). AreImages q l U ms (primaries k c) B h.images) same-monomials
          (subst (λ (θ : List (Vect k)). AreImages q l U ms θ h.monomials h.images) same-primaries h.are_images);
      none = h.none;
    }

pub own-kept : (l : Limits) (q : Problem) (text : List ℕ) (a : IsRingAnswer l q text) → (ms : List (Matrix ℕ)) × IsOwn q l a.certificate a.of_problem.field ms
own-kept l q text a =
    let c = a.certificate in
    let o = a.of_problem in
    let T = plain o.field c in
    let kept = kept-at q l T a.kept (space-one q a.kept.space T a.kept.are_images.ranked.found.ground.space (plain-of q l c o)) in
    (kept.matrices, is-own q l c o kept)
