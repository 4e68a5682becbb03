-- The stages of `ring`: at each, two stops are alike, and no stop stands with what is past it.
use Rattle.std.proofs.Common.{◌≡◌, ◌∙◌, ℕ, ◌<◌, List, [], ◌∷◌, length, All, min, refl, sym, ap, ap₂, subst, inl, inr, arith}
use Rattle.std.specs.Prelude.{◌⊎◌, codes, decimal}
use Rattle.std.specs.Int.{◌∣◌}
use Rattle.std.proofs.lemmas.List.Elements.{All-head, All-tail, All-weaker}
use Rattle.alg_core.specs.Monomials.{mono}
use Rattle.alg_core.specs.Spaces.{SpaceOver}
use Rattle.alg_core.specs.Vectors.{Vect}
use Rattle.alg_core.specs.declared.limits.Limits.{Limits}
use Rattle.alg_core.specs.declared.term.Term.{Term}
use Rattle.poly_module.specs.Polynomials.{single_vector}
use Rattle.poly_module.specs.SpaceVectors.{IsPoly, ArePolys, vector_of}
use Rattle.poly_text.specs.Outputs.{length_limit}
use Rattle.lin_algebra.specs.declared.matrix.Matrix.{Matrix}
use Rattle.reynolds_op.specs.Averages.{IsAverage}
use Rattle.reynolds_op.proofs.AverageLaws.{average_unique}
use Rattle.finite_certificate.specs.MarkSpaces.{ArePositiveForms}
use Rattle.finite_certificate.specs.StandardMonomials.{AreStandardMonomials, IsOverRank}
use Rattle.finvar_text.specs.Problems.{Problem}
use Rattle.module_groebner.specs.BasisBounds.{IsBasisBound}
use Rattle.module_groebner.specs.declared.bound.BasisBound.{BasisBound as Bound}
use Rattle.module_groebner.specs.declared.bound.Which.TheVariants.{Graph}
use Rattle.secondary_gens.specs.Forms.{IsSmallForm}
use Rattle.secondary_gens.specs.Lists.{Each}
use Rattle.secondary_gens.specs.Secondaries.{IsFirstPast}
use Rattle.syzygy_kernel.specs.Graphs.{InGraph, graph_space}
use Rattle.syzygy_kernel.specs.Kernels.{AreKernel, fixed_values}
use Rattle.syzygy_kernel.specs.declared.member.Member.{Member}
use Rattle.certificate_io.specs.Certificates.{CertificateOf}
use Rattle.certificate_io.specs.Texts.{certificate_text}
use Rattle.cert_check.proofs.MadeLists.{one_terms, one_polys, one_standard}
use Rattle.invring_app.specs.declared.status.BoundFault.{BoundFault}
use Rattle.invring_app.specs.declared.status.BoundFault.TheVariants.{TermBound, TextBound}
use Rattle.invring_app.specs.Commands.Bases.{AreMatricesOf, count_of}
use Rattle.invring_app.specs.Commands.Orders.{IsOrderBound}
use Rattle.invring_app.specs.Commands.Rings.{IsGrouped, IsDivided, IsUndivided, IsFound, IsRanked, AreAverages, AreFixedValues, AreImages, IsKept, IsSearchFault, IsRankFault, IsGraphFault, IsImageFault, IsTextFault, IsRingAnswer}
use Rattle.invring_app.specs.ErrorLines.{bound_pieces, which_word}
use Rattle.invring_app.proofs.EndingLaws.{space-one, order-one, order-over}
use Rattle.invring_app.proofs.KernelOnce.{values-one}
use Rattle.invring_app.proofs.PrimaryDegrees.{degrees-one}
use Rattle.invring_app.proofs.PrimaryEnds.{stop-at, stops-one, found-one, found-no-stop}
use Rattle.cert_check.proofs.RisingLists.{over_not_few}
use Rattle.invring_app.proofs.RingCertificates.{certificate-one}
use Rattle.invring_app.proofs.SameCells.{same-average}
use Rattle.invring_app.proofs.SameGraphs.{kernel-by, bound-by, least-one}

pub record HasGroup (q : Problem) (l : Limits) : Type 0 where
  pub order : ℕ
  pub group : IsGrouped q l order

pub record HasFound (q : Problem) (l : Limits) : Type 0 where
  pub space : SpaceOver ℕ
  pub matrices : List (Matrix ℕ)
  pub primaries : List (Vect space.field)
  pub found : IsFound q l space matrices primaries

pub record HasRanked (q : Problem) (l : Limits) : Type 0 where
  pub space : SpaceOver ℕ
  pub matrices : List (Matrix ℕ)
  pub primaries : List (Vect space.field)
  pub monomials : List (List ℕ)
  pub ranked : IsRanked q l space matrices primaries monomials

pub record HasImages (q : Problem) (l : Limits) : Type 0 where
  pub space : SpaceOver ℕ
  pub matrices : List (Matrix ℕ)
  pub primaries : List (Vect space.field)
  pub monomials : List (List ℕ)
  pub images : List (List (Term ℕ (List ℕ)))
  pub are_images : AreImages q l space matrices primaries monomials images

-- what is said over one space
record OverAt (q : Problem) (l : Limits) (S : SpaceOver ℕ) : Type 0 where
  matrices : List (Matrix ℕ)
  primaries : List (Vect S.field)
  found : IsFound q l S matrices primaries
  over : IsOverRank S.field (length S.weights) primaries l.max_rank

record RankedAt (q : Problem) (l : Limits) (S : SpaceOver ℕ) : Type 0 where
  matrices : List (Matrix ℕ)
  primaries : List (Vect S.field)
  monomials : List (List ℕ)
  ranked : IsRanked q l S matrices primaries monomials

record GraphAt (q : Problem) (l : Limits) (b : Bound ℕ) (S : SpaceOver ℕ) : Type 0 where
  matrices : List (Matrix ℕ)
  primaries : List (Vect S.field)
  monomials : List (List ℕ)
  ranked : IsRanked q l S matrices primaries monomials
  divided : IsDivided q
  degrees : List ℕ
  forms : ArePositiveForms S.field (length S.weights) degrees primaries
  above : IsBasisBound (graph_space S.field degrees (length matrices) monomials) (InGraph S.field primaries matrices monomials) l.max_basis Graph b

record ImagesAt (q : Problem) (l : Limits) (fs : List (List (Term ℕ (List ℕ)))) (S : SpaceOver ℕ) : Type 0 where
  matrices : List (Matrix ℕ)
  primaries : List (Vect S.field)
  monomials : List (List ℕ)
  are_images : AreImages q l S matrices primaries monomials fs

module _ (q : Problem) (l : Limits) where
  pub search-group : (f : BoundFault) → IsSearchFault q l f → HasGroup q l
  search-group f a = record { order = a.order; group = a.group }

  pub found-group : HasFound q l → HasGroup q l
  found-group h = record { order = h.found.order; group = h.found.group }

  pub rank-found : (f : BoundFault) → IsRankFault q l f → HasFound q l
  rank-found f a = record { space = a.space; matrices = a.matrices; primaries = a.primaries; found = a.found }

  pub ranked-found : HasRanked q l → HasFound q l
  ranked-found h = record { space = h.space; matrices = h.matrices; primaries = h.primaries; found = h.ranked.found }

  pub graph-ranked : (f : BoundFault) → IsGraphFault q l f → HasRanked q l
  graph-ranked f a = record { space = a.space; matrices = a.matrices; primaries = a.primaries; monomials = a.monomials; ranked = a.ranked }

  pub images-ranked : HasImages q l → HasRanked q l
  images-ranked h = record { space = h.space; matrices = h.matrices; primaries = h.primaries; monomials = h.monomials; ranked = h.are_images.ranked }

  pub fault-images : (f : BoundFault) → IsImageFault q l f → HasImages q l
  fault-images f a = record { space = a.space; matrices = a.matrices; primaries = a.primaries; monomials = a.monomials; images = a.images; are_images = a.are_images }

  pub kept-images : IsKept q l → HasImages q l
  kept-images a = record { space = a.space; matrices = a.matrices; primaries = a.primaries; monomials = a.monomials; images = a.images; are_images = a.are_images }

  -- the group

  pub one-order : (f g : BoundFault) → IsOrderBound l q f → IsOrderBound l q g → bound_pieces f ≡ bound_pieces g
  one-order f g a b = ap bound_pieces (a.0 ∙ sym b.0)

  pub no-order : (f : BoundFault) → IsOrderBound l q f → HasGroup q l → ⊥
  no-order f a h = let over = order-over q h.order l.max_order h.group.order a.1 in let few = h.group.within in omega arith

  not-divided : IsDivided q → IsUndivided q → ⊥
  not-divided a b = b.2 (subst (λ (N : ℕ). q.characteristic ∣ N) (order-one q a.0 b.0 a.1 b.1) a.2)

  -- the search

  pub one-search : (f g : BoundFault) → IsSearchFault q l f → IsSearchFault q l g → bound_pieces f ≡ bound_pieces g
  one-search f g a b =
      let T = b.bound.space in
      stops-one q l T f g (stop-at q l f T a.bound (space-one q a.bound.space T a.bound.ground.space b.bound.ground.space)) (stop-at q l g T b.bound refl)

  pub no-search : (f : BoundFault) → IsSearchFault q l f → HasFound q l → ⊥
  no-search f a h =
      found-no-stop q l h.space h.primaries h.matrices h.found.ground.matrices h.found.end f
      (stop-at q l f h.space a.bound (space-one q a.bound.space h.space a.bound.ground.space h.found.ground.space))

  -- the standard monomials

  pub one-rank : (f g : BoundFault) → IsRankFault q l f → IsRankFault q l g → bound_pieces f ≡ bound_pieces g
  one-rank f g a b = ap bound_pieces (a.fault ∙ sym b.fault)

  over-at : (f : BoundFault) (a : IsRankFault q l f) (T : SpaceOver ℕ) → a.space ≡ T → OverAt q l T
  over-at f a T e = subst (OverAt q l) e (record { matrices = a.matrices; primaries = a.primaries; found = a.found; over = a.over })

  ranked-at : (h : HasRanked q l) (T : SpaceOver ℕ) → h.space ≡ T → RankedAt q l T
  ranked-at h T e = subst (RankedAt q l) e (record { matrices = h.matrices; primaries = h.primaries; monomials = h.monomials; ranked = h.ranked })

  primaries-one : (S : SpaceOver ℕ) (ms os : List (Matrix ℕ)) (θ η : List (Vect S.field)) → IsFound q l S ms θ → IsFound q l S os η → θ ≡ η
  primaries-one S ms os θ η a b = found-one q l S θ η ms os a.ground.matrices b.ground.matrices a.end b.end

  over-few : (S : SpaceOver ℕ) → OverAt q l S → RankedAt q l S → ⊥
  over-few S a b =
      let same = primaries-one S a.matrices b.matrices a.primaries b.primaries a.found b.ranked.found in
      over_not_few S.field (length S.weights) b.primaries b.monomials l.max_rank b.ranked.standard
      (subst (λ (θ : List (Vect S.field)). IsOverRank S.field (length S.weights) θ l.max_rank) same a.over) b.ranked.few

  pub no-rank : (f : BoundFault) → IsRankFault q l f → HasRanked q l → ⊥
  no-rank f a h = over-few h.space (over-at f a h.space (space-one q a.space h.space a.found.ground.space h.ranked.found.ground.space)) (ranked-at h h.space refl)

  -- what a graph is of
  module _ (S : SpaceOver ℕ) (ms os : List (Matrix ℕ)) (θ η : List (Vect S.field)) (B C : List (List ℕ)) (a : IsRanked q l S ms θ B) (b : IsRanked q l S os η C) where
    same-primaries : θ ≡ η
    same-primaries = primaries-one S ms os θ η a.found b.found

    same-monomials : B ≡ C
    same-monomials =
        one_standard S.field (length S.weights) η B C
        (subst (λ (ζ : List (Vect S.field)). AreStandardMonomials S.field (length S.weights) ζ B) same-primaries a.standard) b.standard

    same-degrees : (ds es : List ℕ) → ArePositiveForms S.field (length S.weights) ds θ → ArePositiveForms S.field (length S.weights) es η → ds ≡ es
    same-degrees ds es h g = degrees-one S os l η b.found.end ds es (subst (ArePositiveForms S.field (length S.weights) ds) same-primaries h) g

    abbrev Data : Type 0
    Data = List (Vect S.field) × List (List ℕ) × List ℕ

    same-data : (ds es : List ℕ) → ArePositiveForms S.field (length S.weights) ds θ → ArePositiveForms S.field (length S.weights) es η → ◌≡◌ {A = Data} (θ, B, ds) (η, C, es)
    same-data ds es h g = let d = same-degrees ds es h g in λ i. (same-primaries i, same-monomials i, d i)

    module _ (ds es : List ℕ) (h : ArePositiveForms S.field (length S.weights) ds θ) (g : ArePositiveForms S.field (length S.weights) es η) where
      moved-kernel : (ls : List (Member ℕ)) → AreKernel S.field (length S.weights) ds θ ms B ls → AreKernel S.field (length S.weights) es η os C ls
      moved-kernel ls c = kernel-by S.field ms os (a.found.ground.matrices ∙ sym b.found.ground.matrices) η C es (length S.weights) ls
          (subst (λ (x : Data). AreKernel S.field (length S.weights) x.2 x.0 ms x.1 ls) (same-data ds es h g) c)

      moved-bound : (x : Bound ℕ) → IsBasisBound (graph_space S.field ds (length ms) B) (InGraph S.field θ ms B) l.max_basis Graph x
          → IsBasisBound (graph_space S.field es (length os) C) (InGraph S.field η os C) l.max_basis Graph x
      moved-bound x c = bound-by S.field ms os (a.found.ground.matrices ∙ sym b.found.ground.matrices) η C es l.max_basis Graph x
          (subst (λ (y : Data). IsBasisBound (graph_space S.field y.2 (length ms) y.1) (InGraph S.field y.0 ms y.1) l.max_basis Graph x) (same-data ds es h g) c)

  -- the graph

  graph-at : (f : BoundFault) (a : IsGraphFault q l f) (T : SpaceOver ℕ) → a.space ≡ T → GraphAt q l a.bound T
  graph-at f a T e = subst (GraphAt q l a.bound) e (record {
    matrices = a.matrices;
    primaries = a.primaries;
    monomials = a.monomials;
    ranked = a.ranked;
    divided = a.divided;
    degrees = a.degrees;
    forms = a.forms;
    above = a.above;
  })

  graphs-one : (S : SpaceOver ℕ) (b c : Bound ℕ) → GraphAt q l b S → GraphAt q l c S → b.degree ≡ c.degree
  graphs-one S b c h g =
      least-one (graph_space S.field g.degrees (length g.matrices) g.monomials) (InGraph S.field g.primaries g.matrices g.monomials) l.max_basis Graph b c
      (moved-bound S h.matrices g.matrices h.primaries g.primaries h.monomials g.monomials h.ranked g.ranked h.degrees g.degrees h.forms g.forms b h.above) g.above

  pub one-graph : (f g : BoundFault) → IsGraphFault q l f → IsGraphFault q l g → bound_pieces f ≡ bound_pieces g
  one-graph f g a b =
      let T = b.space in
      let degree = graphs-one T a.bound b.bound (graph-at f a T (space-one q a.space T a.ranked.found.ground.space b.ranked.found.ground.space)) (graph-at g b T refl) in
      ap bound_pieces a.fault ∙ ap₂ (λ (w : _) (d : ℕ). codes "bound basis " ∷ which_word w ∷ decimal d ∷ []) (a.above.which ∙ sym b.above.which) degree ∙ ap bound_pieces (sym b.fault)

  images-at : (h : HasImages q l) (T : SpaceOver ℕ) → h.space ≡ T → ImagesAt q l h.images T
  images-at h T e = subst (ImagesAt q l h.images) e (record { matrices = h.matrices; primaries = h.primaries; monomials = h.monomials; are_images = h.are_images })

  graph-images : (S : SpaceOver ℕ) (x : Bound ℕ) (fs : List (List (Term ℕ (List ℕ)))) → GraphAt q l x S → ImagesAt q l fs S → ⊥
  graph-images S x fs a b = go b.are_images.generating
    where
      go : AreAverages q l S b.matrices b.monomials fs ⊎ AreFixedValues q l S b.matrices b.primaries b.monomials fs → ⊥
      go (inl v) = not-divided a.divided v.undivided
      go (inr v) =
          let met = moved-bound S a.matrices b.matrices a.primaries b.primaries a.monomials b.monomials a.ranked b.are_images.ranked a.degrees v.degrees a.forms v.forms x a.above in
          v.within _ met.lead met.above

  pub no-graph : (f : BoundFault) → IsGraphFault q l f → HasImages q l → ⊥
  no-graph f a h =
      graph-images h.space a.bound h.images (graph-at f a h.space (space-one q a.space h.space a.ranked.found.ground.space h.are_images.ranked.found.ground.space)) (images-at h h.space refl)

  -- the averages

  module _ (S : SpaceOver ℕ) (ms : List (Matrix ℕ)) where
    abbrev Averages : List (List ℕ) → List (List (Term ℕ (List ℕ))) → Type 0
    Averages bs fs = Each (λ b f. IsAverage S.field ms (single_vector S.field (0, mono b)) (vector_of S (λ m. m) f)) bs fs

    averages-one : (bs : List (List ℕ)) (fs gs : List (List (Term ℕ (List ℕ)))) → All (IsSmallForm S) fs → All (IsSmallForm S) gs → Averages bs fs → Averages bs gs → fs ≡ gs
    averages-one [] [] [] a b h g = refl
    averages-one [] [] (y ∷ gs) a b h g = absurd g
    averages-one [] (x ∷ fs) gs a b h g = absurd h
    averages-one (m ∷ bs) [] gs a b h g = absurd h
    averages-one (m ∷ bs) (x ∷ fs) [] a b h g = absurd g
    averages-one (m ∷ bs) (x ∷ fs) (y ∷ gs) a b h g =
        let one = average_unique S.field ms (single_vector S.field (0, mono m)) (vector_of S (λ o. o) x) (vector_of S (λ o. o) y) h.0 g.0 in
        ap₂ ◌∷◌ (one_terms S x y (All-head (IsSmallForm S) x fs a).polynomial.fits (All-head (IsSmallForm S) y gs b).polynomial.fits one)
        (averages-one bs fs gs (All-tail (IsSmallForm S) x fs a) (All-tail (IsSmallForm S) y gs b) h.1 g.1)

  averages-by : (S : SpaceOver ℕ) (ms os : List (Matrix ℕ)) → AreMatricesOf q ms → AreMatricesOf q os → (bs : List (List ℕ)) (fs : List (List (Term ℕ (List ℕ)))) → Averages S ms bs fs → Averages S os bs fs
  averages-by S ms os are others [] [] h = tt
  averages-by S ms os are others [] (x ∷ fs) h = absurd h
  averages-by S ms os are others (m ∷ bs) [] h = absurd h
  averages-by S ms os are others (m ∷ bs) (x ∷ fs) h = (same-average ms os (are ∙ sym others) S.field _ _ h.0, averages-by S ms os are others bs fs h.1)

  -- the images

  images-one : (S : SpaceOver ℕ) (fs gs : List (List (Term ℕ (List ℕ)))) → ImagesAt q l fs S → ImagesAt q l gs S → fs ≡ gs
  images-one S fs gs a b = go a.are_images.generating b.are_images.generating
    where
      x : AreImages q l S a.matrices a.primaries a.monomials fs
      x = a.are_images

      y : AreImages q l S b.matrices b.primaries b.monomials gs
      y = b.are_images

      polys : (hs : List (List (Term ℕ (List ℕ)))) → All (IsSmallForm S) hs → ArePolys S (λ m. m) hs
      polys hs = All-weaker (IsSmallForm S) (IsPoly S (λ m. m)) (λ p h. h.polynomial) hs

      by-averages : AreAverages q l S a.matrices a.monomials fs → AreAverages q l S b.matrices b.monomials gs → fs ≡ gs
      by-averages v w =
          let monomials = same-monomials S a.matrices b.matrices a.primaries b.primaries a.monomials b.monomials x.ranked y.ranked in
          averages-one S b.matrices b.monomials fs gs x.forms y.forms
          (subst (λ (bs : List (List ℕ)). Averages S b.matrices bs fs) monomials
          (averages-by S a.matrices b.matrices x.ranked.found.ground.matrices y.ranked.found.ground.matrices a.monomials fs v.averages)) w.averages

      by-values : AreFixedValues q l S a.matrices a.primaries a.monomials fs → AreFixedValues q l S b.matrices b.primaries b.monomials gs → fs ≡ gs
      by-values v w =
          let n = length S.weights in
          let same = same-primaries S a.matrices b.matrices a.primaries b.primaries a.monomials b.monomials x.ranked y.ranked in
          let kernel = moved-kernel S a.matrices b.matrices a.primaries b.primaries a.monomials b.monomials x.ranked y.ranked v.degrees w.degrees v.forms w.forms v.members v.kernel in
          one_polys S fs gs (polys fs x.forms) (polys gs y.forms)
          (v.values ∙ ap (λ (θ : List (Vect S.field)). fixed_values S.field n θ v.members) same
          ∙ values-one S.field b.primaries b.matrices b.monomials n w.degrees w.forms.positive v.members w.members kernel w.kernel ∙ sym w.values)

      go : AreAverages q l S a.matrices a.monomials fs ⊎ AreFixedValues q l S a.matrices a.primaries a.monomials fs
          → AreAverages q l S b.matrices b.monomials gs ⊎ AreFixedValues q l S b.matrices b.primaries b.monomials gs → fs ≡ gs
      go (inl v) (inl w) = by-averages v w
      go (inl v) (inr w) = absurd (not-divided w.divided v.undivided)
      go (inr v) (inl w) = absurd (not-divided v.divided w.undivided)
      go (inr v) (inr w) = by-values v w

  same-space : (h g : HasImages q l) → h.space ≡ g.space
  same-space h g = space-one q h.space g.space h.are_images.ranked.found.ground.space g.are_images.ranked.found.ground.space

  same-images : (h g : HasImages q l) → h.images ≡ g.images
  same-images h g = images-one g.space h.images g.images (images-at h g.space (same-space h g)) (images-at g g.space refl)

  first-at : (f : BoundFault) (a : IsImageFault q l f) (h : HasImages q l) → IsFirstPast h.space h.images l.max_terms a.degree
  unfolding fault-images
  first-at f a h =
      let g = fault-images f a in
      subst (λ (fs : List (List (Term ℕ (List ℕ)))). IsFirstPast h.space fs l.max_terms a.degree) (same-images g h)
      (subst (λ (S : SpaceOver ℕ). IsFirstPast S a.images l.max_terms a.degree) (same-space g h) a.first)

  pub one-image : (f g : BoundFault) → IsImageFault q l f → IsImageFault q l g → bound_pieces f ≡ bound_pieces g
  unfolding fault-images
  one-image f g a b =
      let first = first-at f a (fault-images g b) in
      let low = first.least b.degree b.first.past in
      let high = b.first.least a.degree first.past in
      let same : a.degree ≡ b.degree = omega arith in
      ap bound_pieces (a.fault ∙ ap (λ (d : ℕ). TermBound d (count_of d q)) same ∙ sym b.fault)

  pub no-image : (f : BoundFault) → IsImageFault q l f → IsKept q l → ⊥
  unfolding kept-images
  no-image f a h = h.none a.degree (first-at f a (kept-images h)).past

  -- the text

  pub one-text : (f g : BoundFault) → IsTextFault q l f → IsTextFault q l g → bound_pieces f ≡ bound_pieces g
  one-text f g a b =
      let same = certificate-one q l.tries a.certificate b.certificate a.of_problem b.of_problem in
      ap bound_pieces (a.fault ∙ ap (λ (c : CertificateOf ℕ). TextBound (min (length (certificate_text c)) length_limit)) same ∙ sym b.fault)

  pub no-text : (f : BoundFault) (text : List ℕ) → IsTextFault q l f → IsRingAnswer l q text → ⊥
  no-text f text a b =
      let same = certificate-one q l.tries a.certificate b.certificate a.of_problem b.of_problem in
      let long = subst (λ (c : CertificateOf ℕ). l.max_text < length (certificate_text c)) same a.longer in
      let short = b.short in
      omega arith

  pub one-answer : (text other : List ℕ) → IsRingAnswer l q text → IsRingAnswer l q other → text ≡ other
  one-answer text other a b =
      a.is_text ∙ ap (λ (c : CertificateOf ℕ). certificate_text c) (certificate-one q l.tries a.certificate b.certificate a.of_problem b.of_problem) ∙ sym b.is_text
