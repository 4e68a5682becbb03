-- The evidence of a certificate that `ring` makes under limits in their ranges is of small degrees, and is not empty.
use Rattle.std.proofs.Common.{◌≡◌, ◌⊎◌, inl, inr, ℕ, ◌+◌, ◌≤◌, List, [], ◌∷◌, ◌++◌, length, replicate, refl, sym, subst, arith}
use Rattle.std.specs.Prelude.{All, Option, Some, None, IfSome, is_some}
use Rattle.std.specs.Int.{◌∣◌}
use Rattle.std.proofs.lemmas.List.{length-map, length-append}
use Rattle.alg_core.specs.BlockOrder.{length_ones}
use Rattle.alg_core.specs.Fields.{FieldOn}
use Rattle.alg_core.specs.LimitRanges.{AreLimits}
use Rattle.alg_core.specs.Lists.{In, map_in}
use Rattle.alg_core.specs.SpaceGrading.{height}
use Rattle.alg_core.specs.Spaces.{SpaceOver, entries}
use Rattle.alg_core.specs.Vectors.{Vect}
use Rattle.alg_core.specs.declared.limits.Limits.{Limits}
use Rattle.poly_module.specs.Combinations.{mark_value}
use Rattle.poly_module.specs.Forms.{IsForm, AreForms, homogeneous_form}
use Rattle.poly_module.specs.GreatestExponents.{total}
use Rattle.poly_module.specs.Parts.{InVariables}
use Rattle.poly_module.specs.SpaceVectors.{IsVector}
use Rattle.poly_module.specs.declared.vector.Comb.{Comb}
use Rattle.poly_module.proofs.FittingKeys.{vec_in_variables}
use Rattle.poly_module.proofs.SpaceVectorLaws.{is_polynomial}
use Rattle.lin_algebra.specs.declared.matrix.Matrix.{Matrix}
use Rattle.module_groebner.specs.BasisBounds.{NothingAbove}
use Rattle.module_groebner.specs.HomogeneousLists.{IsHomogeneousUpTo}
use Rattle.module_groebner.proofs.Families.{all_in, in_all}
use Rattle.finite_certificate.specs.MarkSpaces.{ArePositiveForms}
use Rattle.finite_certificate.proofs.PowerForms.{forms_count, value_form}
use Rattle.finvar_text.specs.Problems.{Problem}
use Rattle.primary_module.proofs.StandardDegrees.{total_below}
use Rattle.certificate_io.specs.Certificates.{CertificateOf, EvidenceOf, Averages, Members}
use Rattle.certificate_io.specs.Syntax.{IsSome}
use Rattle.certificate_io.specs.declared.evidence.Image.{Image}
use Rattle.certificate_io.specs.declared.evidence.Line.{Line}
use Rattle.syzygy_kernel.specs.Graphs.{InGraph, graph_space}
use Rattle.syzygy_kernel.specs.Kernels.{fixed_values, polynomial_of}
use Rattle.syzygy_kernel.specs.declared.member.Member.{Member}
use Rattle.syzygy_kernel.proofs.FixedMembers.{values_complete}
use Rattle.cert_check.specs.Makings.{AreAveragesOf, AreKernelLines, IsEvidenceOf, IsPrinted}
use Rattle.cert_check.specs.Parts.{size, polynomial, primaries, secondaries, degrees, secondary_degrees, monomials, members}
use Rattle.cert_check.specs.SmallPolynomials.{IsSmallComb, IsSmallLine, IsSmallMember}
use Rattle.cert_check.specs.WellFormed.{plain, marked, combined, IsImage, IsMember, AreEvidence}
use Rattle.cert_check.proofs.MadeForms.{forms_known}
use Rattle.cert_check.proofs.MadeHolds.{proper_secondary}
use Rattle.cert_check.proofs.MadeLists.{one_standard}
use Rattle.invring_app.specs.Commands.Rings.{AreAverages, AreFixedValues}
use Rattle.invring_app.proofs.EndingLaws.{order-one}
use Rattle.invring_app.proofs.OwnReadable.{small-poly, small-comb}
use Rattle.invring_app.proofs.OwnAccepted.{order-of}
use Rattle.invring_app.proofs.OwnReadableBases.{members-low}
use Rattle.invring_app.proofs.OwnReadableDegrees.{place-of, some-in, forms, few, fixed}
use Rattle.invring_app.proofs.OwnReadableImages.{average-degree, complete-some}
use Rattle.invring_app.proofs.OwnKept.{IsOwn}
use Rattle.invring_app.proofs.OwnReadablePowers.{one-in}
use Rattle.invring_app.proofs.OwnReadablePrinted.{printed-homogeneous}
use Rattle.invring_app.proofs.PrimaryDegrees.{degrees-one}

module _ (k : FieldOn ℕ) (c : CertificateOf ℕ) where
  abbrev pub IsSmallEvidence : EvidenceOf ℕ → Type 0
  IsSmallEvidence (Averages xs) = IsSome xs × All (IsSmallLine (combined k c) (size c)) xs
  IsSmallEvidence (Members ls) = IsSome ls × All (IsSmallMember (marked k c) (combined k c)) ls

abbrev member-of : Line ℕ → Member ℕ
member-of l = record { u = l.u; is_fixed = is_some l.comb }

some-lines : (k : FieldOn ℕ) (n : ℕ) (θ : List (Vect k)) (ls : List (Line ℕ)) → 1 ≤ length (fixed_values k n θ (members ls)) → 1 ≤ length ls
some-lines k n θ [] h = absurd (omega arith)
some-lines k n θ (l ∷ ls) h = omega arith

module _ (q : Problem) (l : Limits) (c : CertificateOf ℕ) (k : FieldOn ℕ) (ms : List (Matrix ℕ)) (w : IsOwn q l c k ms) (r : AreLimits l) where
  abbrev n : ℕ
  n = size c

  abbrev U : SpaceOver ℕ
  U = plain k c

  abbrev θ : List (Vect k)
  θ = primaries k c

  abbrev B : List (List ℕ)
  B = w.made.basis

  positive : ArePositiveForms k (size c) (degrees c) (primaries k c)
  positive = forms q l c k ms w r

  secondary-forms : AreForms k (replicate (size c) 1) (secondary_degrees c) (secondaries k c)
  secondary-forms = forms_known k n c.secondaries w.well.secondaries (proper_secondary k ms c l.tries w.well w.made)

  -- the printed combination of a form
  printed-small : (d : ℕ) (f : Vect k) (x : Comb ℕ) → d ≤ 4096 → IsForm k (replicate (size c) 1) d f → IsVector (combined k c) (λ m. m) x.vector → IsPrinted k ms c f x → IsSmallComb (combined k c) x.vector
  printed-small d f x low form fits printed =
      small-comb (combined k c) d x.vector low fits
      (printed-homogeneous k (replicate n 1) (degrees c) (secondary_degrees c) θ (secondaries k c) positive.forms secondary-forms d f (polynomial k x.vector) form printed)

  -- averages
  module _ (xs : List (Image ℕ)) (well : All (IsImage k c) xs) (h : AreAveragesOf k ms c xs) where
    same : monomials xs ≡ B
    same = one_standard k n θ (monomials xs) B h.standard w.made.standard

    line-small : (x : Image ℕ) → In x xs → IsSmallLine (combined k c) (size c) x
    line-small x i =
        let j = place-of xs x i in
        let m = h.images j.0 x j.1 in
        let wf = all_in (IsImage k c) xs well x i in
        let below = total_below k n θ B w.made.standard x.mono (subst (In x.mono) same (map_in (λ (y : Image ℕ). y.mono) x xs i)) in
        let low : total x.mono ≤ 4096 = let f = few q l c k ms w r in omega arith in
        record {
          wide = wf.wide;
          low = low;
          combination = printed-small (total x.mono) m.average x.comb low (average-degree k n ms w.well.some w.well.square x.mono wf.wide m.average m.is) wf.combination m.printed;
        }

    averages-small : IsSome xs × All (IsSmallLine (combined k c) (size c)) xs
    averages-small = (
      let some = some-in (monomials xs) _ (one-in k n (degrees c) θ positive (monomials xs) h.standard) in let m = length-map xs (λ (y : Image ℕ). y.mono) in omega arith,
      in_all (IsSmallLine (combined k c) n) xs line-small,
    )

  -- a kernel
  module _ (ls : List (Line ℕ)) (well : All (IsMember k c) ls) (h : AreKernelLines k ms c ls) where
    nothing-above : NothingAbove (graph_space k (degrees c) (length ms) h.basis) (InGraph k (primaries k c) ms h.basis) l.max_basis
    nothing-above = go w.are_images.generating
      where
        go : AreAverages q l (plain k c) ms w.made.basis w.images ⊎ AreFixedValues q l (plain k c) ms (primaries k c) w.made.basis w.images
            → NothingAbove (graph_space k (degrees c) (length ms) h.basis) (InGraph k (primaries k c) ms h.basis) l.max_basis
        go (inl a) =
            let order = order-one q c.order a.undivided.0 (order-of q l c k ms w) a.undivided.1 in
            absurd (a.undivided.2 (subst (λ (p : ℕ). p ∣ a.undivided.0) w.characteristic (subst (λ (N : ℕ). c.characteristic ∣ N) order h.characteristic)))
        go (inr a) =
            let ds = degrees-one U ms l θ w.are_images.ranked.found.end a.degrees (degrees c) a.forms (subst (λ (m : ℕ). ArePositiveForms k m (degrees c) θ) (sym (length_ones (size c))) positive) in
            let basis = one_standard k n θ B h.basis w.made.standard h.standard in
            subst (λ (C : List (List ℕ)). NothingAbove (graph_space k (degrees c) (length ms) C) (InGraph k θ ms C) l.max_basis) basis
            (subst (λ (es : List ℕ). NothingAbove (graph_space k es (length ms) B) (InGraph k θ ms B) l.max_basis) ds a.within)

    low-members : All (λ (m : Member ℕ). IsHomogeneousUpTo (marked k c) l.max_basis (polynomial_of k m)) (members ls)
    low-members = members-low k n (degrees c) θ positive ms (fixed q l c k ms w r) w.well.square h.basis h.standard (members ls) h.kernel l.max_basis nothing-above

    comb-small : (d : ℕ) (f : Vect k) (o : Option (Comb ℕ)) → d ≤ 4096 → IsForm k (replicate (size c) 1) d f → IfSome o (λ x. IsVector (combined k c) (λ m. m) x.vector)
        → IfSome o (IsPrinted k ms c f) → IfSome o (λ x. IsSmallComb (combined k c) x.vector)
    comb-small d f None low form fits printed = tt
    comb-small d f (Some x) low form fits printed = printed-small d f x low form fits printed

    member-small : (x : Line ℕ) → In x ls → IsSmallMember (marked k c) (combined k c) x
    unfolding height
    member-small x i =
        let j = place-of ls x i in
        let wf = all_in (IsMember k c) ls well x i in
        let u = polynomial k x.u in
        let d = all_in (λ (m : Member ℕ). IsHomogeneousUpTo (marked k c) l.max_basis (polynomial_of k m)) (members ls) low-members (member-of x) (map_in member-of x ls i) in
        let low : d.0 ≤ 4096 = let a = d.1 in let m = r.max_basis.below in omega arith in
        let form = homogeneous_form (marked k c) refl d.0 u (is_polynomial (marked k c) (λ m. m) x.u wf.polynomial) d.2 in
        let many : length (replicate n 1 ++ degrees c) ≡ n + length θ =
        let a = length-append (replicate n 1) (degrees c) in let b = length_ones n in let e = forms_count k (replicate n 1) (degrees c) θ positive.forms in omega arith in
        let vars = subst (λ (m : ℕ). InVariables k m u) many (vec_in_variables (marked k c) (entries (λ m. m) x.u) wf.polynomial.fits) in
        record {
          polynomial = small-poly (marked k c) d.0 x.u low wf.polynomial d.2;
          combination = comb-small d.0 (mark_value k n θ u) x.comb low (value_form k n (degrees c) θ positive.forms d.0 u form vars) wf.combination (h.lines j.0 x j.1);
        }

    kernel-small : IsSome ls × All (IsSmallMember (marked k c) (combined k c)) ls
    kernel-small = (
      some-lines k n θ ls (complete-some k n ms θ (fixed_values k n θ (members ls))
          (values_complete k θ ms h.basis n (degrees c) positive (fixed q l c k ms w r) w.well.square h.standard (members ls) h.kernel)),
      in_all (IsSmallMember (marked k c) (combined k c)) ls member-small,
    )

  evidence-small : (e : EvidenceOf ℕ) → AreEvidence k c e → IsEvidenceOf k ms c e → IsSmallEvidence k c e
  evidence-small (Averages xs) well h = averages-small xs well h
  evidence-small (Members ls) well h = kernel-small ls well h

  pub own-evidence : IsSmallEvidence k c c.evidence
  own-evidence = evidence-small c.evidence w.well.evidence w.made.evidence
