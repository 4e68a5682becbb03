-- There is one certificate that is made from given matrices, with given names of the variables.
use Rattle.std.proofs.Common.{◌≡◌, ◌∙◌, ℕ, List, [], ◌++◌, length, map, sym, ap, ap₂, subst, ext_get_or, arith}
use Rattle.std.specs.Prelude.{All, Some, slice_get}
use Rattle.std.specs.Int.{◌∣◌}
use Rattle.std.proofs.lemmas.List.{length-map}
use Rattle.alg_core.specs.Fields.{FieldOn}
use Rattle.alg_core.specs.Monomials.{mono}
use Rattle.alg_core.specs.Vectors.{Vect, zero_vector}
use Rattle.alg_core.specs.declared.term.Term.{Term}
use Rattle.poly_module.specs.Forms.{AreForms}
use Rattle.poly_module.specs.Marks.{relations}
use Rattle.poly_module.specs.Modules.{listed}
use Rattle.poly_module.specs.Polynomials.{single_vector}
use Rattle.poly_module.specs.SpaceVectors.{IsPoly}
use Rattle.poly_module.proofs.MarkValues.{forms_append}
use Rattle.poly_module.proofs.Reduced.{reduced_basis_unique}
use Rattle.poly_module.proofs.WalkLaws.{keeps_unique}
use Rattle.lin_algebra.specs.declared.matrix.Matrix.{Matrix}
use Rattle.matrix_group.specs.Groups.{cells_of}
use Rattle.matrix_group.proofs.OrderLaws.{order_unique}
use Rattle.module_groebner.proofs.Families.{all_in}
use Rattle.reynolds_op.specs.Averages.{IsAverage}
use Rattle.reynolds_op.proofs.AverageLaws.{average_unique}
use Rattle.finite_certificate.specs.Ideals.{variable_power}
use Rattle.finite_certificate.specs.StandardMonomials.{IsCoordinates}
use Rattle.groebner_hom.specs.Lifts.{IsLeastPower}
use Rattle.groebner_hom.proofs.Freeness.{coordinates_unique}
use Rattle.primary_search.proofs.UniqueLaws.{one_first}
use Rattle.secondary_gens.specs.PrintedCombinations.{IsPrintedCombination}
use Rattle.secondary_gens.proofs.OnePrinted.{printed_unique}
use Rattle.secondary_gens.proofs.SecondaryLaws.{secondaries_unique}
use Rattle.irreducible_gens.specs.Irreducibles.{members, numbers}
use Rattle.irreducible_gens.proofs.Chosen.{Skips}
use Rattle.irreducible_gens.proofs.OneWord.{one_word}
use Rattle.certificate_io.specs.Certificates.{CertificateOf, EvidenceOf, Averages, Members}
use Rattle.certificate_io.specs.declared.evidence.Image.{Image}
use Rattle.certificate_io.specs.declared.evidence.Line.{Line}
use Rattle.syzygy_kernel.specs.Kernels.{AreKernel, polynomial_of}
use Rattle.syzygy_kernel.specs.declared.member.Member.{Member}
use Rattle.syzygy_kernel.proofs.OneKernel.{one_kernel}
use Rattle.cert_check.specs.Parts.{size, ones, polynomial, primaries, lifts, powers, secondaries, irreducibles, degrees, secondary_degrees, irreducible_degrees, monomials, members as members_of}
use Rattle.cert_check.specs.WellFormed.{IsWellFormed, IsImage, IsMember, AreEvidence, plain, marked, combined, worded}
use Rattle.cert_check.specs.Makings.{IsMade, AreAveragesOf, AreKernelLines, IsEvidenceOf}
use Rattle.cert_check.proofs.MadePlaces.{same_some, place_in, place_within, place_map}
use Rattle.cert_check.proofs.MadeForms.{forms_known, positive_proper}
use Rattle.cert_check.proofs.MadeLifts.{all_fit, marks_positive}
use Rattle.cert_check.proofs.MadeHolds.{primary_forms, primaries_fixed, primaries_regular, proper_secondary, made_irreducible}
use Rattle.cert_check.proofs.MadeLines.{alike, same_count, one_line}
use Rattle.cert_check.proofs.MadeLists.{place_there, by_places, one_terms, one_polys, one_powers, one_standard}

made_image : List ℕ → List (Term ℕ (List ℕ)) → Image ℕ
made_image a v = record { mono = a; comb = record { vector = v } }

module _ (k : FieldOn ℕ) (gens : List (Matrix ℕ)) (tries : ℕ) (c : CertificateOf ℕ) (well : IsWellFormed k c gens) (made : IsMade k gens c tries) where
  abbrev n : ℕ
  n = size c

  abbrev θ : List (Vect k)
  θ = primaries k c

  abbrev Goal : CertificateOf ℕ → Type 0
  Goal d = IsWellFormed k d gens → IsMade k gens d tries → c ≡ d

  secondary_forms : AreForms k (ones c) (secondary_degrees c) (secondaries k c)
  secondary_forms = forms_known k n c.secondaries well.secondaries (proper_secondary k gens c tries well made)

  irreducible_forms : AreForms k (ones c) (irreducible_degrees c) (irreducibles k c)
  irreducible_forms = forms_known k n c.irreducibles well.irreducibles (λ q i. positive_proper k n q ((made_irreducible k gens c tries well made).members q i).1)

  -- a certificate with the same variables, primary and secondary invariants and irreducible generators
  abbrev like : CertificateOf ℕ → CertificateOf ℕ
  like d = record d { names = c.names; primaries = c.primaries; secondaries = c.secondaries; irreducibles = c.irreducibles }

  module _ (d : CertificateOf ℕ) (other : IsWellFormed k (like d) gens) (again : IsMade k gens (like d) tries) where
    same_characteristic : c.characteristic ≡ d.characteristic
    same_characteristic = sym (ap (λ (f : FieldOn ℕ). f.characteristic) well.field.1) ∙ ap (λ (f : FieldOn ℕ). f.characteristic) other.field.1

    same_lifts : c.lifts ≡ d.lifts
    same_lifts = one_polys (marked k c) c.lifts d.lifts well.lifts other.lifts
        (reduced_basis_unique (marked k c) (listed k (relations k n θ)) (marks_positive k n (degrees c) θ (primary_forms k gens c tries well made)).order (λ i t h. all_fit k n (degrees c) t)
        (lifts k c) (lifts k d) made.are_lifts again.are_lifts)

    same_power : (i : ℕ) (p q : ℕ × Vect k) → IsLeastPower k n θ i p → IsLeastPower k n θ i q → p ≡ q
    same_power i p q a b =
        let e : p.0 ≡ q.0 = let x = a.exponent.least q.0 b.exponent.inside in let y = b.exponent.least p.0 a.exponent.inside in omega arith in
        let f : p.1 ≡ q.1 = coordinates_unique k n (degrees c) θ (primary_forms k gens c tries well made) (primaries_regular k gens c tries well made) (variable_power k i p.0) p.1 q.1 a.form
        (subst (λ m. IsCoordinates k n θ (variable_power k i m) q.1) (sym e) b.form) in
        ap₂ (λ (m : ℕ) (u : Vect k). (m, u)) e f

    same_powers : c.powers ≡ d.powers
    same_powers = one_powers (marked k c) c.powers d.powers well.powers other.powers
        (ext_get_or (0, zero_vector k) (powers k c) (powers k d) (made.least_powers.count ∙ sym again.least_powers.count)
        (λ i l. same_power i _ _ (made.least_powers.each i (let m = made.least_powers.count in omega arith)) (again.least_powers.each i (let m = made.least_powers.count in omega arith))))

    same_rank : c.rank ≡ d.rank
    same_rank = made.rank ∙ ap length (one_standard k n θ made.basis again.basis made.standard again.standard) ∙ sym again.rank

    module _ (xs ys : List (Image ℕ)) (a : All (IsImage k c) xs) (b : All (IsImage k (like d)) ys) (h : AreAveragesOf k gens c xs) (g : AreAveragesOf k gens (like d) ys) where
      same_monomials : monomials xs ≡ monomials ys
      same_monomials = one_standard k n θ (monomials xs) (monomials ys) h.standard g.standard

      module _ (j : ℕ) (x y : Image ℕ) (p : slice_get xs j ≡ Some x) (q : slice_get ys j ≡ Some y) where
        same_monomial : x.mono ≡ y.mono
        same_monomial = same_some x.mono y.mono (sym (place_map (λ (z : Image ℕ). z.mono) xs j x p) ∙ ap (λ l. slice_get l j) same_monomials ∙ place_map (λ (z : Image ℕ). z.mono) ys j y q)

        same_average : (h.images j x p).average ≡ (g.images j y q).average
        same_average =
            let s = h.images j x p in
            let t = g.images j y q in
            average_unique k gens (single_vector k (0, mono x.mono)) s.average t.average s.is (subst (λ (m : List ℕ). IsAverage k gens (single_vector k (0, mono m)) t.average) (sym same_monomial) t.is)

        same_combination : polynomial k x.comb.vector ≡ polynomial k y.comb.vector
        same_combination =
            let s = h.images j x p in
            let t = g.images j y q in
            printed_unique k (ones c) (degrees c) (secondary_degrees c) θ (secondaries k c) (primary_forms k gens c tries well made).forms secondary_forms s.average
            (polynomial k x.comb.vector) (polynomial k y.comb.vector) s.printed
            (subst (λ f. IsPrintedCombination k (degrees c) (secondary_degrees c) θ (secondaries k c) f (polynomial k y.comb.vector)) (sym same_average) t.printed)

        same_image : x ≡ y
        unfolding made_image
        same_image = ap₂ made_image same_monomial (one_terms (combined k c) x.comb.vector y.comb.vector (all_in (IsImage k c) xs a x (place_in xs j x p)).combination
            (all_in (IsImage k (like d)) ys b y (place_in ys j y q)).combination same_combination)

      same_images : xs ≡ ys
      same_images = by_places xs ys (sym (length-map xs (λ (z : Image ℕ). z.mono)) ∙ ap length same_monomials ∙ length-map ys (λ (z : Image ℕ). z.mono)) same_image

    module _ (xs ys : List (Line ℕ)) (a : All (IsMember k c) xs) (b : All (IsMember k (like d)) ys) (h : AreKernelLines k gens c xs) (g : AreKernelLines k gens (like d) ys) where
      same_members : (map (polynomial_of k) (members_of xs) ≡ map (polynomial_of k) (members_of ys)) × (map (λ (m : Member ℕ). m.is_fixed) (members_of xs) ≡ map (λ (m : Member ℕ). m.is_fixed) (members_of ys))
      same_members = one_kernel k n gens h.basis (degrees c) θ (primary_forms k gens c tries well made) (primaries_fixed k gens c tries well made) well.square h.standard
          (members_of xs) (members_of ys) h.kernel
          (subst (λ B. AreKernel k n (degrees c) θ gens B (members_of ys)) (one_standard k n θ g.basis h.basis g.standard h.standard) g.kernel)

      same_line : (j : ℕ) (x y : Line ℕ) → slice_get xs j ≡ Some x → slice_get ys j ≡ Some y → x ≡ y
      same_line j x y p q =
          let fits = all_in (IsMember k c) xs a x (place_in xs j x p) in
          let fits' = all_in (IsMember k (like d)) ys b y (place_in ys j y q) in
          one_line k gens c (ones c) (primary_forms k gens c tries well made).forms secondary_forms x y fits.polynomial fits'.polynomial fits.combination fits'.combination
          (h.lines j x p) (g.lines j y q) (alike (polynomial_of k) xs ys j x y p q same_members.0) (alike (λ (m : Member ℕ). m.is_fixed) xs ys j x y p q same_members.1)

      same_lines : xs ≡ ys
      same_lines = by_places xs ys (same_count (λ (m : Member ℕ). m.is_fixed) xs ys same_members.1) same_line

    same_order : c.order ≡ d.order
    same_order = order_unique k n (cells_of gens) c.order d.order made.order again.order

    divides_other : c.characteristic ∣ c.order → d.characteristic ∣ d.order
    divides_other h = subst (λ (N : ℕ). d.characteristic ∣ N) same_order (subst (λ (p : ℕ). p ∣ c.order) same_characteristic h)

    other_divides : d.characteristic ∣ d.order → c.characteristic ∣ c.order
    other_divides h = subst (λ (N : ℕ). c.characteristic ∣ N) (sym same_order) (subst (λ (p : ℕ). p ∣ d.order) (sym same_characteristic) h)

    same_evidence : (e f : EvidenceOf ℕ) → AreEvidence k c e → AreEvidence k (like d) f → IsEvidenceOf k gens c e → IsEvidenceOf k gens (like d) f → e ≡ f
    same_evidence (Averages xs) (Averages ys) a b h g = ap Averages (same_images xs ys a b h g)
    same_evidence (Averages xs) (Members ls) a b h g = absurd (h.characteristic (other_divides g.characteristic))
    same_evidence (Members ls) (Averages ys) a b h g = absurd (g.characteristic (divides_other h.characteristic))
    same_evidence (Members ls) (Members ms) a b h g = ap Members (same_lines ls ms a b h g)

    same_word : (j : ℕ) (u v : List (Term ℕ (List ℕ))) → slice_get c.words j ≡ Some u → slice_get d.words j ≡ Some v → u ≡ v
    same_word j u v p q =
        let s = place_there c.secondaries j (let l = place_within c.words j u p in let e = well.word_each in omega arith) in
        let f = polynomial k s.0 in
        let r = place_map (polynomial k) c.secondaries j s.0 s.1 in
        one_terms (worded k c) u v (all_in (IsPoly (worded k c) (λ m. m)) c.words well.words u (place_in c.words j u p)).fits (all_in (IsPoly (worded k c) (λ m. m)) d.words other.words v (place_in d.words j v q)).fits
        (one_word k (degrees c ++ irreducible_degrees c) θ (irreducibles k c) (ones c)
        (forms_append k (ones c) (degrees c) (irreducible_degrees c) θ (irreducibles k c) (primary_forms k gens c tries well made).forms irreducible_forms) f (polynomial k u) (polynomial k v)
        (made.are_words j f (polynomial k u) r (place_map (polynomial k) c.words j u p)) (again.are_words j f (polynomial k v) r (place_map (polynomial k) d.words j v q)))

    same_words : c.words ≡ d.words
    same_words = by_places c.words d.words (well.word_each ∙ sym other.word_each) same_word

    same_parts : c ≡ like d
    same_parts = λ i. record {
      characteristic = same_characteristic i;
      names = c.names;
      matrices = (sym well.generators ∙ other.generators) i;
      order = same_order i;
      primaries = c.primaries;
      lifts = same_lifts i;
      powers = same_powers i;
      rank = same_rank i;
      secondaries = c.secondaries;
      evidence = same_evidence c.evidence d.evidence well.evidence other.evidence made.evidence again.evidence i;
      irreducibles = c.irreducibles;
      words = same_words i;
    }

  from_secondaries : (d : CertificateOf ℕ) → Goal (record d { names = c.names; primaries = c.primaries; secondaries = c.secondaries })
  from_secondaries d other again =
      let places = keeps_unique (Skips k θ (secondaries k c)) [] (numbers 1 (length (secondaries k c))) made.places again.places made.are_irreducibles again.are_irreducibles in
      let e : c.irreducibles ≡ d.irreducibles = one_polys (plain k c) c.irreducibles d.irreducibles well.irreducibles other.irreducibles
      (made.irreducible ∙ ap (members k (secondaries k c)) places ∙ sym again.irreducible) in
      subst Goal (λ i. record d { names = c.names; primaries = c.primaries; secondaries = c.secondaries; irreducibles = e i }) (same_parts d) other again

  from_primaries : (d : CertificateOf ℕ) → Goal (record d { names = c.names; primaries = c.primaries })
  from_primaries d other again =
      let e : c.secondaries ≡ d.secondaries = one_polys (plain k c) c.secondaries d.secondaries well.secondaries other.secondaries
      (secondaries_unique (plain k c) gens θ (secondaries k c) (secondaries k d) made.are_secondaries again.are_secondaries) in
      subst Goal (λ i. record d { names = c.names; primaries = c.primaries; secondaries = e i }) (from_secondaries d) other again

  from_names : (d : CertificateOf ℕ) → Goal (record d { names = c.names })
  from_names d other again =
      let e : c.primaries ≡ d.primaries = one_polys (plain k c) c.primaries d.primaries well.primaries other.primaries
      (one_first (plain k c) gens tries θ (primaries k d) made.first_primaries again.first_primaries) in
      subst Goal (λ i. record d { names = c.names; primaries = e i }) (from_primaries d) other again

  pub made_once : (d : CertificateOf ℕ) → c.names ≡ d.names → IsWellFormed k d gens → IsMade k gens d tries → c ≡ d
  made_once d e other again = subst Goal (λ i. record d { names = e i }) (from_names d) other again
