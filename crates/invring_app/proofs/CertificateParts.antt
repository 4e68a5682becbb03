-- The certificate that parts over a plain space make.
use Rattle.std.proofs.Common.{◌≡◌, ◌∙◌, ℕ, zero, suc, ◌<◌, List, [], ◌∷◌, ◌++◌, map, length, replicate, Option, None, Some, inl, inr, refl, sym, ap, subst}
use Rattle.std.specs.Prelude.{All, IfSome, is_some, option_to_list, slice_get}
use Rattle.std.specs.Int.{◌∣◌}
use Rattle.std.proofs.lemmas.List.{length-map}
use Rattle.std.proofs.lemmas.List.Elements.{All-nil, All-cons, All-head, All-tail}
use Rattle.alg_core.specs.BlockOrder.{length_ones}
use Rattle.alg_core.specs.Fields.{FieldOn}
use Rattle.alg_core.specs.Lists.{In}
use Rattle.alg_core.specs.Monomials.{mono}
use Rattle.alg_core.specs.PolynomialSpaces.{plain_space, marked_space}
use Rattle.alg_core.specs.Spaces.{SpaceOver}
use Rattle.alg_core.specs.Vectors.{Vect}
use Rattle.alg_core.specs.declared.term.Term.{Term}
use Rattle.prime_field.specs.PrimeFields.{IsPrimeField}
use Rattle.poly_module.specs.declared.vector.Comb.{Comb}
use Rattle.poly_module.specs.Combinations.{mark_value}
use Rattle.poly_module.specs.Polynomials.{single_vector}
use Rattle.poly_module.specs.SpaceVectors.{IsPoly, ArePolys, IsVector, vector_of, vectors_of}
use Rattle.lin_algebra.specs.declared.matrix.Matrix.{Matrix}
use Rattle.matrix_group.specs.Actions.{IsSquare}
use Rattle.matrix_group.specs.Groups.{cells_of, IsOrder}
use Rattle.reynolds_op.specs.Averages.{IsAverage}
use Rattle.finite_certificate.specs.StandardMonomials.{AreStandardMonomials}
use Rattle.finite_certificate.specs.declared.power.Power.{Power}
use Rattle.groebner_hom.specs.Lifts.{AreLifts, AreLeastPowers}
use Rattle.primary_search.specs.Walks.{FirstPrimaries}
use Rattle.secondary_gens.specs.Combined.{IsCombined}
use Rattle.secondary_gens.specs.Forms.{degrees_of}
use Rattle.secondary_gens.specs.Lists.{Each}
use Rattle.irreducible_gens.specs.Words.{word_space, IsWordOf, IsPrintedWord}
use Rattle.syzygy_kernel.specs.Kernels.{AreKernel, fixed_values}
use Rattle.syzygy_kernel.specs.declared.member.Member.{Member}
use Rattle.certificate_io.specs.Certificates.{CertificateOf, EvidenceOf, Averages, Members, matrix_of}
use Rattle.certificate_io.specs.declared.evidence.Image.{Image}
use Rattle.certificate_io.specs.declared.evidence.Line.{Line}
use Rattle.cert_check.specs.Parts.{members}
use Rattle.cert_check.specs.Makings.{IsPrinted, IsImageOf, AreKernelLines, IsEvidenceOf, IsMade}
use Rattle.cert_check.specs.WellFormed.{marked, combined, IsImage, IsMember, AreEvidence, IsWellFormed}
use Rattle.cert_check.proofs.MadePlaces.{same_some, place_in}
use Rattle.invring_app.specs.FoundPrimaries.{IsPlain, IsOver}
use Rattle.invring_app.specs.SmallMonomials.{IsSmallMonomial}
use Rattle.invring_app.specs.EvidenceLines.{combinations_in}
use Rattle.invring_app.specs.GeneratingParts.{AreFixedBy, AreGenerating, AreGeneratorParts, IsSourceOf, IsEvidenceOver}
use Rattle.invring_app.proofs.OverPlain.{plain_is}
use Rattle.invring_app.proofs.WritableForms.{each_image}

abbrev Terms : Type 0
Terms = List (Term ℕ (List ℕ))

-- at each place
in_at : {A : Type 0} (P : A → Type 0) (ys : List A) → All P ys → (i : ℕ) (y : A) → slice_get ys i ≡ Some y → P y
in_at P [] h i y e = absurd cc
in_at P (z ∷ ys) h zero y e = subst P (same_some z y e) (All-head P z ys h)
in_at P (z ∷ ys) h (suc i) y e = in_at P ys (All-tail P z ys h) i y e

-- what is known of the parts over a space
pub record ArePartsOver (S : SpaceOver ℕ) (gens : List (Matrix ℕ)) (tries p N cap : ℕ) (θ : List Terms) (B : List (List ℕ)) (ls : List Terms) (ps : List (Power ℕ)) (fs : List Terms) (o : Option (List (Member ℕ))) (T : List Terms) (e : EvidenceOf ℕ) (Q us : List Terms) : Type 0 where
  pub first : FirstPrimaries S gens tries (vectors_of S (λ m. m) θ)
  pub primaries : ArePolys S (λ m. m) θ
  pub over : IsOver S θ B ls ps
  pub generating : AreGenerating S p N cap gens θ B fs o
  pub generators : AreGeneratorParts S gens θ B fs o T e Q us
  pub order : IsOrder S.field (length S.weights) (cells_of gens) N
  pub square : All (IsSquare S.field (length S.weights)) gens
  pub generated : 0 < length gens
  pub some : 0 < length S.weights

module _ (k : FieldOn ℕ) (p : ℕ) (names : List (List ℕ)) (gens : List (Matrix ℕ)) (tries N cap r : ℕ) (θ : List Terms) (B : List (List ℕ)) (ls : List Terms) (ps : List (Power ℕ)) (fs : List Terms) (o : Option (List (Member ℕ))) (T : List Terms) (e : EvidenceOf ℕ) (Q us : List Terms) where
  abbrev pub certificate_with : CertificateOf ℕ
  certificate_with = record {
    characteristic = p;
    names = names;
    matrices = map matrix_of gens;
    order = N;
    primaries = θ;
    lifts = ls;
    powers = ps;
    rank = r;
    secondaries = T;
    evidence = e;
    irreducibles = Q;
    words = us;
  }

  abbrev m : ℕ
  m = length names

  abbrev U : SpaceOver ℕ
  U = plain_space k (length names)

  abbrev c : CertificateOf ℕ
  c = certificate_with

  abbrev x : List Terms → List (Vect k)
  x vs = vectors_of U (λ v. v) vs

  module _ (parts : ArePartsOver (plain_space k (length names)) gens tries p N cap θ B ls ps fs o T e Q us) (field : IsPrimeField p k) (ranked : r ≡ length B) where
    many : length {A = ℕ} (replicate (length names) 1) ≡ length names
    many = length_ones (length names)

    at : (P : ℕ → Type 0) → P (length {A = ℕ} (replicate (length names) 1)) → P (length names)
    at P h = subst P many h

    standard : AreStandardMonomials k m (x θ) B
    standard = at (λ n. AreStandardMonomials k n (x θ) B) parts.over.standard

    -- the lines of the averages
    image-at : (bs : List (List ℕ)) (gs : List Terms) (ys : List (Image ℕ)) → Each (λ b f. IsAverage k gens (single_vector k (0, mono b)) (vector_of U (λ v. v) f)) bs gs
        → Each (λ f x. IsCombined U θ T f (Some x.comb)) gs ys → map (λ x. x.mono) ys ≡ bs → (x : Image ℕ) → In x ys → IsImageOf k gens c x
    image-at bs gs [] h g e x i = absurd i
    image-at [] gs (y ∷ ys) h g e x i = absurd cc
    image-at (b ∷ bs) [] (y ∷ ys) h g e x i = absurd h
    image-at (b ∷ bs) (f ∷ gs) (y ∷ ys) h g e x (inl same) =
        let first : y.mono ≡ b = cc in
        subst (IsImageOf k gens c) same (record {
          average = vector_of U (λ v. v) f;
          is = subst (λ a. IsAverage k gens (single_vector k (0, mono a)) (vector_of U (λ v. v) f)) (sym first) h.0;
          printed = g.0.printed;
        })
    image-at (b ∷ bs) (f ∷ gs) (y ∷ ys) h g e x (inr i) =
        let rest : map (λ x. x.mono) ys ≡ bs = cc in
        image-at bs gs ys h.1 g.1 rest x i

    -- each has an exponent for each variable, and a combination
    image-fits : (bs : List (List ℕ)) (gs : List Terms) (ys : List (Image ℕ)) → All (IsSmallMonomial m) bs → Each (λ f x. IsCombined U θ T f (Some x.comb)) gs ys → map (λ x. x.mono) ys ≡ bs → All (IsImage k c) ys
    image-fits bs gs [] h g e = All-nil (IsImage k c)
    image-fits [] gs (y ∷ ys) h g e = absurd cc
    image-fits (b ∷ bs) [] (y ∷ ys) h g e = absurd g
    image-fits (b ∷ bs) (f ∷ gs) (y ∷ ys) h g e =
        let first : y.mono ≡ b = cc in
        let rest : map (λ x. x.mono) ys ≡ bs = cc in
        All-cons (IsImage k c) y ys
        (record { wide = ap length first ∙ (All-head (IsSmallMonomial m) b bs h).wide; combination = g.0.fits })
        (image-fits bs gs ys (All-tail (IsSmallMonomial m) b bs h) g.1 rest)

    -- a line of the kernel, and the forms of those after it
    abbrev Line-is : Terms → Option (Comb ℕ) → Type 0
    Line-is u y = IfSome y (λ y. IsPrinted k gens c (mark_value k m (x θ) (vector_of U (λ v. v) u)) y × IsVector (combined k c) (λ v. v) y.vector)

    pub record Line-and (u : Terms) (comb : Option (Comb ℕ)) (ys : List (Line ℕ)) : Type 0 where
      pub line : Line-is u comb
      pub later : List Terms
      pub values : x later ≡ fixed_values k m (x θ) (members ys)
      pub combinations : Each (λ f y. IsCombined U θ T f (Some y)) later (combinations_in ys)

    line-at : (u : Terms) (o : Option (Comb ℕ)) (ys : List (Line ℕ)) (gs : List Terms) → x gs ≡ fixed_values k m (x θ) (record { u = u; is_fixed = is_some o } ∷ members ys)
        → Each (λ f y. IsCombined U θ T f (Some y)) gs (option_to_list o ++ combinations_in ys) → Line-and u o ys
    line-at u None ys gs e h = record { line = tt; later = gs; values = e; combinations = h }
    line-at u (Some y) ys [] e h = absurd h
    line-at u (Some y) ys (f ∷ gs) e h =
        let first : vector_of U (λ v. v) f ≡ mark_value k m (x θ) (vector_of U (λ v. v) u) = cc in
        let rest : x gs ≡ fixed_values k m (x θ) (members ys) = cc in
        record { line = (subst (λ w. IsPrinted k gens c w y) first h.0.printed, h.0.fits); later = gs; values = rest; combinations = h.1 }

    lines-at : (ys : List (Line ℕ)) (gs : List Terms) → x gs ≡ fixed_values k m (x θ) (members ys) → Each (λ f y. IsCombined U θ T f (Some y)) gs (combinations_in ys) → All (λ l. Line-is l.u l.comb) ys
    lines-at [] gs e h = All-nil (λ (l : Line ℕ). Line-is l.u l.comb)
    lines-at (l ∷ ys) gs e h =
        let r = line-at l.u l.comb ys gs e h in
        All-cons (λ (l : Line ℕ). Line-is l.u l.comb) l ys r.line (lines-at ys r.later r.values r.combinations)

    fixed-line : (u : Terms) (o : Option (Comb ℕ)) → Line-is u o → IfSome o (IsPrinted k gens c (mark_value k m (x θ) (vector_of U (λ v. v) u)))
    fixed-line u None h = tt
    fixed-line u (Some y) h = h.0

    fitting-line : (u : Terms) (o : Option (Comb ℕ)) → Line-is u o → IfSome o (λ y. IsVector (combined k c) (λ v. v) y.vector)
    fitting-line u None h = tt
    fitting-line u (Some y) h = h.1

    member-fits : (ys : List (Line ℕ)) → All (λ m. IsPoly (marked k c) (λ a. a) m.u) (members ys) → All (λ l. Line-is l.u l.comb) ys → All (IsMember k c) ys
    member-fits [] p h = All-nil (IsMember k c)
    member-fits (l ∷ ys) p h =
        All-cons (IsMember k c) l ys
        (record {
          polynomial = All-head (λ (m : Member ℕ). IsPoly (marked k c) (λ a. a) m.u) (record { u = l.u; is_fixed = is_some l.comb }) (members ys) p;
          combination = fitting-line l.u l.comb (All-head (λ (l : Line ℕ). Line-is l.u l.comb) l ys h);
        })
        (member-fits ys (All-tail (λ (m : Member ℕ). IsPoly (marked k c) (λ a. a) m.u) (record { u = l.u; is_fixed = is_some l.comb }) (members ys) p) (All-tail (λ (l : Line ℕ). Line-is l.u l.comb) l ys h))

    -- the members are those of the kernel
    module _ (ms : List (Member ℕ)) (by : AreFixedBy (plain_space k (length names)) cap gens θ B fs ms) (ys : List (Line ℕ)) (cs : List (Comb ℕ)) (same : members ys ≡ ms) (listed : combinations_in ys ≡ cs)
        (each : Each (λ f y. IsCombined (plain_space k (length names)) θ T f (Some y)) fs cs) where
      lines : All (λ l. Line-is l.u l.comb) ys
      lines = lines-at ys fs (at (λ n. x fs ≡ fixed_values k n (x θ) ms) by.values ∙ ap (fixed_values k m (x θ)) (sym same)) (subst (Each (λ f y. IsCombined U θ T f (Some y)) fs) (sym listed) each)

      members-fit : All (IsMember k c) ys
      members-fit = member-fits ys (subst (All (λ m. IsPoly (marked k c) (λ a. a) m.u)) (sym same) (at (λ n. All (λ (m : Member ℕ). IsPoly (marked_space k n (degrees_of θ)) (λ a. a) m.u) ms) by.polynomials)) lines

      kernel-lines : p ∣ N → AreKernelLines k gens c ys
      kernel-lines divides = record {
        characteristic = divides;
        basis = B;
        standard = standard;
        kernel = subst (AreKernel k m (degrees_of θ) (x θ) gens B) (sym same) (at (λ n. AreKernel k n (degrees_of θ) (x θ) gens B ms) by.kernel);
        lines = λ i l q. fixed-line l.u l.comb (in_at (λ l. Line-is l.u l.comb) ys lines i l q);
      }

    evidence-fits : (o : Option (List (Member ℕ))) (e : EvidenceOf ℕ) → IsSourceOf U p N cap gens θ B fs o → IsEvidenceOver U θ T B fs o e → AreEvidence k c e
    evidence-fits None (Averages xs) s h = image-fits B fs xs (at (λ n. All (IsSmallMonomial n) B) parts.over.small) (each_image U θ T fs h.0 xs h.2 h.1.1) h.1.0
    evidence-fits None (Members ys) s h = absurd h.1
    evidence-fits (Some ms) (Averages xs) s h = absurd h.1
    evidence-fits (Some ms) (Members ys) s h = members-fit ms s.1 ys h.0 h.1.0 h.1.1 h.2

    evidence-is : (o : Option (List (Member ℕ))) (e : EvidenceOf ℕ) → IsSourceOf U p N cap gens θ B fs o → IsEvidenceOver U θ T B fs o e → IsEvidenceOf k gens c e
    evidence-is None (Averages xs) s h = record {
      characteristic = s.0;
      standard = subst (AreStandardMonomials k m (x θ)) (sym h.1.0) standard;
      images = λ i y q. image-at B fs xs s.1 (each_image U θ T fs h.0 xs h.2 h.1.1) h.1.0 y (place_in xs i y q);
    }
    evidence-is None (Members ys) s h = absurd h.1
    evidence-is (Some ms) (Averages xs) s h = absurd h.1
    evidence-is (Some ms) (Members ys) s h = kernel-lines ms s.1 ys h.0 h.1.0 h.1.1 h.2 s.0

    -- the words
    word-at : (ts vs : List Terms) → Each (λ f w. IsWordOf U θ Q f (Some w)) ts vs → (j : ℕ) (s u : Vect k)
        → slice_get (vectors_of U (λ v. v) ts) j ≡ Some s → slice_get (vectors_of U (λ v. v) vs) j ≡ Some u → IsPrintedWord k (degrees_of θ ++ degrees_of Q) (vectors_of U (λ v. v) θ) (vectors_of U (λ v. v) Q) s u
    word-at [] vs h j s u e d = absurd cc
    word-at (t ∷ ts) [] h j s u e d = absurd h
    word-at (t ∷ ts) (v ∷ vs) h zero s u e d =
        subst (λ w. IsPrintedWord k (degrees_of θ ++ degrees_of Q) (vectors_of U (λ v. v) θ) (vectors_of U (λ v. v) Q) w u) (same_some _ s e)
        (subst (λ w. IsPrintedWord k (degrees_of θ ++ degrees_of Q) (vectors_of U (λ v. v) θ) (vectors_of U (λ v. v) Q) (vector_of U (λ v. v) t) w) (same_some _ u d) h.0.printed)
    word-at (t ∷ ts) (v ∷ vs) h (suc j) s u e d = word-at ts vs h.1 j s u e d

    word-fits : (ts vs : List Terms) → Each (λ f w. IsWordOf U θ Q f (Some w)) ts vs → ArePolys (word_space k (degrees_of θ ++ degrees_of Q)) (λ v. v) vs × (length vs ≡ length ts)
    word-fits [] [] h = (All-nil (IsPoly (word_space k (degrees_of θ ++ degrees_of Q)) (λ v. v)), refl)
    word-fits [] (v ∷ vs) h = absurd h
    word-fits (t ∷ ts) [] h = absurd h
    word-fits (t ∷ ts) (v ∷ vs) h =
        let rest = word-fits ts vs h.1 in
        (All-cons (IsPoly (word_space k (degrees_of θ ++ degrees_of Q)) (λ v. v)) v vs h.0.polynomial rest.0, ap suc rest.1)

    pub parts_well_formed : IsWellFormed k c gens
    parts_well_formed = record {
      field = field;
      generators = refl;
      some = parts.generated;
      square = at (λ n. All (IsSquare k n) gens) parts.square;
      variables = at (λ n. 0 < n) parts.some;
      primaries = parts.primaries;
      lifts = at (λ n. ArePolys (marked_space k n (degrees_of θ)) (λ v. v) ls) parts.over.lifts;
      powers = at (λ n. All (λ x. IsPoly (marked_space k n (degrees_of θ)) (λ v. v) x.form) ps) parts.over.forms;
      power_each = sym (length-map ps _) ∙ parts.over.least.count ∙ many;
      secondaries = parts.generators.polynomials;
      evidence = evidence-fits o e parts.generating.source parts.generators.evidence;
      irreducibles = parts.generators.chosen.polynomials;
      words = (word-fits T us parts.generators.chosen.words).0;
      word_each = (word-fits T us parts.generators.chosen.words).1;
    }

    pub parts_made : IsMade k gens c tries
    parts_made = record {
      order = at (λ n. IsOrder k n (cells_of gens) N) parts.order;
      first_primaries = parts.first;
      are_lifts = at (λ n. AreLifts (marked_space k n (degrees_of θ)) n (vectors_of U (λ v. v) θ) (vectors_of U (λ v. v) ls)) parts.over.are_lifts;
      least_powers = at (λ n. AreLeastPowers k n (vectors_of U (λ v. v) θ) (map (λ x. (x.exponent, vector_of U (λ v. v) x.form)) ps)) parts.over.least;
      basis = B;
      standard = standard;
      rank = ranked;
      are_secondaries = parts.generators.secondaries;
      evidence = evidence-is o e parts.generating.source parts.generators.evidence;
      places = parts.generators.chosen.places;
      are_irreducibles = parts.generators.chosen.chosen;
      irreducible = parts.generators.chosen.irreducible;
      are_words = word-at T us parts.generators.chosen.words;
    }

-- over a plain space
pub parts_plain : (S : SpaceOver ℕ) (names : List (List ℕ)) (gens : List (Matrix ℕ)) (tries p N cap : ℕ) (θ : List Terms) (B : List (List ℕ)) (ls : List Terms) (ps : List (Power ℕ)) (fs : List Terms) (o : Option (List (Member ℕ))) (T : List Terms) (e : EvidenceOf ℕ) (Q us : List Terms)
    → IsPlain S → length S.weights ≡ length names → ArePartsOver S gens tries p N cap θ B ls ps fs o T e Q us → ArePartsOver (plain_space S.field (length names)) gens tries p N cap θ B ls ps fs o T e Q us
parts_plain S names gens tries p N cap θ B ls ps fs o T e Q us plain many parts =
    subst (λ V. ArePartsOver V gens tries p N cap θ B ls ps fs o T e Q us) (plain_is S plain ∙ ap (plain_space S.field) many) parts
