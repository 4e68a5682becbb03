-- The items of the condition on a kernel.
use Rattle.std.proofs.Common.{◌≡◌, ◌∙◌, ℕ, zero, suc, ◌+◌, ◌<◌, ◌≤◌, List, [], ◌∷◌, ◌++◌, length, map, replicate, refl, sym, ap, subst, arith}
use Rattle.std.specs.Prelude.{◌↔◌, All, IfSome, Option, Some, None}
use Rattle.std.proofs.lemmas.List.{get_or-map, length-append, length-map}
use Rattle.std.proofs.lemmas.List.Elements.{All-append, All-cons, All-map, All-nil, All-weaker}
use Rattle.alg_core.specs.Fields.{FieldOn}
use Rattle.alg_core.specs.PolynomialSpaces.{plain_space}
use Rattle.alg_core.specs.SpaceGrading.{degree, height}
use Rattle.alg_core.specs.Spaces.{SpaceOver}
use Rattle.alg_core.specs.Vectors.{Vect}
use Rattle.alg_core.specs.declared.term.Term.{Term}
use Rattle.poly_module.specs.declared.vector.Comb.{Comb}
use Rattle.poly_module.specs.Combinations.{combination_value}
use Rattle.poly_module.specs.Forms.{AreForms, IsForm, form_homogeneous}
use Rattle.poly_module.specs.Parts.{supp_weaken}
use Rattle.poly_module.specs.SpaceVectors.{ArePolys, IsUpTo, vector_of, vectors_of}
use Rattle.poly_module.specs.Substitutions.{substitute}
use Rattle.poly_module.specs.Variables.{variables, length_variables}
use Rattle.poly_module.proofs.MarkValues.{variables_forms}
use Rattle.lin_algebra.specs.declared.matrix.Matrix.{Matrix}
use Rattle.matrix_group.specs.Actions.{Invariant, IsSquare}
use Rattle.primary_module.specs.PrimaryModules.{IsLowPoly, Primaries}
use Rattle.certificate_io.specs.Certificates.{CertificateOf}
use Rattle.certificate_io.specs.declared.evidence.Line.{Line}
use Rattle.syzygy_kernel.specs.Kernels.{AreKernel}
use Rattle.cert_check.specs.Conditions.{IsValue, K2, MeetsKernel}
use Rattle.cert_check.specs.Endings.{IsFirstFailing, IsGiven, IsMarkedOf, IsModuleOf}
use Rattle.cert_check.specs.EvidenceLines.{IsValued}
use Rattle.cert_check.specs.Parts.{At, size, degrees, members, polynomial, primaries}
use Rattle.cert_check.specs.SmallPolynomials.{IsSmallMember, IsSmallPoly}
use Rattle.cert_check.specs.WellFormed.{combined, marked}
use Rattle.cert_check.proofs.EvidenceGiven.{given_width}
use Rattle.cert_check.proofs.GivenParts.{given_primaries, given_square}
use Rattle.cert_check.proofs.HoldsParts.{all_at}
use Rattle.cert_check.proofs.MadeLists.{one_standard}

forms-each : (k : FieldOn ℕ) (ws : List ℕ) (n : ℕ) (fs : List (Vect k)) → AreForms k ws (replicate n 1) fs → All (IsForm k ws 1) fs
forms-each k ws zero [] h = All-nil (IsForm k ws 1)
forms-each k ws zero (f ∷ fs) h = absurd h
forms-each k ws (suc n) [] h = absurd h
forms-each k ws (suc n) (f ∷ fs) h = All-cons (IsForm k ws 1) f fs h.0 (forms-each k ws n fs h.1)

-- the degrees of the variables
variables-up : (k : FieldOn ℕ) (n : ℕ) → All (IsUpTo (plain_space k n) 4096) (variables k (length {A = ℕ} (replicate n 1)))
unfolding height
variables-up k n = All-weaker (IsForm k (replicate n 1) 1) (IsUpTo (plain_space k n) 4096)
    (λ f h. supp_weaken k (λ t. degree (plain_space k n) t ≡ 1) (λ t. degree (plain_space k n) t ≤ 4096) (λ t e. omega (arith, e)) f (form_homogeneous (plain_space k n) refl 1 f h))
    (variables k (length {A = ℕ} (replicate n 1))) (forms-each k (replicate n 1) n (variables k (length {A = ℕ} (replicate n 1))) (variables_forms k (replicate n 1)))

module _ (S : SpaceOver ℕ) (gens : List (Matrix ℕ)) (c : CertificateOf ℕ) (given : IsGiven S gens c) where
  abbrev k : FieldOn ℕ
  k = S.field

  abbrev Terms : Type 0
  Terms = List (Term ℕ (List ℕ))

  variables-small : All (IsUpTo S 4096) (variables S.field (length S.weights))
  variables-small = subst (λ (T : SpaceOver ℕ). All (IsUpTo T 4096) (variables T.field (length T.weights))) (sym given.space.is) (variables-up k (size c))

  -- the values of the variables and marks
  module _ (images : List Terms) (polys : ArePolys S (λ m. m) images) (are : vectors_of S (λ m. m) images ≡ variables S.field (length S.weights) ++ vectors_of S (λ m. m) c.primaries) where
    pub images_small : All (IsSmallPoly S) images
    images_small i d below = record {
      poly = polys i d below;
      up_to = subst (IsUpTo S 4096) (get_or-map (vector_of S (λ m. m)) images i d (vector_of S (λ m. m) d) below) (ups i (vector_of S (λ m. m) d) (subst (λ n. i < n) (sym (length-map images (vector_of S (λ m. m)))) below));
    }
      where
        thetas : All (IsUpTo S 4096) (vectors_of S (λ m. m) c.primaries)
        thetas = All-map (IsUpTo S 4096) (vector_of S (λ m. m)) c.primaries
            (All-weaker (IsSmallPoly S) (λ p. IsUpTo S 4096 (vector_of S (λ m. m) p)) (λ p h. h.up_to) c.primaries (given_primaries S gens c given))

        ups : All (IsUpTo S 4096) (vectors_of S (λ m. m) images)
        ups = subst (All (IsUpTo S 4096)) (sym are) (All-append (IsUpTo S 4096) (variables k (length S.weights)) (vectors_of S (λ m. m) c.primaries) variables-small thetas)

    pub images_count : length images ≡ size c + length c.primaries
    images_count =
        let a = length-map images (vector_of S (λ m. m)) in
        let b = ap length are in
        let d = length-append (variables k (length S.weights)) (vectors_of S (λ m. m) c.primaries) in
        let e = length_variables k (length S.weights) in
        let f = length-map c.primaries (vector_of S (λ m. m)) in
        let w = given_width S gens c given in
        omega (arith, a, b, d, e, f, w)

    values-are : vectors_of S (λ m. m) images ≡ variables k (size c) ++ primaries k c
    values-are = are ∙ ap (λ (n : ℕ). variables k n ++ vectors_of S (λ m. m) c.primaries) (given_width S gens c given)

    valued : (u : Terms) (o : Option (Comb ℕ)) → IfSome o (λ x. combination_value k (vectors_of S (λ m. m) c.primaries) (vectors_of S (λ m. m) c.secondaries) (vector_of S (λ m. m) x.vector)
        ≡ substitute k (vectors_of S (λ m. m) images) (vector_of S (λ m. m) u)) → IsValue k gens c (substitute k (variables k (size c) ++ primaries k c) (polynomial k u)) o
    valued u None h = tt
    valued u (Some x) h = h ∙ ap (λ fs. substitute k fs (vector_of S (λ m. m) u)) values-are

    value : (u : Terms) (o : Option (Comb ℕ)) → IsValue k gens c (substitute k (variables k (size c) ++ primaries k c) (polynomial k u)) o
        → IfSome o (λ x. combination_value k (vectors_of S (λ m. m) c.primaries) (vectors_of S (λ m. m) c.secondaries) (vector_of S (λ m. m) x.vector)
        ≡ substitute k (vectors_of S (λ m. m) images) (vector_of S (λ m. m) u))
    value u None h = tt
    value u (Some x) h = h ∙ sym (ap (λ fs. substitute k fs (vector_of S (λ m. m) u)) values-are)

  module _ (M : SpaceOver ℕ) (n : ℕ) (ds : List ℕ) (beside : IsMarkedOf c S M n ds) (P : Primaries ℕ) (free : IsModuleOf c S M n ds P) where
    field-is : M.field ≡ S.field
    field-is = ap (λ (T : SpaceOver ℕ). T.field) beside.is

    pub kernel_square : All (IsSquare M.field n) gens
    kernel_square = subst (λ (l : FieldOn ℕ). All (IsSquare l n) gens) (sym field-is) (subst (λ (m : ℕ). All (IsSquare k m) gens) (sym beside.variables) (given_square S gens c given))

    pub kernel_fixed : ((i : ℕ) → K2 S.field gens c i) → All (Invariant M.field gens) (vectors_of M (λ m. m) P.theta)
    kernel_fixed met = subst (All (Invariant M.field gens)) (sym free.theta) (subst (λ (l : FieldOn ℕ). All (Invariant l gens) (map (polynomial l) c.primaries)) (sym field-is)
        (all_at (Invariant k gens) (primaries k c) (λ i f at. (met i f at).1)))

    pub kernel_low : (ls : List (Line ℕ)) → All (IsSmallMember (marked S.field c) (combined S.field c)) ls → All (λ l. IsLowPoly M l.u) ls
    kernel_low ls = All-weaker (IsSmallMember (marked k c) (combined k c)) (λ l. IsLowPoly M l.u) low ls
      where
        here : (u : Terms) → IsSmallPoly (marked k c) u → IsLowPoly (marked k c) u
        here u h = record { poly = h.poly; low = supp_weaken k (λ t. degree (marked k c) t ≤ 4096) (λ t. degree (marked k c) t ≤ 65535) (λ t e. omega (arith, e)) (vector_of (marked k c) (λ m. m) u) h.up_to }

        low : (l : Line ℕ) → IsSmallMember (marked k c) (combined k c) l → IsLowPoly M l.u
        low l h = subst (λ (T : SpaceOver ℕ). IsLowPoly T l.u) (sym beside.is) (here l.u h.polynomial)

    -- the space with marks is that of the certificate
    kernel-same : (ls : List (Line ℕ)) → AreKernel M.field n ds (vectors_of M (λ m. m) P.theta) gens P.monomials (members ls)
        ↔ AreKernel S.field (size c) (degrees c) (primaries S.field c) gens P.monomials (members ls)
    kernel-same ls = over M.field field-is n beside.variables ds beside.degrees (vectors_of M (λ m. m) P.theta) free.theta
      where
        Same : FieldOn ℕ → Type 0
        Same l = (m : ℕ) → m ≡ size c → (es : List ℕ) → es ≡ degrees c → (θ : List (Vect l)) → θ ≡ map (polynomial l) c.primaries
            → AreKernel l m es θ gens P.monomials (members ls) ↔ AreKernel k (size c) (degrees c) (primaries k c) gens P.monomials (members ls)

        base : Same k
        base m e es f θ g = (
          λ h. subst (λ θ'. AreKernel k (size c) (degrees c) θ' gens P.monomials (members ls)) g (subst (λ es'. AreKernel k (size c) es' θ gens P.monomials (members ls)) f
              (subst (λ m'. AreKernel k m' es θ gens P.monomials (members ls)) e h)),
          λ h. subst (λ m'. AreKernel k m' es θ gens P.monomials (members ls)) (sym e) (subst (λ es'. AreKernel k (size c) es' θ gens P.monomials (members ls)) (sym f)
              (subst (λ θ'. AreKernel k (size c) (degrees c) θ' gens P.monomials (members ls)) (sym g) h)),
        )

        over : (l : FieldOn ℕ) → l ≡ k → Same l
        over l e = subst Same (sym e) base

    module _ (ls : List (Line ℕ)) where
      -- the whole list fails
      pub kernel_fails : ¬ AreKernel M.field n ds (vectors_of M (λ m. m) P.theta) gens P.monomials (members ls) → IsFirstFailing (MeetsKernel S.field gens c ls) (Some 0)
      kernel_fails none = (
        λ j h. absurd (omega (arith, h)),
        λ h.
            let w = h.whole refl in
            none ((kernel-same ls).1 (subst (λ B. AreKernel k (size c) (degrees c) (primaries k c) gens B (members ls)) (one_standard k (size c) (primaries k c) w.0 P.monomials w.1 free.monomials) w.2)),
      )

      -- else it fails where a line does
      module _ (kernel : AreKernel M.field n ds (vectors_of M (λ m. m) P.theta) gens P.monomials (members ls)) (images : List Terms) (polys : ArePolys S (λ m. m) images)
          (are : vectors_of S (λ m. m) images ≡ variables S.field (length S.weights) ++ vectors_of S (λ m. m) c.primaries) where
        meets : (j : ℕ) → ((l : Line ℕ) → At ls j l → IsValued S images c.primaries c.secondaries l) → MeetsKernel k gens c ls j
        meets j h = record { whole = λ e. (P.monomials, free.monomials, (kernel-same ls).0 kernel); line = λ l at. valued images polys are l.u l.comb (h l at) }

        pub member_fails : (o : Option ℕ) → IsFirstFailing (λ j. (l : Line ℕ) → At ls j l → IsValued S images c.primaries c.secondaries l) o → IsFirstFailing (MeetsKernel S.field gens c ls) o
        member_fails None h = λ j. meets j (h j)
        member_fails (Some i) h = (λ j low. meets j (h.0 j low), λ m. h.1 (λ l at. value images polys are l.u l.comb (m.line l at)))
