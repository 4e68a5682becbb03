-- The items of the condition on averages.
use Rattle.std.proofs.Common.{◌≡◌, ◌∙◌, ℕ, List, length, refl, sym, ap, subst, arith}
use Rattle.std.specs.Prelude.{Option, Some, None}
use Rattle.std.specs.Int.{◌∣◌}
use Rattle.std.proofs.lemmas.List.{length-map}
use Rattle.alg_core.specs.Fields.{FieldOn}
use Rattle.alg_core.specs.Monomials.{mono}
use Rattle.alg_core.specs.Spaces.{SpaceOver}
use Rattle.poly_module.specs.Polynomials.{single_vector}
use Rattle.lin_algebra.specs.declared.matrix.Matrix.{Matrix}
use Rattle.matrix_group.specs.Groups.{size as rows, cells_of, AreElements, IsOrder}
use Rattle.matrix_group.proofs.OrderLaws.{order_unique}
use Rattle.reynolds_op.specs.Averages.{Averaging, AveragesOn, IsAverage, IsAveraging, IsMatrixGroup, reynolds}
use Rattle.reynolds_op.proofs.AverageLaws.{average_unique}
use Rattle.finite_certificate.specs.StandardMonomials.{AreStandardMonomials}
use Rattle.certificate_io.specs.Certificates.{CertificateOf}
use Rattle.certificate_io.specs.declared.evidence.Image.{Image}
use Rattle.cert_check.specs.Conditions.{MeetsAverages, value_of}
use Rattle.cert_check.specs.Endings.{IsFirstFailing, IsGiven, IsGroupOf}
use Rattle.cert_check.specs.EvidenceLines.{IsAveraged}
use Rattle.cert_check.specs.Parts.{At, size, primaries, monomials}
use Rattle.cert_check.proofs.EvidenceGiven.{given_rows, given_width}
use Rattle.cert_check.proofs.MadeLists.{one_standard}

module _ (S : SpaceOver ℕ) (gens : List (Matrix ℕ)) (c : CertificateOf ℕ) (given : IsGiven S gens c) (gs : List (Matrix ℕ)) (group : IsGroupOf S.field (size c) gens gs) where
  abbrev k : FieldOn ℕ
  k = S.field

  -- the matrices of a group, for its averages
  pub matrix_group : IsMatrixGroup S.field (rows gs) gs
  matrix_group = subst (λ (n : ℕ). IsMatrixGroup k n gs) (sym group.size) (record { square = group.square; group = group.group })

  pub averages_on : (R : Averaging ℕ) → IsAveraging S.field (rows gs) R → R.elements ≡ gs → AveragesOn S R
  averages_on R is e = record {
    averaging = subst (λ (ms : List (Matrix ℕ)). IsAveraging k (rows ms) R) (sym e) is;
    within = let a = ap (λ (ms : List (Matrix ℕ)). rows ms) e in let b = group.size in let d = given_width S gens c given in omega (arith, a, b, d);
  }

  module _ (order : IsOrder S.field (size c) (cells_of gens) c.order) where
    order-is : c.order ≡ length gs
    order-is = order_unique k (size c) (cells_of gens) c.order (length gs) order (cells_of gs, group.elements, length-map gs (λ (m : Matrix ℕ). m.cells.items))

    same-characteristic : k.characteristic ≡ c.characteristic
    same-characteristic = ap (λ (l : FieldOn ℕ). l.characteristic) given.space.field.1

    abbrev Divides : Type 0
    Divides = S.field.characteristic ∣ length gs

    divided : Divides → c.characteristic ∣ c.order
    divided d = subst (λ (p : ℕ). p ∣ c.order) same-characteristic (subst (λ (n : ℕ). k.characteristic ∣ n) (sym order-is) d)

    undivided : c.characteristic ∣ c.order → Divides
    undivided d = subst (λ (n : ℕ). k.characteristic ∣ n) order-is (subst (λ (p : ℕ). p ∣ c.order) (sym same-characteristic) d)

    module _ (xs : List (Image ℕ)) where
      abbrev Meets : ℕ → Type 0
      Meets j = MeetsAverages S.field gens c xs j

      -- the whole list fails
      pub divides_fails : S.field.characteristic ∣ length gs → IsFirstFailing (MeetsAverages S.field gens c xs) (Some 0)
      divides_fails d = (λ j h. absurd (omega (arith, h)), λ h. (h.whole refl).0 (divided d))

      module _ (B : List (List ℕ)) (standard : AreStandardMonomials S.field (size c) (primaries S.field c) B) where
        pub monomials_fail : ¬ (monomials xs ≡ B) → IsFirstFailing (MeetsAverages S.field gens c xs) (Some 0)
        monomials_fail n = (λ j h. absurd (omega (arith, h)), λ h. n (one_standard k (size c) (primaries k c) (monomials xs) B (h.whole refl).1 standard))

        -- else it fails where a line does
        module _ (undivides : ¬ (S.field.characteristic ∣ length gs)) (listed : monomials xs ≡ B) (R : Averaging ℕ) (is : IsAveraging S.field (rows gs) R) (elements : R.elements ≡ gs) where
          average : (x : Image ℕ) → IsAverage k gens (single_vector k (0, mono x.mono)) (reynolds k (rows R.elements) R (single_vector k (0, mono x.mono)))
          average x =
              let sizes : rows gs ≡ rows gens = group.size ∙ sym (given_rows S gens c given) in
              record {
                averaging = R;
                group = subst (λ (n : ℕ). IsAveraging k n R) sizes is;
                generated = subst (λ (ms : List (Matrix ℕ)). AreElements k (rows gens) (cells_of gens) (cells_of ms)) (sym elements)
                    (subst (λ (n : ℕ). AreElements k n (cells_of gens) (cells_of gs)) (sym (given_rows S gens c given)) group.elements);
                is = ap (λ (n : ℕ). reynolds k n R (single_vector k (0, mono x.mono))) (sym sizes ∙ ap (λ (ms : List (Matrix ℕ)). rows ms) (sym elements));
              }

          to-average : (x : Image ℕ) → IsAveraged S R c.primaries c.secondaries x → IsAverage k gens (single_vector k (0, mono x.mono)) (value_of k gens c x.comb)
          to-average x e = subst (IsAverage k gens (single_vector k (0, mono x.mono))) e (average x)

          from-average : (x : Image ℕ) → IsAverage k gens (single_vector k (0, mono x.mono)) (value_of k gens c x.comb) → IsAveraged S R c.primaries c.secondaries x
          from-average x a = average_unique k gens _ _ _ (average x) a

          abbrev Averaged : ℕ → Type 0
          Averaged j = (x : Image ℕ) → At xs j x → IsAveraged S R c.primaries c.secondaries x

          meets : (j : ℕ) → Averaged j → Meets j
          meets j h = record {
            whole = λ e. (λ d. undivides (undivided d), subst (AreStandardMonomials k (size c) (primaries k c)) (sym listed) standard);
            line = λ x at. to-average x (h x at);
          }

          pub line_fails : (o : Option ℕ) → IsFirstFailing (λ j. (x : Image ℕ) → At xs j x → IsAveraged S R c.primaries c.secondaries x) o → IsFirstFailing (MeetsAverages S.field gens c xs) o
          line_fails None h = λ j. meets j (h j)
          line_fails (Some i) h = (λ j l. meets j (h.0 j l), λ m. h.1 (λ x at. from-average x (m.line x at)))
