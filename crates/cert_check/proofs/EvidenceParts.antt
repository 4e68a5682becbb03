-- What is shown of the parts of a certificate holds of those that are handed on.
use Rattle.std.proofs.Common.{◌≡◌, ◌∙◌, ◌++◌, ℕ, List, length, sym, ap, subst}
use Rattle.std.specs.Prelude.{All, Option}
use Rattle.alg_core.specs.Spaces.{SpaceOver}
use Rattle.alg_core.specs.declared.term.Term.{Term}
use Rattle.poly_module.specs.SpaceVectors.{vectors_of}
use Rattle.poly_module.specs.Variables.{variables}
use Rattle.reynolds_op.specs.Averages.{Averaging}
use Rattle.certificate_io.specs.declared.evidence.Image.{Image}
use Rattle.certificate_io.specs.declared.evidence.Line.{Line}
use Rattle.cert_check.specs.Endings.{IsFirstFailing}
use Rattle.cert_check.specs.EvidenceLines.{HasCombinations, IsAveraged, IsLowLine, IsLowMember, IsValued}
use Rattle.cert_check.specs.Parts.{At}
use Rattle.cert_check.specs.SmallPolynomials.{IsSmallPoly}

module _ (S : SpaceOver ℕ) where
  abbrev Polys : Type 0
  Polys = List (List (Term ℕ (List ℕ)))

  pub combinations_at : (θ secs θ' secs' : Polys) → θ' ≡ θ → secs' ≡ secs → HasCombinations S θ secs → HasCombinations S θ' secs'
  combinations_at θ secs θ' secs' p q h = subst (λ ts. HasCombinations S ts secs') (sym p) (subst (HasCombinations S θ) (sym q) h)

  pub lines_at : (θ θ' : Polys) → θ' ≡ θ → (xs : List (Image ℕ)) → All (IsLowLine S (length θ)) xs → All (IsLowLine S (length θ')) xs
  lines_at θ θ' p xs h = subst (λ ts. All (IsLowLine S (length ts)) xs) (sym p) h

  pub firsts_at : (R : Averaging ℕ) (θ secs θ' secs' : Polys) → θ' ≡ θ → secs' ≡ secs → (xs : List (Image ℕ)) (o : Option ℕ)
      → IsFirstFailing (λ j. (x : Image ℕ) → At xs j x → IsAveraged S R θ' secs' x) o → IsFirstFailing (λ j. (x : Image ℕ) → At xs j x → IsAveraged S R θ secs x) o
  firsts_at R θ secs θ' secs' p q xs o h =
      subst (λ ts. IsFirstFailing (λ j. (x : Image ℕ) → At xs j x → IsAveraged S R ts secs x) o) p
      (subst (λ ss. IsFirstFailing (λ j. (x : Image ℕ) → At xs j x → IsAveraged S R θ' ss x) o) q h)

  pub polys_at : (θ θ' : Polys) → θ' ≡ θ → All (IsSmallPoly S) θ → All (IsSmallPoly S) θ'
  polys_at θ θ' p h = subst (All (IsSmallPoly S)) (sym p) h

  pub values_at : (images θ θ' : Polys) → θ' ≡ θ → vectors_of S (λ m. m) images ≡ variables S.field (length S.weights) ++ vectors_of S (λ m. m) θ'
      → vectors_of S (λ m. m) images ≡ variables S.field (length S.weights) ++ vectors_of S (λ m. m) θ
  values_at images θ θ' p h = h ∙ ap (λ ts. variables S.field (length S.weights) ++ vectors_of S (λ m. m) ts) p

  pub members_at : (n : ℕ) (images images' θ θ' : Polys) → images' ≡ images → length images ≡ n → θ' ≡ θ → (ls : List (Line ℕ)) → All (IsLowMember S n (length θ)) ls
      → All (IsLowMember S (length images') (length θ')) ls
  members_at n images images' θ θ' p q r ls h =
      subst (λ (m : ℕ). All (IsLowMember S m (length θ')) ls) (sym (ap length p ∙ q)) (subst (λ ts. All (IsLowMember S n (length ts)) ls) (sym r) h)

  pub values_first_at : (images θ secs images' θ' secs' : Polys) → images' ≡ images → θ' ≡ θ → secs' ≡ secs → (ls : List (Line ℕ)) (o : Option ℕ)
      → IsFirstFailing (λ j. (l : Line ℕ) → At ls j l → IsValued S images' θ' secs' l) o → IsFirstFailing (λ j. (l : Line ℕ) → At ls j l → IsValued S images θ secs l) o
  values_first_at images θ secs images' θ' secs' p q r ls o h =
      subst (λ is. IsFirstFailing (λ j. (l : Line ℕ) → At ls j l → IsValued S is θ secs l) o) p
      (subst (λ ts. IsFirstFailing (λ j. (l : Line ℕ) → At ls j l → IsValued S images' ts secs l) o) q
      (subst (λ ss. IsFirstFailing (λ j. (l : Line ℕ) → At ls j l → IsValued S images' θ' ss l) o) r h))
