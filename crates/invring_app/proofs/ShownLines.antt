-- The lines of the invariants of a certificate, in the space and with the names that the program makes.
use Rattle.std.proofs.Common.{◌≡◌, ◌∙◌, ℕ, List, ◌++◌, length, map, refl, sym, ap, subst}
use Rattle.std.specs.Prelude.{All, codes}
use Rattle.std.proofs.lemmas.List.Elements.{All-weaker}
use Rattle.alg_core.specs.Fields.{FieldOn}
use Rattle.alg_core.specs.PolynomialSpaces.{plain_space}
use Rattle.alg_core.specs.Spaces.{SpaceOver, entries}
use Rattle.alg_core.specs.declared.term.Term.{Term}
use Rattle.poly_module.specs.SpaceVectors.{IsPoly, ArePolys}
use Rattle.prime_field.specs.ListedPrimes.{is_listed}
use Rattle.prime_field.specs.PrimeFields.{IsPrimeField}
use Rattle.certificate_io.specs.Certificates.{CertificateOf}
use Rattle.certificate_io.specs.Conditions.{IsPolynomialIn, plain}
use Rattle.certificate_io.specs.Spaces.{field_at, plain_names}
use Rattle.cert_check.proofs.GivenParts.{field_is}
use Rattle.invring_app.specs.Commands.Checks.{shown_line, shown_text}
use Rattle.invring_app.specs.Lines.{listed_line}

abbrev Terms : Type 0
Terms = List (Term ℕ (List ℕ))

module _ (c : CertificateOf ℕ) (S : SpaceOver ℕ) (k : FieldOn ℕ) (n : ℕ) (field : IsPrimeField c.characteristic k) (many : n ≡ length c.names) (is : S ≡ plain_space k n) where
  pub shown_space : S ≡ plain c
  shown_space =
      let same : k ≡ field_at c.characteristic = field.1 ∙ sym (field_is c.characteristic (is_listed c.characteristic) refl field.0) in
      is ∙ ap (λ (l : FieldOn ℕ). plain_space l n) same ∙ ap (plain_space (field_at c.characteristic)) many

  pub shown_polys : (fs gs : List Terms) → fs ≡ gs → All (IsPolynomialIn (plain c) (plain_names c.names)) gs → ArePolys S (λ m. m) fs
  shown_polys fs gs same all =
      subst (λ T. ArePolys T (λ m. m) fs) (sym shown_space)
      (subst (ArePolys (plain c) (λ m. m)) (sym same) (All-weaker (IsPolynomialIn (plain c) (plain_names c.names)) (IsPoly (plain c) (λ m. m)) (λ f h. h.0) gs all))

  pub line_shown : (title : List ℕ) (fs gs : List Terms) (text : List ℕ) → fs ≡ gs → text ≡ listed_line title S (plain_names c.names) (map (entries (λ m. m)) fs)
      → text ≡ shown_line title c gs
  line_shown title fs gs text same e =
      e ∙ ap (λ T. listed_line title T (plain_names c.names) (map (entries (λ m. m)) fs)) shown_space
      ∙ ap (λ (hs : List Terms). shown_line title c hs) same

pub lines_shown : (c : CertificateOf ℕ) (p s i t u : List ℕ) → p ≡ shown_line (codes "P=") c c.primaries → s ≡ shown_line (codes "S=") c c.secondaries
    → i ≡ shown_line (codes "IS=") c c.irreducibles → t ≡ p ++ s → u ≡ t ++ i → u ≡ shown_text c
lines_shown c p s i t u a b d e f =
    f ∙ ap (λ (x : List ℕ). x ++ i) (e ∙ ap (λ (x : List ℕ). x ++ s) a ∙ ap (λ (x : List ℕ). shown_line (codes "P=") c c.primaries ++ x) b)
    ∙ ap (λ (x : List ℕ). (shown_line (codes "P=") c c.primaries ++ shown_line (codes "S=") c c.secondaries) ++ x) d
