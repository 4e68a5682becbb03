use Rattle.std.proofs.Common.{◌≡◌, ◌∙◌, ℕ, List, ◌++◌, length, map, ap, subst, arith}
use Rattle.std.specs.Prelude.{codes}
use Rattle.alg_core.specs.DpOrder.{dp_order}
use Rattle.alg_core.specs.Spaces.{over, entries}
use Rattle.alg_core.specs.declared.term.Term.{Term}
use Rattle.alg_core.specs.declared.dp.Dp.{Dp}
use Rattle.prime_field.specs.PrimeFields.{gfp, IsPrimeField}
use Rattle.prime_field.specs.declared.gfp.PrimeField.{PrimeField}
use Rattle.certificate_io.specs.Certificates.{CertificateOf}
use Rattle.certificate_io.specs.Spaces.{plain_names}
use Rattle.invring_app.specs.Lines.{listed_line}
use Rattle.invring_app.proofs.ShownLines.{shown_polys, line_shown, lines_shown}
use Rattle.invring_app.proofs.commands.show.shown.Goals as goal

pub listed_line-requires-clause-polynomials : goal.listed_line-requires-clause-polynomials
listed_line-requires-clause-polynomials c =
    let v = c.cert.view_is in
    let k = gfp c.field_of-field.result.p c.field_of-field.result.listed in
    let field : IsPrimeField c.args.cert.characteristic k = subst (λ (p : ℕ). IsPrimeField p k) (ap (λ (x : CertificateOf ℕ). x.characteristic) v) c.field_of-field.ensures.is in
    let whole = c.cert.inside.names.ok.0 in
    let names : length c.cert.inside.names.items ≡ length c.args.cert.names = ap (λ (x : CertificateOf ℕ). length x.names) v in
    let many : c.len-variables.result ≡ length c.args.cert.names = omega (arith, whole, names, c.len-variables.ensures) in
    shown_polys c.args.cert _ k c.len-variables.result field many c.in_ok-space.ensures.is c.deref.result.now c.args.cert.primaries
    (c.deref.ensures.value ∙ ap (λ (x : CertificateOf ℕ). x.primaries) v) c.requires.certificate.primaries.1

pub listed_line-requires-2-clause-polynomials : goal.listed_line-requires-2-clause-polynomials
listed_line-requires-2-clause-polynomials c =
    let v = c.cert.view_is in
    let k = gfp c.field_of-field.result.p c.field_of-field.result.listed in
    let field : IsPrimeField c.args.cert.characteristic k = subst (λ (p : ℕ). IsPrimeField p k) (ap (λ (x : CertificateOf ℕ). x.characteristic) v) c.field_of-field.ensures.is in
    let whole = c.cert.inside.names.ok.0 in
    let names : length c.cert.inside.names.items ≡ length c.args.cert.names = ap (λ (x : CertificateOf ℕ). length x.names) v in
    let many : c.len-variables.result ≡ length c.args.cert.names = omega (arith, whole, names, c.len-variables.ensures) in
    shown_polys c.args.cert _ k c.len-variables.result field many c.in_ok-space.ensures.is c.deref-2.result.now c.args.cert.secondaries
    (c.deref-2.ensures.value ∙ ap (λ (x : CertificateOf ℕ). x.secondaries) v) c.requires.certificate.secondaries.1

pub listed_line-requires-3-clause-polynomials : goal.listed_line-requires-3-clause-polynomials
listed_line-requires-3-clause-polynomials c =
    let v = c.cert.view_is in
    let k = gfp c.field_of-field.result.p c.field_of-field.result.listed in
    let field : IsPrimeField c.args.cert.characteristic k = subst (λ (p : ℕ). IsPrimeField p k) (ap (λ (x : CertificateOf ℕ). x.characteristic) v) c.field_of-field.ensures.is in
    let whole = c.cert.inside.names.ok.0 in
    let names : length c.cert.inside.names.items ≡ length c.args.cert.names = ap (λ (x : CertificateOf ℕ). length x.names) v in
    let many : c.len-variables.result ≡ length c.args.cert.names = omega (arith, whole, names, c.len-variables.ensures) in
    shown_polys c.args.cert _ k c.len-variables.result field many c.in_ok-space.ensures.is c.deref-4.result.now c.args.cert.irreducibles
    (c.deref-4.ensures.value ∙ ap (λ (x : CertificateOf ℕ). x.irreducibles) v) c.requires.certificate.irreducibles

pub returns : goal.returns
returns c =
    let v = c.cert.view_is in
    let k = gfp c.field_of-field.result.p c.field_of-field.result.listed in
    let field : IsPrimeField c.args.cert.characteristic k = subst (λ (p : ℕ). IsPrimeField p k) (ap (λ (x : CertificateOf ℕ). x.characteristic) v) c.field_of-field.ensures.is in
    let whole = c.cert.inside.names.ok.0 in
    let names : length c.cert.inside.names.items ≡ length c.args.cert.names = ap (λ (x : CertificateOf ℕ). length x.names) v in
    let many : c.len-variables.result ≡ length c.args.cert.names = omega (arith, whole, names, c.len-variables.ensures) in
    let S = over (λ (f : PrimeField). gfp f.p f.listed) (λ (o : Dp). dp_order o.weights.items) c.in_ok-space.space in
    let shown = line_shown c.args.cert S k c.len-variables.result field many c.in_ok-space.ensures.is in
    let named : (title : List ℕ) (fs : List (List (Term ℕ (List ℕ)))) → listed_line title S (plain_names c.cert.inside.names.items) (map (entries (λ (m : List ℕ). m)) fs) ≡ listed_line title S (plain_names c.args.cert.names) (map (entries (λ (m : List ℕ). m)) fs) =
    λ title fs. ap (λ (x : CertificateOf ℕ). listed_line title S (plain_names x.names) (map (entries (λ (m : List ℕ). m)) fs)) v in
    record {
      text =
          lines_shown c.args.cert c.in_ok-text.text.items c.in_ok-secondaries.secondaries.items c.in_ok-irreducibles.irreducibles.items c.extend_from_slice.new.self.items c.extend_from_slice-2.new.self.items
          (shown (codes "P=") c.deref.result.now c.args.cert.primaries _ (c.deref.ensures.value ∙ ap (λ (x : CertificateOf ℕ). x.primaries) v) (c.in_ok-text.ensures.text ∙ named (codes "P=") c.deref.result.now))
          (shown (codes "S=") c.deref-2.result.now c.args.cert.secondaries _ (c.deref-2.ensures.value ∙ ap (λ (x : CertificateOf ℕ). x.secondaries) v) (c.in_ok-secondaries.ensures.text ∙ named (codes "S=") c.deref-2.result.now))
          (shown (codes "IS=") c.deref-4.result.now c.args.cert.irreducibles _ (c.deref-4.ensures.value ∙ ap (λ (x : CertificateOf ℕ). x.irreducibles) v) (c.in_ok-irreducibles.ensures.text ∙ named (codes "IS=") c.deref-4.result.now))
          (c.in_ok-extend_from_slice.ensures.items ∙ ap (λ t. c.in_ok-text.text.items ++ t) c.deref-3.ensures.value)
          (c.in_ok-extend_from_slice-2.ensures.items ∙ ap (λ t. c.extend_from_slice.new.self.items ++ t) c.deref-5.ensures.value);
    }
