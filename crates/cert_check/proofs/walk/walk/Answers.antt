use Rattle.std.proofs.Common.{◌∙◌, refl, map, ap, subst}
use Rattle.std.specs.Prelude.{IfOk}
use Rattle.prime_field.specs.PrimeFields.{gfp, IsPrimeField}
use Rattle.certificate_io.specs.Certificates.{matrix_of}
use Rattle.cert_check.proofs.CheckSpaces.{plain_of}
use Rattle.cert_check.proofs.CheckedWalk.{given_start}
use Rattle.cert_check.proofs.walk.walk.Goals as goal

pub walk_over-requires-clause-given : goal.walk_over-requires-clause-given
walk_over-requires-clause-given c =
    given_start (plain_of c.in_ok-space.space) _ _ c.cert.inside.characteristic _ c.args.cert.now _ c.cert.view_is c.requires.certificate refl
    (subst (λ r. IfOk r (λ f. IsPrimeField c.cert.inside.characteristic (gfp f.p f.listed))) c.unwrap-field.ensures c.new.ensures.field)
    (c.len.ensures ∙ c.cert.inside.names.ok.0) c.in_ok-space.ensures.is (ap (map matrix_of) c.as_slice.ensures.value)
