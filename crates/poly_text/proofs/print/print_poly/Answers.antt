use Rattle.std.proofs.Common.{rules, ◌<◌, sym, subst, []}
use Rattle.alg_core.specs.Spaces.{over}
use Rattle.prime_field.specs.Residues.{lt_of_test}
use Rattle.prime_field.specs.PrimeFields.{gfp}
use Rattle.prime_field.specs.declared.gfp.PrimeField.{PrimeField}
use Rattle.poly_text.proofs.OutputLaws.{printed_at}
use Rattle.poly_text.proofs.CombinationTerms.{fits_all}
use Rattle.poly_text.proofs.print.print_poly.Goals as goal

pub put_poly-requires : goal.put_poly-requires
put_poly-requires g c =
    let S = over (λ (f : PrimeField). gfp f.p f.listed) g.O.TermOrder.order c.args.space.now in
    record { below = fits_all S (λ m. m) (λ t. t.coef < c.characteristic.result) c.args.f.now (λ t is. subst (λ p. t.coef < p) (sym c.characteristic.ensures.is) (lt_of_test _ _ is.has)) c.requires.polynomial.fits }

pub returns : goal.returns
returns g c = record { text = printed_at c.finish.result _ _ (search rules) (c.finish.ensures.is _ (c.put_poly.ensures.is [] c.keeping-output.ensures.nothing)) }
