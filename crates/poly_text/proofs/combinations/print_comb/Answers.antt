use Rattle.std.proofs.Common.{rules, ◌<◌, ◌+◌, ◌^◌, length, sym, subst, [], List, ℕ, arith}
use Rattle.alg_core.specs.Spaces.{over, entries}
use Rattle.prime_field.specs.Residues.{lt_of_test}
use Rattle.prime_field.specs.PrimeFields.{gfp}
use Rattle.prime_field.specs.declared.gfp.PrimeField.{PrimeField}
use Rattle.poly_text.proofs.OutputLaws.{printed_at}
use Rattle.poly_text.proofs.CombinationTerms.{fits_all, fits_low}
use Rattle.poly_text.proofs.combinations.print_comb.Goals as goal

pub put_comb-requires-clause-below : goal.put_comb-requires-clause-below
put_comb-requires-clause-below g c =
    let S = over (λ (f : PrimeField). gfp f.p f.listed) g.O.TermOrder.order c.args.space.now in
    fits_all S (λ m. m) (λ t. t.coef < c.characteristic.result) c.args.c.now.vector (λ t is. subst (λ p. t.coef < p) (sym c.characteristic.ensures.is) (lt_of_test _ _ is.has)) c.requires.vector

pub put_comb-requires-clause-low : goal.put_comb-requires-clause-low
put_comb-requires-clause-low g c =
    let S = over (λ (f : PrimeField). gfp f.p f.listed) g.O.TermOrder.order c.args.space.now in
    fits_all S (λ m. m) (λ t. t.at.pos + 1 < 2 ^ 64) c.args.c.now.vector (λ t is. omega (arith, is.place.low, c.args.space.now.grading.shifts.ok, c.args.space.now.grading.shifts.small)) c.requires.vector

pub returns : goal.returns
returns g c =
    let S = over (λ (f : PrimeField). gfp f.p f.listed) g.O.TermOrder.order c.args.space.now in
    let es = entries (λ (m : List ℕ). m) c.args.c.now.vector in
    record {
      text = printed_at c.finish.result _ _ (search rules) (c.finish.ensures.is _ (c.put_comb.ensures.is (length S.shifts) (fits_low S es c.requires.vector) [] c.keeping-output.ensures.nothing));
    }
