use Rattle.std.specs.Prelude.{All}
use Rattle.alg_core.specs.Spaces.{over, entries}
use Rattle.poly_module.specs.SpaceVectors.{ArePolys}
use Rattle.prime_field.specs.PrimeFields.{gfp}
use Rattle.prime_field.specs.declared.gfp.PrimeField.{PrimeField}
use Rattle.test_inputs.specs.Smallness.{IsSmall}
use Rattle.library_tests.proofs.arithmetic.read_all.Given as goal

abbrev pub invariant-loop-text : goal.invariant-loop-text
invariant-loop-text g l =
    let S = over (λ (f : PrimeField). gfp f.p f.listed) g.O.TermOrder.order l.space in
    record {
      images : ArePolys S (λ m. m) l.polynomials.items;
      small : All (λ f. IsSmall (entries (λ m. m) f)) l.polynomials.items;
    }
