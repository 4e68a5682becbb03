use Rattle.std.proofs.Common.{ℕ, List}
use Rattle.alg_core.specs.Spaces.{over, entries}
use Rattle.alg_core.specs.declared.term.Term.{Term}
use Rattle.poly_module.specs.SpaceVectors.{IsPoly}
use Rattle.prime_field.specs.PrimeFields.{gfp}
use Rattle.prime_field.specs.declared.gfp.PrimeField.{PrimeField}
use Rattle.test_inputs.specs.Smallness.{IsSmall}
use Rattle.test_inputs.proofs.SmallEntries.{all_added}
use Rattle.library_tests.proofs.arithmetic.read_all.Goals as goal

pub loop-text-preserved : goal.loop-text-preserved
loop-text-preserved g c =
    let S = over (λ (f : PrimeField). gfp f.p f.listed) g.O.TermOrder.order c.args.space.now in
    let old = c.loop-text.polynomials.items in
    record {
      images = all_added (IsPoly S (λ (m : List ℕ). m)) old _ _ c.in_ok-push.ensures.items c.loop-text.invariant.images c.in_ok-read.ensures.polynomial;
      small = all_added (λ (p : List (Term ℕ (List ℕ))). IsSmall (entries (λ m. m) p)) old _ _ c.in_ok-push.ensures.items c.loop-text.invariant.small c.in_ok-read.ensures.small;
    }
