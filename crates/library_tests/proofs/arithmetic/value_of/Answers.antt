use Rattle.std.proofs.Common.{◌≡◌, ℕ, List, length, sym, ap, subst, arith}
use Rattle.std.specs.Prelude.{All}
use Rattle.alg_core.specs.Spaces.{over, entries}
use Rattle.alg_core.specs.declared.term.Term.{Term}
use Rattle.poly_module.proofs.Factors.{fits_terms}
use Rattle.poly_module.specs.SpaceVectors.{ArePolys}
use Rattle.prime_field.specs.PrimeFields.{gfp}
use Rattle.prime_field.specs.declared.gfp.PrimeField.{PrimeField}
use Rattle.test_inputs.specs.Smallness.{IsSmall}
use Rattle.test_inputs.proofs.SmallEntries.{widths, values}
use Rattle.library_tests.proofs.arithmetic.value_of.Goals as goal

pub substitute-requires-clause-variables : goal.substitute-requires-clause-variables
substitute-requires-clause-variables g c =
    let S = over (λ (f : PrimeField). gfp f.p f.listed) g.O.TermOrder.order c.args.space.now in
    let count : length c.as_slice.result.now ≡ length c.in_ok-images.images.items = ap length c.as_slice.ensures.value in
    record {
      values = λ k d h. (fits_terms S (λ (m : List ℕ). m) c.args.f.now c.requires.polynomial.fits k d h).has;
      wide = λ k d h. let wide = widths (entries (λ m. m) c.args.f.now) c.requires.small k d h in omega (arith, wide, count);
    }

pub substitute-requires-clause-images : goal.substitute-requires-clause-images
substitute-requires-clause-images g c =
    let S = over (λ (f : PrimeField). gfp f.p f.listed) g.O.TermOrder.order c.args.space.now in
    subst (ArePolys S (λ (m : List ℕ). m)) (sym c.as_slice.ensures.value) c.in_ok-images.ensures.images

pub substitute-requires-clause-room : goal.substitute-requires-clause-room
substitute-requires-clause-room g c =
    let small = subst (All (λ (p : List (Term ℕ (List ℕ))). IsSmall (entries (λ m. m) p))) (sym c.as_slice.ensures.value) c.in_ok-images.ensures.small in
    values (entries (λ m. m) c.args.f.now) c.as_slice.result.now c.requires.small small
