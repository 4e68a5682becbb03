use Rattle.std.proofs.Common.{◌≡◌, ◌<◌, ◌≤◌, length, subst, sym}
use Rattle.std.specs.Prelude.{All, Some}
use Rattle.alg_core.specs.Spaces.{over}
use Rattle.poly_module.specs.SpaceVectors.{vector_of, vectors_of}
use Rattle.secondary_gens.specs.Forms.{IsPositiveForm, unit_weights}
use Rattle.secondary_gens.specs.Lists.{Each}
use Rattle.irreducible_gens.specs.Algebras.{InAlgebra}
use Rattle.irreducible_gens.specs.Irreducibles.{IsIrreducible, members}
use Rattle.irreducible_gens.specs.Words.{IsWordOf}
use Rattle.invring_app.proofs.WritableForms.{generators_positive, generated, generator_vectors, generator_polys}
use Rattle.invring_app.proofs.commands.ring.written.written_parts.Goals as goal

pub word_list-requires-clause-irreducibles : goal.word_list-requires-clause-irreducibles
word_list-requires-clause-irreducibles g c =
    let S = over g.F.Field.field g.O.TermOrder.order c.args.space.now in
    let T = c.args.secondaries.now in
    subst (All (IsPositiveForm S)) (sym c.as_slice-2.ensures.value)
    (generators_positive S c.args.theta.now T c.requires.given.secondaries c.as_slice.result.now c.in_ok-irreducibles.irreducibles.items c.in_ok-irreducibles.ensures.copies
    (subst (All (λ p. (0 < p) × (p ≤ length T))) (sym c.as_slice.ensures.value) c.in_ok-places.ensures.within)
    (subst (λ qs. IsIrreducible S.field (vectors_of S (λ m. m) c.args.theta.now) (unit_weights S) (vectors_of S (λ m. m) T) (members S.field (vectors_of S (λ m. m) T) qs)) (sym c.as_slice.ensures.value) c.in_ok-places.ensures.irreducible))

pub word_list-requires-clause-inside : goal.word_list-requires-clause-inside
word_list-requires-clause-inside g c =
    let S = over g.F.Field.field g.O.TermOrder.order c.args.space.now in
    let T = c.args.secondaries.now in
    subst (λ qs. All (λ f. InAlgebra S.field (vectors_of S (λ m. m) c.args.theta.now) (vectors_of S (λ m. m) qs) (vector_of S (λ m. m) f)) T) (sym c.as_slice-2.ensures.value)
    (generated S c.args.theta.now T c.requires.given.secondaries c.as_slice.result.now c.in_ok-irreducibles.irreducibles.items c.in_ok-irreducibles.ensures.copies
    (subst (All (λ p. (0 < p) × (p ≤ length T))) (sym c.as_slice.ensures.value) c.in_ok-places.ensures.within)
    (subst (λ qs. IsIrreducible S.field (vectors_of S (λ m. m) c.args.theta.now) (unit_weights S) (vectors_of S (λ m. m) T) (members S.field (vectors_of S (λ m. m) T) qs)) (sym c.as_slice.ensures.value) c.in_ok-places.ensures.irreducible)
    T (λ v i. i))

pub returns : goal.returns
returns g c =
    let S = over g.F.Field.field g.O.TermOrder.order c.args.space.now in
    let θ = c.args.theta.now in
    let T = c.args.secondaries.now in
    let ps = c.as_slice.result.now in
    let qs = c.in_ok-irreducibles.irreducibles.items in
    let x = vectors_of S (λ m. m) in
    let small = c.requires.given.secondaries in
    let within = subst (All (λ p. (0 < p) × (p ≤ length T))) (sym c.as_slice.ensures.value) c.in_ok-places.ensures.within in
    let irreducible = subst (λ us. IsIrreducible S.field (x θ) (unit_weights S) (x T) (members S.field (x T) us)) (sym c.as_slice.ensures.value) c.in_ok-places.ensures.irreducible in
    record {
      are = record {
        combinations = c.in_ok-combs.ensures.each;
        chosen = record {
          polynomials = generator_polys S θ T small ps qs c.in_ok-irreducibles.ensures.copies within irreducible;
          places = c.in_ok-places.places.items;
          chosen = c.in_ok-places.ensures.places;
          irreducible = subst (λ us. x qs ≡ members S.field (x T) us) c.as_slice.ensures.value (generator_vectors S θ T small ps qs c.in_ok-irreducibles.ensures.copies within irreducible);
          words = subst (λ rs. Each (λ f w. IsWordOf S θ rs f (Some w)) T c.in_ok-words.words.items) c.as_slice-2.ensures.value c.in_ok-words.ensures.each;
        };
      };
    }
