use Rattle.std.proofs.Common.{◌≡◌, ◌∙◌, ◌<◌, get_or, length, map, ap, refl, arith}
use Rattle.alg_core.specs.Spaces.{entries}
use Rattle.poly_module.proofs.MappedTerms.{mapped_all}
use Rattle.syzygy_kernel.specs.GraphVectors.{block_space}
use Rattle.syzygy_kernel.proofs.PlacedTerms.{placed_entry, placed_terms, placed_given, term_wide, term_place}
use Rattle.syzygy_kernel.proofs.generators.part_vector.Goals as goal

pub marks_of-requires : goal.marks_of-requires
marks_of-requires g c =
    let T = block_space g.F.Field.field c.args.graph.now in
    let x = c.index-given-i.result in
    let many = ap length c.terms-given.ensures.is in
    let inside : c.loop-i.i < length c.args.polynomial.now = omega (arith, c.loop-i-test.true) in
    let read : x ≡ get_or c.args.polynomial.now c.loop-i.i x = c.index-given-i.is ∙ ap (λ l. get_or l c.loop-i.i x) c.terms-given.ensures.is in
    record { long = term_wide T.field c.args.n c.args.monomials.now c.args.start (length T.weights) c.args.polynomial.now c.requires.polynomial c.loop-i.i x T inside read }

pub place_near-place-requires-clause-long : goal.place_near-place-requires-clause-long
place_near-place-requires-clause-long g c =
    let T = block_space g.F.Field.field c.args.graph.now in
    let x = c.index-given-i.result in
    let many = ap length c.terms-given.ensures.is in
    let inside : c.loop-i.i < length c.args.polynomial.now = omega (arith, c.loop-i-test.true) in
    let read : x ≡ get_or c.args.polynomial.now c.loop-i.i x = c.index-given-i.is ∙ ap (λ l. get_or l c.loop-i.i x) c.terms-given.ensures.is in
    term_wide T.field c.args.n c.args.monomials.now c.args.start (length T.weights) c.args.polynomial.now c.requires.polynomial c.loop-i.i x T inside read

pub overflow_add-pos : goal.overflow_add-pos
overflow_add-pos g c =
    let T = block_space g.F.Field.field c.args.graph.now in
    let x = c.index-given-i.result in
    let many = ap length c.terms-given.ensures.is in
    let inside : c.loop-i.i < length c.args.polynomial.now = omega (arith, c.loop-i-test.true) in
    let read : x ≡ get_or c.args.polynomial.now c.loop-i.i x = c.index-given-i.is ∙ ap (λ l. get_or l c.loop-i.i x) c.terms-given.ensures.is in
    let low = term_place T.field c.args.n c.args.monomials.now c.args.start (length T.weights) c.args.polynomial.now c.requires.polynomial c.loop-i.i x T inside read in
    let within = c.requires.within in
    let all = c.requires.low in
    let is = c.place_near-place.ensures.is in
    omega arith

pub make-requires : goal.make-requires
make-requires g c =
    let T = block_space g.F.Field.field c.args.graph.now in
    let same : entries (λ m. m) c.as_slice.result.now ≡ map (placed_entry c.args.n c.args.monomials.now c.args.start) (entries (λ m. m) c.args.polynomial.now) =
    mapped_all (λ m. m) (placed_entry c.args.n c.args.monomials.now c.args.start) c.terms-given.result.now c.loop-i.terms.items c.args.polynomial.now c.as_slice.result.now
    c.loop-i.i c.loop-i-test.false c.loop-i.invariant c.terms-given.ensures.is c.as_slice.ensures.value in
    record {
      given = placed_terms T c.args.graph.now.order.first c.args.graph.now.order.weights.items refl c.requires.order c.args.n c.args.monomials.now c.args.start c.requires.within
          c.args.polynomial.now c.as_slice.result.now c.requires.polynomial same;
    }

pub returns : goal.returns
returns g c =
    let T = block_space g.F.Field.field c.args.graph.now in
    let same : entries (λ m. m) c.as_slice.result.now ≡ map (placed_entry c.args.n c.args.monomials.now c.args.start) (entries (λ m. m) c.args.polynomial.now) =
    mapped_all (λ m. m) (placed_entry c.args.n c.args.monomials.now c.args.start) c.terms-given.result.now c.loop-i.terms.items c.args.polynomial.now c.as_slice.result.now
    c.loop-i.i c.loop-i-test.false c.loop-i.invariant c.terms-given.ensures.is c.as_slice.ensures.value in
    record {
      is = placed_given T c.args.graph.now.order.first c.args.graph.now.order.weights.items refl c.requires.order c.args.n c.args.monomials.now c.args.start c.requires.within
          c.args.polynomial.now c.as_slice.result.now c.requires.polynomial same c.in_ok-made.made c.in_ok-made.ensures.sum;
    }
