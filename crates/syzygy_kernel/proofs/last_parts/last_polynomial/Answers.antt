use Rattle.std.proofs.Common.{rules, ◌∙◌, ◌+◌, ◌-◌, ◌<◌, get_or, length, take, ap, sym, subst, arith}
use Rattle.poly_module.specs.SpaceVectors.{IsPolyOf, IsVector, IsVectorOf, vector_of}
use Rattle.finite_certificate.specs.MarkSpaces.{mark_space}
use Rattle.syzygy_kernel.specs.Graphs.{graph_space, last_part}
use Rattle.syzygy_kernel.proofs.LastTerms.{AreLast, last_place, last_none, last_skipped, last_kept, last_given}
use Rattle.syzygy_kernel.proofs.last_parts.last_polynomial.Goals as goal
use Rattle.syzygy_kernel.proofs.last_parts.last_polynomial.Goals.{then-term-first+in_ok-mono+in_ok-push, else-term-first}

pub loop-i-init : goal.loop-i-init
loop-i-init g c =
    last_none (mark_space g.F.Field.field c.args.space.now) c.args.space.now.order.vars c.args.space.now.order.weights.items c.args.gens.now c.args.monomials.now
    c.terms-given.result.now c.new-terms.result.items c.new-terms.ensures.items

pub offset_bounds-monomials-place : goal.offset_bounds-monomials-place
offset_bounds-monomials-place g c =
    let S = mark_space g.F.Field.field c.args.space.now in
    let fits : IsVector (graph_space S.field c.args.space.now.order.weights.items (length c.args.gens.now) c.args.monomials.now) (λ m. m) c.terms-given.result.now =
    subst (λ l. IsVector (graph_space S.field c.args.space.now.order.weights.items (length c.args.gens.now) c.args.monomials.now) (λ m. m) l) (sym c.terms-given.ensures.is) c.requires.vector in
    let first = c.requires.first in
    let test = c.if-term-first.true in
    let place = last_place S c.args.space.now.order.vars c.args.space.now.order.weights.items c.args.gens.now c.args.monomials.now
    c.terms-given.result.now c.loop-i.i c.index-given-i.result c.loop-i-test.true c.index-given-i.is fits (omega arith) in
    let within : c.index-given-i.result.at.pos - c.args.first < length c.args.monomials.now = omega arith in
    search rules

pub bounds-monomials-place : goal.bounds-monomials-place
bounds-monomials-place g c =
    let S = mark_space g.F.Field.field c.args.space.now in
    let fits : IsVector (graph_space S.field c.args.space.now.order.weights.items (length c.args.gens.now) c.args.monomials.now) (λ m. m) c.terms-given.result.now =
    subst (λ l. IsVector (graph_space S.field c.args.space.now.order.weights.items (length c.args.gens.now) c.args.monomials.now) (λ m. m) l) (sym c.terms-given.ensures.is) c.requires.vector in
    let first = c.requires.first in
    let test = c.if-term-first.true in
    let place = last_place S c.args.space.now.order.vars c.args.space.now.order.weights.items c.args.gens.now c.args.monomials.now
    c.terms-given.result.now c.loop-i.i c.index-given-i.result c.loop-i-test.true c.index-given-i.is fits (omega arith) in
    omega arith

pub loop-i-preserved : goal.loop-i-preserved
loop-i-preserved g c =
    let S = mark_space g.F.Field.field c.args.space.now in
    let n = c.args.space.now.order.vars in
    let ds = c.args.space.now.order.weights.items in
    let gens = c.args.gens.now in
    let B = c.args.monomials.now in
    let xs = c.terms-given.result.now in
    let made = c.loop-i.terms.items in
    let i = c.loop-i.i in
    let x = c.index-given-i.result in
    let first = c.requires.first in
    elim c.if-term-first.branch [
      | then-term-first+in_ok-mono+in_ok-push w ↦ subst (λ l. AreLast S n ds gens B (take (i + 1) xs) l.items) (sym w.terms-is)
          (last_kept S n ds gens B xs made i x c.loop-i-test.true c.index-given-i.is c.loop-i.invariant c.requires.polynomials c.requires.wide c.requires.weights
          (subst (λ l. IsVector (graph_space S.field ds (length gens) B) (λ m. m) l) (sym c.terms-given.ensures.is) c.requires.vector)
          (let test = w.if-term-first.true in omega arith) w.index-monomials-place.result
          (w.index-monomials-place.is ∙ ap (λ q. get_or B (x.at.pos - q) w.index-monomials-place.result) first)
          w.in_ok-mono.mono (w.in_ok-mono.ensures.is) w.push.new.self.items w.in_ok-push.ensures.items)
      | else-term-first w ↦ subst (λ l. AreLast S n ds gens B (take (i + 1) xs) l.items) (sym w.terms-is)
          (last_skipped S n ds gens B xs made i x c.loop-i-test.true c.index-given-i.is c.loop-i.invariant (let test = w.if-term-first.false in omega arith))
    ]

pub returns : goal.returns
returns g c =
    let S = mark_space g.F.Field.field c.args.space.now in
    let n = c.args.space.now.order.vars in
    let v = c.in_ok-made.made in
    record {
      polynomial = subst (λ l. IsPolyOf S (λ m. m) (last_part S.field n c.args.gens.now c.args.monomials.now (vector_of S (λ m. m) l)) v) c.terms-given.ensures.is
          (last_given S n c.args.space.now.order.weights.items c.args.gens.now c.args.monomials.now c.terms-given.result.now c.loop-i.terms.items c.loop-i.i v c.loop-i-test.false c.loop-i.invariant
          (subst (λ l. IsVectorOf S (λ m. m) (vector_of S (λ m. m) l) v) c.as_slice.ensures.value c.in_ok-made.ensures.sum));
    }
