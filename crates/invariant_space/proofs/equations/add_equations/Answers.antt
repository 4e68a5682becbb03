use Rattle.invariant_space.proofs.Common.{◌<◌, ◌≤◌, ◌∙◌, length, arith, scalars, key_order, over, dot, vector, coordinates, Solves}
use Rattle.invariant_space.proofs.EquationLaws.{pushed, solves_pushed, fixed_more, fixed_all}
use Rattle.invariant_space.proofs.equations.add_equations.Goals as goal

pub loop-s-preserved : goal.loop-s-preserved
loop-s-preserved g c =
    let S = over g.F.Field.field g.O.TermOrder.order c.args.space.now in
    let k = g.F.Field.field c.args.space.now.field in
    let n = length c.args.image.now in
    let old = c.loop-s.system in
    let new = c.push_row.new.system in
    let row = c.in_ok-row.row.items in
    let p = pushed k old new c.deref.result.now row n c.loop-s.invariant.matrix c.loop-s.invariant.cols c.in_ok-row.ensures.row c.deref.ensures.value c.in_ok-push_row.ensures.rows c.in_ok-push_row.ensures.cols c.in_ok-push_row.ensures.cells in
    record {
      matrix = p.matrix;
      cols = c.in_ok-push_row.ensures.cols ∙ c.loop-s.invariant.cols;
      fixed = λ d ts m f monomials images keys.
          let many = images.count in
          let low : c.loop-s.s < length ts = omega (arith, c.loop-s-test.true) in
          fixed_more k ts m f c.loop-s.s (Solves k old (coordinates k ts f)) (Solves k new (coordinates k ts f)) (Solves k c.args.system.now (coordinates k ts f)) (dot (scalars k) n (vector k row) (coordinates k ts f)) low
          (solves_pushed k old new row n (coordinates k ts f) p c.loop-s.invariant.cols c.in_ok-push_row.ensures.cols) (λ t at. c.in_ok-row.ensures.equation (key_order S) m ts t f monomials.falls images at keys) (c.loop-s.invariant.fixed d ts m f monomials images keys);
    }

pub returns-clause-fixed : goal.returns-clause-fixed
returns-clause-fixed g c = λ d ts m f monomials square images keys.
    let S = over g.F.Field.field g.O.TermOrder.order c.args.space.now in
    let many = images.count in
    let both = c.loop-s.invariant.fixed d ts m f monomials images keys in
    let done : length ts ≤ c.loop-s.s = omega (arith, c.loop-s-test.false) in
    let all = fixed_all S.field (key_order S) (length S.weights) d ts m f c.loop-s.s monomials square keys done in
    (λ z. let w = both.0 z in (w.0, all.0 w.1), λ z. both.1 (z.0, all.1 z.1))
