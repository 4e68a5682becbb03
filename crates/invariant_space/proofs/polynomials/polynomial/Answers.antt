use Rattle.invariant_space.proofs.Common.{◌≡◌, ◌<◌, ◌∙◌, ap, get_or, length, sym, subst, arith, All, Has, over, place, entries, IsPlace, vector, entry_at, given_at}
use Rattle.invariant_space.proofs.RowSteps.{Row, row_none, row_term, row_made}
use Rattle.invariant_space.proofs.polynomials.polynomial.Goals as goal

pub loop-l-init : goal.loop-l-init
loop-l-init g c = row_none (over g.F.Field.field g.O.TermOrder.order c.args.space.now) c.args.monomials.now (vector (g.F.Field.field c.args.space.now.field) c.args.row.now) c.new-terms.result.items c.new-terms.ensures.items

pub loop-l-preserved : goal.loop-l-preserved
loop-l-preserved g c =
    let S = over g.F.Field.field g.O.TermOrder.order c.args.space.now in
    let cs = c.args.monomials.now in
    let same = c.terms-places.ensures.is in
    let many = ap length same in
    let n = c.requires.row.count in
    let inside : c.loop-l.l < length cs = omega (arith, c.loop-l-test.true) in
    let within : c.loop-l.l < length c.args.row.now = omega (arith, c.loop-l-test.true) in
    let has : Has S.field c.index-row-l.result = subst (Has S.field) (sym c.index-row-l.is) (c.requires.row.has c.loop-l.l c.index-row-l.result within) in
    let x = c.index-places-l.result in
    let read : x ≡ get_or cs c.loop-l.l x = c.index-places-l.is ∙ ap (λ l. get_or l c.loop-l.l x) same in
    row_term S cs c.args.row.now c.loop-l.l x c.index-row-l.result c.in_ok-at.at c.loop-l.terms.items c.push.new.self.items inside read within c.index-row-l.is has
    (entry_at S (λ m. m) cs c.loop-l.l x inside read c.requires.monomials.fits).place (given_at S (λ m. m) (λ e. e.0.0 ≡ 0) cs c.loop-l.l x inside read c.requires.monomials.position)
    (c.in_ok-at.ensures.is ∙ ap (λ y. place (λ m. m) y.at) (sym c.index-places-l.is)) c.in_ok-push.ensures.items c.loop-l.invariant

pub make-requires : goal.make-requires
make-requires g c =
    let S = over g.F.Field.field g.O.TermOrder.order c.args.space.now in
    record { given = subst (λ l. All (λ e. Has S.field e.1 × IsPlace S e.0) (entries (λ m. m) l)) (sym c.as_slice.ensures.value) c.loop-l.invariant.given }

pub returns : goal.returns
returns g c =
    let S = over g.F.Field.field g.O.TermOrder.order c.args.space.now in
    let many = ap length c.terms-places.ensures.is in
    record {
      polynomial = row_made S c.args.monomials.now (vector S.field c.args.row.now) c.loop-l.l c.as_slice.result.now c.in_ok-made.made (omega (arith, c.loop-l-test.false))
          (subst (Row S c.args.monomials.now (vector S.field c.args.row.now) c.loop-l.l) (sym c.as_slice.ensures.value) c.loop-l.invariant) c.in_ok-made.ensures.sum;
    }
