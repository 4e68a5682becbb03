use Rattle.matrix_group.proofs.Common.{All, Err, refl, sym, ap, subst, ◌∙◌, arith, IsSquare, size, cells_of, IsWalk}
use Rattle.matrix_group.proofs.GroupLaws.{matrices_invertible, elements_group}
use Rattle.matrix_group.proofs.Turns.{error_same, turn_start, turn_square, turn_more, turn_over, turn_done, first_found, first_over, turns_walk, walk_size}
use Rattle.matrix_group.proofs.Walks.{walk_elements}
use Rattle.matrix_group.proofs.enumeration.enumerate.Goals as goal

pub loop-place-init : goal.loop-place-init
loop-place-init g c =
    let made = c.in_ok-one.ensures in
    let first = first_found (g.F.Field.field c.args.field.now) (size c.args.gens.now) c.args.gens.now c.args.max g.F.Elem.PartialEq.eq c.index-gens-0.result c.in_ok-one.one _ _ refl c.requires.some
    made.matrix made.rows made.cols made.unit c.new-found.ensures.empty c.in_ok-put.ensures.found in
    record { square = first.1; is = first.0; within = c.in_ok-put.ensures.within; reached = omega arith }

pub multiply-requires-clause-left : goal.multiply-requires-clause-left
multiply-requires-clause-left g c =
    (turn_square (g.F.Field.field c.args.field.now) (size c.args.gens.now) c.args.gens.now c.args.max c.loop-place.place c.loop-i.i c.loop-i.found.keys c.index.result.now c.loop-i.invariant
    c.index.ensures).matrix

pub multiply-requires-clause-fit : goal.multiply-requires-clause-fit
multiply-requires-clause-fit g c =
    let square = turn_square (g.F.Field.field c.args.field.now) (size c.args.gens.now) c.args.gens.now c.args.max c.loop-place.place c.loop-i.i c.loop-i.found.keys c.index.result.now c.loop-i.invariant
    c.index.ensures in
    square.cols ∙ sym (ap (λ m. m.rows) c.index-gens-i.is ∙ (c.requires.square c.loop-i.i c.index-gens-i.result c.loop-i-test.true).rows)

pub returns-in_err-put-clause-bound : goal.returns-in_err-put-clause-bound
returns-in_err-put-clause-bound g c = λ counted is.
    let over = c.in_err-put.ensures.bound counted (ap Err (error_same _ _ _ c.from_residual-in_err-put.ensures.1 is)) in
    (over.0, first_over (g.F.Field.field c.args.field.now) (size c.args.gens.now) c.args.gens.now c.args.max g.F.Elem.PartialEq.eq c.in_ok-one.one c.new-found.result.keys c.new-found.ensures.empty over.1)

pub returns-in_err-put-2-clause-bound : goal.returns-in_err-put-2-clause-bound
returns-in_err-put-2-clause-bound g c = λ counted is.
    let over = c.in_err-put-2.ensures.bound counted (ap Err (error_same _ _ _ c.from_residual-in_err-put-2.ensures.1 is)) in
    let made = c.in_ok-product.ensures in (
      over.0,
      turn_over (g.F.Field.field c.args.field.now) (size c.args.gens.now) c.args.gens.now c.args.max g.F.Elem.PartialEq.eq g.met.F.Field.exact c.loop-place.place c.loop-i.i c.loop-i.found.keys c.index.result.now c.index-gens-i.result
          c.in_ok-product.product c.loop-i.invariant c.loop-i-test.true c.index.ensures c.index-gens-i.is c.requires.square made.matrix made.rows made.cols made.product over.1,
    )

pub loop-i-preserved : goal.loop-i-preserved
loop-i-preserved g c =
    let made = c.in_ok-product.ensures in
    turn_more (g.F.Field.field c.args.field.now) (size c.args.gens.now) c.args.gens.now c.args.max g.F.Elem.PartialEq.eq g.met.F.Field.exact c.loop-place.place c.loop-i.i c.loop-i.found.keys c.index.result.now c.index-gens-i.result
    c.in_ok-product.product c.loop-i.invariant c.loop-i-test.true c.index.ensures c.index-gens-i.is c.requires.square made.matrix made.rows made.cols made.product _ c.in_ok-put-2.ensures.found c.in_ok-put-2.ensures.within

pub loop-i-init : goal.loop-i-init
loop-i-init g c =
    let kept = c.loop-place.invariant in
    turn_start (g.F.Field.field c.args.field.now) (size c.args.gens.now) c.args.gens.now c.args.max c.loop-place.place c.loop-place.found.keys kept.square kept.is (let len = c.len.ensures.len in let test = c.loop-place-test.true in omega (arith, len, test)) kept.within

pub loop-place-preserved : goal.loop-place-preserved
loop-place-preserved g c =
    let turn = c.loop-i.invariant in
    record {
      square = turn.square;
      is = turn_done (g.F.Field.field c.args.field.now) (size c.args.gens.now) c.args.gens.now c.args.max c.loop-place.place c.loop-i.i c.loop-i.found.keys turn (omega arith);
      within = turn.within;
      reached = (let below = turn.below in omega (arith, below));
    }

pub returns-clause-walk : goal.returns-clause-walk
returns-clause-walk g c =
    let kept = c.loop-place.invariant in
    let len = c.len.ensures.len in
    let test = c.loop-place-test.false in
    subst (λ ms. IsWalk (g.F.Field.field c.args.field.now) (size c.args.gens.now) (cells_of c.args.gens.now) (cells_of ms)) (sym c.in_ok-group.ensures.is)
    (turns_walk (g.F.Field.field c.args.field.now) (size c.args.gens.now) c.args.gens.now c.args.max c.loop-place.place c.loop-place.found.keys kept.is kept.reached (omega (arith, len, test)))

pub returns-clause-elements : goal.returns-clause-elements
returns-clause-elements g c = walk_elements (g.F.Field.field c.args.field.now) (size c.args.gens.now) (cells_of c.args.gens.now) (cells_of c.in_ok-group.group) (returns-clause-walk g c)

pub returns-clause-group : goal.returns-clause-group
returns-clause-group g c =
    elements_group (g.F.Field.field c.args.field.now) (size c.args.gens.now) (cells_of c.args.gens.now) (cells_of c.in_ok-group.group)
    (matrices_invertible (g.F.Field.field c.args.field.now) (size c.args.gens.now) c.args.gens.now c.requires.square c.requires.invertible) (returns-clause-elements g c)

pub returns-clause-size : goal.returns-clause-size
returns-clause-size g c =
    walk_size (g.F.Field.field c.args.field.now) (size c.args.gens.now) (cells_of c.args.gens.now) c.in_ok-group.group
    (subst (All (IsSquare (g.F.Field.field c.args.field.now) (size c.args.gens.now))) (sym c.in_ok-group.ensures.is) c.loop-place.invariant.square) (returns-clause-walk g c)
