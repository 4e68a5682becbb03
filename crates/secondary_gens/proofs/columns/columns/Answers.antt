use Rattle.std.proofs.Common.{◌≡◌, ◌<◌, ◌-◌, ◌+◌, [], get_or, length, map, sym, ap, subst, ◌∙◌, arith}
use Rattle.std.proofs.lemmas.List.{length-map}
use Rattle.alg_core.specs.Spaces.{over}
use Rattle.poly_module.specs.SpaceVectors.{vectors_of}
use Rattle.secondary_gens.specs.Columns.{IsColumnPart}
use Rattle.secondary_gens.specs.Forms.{degrees_of}
use Rattle.secondary_gens.proofs.ColumnCalls.{column_polynomials, column_room, column_more, column_skip}
use Rattle.secondary_gens.proofs.ColumnSteps.{part_none, part_end}
use Rattle.secondary_gens.proofs.ProductSteps.{read_map}
use Rattle.secondary_gens.proofs.columns.columns.Goals as goal
use Rattle.secondary_gens.proofs.columns.columns.Goals.{then-degree-d+in_ok-add_columns, else-degree-d}

pub loop-j-init : goal.loop-j-init
loop-j-init g c =
    let S = over g.F.Field.field g.O.TermOrder.order c.args.space.now in
    part_none S (vectors_of S (λ m. m) c.args.theta.now) (degrees_of c.args.theta.now) (vectors_of S (λ m. m) c.args.polynomials.now) (degrees_of c.args.polynomials.now) c.args.d c.new-columns.result.items c.new-columns.ensures.items

pub add_columns-requires-clause-level : goal.add_columns-requires-clause-level
add_columns-requires-clause-level g c =
    let S = over g.F.Field.field g.O.TermOrder.order c.args.space.now in
    let n = get_or c.args.degrees.now c.loop-j.j 0 in
    let degree : n ≡ get_or (degrees_of c.args.polynomials.now) c.loop-j.j 0 = ap (λ l. get_or l c.loop-j.j 0) c.requires.degrees in
    let m = length-map c.extend.new.levels.items (λ v. v.items) in
    let count : c.args.d < length (map (λ v. v.items) c.extend.new.levels.items) = omega (arith, c.in_ok-extend.ensures.count) in
    let at : c.args.d - n < length c.extend.new.levels.items = omega (arith, c.in_ok-extend.ensures.count) in
    column_polynomials S c.args.theta.now c.args.polynomials.now (map (λ v. v.items) c.extend.new.levels.items) c.in_ok-extend.ensures.levels c.args.d count c.requires.degree c.loop-j.j c.loop-j-test.true n degree (omega (arith, c.if-degree-d.true)) c.as_slice-level.result.now (c.as_slice-level.ensures.value ∙ read_map (λ v. v.items) c.extend.new.levels.items (c.args.d - n) c.index.result.now [] at c.index.ensures)

pub add_columns-requires-clause-room : goal.add_columns-requires-clause-room
add_columns-requires-clause-room g c =
    let S = over g.F.Field.field g.O.TermOrder.order c.args.space.now in
    let n = get_or c.args.degrees.now c.loop-j.j 0 in
    let degree : n ≡ get_or (degrees_of c.args.polynomials.now) c.loop-j.j 0 = ap (λ l. get_or l c.loop-j.j 0) c.requires.degrees in
    let m = length-map c.extend.new.levels.items (λ v. v.items) in
    let count : c.args.d < length (map (λ v. v.items) c.extend.new.levels.items) = omega (arith, c.in_ok-extend.ensures.count) in
    let at : c.args.d - n < length c.extend.new.levels.items = omega (arith, c.in_ok-extend.ensures.count) in
    column_room S c.args.theta.now c.args.polynomials.now (map (λ v. v.items) c.extend.new.levels.items) c.in_ok-extend.ensures.levels c.args.d count c.requires.degree c.loop-j.j c.loop-j-test.true n degree (omega (arith, c.if-degree-d.true)) c.as_slice-level.result.now (c.as_slice-level.ensures.value ∙ read_map (λ v. v.items) c.extend.new.levels.items (c.args.d - n) c.index.result.now [] at c.index.ensures) c.index-polynomials-j.result c.index-polynomials-j.is c.requires.forms

pub loop-j-preserved : goal.loop-j-preserved
loop-j-preserved g c =
    let S = over g.F.Field.field g.O.TermOrder.order c.args.space.now in
    let n = get_or c.args.degrees.now c.loop-j.j 0 in
    let degree : n ≡ get_or (degrees_of c.args.polynomials.now) c.loop-j.j 0 = ap (λ l. get_or l c.loop-j.j 0) c.requires.degrees in
    let m = length-map c.extend.new.levels.items (λ v. v.items) in
    let count : c.args.d < length (map (λ v. v.items) c.extend.new.levels.items) = omega (arith, c.in_ok-extend.ensures.count) in
    let x = vectors_of S (λ m. m) in
    elim c.if-degree-d.branch [
      | then-degree-d+in_ok-add_columns w ↦
          let at : c.args.d - n < length c.extend.new.levels.items = omega (arith, c.in_ok-extend.ensures.count) in
          subst (λ v. IsColumnPart S (x c.args.theta.now) (degrees_of c.args.theta.now) (x c.args.polynomials.now) (degrees_of c.args.polynomials.now) c.args.d (c.loop-j.j + 1) v.items) (sym w.columns-is)
          (column_more S c.args.theta.now c.args.polynomials.now (map (λ v. v.items) c.extend.new.levels.items) c.in_ok-extend.ensures.levels c.args.d count c.requires.degree c.loop-j.j c.loop-j-test.true n degree (omega (arith, w.if-degree-d.true)) w.as_slice-level.result.now (w.as_slice-level.ensures.value ∙ read_map (λ v. v.items) c.extend.new.levels.items (c.args.d - n) w.index.result.now [] at w.index.ensures) w.index-polynomials-j.result w.index-polynomials-j.is c.requires.forms
          c.loop-j.columns.items w.add_columns.new.columns.items w.in_ok-add_columns.ensures.polynomials w.in_ok-add_columns.ensures.wide w.in_ok-add_columns.ensures.keys w.in_ok-add_columns.ensures.values c.loop-j.invariant)
      | else-degree-d w ↦
          subst (λ v. IsColumnPart S (x c.args.theta.now) (degrees_of c.args.theta.now) (x c.args.polynomials.now) (degrees_of c.args.polynomials.now) c.args.d (c.loop-j.j + 1) v.items) (sym w.columns-is)
          (column_skip S c.args.theta.now c.args.polynomials.now (map (λ v. v.items) c.extend.new.levels.items) c.in_ok-extend.ensures.levels c.args.d count c.requires.degree c.loop-j.j c.loop-j-test.true n degree (omega (arith, w.if-degree-d.false)) c.loop-j.columns.items c.loop-j.invariant)
    ]

pub returns-clause-columns : goal.returns-clause-columns
returns-clause-columns g c =
    let S = over g.F.Field.field g.O.TermOrder.order c.args.space.now in
    part_end S (vectors_of S (λ m. m) c.args.theta.now) (degrees_of c.args.theta.now) c.args.polynomials.now (degrees_of c.args.polynomials.now) c.args.d c.loop-j.j c.loop-j.columns.items (omega (arith, c.loop-j-test.false, c.loop-j.auto.j-end)) c.loop-j.invariant
