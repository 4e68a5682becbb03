use Rattle.invariant_space.proofs.Common.{◌<◌, ◌∙◌, ap, length, subst, sym, arith, Vec, Global, IsRow, vector}
use Rattle.invariant_space.proofs.EquationLaws.{entry_same, entry_other}
use Rattle.invariant_space.proofs.Places.{read_twice}
use Rattle.invariant_space.proofs.equations.difference.Goals as goal

pub returns-then-l-s-clause-is : goal.returns-then-l-s-clause-is
returns-then-l-s-clause-is g c = λ r e.
    let k = g.F.Field.field c.args.field.now in
    let x = c.index-image-l.result in
    let row = subst (λ (x : Vec g.row.F-Elem.Denot Global). IsRow k (length c.args.image.now) x.items) (sym c.index-image-l.is) (c.requires.rows c.args.l x c.requires.row) in
    let n = row.count in
    let low : c.args.s < length x.items = omega (arith, c.requires.column) in
    entry_same k c.args.s c.args.l x.items c.index-entry.result.now c.one.result c.neg.result c.add.result row.has low c.index-entry.ensures c.if-l-s.true c.one.ensures.is c.neg.ensures.is c.add.ensures.is
    ∙ ap (λ (x : Vec g.row.F-Elem.Denot Global). vector k x.items c.args.s) (read_twice c.args.image.now c.args.l x r c.requires.row c.index-image-l.is e)

pub returns-else-l-s-clause-is : goal.returns-else-l-s-clause-is
returns-else-l-s-clause-is g c = λ r e.
    let k = g.F.Field.field c.args.field.now in
    let x = c.index-image-l.result in
    let row = subst (λ (x : Vec g.row.F-Elem.Denot Global). IsRow k (length c.args.image.now) x.items) (sym c.index-image-l.is) (c.requires.rows c.args.l x c.requires.row) in
    let n = row.count in
    let low : c.args.s < length x.items = omega (arith, c.requires.column) in
    entry_other k c.args.s c.args.l x.items c.index-entry.result.now low c.index-entry.ensures c.if-l-s.false
    ∙ ap (λ (x : Vec g.row.F-Elem.Denot Global). vector k x.items c.args.s) (read_twice c.args.image.now c.args.l x r c.requires.row c.index-image-l.is e)
