use Rattle.invariant_space.proofs.Common.{arith}
use Rattle.invariant_space.proofs.EquationLaws.{equation_at}
use Rattle.invariant_space.proofs.equations.equation.Goals as goal

pub returns-clause-equation : goal.returns-clause-equation
returns-clause-equation g c = λ o m ts t f falls images at keys.
    let n = c.loop-l.invariant.count in
    equation_at (g.F.Field.field c.args.field.now) o m ts t f c.args.s c.args.image.now c.loop-l.row.items falls images c.requires.column at (omega (arith, c.loop-l-test.false, c.loop-l.auto.l-end)) c.loop-l.invariant.each keys
