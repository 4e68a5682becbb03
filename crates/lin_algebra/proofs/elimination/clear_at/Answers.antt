use Rattle.std.proofs.Common.{rules}
use Rattle.lin_algebra.proofs.BasisLaws.{cleared_by_zero, cleared_by_sum}
use Rattle.lin_algebra.proofs.elimination.clear_at.Goals as goal

pub returns-then-not-is_zero-clause-cleared : goal.returns-then-not-is_zero-clause-cleared
returns-then-not-is_zero-clause-cleared g c = cleared_by_sum (g.F.Field.field c.args.field.now) c.args.row.now c.args.by.now c.add_multiple.new.row c.args.column c.index-row-column.result c.neg-factor.result c.requires.column c.requires.row_has c.index-row-column.is c.neg-factor.ensures.is c.add_multiple.ensures.sum

pub returns-else-not-is_zero-clause-cleared : goal.returns-else-not-is_zero-clause-cleared
returns-else-not-is_zero-clause-cleared g c = cleared_by_zero (g.F.Field.field c.args.field.now) c.args.row.now c.args.by.now c.args.column c.index-row-column.result c.neg-factor.result c.requires.column c.requires.row_has c.index-row-column.is c.neg-factor.ensures.is (c.is_zero.ensures.yes (search rules))
