use Rattle.std.proofs.Common.{◌≡◌, ◌∙◌, ap, arith, length, slice_index_or}
use Rattle.alg_core.specs.Fields.{scalars}
use Rattle.lin_algebra.specs.Vectors.{vector}
use Rattle.lin_algebra.specs.Bases.{basis_rows, cleared_at}
use Rattle.lin_algebra.proofs.BasisLaws.{rows_more, clear_more, all_cleared, length_basis_rows}
use Rattle.lin_algebra.proofs.elimination.clear_column.Goals as goal

pub loop-i-preserved : goal.loop-i-preserved
loop-i-preserved g c =
    let k = g.F.Field.field c.args.field.now in
    let n = length c.args.new.now in
    let w = vector k c.args.new.now in
    let init = basis_rows k c.args.basis.now in
    let count : length c.clear_at.new.row ≡ length (slice_index_or c.loop-i.basis c.loop-i.i c.index-basis-i.result).entries.items = let whole = (slice_index_or c.loop-i.basis c.loop-i.i c.index-basis-i.result).entries.ok.0 in omega (arith, whole) in
    record {
      rows = rows_more k n c.args.pivot w init c.loop-i.basis c.loop-i.i c.index-basis-i.result c.clear_at.new.row (omega arith) count c.clear_at.ensures.has c.loop-i.invariant.rows;
      cleared = clear_more k n c.args.pivot w init c.loop-i.basis c.loop-i.i c.index-basis-i.result c.clear_at.new.row (omega arith) count (c.clear_at.ensures.cleared ∙ ap (λ r. cleared_at (scalars k) c.args.pivot w (vector k r)) c.deref_mut.ensures.value) c.loop-i.invariant.cleared;
    }

pub returns-clause-cleared : goal.returns-clause-cleared
returns-clause-cleared g c =
    let k = g.F.Field.field c.args.field.now in
    all_cleared k c.args.pivot (vector k c.args.new.now) (basis_rows k c.args.basis.now) (basis_rows k c.loop-i.basis) c.loop-i.i
    (omega (arith, length_basis_rows k c.args.basis.now, length_basis_rows k c.loop-i.basis)) (omega (arith, length_basis_rows k c.args.basis.now)) c.loop-i.invariant.cleared
