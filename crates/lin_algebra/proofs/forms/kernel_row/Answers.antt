use Rattle.std.proofs.Common.{◌∙◌, ap, arith}
use Rattle.std.specs.Vec.{with_items}
use Rattle.std.proofs.lemmas.List.{with_items_is}
use Rattle.lin_algebra.specs.Vectors.{vector}
use Rattle.lin_algebra.specs.Bases.{basis_rows}
use Rattle.lin_algebra.proofs.FormLaws.{kernel_vector_made}
use Rattle.lin_algebra.proofs.forms.kernel_row.Goals as goal

pub returns-clause-is : goal.returns-clause-is
returns-clause-is g c =
    let k = g.F.Field.field c.args.field.now in
    let row = c.in_ok-row.row in
    let whole = row.ok.0 in
    let once = with_items_is row c.scale.new.row (omega (arith, whole)) in
    let twice = with_items_is (with_items row c.scale.new.row) c.add_at.new.row (omega (arith, whole)) in
    ap (vector k) twice ∙ kernel_vector_made k (basis_rows k c.args.basis.now) c.args.j c.neg.result c.one-2.result (vector k c.add_at.new.row) (vector k c.deref_mut-2.result.now) (vector k c.deref_mut.result.now)
    c.one-2.ensures.is (c.neg.ensures.is ∙ ap k.neg c.one.ensures.is) (ap (vector k) c.deref_mut.ensures.value ∙ c.in_ok-row.ensures.is) (ap (vector k) (c.deref_mut-2.ensures.value ∙ once) ∙ c.scale.ensures.multiple) c.add_at.ensures.sum
