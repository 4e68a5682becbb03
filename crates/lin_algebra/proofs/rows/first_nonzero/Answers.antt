use Rattle.std.proofs.Common.{◌≡◌, arith}
use Rattle.std.proofs.lemmas.List.Elements.{All-from_get_or}
use Rattle.lin_algebra.proofs.rows.first_nonzero.Goals as goal

pub returns-clause-none : goal.returns-clause-none
returns-clause-none g c =
    let k = g.F.Field.field c.args.field.now in
    All-from_get_or (λ a. a ≡ k.zero) c.args.row.now k.zero (λ i h. c.loop-j.invariant i (omega arith))
