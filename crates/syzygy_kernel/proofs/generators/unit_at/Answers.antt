use Rattle.std.proofs.Common.{◌∙◌}
use Rattle.syzygy_kernel.specs.GraphVectors.{block_space}
use Rattle.syzygy_kernel.proofs.GraphUnits.{unit_given}
use Rattle.syzygy_kernel.proofs.generators.unit_at.Goals as goal

pub returns : goal.returns
returns g c =
    record {
      is = unit_given (block_space g.F.Field.field c.args.graph.now) c.args.pos c.one-coef.result c.in_ok-mono.mono c.len.result c.in_ok-unit.unit c.one-coef.ensures.is
          (c.in_ok-mono.ensures.is ∙ c.as_slice.ensures.value ∙ c.in_ok-zeros.ensures.items_if_clones_equal (λ y h. h)) c.in_ok-unit.ensures.sum;
    }
