use Rattle.matrix_group.proofs.Common.{sym, ◌∙◌}
use Rattle.matrix_group.proofs.invariance.is_fixed.Goals as goal

pub returns : goal.returns
returns g c =
    let is = c.in_ok-image.ensures.image.is in
    record { exact = (λ t. sym is ∙ c.are_equal.ensures.exact.0 t, λ e. c.are_equal.ensures.exact.1 (is ∙ e)) }
