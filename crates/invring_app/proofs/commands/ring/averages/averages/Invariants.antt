use Rattle.std.proofs.Common.{◌≡◌, take}
use Rattle.std.specs.Prelude.{All}
use Rattle.alg_core.specs.Monomials.{mono}
use Rattle.alg_core.specs.Spaces.{over}
use Rattle.poly_module.specs.Polynomials.{single_vector}
use Rattle.poly_module.specs.SpaceVectors.{vector_of}
use Rattle.matrix_group.specs.Groups.{size}
use Rattle.reynolds_op.specs.Averages.{reynolds}
use Rattle.secondary_gens.specs.Forms.{IsSmallForm}
use Rattle.secondary_gens.specs.Lists.{Each}
use Rattle.invring_app.proofs.commands.ring.averages.averages.Given as goal

abbrev pub invariant-loop-i : goal.invariant-loop-i
invariant-loop-i g l =
    let S = over g.F.Field.field g.O.TermOrder.order l.space in
    let mean = reynolds S.field (size l.averaging.elements) l.averaging in
    All (IsSmallForm S) l.images.items
    × Each (λ b f. vector_of S (λ m. m) f ≡ mean (single_vector S.field (0, mono b))) (take l.i l.monomials) l.images.items
