use Rattle.std.proofs.Common.{◌≡◌, ◌++◌, subst}
use Rattle.alg_core.specs.Spaces.{over}
use Rattle.irreducible_gens.proofs.UnitSteps.{all_entries}
use Rattle.irreducible_gens.proofs.ReducibleSteps.{turn_copies, turn_positive}
use Rattle.irreducible_gens.proofs.reducible.other_generators.Goals as goal

pub returns-clause-copies : goal.returns-clause-copies
returns-clause-copies g c =
    let S = over g.F.Field.field g.O.TermOrder.order c.args._space.now in
    let joined = c.in_ok-joined.joined.items in
    turn_copies S c.args.theta.now c.args.irr.now c.args.l c.in_ok-others.others.items joined c.in_ok-others.ensures.copies
    (subst (λ v. all_entries S joined ≡ all_entries S (c.args.theta.now ++ v)) c.as_slice.ensures.value c.in_ok-joined.ensures.copies)

pub returns-clause-positive : goal.returns-clause-positive
returns-clause-positive g c =
    let S = over g.F.Field.field g.O.TermOrder.order c.args._space.now in
    let joined = c.in_ok-joined.joined.items in
    turn_positive S c.args.theta.now c.args.irr.now c.args.l joined
    (turn_copies S c.args.theta.now c.args.irr.now c.args.l c.in_ok-others.others.items joined c.in_ok-others.ensures.copies
    (subst (λ v. all_entries S joined ≡ all_entries S (c.args.theta.now ++ v)) c.as_slice.ensures.value c.in_ok-joined.ensures.copies))
    c.requires.primaries c.requires.irreducibles
