use Rattle.std.proofs.Common.{sym, subst}
use Rattle.alg_core.specs.Spaces.{over}
use Rattle.secondary_gens.specs.Combined.{IsCombined}
use Rattle.secondary_gens.specs.Lists.{Each}
use Rattle.invring_app.proofs.PresentLists.{all_present, each_value}
use Rattle.invring_app.proofs.commands.ring.written.combinations.Goals as goal

pub present-requires : goal.present-requires
present-requires g c =
    let S = over g.F.Field.field g.O.TermOrder.order c.args.space.now in
    record { present = all_present (IsCombined S c.args.theta.now c.args.secs.now) c.args.fs.now c.in_ok-found.found.items c.in_ok-found.ensures.each (λ k d h p. p.none (c.requires.over k d h)) }

pub returns : goal.returns
returns g c =
    let S = over g.F.Field.field g.O.TermOrder.order c.args.space.now in
    let P = IsCombined S c.args.theta.now c.args.secs.now in
    record { each = each_value P c.args.fs.now c.in_ok-combinations.combinations.items (subst (Each P c.args.fs.now) (sym c.in_ok-combinations.ensures.are) c.in_ok-found.ensures.each) }
