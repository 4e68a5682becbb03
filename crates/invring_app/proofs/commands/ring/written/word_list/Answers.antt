use Rattle.std.proofs.Common.{sym, subst}
use Rattle.alg_core.specs.Spaces.{over}
use Rattle.irreducible_gens.specs.Words.{IsWordOf}
use Rattle.secondary_gens.specs.Lists.{Each}
use Rattle.invring_app.proofs.PresentLists.{all_present, each_value}
use Rattle.invring_app.proofs.commands.ring.written.word_list.Goals as goal

pub present-requires : goal.present-requires
present-requires g c =
    let S = over g.F.Field.field g.O.TermOrder.order c.args.space.now in
    record { present = all_present (IsWordOf S c.args.theta.now c.args.irr.now) c.args.fs.now c.in_ok-found.found.items c.in_ok-found.ensures.each (λ k d h p. p.none (c.requires.inside k d h)) }

pub returns : goal.returns
returns g c =
    let S = over g.F.Field.field g.O.TermOrder.order c.args.space.now in
    let P = IsWordOf S c.args.theta.now c.args.irr.now in
    record { each = each_value P c.args.fs.now c.in_ok-list.list.items (subst (Each P c.args.fs.now) (sym c.in_ok-list.ensures.are) c.in_ok-found.ensures.each) }
