use Rattle.std.proofs.Common.{ℕ, List, sym, subst}
use Rattle.std.specs.Prelude.{All}
use Rattle.alg_core.specs.Fields.{Has}
use Rattle.alg_core.specs.Spaces.{over, entry, entries, IsPlace}
use Rattle.poly_module.proofs.CheckedEntries.{all_pushed}
use Rattle.algebra_tests.proofs.forms.polynomial.Goals as goal

pub loop-summand-preserved : goal.loop-summand-preserved
loop-summand-preserved g c =
    let S = over g.F.Field.field g.O.TermOrder.order c.args.space.now in
    all_pushed (entry (λ m. m)) (λ e. Has S.field e.1 × IsPlace S e.0) _ _ _ c.in_ok-push.ensures.items c.loop-summand.invariant (c.in_ok-term.ensures.has, c.in_ok-term.ensures.place)

pub make-requires : goal.make-requires
make-requires g c =
    let S = over g.F.Field.field g.O.TermOrder.order c.args.space.now in
    record { given = subst (λ l. All (λ e. Has S.field e.1 × IsPlace S e.0) (entries (λ (m : List ℕ). m) l)) (sym c.as_slice.ensures.value) c.loop-summand.invariant }
