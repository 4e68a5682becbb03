use Rattle.std.proofs.Common.{subst}
use Rattle.alg_core.specs.Spaces.{over}
use Rattle.poly_module.specs.SpaceVectors.{vector_of, vectors_of}
use Rattle.module_groebner.specs.Interreductions.{IsDividedIn}
use Rattle.module_groebner.proofs.CriterionSteps.{true_of}
use Rattle.module_groebner.proofs.InterreductionSteps.{lead_of, popped_nonzero, popped_fit, pushed_fit, skips, keeps_it}
use Rattle.module_groebner.proofs.interreduction.minimal.Goals as goal

pub is_divided-requires-clause-not_zero : goal.is_divided-requires-clause-not_zero
is_divided-requires-clause-not_zero g c =
    let S = over g.F.Field.field g.O.TermOrder.order c.args.space.now in
    (popped_nonzero S (λ m. m) c.loop-v.falling.items c.pop.new.self.items c.in-Some.v c.in-Some.ensures.items c.loop-v.invariant.1).0

pub loop-v-preserved-in-Continue-1 : goal.loop-v-preserved-in-Continue-1
loop-v-preserved-in-Continue-1 g c =
    let S = over g.F.Field.field g.O.TermOrder.order c.args.space.now in
    let inv = c.loop-v.invariant in
    let v = c.in-Some.v in
    let items = c.in-Some.ensures.items in
    let nonzero = popped_nonzero S (λ m. m) c.loop-v.falling.items c.pop.new.self.items v items inv.1 in
    let fit = popped_fit S (λ m. m) c.loop-v.falling.items c.pop.new.self.items v items inv.0 in
    let lead = lead_of S (vector_of S (λ m. m) v) nonzero.0 in (
      fit.1,
      nonzero.1,
      pushed_fit S (λ m. m) c.loop-v.kept.items c.push.new.self.items v c.in_ok-push.ensures.items inv.2 fit.0,
      keeps_it S (λ m. m) c.args.falling.items c.loop-v.falling.items c.pop.new.self.items c.loop-v.kept.items v items lead.0 lead.1 inv.3 c.requires.positive fit.0 c.push.new.self.items c.in_ok-push.ensures.items
          (subst (λ l. ¬ IsDividedIn S (vectors_of S (λ m. m) l) lead.0) c.deref.ensures.value (c.is_divided.ensures.no c.if-not-is_divided.true lead.0 lead.1)),
    )

pub loop-v-preserved : goal.loop-v-preserved
loop-v-preserved g c =
    let S = over g.F.Field.field g.O.TermOrder.order c.args.space.now in
    let inv = c.loop-v.invariant in
    let v = c.in-Some.v in
    let items = c.in-Some.ensures.items in
    let nonzero = popped_nonzero S (λ m. m) c.loop-v.falling.items c.pop.new.self.items v items inv.1 in
    let fit = popped_fit S (λ m. m) c.loop-v.falling.items c.pop.new.self.items v items inv.0 in
    let lead = lead_of S (vector_of S (λ m. m) v) nonzero.0 in (
      fit.1,
      nonzero.1,
      inv.2,
      skips S (λ m. m) c.args.falling.items c.loop-v.falling.items c.pop.new.self.items c.loop-v.kept.items v items lead.0 lead.1 inv.3 (subst (λ l. IsDividedIn S (vectors_of S (λ m. m) l) lead.0) c.deref.ensures.value (c.is_divided.ensures.yes (true_of c.is_divided.result c.if-not-is_divided.false) lead.0 lead.1)),
    )
