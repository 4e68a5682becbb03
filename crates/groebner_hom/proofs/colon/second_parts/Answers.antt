use Rattle.std.proofs.Common.{◌+◌, take, sym, subst}
use Rattle.alg_core.specs.Spaces.{over}
use Rattle.poly_module.specs.SpaceVectors.{IsVector}
use Rattle.groebner_hom.specs.Colons.{colon_space}
use Rattle.groebner_hom.proofs.ColonGenerators.{all_at}
use Rattle.groebner_hom.proofs.SecondParts.{AreParts, no_parts, part_yes, part_no, all_parts, not_true}
use Rattle.groebner_hom.proofs.colon.second_parts.Goals as goal
use Rattle.groebner_hom.proofs.colon.second_parts.Goals.{then-is_second+in_ok-second_part+in_ok-push, else-is_second}

pub loop-i-init : goal.loop-i-init
loop-i-init g c = no_parts (over g.F.Field.field g.O.TermOrder.order c.args.space.now) c.args.basis.now c.new-parts.result.items c.new-parts.ensures.items

pub loop-i-preserved : goal.loop-i-preserved
loop-i-preserved g c =
    let S = over g.F.Field.field g.O.TermOrder.order c.args.space.now in
    let vs = c.args.basis.now in
    let hs = c.loop-i.parts.items in
    let i = c.loop-i.i in
    let v = c.index-basis-i.result in
    elim c.if-is_second.branch [
      | then-is_second+in_ok-second_part+in_ok-push w ↦ subst (λ l. AreParts S (take (i + 1) vs) l.items) (sym w.parts-is)
          (part_yes S vs hs v i c.loop-i-test.true c.index-basis-i.is c.loop-i.invariant w.push.new.self.items w.in_ok-second_part.field-0 w.in_ok-push.ensures.items (c.is_second.ensures.exact.0 w.if-is_second.true)
          w.in_ok-second_part.ensures.polynomial w.in_ok-second_part.ensures.lifted)
      | else-is_second w ↦ subst (λ l. AreParts S (take (i + 1) vs) l.items) (sym w.parts-is)
          (part_no S vs hs v i c.loop-i-test.true c.index-basis-i.is c.loop-i.invariant c.requires.pairs.0
          (all_at (IsVector (colon_space S c.requires.pairs.0) (λ m. m)) vs i v c.requires.pairs.1 c.loop-i-test.true c.index-basis-i.is)
          (λ h. not_true c.is_second.result w.if-is_second.false (c.is_second.ensures.exact.1 h)))
    ]

pub returns : goal.returns
returns g c =
    let h = all_parts (over g.F.Field.field g.O.TermOrder.order c.args.space.now) c.args.basis.now c.loop-i.parts.items c.loop-i.i c.loop-i-test.false c.loop-i.invariant in
    record { polynomials = h.polys; exact = h.second }
