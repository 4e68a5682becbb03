use Rattle.std.proofs.Common.{◌≡◌, ◌+◌, [], map, length, get_or, sym, ap, ◌∙◌, refl, subst, arith}
use Rattle.alg_core.specs.Spaces.{entries}
use Rattle.module_groebner.specs.Progress.{lead_place}
use Rattle.module_groebner.proofs.Families.{length_map}
use Rattle.module_groebner.proofs.CompletionSteps.{mapped_at}
use Rattle.module_groebner.proofs.PairLists.{Made, made_kept, made_more, made_all}
use Rattle.module_groebner.proofs.completion.Completion.pairs_with.Goals.{then-lead_position-position+in_ok-push, else-lead_position-position}
use Rattle.module_groebner.proofs.completion.Completion.pairs_with.Goals as goal

pub loop-i-preserved : goal.loop-i-preserved
loop-i-preserved g c =
    let q = c.args.self.now in
    let r = entries (λ m. m) c.args.vector.now in
    let ms = c.self.inside.members.items in
    let em : map (entries (λ m. m)) ms ≡ q.members = ap (λ r. r.members) c.self.view_is in
    let n = length_map (entries (λ m. m)) ms in
    let e1 = ap length em in
    let x = c.index-member.result.now in
    let at : get_or q.members c.loop-i.i [] ≡ entries (λ m. m) x = mapped_at (entries (λ m. m)) ms q.members c.loop-i.i x [] em (omega arith) c.index-member.ensures in
    let here : (lead_place (get_or q.members c.loop-i.i [])).0 ≡ c.lead_position.result = ap (λ l. (lead_place l).0) at ∙ sym c.lead_position.ensures.is in
    let many : c.len-last.result ≡ length q.members = omega arith in
    elim c.if-lead_position-position.branch [
      | then-lead_position-position+in_ok-push w ↦ subst (λ ps. Made q r (c.loop-i.i + 1) ps.items) (sym w.pairs-is)
          (made_more q r c.loop-i.i c.loop-i.pairs.items _ c.loop-i.i c.len-last.result c.loop-i.invariant w.in_ok-push.ensures.items refl many
          (here ∙ w.if-lead_position-position.true ∙ c.lead_position-position.ensures.is))
      | else-lead_position-position w ↦ subst (λ ps. Made q r (c.loop-i.i + 1) ps.items) (sym w.pairs-is)
          (made_kept q r c.loop-i.i c.loop-i.pairs.items c.loop-i.invariant (λ h. w.if-lead_position-position.false (sym here ∙ h ∙ sym c.lead_position-position.ensures.is)))
    ]

pub returns : goal.returns
returns g c =
    let q = c.args.self.now in
    let ms = c.self.inside.members.items in
    let em : map (entries (λ m. m)) ms ≡ q.members = ap (λ r. r.members) c.self.view_is in
    let n = length_map (entries (λ m. m)) ms in
    let e1 = ap length em in
    record { pairs = made_all q (entries (λ m. m) c.args.vector.now) c.loop-i.i c.loop-i.pairs.items c.loop-i.invariant (omega arith) }
