use Rattle.std.proofs.Common.{◌≡◌, ◌∙◌, ◌+◌, ℕ, List, take, sym, ap, subst}
use Rattle.std.proofs.lemmas.List.{take_all}
use Rattle.alg_core.specs.Spaces.{entries}
use Rattle.cert_check.specs.CombinationParts.{at_position}
use Rattle.cert_check.proofs.CombinationSums.{part_none, part_kept, part_left}
use Rattle.cert_check.proofs.combinations.part_at.Goals as goal
use Rattle.cert_check.proofs.combinations.part_at.Goals.{then-t-j+in_ok-mono+in_ok-push, else-t-j}

pub loop-i-init : goal.loop-i-init
loop-i-init c = part_none c.args.j c.new-found.result.items c.new-found.ensures.items

pub loop-i-preserved : goal.loop-i-preserved
loop-i-preserved c =
    let j = c.args.j in
    let xs = c.args.terms.now in
    let i = c.loop-i.i in
    let x = c.index-terms-i.result in
    elim c.if-t-j.branch [
      | then-t-j+in_ok-mono+in_ok-push w ↦ subst (λ l. entries (λ m. m) l.items ≡ at_position j (entries (λ m. m) (take (i + 1) xs))) (sym w.found-is)
          (part_kept j xs c.loop-i.found.items w.push.new.self.items i x _ c.loop-i-test.true c.index-terms-i.is w.if-t-j.true
          (ap (λ (m : List ℕ). ((0, m), x.coef)) w.in_ok-mono.ensures.ok) w.in_ok-push.ensures.items c.loop-i.invariant)
      | else-t-j w ↦ subst (λ l. entries (λ m. m) l.items ≡ at_position j (entries (λ m. m) (take (i + 1) xs))) (sym w.found-is)
          (part_left j xs c.loop-i.found.items i x c.loop-i-test.true c.index-terms-i.is w.if-t-j.false c.loop-i.invariant)
    ]

pub returns : goal.returns
returns c = record { is = ap (entries (λ m. m)) c.of.ensures.is ∙ c.loop-i.invariant ∙ ap (λ l. at_position c.args.j (entries (λ m. m) l)) (take_all c.loop-i.i c.args.terms.now c.loop-i-test.false) }
