use Rattle.std.proofs.Common.{◌≡◌, true, length-append, ℕ, ◌∙◌, ◌+◌, ◌++◌, [], ◌∷◌, length, sym, ap, subst, append_assoc, append-nil, arith}
use Rattle.std.specs.Prelude.{is_some, option_to_list}
use Rattle.std.specs.Vec.Iter.{into_iter_items, into_iter_len}
use Rattle.poly_module.specs.declared.vector.Comb.{Comb}
use Rattle.syzygy_kernel.specs.declared.member.Member.{Member}
use Rattle.invring_app.specs.EvidenceLines.{fixed_count}
use Rattle.invring_app.proofs.EvidenceSteps.{Lined, lined_start, lined_moved, lined_fixed, lined_end, nothing_left}
use Rattle.invring_app.proofs.commands.ring.evidence.member_lines.Goals as goal
use Rattle.invring_app.proofs.commands.ring.evidence.member_lines.Goals.{then-member, else-member}

pub loop-member-init : goal.loop-member-init
loop-member-init c =
    let given = c.into_iter-member-iterator.ensures.into_iter_gives in
    let whole = c.args.members.ok.0 in
    let first = given.1 in
    let long : length (into_iter_items c.into_iter-member-iterator.result) ≡ length c.args.members.items = ap (length {A = Member ℕ}) given.0 in
    let combs = c.args.combs.ok.0 in
    let second = c.into_iter-rest.ensures.len in
    let all : length (into_iter_items c.into_iter-rest.result) ≡ length c.args.combs.items = ap (length {A = Comb ℕ}) c.into_iter-rest.ensures.rest in (
      given.0,
      omega arith,
      subst (λ ls. Lined c.args.combs.items [] ls (into_iter_items c.into_iter-rest.result)) (sym c.new-lines.ensures.items)
          (subst (Lined c.args.combs.items [] []) (sym c.into_iter-rest.ensures.rest) (lined_start c.args.combs.items)),
      omega arith,
    )

pub loop-member-preserved : goal.loop-member-preserved
loop-member-preserved c =
    let was = c.loop-member.invariant in
    let step = c.in-Some.ensures.steps in
    let m = c.in-Some.member in
    let given = c.loop-member.yielded in
    let left = into_iter_items c.next.new.self in
    let all : given ++ m ∷ left ≡ c.args.members.items = ap (λ t. given ++ t) (sym step.0) ∙ was.0 in
    let counted = ap fixed_count all ∙ c.requires.same in
    let n = was.1 in
    let fewer = step.1 in
    let long : length (into_iter_items c.loop-member.member-iterator) ≡ length (m ∷ left) = ap (length {A = Member ℕ}) step.0 in
    let lined : Lined c.args.combs.items (given ++ m ∷ []) c.push.new.self.items (into_iter_items c.if-member.rest) × (into_iter_len c.if-member.rest ≡ length (into_iter_items c.if-member.rest)) =
    elim c.if-member.branch [
      | then-member w ↦
          let took = w.next-comb.ensures in
          let l = took.len in
          let k : length (into_iter_items c.loop-member.rest) ≡ length (option_to_list w.next-comb.result) + length (into_iter_items w.next-comb.new.self) =
          ap (length {A = Comb ℕ}) took.items ∙ length-append (option_to_list w.next-comb.result) (into_iter_items w.next-comb.new.self) in
          let before = was.3 in
          subst (λ r. Lined c.args.combs.items (given ++ m ∷ []) c.push.new.self.items (into_iter_items r) × (into_iter_len r ≡ length (into_iter_items r))) (sym w.rest-is) (
            lined_fixed c.args.combs.items given c.loop-member.lines.items (into_iter_items c.loop-member.rest) (into_iter_items w.next-comb.new.self) was.2 m left counted w.if-member.true c.if-member.comb
                (λ h. subst (λ o. is_some o ≡ true) (sym w.comb-is) (took.variant.1 (omega arith)))
                (took.items ∙ ap (λ o. option_to_list o ++ into_iter_items w.next-comb.new.self) (sym w.comb-is)) c.push.new.self.items c.in_ok-push.ensures.items,
            omega arith,
          )
      | else-member w ↦
          subst (λ r. Lined c.args.combs.items (given ++ m ∷ []) c.push.new.self.items (into_iter_items r) × (into_iter_len r ≡ length (into_iter_items r))) (sym w.rest-is) (
            lined_moved c.args.combs.items given c.loop-member.lines.items (into_iter_items c.loop-member.rest) was.2 m w.if-member.false c.push.new.self.items
                (c.in_ok-push.ensures.items ∙ ap (λ o. c.loop-member.lines.items ++ record { u = m.u; comb = o } ∷ []) w.comb-is),
            was.3,
          )
    ] in
    (append_assoc given (m ∷ []) left ∙ all, omega arith, lined.0, lined.1)

pub returns-clause-members : goal.returns-clause-members
returns-clause-members c =
    let was = c.loop-member.invariant in
    let given = c.loop-member.yielded in
    let none = nothing_left (into_iter_items c.loop-member.member-iterator) (into_iter_len c.loop-member.member-iterator) was.1 c.in-None.ensures.steps.0 in
    was.2.are_members ∙ sym (append-nil given) ∙ ap (λ t. given ++ t) (sym none) ∙ was.0

pub returns-clause-combinations : goal.returns-clause-combinations
returns-clause-combinations c =
    let was = c.loop-member.invariant in
    let given = c.loop-member.yielded in
    let none = nothing_left (into_iter_items c.loop-member.member-iterator) (into_iter_len c.loop-member.member-iterator) was.1 c.in-None.ensures.steps.0 in
    lined_end c.args.combs.items given c.loop-member.lines.items (into_iter_items c.loop-member.rest) was.2 (ap fixed_count (sym (append-nil given) ∙ ap (λ t. given ++ t) (sym none) ∙ was.0) ∙ c.requires.same)
