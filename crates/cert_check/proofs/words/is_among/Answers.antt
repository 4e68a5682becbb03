use Rattle.std.proofs.Common.{◌≡◌, refl}
use Rattle.alg_core.specs.Spaces.{over}
use Rattle.cert_check.proofs.WordItems.{all_items, found_among, none_among, one_more, other_member}
use Rattle.cert_check.proofs.words.is_among.Goals as goal

pub returns-then-are_equal : goal.returns-then-are_equal
returns-then-are_equal g c =
    let S = over g.F.Field.field g.O.TermOrder.order c.args.space.now in
    let found = found_among S c.args.f.now c.index-list-j.result c.args.list.now c.loop-j.j c.are_equal.result c.loop-j-test.true c.index-list-j.is c.requires.f c.requires.list
    c.are_equal.ensures.exact c.if-are_equal.true in
    record { exact = (λ _. found, λ _. refl) }

pub loop-j-preserved : goal.loop-j-preserved
loop-j-preserved g c =
    let S = over g.F.Field.field g.O.TermOrder.order c.args.space.now in
    one_more (λ m. ¬ (c.args.f.now ≡ m)) c.args.list.now c.loop-j.j c.index-list-j.result c.loop-j-test.true c.index-list-j.is
    (other_member S c.args.f.now c.index-list-j.result c.are_equal.result c.are_equal.ensures.exact c.if-are_equal.false) c.loop-j.invariant

pub returns : goal.returns
returns g c =
    let S = over g.F.Field.field g.O.TermOrder.order c.args.space.now in
    let none = none_among S c.args.f.now c.args.list.now (all_items (λ m. ¬ (c.args.f.now ≡ m)) c.args.list.now c.loop-j.j c.loop-j-test.false c.loop-j.invariant) in
    record { exact = (λ e. absurd cc, λ i. absurd (none i)) }
