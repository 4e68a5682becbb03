use Rattle.std.proofs.Common.{arith}
use Rattle.finite_certificate.specs.MarkSpaces.{mark_space}
use Rattle.primary_module.specs.WiderTerms.{IsUnmarked}
use Rattle.primary_module.proofs.WiderLaws.{polys_more, given_member}
use Rattle.primary_module.proofs.marks.all_with_marks.Goals as goal

pub with_marks-requires-clause-unmarked : goal.with_marks-requires-clause-unmarked
with_marks-requires-clause-unmarked g c =
    given_member (IsUnmarked (g.F.Field.field c.args.space.now.field) c.args.space.now.order.vars) c.args.fs.now c.loop-i.i c.index-fs-i.result (omega arith) c.index-fs-i.is c.requires.unmarked

pub loop-i-preserved : goal.loop-i-preserved
loop-i-preserved g c =
    let S = mark_space g.F.Field.field c.args.space.now in
    polys_more S c.args.fs.now c.loop-i.made.items c.push.new.self.items c.loop-i.i c.index-fs-i.result c.in_ok-with_marks.field-0 (omega arith) c.index-fs-i.is c.in_ok-with_marks.ensures.same c.in_ok-push.ensures.items c.loop-i.invariant
