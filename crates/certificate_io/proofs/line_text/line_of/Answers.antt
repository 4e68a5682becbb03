use Rattle.std.proofs.Common.{◌∙◌, sym, refl}
use Rattle.certificate_io.proofs.LineTails.{told_nothing, told_elsewhere, told_wrong, told_line}
use Rattle.certificate_io.proofs.PairSteps.{not_told}
use Rattle.certificate_io.proofs.line_text.line_of.Goals as goal

pub returns-in_default : goal.returns-in_default
returns-in_default c = record { is = told_nothing c.args.before _ _ _ c.split.ensures.is (sym c.kind_of.ensures.is ∙ c.in_default.is) }

pub returns-then-not-may_follow : goal.returns-then-not-may_follow
returns-then-not-may_follow c =
    record { is = told_elsewhere c.args.before _ _ _ c.split.ensures.is _ (sym c.kind_of.ensures.is ∙ c.in-Some.is) (not_told _ c.may_follow.ensures.is c.if-not-may_follow.true) }

pub returns-then-not-branch : goal.returns-then-not-branch
returns-then-not-branch c =
    record { is = told_wrong c.args.before _ _ _ c.split.ensures.is _ (sym c.kind_of.ensures.is ∙ c.in-Some.is) (not_told _ c.in_ok-has_tail.ensures.is c.if-not-branch.true) }

pub returns : goal.returns
returns c =
    record {
      is = told_line c.args.before _ _ _ c.split.ensures.is _ (sym c.kind_of.ensures.is ∙ c.in-Some.is)
          (c.may_follow.ensures.is.0 c.if-not-may_follow.false) (c.in_ok-has_tail.ensures.is.0 c.if-not-branch.false) (record { kind = c.in-Some.kind; tail = c.tail_bytes.result }) refl c.tail_bytes.ensures.is;
    }
