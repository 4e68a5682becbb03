use Rattle.std.proofs.Common.{◌<◌}
use Rattle.alg_core.specs.Lists.{In}
use Rattle.secondary_gens.specs.Forms.{degree_of}
use Rattle.cert_check.proofs.WordItems.{all_items, contrary, failing_item, one_more}
use Rattle.cert_check.proofs.words.first_stranger.Goals as goal

pub returns-then-not-is_positive_member : goal.returns-then-not-is_positive_member
returns-then-not-is_positive_member g c = record {
  first = failing_item (λ q. In q c.args.forms.now × (0 < degree_of q)) c.args.irr.now c.loop-l.l c.index-irr-l.result c.loop-l-test.true c.index-irr-l.is
      (λ h. contrary c.is_positive_member.result c.if-not-is_positive_member.true (c.is_positive_member.ensures.exact.1 h)) c.loop-l.invariant;
}

pub loop-l-preserved : goal.loop-l-preserved
loop-l-preserved g c =
    one_more (λ q. In q c.args.forms.now × (0 < degree_of q)) c.args.irr.now c.loop-l.l c.index-irr-l.result c.loop-l-test.true c.index-irr-l.is
    (c.is_positive_member.ensures.exact.0 c.if-not-is_positive_member.false) c.loop-l.invariant

pub returns : goal.returns
returns g c = record { first = all_items (λ q. In q c.args.forms.now × (0 < degree_of q)) c.args.irr.now c.loop-l.l c.loop-l-test.false c.loop-l.invariant }
