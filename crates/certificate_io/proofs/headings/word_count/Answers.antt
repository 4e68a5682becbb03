use Rattle.std.proofs.Common.{ap, subst}
use Rattle.certificate_io.specs.Lines.{bytes_at}
use Rattle.certificate_io.proofs.WordRuns.{CountsWords, count_begins, count_more, count_ends}
use Rattle.certificate_io.proofs.headings.word_count.Goals as goal

pub loop-rest-init : goal.loop-rest-init
loop-rest-init c = count_begins c.args.text.now

pub loop-rest-preserved : goal.loop-rest-preserved
loop-rest-preserved c =
    count_more c.args.text.now c.in-Some.words.now c.split.result.0.now c.loop-rest.count (bytes_at c.split.result.1) (subst (CountsWords c.args.text.now c.loop-rest.count) (ap bytes_at c.in-Some.is) c.loop-rest.invariant) c.split.ensures.is c.split.ensures.shorter

pub returns : goal.returns
returns c = record {
  is = λ ws is same. count_ends c.args.text.now c.loop-rest.count (subst (CountsWords c.args.text.now c.loop-rest.count) (ap bytes_at c.in_default.is) c.loop-rest.invariant) ws is same;
}
