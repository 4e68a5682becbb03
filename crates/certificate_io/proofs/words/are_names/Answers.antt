use Rattle.std.proofs.Common.{ap, IsTrue}
use Rattle.alg_core.specs.Names.{is_name}
use Rattle.certificate_io.specs.Lines.{bytes_at}
use Rattle.certificate_io.proofs.PairSteps.{not_told, true_told}
use Rattle.certificate_io.proofs.WordSteps.{at_words, more_words, no_words, all_words, name_free}
use Rattle.certificate_io.proofs.words.are_names.Goals as goal

pub loop-rest-init : goal.loop-rest-init
loop-rest-init c = (λ a. a, λ a. a)

pub returns-then-not-is_name : goal.returns-then-not-is_name
returns-then-not-is_name c =
    let so = at_words (λ w. IsTrue (is_name w)) name_free c.args.text.now _ _ c.loop-rest.invariant (ap bytes_at c.in-Some.is) in
    record { is = no_words (λ w. IsTrue (is_name w)) name_free c.args.text.now _ _ _ c.split.ensures.is so (not_told _ (true_told _ _ c.is_name.ensures.is) c.if-not-is_name.true) }

pub loop-rest-preserved : goal.loop-rest-preserved
loop-rest-preserved c =
    let so = at_words (λ w. IsTrue (is_name w)) name_free c.args.text.now _ _ c.loop-rest.invariant (ap bytes_at c.in-Some.is) in
    more_words (λ w. IsTrue (is_name w)) name_free c.args.text.now _ _ _ c.split.ensures.is so ((true_told _ _ c.is_name.ensures.is).0 c.if-not-is_name.false)

pub returns : goal.returns
returns c = record { is = all_words (λ w. IsTrue (is_name w)) name_free c.args.text.now _ (ap bytes_at c.in_default.is) c.loop-rest.invariant }
