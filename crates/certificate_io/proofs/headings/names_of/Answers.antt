use Rattle.std.proofs.Common.{◌∙◌, [], ◌∷◌, ◌++◌, Some, IsTrue, sym, ap, subst}
use Rattle.alg_core.specs.Names.{is_name}
use Rattle.certificate_io.specs.Lines.{bytes_at}
use Rattle.certificate_io.proofs.LineWords.{name_plain}
use Rattle.certificate_io.proofs.WordRuns.{WordsLeft, words_begin, words_next}
use Rattle.certificate_io.proofs.headings.names_of.Goals as goal

pub loop-rest-init : goal.loop-rest-init
loop-rest-init c = λ ws is same.
    subst (λ l. WordsLeft (λ w. IsTrue (is_name w)) ws l (Some c.args.text.now)) (sym c.new-names.ensures.items) (words_begin (λ w. IsTrue (is_name w)) ws c.args.text.now is same)

pub new-requires : goal.new-requires
new-requires c =
    let ws = c.requires.names in
    let before = subst (WordsLeft (λ w. IsTrue (is_name w)) ws.0 c.loop-rest.names.items) (ap bytes_at c.in-Some.is) (c.loop-rest.invariant ws.0 ws.1 ws.2) in
    record {
      name = (words_next (λ w. IsTrue (is_name w)) (λ w h. (name_plain w h).unspaced) ws.0 c.loop-rest.names.items c.in-Some.words.now c.split.result.0.now (bytes_at c.split.result.1) before c.split.ensures.is).is;
    }

pub loop-rest-preserved : goal.loop-rest-preserved
loop-rest-preserved c = λ ws is same.
    let before = subst (WordsLeft (λ w. IsTrue (is_name w)) ws c.loop-rest.names.items) (ap bytes_at c.in-Some.is) (c.loop-rest.invariant ws is same) in
    let next = words_next (λ w. IsTrue (is_name w)) (λ w h. (name_plain w h).unspaced) ws c.loop-rest.names.items c.in-Some.words.now c.split.result.0.now (bytes_at c.split.result.1) before c.split.ensures.is in
    subst (λ l. WordsLeft (λ w. IsTrue (is_name w)) ws l (bytes_at c.split.result.1)) (sym (c.in_ok-push.ensures.items ∙ ap (λ n. c.loop-rest.names.items ++ (n ∷ [])) c.in_ok-name.ensures.is)) next.rest
