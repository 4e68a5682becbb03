use Rattle.std.proofs.Common.{arith}
use Rattle.alg_core.specs.Spaces.{over}
use Rattle.poly_module.specs.Sizes.{HasRoomIn}
use Rattle.poly_module.specs.SpaceVectors.{HasVariables}
use Rattle.cert_check.proofs.WordItems.{all_words, member_has, next_word, wrong_word}
use Rattle.cert_check.proofs.words.first_wrong.Goals as goal

pub substitute-requires-clause-variables : goal.substitute-requires-clause-variables
substitute-requires-clause-variables g c =
    member_has (HasVariables (g.F.Field.field c.args.space.now.field) (λ m. m) _) c.args.words.now c.loop-j.j c.index-words-j.result c.loop-j-test.true c.index-words-j.is c.requires.variables

pub substitute-requires-clause-room : goal.substitute-requires-clause-room
substitute-requires-clause-room g c =
    member_has (λ w. HasRoomIn 4294967295 (λ m. m) w c.args.images.now) c.args.words.now c.loop-j.j c.index-words-j.result c.loop-j-test.true c.index-words-j.is c.requires.room

pub returns-then-not-are_equal : goal.returns-then-not-are_equal
returns-then-not-are_equal g c =
    let S = over g.F.Field.field g.O.TermOrder.order c.args.space.now in
    record {
      first = wrong_word S c.args.words.now c.args.images.now c.args.forms.now c.loop-j.j c.index-words-j.result c.index-forms-j.result c.in_ok-value.value c.are_equal.result
          c.loop-j-test.true (omega (arith, c.requires.each, c.loop-j-test.true)) c.index-words-j.is c.index-forms-j.is c.in_ok-value.ensures.value c.are_equal.ensures.exact c.loop-j.invariant c.if-not-are_equal.true;
    }

pub loop-j-preserved : goal.loop-j-preserved
loop-j-preserved g c =
    let S = over g.F.Field.field g.O.TermOrder.order c.args.space.now in
    next_word S c.args.words.now c.args.images.now c.args.forms.now c.loop-j.j c.index-words-j.result c.index-forms-j.result c.in_ok-value.value c.are_equal.result
    c.loop-j-test.true (omega (arith, c.requires.each, c.loop-j-test.true)) c.index-words-j.is c.index-forms-j.is c.in_ok-value.ensures.value c.are_equal.ensures.exact c.loop-j.invariant c.if-not-are_equal.false

pub returns : goal.returns
returns g c =
    let S = over g.F.Field.field g.O.TermOrder.order c.args.space.now in
    record { first = all_words S c.args.words.now c.args.images.now c.args.forms.now c.loop-j.j c.loop-j-test.false c.loop-j.invariant }
