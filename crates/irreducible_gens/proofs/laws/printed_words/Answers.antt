use Rattle.std.proofs.Common.{◌++◌}
use Rattle.alg_core.specs.Spaces.{over}
use Rattle.poly_module.proofs.MarkValues.{forms_append}
use Rattle.irreducible_gens.proofs.OneWord.{one_word}
use Rattle.irreducible_gens.proofs.laws.printed_words.Goals as goal

pub returns : goal.returns
returns g c =
    let S = over g.F.Field.field g.O.TermOrder.order c.args._space.now in
    record { one = λ ws ds es θ Q h j f u w a b. one_word S.field (ds ++ es) θ Q ws (forms_append S.field ws ds es θ Q h j) f u w a b }
