use Rattle.std.proofs.Common.{arith}
use Rattle.poly_text.proofs.MonomialTexts.{one_monomial}
use Rattle.poly_text.proofs.grammar.is_monomial.Goals as goal

pub returns-then-not-term : goal.returns-then-not-term
returns-then-not-term c = record { is = one_monomial c.args.terms.now c.index-terms-0.result (omega arith) c.index-terms-0.is cc }
