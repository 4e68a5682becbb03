use Rattle.std.proofs.Common.{◌∙◌, length, sym, ap, arith}
use Rattle.primary_module.proofs.differences.divisor_before.Goals as goal

pub divides-requires : goal.divides-requires
divides-requires c =
    let wide = c.requires.wide.1 in
    let low = c.loop-j.invariant in
    let there = c.requires.within in
    record {
      same = ap length c.index-monomials-j.is ∙ wide _ c.index-monomials-j.result (omega arith) ∙ sym (ap length c.index-monomials-place.is ∙ wide _ c.index-monomials-place.result there);
    }
