use Rattle.std.proofs.Common.{◌≡◌, ◌≤◌, ◌-◌, length, drop}
use Rattle.poly_text.specs.Texts.{place_count}
use Rattle.poly_text.specs.Trees.{factors_of}
use Rattle.poly_text.specs.Values.{exponents_from}
use Rattle.poly_text.proofs.factors.exponents_of.Given as goal

abbrev pub invariant-loop-factor : goal.invariant-loop-factor
invariant-loop-factor l = record {
  within : length l.yielded ≤ length l.factors;
  rest : l.exponents.items ≡ exponents_from l.names (place_count l.names) 0 (factors_of (drop (length l.factors - length l.yielded) l.factors));
}
