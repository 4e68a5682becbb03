use Rattle.invariant_space.proofs.Common.{◌≡◌, ◌+◌, length, over, IsPolyOf, EachAt, all_monomials}
use Rattle.invariant_space.proofs.monomials.first_sums.Given as goal

abbrev pub invariant-loop-variable : goal.invariant-loop-variable
invariant-loop-variable g l =
    let S = over g.F.Field.field g.O.TermOrder.order l.space in
    record {
      count : length l.sums.items ≡ l._variable + 1;
      each : EachAt (λ i p. IsPolyOf S (λ m. m) (all_monomials S.field 0 i) p) l.sums.items;
    }
