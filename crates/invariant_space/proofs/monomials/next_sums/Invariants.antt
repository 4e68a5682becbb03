use Rattle.invariant_space.proofs.Common.{◌≡◌, ◌+◌, ℕ, suc, length, over, IsPolyOf, EachAt, AreSums, all_monomials}
use Rattle.invariant_space.proofs.monomials.next_sums.Given as goal

abbrev pub invariant-loop-i : goal.invariant-loop-i
invariant-loop-i g l =
    let S = over g.F.Field.field g.O.TermOrder.order l.space in
    record {
      count : length l.above.items ≡ l.i + 1;
      each : (d : ℕ) → AreSums S d l.sums → EachAt (λ i p. IsPolyOf S (λ m. m) (all_monomials S.field (suc d) i) p) l.above.items;
    }
