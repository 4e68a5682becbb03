use Rattle.invariant_space.proofs.Common.{◌≡◌, List, length, Key, over, key_order, Matrix, IsMonomialList, AreImages, EachAt}
use Rattle.invariant_space.proofs.images.first_level.Given as goal

abbrev pub invariant-loop-generator : goal.invariant-loop-generator
invariant-loop-generator g l =
    let S = over g.F.Field.field g.O.TermOrder.order l.space in
    record {
      count : length l.images.items ≡ l._generator-index;
      is : EachAt (λ i rows. (m : Matrix g.row.F-Elem.Denot) (ts : List Key) → IsMonomialList (key_order S) (length S.weights) 0 ts → AreImages S.field m ts rows.items) l.images.items;
    }
