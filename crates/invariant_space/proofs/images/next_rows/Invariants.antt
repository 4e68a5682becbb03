use Rattle.invariant_space.proofs.Common.{◌≡◌, ℕ, List, length, get_or, Key, over, single_vector, act_by, IsStep, IsCoordinates, AreImages, EachAt}
use Rattle.invariant_space.proofs.images.next_rows.Given as goal

abbrev pub invariant-loop-l : goal.invariant-loop-l
invariant-loop-l g l =
    let S = over g.F.Field.field g.O.TermOrder.order l.space in
    record {
      count : length l.images.items ≡ l.l;
      is : (d : ℕ) (ts below : List Key) → IsStep S d ts below l.table → length ts ≡ l.count → AreImages S.field l.m below l.rows
          → EachAt (λ i r. (t : Key) → get_or ts i t ≡ t → IsCoordinates S.field ts (act_by S.field l.m (single_vector S.field t)) r.items) l.images.items;
    }
