use Rattle.invariant_space.proofs.Common.{◌≡◌, ℕ, List, length, get_or, Key, over, Matrix, IsStep, AreImages, AllImages, EachAt}
use Rattle.invariant_space.proofs.images.next_images.Given as goal

abbrev pub invariant-loop-i : goal.invariant-loop-i
invariant-loop-i g l =
    let S = over g.F.Field.field g.O.TermOrder.order l.space in
    record {
      count : length l.next.items ≡ l.i;
      is : (d : ℕ) (ts below : List Key) → IsStep S d ts below l.table → length ts ≡ l.count → AllImages S.field l.gens below l.images
          → EachAt (λ i rows. (m : Matrix g.row.F-Elem.Denot) → m ≡ get_or l.gens i m → AreImages S.field m ts rows.items) l.next.items;
    }
