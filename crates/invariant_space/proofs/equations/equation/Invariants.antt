use Rattle.invariant_space.proofs.Common.{◌≡◌, All, Vec, Global, length, get_or, Has, scalar, scalars, unit, vector, EachAt}
use Rattle.invariant_space.proofs.equations.equation.Given as goal

abbrev pub invariant-loop-l : goal.invariant-loop-l
invariant-loop-l g l =
    let k = g.F.Field.field l.field in
    record {
      count : length l.row.items ≡ l.l;
      has : All (Has k) l.row.items;
      each : EachAt (λ i x. (r : Vec g.row.F-Elem.Denot Global) → r ≡ get_or l.image i r → (scalars k).◌+◌ (scalar k x) (unit (scalars k) l.s i) ≡ vector k r.items l.s) l.row.items;
    }
