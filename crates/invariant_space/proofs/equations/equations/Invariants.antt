use Rattle.invariant_space.proofs.Common.{◌≡◌, ◌↔◌, ℕ, List, length, Key, In, over, key_order, Vect, Supp, IsMatrix, IsMonomialList, coordinates, Solves, AllImages}
use Rattle.invariant_space.proofs.EquationLaws.{InvariantBelow}
use Rattle.invariant_space.proofs.equations.equations.Given as goal

abbrev pub invariant-loop-i : goal.invariant-loop-i
invariant-loop-i g l =
    let S = over g.F.Field.field g.O.TermOrder.order l.space in
    record {
      matrix : IsMatrix S.field l.system;
      cols : l.system.cols ≡ l.count;
      solves : (d : ℕ) (ts : List Key) (f : Vect S.field) → IsMonomialList (key_order S) (length S.weights) d ts → length ts ≡ l.count → AllImages S.field l.gens ts l.images → Supp S.field (λ t. In t ts) f
          → Solves S.field l.system (coordinates S.field ts f) ↔ InvariantBelow S.field l.gens l.i f;
    }
