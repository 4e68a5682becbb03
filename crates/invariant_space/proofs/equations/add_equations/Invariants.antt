use Rattle.invariant_space.proofs.Common.{◌≡◌, ◌↔◌, ℕ, List, length, Key, In, over, key_order, Vect, Supp, IsMatrix, Matrix, IsMonomialList, coordinates, Solves, AreImages}
use Rattle.invariant_space.proofs.EquationLaws.{FixedBelow}
use Rattle.invariant_space.proofs.equations.add_equations.Given as goal

abbrev pub invariant-loop-s : goal.invariant-loop-s
invariant-loop-s g l =
    let S = over g.F.Field.field g.O.TermOrder.order l.space in
    record {
      matrix : IsMatrix S.field l.system;
      cols : l.system.cols ≡ length l.image;
      fixed : (d : ℕ) (ts : List Key) (m : Matrix g.row.F-Elem.Denot) (f : Vect S.field) → IsMonomialList (key_order S) (length S.weights) d ts → AreImages S.field m ts l.image → Supp S.field (λ t. In t ts) f
          → Solves S.field l.system (coordinates S.field ts f) ↔ (Solves S.field l.fn.system (coordinates S.field ts f) × FixedBelow S.field m ts l.s f);
    }
