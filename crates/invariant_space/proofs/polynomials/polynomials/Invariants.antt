use Rattle.invariant_space.proofs.Common.{◌≡◌, map, take, over, ArePolys, vector_of, vectors_of, row_polynomial, keys_of}
use Rattle.invariant_space.proofs.polynomials.polynomials.Given as goal

abbrev pub invariant-loop-i : goal.invariant-loop-i
invariant-loop-i g l =
    let S = over g.F.Field.field g.O.TermOrder.order l.space in
    record {
      polynomials : ArePolys S (λ m. m) l.polynomials.items;
      are : map (vector_of S (λ m. m)) l.polynomials.items ≡ take l.i (map (row_polynomial S.field (keys_of l.monomials)) (vectors_of S.field l.a));
    }
