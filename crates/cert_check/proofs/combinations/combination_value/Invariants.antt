use Rattle.std.proofs.Common.{take}
use Rattle.poly_module.specs.Combinations.{combination_value}
use Rattle.poly_module.specs.SpaceVectors.{IsPolyOf, vector_of, vectors_of}
use Rattle.cert_check.proofs.CheckSpaces.{plain_of}
use Rattle.cert_check.proofs.combinations.combination_value.Given as goal

abbrev pub invariant-loop-j : goal.invariant-loop-j
invariant-loop-j l =
    let S = plain_of l.space in
    let xs = vectors_of S (λ m. m) in
    IsPolyOf S (λ m. m) (combination_value S.field (xs l.theta) (take l.j (xs l.secs)) (vector_of S (λ m. m) l.terms)) l.value
