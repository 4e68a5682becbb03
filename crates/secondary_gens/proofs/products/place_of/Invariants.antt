use Rattle.std.proofs.Common.{◌≡◌, ◌++◌, take, drop}
use Rattle.alg_core.specs.KeyLists.{inserted}
use Rattle.alg_core.specs.Keys.{key}
use Rattle.alg_core.specs.Spaces.{place}
use Rattle.secondary_gens.specs.Columns.{turned, mark_order, keys_of}
use Rattle.secondary_gens.proofs.products.place_of.Given as goal

abbrev pub invariant-loop-j : goal.invariant-loop-j
invariant-loop-j g l =
    let o = turned (mark_order l.order.weights.items) in
    let t = key (place (λ m. m) l.at) in
    inserted o t (keys_of l.columns) ≡ take l.j (keys_of l.columns) ++ inserted o t (drop l.j (keys_of l.columns))
