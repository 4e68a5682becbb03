-- The order of a group: there is one, and it is above each number that is passed.
use Rattle.matrix_group.proofs.Common.{◌≡◌, ℕ, ◌+◌, ◌<◌, List, length, take, sym, ap, ◌∙◌, refl, arith, length-take-le, FieldOn, AreElements, IsOrder, IsOverOrder, walk, IsWalk}
use Rattle.matrix_group.proofs.Walks.{walk_elements}
use Rattle.matrix_group.proofs.Found.{Contains_take, AreApart_take, AreApart_length, AreApart_same_length}

module _ {E : Type 0} (k : FieldOn E) (n : ℕ) (gens : List (List E)) where
  pub elements_order : (gs : List (List E)) → AreElements k n gens gs → IsOrder k n gens (length gs)
  elements_order gs a = (gs, a, refl)

  pub order_unique : (N M : ℕ) → IsOrder k n gens N → IsOrder k n gens M → N ≡ M
  order_unique N M (gs, a, e) (hs, b, f) = sym e ∙ AreApart_same_length gs hs a.apart b.apart (λ x c. b.all x (a.products x c)) (λ x c. a.all x (b.products x c)) ∙ f

  pub over_order : (N m : ℕ) → IsOrder k n gens N → IsOverOrder k n gens m → m < N
  over_order N m (gs, a, e) (hs, apart, products, f) = let less = AreApart_length hs gs apart (λ x c. a.all x (products x c)) in omega arith

  -- the first m + 1 of them
  pub order_over : (N m : ℕ) → IsOrder k n gens N → m < N → IsOverOrder k n gens m
  order_over N m (gs, a, e) h = (take (m + 1) gs, AreApart_take (m + 1) gs a.apart, λ x c. a.products x (Contains_take (m + 1) gs x c), length-take-le (m + 1) gs (omega arith))

  -- there is one list in the order of the walk
  pub walk_unique : (gs hs : List (List E)) → IsWalk k n gens gs → IsWalk k n gens hs → gs ≡ hs
  walk_unique gs hs w v =
      w ∙ ap (walk k n gens) (order_unique (length gs) (length hs) (elements_order gs (walk_elements k n gens gs w)) (elements_order hs (walk_elements k n gens hs v))) ∙ sym v
