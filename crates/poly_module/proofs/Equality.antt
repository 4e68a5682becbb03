-- What `==` tells of a field's values.
use Rattle.std.proofs.Common.{◌≡◌, ◌≢◌, Bool, true, false, sym, subst, ◌∙◌}
use Rattle.alg_core.specs.Fields.{Exact}

pub eq_true : {E : Type 0} (eq : E → E → Bool) → Exact eq → (c z : E) (r : Bool) → r ≡ eq c z → r ≡ true → c ≡ z
eq_true eq exact c z r is t = exact.0 c z (sym is ∙ t)

pub eq_false : {E : Type 0} (eq : E → E → Bool) → Exact eq → (c z : E) (r : Bool) → r ≡ eq c z → r ≡ false → c ≢ z
eq_false eq exact c z r is f e = let same : eq c z ≡ true = subst (λ x. eq c x ≡ true) e (exact.1 c) in cc
