-- Formal sums of keys with coefficients.
--
--   FormalSum K T         a list of keys of T, each with a coefficient of K; keys may repeat
--   combined R X f l      the sum of c · f t over the entries (t, c) of l, in the module X
--   regular R             the ring R as a module over itself
--   indicator R d         1 where the decided fact holds, else 0
--   coefficient R same l t   the sum of the coefficients that stand at the key t
--   SameCoefficients      two formal sums have the same coefficient at each key
--   Free R same           formal sums up to the same coefficients: the free module on the keys
use Rattle.std.specs.Prelude.{◌≡◌, List, [], ◌∷◌}
use Rattle.alg_core.specs.Rings.{Ring, Module}
use Rattle.alg_core.specs.RingLaws as rings
use mathlib.Core.Path.{◌∙◌, ap₂}
use mathlib.Core.Quot.{Quot}

-- keys with coefficients
abbrev pub FormalSum : Type 0 → Type 0 → Type 0
FormalSum K T = List (T × K)

module _ {K : Type 0} (R : Ring K) {T : Type 0} where
  -- the sum of c · f t over the entries
  abbrev pub combined : {A : Type 0} → Module R A → (T → A) → FormalSum K T → A
  combined X f [] = X.zero
  combined X f (e ∷ l) = X.◌+◌ (X.◌·◌ e.1 (f e.0)) (combined X f l)

module _ {K : Type 0} (R : Ring K) where
  -- the ring as a module over itself
  unfoldable pub regular : Module R K
  regular = record {
    is_set = R.is_set;
    zero = R.zero;
    ◌+◌ = R.◌+◌;
    ◌·◌ = R.◌*◌;
    add_assoc = R.add_assoc;
    add_comm = R.add_comm;
    add_zero = R.add_zero;
    act_add = R.mul_add;
    add_act = λ c d x. R.mul_comm (R.◌+◌ c d) x ∙ R.mul_add x c d ∙ ap₂ R.◌+◌ (R.mul_comm x c) (R.mul_comm x d);
    mul_act = R.mul_assoc;
    one_act = rings.one_mul R;
    zero_act = rings.zero_mul R;
  }

  -- 1 where it holds, else 0
  unfoldable pub indicator : {P : Type 0} → Dec P → K
  indicator (yes p) = R.one
  indicator (no p) = R.zero

module _ {K : Type 0} (R : Ring K) {T : Type 0} (same : (s t : T) → Dec (s ≡ t)) where
  -- the sum of the coefficients that stand at a key
  abbrev pub coefficient : FormalSum K T → T → K
  coefficient l t = combined R (regular R) (λ s. indicator R (same s t)) l

  -- the same coefficient at each key
  abbrev pub SameCoefficients : FormalSum K T → FormalSum K T → Type 0
  SameCoefficients l l' = (t : T) → coefficient l t ≡ coefficient l' t

  -- the finite maps from keys to coefficients
  abbrev pub Free : Type 0
  Free = Quot SameCoefficients
