-- What follows from the laws of a ring.
use Rattle.std.proofs.Common.{◌≡◌, sym, ap, ◌∙◌}
use Rattle.alg_core.specs.Rings.{Ring}

module _ {K : Type 0} (R : Ring K) where
  open R use {zero, one, ◌+◌, ◌*◌, neg}

  infixl 6 ◌+◌
  infixl 7 ◌*◌
  pub zero_add : (x : K) → zero + x ≡ x
  zero_add x = R.add_comm zero x ∙ R.add_zero x

  pub neg_add : (x : K) → neg x + x ≡ zero
  neg_add x = R.add_comm (neg x) x ∙ R.add_neg x

  pub one_mul : (x : K) → one * x ≡ x
  one_mul x = R.mul_comm one x ∙ R.mul_one x

  pub add_left_comm : (x y z : K) → x + (y + z) ≡ y + (x + z)
  add_left_comm x y z = sym (R.add_assoc x y z) ∙ ap (λ u. u + z) (R.add_comm x y) ∙ R.add_assoc y x z

  pub mul_left_comm : (x y z : K) → x * (y * z) ≡ y * (x * z)
  mul_left_comm x y z = sym (R.mul_assoc x y z) ∙ ap (λ u. u * z) (R.mul_comm x y) ∙ R.mul_assoc y x z

  pub add_swap : (a b c d : K) → (a + b) + (c + d) ≡ (a + c) + (b + d)
  add_swap a b c d = R.add_assoc a b _ ∙ ap (λ u. a + u) (add_left_comm b c d) ∙ sym (R.add_assoc a c _)

  pub mul_swap : (a b c d : K) → (a * b) * (c * d) ≡ (a * c) * (b * d)
  mul_swap a b c d = R.mul_assoc a b _ ∙ ap (λ u. a * u) (mul_left_comm b c d) ∙ sym (R.mul_assoc a c _)

  pub add_cancel : (x y z : K) → x + y ≡ x + z → y ≡ z
  add_cancel x y z e =
      let left : neg x + (x + y) ≡ y = sym (R.add_assoc (neg x) x y) ∙ ap (λ u. u + y) (neg_add x) ∙ zero_add y in
      let right : neg x + (x + z) ≡ z = sym (R.add_assoc (neg x) x z) ∙ ap (λ u. u + z) (neg_add x) ∙ zero_add z in
      sym left ∙ ap (λ u. neg x + u) e ∙ right

  pub mul_zero : (x : K) → x * zero ≡ zero
  mul_zero x = add_cancel (x * zero) (x * zero) zero (sym (R.mul_add x zero zero) ∙ ap (λ u. x * u) (R.add_zero zero) ∙ sym (R.add_zero (x * zero)))

  pub zero_mul : (x : K) → zero * x ≡ zero
  zero_mul x = R.mul_comm zero x ∙ mul_zero x

  pub add_mul : (x y z : K) → (x + y) * z ≡ x * z + y * z
  add_mul x y z = simp (R.mul_comm x z, R.mul_comm y z, R.mul_comm (x + y) z, R.mul_add)
