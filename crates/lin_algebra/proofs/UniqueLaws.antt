-- One solution alone is 0 at each column that is a combination of the columns before it.
use Rattle.std.proofs.Common.{◌≡◌, ℕ, zero, suc, ◌+◌, ◌<◌, ◌≤◌, ◌⊎◌, inl, inr, sym, ap, ap₂, ◌∙◌, arith}
use Rattle.std.proofs.lemmas.Bool.{cases_lt}
use Rattle.alg_core.specs.Rings.{Ring, IsField}
use Rattle.alg_core.specs.RingLaws as rings
use Rattle.lin_algebra.specs.Vectors.{vectors, dot}
use Rattle.lin_algebra.proofs.DotLaws.{dot_add_right, dot_act_right}

module _ {K : Type 0} (R : Ring K) where
  -- past its last entry that is not 0 a vector adds nothing
  dot_until : (n j : ℕ) (u d : ℕ → K) → j ≤ n → ((t : ℕ) → j ≤ t → t < n → d t ≡ R.zero) → dot R n u d ≡ dot R j u d
  dot_until zero j u d h z = let same : zero ≡ j = omega arith in ap (λ m. dot R m u d) same
  dot_until (suc n) j u d h z = go (dot_until n j u d) (cases_lt n j)
    where
      go : (j ≤ n → ((t : ℕ) → j ≤ t → t < n → d t ≡ R.zero) → dot R n u d ≡ dot R j u d) → (n < j) ⊎ (j ≤ n) → dot R (suc n) u d ≡ dot R j u d
      go shorter (inl b) = let same : suc n ≡ j = omega arith in ap (λ m. dot R m u d) same
      go shorter (inr b) = ap₂ R.◌+◌ (shorter b (λ t p q. z t p (omega arith))) (ap (R.◌*◌ (u n)) (z n b (omega arith)) ∙ rings.mul_zero R (u n)) ∙ R.add_zero _

  -- with the opposite of the ratio as a factor, what is left is the last coefficient
  last_by_others : (a d s q : K) → R.◌+◌ s (R.◌*◌ a d) ≡ R.zero → R.◌*◌ d q ≡ R.one → a ≡ R.◌*◌ (R.◌*◌ (R.neg R.one) q) s
  last_by_others a d s q sum inverse =
      let minus : K = R.neg R.one in
      let opposite : R.◌+◌ s (R.◌*◌ minus s) ≡ R.zero = ap (λ x. R.◌+◌ x (R.◌*◌ minus s)) (sym (rings.one_mul R s)) ∙ sym (rings.add_mul R R.one minus s) ∙ ap (λ x. R.◌*◌ x s) (R.add_neg R.one) ∙ rings.zero_mul R s in
      let product : R.◌*◌ a d ≡ R.◌*◌ minus s = rings.add_cancel R s (R.◌*◌ a d) (R.◌*◌ minus s) (sum ∙ sym opposite) in
      sym (R.mul_one a) ∙ ap (R.◌*◌ a) (sym inverse) ∙ sym (R.mul_assoc a d q) ∙ ap (λ x. R.◌*◌ x q) product ∙ R.mul_assoc minus s q ∙ ap (R.◌*◌ minus) (R.mul_comm s q) ∙ sym (R.mul_assoc minus q s)

  module _ (f : IsField R) (n m : ℕ) (a : ℕ → ℕ → K) (b x y : ℕ → K) (solves : (i : ℕ) → i < m → dot R n (a i) x ≡ b i) (solves' : (i : ℕ) → i < m → dot R n (a i) y ≡ b i)
      (first : (j : ℕ) → ((c : ℕ → K) × ((i : ℕ) → i < m → a i j ≡ dot R j (a i) c)) → (x j ≡ R.zero) × (y j ≡ R.zero)) where
    d : ℕ → K
    d j = R.◌+◌ (x j) (R.◌*◌ (R.neg R.one) (y j))

    d_of_same : (j : ℕ) → x j ≡ y j → d j ≡ R.zero
    unfolding d
    d_of_same j e = ap (λ u. R.◌+◌ u (R.◌*◌ (R.neg R.one) (y j))) (e ∙ sym (rings.one_mul R (y j))) ∙ sym (rings.add_mul R R.one (R.neg R.one) (y j)) ∙ ap (λ u. R.◌*◌ u (y j)) (R.add_neg R.one) ∙ rings.zero_mul R (y j)

    same_of_d : (j : ℕ) → d j ≡ R.zero → x j ≡ y j
    unfolding d
    same_of_d j e =
        let minus : K = R.neg R.one in
        let opposite : R.◌+◌ (R.◌*◌ minus (y j)) (y j) ≡ R.zero = ap (R.◌+◌ (R.◌*◌ minus (y j))) (sym (rings.one_mul R (y j))) ∙ sym (rings.add_mul R minus R.one (y j)) ∙ ap (λ u. R.◌*◌ u (y j)) (rings.neg_add R R.one) ∙ rings.zero_mul R (y j) in
        rings.add_cancel R (R.◌*◌ minus (y j)) (x j) (y j) (R.add_comm _ _ ∙ e ∙ sym opposite)

    dot_d : (i : ℕ) → i < m → dot R n (a i) d ≡ R.zero
    unfolding d
    dot_d i h = dot_add_right R n (a i) x (λ j. R.◌*◌ (R.neg R.one) (y j)) ∙ ap₂ R.◌+◌ (solves i h) (dot_act_right R n (R.neg R.one) (a i) y ∙ ap (R.◌*◌ (R.neg R.one)) (solves' i h))
        ∙ ap (λ u. R.◌+◌ u (R.◌*◌ (R.neg R.one) (b i))) (sym (rings.one_mul R (b i))) ∙ sym (rings.add_mul R R.one (R.neg R.one) (b i)) ∙ ap (λ u. R.◌*◌ u (b i)) (R.add_neg R.one) ∙ rings.zero_mul R (b i)

    -- where the later columns agree, so does this one
    agree_at : (j : ℕ) → j < n → ((t : ℕ) → j < t → t < n → x t ≡ y t) → Dec (d j ≡ R.zero) → x j ≡ y j
    agree_at j h later (yes z) = same_of_d j z
    agree_at j h later (no nz) = let both = first j (c, dependent) in both.0 ∙ sym both.1
      where
        factor : K
        factor = R.◌*◌ (R.neg R.one) (f.inverse (d j))

        c : ℕ → K
        c = (vectors R).◌·◌ factor d

        dependent : (i : ℕ) → i < m → a i j ≡ dot R j (a i) c
        dependent i p =
            let whole : dot R (suc j) (a i) d ≡ R.zero = sym (dot_until n (suc j) (a i) d (omega arith) (λ t q w. d_of_same t (later t (omega arith) w))) ∙ dot_d i p in
            last_by_others (a i j) (d j) (dot R j (a i) d) (f.inverse (d j)) whole (f.mul_inverse (d j) nz) ∙ sym (dot_act_right R j factor (a i) d)

    agree_from : (t j : ℕ) → n ≤ j + t → j < n → x j ≡ y j
    agree_from zero j h b = absurd (omega arith)
    agree_from (suc t) j h b = agree_at j b (λ s p q. agree_from t s (omega arith) q) (f.same (d j) R.zero)

    pub solutions_agree : (j : ℕ) → j < n → x j ≡ y j
    solutions_agree j b = agree_from n j (omega arith) b
