-- A list without repeats, without one of its members.
use Rattle.reynolds_op.proofs.Common.{◌≡◌, ◌⊎◌, inl, inr, List, [], ◌∷◌, ◌++◌, sym, subst, Contains, Contains-append_left, Contains-append_right, Contains-append_cases, AreApart, AreApart_head, AreApart_tail, AreApart_cons, Contains_head, Contains_tail, Contains_cases}

module _ {X : Type 0} where
  pub Contains_with : (before : List X) (x : X) (after : List X) (y : X) → Contains (before ++ after) y → Contains (before ++ x ∷ after) y
  Contains_with before x after y h = go (Contains-append_cases before after y h)
    where
      go : Contains before y ⊎ Contains after y → Contains (before ++ x ∷ after) y
      go (inl c) = Contains-append_left before (x ∷ after) y c
      go (inr c) = Contains-append_right before (x ∷ after) y (Contains_tail x after y c)

  pub AreApart_without : (before : List X) (x : X) (after : List X) → AreApart (before ++ x ∷ after) → AreApart (before ++ after) × (¬ Contains (before ++ after) x)
  AreApart_without [] x after a = (AreApart_tail x after a, AreApart_head x after a)
  AreApart_without (y ∷ before) x after a =
      let rest = AreApart_without before x after (AreApart_tail y (before ++ x ∷ after) a) in
      (AreApart_cons y (before ++ after) (λ c. apart (Contains_with before x after y c)) rest.0, λ c. go rest.1 (Contains_cases y (before ++ after) x c))
    where
      apart : ¬ Contains (before ++ x ∷ after) y
      apart = AreApart_head y (before ++ x ∷ after) a

      go : ¬ Contains (before ++ after) x → (y ≡ x) ⊎ Contains (before ++ after) x → ⊥
      go n (inl e) = apart (subst (Contains (before ++ x ∷ after)) (sym e) (Contains-append_right before (x ∷ after) x (Contains_head x after)))
      go n (inr c) = n c
