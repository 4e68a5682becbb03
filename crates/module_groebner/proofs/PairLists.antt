-- The pairs that a new member makes with those before it.
use Rattle.std.proofs.Common.{◌≡◌, ◌⊎◌, inl, inr, ◌<◌, ◌≤◌, ◌+◌, ℕ, List, [], ◌∷◌, ◌++◌, length, get_or, sym, ap, ◌∙◌, subst, arith, length-append, append-nil, append_assoc}
use native.Mathlib.Decide.{ℕ_discrete}
use Rattle.alg_core.specs.Lists.{In, in_left, in_right}
use Rattle.alg_core.specs.Vectors.{Entry}
use Rattle.alg_core.proofs.Members.{in_cases, in_contains}
use Rattle.module_groebner.specs.Progress.{Progress, lead_place}
use Rattle.module_groebner.specs.Items.{ArePairsWith}
use Rattle.module_groebner.proofs.Families.{in_all}

module _ {E : Type 0} (c : Progress E) (r : List (Entry E)) where
  -- the lead of the member at this place has the position of that of the new one
  abbrev pub Matches : ℕ → Type 0
  Matches i = (lead_place (get_or c.members i [])).0 ≡ (lead_place r).0

  -- the pairs before, and those with the first i members
  pub record Made (i : ℕ) (ps : List (ℕ × ℕ)) : Type 0 where
    pub new : List (ℕ × ℕ)
    pub is : ps ≡ c.pairs ++ new
    pub each : (p : ℕ × ℕ) → In p new → (p.0 < i) × (p.1 ≡ length c.members) × Matches p.0
    pub every : (j : ℕ) → j < i → Matches j → In (j, length c.members) new
    pub few : length new ≤ i

  pub made_start : (ps : List (ℕ × ℕ)) → ps ≡ c.pairs → Made 0 ps
  made_start ps e = record {
    new = [];
    is = e ∙ sym (append-nil c.pairs);
    each = λ p i. absurd i;
    every = λ j h m. absurd (omega arith);
    few = omega arith;
  }

  pub made_kept : (i : ℕ) (ps : List (ℕ × ℕ)) → Made i ps → ¬ Matches i → Made (i + 1) ps
  made_kept i ps m n = record {
    new = m.new;
    is = m.is;
    each = λ p h. let x = m.each p h in (let y = x.0 in omega arith, x.1, x.2);
    every = λ j h e. go j h e (ℕ_discrete j i);
    few = let x = m.few in omega arith;
  }
    where
      go : (j : ℕ) → j < i + 1 → Matches j → Dec (j ≡ i) → In (j, length c.members) m.new
      go j h e (yes s) = absurd (n (subst Matches s e))
      go j h e (no t) = m.every j (omega arith) e

  pub made_more : (i : ℕ) (ps qs : List (ℕ × ℕ)) (a b : ℕ) → Made i ps → qs ≡ ps ++ ((a, b) ∷ []) → a ≡ i → b ≡ length c.members → Matches i → Made (i + 1) qs
  made_more i ps qs a b m e ea eb here = record {
    new = m.new ++ ((a, b) ∷ []);
    is = e ∙ ap (λ l. l ++ ((a, b) ∷ [])) m.is ∙ append_assoc c.pairs m.new ((a, b) ∷ []);
    each = λ p h. each p (in_cases p m.new ((a, b) ∷ []) h);
    every = λ j h w. go j h w (ℕ_discrete j i);
    few = let x = m.few in let l = length-append m.new ((a, b) ∷ []) in omega arith;
  }
    where
      each : (p : ℕ × ℕ) → In p m.new ⊎ In p ((a, b) ∷ []) → (p.0 < i + 1) × (p.1 ≡ length c.members) × Matches p.0
      each p (inl h) = let x = m.each p h in (let y = x.0 in omega arith, x.1, x.2)
      each p (inr (inl s)) = let f : a ≡ p.0 = ap (λ z. z.0) s in let g : b ≡ p.1 = ap (λ z. z.1) s in
          (omega arith, sym g ∙ eb, subst Matches (sym ea ∙ f) here)
      each p (inr (inr h)) = absurd h

      go : (j : ℕ) → j < i + 1 → Matches j → Dec (j ≡ i) → In (j, length c.members) (m.new ++ ((a, b) ∷ []))
      go j h w (yes s) = in_right (j, length c.members) m.new ((a, b) ∷ []) (inl (ap (λ z. (z, b)) (ea ∙ sym s) ∙ ap (λ z. (j, z)) eb))
      go j h w (no t) = in_left (j, length c.members) m.new ((a, b) ∷ []) (m.every j (omega arith) w)

  pub made_all : (i : ℕ) (ps : List (ℕ × ℕ)) → Made i ps → i ≡ length c.members → ArePairsWith c r ps
  made_all i ps m n = record {
    new = m.new;
    is = m.is;
    within = in_all (λ p. p.0 < length c.members) m.new (λ p h. let x = (m.each p h).0 in omega arith);
    ends = in_all (λ p. p.1 ≡ length c.members) m.new (λ p h. (m.each p h).1);
    positions = in_all (λ p. (lead_place (get_or c.members p.0 [])).0 ≡ (lead_place r).0) m.new (λ p h. (m.each p h).2);
    every = λ j h e. in_contains (j, length c.members) m.new (m.every j (omega arith) e);
    few = let x = m.few in omega arith;
  }
