-- From step to step of a check: what is in order after a condition, and how a check ends at one.
use Rattle.std.proofs.Common.{◌≡◌, ◌∙◌, ◌⊎◌, ℕ, suc, ◌+◌, ◌<◌, ◌≤◌, List, [], ◌∷◌, length, get_or, inl, inr, refl, sym, ap, subst, arith}
use Rattle.std.proofs.lemmas.Bool.{cases_lt}
use Rattle.alg_core.specs.Fields.{FieldOn}
use Rattle.alg_core.specs.declared.limits.Limits.{Limits}
use Rattle.lin_algebra.specs.declared.matrix.Matrix.{Matrix}
use Rattle.certificate_io.specs.Certificates.{CertificateOf}
use Rattle.cert_check.specs.Conditions.{Condition, Group, Primaries, Lifts, Powers, LiftBasis, Rank, Secondaries, Evidence, Redundance, Words, Reducibility, number, Meets}
use Rattle.cert_check.specs.Work.{IsBefore, Stop, GroupStop, RankStop, TermStop, stop_point, MeetsBefore, Keeps, KeepsBefore, Reached, Fails, Passes}

condition : ℕ → Condition
condition n =
    get_or (Group ∷ Group ∷ Primaries ∷ Lifts ∷ Powers ∷ LiftBasis ∷ Rank ∷ Secondaries ∷ Evidence ∷ Redundance ∷ Words ∷ Reducibility ∷ []) n Group

numbered : (a : Condition) → condition (number a) ≡ a
unfolding condition
numbered Group = refl
numbered Primaries = refl
numbered Lifts = refl
numbered Powers = refl
numbered LiftBasis = refl
numbered Rank = refl
numbered Secondaries = refl
numbered Evidence = refl
numbered Redundance = refl
numbered Words = refl
numbered Reducibility = refl

-- conditions with one number are one
pub one_number : (a b : Condition) → number a ≡ number b → a ≡ b
one_number a b e = sym (numbered a) ∙ ap condition e ∙ numbered b

-- a point before the first item of a condition is one of a condition before it
lower : (a b : Condition) (i : ℕ) → IsBefore (a, i) (b, 0) → number a < number b
lower a b i (inl h) = h
lower a b i (inr (e, h)) = absurd (omega (arith, h))

-- a number below the next one
below-next : (m n : ℕ) → m < suc n → (m < n) ⊎ (m ≡ n)
below-next m n h = either (cases_lt m n)
  where
    either : (m < n) ⊎ (n ≤ m) → (m < n) ⊎ (m ≡ n)
    either (inl l) = inl l
    either (inr g) = inr (omega (arith, g, h))

module _ (k : FieldOn ℕ) (gens : List (Matrix ℕ)) (c : CertificateOf ℕ) (l : Limits) where
  -- the limits that are looked at within a condition
  abbrev pub KeepsOf : Condition → Type 0
  KeepsOf a = (s : Stop) → number (stop_point gens c s).0 ≡ number a → Keeps k gens c l s

  abbrev pub KeepsWithin : Condition → ℕ → Type 0
  KeepsWithin a i = (s : Stop) → number (stop_point gens c s).0 ≡ number a → (stop_point gens c s).1 ≤ i → Keeps k gens c l s

  -- to the next condition
  pub next_condition : (a b : Condition) → number b ≡ suc (number a) → Reached k gens c l (a, 0) → KeepsOf a → ((i : ℕ) → Meets k gens c a i)
      → Reached k gens c l (b, 0)
  next_condition a b next reached kept met = record { met = met-before; kept = kept-before }
    where
      under : (x : Condition) → number x < number b → number x < suc (number a)
      under x h = subst (λ n. number x < n) next h

      met-at : (x : Condition) (i : ℕ) → (number x < number a) ⊎ (number x ≡ number a) → Meets k gens c x i
      met-at x i (inl h) = reached.met x i (inl h)
      met-at x i (inr e) = subst (λ y. Meets k gens c y i) (sym (one_number x a e)) (met i)

      met-before : MeetsBefore k gens c (b, 0)
      met-before x i h = met-at x i (below-next (number x) (number a) (under x (lower x b i h)))

      kept-at : (s : Stop) → (number (stop_point gens c s).0 < number a) ⊎ (number (stop_point gens c s).0 ≡ number a) → Keeps k gens c l s
      kept-at s (inl h) = reached.kept s (inl h)
      kept-at s (inr e) = kept s e

      kept-before : KeepsBefore k gens c l (b, 0)
      kept-before s h = kept-at s (below-next _ (number a) (under _ (lower (stop_point gens c s).0 b (stop_point gens c s).1 h)))

  -- a condition fails at an item: all before it is in order
  pub fails_at : (a : Condition) (i : ℕ) → Reached k gens c l (a, 0) → KeepsWithin a i → ((j : ℕ) → j < i → Meets k gens c a j) → ¬ Meets k gens c a i
      → Fails k gens c l a i
  fails_at a i reached kept met fails = record { met = met-before; kept = kept-before; fails = fails }
    where
      met-before : MeetsBefore k gens c (a, i)
      met-before x j (inl h) = reached.met x j (inl h)
      met-before x j (inr (e, h)) = subst (λ y. Meets k gens c y j) (sym (one_number x a e)) (met j h)

      kept-before : KeepsBefore k gens c l (a, i + 1)
      kept-before s (inl h) = reached.kept s (inl h)
      kept-before s (inr (e, h)) = kept s e (omega (arith, h))

  -- the limits within the conditions
  no-stop : (a : Condition) → ¬ (number a ≡ 1) → ¬ (number a ≡ 6) → ¬ (number a ≡ 9) → KeepsOf a
  no-stop a one six nine GroupStop e = absurd (one (sym e))
  no-stop a one six nine RankStop e = absurd (six (sym e))
  no-stop a one six nine TermStop e = absurd (nine (sym e))

  group-stop : Keeps k gens c l GroupStop → KeepsOf Group
  group-stop kept GroupStop e = kept
  group-stop kept RankStop e = absurd (omega (arith, e))
  group-stop kept TermStop e = absurd (omega (arith, e))

  rank-stop : Keeps k gens c l RankStop → KeepsOf Rank
  rank-stop kept GroupStop e = absurd (omega (arith, e))
  rank-stop kept RankStop e = kept
  rank-stop kept TermStop e = absurd (omega (arith, e))

  term-stop : Keeps k gens c l TermStop → KeepsOf Redundance
  term-stop kept GroupStop e = absurd (omega (arith, e))
  term-stop kept RankStop e = absurd (omega (arith, e))
  term-stop kept TermStop e = kept

  -- nothing is before the first item of the first condition
  pub at_start : Reached k gens c l (Group, 0)
  at_start = record { met = λ a i h. absurd (none a i h); kept = λ s h. absurd (none (stop_point gens c s).0 (stop_point gens c s).1 h) }
    where
      least : (a : Condition) → ¬ (number a < 1)
      least Group h = omega (arith, h)
      least Primaries h = omega (arith, h)
      least Lifts h = omega (arith, h)
      least Powers h = omega (arith, h)
      least LiftBasis h = omega (arith, h)
      least Rank h = omega (arith, h)
      least Secondaries h = omega (arith, h)
      least Evidence h = omega (arith, h)
      least Redundance h = omega (arith, h)
      least Words h = omega (arith, h)
      least Reducibility h = omega (arith, h)

      none : (a : Condition) (i : ℕ) → ¬ IsBefore (a, i) (Group, 0)
      none a i h = least a (lower a Group i h)

  -- each condition passed
  pub group_passed : Keeps k gens c l GroupStop → ((i : ℕ) → Meets k gens c Group i) → Reached k gens c l (Primaries, 0)
  group_passed kept met = next_condition Group Primaries refl at_start (group-stop kept) met

  pub primaries_passed : Reached k gens c l (Primaries, 0) → ((i : ℕ) → Meets k gens c Primaries i) → Reached k gens c l (Lifts, 0)
  primaries_passed r = next_condition Primaries Lifts refl r (no-stop Primaries (λ e. omega (arith, e)) (λ e. omega (arith, e)) (λ e. omega (arith, e)))

  pub lifts_passed : Reached k gens c l (Lifts, 0) → ((i : ℕ) → Meets k gens c Lifts i) → Reached k gens c l (Powers, 0)
  lifts_passed r = next_condition Lifts Powers refl r (no-stop Lifts (λ e. omega (arith, e)) (λ e. omega (arith, e)) (λ e. omega (arith, e)))

  pub powers_passed : Reached k gens c l (Powers, 0) → ((i : ℕ) → Meets k gens c Powers i) → Reached k gens c l (LiftBasis, 0)
  powers_passed r = next_condition Powers LiftBasis refl r (no-stop Powers (λ e. omega (arith, e)) (λ e. omega (arith, e)) (λ e. omega (arith, e)))

  pub basis_passed : Reached k gens c l (LiftBasis, 0) → ((i : ℕ) → Meets k gens c LiftBasis i) → Reached k gens c l (Rank, 0)
  basis_passed r = next_condition LiftBasis Rank refl r (no-stop LiftBasis (λ e. omega (arith, e)) (λ e. omega (arith, e)) (λ e. omega (arith, e)))

  pub rank_passed : Reached k gens c l (Rank, 0) → Keeps k gens c l RankStop → ((i : ℕ) → Meets k gens c Rank i) → Reached k gens c l (Secondaries, 0)
  rank_passed r kept = next_condition Rank Secondaries refl r (rank-stop kept)

  pub secondaries_passed : Reached k gens c l (Secondaries, 0) → ((i : ℕ) → Meets k gens c Secondaries i) → Reached k gens c l (Evidence, 0)
  secondaries_passed r = next_condition Secondaries Evidence refl r (no-stop Secondaries (λ e. omega (arith, e)) (λ e. omega (arith, e)) (λ e. omega (arith, e)))

  pub evidence_passed : Reached k gens c l (Evidence, 0) → ((i : ℕ) → Meets k gens c Evidence i) → Reached k gens c l (Redundance, 0)
  evidence_passed r = next_condition Evidence Redundance refl r (no-stop Evidence (λ e. omega (arith, e)) (λ e. omega (arith, e)) (λ e. omega (arith, e)))

  -- the condition of an item 0 that says nothing
  pub terms_passed : Reached k gens c l (Redundance, 0) → Keeps k gens c l TermStop → Meets k gens c Redundance 0 → Reached k gens c l (Redundance, 1)
  terms_passed r kept met = record { met = met-before; kept = kept-before }
    where
      met-before : MeetsBefore k gens c (Redundance, 1)
      met-before x j (inl h) = r.met x j (inl h)
      met-before x j (inr (e, h)) =
          let zeroth : j ≡ 0 = omega (arith, h) in
          subst (λ y. Meets k gens c y j) (sym (one_number x Redundance e)) (subst (λ n. Meets k gens c Redundance n) (sym zeroth) met)

      kept-before : KeepsBefore k gens c l (Redundance, 1)
      kept-before s (inl h) = r.kept s (inl h)
      kept-before s (inr (e, h)) = term-stop kept s e

  -- before its first item
  pub terms_kept : Reached k gens c l (Redundance, 1) → Reached k gens c l (Redundance, 0) × Keeps k gens c l TermStop
  terms_kept r = (record { met = met-before; kept = kept-before }, r.kept TermStop (inr (refl, omega arith)))
    where
      met-before : MeetsBefore k gens c (Redundance, 0)
      met-before x j h = r.met x j (inl (lower x Redundance j h))

      kept-before : KeepsBefore k gens c l (Redundance, 0)
      kept-before s h = r.kept s (inl (lower (stop_point gens c s).0 Redundance (stop_point gens c s).1 h))

  pub redundance_passed : Reached k gens c l (Redundance, 1) → ((i : ℕ) → Meets k gens c Redundance i) → Reached k gens c l (Words, 0)
  redundance_passed r = let t = terms_kept r in next_condition Redundance Words refl t.0 (term-stop t.1)

  pub words_passed : Reached k gens c l (Words, 0) → ((i : ℕ) → Meets k gens c Words i) → Reached k gens c l (Reducibility, 0)
  words_passed r = next_condition Words Reducibility refl r (no-stop Words (λ e. omega (arith, e)) (λ e. omega (arith, e)) (λ e. omega (arith, e)))

  pub all_passed : Reached k gens c l (Reducibility, 0) → ((i : ℕ) → Meets k gens c Reducibility i) → Passes k gens c l
  all_passed r met = record { holds = holds; kept = kept }
    where
      holds : (a : Condition) (i : ℕ) → Meets k gens c a i
      holds Group i = r.met Group i (inl (omega arith))
      holds Primaries i = r.met Primaries i (inl (omega arith))
      holds Lifts i = r.met Lifts i (inl (omega arith))
      holds Powers i = r.met Powers i (inl (omega arith))
      holds LiftBasis i = r.met LiftBasis i (inl (omega arith))
      holds Rank i = r.met Rank i (inl (omega arith))
      holds Secondaries i = r.met Secondaries i (inl (omega arith))
      holds Evidence i = r.met Evidence i (inl (omega arith))
      holds Redundance i = r.met Redundance i (inl (omega arith))
      holds Words i = r.met Words i (inl (omega arith))
      holds Reducibility i = met i

      kept : (s : Stop) → Keeps k gens c l s
      kept GroupStop = r.kept GroupStop (inl (omega arith))
      kept RankStop = r.kept RankStop (inl (omega arith))
      kept TermStop = r.kept TermStop (inl (omega arith))

  -- a condition with no limit fails
  pub plain_fails : (a : Condition) (i : ℕ) → ¬ (number a ≡ 1) → ¬ (number a ≡ 6) → ¬ (number a ≡ 9) → Reached k gens c l (a, 0)
      → ((j : ℕ) → j < i → Meets k gens c a j) → ¬ Meets k gens c a i → Fails k gens c l a i
  plain_fails a i one six nine r = fails_at a i r (λ s e h. no-stop a one six nine s e)

  -- a matrix, before the limit on the group
  pub matrix_fails : (i : ℕ) → i ≤ length gens → ((j : ℕ) → j < i → Meets k gens c Group j) → ¬ Meets k gens c Group i → Fails k gens c l Group i
  matrix_fails i within = fails_at Group i at_start before
    where
      before : KeepsWithin Group i
      before GroupStop e h = absurd (omega (arith, h, within))
      before RankStop e h = absurd (omega (arith, e))
      before TermStop e h = absurd (omega (arith, e))

  pub order_fails : (i : ℕ) → Keeps k gens c l GroupStop → ((j : ℕ) → j < i → Meets k gens c Group j) → ¬ Meets k gens c Group i → Fails k gens c l Group i
  order_fails i kept = fails_at Group i at_start (λ s e h. group-stop kept s e)

  -- after the limit on the standard monomials
  pub rank_fails : (i : ℕ) → Reached k gens c l (Rank, 0) → Keeps k gens c l RankStop → ((j : ℕ) → j < i → Meets k gens c Rank j)
      → ¬ Meets k gens c Rank i → Fails k gens c l Rank i
  rank_fails i r kept = fails_at Rank i r (λ s e h. rank-stop kept s e)

  pub redundance_fails : (i : ℕ) → Reached k gens c l (Redundance, 1) → ((j : ℕ) → j < i → Meets k gens c Redundance j) → ¬ Meets k gens c Redundance i
      → Fails k gens c l Redundance i
  redundance_fails i r = let t = terms_kept r in fails_at Redundance i t.0 (λ s e h. term-stop t.1 s e)
