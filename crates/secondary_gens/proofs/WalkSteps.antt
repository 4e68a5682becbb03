-- The walk along the echelon bases, degree by degree.
use Rattle.std.proofs.Common.{◌≡◌, ◌⊎◌, inl, inr, ℕ, suc, ◌<◌, ◌≤◌, List, [], ◌∷◌, ◌++◌, length, sym, ap, refl, subst, arith}
use Rattle.std.proofs.lemmas.Bool.{cases_lt}
use Rattle.alg_core.specs.Fields.{FieldOn}
use Rattle.alg_core.specs.Lists.{In, in_right}
use Rattle.alg_core.specs.Spaces.{SpaceOver}
use Rattle.alg_core.specs.Vectors.{Vect, vectors, plus, zero_vector}
use Rattle.alg_core.proofs.SpanLaws.{span_ind}
use Rattle.poly_module.specs.Combinations.{Over}
use Rattle.poly_module.specs.Walks.{Keeps}
use Rattle.poly_module.proofs.CombinationLaws.{over_zero, over_plus, over_act}
use Rattle.poly_module.proofs.WalkLaws.{keeps_more}
use Rattle.lin_algebra.specs.declared.matrix.Matrix.{Matrix}
use Rattle.invariant_space.specs.InvariantSpaces.{IsEchelonBasis, IsInvariantForm}
use Rattle.secondary_gens.specs.Secondaries.{AreBases}
use Rattle.secondary_gens.proofs.Lists.{over_more, over_in}

module _ {A : Type 0} (Skips : List A → A → Type 0) where
  -- one member more at the end
  pub keeps_skip : (kept xs all : List A) (x : A) → Keeps Skips kept xs all → Skips all x → Keeps Skips kept (xs ++ x ∷ []) all
  keeps_skip kept [] all x h s = inl (subst (λ l. Skips l x) h s, h)
  keeps_skip kept (y ∷ xs) all x (inl h) s = inl (h.0, keeps_skip kept xs all x h.1 s)
  keeps_skip kept (y ∷ xs) all x (inr h) s = inr (h.0, keeps_skip (kept ++ y ∷ []) xs all x h.1 s)

  pub keeps_keep : (kept xs all : List A) (x : A) → Keeps Skips kept xs all → ¬ Skips all x → Keeps Skips kept (xs ++ x ∷ []) (all ++ x ∷ [])
  keeps_keep kept [] all x h n = inr (λ a. n (subst (λ l. Skips l x) (sym h) a), ap (λ l. l ++ x ∷ []) h)
  keeps_keep kept (y ∷ xs) all x (inl h) n = inl (h.0, keeps_keep kept xs all x h.1 n)
  keeps_keep kept (y ∷ xs) all x (inr h) n = inr (h.0, keeps_keep (kept ++ y ∷ []) xs all x h.1 n)

  -- one walk after another
  pub keeps_append : (kept xs mid ys all : List A) → Keeps Skips kept xs mid → Keeps Skips mid ys all → Keeps Skips kept (xs ++ ys) all
  keeps_append kept [] mid ys all h g = subst (λ l. Keeps Skips l ys all) h g
  keeps_append kept (x ∷ xs) mid ys all (inl h) g = inl (h.0, keeps_append kept xs mid ys all h.1 g)
  keeps_append kept (x ∷ xs) mid ys all (inr h) g = inr (h.0, keeps_append (kept ++ x ∷ []) xs mid ys all h.1 g)

  -- all are skipped
  pub keeps_none : (kept xs : List A) → ((x : A) → In x xs → Skips kept x) → Keeps Skips kept xs kept
  keeps_none kept [] h = refl
  keeps_none kept (x ∷ xs) h = inl (h x (inl refl), keeps_none kept xs (λ y i. h y (inr i)))

module _ {E : Type 0} (k : FieldOn E) (θ : List (Vect k)) where
  -- what was kept before is a combination in the end
  pub kept_over : (kept xs all : List (Vect k)) → Keeps (Over k θ) kept xs all → (f : Vect k) → Over k θ kept f → Over k θ all f
  kept_over kept xs all h f a = let m = keeps_more (Over k θ) kept xs all h in subst (λ l. Over k θ l f) (sym m.1) (over_more k θ kept m.0 f a)

  -- and so is each member along which the walk goes
  pub walked_over : (kept xs all : List (Vect k)) → Keeps (Over k θ) kept xs all → (x : Vect k) → In x xs → Over k θ all x
  walked_over kept [] all h x i = absurd i
  walked_over kept (y ∷ xs) all (inl h) x (inl e) = subst (Over k θ all) e (kept_over kept xs all h.1 y h.0)
  walked_over kept (y ∷ xs) all (inr h) x (inl e) = subst (Over k θ all) e (kept_over (kept ++ y ∷ []) xs all h.1 y (over_in k θ (kept ++ y ∷ []) y (in_right y kept (y ∷ []) (inl refl))))
  walked_over kept (y ∷ xs) all (inl h) x (inr i) = walked_over kept xs all h.1 x i
  walked_over kept (y ∷ xs) all (inr h) x (inr i) = walked_over (kept ++ y ∷ []) xs all h.1 x i

module _ {E : Type 0} (S : SpaceOver E) (gens : List (Matrix E)) (θ : List (Vect S.field)) where
  abbrev pub Form : ℕ → Vect S.field → Type 0
  Form d f = IsInvariantForm S.field (length S.weights) gens d f

  -- what is kept along the bases of the degrees below d
  pub record Walked (d : ℕ) (T : List (Vect S.field)) : Type 0 where
    pub forms : List (Vect S.field)
    pub bases : AreBases S gens d forms
    pub kept : Keeps (Over S.field θ) [] forms T
    pub covers : (e : ℕ) (f : Vect S.field) → e < d → Form e f → Over S.field θ T f

  pub walked_none : (T : List (Vect S.field)) → T ≡ [] → Walked 0 T
  walked_none T e = record { forms = []; bases = refl; kept = e; covers = λ e f l h. absurd (omega arith) }

  -- along the basis of degree d
  pub walked_more : (d : ℕ) (T U basis : List (Vect S.field)) → Walked d T → IsEchelonBasis S gens d basis → Keeps (Over S.field θ) T basis U → Walked (suc d) U
  unfolding plus zero_vector
  walked_more d T U basis w b h = record {
    forms = w.forms ++ basis;
    bases = (w.forms, basis, w.bases, b, refl);
    kept = keeps_append (Over S.field θ) [] w.forms T basis U w.kept h;
    covers = λ e f l a. go e f a (cases_lt e d) l;
  }
    where
      go : (e : ℕ) (f : Vect S.field) → Form e f → (e < d) ⊎ (d ≤ e) → e < suc d → Over S.field θ U f
      go e f a (inl l) m = kept_over S.field θ T basis U h f (w.covers e f l a)
      go e f a (inr l) m = span_ind (vectors S.field) (Over S.field θ U) (over_zero S.field θ U) (λ u v x y. over_plus S.field θ U u v x y) (over_act S.field θ U)
          basis (λ x i. walked_over S.field θ T basis U h x i) f (b.spans f (let same : e ≡ d = omega arith in subst (λ n. Form n f) same a))
