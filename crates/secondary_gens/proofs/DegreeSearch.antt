-- Whether a degree is that of one of some polynomials, and the greatest of their degrees.
use Rattle.std.proofs.Common.{◌≡◌, ◌≢◌, ◌⊎◌, inl, inr, ℕ, ◌+◌, ◌<◌, ◌≤◌, List, [], ◌∷◌, ◌++◌, length, get_or, take, sym, ap, subst, ◌∙◌, arith}
use Rattle.std.specs.Prelude.{All}
use Rattle.std.proofs.lemmas.List.{take_more, take_all}
use Rattle.std.proofs.lemmas.List.Elements.{All-push}
use Rattle.alg_core.specs.Lists.{In}
use Rattle.alg_core.specs.declared.term.Term.{Term}
use Rattle.alg_core.proofs.Members.{in_cases}
use Rattle.secondary_gens.specs.Forms.{degree_of}
use Rattle.secondary_gens.specs.Secondaries.{IsDegreeIn}
use Rattle.secondary_gens.proofs.CombinationSteps.{in_at}

module _ {E : Type 0} (ps : List (List (Term E (List ℕ)))) where
  abbrev Terms : Type 0
  Terms = List (Term E (List ℕ))

  module _ (i : ℕ) (p : Terms) (inside : i < length ps) (read : p ≡ get_or ps i p) where
    more : take (i + 1) ps ≡ take i ps ++ p ∷ []
    more = take_more ps i p inside ∙ ap (λ y. take i ps ++ y ∷ []) (sym read)

    pub degree_found : (d : ℕ) → p ≢ [] → degree_of p ≡ d → IsDegreeIn ps d
    degree_found d n e = (p, subst (λ q. In q ps) (sym read) (in_at ps i p inside), n, e)

    pub degree_more : (d : ℕ) → (p ≡ []) ⊎ (¬ (degree_of p ≡ d)) → ¬ IsDegreeIn (take i ps) d → ¬ IsDegreeIn (take (i + 1) ps) d
    degree_more d other none h = let l = subst (λ l. IsDegreeIn l d) more h in go l.0 l.2 l.3 (in_cases l.0 (take i ps) (p ∷ []) l.1) other
      where
        go : (q : Terms) → q ≢ [] → degree_of q ≡ d → In q (take i ps) ⊎ In q (p ∷ []) → (p ≡ []) ⊎ (¬ (degree_of p ≡ d)) → ⊥
        go q n e (inl m) o = none (q, m, n, e)
        go q n e (inr (inl same)) (inl z) = n (sym same ∙ z)
        go q n e (inr (inl same)) (inr o) = o (ap degree_of same ∙ e)
        go q n e (inr (inr m)) o = absurd m

    pub greatest_more : (old new : ℕ) → All (λ p. degree_of p ≤ old) (take i ps) → old ≤ new → degree_of p ≤ new → All (λ p. degree_of p ≤ new) (take (i + 1) ps)
    greatest_more old new h l own = subst (All (λ p. degree_of p ≤ new)) (sym more) (All-push (λ p. degree_of p ≤ new) (take i ps) p (λ k q m. let a = h k q m in omega arith) own)

  pub greatest_all : (i n : ℕ) → length ps ≤ i → All (λ p. degree_of p ≤ n) (take i ps) → All (λ p. degree_of p ≤ n) ps
  greatest_all i n past h = subst (All (λ p. degree_of p ≤ n)) (take_all i ps past) h
