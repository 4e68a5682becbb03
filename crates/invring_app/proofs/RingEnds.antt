-- A problem has one end of `ring`.
use Rattle.std.proofs.Common.{◌≡◌, inl, inr}
use Rattle.std.specs.Prelude.{◌⊎◌}
use Rattle.alg_core.specs.declared.limits.Limits.{Limits}
use Rattle.finvar_text.specs.Problems.{Problem}
use Rattle.invring_app.specs.declared.status.BoundFault.{BoundFault}
use Rattle.invring_app.specs.Commands.Orders.{IsOrderBound}
use Rattle.invring_app.specs.Commands.Rings.{IsKept, IsSearchFault, IsRankFault, IsGraphFault, IsImageFault, IsTextFault, IsRingBound, IsRingAnswer}
use Rattle.invring_app.specs.Endings.{Ending, StopsAt, Rejects, Answers, AreAlike, AtProblem}
use Rattle.invring_app.specs.ErrorLines.{bound_pieces}
use Rattle.invring_app.specs.Inputs.{OfScript}
use Rattle.invring_app.proofs.RingStages.{HasGroup, HasFound, HasRanked, HasImages, search-group, found-group, rank-found, ranked-found, graph-ranked, images-ranked, fault-images, kept-images, one-order, no-order, one-search, no-search, one-rank, no-rank, one-graph, no-graph, one-image, no-image, one-text, no-text, one-answer}

-- an ending at a bound of which P holds
abbrev Stop : (BoundFault → Type 0) → Ending → Type 0
Stop P (StopsAt f) = P f
Stop P (Rejects c i text) = ⊥
Stop P (Answers text) = ⊥

stop-alike : (P : BoundFault → Type 0) → ((f g : BoundFault) → P f → P g → bound_pieces f ≡ bound_pieces g) → (e f : Ending) → Stop P e → Stop P f → AreAlike e f
stop-alike P one (StopsAt x) (StopsAt y) a b = one x y a b
stop-alike P one (StopsAt x) (Rejects c i text) a b = absurd b
stop-alike P one (StopsAt x) (Answers text) a b = absurd b
stop-alike P one (Rejects c i text) f a b = absurd a
stop-alike P one (Answers text) f a b = absurd a

stop-holds : (P : BoundFault → Type 0) (X : Type 0) → ((f : BoundFault) → P f → X) → (e : Ending) → Stop P e → X
stop-holds P X all (StopsAt f) a = all f a
stop-holds P X all (Rejects c i text) a = absurd a
stop-holds P X all (Answers text) a = absurd a

-- of the endings of a stage and the later ones, two are alike if those of each are, and they exclude one another
both : (A B : Ending → Type 0) → ((e f : Ending) → A e → A f → AreAlike e f) → ((e f : Ending) → A e → B f → ⊥) → ((e f : Ending) → B e → B f → AreAlike e f)
    → (e f : Ending) → A e ⊎ B e → A f ⊎ B f → AreAlike e f
both A B one apart rest e f (inl a) (inl b) = one e f a b
both A B one apart rest e f (inl a) (inr b) = absurd (apart e f a b)
both A B one apart rest e f (inr a) (inl b) = absurd (apart f e b a)
both A B one apart rest e f (inr a) (inr b) = rest e f a b

module _ (q : Problem) (l : Limits) where
  abbrev Answered : Ending → Type 0
  Answered (StopsAt f) = ⊥
  Answered (Rejects c i text) = ⊥
  Answered (Answers text) = IsRingAnswer l q text

  -- the endings from each stage on
  abbrev FromText : Ending → Type 0
  FromText e = Stop (IsTextFault q l) e ⊎ Answered e

  abbrev FromImages : Ending → Type 0
  FromImages e = Stop (IsImageFault q l) e ⊎ FromText e

  abbrev FromGraph : Ending → Type 0
  FromGraph e = Stop (IsGraphFault q l) e ⊎ FromImages e

  abbrev FromRank : Ending → Type 0
  FromRank e = Stop (IsRankFault q l) e ⊎ FromGraph e

  abbrev FromSearch : Ending → Type 0
  FromSearch e = Stop (IsSearchFault q l) e ⊎ FromRank e

  abbrev Whole : Ending → Type 0
  Whole e = Stop (IsOrderBound l q) e ⊎ FromSearch e

  at-stage : (e : Ending) → AtProblem (IsRingBound l) (IsRingAnswer l) (OfScript q) e → Whole e
  at-stage (StopsAt f) (inl a) = inl a
  at-stage (StopsAt f) (inr (inl a)) = inr (inl a)
  at-stage (StopsAt f) (inr (inr (inl a))) = inr (inr (inl a))
  at-stage (StopsAt f) (inr (inr (inr (inl a)))) = inr (inr (inr (inl a)))
  at-stage (StopsAt f) (inr (inr (inr (inr (inl a))))) = inr (inr (inr (inr (inl a))))
  at-stage (StopsAt f) (inr (inr (inr (inr (inr a))))) = inr (inr (inr (inr (inr (inl a)))))
  at-stage (Rejects c i text) a = absurd a
  at-stage (Answers text) a = inr (inr (inr (inr (inr (inr a)))))

  -- what is past at each

  answered-kept : (e : Ending) → Answered e → IsKept q l
  answered-kept (StopsAt f) a = absurd a
  answered-kept (Rejects c i text) a = absurd a
  answered-kept (Answers text) a = a.kept

  text-kept : (e : Ending) → FromText e → IsKept q l
  text-kept e (inl a) = stop-holds (IsTextFault q l) (IsKept q l) (λ f t. t.kept) e a
  text-kept e (inr a) = answered-kept e a

  have-images : (e : Ending) → FromImages e → HasImages q l
  have-images e (inl a) = stop-holds (IsImageFault q l) (HasImages q l) (fault-images q l) e a
  have-images e (inr a) = kept-images q l (text-kept e a)

  have-ranked : (e : Ending) → FromGraph e → HasRanked q l
  have-ranked e (inl a) = stop-holds (IsGraphFault q l) (HasRanked q l) (graph-ranked q l) e a
  have-ranked e (inr a) = images-ranked q l (have-images e a)

  have-found : (e : Ending) → FromRank e → HasFound q l
  have-found e (inl a) = stop-holds (IsRankFault q l) (HasFound q l) (rank-found q l) e a
  have-found e (inr a) = ranked-found q l (have-ranked e a)

  have-group : (e : Ending) → FromSearch e → HasGroup q l
  have-group e (inl a) = stop-holds (IsSearchFault q l) (HasGroup q l) (search-group q l) e a
  have-group e (inr a) = found-group q l (have-found e a)

  -- two are alike, from the last stage up

  answered-alike : (e f : Ending) → Answered e → Answered f → AreAlike e f
  answered-alike (StopsAt x) f a b = absurd a
  answered-alike (Rejects c i text) f a b = absurd a
  answered-alike (Answers text) (Rejects c i other) a b = absurd b
  answered-alike (Answers text) (StopsAt y) a b = absurd b
  answered-alike (Answers text) (Answers other) a b = one-answer q l text other a b

  text-answer : (f : BoundFault) (e : Ending) → IsTextFault q l f → Answered e → ⊥
  text-answer f (StopsAt x) a b = b
  text-answer f (Rejects c i text) a b = b
  text-answer f (Answers text) a b = no-text q l f text a b

  text-alike : (e f : Ending) → FromText e → FromText f → AreAlike e f
  text-alike = both (Stop (IsTextFault q l)) Answered (stop-alike (IsTextFault q l) (one-text q l)) (λ e f a b. stop-holds (IsTextFault q l) ⊥ (λ x t. text-answer x f t b) e a) answered-alike

  images-alike : (e f : Ending) → FromImages e → FromImages f → AreAlike e f
  images-alike = both (Stop (IsImageFault q l)) FromText (stop-alike (IsImageFault q l) (one-image q l)) (λ e f a b. stop-holds (IsImageFault q l) ⊥ (λ x t. no-image q l x t (text-kept f b)) e a) text-alike

  graph-alike : (e f : Ending) → FromGraph e → FromGraph f → AreAlike e f
  graph-alike = both (Stop (IsGraphFault q l)) FromImages (stop-alike (IsGraphFault q l) (one-graph q l)) (λ e f a b. stop-holds (IsGraphFault q l) ⊥ (λ x t. no-graph q l x t (have-images f b)) e a) images-alike

  rank-alike : (e f : Ending) → FromRank e → FromRank f → AreAlike e f
  rank-alike = both (Stop (IsRankFault q l)) FromGraph (stop-alike (IsRankFault q l) (one-rank q l)) (λ e f a b. stop-holds (IsRankFault q l) ⊥ (λ x t. no-rank q l x t (have-ranked f b)) e a) graph-alike

  search-alike : (e f : Ending) → FromSearch e → FromSearch f → AreAlike e f
  search-alike = both (Stop (IsSearchFault q l)) FromRank (stop-alike (IsSearchFault q l) (one-search q l)) (λ e f a b. stop-holds (IsSearchFault q l) ⊥ (λ x t. no-search q l x t (have-found f b)) e a) rank-alike

  pub ring-one : (e f : Ending) → AtProblem (IsRingBound l) (IsRingAnswer l) (OfScript q) e → AtProblem (IsRingBound l) (IsRingAnswer l) (OfScript q) f → AreAlike e f
  ring-one e f a b =
      both (Stop (IsOrderBound l q)) FromSearch (stop-alike (IsOrderBound l q) (one-order q l)) (λ x y s t. stop-holds (IsOrderBound l q) ⊥ (λ z r. no-order q l z r (have-group y t)) x s) search-alike
      e f (at-stage e a) (at-stage f b)
