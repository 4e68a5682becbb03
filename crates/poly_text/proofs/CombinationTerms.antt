-- Terms of a vector over a space.
use Rattle.std.proofs.Common.{ℕ, ◌<◌, List, [], ◌∷◌, length}
use Rattle.std.specs.Prelude.{All}
use Rattle.std.proofs.lemmas.List.Elements.{All-nil, All-cons}
use Rattle.alg_core.specs.declared.term.Term.{Term}
use Rattle.alg_core.specs.Spaces.{SpaceOver, entry, entries, IsTerm, Fits}
use Rattle.alg_core.specs.Vectors.{Entry}

-- the positions of a vector over a space
pub fits_low : {E : Type 0} (S : SpaceOver E) (es : List (Entry E)) → Fits S es → All (λ e. e.0.0 < length S.shifts) es
fits_low S [] h = All-nil (λ e. e.0.0 < length S.shifts)
fits_low S (e ∷ es) h = All-cons (λ e. e.0.0 < length S.shifts) e es h.0.place.low (fits_low S es h.2)

-- what holds of each term of the space holds of those of a vector over it
pub fits_all : {E M : Type 0} (S : SpaceOver E) (exps : M → List ℕ) (Q : Term E M → Type 0) (ts : List (Term E M)) → ((t : Term E M) → IsTerm S (entry exps t) → Q t) → Fits S (entries exps ts) → All Q ts
fits_all S exps Q [] each h = All-nil Q
fits_all S exps Q (t ∷ ts) each h = All-cons Q t ts (each t h.0) (fits_all S exps Q ts each h.2)
