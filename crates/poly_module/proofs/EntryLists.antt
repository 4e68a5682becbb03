-- Entries of lists of terms, one by one.
use Rattle.std.proofs.Common.{◌≡◌, ◌<◌, ℕ, zero, suc, List, [], ◌∷◌, length, get_or, sym, subst, arith}
use Rattle.std.specs.Prelude.{All}
use Rattle.alg_core.specs.declared.term.Term.{Term}
use Rattle.alg_core.specs.Vectors.{Entry}
use Rattle.alg_core.specs.Fields.{Has}
use Rattle.alg_core.specs.Spaces.{SpaceOver, entry, entries, IsPlace, IsTerm, Fits}
use Rattle.std.proofs.lemmas.List.Elements.{All-cons, All-nil}
use Rattle.poly_module.specs.SpaceVectors.{ArePlaced}

module _ {E M : Type 0} (S : SpaceOver E) (exps : M → List ℕ) where
  -- each term of a list that fits is a term
  pub entry_at : (xs : List (Term E M)) (i : ℕ) (x : Term E M) → i < length xs → x ≡ get_or xs i x → Fits S (entries exps xs) → IsTerm S (entry exps x)
  entry_at [] i x h read f = absurd (omega arith)
  entry_at (y ∷ xs) zero x h read f = subst (λ z. IsTerm S (entry exps z)) (sym read) f.0
  entry_at (y ∷ xs) (suc i) x h read f = entry_at xs i x (omega arith) read f.2

  -- what holds of all entries holds of this one
  pub given_at : (P : Entry E → Type 0) (xs : List (Term E M)) (i : ℕ) (x : Term E M) → i < length xs → x ≡ get_or xs i x → All P (entries exps xs) → P (entry exps x)
  given_at P [] i x h read f = absurd (omega arith)
  given_at P (y ∷ xs) zero x h read f = subst (λ z. P (entry exps z)) (sym read) (f 0 (entry exps y) (omega arith))
  given_at P (y ∷ xs) (suc i) x h read f = given_at P xs i x (omega arith) read (λ k d w. f (suc k) d (omega arith))

  -- one term with a value of the field at a place of the space
  pub one_placed : (t : Term E M) → Has S.field (entry exps t).1 → IsPlace S (entry exps t).0 → ArePlaced S exps (t ∷ [])
  one_placed t has place = All-cons (λ e. Has S.field e.1 × IsPlace S e.0) (entry exps t) [] (has, place) (All-nil (λ e. Has S.field e.1 × IsPlace S e.0))

  -- of one term: its value and its place
  pub placed_one : (t : Term E M) → ArePlaced S exps (t ∷ []) → Has S.field (entry exps t).1 × IsPlace S (entry exps t).0
  placed_one t given = given 0 (entry exps t) (omega arith)
