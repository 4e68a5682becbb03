-- A sum by its halves.
use Rattle.std.proofs.Common.{◌≡◌, ◌≢◌, ℕ, zero, suc, List, [], ◌∷◌, take, drop, sym, ap, ap₂, subst, ◌∙◌, arith, take-append-drop}
use Rattle.std.specs.Prelude.{All}
use Rattle.std.proofs.lemmas.List.{map-append}
use Rattle.alg_core.specs.Fields.{Has}
use Rattle.alg_core.specs.declared.term.Term.{Term}
use Rattle.alg_core.specs.Spaces.{SpaceOver, entry, entries, IsPlace, Fits}
use Rattle.alg_core.specs.Vectors.{vec, plus}
use Rattle.alg_core.proofs.VectorLaws.{vec_append, vec_nothing, vec_zero}

module _ {E M : Type 0} (S : SpaceOver E) (exps : M → List ℕ) where
  abbrev pub Given : List (Term E M) → Type 0
  Given ts = All (λ e. Has S.field e.1 × IsPlace S e.0) (entries exps ts)

  tail_given : (t : Term E M) (ts : List (Term E M)) → Given (t ∷ ts) → Given ts
  tail_given t ts h k d w = h (suc k) d (omega arith)

  cons_given : (t : Term E M) (ts : List (Term E M)) → (Has S.field t.coef × IsPlace S (entry exps t).0) → Given ts → Given (t ∷ ts)
  cons_given t ts a h zero d w = a
  cons_given t ts a h (suc k) d w = h k d (omega arith)

  pub head_given : (t : Term E M) (ts : List (Term E M)) → Given (t ∷ ts) → Has S.field t.coef × IsPlace S (entry exps t).0
  head_given t ts h = h 0 (entry exps t) (omega arith)

  pub front_given : (n : ℕ) (ts front : List (Term E M)) → front ≡ take n ts → Given ts → Given front
  front_given n ts front e h = subst Given (sym e) (go n ts h)
    where
      none : Given []
      none k d w = absurd (omega arith)

      go : (n : ℕ) (ts : List (Term E M)) → Given ts → Given (take n ts)
      go zero ts h = none
      go (suc n) [] h = none
      go (suc n) (t ∷ ts) h = cons_given t (take n ts) (head_given t ts h) (go n ts (tail_given t ts h))

  pub back_given : (n : ℕ) (ts back : List (Term E M)) → back ≡ drop n ts → Given ts → Given back
  back_given n ts back e h = subst Given (sym e) (go n ts h)
    where
      go : (n : ℕ) (ts : List (Term E M)) → Given ts → Given (drop n ts)
      go zero ts h = h
      go (suc n) [] h = h
      go (suc n) (t ∷ ts) h = go n ts (tail_given t ts h)

  pub halves : (n : ℕ) (ts front back sum left right : List (Term E M)) → front ≡ take n ts → back ≡ drop n ts
      → vec S.field (entries exps left) ≡ vec S.field (entries exps front) → vec S.field (entries exps right) ≡ vec S.field (entries exps back)
      → vec S.field (entries exps sum) ≡ plus S.field (vec S.field (entries exps left)) (vec S.field (entries exps right)) → vec S.field (entries exps sum) ≡ vec S.field (entries exps ts)
  halves n ts front back sum left right p q l r s =
      s ∙ ap₂ (plus S.field) (l ∙ ap (λ z. vec S.field (entries exps z)) p) (r ∙ ap (λ z. vec S.field (entries exps z)) q) ∙ sym (vec_append S.field _ _)
      ∙ ap (vec S.field) (sym (map-append (entry exps) (take n ts) (drop n ts)) ∙ ap (entries exps) (take-append-drop n ts))

  -- one term
  pub one_fits : (t : Term E M) → Has S.field t.coef × IsPlace S (entry exps t).0 → t.coef ≢ S.field.zero → Fits S (entries exps (t ∷ []))
  one_fits t g nz = (record { has = g.0; not_zero = nz; place = g.1 }, tt, tt)

  pub zero_gone : (t : Term E M) → t.coef ≡ S.field.zero → vec S.field (entries exps (t ∷ [])) ≡ vec S.field []
  zero_gone t z = ap (λ c. vec S.field (((entry exps t).0, c) ∷ [])) z ∙ vec_zero S.field _ ∙ sym (vec_nothing S.field)
