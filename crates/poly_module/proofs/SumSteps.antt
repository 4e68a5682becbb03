-- Sums of the values of terms, by halves.
use Rattle.std.proofs.Common.{◌≡◌, ℕ, List, [], ◌∷◌, ◌++◌, length, get_or, take, drop, refl, sym, ap, ap₂, ◌∙◌, arith, take-append-drop}
use Rattle.std.proofs.lemmas.List.{map-append}
use Rattle.alg_core.specs.Monomials.{Mon, mono}
use Rattle.alg_core.specs.Keys.{key}
use Rattle.alg_core.specs.Vectors.{Vect, vec, plus, scale}
use Rattle.alg_core.specs.declared.term.Term.{Term}
use Rattle.alg_core.specs.Spaces.{SpaceOver, entry, entries}
use Rattle.alg_core.proofs.VectorLaws.{vec_append, vec_nothing}
use Rattle.poly_module.specs.Polynomials.{vector_ring}
use Rattle.poly_module.specs.Substitutions.{monomial_value, monomial_value_mono, substitute, substitute_plus, substitute_scale, substitute_single, substitute_zero}
use Rattle.poly_module.proofs.ExponentBounds.{vec_scaled}

key_mono : (p : ℕ × List ℕ) → (key p).1 ≡ mono p.1
unfolding key
key_mono p = refl

module _ {E M : Type 0} (S : SpaceOver E) (exps : M → List ℕ) where
  abbrev Terms : Type 0
  Terms = List (Term E M)

  pub no_value : (xs : List (Vect S.field)) (fs v : Terms) → v ≡ [] → length fs ≡ 0 → vec S.field (entries exps v) ≡ substitute S.field xs (vec S.field (entries exps fs))
  no_value xs [] v none z = ap (λ l. vec S.field (entries exps l)) none ∙ vec_nothing S.field ∙ sym (ap (substitute S.field xs) (vec_nothing S.field) ∙ substitute_zero S.field xs)
  no_value xs (f ∷ fs) v none z = absurd (omega arith)

  term_value : (xs : List (Vect S.field)) (f : Term E M) → substitute S.field xs (vec S.field (entries exps (f ∷ []))) ≡ scale S.field f.coef (monomial_value (vector_ring S.field) xs (exps f.at.mono))
  term_value xs f =
      ap (substitute S.field xs) (vec_scaled S.field (entry exps f)) ∙ substitute_scale S.field xs f.coef _
      ∙ ap (scale S.field f.coef) (substitute_single S.field xs (key (entry exps f).0) ∙ ap (λ (m : Mon). monomial_value (vector_ring S.field) xs m.0) (key_mono (entry exps f).0) ∙ monomial_value_mono (vector_ring S.field) xs (exps f.at.mono))

  pub one_value : (xs : List (Vect S.field)) (fs value v : Terms) (f : Term E M) → length fs ≡ 1 → f ≡ get_or fs 0 f
      → vec S.field (entries exps value) ≡ monomial_value (vector_ring S.field) xs (exps f.at.mono)
      → vec S.field (entries exps v) ≡ scale S.field f.coef (vec S.field (entries exps value))
      → vec S.field (entries exps v) ≡ substitute S.field xs (vec S.field (entries exps fs))
  one_value xs [] value v f one read is times = absurd (omega arith)
  one_value xs (g ∷ []) value v f one read is times =
      times ∙ ap (scale S.field f.coef) is ∙ sym (term_value xs f) ∙ ap (λ (h : Term E M). substitute S.field xs (vec S.field (entries exps (h ∷ [])))) read
  one_value xs (g ∷ h ∷ fs) value v f one read is times = absurd (omega arith)

  pub value_halves : (xs : List (Vect S.field)) (n : ℕ) (fs front back sum left right : Terms) → front ≡ take n fs → back ≡ drop n fs
      → vec S.field (entries exps left) ≡ substitute S.field xs (vec S.field (entries exps front))
      → vec S.field (entries exps right) ≡ substitute S.field xs (vec S.field (entries exps back))
      → vec S.field (entries exps sum) ≡ plus S.field (vec S.field (entries exps left)) (vec S.field (entries exps right))
      → vec S.field (entries exps sum) ≡ substitute S.field xs (vec S.field (entries exps fs))
  value_halves xs n fs front back sum left right p q l r s =
      s ∙ ap₂ (plus S.field) l r ∙ sym (substitute_plus S.field xs _ _)
      ∙ ap (substitute S.field xs) (sym (vec_append S.field (entries exps front) (entries exps back)) ∙ ap (vec S.field) (sym (map-append (entry exps) front back) ∙ ap (entries exps) (ap₂ ◌++◌ p q ∙ take-append-drop n fs)))
