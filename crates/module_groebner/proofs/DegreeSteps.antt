-- The degrees of what a completion has still to treat, from the terms of its vectors.
use Rattle.std.proofs.Common.{◌≡◌, ◌<◌, ℕ, List, [], ◌∷◌, length, get_or, sym, ap, ◌∙◌, refl, arith}
use Rattle.alg_core.specs.CommonMultiples.{common_multiple}
use Rattle.alg_core.specs.ExponentLists.{lcm}
use Rattle.alg_core.specs.Keys.{TermPlace, key}
use Rattle.alg_core.specs.KeyLists.{place_degree}
use Rattle.alg_core.specs.declared.term.Term.{Term}
use Rattle.alg_core.specs.Spaces.{SpaceOver, place, entries, IsPlace}
use Rattle.alg_core.specs.SpaceGrading.{degree}
use Rattle.alg_core.specs.Vectors.{zero_vector}
use Rattle.alg_core.proofs.KeyLists.{degree_place}
use Rattle.alg_core.proofs.KeyMultiples.{place_lcm}
use Rattle.alg_core.proofs.VectorLaws.{vec_nothing}
use Rattle.poly_module.specs.SpaceVectors.{vector_of}
use Rattle.module_groebner.specs.Items.{first_degree}
use Rattle.module_groebner.specs.Progress.{lead_place}

module _ {E M : Type 0} (exps : M → List ℕ) where
  pub first_place : (v : List (Term E M)) (x : Term E M) → 0 < length v → x ≡ get_or v 0 x → lead_place (entries exps v) ≡ place exps x.at
  first_place [] x h e = absurd (omega arith)
  first_place (y ∷ v) x h e = ap (λ (z : Term E M). place exps z.at) (sym e)

  pub no_place : (v : List (Term E M)) → length v ≡ 0 → entries exps v ≡ []
  no_place [] e = refl
  no_place (y ∷ v) e = absurd (omega arith)

  pub has_entries : (v : List (Term E M)) → ¬ (length v ≡ 0) → ¬ (entries exps v ≡ [])
  has_entries [] n e = n refl
  has_entries (y ∷ v) n e = absurd cc

  module _ (S : SpaceOver E) where
    pub has_terms : (v : List (Term E M)) → ¬ (vector_of S exps v ≡ zero_vector S.field) → 0 < length v
    has_terms [] n = absurd (n (vec_nothing S.field))
    has_terms (x ∷ v) n = omega arith

    pub degree_of_first : (v : List (Term E M)) (x : Term E M) (n : ℕ) → 0 < length v → x ≡ get_or v 0 x → n ≡ degree S (key (place exps x.at)) → n ≡ first_degree S.weights S.shifts (entries exps v)
    degree_of_first [] x n h e is = absurd (omega arith)
    degree_of_first (y ∷ v) x n h e is = is ∙ degree_place S (place exps x.at) ∙ ap (λ (z : Term E M). place_degree S.weights S.shifts (place exps z.at)) e

    pub degree_of_none : (v : List (Term E M)) (n : ℕ) → length v ≡ 0 → n ≡ 0 → n ≡ first_degree S.weights S.shifts (entries exps v)
    degree_of_none [] n h e = e
    degree_of_none (y ∷ v) n h e = absurd (omega arith)

module _ {E : Type 0} (S : SpaceOver E) where
  pub degree_of_pair : (p q l : TermPlace) (n : ℕ) → IsPlace S p → IsPlace S q → key l ≡ common_multiple (key p) (key q) → n ≡ degree S (key l) → n ≡ place_degree S.weights S.shifts (p.0, lcm p.1 q.1)
  degree_of_pair p q l n hp hq e is = is ∙ ap (degree S) (e ∙ sym (place_lcm p q (hp.wide ∙ sym hq.wide))) ∙ degree_place S (p.0, lcm p.1 q.1)
