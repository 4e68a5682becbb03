-- The greatest degree of the polynomials of a list of members, one by one.
use Rattle.std.proofs.Common.{◌≡◌, ◌∙◌, ◌+◌, ◌<◌, ◌≤◌, ℕ, List, [], ◌∷◌, ◌++◌, length, take, get_or, sym, ap, subst}
use Rattle.std.specs.Prelude.{All}
use Rattle.std.proofs.lemmas.List.{take_all, take_more}
use Rattle.std.proofs.lemmas.List.Elements.{All-push}
use Rattle.alg_core.specs.Spaces.{SpaceOver}
use Rattle.poly_module.specs.SpaceVectors.{IsUpTo, vector_of}
use Rattle.module_groebner.proofs.BasisSteps.{up_to_more}
use Rattle.module_groebner.proofs.Families.{all_in, in_all}
use Rattle.syzygy_kernel.specs.declared.member.Member.{Member}

module _ {E : Type 0} (S : SpaceOver E) where
  abbrev pub HasDegrees : ℕ → Member E → Type 0
  HasDegrees d m = IsUpTo S d (vector_of S (λ (a : List ℕ). a) m.u)

  pub degrees_next : (list : List (Member E)) (i d e most : ℕ) (x : Member E) → i < length list → x ≡ get_or list i x → d ≤ most → e ≤ most → HasDegrees e x
      → All (HasDegrees d) (take i list) → All (HasDegrees most) (take (i + 1) list)
  degrees_next list i d e most x l read low new is h =
      subst (All (HasDegrees most)) (sym (take_more list i x l ∙ ap (λ y. take i list ++ y ∷ []) (sym read)))
      (All-push (HasDegrees most) (take i list) x
      (in_all (HasDegrees most) (take i list) (λ m j. up_to_more S (λ (a : List ℕ). a) d most low (vector_of S (λ a. a) m.u) (all_in (HasDegrees d) (take i list) h m j)))
      (up_to_more S (λ (a : List ℕ). a) e most new (vector_of S (λ a. a) x.u) is))

  pub degrees_all : (list : List (Member E)) (i d : ℕ) → length list ≤ i → All (HasDegrees d) (take i list) → All (HasDegrees d) list
  degrees_all list i d past h = subst (All (HasDegrees d)) (take_all i list past) h
