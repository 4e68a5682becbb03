-- The loop over the members of a kernel: the values of those that are named fixed, one after another.
use Rattle.std.proofs.Common.{◌≡◌, ◌∙◌, ◌+◌, ◌<◌, ◌≤◌, ℕ, Bool, true, false, List, [], ◌∷◌, ◌++◌, length, drop, get_or, refl, sym, ap, subst, append_assoc, append-nil}
use Rattle.std.specs.Prelude.{All, if◌then◌else◌}
use Rattle.std.proofs.lemmas.List.{drop_more, drop_all}
use Rattle.std.proofs.lemmas.List.Elements.{All-nil, All-push}
use Rattle.alg_core.specs.Spaces.{SpaceOver}
use Rattle.alg_core.specs.Vectors.{Vect}
use Rattle.alg_core.specs.declared.term.Term.{Term}
use Rattle.poly_module.specs.Combinations.{mark_value}
use Rattle.poly_module.specs.SpaceVectors.{vector_of, vectors_of}
use Rattle.module_groebner.proofs.Families.{map_append}
use Rattle.secondary_gens.specs.Forms.{IsSmallForm}
use Rattle.syzygy_kernel.specs.Kernels.{polynomial_of, fixed_values}
use Rattle.syzygy_kernel.specs.declared.member.Member.{Member}

abbrev Terms : Type 0
Terms = List (Term ℕ (List ℕ))

module _ (S : SpaceOver ℕ) (θ : List (Vect S.field)) (ms : List (Member ℕ)) where
  abbrev n : ℕ
  n = length S.weights

  -- what was made of the members before the place i
  pub record Valued (i : ℕ) (fs : List Terms) : Type 0 where
    pub forms : All (IsSmallForm S) fs
    pub values : vectors_of S (λ m. m) fs ++ fixed_values S.field (length S.weights) θ (drop i ms) ≡ fixed_values S.field (length S.weights) θ ms

  pub valued_start : Valued 0 []
  valued_start = record { forms = All-nil (IsSmallForm S); values = refl }

  pub valued_end : (i : ℕ) (fs : List Terms) → length ms ≤ i → Valued i fs → vectors_of S (λ m. m) fs ≡ fixed_values S.field (length S.weights) θ ms
  valued_end i fs past was = sym (append-nil (vectors_of S (λ m. m) fs)) ∙ ap (λ l. vectors_of S (λ m. m) fs ++ fixed_values S.field (length S.weights) θ l) (sym (drop_all i ms past)) ∙ was.values

  module _ (i : ℕ) (fs : List Terms) (was : Valued i fs) (m : Member ℕ) (below : i < length ms) (read : m ≡ get_or ms i m) where
    here : fixed_values S.field (length S.weights) θ (drop i ms) ≡ fixed_values S.field (length S.weights) θ (m ∷ drop (i + 1) ms)
    here = ap (fixed_values S.field (length S.weights) θ) (drop_more ms i m below ∙ ap (λ x. x ∷ drop (i + 1) ms) (sym read))

    -- a member that is moved
    pub valued_past : m.is_fixed ≡ false → Valued (i + 1) fs
    valued_past moved = record {
      forms = was.forms;
      values = ap (λ vs. vectors_of S (λ m. m) fs ++ vs) (sym (here ∙ ap (λ (b : Bool). if b then mark_value S.field (length S.weights) θ (polynomial_of S.field m) ∷ fixed_values S.field (length S.weights) θ (drop (i + 1) ms) else fixed_values S.field (length S.weights) θ (drop (i + 1) ms)) moved)) ∙ was.values;
    }

    -- a member that is fixed, and its value
    pub valued_more : m.is_fixed ≡ true → (f : Terms) (now : List Terms) → IsSmallForm S f → vector_of S (λ m. m) f ≡ mark_value S.field (length S.weights) θ (polynomial_of S.field m) → now ≡ fs ++ f ∷ [] → Valued (i + 1) now
    valued_more fixed f now small is pushed = subst (Valued (i + 1)) (sym pushed) (record {
      forms = All-push (IsSmallForm S) fs f was.forms small;
      values = ap (λ vs. vs ++ fixed_values S.field (length S.weights) θ (drop (i + 1) ms)) (map_append (vector_of S (λ m. m)) fs (f ∷ []))
          ∙ append_assoc (vectors_of S (λ m. m) fs) (vector_of S (λ m. m) f ∷ []) (fixed_values S.field (length S.weights) θ (drop (i + 1) ms))
          ∙ ap (λ v. vectors_of S (λ m. m) fs ++ v ∷ fixed_values S.field (length S.weights) θ (drop (i + 1) ms)) is
          ∙ ap (λ vs. vectors_of S (λ m. m) fs ++ vs) (sym (here ∙ ap (λ (b : Bool). if b then mark_value S.field (length S.weights) θ (polynomial_of S.field m) ∷ fixed_values S.field (length S.weights) θ (drop (i + 1) ms) else fixed_values S.field (length S.weights) θ (drop (i + 1) ms)) fixed))
          ∙ was.values;
    })
