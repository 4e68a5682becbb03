-- The members of a completion with nothing left to treat, as lists of terms, and the reduced basis that is made from them.
use Rattle.std.proofs.Common.{◌≡◌, ℕ, List, [], ◌∷◌, map, sym, ap, ap₂, ◌∙◌, refl, subst, arith}
use Rattle.alg_core.specs.Lists.{In, map_in}
use Rattle.alg_core.specs.declared.term.Term.{Term}
use Rattle.alg_core.specs.Spaces.{SpaceOver, Fits, entries}
use Rattle.alg_core.specs.SpaceOrder.{key_order}
use Rattle.alg_core.specs.SpaceGrading.{AllPositive}
use Rattle.alg_core.specs.Vectors.{Vect}
use Rattle.poly_module.specs.Modules.{IsGroebnerBasis, listed}
use Rattle.poly_module.specs.ReducedLists.{IsReducedBasis}
use Rattle.poly_module.specs.SpaceVectors.{IsVector, AreVectors, vectors_of}
use Rattle.module_groebner.specs.HomogeneousLists.{cap_limit, AreHomogeneousUpTo, IsHomogeneousUpTo, AreNonzero}
use Rattle.module_groebner.specs.Progress.{Progress, IsDone}
use Rattle.module_groebner.specs.Completions.{vects, members, generated, StandsOver}
use Rattle.module_groebner.proofs.CompletionResults.{finished_basis, finished_same}
use Rattle.module_groebner.proofs.Families.{all_in, in_all}
use Rattle.module_groebner.proofs.Transports.{reduced_back}

module _ {E M : Type 0} (S : SpaceOver E) (exps : M → List ℕ) where
  vects_terms : (items : List (List (Term E M))) → vects S.field (map (entries exps) items) ≡ vectors_of S exps items
  vects_terms [] = refl
  vects_terms (x ∷ items) = ap₂ ◌∷◌ refl (vects_terms items)

  module _ (c : Progress E) (items : List (List (Term E M))) (is : c.members ≡ map (entries exps) items) (stands : StandsOver S c) where
    same : vects S.field c.members ≡ vectors_of S exps items
    same = ap (vects S.field) is ∙ vects_terms items

    pub terms_fit : AreVectors S exps items
    terms_fit = in_all (IsVector S exps) items (λ w i. all_in (Fits S) c.members stands.members_fit (entries exps w) (subst (In (entries exps w)) (sym is) (map_in (entries exps) w items i)))

    pub terms_homogeneous : AreHomogeneousUpTo S cap_limit (vectors_of S exps items)
    terms_homogeneous = in_all (IsHomogeneousUpTo S cap_limit) (vectors_of S exps items) (λ w i. let a = all_in (IsHomogeneousUpTo S c.cap) (vects S.field c.members) stands.members_homogeneous w (subst (In w) (sym same) i) in
        (a.0, (let b = a.1 in let d = stands.cap in omega arith), a.2))

    pub terms_nonzero : AreNonzero S.field (vectors_of S exps items)
    terms_nonzero = subst (AreNonzero S.field) same stands.nonzero

    pub at_cap : (made : List (Vect S.field)) → ((d : ℕ) → AreHomogeneousUpTo S d (vectors_of S exps items) → AreHomogeneousUpTo S d made) → AreHomogeneousUpTo S c.cap made
    at_cap made h = h c.cap (subst (AreHomogeneousUpTo S c.cap) same stands.members_homogeneous)

    module _ (positive : AllPositive S.weights) (done : IsDone c) where
      pub terms_basis : IsGroebnerBasis S.field (listed S.field (vectors_of S exps items)) (key_order S)
      terms_basis = subst (λ l. IsGroebnerBasis S.field (listed S.field l) (key_order S)) same (λ v t i l. finished_basis S positive c stands done v t ((finished_same S positive c stands done v).1 i) l)

      pub terms_reduced : (made : List (Vect S.field)) → IsReducedBasis S (listed S.field (vectors_of S exps items)) made → IsReducedBasis S (generated S c) made
      terms_reduced made r = reduced_back S (generated S c) (members S c) (finished_same S positive c stands done) made (subst (λ l. IsReducedBasis S (listed S.field l) made) (sym same) r)
