-- A completion that has no member yet, and all generators still to treat.
use Rattle.std.proofs.Common.{◌≡◌, ◌<◌, ◌≤◌, ◌+◌, ℕ, List, [], ◌∷◌, ◌++◌, map, take, length, get_or, sym, ap, ◌∙◌, subst, arith}
use Rattle.std.specs.Prelude.{All}
use Rattle.std.proofs.lemmas.List.{take_more, take_all}
use Rattle.alg_core.specs.declared.term.Term.{Term}
use Rattle.alg_core.specs.Spaces.{SpaceOver, entries, Fits}
use Rattle.alg_core.specs.Vectors.{zero_vector}
use Rattle.alg_core.proofs.Members.{from_map}
use Rattle.poly_module.specs.Modules.{InModule, listed}
use Rattle.poly_module.specs.SpaceVectors.{IsVector, AreVectors, vectors_of}
use Rattle.module_groebner.specs.HomogeneousLists.{degree_limit, cap_limit, IsHomogeneousUpTo, AreHomogeneousUpTo}
use Rattle.module_groebner.specs.Progress.{Progress}
use Rattle.module_groebner.specs.Completions.{vects, IsPair, SameModule, generated, StandsOver}
use Rattle.module_groebner.proofs.Families.{all_in, in_all, map_append}
use Rattle.module_groebner.proofs.CompletionSteps.{vectors_are}

module _ {A B : Type 0} (f : A → B) where
  -- one more is copied
  pub copied_more : (xs ys zs : List A) (i : ℕ) (x y : A) → map f ys ≡ map f (take i xs) → i < length xs → x ≡ get_or xs i x → f y ≡ f x → zs ≡ ys ++ (y ∷ []) → map f zs ≡ map f (take (i + 1) xs)
  copied_more xs ys zs i x y e h at same is =
      ap (map f) is ∙ map_append f ys (y ∷ []) ∙ ap (λ l. l ++ (f y ∷ [])) e ∙ ap (λ b. map f (take i xs) ++ (b ∷ [])) (same ∙ ap f at)
      ∙ sym (map_append f (take i xs) (get_or xs i x ∷ [])) ∙ ap (map f) (sym (take_more xs i x h))

  pub copied_all : (xs ys : List A) (i : ℕ) → map f ys ≡ map f (take i xs) → length xs ≤ i → map f xs ≡ map f ys
  copied_all xs ys i e h = sym (e ∙ ap (map f) (take_all i xs h))

module _ {E M : Type 0} (S : SpaceOver E) (exps : M → List ℕ) (c : Progress E) (vs : List (List (Term E M))) (members : c.members ≡ []) (generators : map (entries exps) vs ≡ c.generators) where
  pub new_stands : c.weights ≡ S.weights → c.shifts ≡ S.shifts → c.cap ≤ cap_limit → c.pairs ≡ [] → AreVectors S exps vs → AreHomogeneousUpTo S degree_limit (vectors_of S exps vs) → StandsOver S c
  new_stands w s cap pairs fit homogeneous = record {
    weights = w;
    shifts = s;
    cap = cap;
    members_fit = subst (All (Fits S)) (sym members) (in_all (Fits S) [] (λ x i. absurd i));
    generators_fit = subst (All (Fits S)) generators (in_all (Fits S) (map (entries exps) vs) (λ x i. let y = from_map (entries exps) x vs i in subst (Fits S) y.2 (all_in (IsVector S exps) vs fit y.0 y.1)));
    members_homogeneous = subst (λ ms. AreHomogeneousUpTo S c.cap (vects S.field ms)) (sym members) (in_all (IsHomogeneousUpTo S c.cap) [] (λ x i. absurd i));
    generators_homogeneous = subst (AreHomogeneousUpTo S degree_limit) (vectors_are S exps vs c.generators generators) homogeneous;
    nonzero = subst (λ ms. All (λ v. ¬ (v ≡ zero_vector S.field)) (vects S.field ms)) (sym members) (in_all (λ v. ¬ (v ≡ zero_vector S.field)) [] (λ x i. absurd i));
    pairs = subst (All (IsPair c)) (sym pairs) (in_all (IsPair c) [] (λ x i. absurd i));
    treated = λ p h. absurd (let a = h.within in let e = ap length members in omega arith);
  }

  pub new_same : SameModule S.field (listed S.field (vectors_of S exps vs)) (generated S c)
  new_same v = (subst (λ h. InModule S.field h v) family, subst (λ h. InModule S.field h v) (sym family))
    where
      family : listed S.field (vectors_of S exps vs) ≡ generated S c
      family = ap (listed S.field) (vectors_are S exps vs c.generators generators) ∙ sym (ap (λ ms. listed S.field (vects S.field ms ++ vects S.field c.generators)) members)
