-- What a completion holds, against what is seen of it.
use Rattle.std.proofs.Common.{◌≡◌, ◌<◌, ◌≤◌, ℕ, zero, suc, List, [], ◌∷◌, map, length, get_or, sym, ap, ◌∙◌, refl, subst, arith}
use Rattle.std.specs.Prelude.{All}
use Rattle.alg_core.specs.Keys.{Key, key}
use Rattle.alg_core.specs.declared.term.Term.{Term}
use Rattle.alg_core.specs.Spaces.{SpaceOver, entries, Fits}
use Rattle.alg_core.specs.SpaceOrder.{key_order}
use Rattle.alg_core.specs.SpaceGrading.{AllPositive}
use Rattle.alg_core.specs.Vectors.{Entry, Vect, vec, zero_vector}
use Rattle.poly_module.specs.Degrees.{IsHomogeneous}
use Rattle.poly_module.specs.Modules.{LeadBy, listed}
use Rattle.poly_module.specs.SpaceVectors.{vector_of, vectors_of, IsVector, AreVectors, IsUpTo}
use Rattle.module_groebner.specs.HomogeneousLists.{degree_limit, cap_limit, IsHomogeneousUpTo, AreHomogeneous, AreNonzero}
use Rattle.module_groebner.specs.Progress.{Progress}
use Rattle.module_groebner.specs.Completions.{vects, members, member_place, IsPair, StandsOver}
use Rattle.module_groebner.proofs.Families.{length_map, vects_at}
use Rattle.module_groebner.proofs.CompletionEnds.{member_lead}
use Rattle.module_groebner.proofs.PairSteps.{key_position}

module _ {A B : Type 0} (f : A → B) where
  pub mapped_at : (xs : List A) (ys : List B) (i : ℕ) (x : A) (d : B) → map f xs ≡ ys → i < length ys → x ≡ get_or xs i x → get_or ys i d ≡ f x
  mapped_at xs ys i x d e h at = subst (λ l. get_or l i d ≡ f x) e (go xs i (let n = length_map f xs in let m = ap length e in omega arith) at)
    where
      go : (xs : List A) (i : ℕ) → i < length xs → x ≡ get_or xs i x → get_or (map f xs) i d ≡ f x
      go [] i h at = absurd (omega arith)
      go (y ∷ xs) zero h at = ap f (sym at)
      go (y ∷ xs) (suc i) h at = go xs i (omega arith) at

  pub mapped_fact : (P : B → Type 0) (xs : List A) (ys : List B) (i : ℕ) (x : A) → map f xs ≡ ys → All P ys → i < length ys → x ≡ get_or xs i x → P (f x)
  mapped_fact P xs ys i x e a h at = subst P (mapped_at xs ys i x (f x) e h at) (a i (f x) h)

  pub mapped_each : (P : B → Type 0) (xs : List A) (ys : List B) → map f xs ≡ ys → All P ys → All (λ x. P (f x)) xs
  mapped_each P xs ys e a = go xs (subst (All P) (sym e) a)
    where
      go : (xs : List A) → All P (map f xs) → All (λ x. P (f x)) xs
      go [] h i d w = absurd (omega arith)
      go (y ∷ xs) h zero d w = h 0 (f y) (omega arith)
      go (y ∷ xs) h (suc i) d w = go xs (λ j z v. h (suc j) z (omega arith)) i d (omega arith)

pub all_weaker : {A : Type 0} (P Q : A → Type 0) (xs : List A) → ((x : A) → P x → Q x) → All P xs → All Q xs
all_weaker P Q xs f h i d w = f _ (h i d w)

module _ {E M : Type 0} (S : SpaceOver E) (exps : M → List ℕ) where
  pub vectors_are : (xs : List (List (Term E M))) (ess : List (List (Entry E))) → map (entries exps) xs ≡ ess → vectors_of S exps xs ≡ vects S.field ess
  vectors_are xs ess e = go xs ∙ ap (vects S.field) e
    where
      go : (xs : List (List (Term E M))) → vectors_of S exps xs ≡ vects S.field (map (entries exps) xs)
      go [] = refl
      go (x ∷ xs) = ap (λ l. vec S.field (entries exps x) ∷ l) (go xs)

  up_to_of : (d e : ℕ) → e ≤ d → (v : Vect S.field) → IsHomogeneousUpTo S e v → IsUpTo S d v
  up_to_of d e le v h t n = let x = h.2 t n in let y = h.1 in omega arith

  module _ (positive : AllPositive S.weights) (c : Progress E) (stands : StandsOver S c) (gs ms : List (List (Term E M))) (eg : map (entries exps) gs ≡ c.generators) (em : map (entries exps) ms ≡ c.members) where
    in_vects : (ess : List (List (Entry E))) (i : ℕ) → i < length ess → i < length (vects S.field ess)
    in_vects ess i h = let n = length_map (vec S.field) ess in omega arith

    pub generator_fits : (i : ℕ) (x : List (Term E M)) → i < length c.generators → x ≡ get_or gs i x → IsVector S exps x
    generator_fits i x h at = mapped_fact (entries exps) (Fits S) gs c.generators i x eg stands.generators_fit h at

    pub generator_up_to : (i : ℕ) (x : List (Term E M)) → i < length c.generators → x ≡ get_or gs i x → IsUpTo S degree_limit (vector_of S exps x)
    generator_up_to i x h at = up_to_of degree_limit degree_limit (omega arith) _ (mapped_fact (vector_of S exps) (IsHomogeneousUpTo S degree_limit) gs (vects S.field c.generators) i x (vectors_are gs c.generators eg) stands.generators_homogeneous (in_vects c.generators i h) at)

    pub generator_is : (i : ℕ) (x : List (Term E M)) → i < length c.generators → x ≡ get_or gs i x → get_or c.generators i [] ≡ entries exps x
    generator_is i x h at = mapped_at (entries exps) gs c.generators i x [] eg h at

    pub member_fits : (i : ℕ) (x : List (Term E M)) → i < length c.members → x ≡ get_or ms i x → IsVector S exps x
    member_fits i x h at = mapped_fact (entries exps) (Fits S) ms c.members i x em stands.members_fit h at

    pub member_up_to : (i : ℕ) (x : List (Term E M)) → i < length c.members → x ≡ get_or ms i x → IsUpTo S cap_limit (vector_of S exps x)
    member_up_to i x h at = up_to_of cap_limit c.cap stands.cap _ (mapped_fact (vector_of S exps) (IsHomogeneousUpTo S c.cap) ms (vects S.field c.members) i x (vectors_are ms c.members em) stands.members_homogeneous (in_vects c.members i h) at)

    pub member_not_zero : (i : ℕ) (x : List (Term E M)) → i < length c.members → x ≡ get_or ms i x → ¬ (vector_of S exps x ≡ zero_vector S.field)
    member_not_zero i x h at = mapped_fact (vector_of S exps) (λ u. ¬ (u ≡ zero_vector S.field)) ms (vects S.field c.members) i x (vectors_are ms c.members em) stands.nonzero (in_vects c.members i h) at

    pub member_entries : (i : ℕ) (x : List (Term E M)) → i < length c.members → x ≡ get_or ms i x → get_or c.members i [] ≡ entries exps x
    member_entries i x h at = mapped_at (entries exps) ms c.members i x [] em h at

    pub member_is : (i : ℕ) (x : List (Term E M)) → i < length c.members → x ≡ get_or ms i x → members S c i ≡ vector_of S exps x
    member_is i x h at = vects_at S.field c.members i ∙ ap (vec S.field) (member_entries i x h at)

    pub all_vectors : AreVectors S exps ms
    all_vectors = mapped_each (entries exps) (Fits S) ms c.members em stands.members_fit

    pub all_homogeneous : AreHomogeneous S (vectors_of S exps ms)
    all_homogeneous = subst (AreHomogeneous S) (sym (vectors_are ms c.members em))
        (all_weaker (IsHomogeneousUpTo S c.cap) (λ v. (e : ℕ) × IsHomogeneous S e v) (vects S.field c.members) (λ v h. (h.0, h.2)) stands.members_homogeneous)

    pub all_nonzero : AreNonzero S.field (vectors_of S exps ms)
    all_nonzero = subst (AreNonzero S.field) (sym (vectors_are ms c.members em)) stands.nonzero

    pub all_members : listed S.field (vectors_of S exps ms) ≡ members S c
    all_members = ap (listed S.field) (vectors_are ms c.members em)

    -- a pair that is still to treat
    pub pair_at : (ps : List (ℕ × ℕ)) (i : ℕ) (p : ℕ × ℕ) → ps ≡ c.pairs → i < length c.pairs → p ≡ get_or ps i p → IsPair c p × (get_or c.pairs i (0, 0) ≡ p)
    pair_at ps i p e h at =
        let here : get_or c.pairs i p ≡ p = sym (at ∙ ap (λ l. get_or l i p) e) in
        (subst (IsPair c) here (stands.pairs i p h), get_same (c.pairs) i (0, 0) p h ∙ here)
      where
        get_same : (xs : List (ℕ × ℕ)) (i : ℕ) (d f : ℕ × ℕ) → i < length xs → get_or xs i d ≡ get_or xs i f
        get_same [] i d f h = absurd (omega arith)
        get_same (x ∷ xs) zero d f h = refl
        get_same (x ∷ xs) (suc i) d f h = get_same xs i d f (omega arith)

    pub pair_leads : (p : ℕ × ℕ) (x y : List (Term E M)) → IsPair c p → x ≡ get_or ms p.0 x → y ≡ get_or ms p.1 y
        → (s : Key) × (t : Key) × LeadBy S.field (key_order S) (vector_of S exps x) s × LeadBy S.field (key_order S) (vector_of S exps y) t × (s.0 ≡ t.0)
    pair_leads p x y h ax ay =
        let first : p.0 < length c.members = let a = h.rising in let b = h.within in omega arith in (
          key (member_place c p.0),
          key (member_place c p.1),
          subst (λ u. LeadBy S.field (key_order S) u (key (member_place c p.0))) (member_is p.0 x first ax) (member_lead S positive c stands p.0 first).0,
          subst (λ u. LeadBy S.field (key_order S) u (key (member_place c p.1))) (member_is p.1 y h.within ay) (member_lead S positive c stands p.1 h.within).0,
          key_position (member_place c p.0) ∙ h.position ∙ sym (key_position (member_place c p.1)),
        )
