-- The choice of secondary invariants, degree by degree.
use Rattle.std.proofs.Common.{◌≡◌, ◌≢◌, ◌⊎◌, inl, inr, ℕ, zero, suc, ◌+◌, ◌-◌, ◌<◌, ◌≤◌, List, [], ◌∷◌, ◌++◌, length, map, refl, sym, ap, subst, ◌∙◌, arith}
use Rattle.std.specs.Prelude.{All}
use Rattle.std.proofs.lemmas.Bool.{cases_lt}
use Rattle.std.proofs.lemmas.List.{length-append, map-append}
use Rattle.std.proofs.lemmas.List.Elements.{All-nil, All-cons, All-head, All-tail, All-append}
use Rattle.alg_core.specs.Binomials.{monomials_of_degree}
use Rattle.alg_core.specs.Lists.{In}
use Rattle.alg_core.specs.SpaceGrading.{height}
use Rattle.alg_core.specs.SpaceOrder.{key_order}
use Rattle.alg_core.specs.Spaces.{SpaceOver}
use Rattle.alg_core.specs.Vectors.{Vect, zero_vector}
use Rattle.alg_core.specs.declared.term.Term.{Term}
use Rattle.alg_core.proofs.Members.{from_map}
use Rattle.poly_module.specs.Combinations.{Over}
use Rattle.poly_module.specs.Forms.{IsForm}
use Rattle.poly_module.specs.Modules.{listed}
use Rattle.poly_module.specs.SpaceVectors.{vector_of, vectors_of}
use Rattle.poly_module.specs.Walks.{Keeps}
use Rattle.lin_algebra.specs.declared.matrix.Matrix.{Matrix}
use Rattle.matrix_group.specs.Actions.{Invariant}
use Rattle.invariant_space.specs.InvariantSpaces.{IsEchelonBasis}
use Rattle.secondary_gens.specs.Choices.{IsLongerBy}
use Rattle.secondary_gens.specs.Forms.{degree_of, degrees_of, unit_weights, IsSmallForm, IsPositiveForm}
use Rattle.secondary_gens.specs.Secondaries.{IsComplete, IsIrredundant, AreSecondaries, IsDegreeIn, IsPastBound, IsFirstPast}
use Rattle.secondary_gens.proofs.FormDegrees.{are_forms, positive_small, all_positive, form_image}
use Rattle.secondary_gens.proofs.ImageSteps.{Generate, IsFixed, walked_past, walked_complete, are_secondaries}
use Rattle.secondary_gens.proofs.Irredundant.{irredundant, keeps_fresh, fresh_none}
use Rattle.secondary_gens.proofs.Lists.{height_front}
use Rattle.secondary_gens.proofs.OverSteps.{zero_terms}
use Rattle.secondary_gens.proofs.WalkSteps.{Walked, walked_none, walked_more}

-- each member of a list
pub all_in : {A : Type 0} (P : A → Type 0) (l : List A) (a : A) → All P l → In a l → P a
all_in P [] a h i = absurd i
all_in P (b ∷ l) a h (inl e) = subst P e (All-head P b l h)
all_in P (b ∷ l) a h (inr i) = all_in P l a (All-tail P b l h) i

-- degrees that do not fall
abbrev pub Rises : List ℕ → Type 0
Rises es = (i j : ℕ) → i ≤ j → j < length es → height es i ≤ height es j

height_back : (es fs : List ℕ) (q : ℕ) → length es ≤ q → height (es ++ fs) q ≡ height fs (q - length es)
unfolding height
height_back [] fs q h = let e : q ≡ q - 0 = omega arith in ap (height fs) e
height_back (e ∷ es) fs zero h = absurd (omega arith)
height_back (e ∷ es) fs (suc q) h = height_back es fs q (omega arith) ∙ (let s : q - length es ≡ suc q - suc (length es) = omega arith in ap (height fs) s)

height_all : (P : ℕ → Type 0) (es : List ℕ) (q : ℕ) → q < length es → All P es → P (height es q)
unfolding height
height_all P [] q h a = absurd (omega arith)
height_all P (e ∷ es) zero h a = All-head P e es a
height_all P (e ∷ es) (suc q) h a = height_all P es q (omega arith) (All-tail P e es a)

pub rises_more : (d : ℕ) (es fs : List ℕ) → Rises es → All (λ e. e ≤ d) es → All (λ e. e ≡ d) fs → Rises (es ++ fs)
rises_more d es fs r low same i j a l = go (cases_lt j (length es)) (cases_lt i (length es))
  where
    n : length (es ++ fs) ≡ length es + length fs
    n = length-append es fs

    back : (q : ℕ) → q ≤ j → length es ≤ q → height (es ++ fs) q ≡ d
    back q b h = height_back es fs q h ∙ height_all (λ e. e ≡ d) fs (q - length es) (let m = n in omega arith) same

    go : (j < length es) ⊎ (length es ≤ j) → (i < length es) ⊎ (length es ≤ i) → height (es ++ fs) i ≤ height (es ++ fs) j
    go (inl p) q = let b = height_front es fs i (omega arith) in let c = height_front es fs j p in let h = r i j a p in omega arith
    go (inr p) (inl q) = let b = height_front es fs i q in let c = back j (omega arith) p in let h = height_all (λ e. e ≤ d) es i q low in omega arith
    go (inr p) (inr q) = let b = back i a q in let c = back j (omega arith) p in omega arith

all_map : {A B : Type 0} (f : A → B) (P : B → Type 0) (l : List A) → All (λ a. P (f a)) l → All P (map f l)
all_map f P [] h = All-nil P
all_map f P (a ∷ l) h = All-cons P (f a) (map f l) (All-head (λ a. P (f a)) a l h) (all_map f P l (All-tail (λ a. P (f a)) a l h))

pub all_weaken : {A : Type 0} (P Q : A → Type 0) (l : List A) → ((a : A) → P a → Q a) → All P l → All Q l
all_weaken P Q l w h i d q = w _ (h i d q)

module _ {E : Type 0} (S : SpaceOver E) (gens : List (Matrix E)) where
  abbrev Terms : Type 0
  Terms = List (Term E (List ℕ))

  abbrev x : Terms → Vect S.field
  x v = vector_of S (λ m. m) v

  abbrev xs : List Terms → List (Vect S.field)
  xs vs = vectors_of S (λ m. m) vs

  -- polynomials that the matrices fix
  abbrev pub AreFixed : List Terms → Type 0
  AreFixed ps = All (λ p. Invariant S.field gens (x p)) ps

  fixed_in : (ps : List Terms) → All (IsSmallForm S) ps → AreFixed ps → (v : Vect S.field) → In v (xs ps) → IsFixed S gens v
  fixed_in ps h f v i =
      let m = from_map x v ps i in
      subst (IsFixed S gens) m.2 (λ t n. ((form_image S m.0 (all_in (IsSmallForm S) ps m.0 h m.1)).form t n).variables, all_in (λ p. Invariant S.field gens (x p)) ps m.0 f m.1)

  -- a place of a list of polynomials
  at_place : (Q : Vect S.field → ℕ → Type 0) (ps : List Terms) → ((p : Terms) → In p ps → Q (x p) (degree_of p)) → (j : ℕ) → j < length (xs ps) → Q (listed S.field (xs ps) j) (height (degrees_of ps) j)
  unfolding height
  at_place Q [] h j l = absurd (omega arith)
  at_place Q (p ∷ ps) h zero l = h p (inl refl)
  at_place Q (p ∷ ps) h (suc j) l = at_place Q ps (λ q i. h q (inr i)) j (omega arith)

  -- before degree d
  pub record Chosen (theta images : List Terms) (m d : ℕ) (kept : List Terms) : Type 0 where
    pub small : All (IsSmallForm S) kept
    pub walked : Walked S gens (xs theta) d (xs kept)
    pub present : All (λ p. (p ≢ []) × IsDegreeIn images (degree_of p)) kept
    pub low : All (λ p. degree_of p < d) kept
    pub rise : Rises (degrees_of kept)
    pub within : (e : ℕ) → e < d → ¬ IsPastBound S images m e

  module _ (theta images : List Terms) (primaries : All (IsPositiveForm S) theta) (image_forms : All (IsSmallForm S) images) (fixed : AreFixed theta) (fixed_images : AreFixed images)
      (complete : IsComplete S.field (length S.weights) gens (xs theta) (xs images)) where
    generate : Generate S gens (xs theta) (xs images) (degrees_of theta) (degrees_of images)
    generate = record {
      primaries = are_forms S theta (positive_small S theta primaries);
      positive = all_positive S theta primaries;
      images = are_forms S images image_forms;
      fixed = fixed_in theta (positive_small S theta primaries) fixed;
      fixed_images = fixed_in images image_forms fixed_images;
      complete = complete;
    }

    pub chosen_none : (m : ℕ) (kept : List Terms) → kept ≡ [] → Chosen theta images m 0 kept
    chosen_none m kept none = subst (Chosen theta images m 0) (sym none) (record {
      small = All-nil (IsSmallForm S);
      walked = walked_none S gens (xs theta) [] refl;
      present = All-nil (λ p. (p ≢ []) × IsDegreeIn images (degree_of p));
      low = All-nil (λ p. degree_of p < 0);
      rise = λ i j a l. absurd (omega arith);
      within = λ e l h. absurd (omega arith);
    })

    -- a degree without images is passed over
    pub chosen_past : (m d : ℕ) (kept : List Terms) → ¬ IsDegreeIn images d → Chosen theta images m d kept → Chosen theta images m (d + 1) kept
    chosen_past m d kept none was = record {
      small = was.small;
      walked = let q : suc d ≡ d + 1 = omega arith in subst (λ n. Walked S gens (xs theta) n (xs kept)) q (walked_past S gens (xs theta) (xs images) (degrees_of theta) (degrees_of images) generate d (xs kept) was.walked
          (at_place (λ v e. (v ≡ zero_vector S.field) ⊎ (¬ (e ≡ d))) images (λ p i. other p i)));
      present = was.present;
      low = all_weaken (λ p. degree_of p < d) (λ p. degree_of p < d + 1) kept (λ p l. omega arith) was.low;
      rise = was.rise;
      within = λ e l h. go e (cases_lt e d) l h;
    }
      where
        other : (p : Terms) → In p images → (x p ≡ zero_vector S.field) ⊎ (¬ (degree_of p ≡ d))
        other [] i = inl (zero_terms S [] refl)
        other (t ∷ p) i = inr (λ e. none (t ∷ p, i, (λ z. let c : ⊥ = cc in c), e))

        go : (e : ℕ) → (e < d) ⊎ (d ≤ e) → e < d + 1 → ¬ IsPastBound S images m e
        go e (inl q) l h = was.within e q h
        go e (inr q) l h = let same : e ≡ d = omega arith in none (subst (IsDegreeIn images) same h.degree)

    -- along the basis of a degree of an image
    pub chosen_more : (m d : ℕ) (kept basis new : List Terms) → IsDegreeIn images d → ¬ (m < monomials_of_degree (length S.weights) d) → IsEchelonBasis S gens d (xs basis) → All (IsSmallForm S) new → IsLongerBy d kept new
        → Keeps (Over S.field (xs theta)) (xs kept) (xs basis) (xs new) → Chosen theta images m d kept → Chosen theta images m (d + 1) new
    chosen_more m d kept basis new there bound echelon all longer keeps was = record {
      small = all;
      walked = let q : suc d ≡ d + 1 = omega arith in subst (λ n. Walked S gens (xs theta) n (xs new)) q (walked_more S gens (xs theta) d (xs kept) (xs new) (xs basis) was.walked echelon keeps);
      present = subst (All (λ p. (p ≢ []) × IsDegreeIn images (degree_of p))) (sym longer.is) (All-append (λ p. (p ≢ []) × IsDegreeIn images (degree_of p)) kept longer.more was.present
          (all_weaken (λ p. (p ≢ []) × (degree_of p ≡ d)) (λ p. (p ≢ []) × IsDegreeIn images (degree_of p)) longer.more (λ p h. (h.0, subst (IsDegreeIn images) (sym h.1) there)) longer.each));
      low = subst (All (λ p. degree_of p < d + 1)) (sym longer.is) (All-append (λ p. degree_of p < d + 1) kept longer.more (all_weaken (λ p. degree_of p < d) (λ p. degree_of p < d + 1) kept (λ p l. omega arith) was.low)
          (all_weaken (λ p. (p ≢ []) × (degree_of p ≡ d)) (λ p. degree_of p < d + 1) longer.more (λ p h. let e = h.1 in omega arith) longer.each));
      rise = subst Rises (sym (ap degrees_of longer.is ∙ map-append degree_of kept longer.more)) (rises_more d (degrees_of kept) (degrees_of longer.more) was.rise
          (all_map degree_of (λ e. e ≤ d) kept (all_weaken (λ p. degree_of p < d) (λ p. degree_of p ≤ d) kept (λ p l. omega arith) was.low))
          (all_map degree_of (λ e. e ≡ d) longer.more (all_weaken (λ p. (p ≢ []) × (degree_of p ≡ d)) (λ p. degree_of p ≡ d) longer.more (λ p h. h.1) longer.each)));
      within = λ e l h. go e (cases_lt e d) l h;
    }
      where
        go : (e : ℕ) → (e < d) ⊎ (d ≤ e) → e < d + 1 → ¬ IsPastBound S images m e
        go e (inl q) l h = was.within e q h
        go e (inr q) l h = let same : e ≡ d = omega arith in bound (subst (λ n. m < monomials_of_degree (length S.weights) n) same h.past)

    -- the least degree past the bound
    pub chosen_bound : (m d : ℕ) (kept : List Terms) → IsDegreeIn images d → m < monomials_of_degree (length S.weights) d → Chosen theta images m d kept → IsFirstPast S images m d
    chosen_bound m d kept there past was = record { past = record { degree = there; past = past }; least = λ e h. go e h (cases_lt e d) }
      where
        go : (e : ℕ) → IsPastBound S images m e → (e < d) ⊎ (d ≤ e) → d ≤ e
        go e h (inl q) = absurd (was.within e q h)
        go e h (inr q) = q

    module _ (m d : ℕ) (kept : List Terms) (was : Chosen theta images m d kept) (past : All (λ p. degree_of p < d) images) where
      pub chosen_within : (e : ℕ) → ¬ IsPastBound S images m e
      chosen_within e h = let p = h.degree in was.within e (let l = all_in (λ p. degree_of p < d) images p.0 past p.1 in let q = p.3 in omega arith) h

      pub chosen_complete : IsComplete S.field (length S.weights) gens (xs theta) (xs kept)
      chosen_complete = walked_complete S gens (xs theta) (xs images) (degrees_of theta) (degrees_of images) generate d (xs kept) was.walked
          (at_place (λ v e. (v ≡ zero_vector S.field) ⊎ (e < d)) images (λ p i. inr (all_in (λ p. degree_of p < d) images p past i)))

      pub chosen_secondaries : AreSecondaries S gens (xs theta) (xs kept)
      chosen_secondaries = are_secondaries S gens (xs theta) (xs images) (degrees_of theta) (degrees_of images) generate d (xs kept) was.walked chosen_complete

      pub chosen_irredundant : IsIrredundant S.field (xs theta) (xs kept)
      chosen_irredundant = irredundant S.field (xs theta) (key_order S) (unit_weights S) (degrees_of theta) (are_forms S theta (positive_small S theta primaries)) (all_positive S theta primaries) (degrees_of kept) (xs kept)
          (are_forms S kept was.small) was.rise (keeps_fresh S.field (xs theta) [] was.walked.forms (xs kept) was.walked.kept (fresh_none S.field (xs theta)))

    -- the candidates of a degree
    pub basis_forms : (d : ℕ) (basis : List Terms) → IsEchelonBasis S gens d (xs basis) → All (λ p. IsForm S.field (unit_weights S) d (x p)) basis
    basis_forms d basis e = go basis (λ v i. (e.reduced.inside v i).form)
      where
        go : (ps : List Terms) → ((v : Vect S.field) → In v (xs ps) → IsForm S.field (unit_weights S) d v) → All (λ p. IsForm S.field (unit_weights S) d (x p)) ps
        go [] h = All-nil (λ p. IsForm S.field (unit_weights S) d (x p))
        go (p ∷ ps) h = All-cons (λ p. IsForm S.field (unit_weights S) d (x p)) p ps (h (x p) (inl refl)) (go ps (λ v i. h v (inr i)))
