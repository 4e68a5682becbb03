-- What is taken along a walk: its members are candidates, each is a nonzerodivisor modulo those before it, and it is one list.
use Rattle.std.proofs.Common.{◌≡◌, ◌⊎◌, inl, inr, ◌∙◌, ℕ, suc, ◌<◌, List, [], ◌∷◌, ◌++◌, length, sym, ap, subst, refl, arith, append_assoc}
use Rattle.alg_core.specs.Fields.{FieldOn}
use Rattle.alg_core.specs.Lists.{In}
use Rattle.alg_core.specs.Spaces.{SpaceOver}
use Rattle.alg_core.specs.Vectors.{Vect}
use Rattle.alg_core.proofs.Members.{in_cases}
use Rattle.finite_certificate.specs.Ideals.{Nonzerodivisor, Regular, Ended}
use Rattle.groebner_hom.specs.IdealBases.{NoIdealAbove}
use Rattle.primary_search.specs.Searches.{Passes}
use Rattle.primary_search.specs.Walks.{Taken}

-- a first member and the rest of a list
first_or : {A : Type 0} → A → List A → A
first_or d [] = d
first_or d (x ∷ xs) = x

rest_of : {A : Type 0} → List A → List A
rest_of [] = []
rest_of (x ∷ xs) = xs

pub same_first : {A : Type 0} (x y : A) (xs ys : List A) → x ∷ xs ≡ y ∷ ys → x ≡ y
unfolding first_or
same_first x y xs ys e = ap (first_or x) e

pub same_rest : {A : Type 0} (x y : A) (xs ys : List A) → x ∷ xs ≡ y ∷ ys → xs ≡ ys
unfolding rest_of
same_rest x y xs ys e = ap rest_of e

pub not_nothing : {A : Type 0} (x : A) (xs : List A) → [] ≡ x ∷ xs → ⊥
not_nothing x xs e = let r : 0 ≡ suc (length xs) = ap length e in omega arith

-- a front of a list with one member more at the end is a front of it or the whole
pub shorter_front : {A : Type 0} (front back l : List A) (c : A) → front ++ back ≡ l ++ c ∷ [] → 0 < length back → (r : List A) × (front ++ r ≡ l)
shorter_front [] back l c e h = (l, refl)
shorter_front (x ∷ front) back [] c e h = absurd (go front back (same_rest x c (front ++ back) [] e) h)
  where
    go : {A : Type 0} (front back : List A) → front ++ back ≡ [] → 0 < length back → ⊥
    go [] [] e h = omega arith
    go [] (y ∷ back) e h = not_nothing y back (sym e)
    go (y ∷ front) back e h = not_nothing y (front ++ back) (sym e)
shorter_front (x ∷ front) back (y ∷ l) c e h =
    let r = shorter_front front back l c (same_rest x y (front ++ back) (l ++ c ∷ []) e) h in
    (r.0, ap (λ z. z ∷ (front ++ r.0)) (same_first x y (front ++ back) (l ++ c ∷ []) e) ∙ ap (λ z. y ∷ z) r.1)

same_last : {A : Type 0} (xs ys : List A) (x y : A) → xs ++ x ∷ [] ≡ ys ++ y ∷ [] → (xs ≡ ys) × (x ≡ y)
same_last [] [] x y e = (refl, same_first x y [] [] e)
same_last [] (z ∷ ys) x y e = absurd (no_end ys y (same_rest x z [] (ys ++ y ∷ []) e))
  where
    no_end : {A : Type 0} (ys : List A) (y : A) → [] ≡ ys ++ y ∷ [] → ⊥
    no_end [] y e = not_nothing y [] e
    no_end (z ∷ ys) y e = not_nothing z (ys ++ y ∷ []) e
same_last (z ∷ xs) [] x y e = absurd (no_end xs x (sym (same_rest z y (xs ++ x ∷ []) [] e)))
  where
    no_end : {A : Type 0} (ys : List A) (y : A) → [] ≡ ys ++ y ∷ [] → ⊥
    no_end [] y e = not_nothing y [] e
    no_end (z ∷ ys) y e = not_nothing z (ys ++ y ∷ []) e
same_last (z ∷ xs) (w ∷ ys) x y e =
    let r = same_last xs ys x y (same_rest z w (xs ++ x ∷ []) (ys ++ y ∷ []) e) in
    (ap (λ l. z ∷ l) r.0 ∙ ap (λ v. v ∷ ys) (same_first z w (xs ++ x ∷ []) (ys ++ y ∷ []) e), r.1)

module _ {E : Type 0} (k : FieldOn E) where
  pub taken_append : (T cs U ds W : List (Vect k)) → Taken k T cs U → Taken k U ds W → Taken k T (cs ++ ds) W
  taken_append T [] U ds W h g = subst (λ l. Taken k l ds W) h g
  taken_append T (c ∷ cs) U ds W (inl p) g = inl (p.0, taken_append (T ++ c ∷ []) cs U ds W p.1 g)
  taken_append T (c ∷ cs) U ds W (inr p) g = inr (p.0, taken_append T cs U ds W p.1 g)

  -- one list is taken
  pub taken_unique : (T cs U W : List (Vect k)) → Taken k T cs U → Taken k T cs W → U ≡ W
  taken_unique T [] U W h g = h ∙ sym g
  taken_unique T (c ∷ cs) U W (inl p) (inl q) = taken_unique (T ++ c ∷ []) cs U W p.1 q.1
  taken_unique T (c ∷ cs) U W (inl p) (inr q) = absurd (q.0 p.0)
  taken_unique T (c ∷ cs) U W (inr p) (inl q) = absurd (p.0 q.0)
  taken_unique T (c ∷ cs) U W (inr p) (inr q) = taken_unique T cs U W p.1 q.1

  -- what all candidates have, all that is taken has
  pub taken_each : (P : Vect k → Type 0) (T cs U : List (Vect k)) → ((c : Vect k) → In c T → P c) → ((c : Vect k) → In c cs → P c) → Taken k T cs U → (c : Vect k) → In c U → P c
  taken_each P T [] U h g t c i = h c (subst (In c) t i)
  taken_each P T (x ∷ cs) U h g (inl t) c i = taken_each P (T ++ x ∷ []) cs U (λ y j. go y (in_cases y T (x ∷ []) j)) (λ y j. g y (inr j)) t.1 c i
    where
      go : (y : Vect k) → In y T ⊎ In y (x ∷ []) → P y
      go y (inl j) = h y j
      go y (inr (inl e)) = subst P e (g x (inl refl))
      go y (inr (inr j)) = absurd j
  taken_each P T (x ∷ cs) U h g (inr t) c i = taken_each P T cs U h (λ y j. g y (inr j)) t.1 c i

  -- one nonzerodivisor more
  regular_more : (T : List (Vect k)) (c : Vect k) → Regular k T → Nonzerodivisor k T c → Regular k (T ++ c ∷ [])
  regular_more T c h n before [] f e = let s = same_last before T f c e in subst (λ x. Nonzerodivisor k before x) (sym s.1) (subst (λ l. Nonzerodivisor k l c) (sym s.0) n)
  regular_more T c h n before (x ∷ after) f e =
      let r = shorter_front (before ++ f ∷ []) (x ∷ after) T c (append_assoc before (f ∷ []) (x ∷ after) ∙ e) (omega arith) in
      h before r.0 f (sym (append_assoc before (f ∷ []) r.0) ∙ r.1)

  pub taken_regular : (T cs U : List (Vect k)) → Regular k T → Taken k T cs U → Regular k U
  taken_regular T [] U h t = subst (Regular k) (sym t) h
  taken_regular T (c ∷ cs) U h (inl t) = taken_regular (T ++ c ∷ []) cs U (regular_more T c h t.0) t.1
  taken_regular T (c ∷ cs) U h (inr t) = taken_regular T cs U h t.1

  pub regular_nothing : Regular k []
  regular_nothing before after f e = absurd (go before e)
    where
      go : (before : List (Vect k)) → before ++ f ∷ after ≡ [] → ⊥
      go [] e = not_nothing f after (sym e)
      go (x ∷ before) e = not_nothing x (before ++ f ∷ after) (sym e)

module _ {E : Type 0} (S : SpaceOver E) (cap : ℕ) where
  -- a walk that passes takes what it takes
  pub passes_taken : (T cs U : List (Vect S.field)) → Passes S cap T cs U → Taken S.field T cs U
  passes_taken T [] U h = h
  passes_taken T (c ∷ cs) U (n, inl p) = inl (p.0, passes_taken (T ++ c ∷ []) cs U p.3)
  passes_taken T (c ∷ cs) U (n, inr p) = inr (p.0, passes_taken T cs U p.1)

  -- and nothing on the way has a power of each variable in its ideal
  pub passes_unended : (T cs U : List (Vect S.field)) → ¬ Ended S.field (length S.weights) T → Passes S cap T cs U
      → (front back W : List (Vect S.field)) → front ++ back ≡ cs → Taken S.field T front W → ¬ Ended S.field (length S.weights) W
  passes_unended T cs U none h [] back W e t = subst (λ l. ¬ Ended S.field (length S.weights) l) (sym t) none
  passes_unended T [] U none h (x ∷ front) back W e t = absurd (not_nothing x (front ++ back) (sym e))
  passes_unended T (c ∷ cs) U none h (x ∷ front) back W e t =
      go h.1 (subst (λ z. Taken S.field T (z ∷ front) W) (same_first x c (front ++ back) cs e) t) (λ l m p q. passes_unended l cs U m p front back W (same_rest x c (front ++ back) cs e) q)
    where
      go : ((Nonzerodivisor S.field T c × NoIdealAbove S (T ++ c ∷ []) cap × (¬ Ended S.field (length S.weights) (T ++ c ∷ [])) × Passes S cap (T ++ c ∷ []) cs U) ⊎ ((¬ Nonzerodivisor S.field T c) × Passes S cap T cs U))
          → Taken S.field T (c ∷ front) W
          → ((l : List (Vect S.field)) → ¬ Ended S.field (length S.weights) l → Passes S cap l cs U → Taken S.field l front W → ¬ Ended S.field (length S.weights) W) → ¬ Ended S.field (length S.weights) W
      go (inl p) (inl q) later = later (T ++ c ∷ []) p.2 p.3 q.1
      go (inl p) (inr q) later = absurd (q.0 p.0)
      go (inr p) (inl q) later = absurd (p.0 q.0)
      go (inr p) (inr q) later = later T none p.1 q.1
