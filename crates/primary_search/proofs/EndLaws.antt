-- A search ends in at most one way.
use Rattle.std.proofs.Common.{◌≡◌, ◌⊎◌, inl, inr, ◌∙◌, ℕ, zero, suc, ◌<◌, ◌≤◌, List, [], ◌∷◌, ◌++◌, length, sym, ap, ap₂, subst, refl, arith}
use native.Mathlib.Decide.{dec_le}
use Rattle.alg_core.specs.Binomials.{monomials_of_degree}
use Rattle.alg_core.specs.declared.limits.Limits.{Limits}
use Rattle.alg_core.specs.Fields.{scalars, is_field}
use Rattle.alg_core.specs.Keys.{key_same}
use Rattle.alg_core.specs.Leads.{has_lead, HasLead}
use Rattle.alg_core.specs.SpaceOrder.{key_order}
use Rattle.alg_core.specs.Spaces.{SpaceOver}
use Rattle.alg_core.specs.Vectors.{Vect, coef_at, zero_vector}
use Rattle.lin_algebra.specs.declared.matrix.Matrix.{Matrix}
use Rattle.poly_module.specs.Degrees.{IsHomogeneous}
use Rattle.poly_module.specs.SpaceVectors.{vector_of}
use Rattle.module_groebner.specs.BasisBounds.{IsBasisBound}
use Rattle.module_groebner.specs.declared.bound.BasisBound.{BasisBound}
use Rattle.module_groebner.specs.declared.bound.Which.{Which}
use Rattle.module_groebner.specs.declared.bound.Which.TheVariants.{Colon, Ideal}
use Rattle.invariant_space.specs.InvariantSpaces.{IsEchelonBasis}
use Rattle.invariant_space.proofs.EchelonBasis.{echelon_basis_unique}
use Rattle.finite_certificate.specs.Ideals.{InIdeal, Ended}
use Rattle.groebner_hom.specs.Colons.{NoColonAbove, IsColonBound, InColon, colon_space}
use Rattle.groebner_hom.specs.IdealBases.{NoIdealAbove, IsIdealBound}
use Rattle.primary_search.specs.Candidates.{candidates, all_candidates}
use Rattle.primary_search.specs.Ends.{Ends, LacksPrimaries, IsPastTerms, StopsAtColon, StopsAtIdeal}
use Rattle.primary_search.specs.Searches.{Passes, PassesDegrees, Reaches, Takes, ComesTo, IsNoPrimary, IsTermBound, IsColonStop, IsIdealStop, IsEnd}
use Rattle.primary_search.proofs.CandidateLaws.{each_candidate, head_in}
use Rattle.primary_search.proofs.FirstLaws.{in_taken}
use Rattle.primary_search.proofs.TakenLaws.{same_first, same_rest, taken_unique, passes_taken}

-- two members of one list: the same, or one before the other
compare_places : {A : Type 0} (xs ys us vs : List A) (x y : A) → xs ++ x ∷ us ≡ ys ++ y ∷ vs
    → ((xs ≡ ys) × (x ≡ y)) ⊎ (((m : List A) × (xs ++ x ∷ m ≡ ys)) ⊎ ((m : List A) × (ys ++ y ∷ m ≡ xs)))
compare_places [] [] us vs x y e = inl (refl, same_first x y us vs e)
compare_places [] (z ∷ ys) us vs x y e = inr (inl (ys, ap (λ w. w ∷ ys) (same_first x z us (ys ++ y ∷ vs) e)))
compare_places (z ∷ xs) [] us vs x y e = inr (inr (xs, ap (λ w. w ∷ xs) (sym (same_first z y (xs ++ x ∷ us) vs e))))
compare_places {A = A} (z ∷ xs) (w ∷ ys) us vs x y e = go (compare_places xs ys us vs x y (same_rest z w (xs ++ x ∷ us) (ys ++ y ∷ vs) e))
  where
    same : z ≡ w
    same = same_first z w (xs ++ x ∷ us) (ys ++ y ∷ vs) e

    go : ((xs ≡ ys) × (x ≡ y)) ⊎ (((m : List A) × (xs ++ x ∷ m ≡ ys)) ⊎ ((m : List A) × (ys ++ y ∷ m ≡ xs)))
        → ((z ∷ xs ≡ w ∷ ys) × (x ≡ y)) ⊎ (((m : List A) × ((z ∷ xs) ++ x ∷ m ≡ w ∷ ys)) ⊎ ((m : List A) × ((w ∷ ys) ++ y ∷ m ≡ z ∷ xs)))
    go (inl p) = inl (ap₂ ◌∷◌ same p.0, p.1)
    go (inr (inl p)) = inr (inl (p.0, ap₂ ◌∷◌ same p.1))
    go (inr (inr p)) = inr (inr (p.0, ap₂ ◌∷◌ (sym same) p.1))

-- the least degree of an element above a cap
least_degree : {E : Type 0} (S : SpaceOver E) (U : Vect S.field → Type 0) (cap : ℕ) (w : Which) (b c : BasisBound E) → IsBasisBound S U cap w b → IsBasisBound S U cap w c → b.degree ≡ c.degree
least_degree S U cap w b c h g =
    let x = h.least (vector_of S (λ m. m) c.vector) g.lead g.above in
    let y = g.least (vector_of S (λ m. m) b.vector) h.lead h.above in
    let p = h.reached in
    let q = g.reached in
    omega arith

-- a vector that is not 0 is homogeneous of one degree
one_form : {E : Type 0} (S : SpaceOver E) (v : Vect S.field) → ¬ (v ≡ zero_vector S.field) → (d e : ℕ) → IsHomogeneous S d v → IsHomogeneous S e v → d ≡ e
unfolding zero_vector coef_at
one_form S v n d e h g = go (has_lead (scalars S.field) (is_field S.field) key_same (key_order S) v)
  where
    go : HasLead (scalars S.field) (is_field S.field) key_same (key_order S) v → d ≡ e
    go (inl z) = absurd (n z)
    go (inr l) = sym (h l.0 l.1.there) ∙ g l.0 l.1.there

module _ {E : Type 0} (S : SpaceOver E) (cap : ℕ) where
  passes_one : (T cs U W : List (Vect S.field)) → Passes S cap T cs U → Passes S cap T cs W → U ≡ W
  passes_one T cs U W h g = taken_unique S.field T cs U W (passes_taken S cap T cs U h) (passes_taken S cap T cs W g)

  -- what is passed up to a candidate, and there
  passes_split : (T cs : List (Vect S.field)) (c : Vect S.field) (ds V : List (Vect S.field)) → Passes S cap T (cs ++ c ∷ ds) V
      → (U : List (Vect S.field)) × (W : List (Vect S.field)) × Passes S cap T cs U × Passes S cap U (c ∷ []) W
  passes_split T [] c ds V (n, inl p) = (T, T ++ c ∷ [], refl, (n, inl (p.0, p.1, p.2, refl)))
  passes_split T [] c ds V (n, inr p) = (T, T, refl, (n, inr (p.0, refl)))
  passes_split T (x ∷ cs) c ds V (n, inl p) = let r = passes_split (T ++ x ∷ []) cs c ds V p.3 in (r.0, r.1, (n, inl (p.0, p.1, p.2, r.2)), r.3)
  passes_split T (x ∷ cs) c ds V (n, inr p) = let r = passes_split T cs c ds V p.1 in (r.0, r.1, (n, inr (p.0, r.2)), r.3)

  -- a walk does not go past the candidate
  abbrev Blocked : List (Vect S.field) → Vect S.field → Type 0
  Blocked T c = (W : List (Vect S.field)) → ¬ Passes S cap T (c ∷ []) W

  not_past : (T cs : List (Vect S.field)) (c : Vect S.field) (ds U V : List (Vect S.field)) → Passes S cap T cs U → Blocked U c → ¬ Passes S cap T (cs ++ c ∷ ds) V
  not_past T cs c ds U V h b g =
      let r = passes_split T cs c ds V g in
      b r.1 (subst (λ l. Passes S cap l (c ∷ []) r.1) (passes_one T cs r.0 U r.2 h) r.3)

  -- there is one candidate past which the walk does not go
  same_reach : (T cs U V : List (Vect S.field)) (c d : Vect S.field) → Reaches S cap T cs U c → Reaches S cap T cs V d → Blocked U c → Blocked V d → (U ≡ V) × (c ≡ d)
  same_reach T cs U V c d r s b f = go (compare_places r.front s.front r.back s.back c d (r.place ∙ sym s.place))
    where
      go : ((r.front ≡ s.front) × (c ≡ d)) ⊎ (((m : List (Vect S.field)) × (r.front ++ c ∷ m ≡ s.front)) ⊎ ((m : List (Vect S.field)) × (s.front ++ d ∷ m ≡ r.front))) → (U ≡ V) × (c ≡ d)
      go (inl p) = (passes_one T s.front U V (subst (λ l. Passes S cap T l U) p.0 r.walked) s.walked, p.1)
      go (inr (inl p)) = absurd (not_past T r.front c p.0 U V r.walked b (subst (λ l. Passes S cap T l V) (sym p.1) s.walked))
      go (inr (inr p)) = absurd (not_past T s.front d p.0 V U s.walked f (subst (λ l. Passes S cap T l U) (sym p.1) r.walked))

  -- what blocks it
  colon_apart : (T : List (Vect S.field)) (c : Vect S.field) (b : BasisBound E) → IsColonBound S T c cap b → ¬ NoColonAbove S T c cap
  colon_apart T c b h n = n h.0 h.1 (vector_of (colon_space S h.0) (λ m. m) b.vector) h.2.lead h.2.above

  ideal_apart : (T : List (Vect S.field)) (b : BasisBound E) → IsIdealBound S T cap b → ¬ NoIdealAbove S T cap
  ideal_apart T b h n = n (vector_of S (λ m. m) b.vector) h.lead h.above

  end_blocked : (T : List (Vect S.field)) (c : Vect S.field) → Takes S cap T c → Ended S.field (length S.weights) (T ++ c ∷ []) → Blocked T c
  end_blocked T c t e W (n, inl p) = p.2 e
  end_blocked T c t e W (n, inr p) = p.0 t.nonzerodivisor

  colon_blocked : (T : List (Vect S.field)) (c : Vect S.field) (b : BasisBound E) → IsColonBound S T c cap b → Blocked T c
  colon_blocked T c b h W p = colon_apart T c b h p.0

  ideal_blocked : (T : List (Vect S.field)) (c : Vect S.field) (b : BasisBound E) → Takes S cap T c → IsIdealBound S (T ++ c ∷ []) cap b → Blocked T c
  ideal_blocked T c b t h W (n, inl p) = ideal_apart (T ++ c ∷ []) b h p.1
  ideal_blocked T c b t h W (n, inr p) = p.0 t.nonzerodivisor

module _ {E : Type 0} (S : SpaceOver E) (gens : List (Matrix E)) (l : Limits) where
  abbrev cs : List (Vect S.field) → List (Vect S.field)
  cs bs = candidates S.field l.tries bs

  one_basis : (d : ℕ) (bs es : List (Vect S.field)) → IsEchelonBasis S gens d bs → IsEchelonBasis S gens d es → bs ≡ es
  one_basis d bs es h g = echelon_basis_unique S gens d bs es h g

  one_passed : (d : ℕ) (T U : List (Vect S.field)) → PassesDegrees S gens l d T → PassesDegrees S gens l d U → T ≡ U
  one_passed zero T U h g = h ∙ sym g
  one_passed (suc d) T U h g =
      let before = one_passed d h.0 g.0 h.2 g.2 in
      let basis = one_basis (suc d) h.1 g.1 h.4 g.4 in
      passes_one S l.max_basis g.0 (cs g.1) T U (subst (λ b. Passes S l.max_basis g.0 (cs b) T) basis (subst (λ B. Passes S l.max_basis B (cs h.1) T) before h.5)) g.5

  passes_down : (d e : ℕ) (T : List (Vect S.field)) → d < e → PassesDegrees S gens l e T → (V : List (Vect S.field)) × PassesDegrees S gens l (suc d) V
  passes_down d zero T h p = absurd (omega arith)
  passes_down d (suc e) T h p = go (dec_le (suc d) e) (λ m. passes_down d e p.0 m p.2)
    where
      go : Dec (d < e) → (d < e → (V : List (Vect S.field)) × PassesDegrees S gens l (suc d) V) → (V : List (Vect S.field)) × PassesDegrees S gens l (suc d) V
      go (yes m) below = below m
      go (no m) below = (T, subst (λ n. PassesDegrees S gens l n T) (let q : suc e ≡ suc d = omega arith in q) p)

  -- the search comes to a candidate and does not go past it
  record Halts (T : List (Vect S.field)) (c : Vect S.field) : Type 0 where
    comes : ComesTo S gens l T c
    blocked : Blocked S l.max_basis T c

  halts_there : (T : List (Vect S.field)) (c : Vect S.field) (h : Halts T c) (V : List (Vect S.field)) → ¬ PassesDegrees S gens l (suc h.comes.degree) V
  halts_there T c h V p =
      let m = h.comes in
      let before = one_passed m.degree p.0 m.before p.2 m.passed in
      let basis = one_basis (suc m.degree) p.1 m.basis p.4 m.echelon in
      not_past S l.max_basis m.before m.reaches.front c m.reaches.back T V m.reaches.walked h.blocked
      (subst (λ x. Passes S l.max_basis m.before x V) (ap cs basis ∙ sym m.reaches.place) (subst (λ B. Passes S l.max_basis B (cs p.1) V) before p.5))

  halts_before : (T : List (Vect S.field)) (c : Vect S.field) (h : Halts T c) (d : ℕ) (V : List (Vect S.field)) → PassesDegrees S gens l d V → d ≤ h.comes.degree
  halts_before T c h d V p = go (dec_le d h.comes.degree)
    where
      go : Dec (d ≤ h.comes.degree) → d ≤ h.comes.degree
      go (yes m) = m
      go (no m) = absurd (let q = passes_down h.comes.degree d V (omega arith) p in halts_there T c h q.0 q.1)

  same_halt : (T U : List (Vect S.field)) (c d : Vect S.field) → Halts T c → Halts U d → (T ≡ U) × (c ≡ d)
  same_halt T U c d h g =
      let m = h.comes in
      let n = g.comes in
      let a = halts_before T c h n.degree n.before n.passed in
      let b = halts_before U d g m.degree m.before m.passed in
      let same : n.degree ≡ m.degree = omega arith in
      let before = one_passed m.degree n.before m.before (subst (λ q. PassesDegrees S gens l q n.before) same n.passed) m.passed in
      let basis = one_basis (suc m.degree) n.basis m.basis (subst (λ q. IsEchelonBasis S gens (suc q) n.basis) same n.echelon) m.echelon in
      same_reach S l.max_basis m.before (cs m.basis) T U c d m.reaches
      (subst (λ x. Reaches S l.max_basis m.before (cs x) U d) basis (subst (λ B. Reaches S l.max_basis B (cs n.basis) U d) before n.reaches)) h.blocked g.blocked

  -- it halts at a degree whose monomials are not too many, before the last is passed
  halts_terms : (T : List (Vect S.field)) (c : Vect S.field) → Halts T c → (d count : ℕ) → ¬ IsTermBound S gens l d count
  halts_terms T c h d count t =
      let a = halts_before T c h t.before t.found t.passed in
      go (dec_le (suc t.before) h.comes.degree) a
    where
      go : Dec (t.before < h.comes.degree) → t.before ≤ h.comes.degree → ⊥
      go (yes m) a =
          let p = passes_down t.before h.comes.degree h.comes.before m h.comes.passed in
          let low : monomials_of_degree (length S.weights) d ≤ l.max_terms = subst (λ n. monomials_of_degree (length S.weights) n ≤ l.max_terms) t.next p.1.3 in
          let o = t.over in let e = t.counted in omega arith
      go (no m) a =
          let same : suc h.comes.degree ≡ d = let n = t.next in omega arith in
          let low : monomials_of_degree (length S.weights) d ≤ l.max_terms = subst (λ n. monomials_of_degree (length S.weights) n ≤ l.max_terms) same h.comes.terms in
          let o = t.over in let e = t.counted in omega arith

  halts_lacks : (T : List (Vect S.field)) (c : Vect S.field) → Halts T c → (U : List (Vect S.field)) (d : ℕ) → ¬ IsNoPrimary S gens l U d
  halts_lacks T c h U d n = let a = halts_before T c h d U n.passed in let w = h.comes.within in let e = n.degree in omega arith

  end_halts : (θ : List (Vect S.field)) (h : IsEnd S gens l θ) → Halts h.taken h.candidate
  end_halts θ h = record { comes = h.comes; blocked = end_blocked S l.max_basis h.taken h.candidate h.takes (subst (Ended S.field (length S.weights)) (sym h.whole) h.ended) }

  colon_halts : (b : BasisBound E) (h : IsColonStop S gens l b) → Halts h.taken h.candidate
  colon_halts b h = record { comes = h.comes; blocked = colon_blocked S l.max_basis h.taken h.candidate b h.bound }

  ideal_halts : (b : BasisBound E) (h : IsIdealStop S gens l b) → Halts h.taken h.candidate
  ideal_halts b h = record { comes = h.comes; blocked = ideal_blocked S l.max_basis h.taken h.candidate b h.takes h.bound }

  end_colon : (θ : List (Vect S.field)) (b : BasisBound E) → IsEnd S gens l θ → ¬ IsColonStop S gens l b
  end_colon θ b h g =
      let s = same_halt h.taken g.taken h.candidate g.candidate (end_halts θ h) (colon_halts b g) in
      colon_apart S l.max_basis g.taken g.candidate b g.bound (subst (λ c. NoColonAbove S g.taken c l.max_basis) s.1 (subst (λ T. NoColonAbove S T h.candidate l.max_basis) s.0 h.takes.colon))

  end_ideal : (θ : List (Vect S.field)) (b : BasisBound E) → IsEnd S gens l θ → ¬ IsIdealStop S gens l b
  end_ideal θ b h g =
      let s = same_halt h.taken g.taken h.candidate g.candidate (end_halts θ h) (ideal_halts b g) in
      ideal_apart S l.max_basis (g.taken ++ g.candidate ∷ []) b g.bound (subst (λ T. NoIdealAbove S T l.max_basis) (sym h.whole ∙ ap₂ (λ T c. T ++ c ∷ []) s.0 s.1) h.ideal)

  colon_ideal : (b c : BasisBound E) → IsColonStop S gens l b → ¬ IsIdealStop S gens l c
  colon_ideal b c h g =
      let s = same_halt h.taken g.taken h.candidate g.candidate (colon_halts b h) (ideal_halts c g) in
      colon_apart S l.max_basis h.taken h.candidate b h.bound
      (subst (λ x. NoColonAbove S h.taken x l.max_basis) (sym s.1) (subst (λ T. NoColonAbove S T g.candidate l.max_basis) (sym s.0) g.takes.colon))

  terms_lacks : (d count : ℕ) → IsTermBound S gens l d count → (T : List (Vect S.field)) (e : ℕ) → ¬ IsNoPrimary S gens l T e
  terms_lacks d count t T e n =
      let p = passes_down t.before e T (let a = t.next in let b = t.within in let c = n.degree in omega arith) n.passed in
      let low : monomials_of_degree (length S.weights) d ≤ l.max_terms = subst (λ m. monomials_of_degree (length S.weights) m ≤ l.max_terms) t.next p.1.3 in
      let o = t.over in let q = t.counted in omega arith

  terms_before : (d e m n : ℕ) (t : IsTermBound S gens l d m) (u : IsTermBound S gens l e n) → u.before ≤ t.before
  terms_before d e m n t u = go (dec_le u.before t.before)
    where
      go : Dec (u.before ≤ t.before) → u.before ≤ t.before
      go (yes q) = q
      go (no q) = absurd (
          let p = passes_down t.before u.before u.found (omega arith) u.passed in
          let low : monomials_of_degree (length S.weights) d ≤ l.max_terms = subst (λ x. monomials_of_degree (length S.weights) x ≤ l.max_terms) t.next p.1.3 in
          let o = t.over in let r = t.counted in omega arith)

  -- the ways exclude one another
  pub ends_alone : Ends S gens l → ¬ (LacksPrimaries S gens l ⊎ IsPastTerms S gens l ⊎ StopsAtColon S gens l ⊎ StopsAtIdeal S gens l)
  ends_alone h (inl g) = halts_lacks h.1.taken h.1.candidate (end_halts h.0 h.1) g.0 g.1 g.2
  ends_alone h (inr (inl g)) = halts_terms h.1.taken h.1.candidate (end_halts h.0 h.1) g.0 g.1 g.2
  ends_alone h (inr (inr (inl g))) = end_colon h.0 g.0 h.1 g.1
  ends_alone h (inr (inr (inr g))) = end_ideal h.0 g.0 h.1 g.1

  pub lacks_alone : LacksPrimaries S gens l → ¬ (IsPastTerms S gens l ⊎ StopsAtColon S gens l ⊎ StopsAtIdeal S gens l)
  lacks_alone h (inl g) = terms_lacks g.0 g.1 g.2 h.0 h.1 h.2
  lacks_alone h (inr (inl g)) = halts_lacks g.1.taken g.1.candidate (colon_halts g.0 g.1) h.0 h.1 h.2
  lacks_alone h (inr (inr g)) = halts_lacks g.1.taken g.1.candidate (ideal_halts g.0 g.1) h.0 h.1 h.2

  pub terms_alone : IsPastTerms S gens l → ¬ (StopsAtColon S gens l ⊎ StopsAtIdeal S gens l)
  terms_alone h (inl g) = halts_terms g.1.taken g.1.candidate (colon_halts g.0 g.1) h.0 h.1 h.2
  terms_alone h (inr g) = halts_terms g.1.taken g.1.candidate (ideal_halts g.0 g.1) h.0 h.1 h.2

  pub colon_alone : StopsAtColon S gens l → ¬ StopsAtIdeal S gens l
  colon_alone h g = colon_ideal h.0 g.0 h.1 g.1

  -- and each comes in one form
  pub one_end : (θ φ : List (Vect S.field)) → IsEnd S gens l θ → IsEnd S gens l φ → θ ≡ φ
  one_end θ φ h g = let s = same_halt h.taken g.taken h.candidate g.candidate (end_halts θ h) (end_halts φ g) in sym h.whole ∙ ap₂ (λ T c. T ++ c ∷ []) s.0 s.1 ∙ g.whole

  pub one_lack : (T U : List (Vect S.field)) (d e : ℕ) → IsNoPrimary S gens l T d → IsNoPrimary S gens l U e → (T ≡ U) × (d ≡ e)
  one_lack T U d e h g =
      let same : d ≡ e = h.degree ∙ sym g.degree in
      (one_passed e T U (subst (λ n. PassesDegrees S gens l n T) same h.passed) g.passed, same)

  pub one_degree : (d e m n : ℕ) → IsTermBound S gens l d m → IsTermBound S gens l e n → (d ≡ e) × (m ≡ n)
  one_degree d e m n t u =
      let a = terms_before d e m n t u in
      let b = terms_before e d n m u t in
      let same : d ≡ e = let x = t.next in let y = u.next in omega arith in
      (same, t.counted ∙ ap (monomials_of_degree (length S.weights)) same ∙ sym u.counted)

  pub one_ideal : (b c : BasisBound E) → IsIdealStop S gens l b → IsIdealStop S gens l c → b.degree ≡ c.degree
  one_ideal b c h g =
      let s = same_halt h.taken g.taken h.candidate g.candidate (ideal_halts b h) (ideal_halts c g) in
      least_degree S (InIdeal S.field (g.taken ++ g.candidate ∷ [])) l.max_basis Ideal b c (subst (λ T. IsIdealBound S T l.max_basis b) (ap₂ (λ T x. T ++ x ∷ []) s.0 s.1) h.bound) g.bound

  pub one_colon : (b c : BasisBound E) → IsColonStop S gens l b → IsColonStop S gens l c → b.degree ≡ c.degree
  one_colon b c h g =
      let s = same_halt h.taken g.taken h.candidate g.candidate (colon_halts b h) (colon_halts c g) in
      let x : IsColonBound S g.taken g.candidate l.max_basis b = subst (λ q. IsColonBound S g.taken q l.max_basis b) s.1 (subst (λ T. IsColonBound S T h.candidate l.max_basis b) s.0 h.bound) in
      let m = g.comes in
      let not_zero = (each_candidate S gens (suc m.degree) m.basis m.echelon g.candidate (in_taken l.tries (all_candidates S.field m.basis) g.candidate (head_in m.reaches.front m.reaches.back (cs m.basis) g.candidate m.reaches.place))).1 in
      let same = one_form S g.candidate not_zero x.0 g.bound.0 x.1 g.bound.1 in
      least_degree (colon_space S g.bound.0) (InColon S.field g.taken g.candidate) l.max_basis Colon b c
      (subst (λ n. IsBasisBound (colon_space S n) (InColon S.field g.taken g.candidate) l.max_basis Colon b) same x.2) g.bound.2
