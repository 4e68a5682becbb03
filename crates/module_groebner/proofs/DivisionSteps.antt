-- The loop of division: what is done and what is left are lists of terms.
use Rattle.std.proofs.Common.{◌≡◌, ◌≤◌, ◌<◌, ℕ, zero, suc, ◌+◌, ◌-◌, get_or, take, drop, length-drop, Bool, true, false, List, [], ◌∷◌, ◌++◌, length, sym, ap, ◌∙◌, refl, subst, append_assoc, arith}
use Rattle.std.specs.Prelude.{All, filter}
use Rattle.std.specs.Ordering.{is_lt}
use Rattle.std.proofs.lemmas.List.{take_all}
use native.Mathlib.Decide.{ℕ_discrete, dec_le}
use Rattle.std.specs.declared.cmp.Ordering.{Ordering}
use Rattle.std.specs.declared.cmp.Ordering.TheVariants.{Less}
use Rattle.alg_core.specs.Fields.{FieldOn, scalars, is_field, scalar}
use Rattle.alg_core.specs.Keys.{Key, key, key_same, times_key, KeyDivides}
use Rattle.alg_core.specs.KeyLists.{keys_up_to}
use Rattle.alg_core.specs.KeyOrders.{OrderOn, less_transitive, less_irreflexive}
use Rattle.alg_core.specs.Leads.{lead_unique}
use Rattle.alg_core.specs.declared.term.Term.{Term}
use Rattle.alg_core.specs.Spaces.{SpaceOver, entry, entries, IsTerm, IsAbove, Fits}
use Rattle.alg_core.specs.SpaceOrder.{key_order, key_compare_places}
use Rattle.alg_core.specs.SpaceGrading.{AllPositive, degree}
use Rattle.alg_core.specs.Vectors.{Entry, Vect, vec, vectors, coef_at, plus, zero_vector, shift}
use Rattle.alg_core.proofs.FittingLists.{less_turned, greater_turned, above_more, above_append, above_front, above_back, fits_front, fits_back, lead_first}
use Rattle.alg_core.proofs.KeyLists.{in_keys_up_to}
use Rattle.alg_core.proofs.Members.{filter_shorter}
use Rattle.alg_core.proofs.VectorEntries.{vec_over}
use Rattle.alg_core.proofs.VectorLaws.{plus_comm, vec_nothing, vec_append, vec_cons, vec_single}
use Rattle.poly_module.specs.Degrees.{IsHomogeneous}
use Rattle.poly_module.specs.Modules.{LeadBy, listed}
use Rattle.poly_module.specs.Parts.{Supp, supp_act, supp_single}
use Rattle.poly_module.specs.Polynomials.{single_vector}
use Rattle.poly_module.specs.SpaceVectors.{IsUpTo, vector_of, vectors_of}
use Rattle.poly_module.proofs.EntryCoefficients.{entry_value}
use Rattle.poly_module.proofs.ExponentBounds.{fits_keys, vec_supp}
use Rattle.poly_module.proofs.MergeSteps.{pushed_entries, drop_at}
use Rattle.module_groebner.specs.HomogeneousLists.{degree_limit}
use Rattle.module_groebner.specs.Reductions.{IsReduction}
use Rattle.module_groebner.specs.Remainders.{IsRemainder, KeepsDegrees}
use Rattle.module_groebner.proofs.ReductionSteps.{lead_not_zero}
use Rattle.module_groebner.proofs.Remainders.{Division, Irreducible, division_start, division_reduce, division_move, division_end}

module _ {E : Type 0} (S : SpaceOver E) where
  abbrev k : FieldOn E
  k = S.field

  abbrev o : OrderOn Key
  o = key_order S

  -- the terms from one on, replaced by smaller ones
  pub fits_replaced : (made : List (Entry E)) (e : Entry E) (tail new : List (Entry E)) → Fits S (made ++ (e ∷ tail)) → Fits S new → IsAbove S e.0 new → Fits S (made ++ new)
  fits_replaced [] e tail new h f a = f
  fits_replaced (x ∷ made) e tail new h f a = (
    h.0,
    above_append S x.0 made new (above_front S x.0 made (e ∷ tail) h.1) (above_more S x.0 e.0 new (above_back S x.0 made (e ∷ tail) h.1).0 a),
    fits_replaced made e tail new h.2 f a,
  )

  -- keys below that of a term
  pub above_of : (e : Entry E) (new : List (Entry E)) → IsTerm S e → Fits S new → All (λ f. (key_order S).compare (key f.0) (key e.0) ≡ Less) new → IsAbove S e.0 new
  above_of e [] te f h = tt
  above_of e (x ∷ new) te f h = (
    less_turned S.order x.0 e.0 (sym (key_compare_places (length S.weights) S.order x.0 e.0 f.0.place.wide te.place.wide) ∙ h 0 x (omega arith)),
    above_of e new te f.2 (λ i d w. h (suc i) d (omega arith)),
  )

  -- how many keys are at most that of the first term: it falls with each step
  unfoldable pub size : List (Entry E) → ℕ
  size [] = 0
  size (e ∷ es) = suc (length (filter (λ s. is_lt ((key_order S).compare s (key e.0))) (keys_up_to S degree_limit)))

  less_true : (r : Ordering) → r ≡ Less → is_lt r ≡ true
  less_true r e = ap is_lt e

  true_less : (r : Ordering) → is_lt r ≡ true → r ≡ Less
  true_less r e = grind arith

  not_true : (b : Bool) → ¬ (b ≡ true) → b ≡ false
  not_true true n = absurd (n refl)
  not_true false n = refl

  pub size_falls : AllPositive S.weights → (e : Entry E) (tail new : List (Entry E)) → Fits S new → IsUpTo S degree_limit (vec S.field new) → All (λ f. (key_order S).compare (key f.0) (key e.0) ≡ Less) new → size new < size (e ∷ tail)
  unfolding size coef_at
  size_falls positive e tail [] f up h = omega arith
  size_falls positive e tail (x ∷ new) f up h =
      let less = h 0 x (omega arith) in
      let lead = lead_first S x new f in
      let shorter = filter_shorter (λ s. is_lt (o.compare s (key x.0))) (λ s. is_lt (o.compare s (key e.0))) (keys_up_to S degree_limit) (key x.0)
      (λ s q. less_true _ (less_transitive o s (key x.0) (key e.0) (true_less _ q) less))
      (in_keys_up_to S positive degree_limit (key x.0) (vec_over S (x ∷ new) f (key x.0) lead.there) (up (key x.0) lead.there))
      (not_true _ (λ q. less_irreflexive o (key x.0) (key x.0) refl (true_less _ q)))
      (less_true _ less) in
      omega arith

  -- the entries after one have smaller keys
  pub below_of : (e : Entry E) (es : List (Entry E)) → Fits S (e ∷ es) → All (λ f. (key_order S).compare (key f.0) (key e.0) ≡ Less) es
  below_of e es h = go es h.1 h.2
    where
      go : (es : List (Entry E)) → IsAbove S e.0 es → Fits S es → All (λ f. (key_order S).compare (key f.0) (key e.0) ≡ Less) es
      go [] a f i d w = absurd (omega arith)
      go (x ∷ es) a f zero d w = key_compare_places (length S.weights) S.order x.0 e.0 f.0.place.wide h.0.place.wide ∙ greater_turned S.order e.0 x.0 a.0
      go (x ∷ es) a f (suc i) d w = go es a.1 f.2 i d (omega arith)

  tail_up_to : (d : ℕ) (e : Entry E) (es : List (Entry E)) → Fits S (e ∷ es) → IsUpTo S d (vec S.field (e ∷ es)) → IsUpTo S d (vec S.field es)
  tail_up_to d e es f up = vec_supp S.field (λ t. degree S t ≤ d) es (λ i x w. fits_keys S (λ t. degree S t ≤ d) (e ∷ es) f up (suc i) x (omega arith))

  module _ {M : Type 0} (exps : M → List ℕ) (v : Vect S.field) (vs : List (Vect S.field)) where
    -- what is done, and what is left to divide
    pub record State (done rest : List (Term E M)) : Type 0 where
      pub fits : Fits S (entries exps done ++ entries exps rest)
      pub division : Division S (listed S.field vs) v (vec S.field (entries exps rest)) (vec S.field (entries exps done))

    pub starts : (done rest : List (Term E M)) (es : List (Entry E)) → done ≡ [] → entries exps rest ≡ es → Fits S es → vec S.field es ≡ v → State done rest
    starts done rest es none same fits is =
        let nothing : entries exps done ≡ [] = ap (entries exps) none in
        record {
          fits = subst (λ l. Fits S (l ++ entries exps rest)) (sym nothing) (subst (Fits S) (sym same) fits);
          division = subst (λ u. Division S (listed k vs) v (vec k (entries exps rest)) u) (sym (ap (vec k) nothing ∙ vec_nothing k))
              (subst (λ u. Division S (listed k vs) v u (zero_vector k)) (sym (ap (vec k) same ∙ is)) (division_start S (listed k vs) v));
        }

    -- the first of the terms that are left
    pub at_top : (done rest : List (Term E M)) (start : ℕ) (top : Term E M) → start < length rest → top ≡ get_or rest start top → State done (drop start rest) → State done (top ∷ drop (start + 1) rest)
    at_top done rest start top h read s = subst (State done) (drop_at rest start top h read) s

    pub sliced : (slice rest : List (Term E M)) (start : ℕ) (top : Term E M) → slice ≡ rest → start < length rest → top ≡ get_or rest start top → take (length slice - start) (drop start slice) ≡ top ∷ drop (start + 1) rest
    sliced slice rest start top same h read = take_all (length slice - start) (drop start slice) (omega (arith, length-drop start slice)) ∙ ap (drop start) same ∙ drop_at rest start top h read

    pub left_fits : (done rest : List (Term E M)) → State done rest → Fits S (entries exps rest)
    left_fits done rest s = fits_back S (entries exps done) (entries exps rest) s.fits

    pub top_term : (done rest : List (Term E M)) (t : Term E M) → State done (t ∷ rest) → IsTerm S (entry exps t)
    top_term done rest t s = (left_fits done (t ∷ rest) s).0

    pub top_lead : (done rest : List (Term E M)) (t : Term E M) → State done (t ∷ rest) → LeadBy S.field (key_order S) (vec S.field (entries exps (t ∷ rest))) (key (entry exps t).0)
    top_lead done rest t s = lead_first S (entry exps t) (entries exps rest) (left_fits done (t ∷ rest) s)

    pub top_value : (done rest : List (Term E M)) (t : Term E M) → State done (t ∷ rest) → coef_at S.field (vec S.field (entries exps (t ∷ rest))) (key (entry exps t).0) ≡ scalar S.field t.coef
    top_value done rest t s = entry_value S (entries exps (t ∷ rest)) 0 (entry exps t) (omega arith) (left_fits done (t ∷ rest) s)

    pub left_up_to : (done rest : List (Term E M)) → State done rest → IsUpTo S degree_limit v → IsUpTo S degree_limit (vec S.field (entries exps rest))
    left_up_to done rest s up = s.division.rest_degrees.bound degree_limit up

    pub smaller_moved : AllPositive S.weights → IsUpTo S degree_limit v → (done rest : List (Term E M)) (t : Term E M) → State done (t ∷ rest) → size (entries exps rest) < size (entries exps (t ∷ rest))
    smaller_moved positive up done rest t s =
        let f = left_fits done (t ∷ rest) s in
        size_falls positive (entry exps t) (entries exps rest) (entries exps rest) f.2 (tail_up_to degree_limit (entry exps t) (entries exps rest) f (left_up_to done (t ∷ rest) s up)) (below_of (entry exps t) (entries exps rest) f)

    -- an irreducible first term goes to what is done
    pub moves : (done new rest : List (Term E M)) (t u : Term E M) → new ≡ done ++ (u ∷ []) → entry exps u ≡ entry exps t
        → Irreducible S (listed S.field vs) (key (entry exps t).0) → State done (t ∷ rest) → State new rest
    unfolding coef_at single_vector
    moves done new rest t u is same irr s =
        let e = entry exps t in
        let pushed : entries exps done ++ (e ∷ []) ≡ entries exps new = pushed_entries S exps done new u e is same in
        let back = fits_back S (entries exps done) (e ∷ entries exps rest) s.fits in
        record {
          fits = subst (λ l. Fits S (l ++ entries exps rest)) pushed (subst (Fits S) (sym (append_assoc (entries exps done) (e ∷ []) (entries exps rest))) s.fits);
          division = subst (λ w. Division S (listed k vs) v (vec k (entries exps rest)) w) (sym (vec_append k (entries exps done) (e ∷ [])) ∙ ap (vec k) pushed)
              (division_move S (listed k vs) v _ _ (vec k (entries exps rest)) (vec k (e ∷ [])) s.division (key e.0) irr (lead_first S e (entries exps rest) back).there
              (subst (Supp k (λ x. x ≡ key e.0)) (sym (vec_single k e)) (supp_act k (λ x. x ≡ key e.0) _ _ (supp_single k (λ x. x ≡ key e.0) (key e.0) refl)))
              (plus_comm k _ _ ∙ sym (vec_cons k e (entries exps rest))));
        }

    -- a multiple of a member is taken from what is left
    pub reduces : (done rest left : List (Term E M)) (t : Term E M) (i : ℕ) (g : Vect S.field) (d : ℕ) → g ≡ listed S.field vs i → IsHomogeneous S d g
        → IsReduction S (vec S.field (entries exps (t ∷ rest))) g (vec S.field (entries exps left)) → Fits S (entries exps left)
        → State done (t ∷ rest) → State done left × All (λ f. (key_order S).compare (key f.0) (key (entry exps t).0) ≡ Less) (entries exps left)
    unfolding coef_at
    reduces done rest left t i g d is hom r fits s =
        let e = entry exps t in
        let back = fits_back S (entries exps done) (e ∷ entries exps rest) s.fits in
        let top : times_key r.monomial r.lead ≡ key e.0 = lead_unique (scalars k) (is_field k) key_same o _ _ _ r.top (lead_first S e (entries exps rest) back) in
        let low = subst (λ x. Supp k (λ y. o.compare y x ≡ Less) (vec k (entries exps left))) top r.below in
        let under = fits_keys S (λ y. o.compare y (key e.0) ≡ Less) (entries exps left) fits low in (
          record {
            fits = fits_replaced (entries exps done) e (entries exps rest) (entries exps left) s.fits fits (above_of e (entries exps left) back.0 fits under);
            division = division_reduce S (listed k vs) v _ _ (vec k (entries exps left)) s.division r.factor r.monomial i r.lead d (subst (IsHomogeneous S d) is hom)
                (subst (λ u. LeadBy k o u r.lead) is r.is_lead) r.top.there (ap (λ u. plus k (vec k (entries exps left)) ((vectors k).◌·◌ r.factor (shift k r.monomial u))) (sym is) ∙ r.sum);
          },
          under,
        )

    pub smaller_reduced : AllPositive S.weights → IsUpTo S degree_limit v → (done rest left : List (Term E M)) (t : Term E M) → Fits S (entries exps left)
        → State done left × All (λ f. (key_order S).compare (key f.0) (key (entry exps t).0) ≡ Less) (entries exps left) → size (entries exps left) < size (entries exps (t ∷ rest))
    smaller_reduced positive up done rest left t fits s = size_falls positive (entry exps t) (entries exps rest) (entries exps left) fits (left_up_to done left s.0 up) s.1

    pub ends : (done rest : List (Term E M)) → rest ≡ [] → State done rest → Fits S (entries exps done) × IsRemainder S (listed S.field vs) v (vec S.field (entries exps done)) × KeepsDegrees S v (vec S.field (entries exps done))
    ends done rest none s =
        let z : vec k (entries exps rest) ≡ zero_vector k = ap (λ l. vec k (entries exps l)) none ∙ vec_nothing k in (
          fits_front S (entries exps done) (entries exps rest) s.fits,
          division_end S (listed k vs) v _ (subst (λ u. Division S (listed k vs) v u (vec k (entries exps done))) z s.division),
          s.division.done_degrees,
        )

  -- the search for a member whose lead divides a term
  module _ {M : Type 0} (exps : M → List ℕ) where
    pub listed_at : (list : List (List (Term E M))) (i : ℕ) (x : List (Term E M)) → i < length list → x ≡ get_or list i x → vector_of S exps x ≡ listed S.field (vectors_of S exps list) i
    listed_at [] i x h e = absurd (omega arith)
    listed_at (y ∷ list) zero x h e = ap (vector_of S exps) e
    listed_at (y ∷ list) (suc i) x h e = listed_at list i x (omega arith) e

    listed_past : (list : List (List (Term E M))) (i : ℕ) → length list ≤ i → listed S.field (vectors_of S exps list) i ≡ zero_vector S.field
    listed_past [] i h = refl
    listed_past (y ∷ list) zero h = absurd (omega arith)
    listed_past (y ∷ list) (suc i) h = listed_past list i (omega arith)

    -- a fact on all members is one on that at a place
    pub member_has : (P : Vect S.field → Type 0) (list : List (List (Term E M))) (i : ℕ) (x : List (Term E M)) → i < length list → x ≡ get_or list i x → All P (vectors_of S exps list) → P (vector_of S exps x)
    member_has P [] i x h e a = absurd (omega arith)
    member_has P (y ∷ list) zero x h e a = subst (λ z. P (vector_of S exps z)) (sym e) (a 0 (vector_of S exps y) (omega arith))
    member_has P (y ∷ list) (suc i) x h e a = member_has P list i x (omega arith) e (λ j z w. a (suc j) z (omega arith))

    pub member_divides : (list : List (List (Term E M))) (i : ℕ) (x : List (Term E M)) (t : Key) → i < length list → x ≡ get_or list i x
        → (s : Key) × LeadBy S.field (key_order S) (listed S.field (vectors_of S exps list) i) s × KeyDivides s t → (s : Key) × LeadBy S.field (key_order S) (vector_of S exps x) s × KeyDivides s t
    member_divides list i x t h e d = (d.0, subst (λ u. LeadBy S.field (key_order S) u d.0) (sym (listed_at list i x h e)) d.1, d.2)

    pub found : (list : List (List (Term E M))) (i : ℕ) (x : List (Term E M)) (s t : Key) → i < length list → x ≡ get_or list i x → LeadBy S.field (key_order S) (vector_of S exps x) s → KeyDivides s t
        → (r : Key) × LeadBy S.field (key_order S) (listed S.field (vectors_of S exps list) i) r × KeyDivides r t
    found list i x s t h e l d = (s, subst (λ u. LeadBy S.field (key_order S) u s) (listed_at list i x h e) l, d)

    -- no lead of the first i members divides t
    abbrev pub Passed : List (List (Term E M)) → ℕ → Key → Type 0
    Passed list i t = (j : ℕ) → j < i → (s : Key) → LeadBy S.field (key_order S) (listed S.field (vectors_of S exps list) j) s → ¬ KeyDivides s t

    pub passed : (list : List (List (Term E M))) (i : ℕ) (x : List (Term E M)) (t : Key) → i < length list → x ≡ get_or list i x
        → ((s : Key) → LeadBy S.field (key_order S) (vector_of S exps x) s → ¬ KeyDivides s t) → Passed list i t → Passed list (i + 1) t
    passed list i x t h e n p j lt s l d = go (ℕ_discrete j i)
      where
        go : Dec (j ≡ i) → ⊥
        go (yes same) = n s (subst (λ u. LeadBy S.field (key_order S) u s) (ap (listed S.field (vectors_of S exps list)) same ∙ sym (listed_at list i x h e)) l) d
        go (no other) = p j (omega arith) s l d

    pub nothing_found : (list : List (List (Term E M))) (n : ℕ) (t : Key) → length list ≤ n → Passed list n t
        → (i : ℕ) (s : Key) → LeadBy S.field (key_order S) (listed S.field (vectors_of S exps list) i) s → ¬ KeyDivides s t
    nothing_found list n t h p i s l d = go (dec_le (suc i) (length list))
      where
        go : Dec (suc i ≤ length list) → ⊥
        go (yes lt) = p i (omega arith) s l d
        go (no past) = lead_not_zero S _ s l (listed_past list i (omega arith))
