-- One candidate more along a walk.
use Rattle.std.proofs.Common.{◌≡◌, Option, Some, None, inl, inr, ◌∙◌, ℕ, zero, suc, ◌+◌, ◌-◌, ◌<◌, ◌≤◌, List, [], ◌∷◌, ◌++◌, length, take, sym, ap, refl, subst, arith, append_assoc, append-nil}
use Rattle.std.specs.Prelude.{IfNone, IfSome}
use Rattle.alg_core.specs.Spaces.{SpaceOver}
use Rattle.alg_core.specs.Vectors.{Vect}
use Rattle.module_groebner.specs.declared.bound.BasisBound.{BasisBound}
use Rattle.primary_search.specs.Searches.{Passes, Reaches, IsStop, IsLast}

take_front : {A : Type 0} (xs : List A) (x : A) (ys : List A) (n r : ℕ) → n ≡ suc (length xs + r) → take n (xs ++ x ∷ ys) ≡ xs ++ x ∷ take r ys
take_front [] x ys n r e = let f : n ≡ suc r = omega arith in ap (λ m. take m (x ∷ ys)) f
take_front (y ∷ xs) x ys zero r e = absurd (omega arith)
take_front (y ∷ xs) x ys (suc n) r e = ap (λ l. y ∷ l) (take_front xs x ys n r (omega arith))

take_exact : {A : Type 0} (xs ys : List A) → take (length xs) (xs ++ ys) ≡ xs
take_exact [] ys = refl
take_exact (x ∷ xs) ys = ap (λ l. x ∷ l) (take_exact xs ys)

take_more_than : {A : Type 0} (xs : List A) (n : ℕ) → length xs ≤ n → take n xs ≡ xs
take_more_than [] zero h = refl
take_more_than [] (suc n) h = refl
take_more_than (x ∷ xs) zero h = absurd (omega arith)
take_more_than (x ∷ xs) (suc n) h = ap (λ l. x ∷ l) (take_more_than xs n (omega arith))

length_push : {A : Type 0} (xs : List A) (x : A) → length (xs ++ x ∷ []) ≡ length xs + 1
length_push [] x = omega arith
length_push (y ∷ xs) x = let r = length_push xs x in omega arith

module _ {E : Type 0} (S : SpaceOver E) (cap : ℕ) where
  abbrev V : Type 0
  V = Vect S.field

  -- one walk after another
  pub passes_append : (T cs U ds W : List (Vect S.field)) → Passes S cap T cs U → Passes S cap U ds W → Passes S cap T (cs ++ ds) W
  passes_append T [] U ds W h g = subst (λ l. Passes S cap l ds W) h g
  passes_append T (c ∷ cs) U ds W (n, inl p) g = (n, inl (p.0, p.1, p.2, passes_append (T ++ c ∷ []) cs U ds W p.3 g))
  passes_append T (c ∷ cs) U ds W (n, inr p) g = (n, inr (p.0, passes_append T cs U ds W p.1 g))

  reaches_after : (T cs U ds es W : List (Vect S.field)) (c : Vect S.field) → Passes S cap T cs U → Reaches S cap U ds W c → Reaches S cap T (cs ++ ds ++ es) W c
  reaches_after T cs U ds es W c h r = record {
    front = cs ++ r.front;
    back = r.back ++ es;
    place = append_assoc cs r.front (c ∷ (r.back ++ es)) ∙ ap (λ l. cs ++ l) (sym (append_assoc r.front (c ∷ r.back) es) ∙ ap (λ l. l ++ es) r.place) ∙ sym (append_assoc cs ds es);
    walked = passes_append T cs U r.front W h r.walked;
  }

  last_after : (T cs U ds es W : List (Vect S.field)) → Passes S cap T cs U → IsLast S cap U ds W → IsLast S cap T (cs ++ ds ++ es) W
  last_after T cs U ds es W h l = record { taken = l.taken; candidate = l.candidate; reaches = reaches_after T cs U ds es l.taken l.candidate h l.reaches; takes = l.takes; ideal = l.ideal; whole = l.whole; ended = l.ended }

  stop_after : (T cs U ds es : List (Vect S.field)) (b : BasisBound E) → Passes S cap T cs U → IsStop S cap U ds b → IsStop S cap T (cs ++ ds ++ es) b
  stop_after T cs U ds es b h s = record { taken = s.taken; candidate = s.candidate; reaches = reaches_after T cs U ds es s.taken s.candidate h s.reaches; bound = s.bound }

  -- the walk has passed the first i of all candidates, and rest are still to come
  pub record Along (all T U rest : List (Vect S.field)) (i : ℕ) : Type 0 where
    pub seen : List (Vect S.field)
    pub whole : seen ++ rest ≡ all
    pub count : length seen ≡ i
    pub passed : Passes S cap T seen U

  pub along_start : (all T rest : List (Vect S.field)) → rest ≡ all → Along all T T rest 0
  along_start all T rest e = record { seen = []; whole = e; count = refl; passed = refl }

  module _ (all T U old rest : List (Vect S.field)) (c : Vect S.field) (i : ℕ) (a : Along all T U old i) (next : old ≡ c ∷ rest) where
    pub along_more : (W : List (Vect S.field)) → Passes S cap U (c ∷ []) W → Along all T W rest (i + 1)
    along_more W p = record {
      seen = a.seen ++ c ∷ [];
      whole = append_assoc a.seen (c ∷ []) rest ∙ ap (λ l. a.seen ++ l) (sym next) ∙ a.whole;
      count = length_push a.seen c ∙ ap (λ n. n + 1) a.count;
      passed = passes_append T a.seen U (c ∷ []) W a.passed p;
    }

    cut : (n : ℕ) → i < n → a.seen ++ (c ∷ []) ++ take (n - suc (length a.seen)) rest ≡ take n all
    cut n h = append_assoc a.seen (c ∷ []) _ ∙ sym (ap (take n) (sym a.whole ∙ ap (λ l. a.seen ++ l) next) ∙ take_front a.seen c rest n (n - suc (length a.seen)) (let e = a.count in omega arith))

    pub along_last : (n : ℕ) (W : List (Vect S.field)) → i < n → IsLast S cap U (c ∷ []) W → IsLast S cap T (take n all) W
    along_last n W h l = subst (λ x. IsLast S cap T x W) (cut n h) (last_after T a.seen U (c ∷ []) (take (n - suc (length a.seen)) rest) W a.passed l)

    pub along_stop : (n : ℕ) (b : BasisBound E) → i < n → IsStop S cap U (c ∷ []) b → IsStop S cap T (take n all) b
    along_stop n b h s = subst (λ x. IsStop S cap T x b) (cut n h) (stop_after T a.seen U (c ∷ []) (take (n - suc (length a.seen)) rest) b a.passed s)

  -- where nothing is to come, or so many have come as are allowed
  pub along_none : (all T U rest : List (Vect S.field)) (i n : ℕ) → Along all T U rest i → rest ≡ [] → i ≤ n → Passes S cap T (take n all) U
  along_none all T U rest i n a none h =
      let e : a.seen ≡ all = sym (append-nil a.seen) ∙ ap (λ l. a.seen ++ l) (sym none) ∙ a.whole in
      subst (λ l. Passes S cap T l U) (e ∙ sym (take_more_than all n (let c = a.count in let d = ap length e in omega arith))) a.passed

  pub along_all : (all T U rest : List (Vect S.field)) (i n : ℕ) → Along all T U rest i → i ≡ n → Passes S cap T (take n all) U
  along_all all T U rest i n a e =
      subst (λ l. Passes S cap T l U) (sym (ap₂' (a.count ∙ e) a.whole ∙ take_exact a.seen rest)) a.passed
    where
      ap₂' : length a.seen ≡ n → a.seen ++ rest ≡ all → take n all ≡ take (length a.seen) (a.seen ++ rest)
      ap₂' x y = ap (λ k. take k all) (sym x) ∙ ap (take (length a.seen)) (sym y)

-- what is known of the member of an option that is there
pub some_is : {A : Type 0} (P : A → Type 0) (o : Option A) (a : A) → o ≡ Some a → IfSome o P → P a
some_is P o a e h = subst (λ x. IfSome x P) e h

pub none_is : {A : Type 0} (P : Type 0) (o : Option A) → o ≡ None → IfNone o P → P
none_is P o e h = subst (λ x. IfNone x P) e h
