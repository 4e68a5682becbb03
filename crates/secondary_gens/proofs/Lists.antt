-- Lists of vectors and of degrees with members at their end; combinations over longer lists.
use Rattle.std.proofs.Common.{◌≡◌, inl, inr, ℕ, zero, suc, ◌+◌, ◌*◌, ◌<◌, ◌≤◌, List, [], ◌∷◌, ◌++◌, length, take, drop, sym, ap, ◌∙◌, refl, subst, arith}
use Rattle.std.proofs.lemmas.List.{length-append}
use Rattle.alg_core.specs.Fields.{FieldOn}
use Rattle.alg_core.specs.Lists.{In}
use Rattle.alg_core.specs.Monomials.{Mon, monomials, mono, Divides, mon_ext, exponent, exponent_one, exponent_mul, exponent_mono}
use Rattle.alg_core.specs.SpaceGrading.{AllPositive, weight, height}
use Rattle.alg_core.specs.Vectors.{Vect}
use Rattle.poly_module.specs.Combinations.{Over}
use Rattle.poly_module.specs.MonomialVariables.{variable, after_zeros}
use Rattle.poly_module.specs.Forms.{IsForm, AreForms}
use Rattle.poly_module.specs.Modules.{listed}
use Rattle.poly_module.proofs.CombinationLaws.{over_member, over_within}

module _ {E : Type 0} (k : FieldOn E) where
  -- the members of a longer list
  pub listed_front : (T U : List (Vect k)) (j : ℕ) → j < length T → listed k (T ++ U) j ≡ listed k T j
  listed_front [] U j h = absurd (omega arith)
  listed_front (t ∷ T) U zero h = refl
  listed_front (t ∷ T) U (suc j) h = listed_front T U j (omega arith)

  pub listed_last : (T : List (Vect k)) (b : Vect k) → listed k (T ++ b ∷ []) (length T) ≡ b
  listed_last [] b = refl
  listed_last (t ∷ T) b = listed_last T b

  -- the place of a member
  pub listed_in : (T : List (Vect k)) (j : ℕ) → j < length T → In (listed k T j) T
  listed_in [] j h = absurd (omega arith)
  listed_in (t ∷ T) zero h = inl refl
  listed_in (t ∷ T) (suc j) h = inr (listed_in T j (omega arith))

  pub place_of_in : (T : List (Vect k)) (v : Vect k) → In v T → (j : ℕ) × (j < length T) × (listed k T j ≡ v)
  place_of_in [] v i = absurd i
  place_of_in (t ∷ T) v (inl e) = (0, omega arith, e)
  place_of_in (t ∷ T) v (inr i) = let p = place_of_in T v i in (suc p.0, let q = p.1 in omega arith, p.2)

  -- more members keep what is a combination
  pub over_more : (θ T U : List (Vect k)) (f : Vect k) → Over k θ T f → Over k θ (T ++ U) f
  over_more θ T U f = over_within k θ T (T ++ U) (λ j h. subst (Over k θ (T ++ U)) (listed_front T U j h) (over_member k θ (T ++ U) j (let l = length-append T U in omega arith))) f

  pub over_in : (θ T : List (Vect k)) (v : Vect k) → In v T → Over k θ T v
  over_in θ T v i = let p = place_of_in T v i in subst (Over k θ T) p.2 (over_member k θ T p.0 p.1)

  -- forms and one form more
  pub forms_push : (ws es : List ℕ) (T : List (Vect k)) (d : ℕ) (b : Vect k) → AreForms k ws es T → IsForm k ws d b → AreForms k ws (es ++ d ∷ []) (T ++ b ∷ [])
  forms_push ws [] [] d b h f = (f, tt)
  forms_push ws [] (t ∷ T) d b h f = absurd h
  forms_push ws (e ∷ es) [] d b h f = absurd h
  forms_push ws (e ∷ es) (t ∷ T) d b h f = (h.0, forms_push ws es T d b h.1 f)

  -- the list at one of its members
  pub split_at : (T : List (Vect k)) (j : ℕ) → j < length T → T ≡ take j T ++ listed k T j ∷ drop (suc j) T
  split_at [] j l = absurd (omega arith)
  split_at (t ∷ T) zero l = refl
  split_at (t ∷ T) (suc j) l = ap (λ m. t ∷ m) (split_at T j (omega arith))

  -- forms without one of them
  pub forms_remove : (ws es : List ℕ) (T : List (Vect k)) (j : ℕ) → AreForms k ws es T → AreForms k ws (take j es ++ drop (suc j) es) (take j T ++ drop (suc j) T)
  forms_remove ws [] [] zero h = tt
  forms_remove ws [] [] (suc j) h = tt
  forms_remove ws [] (t ∷ T) j h = absurd h
  forms_remove ws (d ∷ ds) [] j h = absurd h
  forms_remove ws (d ∷ ds) (t ∷ T) zero h = h.1
  forms_remove ws (d ∷ ds) (t ∷ T) (suc j) h = (h.0, forms_remove ws ds T j h.1)

  pub forms_length : (ws es : List ℕ) (T : List (Vect k)) → AreForms k ws es T → length es ≡ length T
  forms_length ws [] [] h = refl
  forms_length ws [] (t ∷ T) h = absurd h
  forms_length ws (e ∷ es) [] h = absurd h
  forms_length ws (e ∷ es) (t ∷ T) h = ap suc (forms_length ws es T h.1)

  pub forms_at : (ws es : List ℕ) (T : List (Vect k)) → AreForms k ws es T → (j : ℕ) → j < length T → IsForm k ws (height es j) (listed k T j)
  unfolding height
  forms_at ws [] [] h j l = absurd (omega arith)
  forms_at ws [] (t ∷ T) h j l = absurd h
  forms_at ws (e ∷ es) [] h j l = absurd h
  forms_at ws (e ∷ es) (t ∷ T) h zero l = h.0
  forms_at ws (e ∷ es) (t ∷ T) h (suc j) l = forms_at ws es T h.1 j (omega arith)

-- the degree of a position of a longer list
pub height_front : (es fs : List ℕ) (q : ℕ) → q < length es → height (es ++ fs) q ≡ height es q
unfolding height
height_front [] fs q h = absurd (omega arith)
height_front (e ∷ es) fs zero h = refl
height_front (e ∷ es) fs (suc q) h = height_front es fs q (omega arith)

pub height_last : (es : List ℕ) (d : ℕ) → height (es ++ d ∷ []) (length es) ≡ d
unfolding height
height_last [] d = refl
height_last (e ∷ es) d = height_last es d

-- with positive weights only the monomial 1 has the weight 0
product_zero : (w y r : ℕ) → 0 < w → w * y + r ≡ 0 → y ≡ 0
product_zero w zero r p e = refl
product_zero zero (suc y) r p e = absurd (omega arith)
product_zero (suc w) (suc y) r p e = absurd (omega arith)

weight_zero : (ws : List ℕ) (i : ℕ) (a : List ℕ) → AllPositive ws → weight ws i a ≡ 0 → (j : ℕ) → exponent a j ≡ 0
unfolding weight
weight_zero ws i [] p e j = refl
weight_zero [] i (x ∷ a) p e zero = product_zero (suc i) x (weight [] (suc i) a) (omega arith) e
weight_zero [] i (x ∷ a) p e (suc j) = weight_zero [] (suc i) a tt (omega arith) j
weight_zero (w ∷ ws) i (x ∷ a) p e zero = product_zero w x (weight ws (suc i) a) p.0 e
weight_zero (w ∷ ws) i (x ∷ a) p e (suc j) = weight_zero ws (suc i) a p.1 (omega arith) j

pub weight_zero_is_one : (ws : List ℕ) (m : Mon) → AllPositive ws → weight ws 0 m.0 ≡ 0 → m ≡ monomials.one
weight_zero_is_one ws m p e = mon_ext m monomials.one (λ j. weight_zero ws 0 m.0 p e j ∙ sym (exponent_one j))

pub weight_one : (ws : List ℕ) → weight ws 0 monomials.one.0 ≡ 0
unfolding monomials weight
weight_one ws = refl

-- a monomial of another weight has a variable
pub some_variable : (ws : List ℕ) (i : ℕ) (a : List ℕ) → 0 < weight ws i a → (j : ℕ) × (j < length a) × (0 < exponent a j)
unfolding weight
some_variable ws i [] h = absurd (omega arith)
some_variable ws i (suc x ∷ a) h = (0, omega arith, omega arith)
some_variable [] i (zero ∷ a) h = let r = some_variable [] (suc i) a (omega arith) in (suc r.0, let l = r.1 in omega arith, r.2)
some_variable (w ∷ ws) i (zero ∷ a) h = let r = some_variable ws (suc i) a (omega arith) in (suc r.0, let l = r.1 in omega arith, r.2)

-- a monomial without one of its variables
less_one : List ℕ → ℕ → List ℕ
less_one [] i = []
less_one (zero ∷ a) zero = zero ∷ a
less_one (suc x ∷ a) zero = x ∷ a
less_one (x ∷ a) (suc i) = x ∷ less_one a i

exponent_less : (a : List ℕ) (i : ℕ) → 0 < exponent a i → (j : ℕ) → exponent (after_zeros i (1 ∷ [])) j + exponent (less_one a i) j ≡ exponent a j
unfolding after_zeros less_one
exponent_less [] i h j = absurd (omega arith)
exponent_less (zero ∷ a) zero h j = absurd (omega arith)
exponent_less (suc x ∷ a) zero h zero = omega arith
exponent_less (suc x ∷ a) zero h (suc j) = omega arith
exponent_less (x ∷ a) (suc i) h zero = omega arith
exponent_less (x ∷ a) (suc i) h (suc j) = exponent_less a i h j

pub divides_variable : (m : Mon) (i : ℕ) → 0 < exponent m.0 i → Divides (variable i) m
unfolding variable
divides_variable m i h = (
  mono (less_one m.0 i),
  mon_ext _ m (λ j.
      let p = exponent_mul (mono (after_zeros i (1 ∷ []))) (mono (less_one m.0 i)) j in
      let q = exponent_mono (after_zeros i (1 ∷ [])) j in
      let r = exponent_mono (less_one m.0 i) j in
      let s = exponent_less m.0 i h j in
      omega arith),
)

-- the heights of the last members
pub height_drop : (es : List ℕ) (n j : ℕ) → n ≤ length es → height (drop n es) j ≡ height es (n + j)
unfolding height
height_drop es zero j l = let q : j ≡ 0 + j = omega arith in ap (height es) q
height_drop [] (suc n) j l = absurd (omega arith)
height_drop (e ∷ es) (suc n) j l = height_drop es n j (omega arith) ∙ sym (let q : suc n + j ≡ suc (n + j) = omega arith in ap (height (e ∷ es)) q)
